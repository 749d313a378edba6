-- This module exports the definitions of `arraystring_run.specs.ProgramRuns`. Old names stand after `as`, until the next release.
pub use Rattle.arraystring_run.specs.ProgramRuns.{capacity_named, capacity_in_bytes, status_of, usage_line, fault_line, report_of, IsOutcomeIfNamed, exit_status, stderr_text, ProgramRun, ProgramRun as Service, IsServed}
