-- This module exports the definitions of `arraystring_core.specs.FromUtf16`. Old names stand after `as`, until the next release.
pub use Rattle.arraystring_core.specs.FromUtf16.{GivesWholeOrError, GivesWholeOrError as GivesWhole, GivesPrefixOrFault, GivesPrefixOrFault as GivesPrefix, stop_before_item, stop_before_item as stop_by_next, stop_before_item as stop_at}
