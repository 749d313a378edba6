use Rattle.arraystring_core.proofs.array_string.ArrayString.drain.Goals as goal

pub returns : goal.returns
returns g c =
    let edit = c.drain_counted.ensures.edit in
    record { start = edit.start; end = edit.end; returned = edit.returned; holds = edit.holds.0 }
