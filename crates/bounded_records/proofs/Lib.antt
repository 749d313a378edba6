mod RecordLemmas
mod MapLemmas
mod OwnNameLemmas
mod WalkLemmas
mod examples
