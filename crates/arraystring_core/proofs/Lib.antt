pub mod EditLaws
pub mod TakenLaws
pub mod RangeEndLaws
pub mod PartLaws
mod ConstructLaws
mod JsonLaws
mod StoredLaws
mod GapLemmas
mod SpanLemmas
mod AppendLemmas
mod TakenLemmas
mod AsciiLemmas
mod TrimLemmas
mod RetainLemmas
mod EndLemmas
mod CauseLemmas
mod PartLemmas
mod DrainLemmas
mod examples
