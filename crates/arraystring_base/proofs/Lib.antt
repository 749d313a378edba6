pub mod TextLaws
pub mod CutLaws
pub mod BoundaryLaws
pub mod FindLaws
pub mod OrderLaws
pub mod Utf16Laws
pub mod ReadingLaws
mod CutLemmas
mod FirstLemmas
mod LastLemmas
mod MoveLemmas
mod examples
