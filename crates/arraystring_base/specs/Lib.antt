pub mod Text
pub mod Utf16
pub mod Reading
pub mod Counts
pub mod Names
pub mod GhostProofs
