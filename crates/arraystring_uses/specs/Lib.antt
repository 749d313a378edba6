pub mod Lines
pub mod Quotes
