mod Text
mod Utf16
mod Reading
mod Counts
mod Names
