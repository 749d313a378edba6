pub mod UserTexts
pub mod Users
pub mod RecordBytes
pub mod Records
pub mod Names
pub mod UserFaults
pub mod DirectoryWalks
pub mod Walks
