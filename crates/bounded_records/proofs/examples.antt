mod UserTexts
mod RecordBytes
mod Names
mod UserFaults
mod DirectoryWalks
