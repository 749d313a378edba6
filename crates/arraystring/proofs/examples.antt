mod InnerResult
mod Fields
mod Memory
