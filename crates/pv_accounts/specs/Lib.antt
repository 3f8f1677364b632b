pub mod Bytes
pub mod Entries
pub mod EntryFields
pub mod Files
pub mod Kinds
pub mod Edits
pub mod InUse
pub mod Among
