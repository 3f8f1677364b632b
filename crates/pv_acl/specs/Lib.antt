pub mod Ordered
pub mod NamedEntries
pub mod Parts
pub mod Applying
pub mod Texts
pub mod Numbers
pub mod Entries
pub mod Spelling
