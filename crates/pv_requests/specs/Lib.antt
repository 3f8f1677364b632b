pub mod Faults
pub mod FieldTexts
pub mod Names
pub mod Numbers
pub mod Paths
pub mod Requests
pub mod Same
pub mod Allowed
