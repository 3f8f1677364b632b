pub mod Folders
pub mod Choices
pub mod Inputs
pub mod Places
