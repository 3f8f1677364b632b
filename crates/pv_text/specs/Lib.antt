pub mod Facts
pub mod Escapes
pub mod Specifiers
pub mod Fields
pub mod Lines
pub mod GivenMessages
pub mod FaultNames
