pub mod LineTurns
pub mod Acts
pub mod Comparing
pub mod Following
