pub mod Spelling
pub mod Reading
pub mod Nodes
pub mod Images
pub mod Progress
pub mod Writing
pub mod Emptied
pub mod Written
