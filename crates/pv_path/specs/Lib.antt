pub mod Names
pub mod Heads
pub mod Paths
pub mod Printing
pub mod Parsing
pub mod Results
pub mod ShortBytes
pub mod Rare
