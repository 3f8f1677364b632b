pub mod Covering
pub mod Ended
pub mod Sentences
