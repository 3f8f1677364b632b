pub mod Cleaning
pub mod Judging
pub mod Sentences
