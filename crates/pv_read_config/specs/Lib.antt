pub mod Configuration
pub mod Adding
pub mod Known
pub mod Inputs
pub mod Requested
