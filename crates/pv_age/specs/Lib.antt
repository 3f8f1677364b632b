pub mod Stamps
pub mod Sums
pub mod Ages
pub mod Printing
