pub mod DigitLaws
pub mod PrintedLaws
pub mod SumLaws
