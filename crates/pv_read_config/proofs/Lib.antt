pub mod ReadingLaws
pub mod CuttingLaws
pub mod KnownLaws
pub mod InputLaws
pub mod RequestedLaws
pub mod WholeLaws
pub mod AllowedLaws
