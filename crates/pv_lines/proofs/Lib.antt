mod Sizes
mod Rows
mod Fields
mod Octal
mod Texts
mod Letters
mod WordLaws
pub mod ArgumentLaws
