pub mod Decimals
pub mod Cutting
pub mod Characters
pub mod Printing
pub mod Paths
pub mod Contents
pub mod Columns
pub mod Solid
pub mod Cuts
pub mod Order
pub mod Facts
pub mod MappedLaws
pub mod EmptyLaws
mod Lines
mod Wholes
pub mod Stages
pub mod AttrTexts
pub mod LetterTexts
pub mod Once
pub mod OnceAcl
pub mod AclLetters
pub mod OnceLine
pub mod ImageLaws
