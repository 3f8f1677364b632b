pub mod FolderLaws
pub mod ChoiceLaws
pub mod InputLaws
