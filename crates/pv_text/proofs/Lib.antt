pub mod Characters
pub mod FactLaws
pub mod EscapeLaws
pub mod SpecifierLaws
pub mod FieldLaws
pub mod MessagesLaws
