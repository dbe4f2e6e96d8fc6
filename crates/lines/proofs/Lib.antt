pub mod TestLaws
pub mod NameLaws
pub mod FieldLaws
pub mod LineLaws
pub mod AnswerLaws
pub mod KeptLaws
pub mod HeldLaws
pub mod Examples
