pub mod Names
pub mod Fields
pub mod RequestLines
pub mod MeasureLines
pub mod AnswerLines
pub mod Walking
pub mod Held
