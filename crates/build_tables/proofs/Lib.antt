pub mod TableLaws
pub mod AnswerLaws
