pub mod WalkLaws
pub mod AnswerLaws
pub mod BadLaws
