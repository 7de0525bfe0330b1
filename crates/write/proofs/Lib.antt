pub mod NumberedLaws
pub mod EmptyLaws
pub mod AnswerLaws
pub mod NumberLaws
pub mod WhenLaws
