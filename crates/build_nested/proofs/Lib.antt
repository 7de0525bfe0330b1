pub mod NestLaws
pub mod AnswerLaws
pub mod BadLaws
