pub mod RefusalLaws
pub mod OpenLaws
pub mod AnswerLaws
