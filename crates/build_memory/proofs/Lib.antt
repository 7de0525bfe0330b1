pub mod MemoryLaws
pub mod MeaningLaws
pub mod FindLaws
pub mod ItemLaws
pub mod MadeLaws
pub mod AnswerLaws
