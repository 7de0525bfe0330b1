pub mod TallyLaws
pub mod KeyLaws
