pub mod HashLaws
