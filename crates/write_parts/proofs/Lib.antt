pub mod KindLaws
pub mod SlotLaws
pub mod PutLaws
pub mod FilterLaws
