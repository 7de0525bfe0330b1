pub mod StateLaws
pub mod SiblingLaws
pub mod SlotLaws
pub mod RosterLaws
pub mod TurnLaws
pub mod ItemLaws
pub mod PlanLaws
