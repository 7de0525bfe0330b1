pub mod ChoiceLaws
pub mod BelowLaws
pub mod StoreLaws
pub mod FieldLaws
pub mod AlignLaws
pub mod BitLaws
