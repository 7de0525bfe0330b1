pub mod ItemLaws
pub mod TableLaws
pub mod TurnLaws
pub mod MeasureLaws
pub mod ImageLaws
pub mod Worked
