pub mod OfTableLaws
pub mod StateLaws
pub mod BareLaws
pub mod TableLaws
pub mod FillLaws
pub mod RosterLaws
