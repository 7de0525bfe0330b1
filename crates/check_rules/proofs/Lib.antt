pub mod BitsLaws
pub mod KeyText
pub mod RuleLaws
pub mod KeepLaws
pub mod ChildLaws
pub mod SurveyLaws
