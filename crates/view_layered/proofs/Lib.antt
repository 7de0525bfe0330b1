pub mod LayeredLaws
