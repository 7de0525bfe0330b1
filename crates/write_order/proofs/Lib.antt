pub mod KeyLaws
pub mod FallLaws
pub mod ChainLaws
pub mod LinkLaws
pub mod PlaceLaws
pub mod BucketLaws
pub mod ItemLaws
