pub mod HeightLaws
pub mod RangeLaws
pub mod SeenLaws
pub mod LongestLaws
pub mod TriedLaws
pub mod BoundLaws
pub mod GrowLaws
