pub mod SearchSteps
pub mod HistogramLaws
pub mod BucketSteps
pub mod BoundLaws
pub mod BreakSteps
pub mod UnfitLaws
pub mod StartLaws
