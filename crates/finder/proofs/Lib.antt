pub mod HalvingSteps
pub mod PlaceLaws
