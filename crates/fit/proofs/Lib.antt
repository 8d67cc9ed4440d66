pub mod Computed
pub mod FitLaws
pub mod FaultLaws
pub mod AcceptedLaws
pub mod ZeroLaws
pub mod Proved
