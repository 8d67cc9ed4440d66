pub mod Computed
pub mod ClassLaws
pub mod TotalLaws
pub mod BaseLaws
pub mod Proved
