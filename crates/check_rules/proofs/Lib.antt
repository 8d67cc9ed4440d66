pub mod Computed
pub mod FirstLaws
pub mod RangeLaws
pub mod CheckLaws
pub mod Proved
