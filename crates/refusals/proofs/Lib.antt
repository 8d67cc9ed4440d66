pub mod NumberLaws
pub mod Proved
