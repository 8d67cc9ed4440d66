pub mod PrintLaws
pub mod ListLaws
pub mod Proved
