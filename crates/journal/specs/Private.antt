pub mod Testing
pub mod Changing
