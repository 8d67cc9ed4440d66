pub mod Lines
pub mod Replaying
pub mod Claims
pub mod AddingUp
pub mod Worked
