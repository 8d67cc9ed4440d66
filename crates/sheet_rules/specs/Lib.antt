pub mod Text
pub mod Limits
pub mod Input
pub mod Lines
pub mod Sheet
pub mod Claims
pub mod Worked
pub mod Private
