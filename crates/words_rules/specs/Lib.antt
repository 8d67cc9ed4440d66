pub mod Limits
pub mod Words
pub mod Decoded
pub mod Reading
pub mod Finding
pub mod Worked
pub mod Claims
