pub mod Limits
pub mod Frequencies
pub mod Quality
pub mod Worked
pub mod Private
