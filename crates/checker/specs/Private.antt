pub mod Searching
pub mod Breaking
