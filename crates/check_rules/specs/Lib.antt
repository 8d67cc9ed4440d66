pub mod Reply
pub mod Failing
pub mod Checking
pub mod Claims
pub mod Worked
