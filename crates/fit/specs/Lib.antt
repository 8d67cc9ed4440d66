pub mod Fit
pub mod Accepted
pub mod Claims
pub mod Worked
