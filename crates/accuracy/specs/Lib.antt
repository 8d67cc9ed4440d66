pub mod Claims
pub mod Sharper
pub mod Worked
