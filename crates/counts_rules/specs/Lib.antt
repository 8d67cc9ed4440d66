pub mod Limit
pub mod Form
pub mod Class
pub mod Total
pub mod Worked
pub mod Claims
pub mod Private
