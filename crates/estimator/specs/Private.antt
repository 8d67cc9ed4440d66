pub mod Adding
pub mod Sheets
