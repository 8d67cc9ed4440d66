pub mod Width
pub mod Bucket
pub mod Words
pub mod Building
pub mod Claims
pub mod Worked
