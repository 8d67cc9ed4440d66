mod LayLaws
mod FillLaws
pub mod EarlyLaws
