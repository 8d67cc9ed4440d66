pub mod DigitLaws
pub mod HeldLaws
pub mod PatternLaws
