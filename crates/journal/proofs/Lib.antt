pub mod FaultLaws
pub mod CountLaws
pub mod LineLaws
pub mod LoopLaws
pub mod ListLaws
pub mod TestedLaws
