pub mod AskLaws
pub mod WalkLaws
pub mod SheetLaws
pub mod LentLaws
