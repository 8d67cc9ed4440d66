pub mod Computed
pub mod InputLaws
pub mod CutLaws
pub mod TextLaws
pub mod LinesLaws
pub mod SheetLaws
pub mod Proved
