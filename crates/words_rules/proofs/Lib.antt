pub mod Computed
pub mod DecodedLaws
pub mod HeadLaws
pub mod StartLaws
pub mod CodeLaws
pub mod ReadingLaws
pub mod EntryLaws
pub mod Proved
