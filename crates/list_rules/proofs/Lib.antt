pub mod Computed
pub mod LimitLaws
pub mod SoundLaws
