pub mod Exported
pub mod ShapeLemmas
pub mod SetupLemmas
pub mod FileLemmas
