pub mod JsonLemmas
pub mod LineLemmas
pub mod ObjectReading
pub mod Joins
pub mod BlankLemmas
pub mod PlainLineLemmas
pub mod ItemLemmas
pub mod Exported
