pub mod NodeCounts
pub mod NodeMasks
pub mod SizeLaws
pub mod Exported
