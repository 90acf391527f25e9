-- What serves the code and no public contract.
pub mod Says
pub mod PlainLines
pub mod Items
