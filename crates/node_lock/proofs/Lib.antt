pub mod DueOutcomes
pub mod Places
pub mod Keys
pub mod AuditLemmas
pub mod InboxMoves
