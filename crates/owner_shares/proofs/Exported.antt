-- What layers above may cite of the proofs. Declares nothing.
--     shares_are_kept ..      the laws
pub use Rattle.owner_shares.proofs.Bounded.{owner_is_bounded}
pub use Rattle.owner_shares.proofs.Rooms.{never_full}
pub use Rattle.owner_shares.proofs.Short.{shares_hold}
pub use Rattle.owner_shares.proofs.Stays.{shares_are_kept}
