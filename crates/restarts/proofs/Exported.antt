-- What layers above may cite of the proofs. Declares nothing.
--     MayAll, each_may      acts of which each may be done after those before it
pub use Rattle.restarts.proofs.Lives.{MayAll, each_may}
