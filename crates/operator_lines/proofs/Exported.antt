-- What layers above may cite of the proofs. Declares nothing.
--     clients_know_none      an operator's line is none of a client's
pub use Rattle.operator_lines.proofs.LawLemmas.{clients_know_none}
