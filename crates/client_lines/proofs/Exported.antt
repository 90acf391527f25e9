-- What layers above may cite of the proofs. Declares nothing.
--     all_added      items that are written behind a text, with a text between each two
pub use Rattle.client_lines.proofs.Joins.{all_added}
