-- What layers above may cite of the proofs. Declares nothing.
--     setup_due-long      a text of too many bytes is no JSON
--     text_read, shown_buffer      a buffer into whose front a text was read
pub use Rattle.cluster_text.proofs.FileLemmas.{setup_due-long, text_read, shown_buffer}
