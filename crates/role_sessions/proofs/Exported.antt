-- What layers above may cite of the proofs. Declares nothing.
--     allowed_in_a_role ..      the laws of the decision
--     relations_stay      room that is made in a policy changes no relation
--     get-state_of, state_counts_the_opened ..      the state of a list of events, and the laws of the ids
--     open_are_few      how many sessions are open
--     opened_count-push, session_in-opened ..      what a list of events says, as one more event comes
pub use Rattle.role_sessions.proofs.DecisionLaws.{allowed_in_a_role, denied_for_want_of_a_role, counted_are_assigned}
pub use Rattle.role_sessions.proofs.DecisionLaws.{deassigned_counts_no_more, reassigned_counts_again, relations_stay}
pub use Rattle.role_sessions.proofs.IdLaws.{state_counts_the_opened, ids_are_given_in_order, closed_stay_closed}
pub use Rattle.role_sessions.proofs.IdLaws.{open_are_few}
pub use Rattle.role_sessions.proofs.StateLemmas.{get-state_of, opened-state_of, state_of-none, state_of-opened}
pub use Rattle.role_sessions.proofs.StateLemmas.{state_of-activated, state_of-dropped, state_of-closed}
pub use Rattle.role_sessions.proofs.EventLemmas.{opened_count-push, session_in-opened}
pub use Rattle.role_sessions.proofs.EventLemmas.{session_in-closed, session_in-activated}
pub use Rattle.role_sessions.proofs.EventLemmas.{session_in-dropped, session_in-beyond, session_in-zero}
