-- What layers above may cite of the proofs. Declares nothing.
--     state-..      each field of a state, by its definition
--     or_else_if-never      what is never due is not kept
--     voted_at      what a state says of a vote is what the messages say
--     idle_state      a message that was taken before leaves the state
--     newly_now, newly_again, newly_same, IsThis      what is new
--     or_nothing      what there is, or nothing
--     delivered_is_ready      a node that delivered is ready
--     vote_push ..      first votes, and what was echoed, as one more message comes
--     contains-..      the voters and the supporters, by the votes
--     readies_its_own ..      the laws
pub use Rattle.bracha_instance.proofs.StateOf.{state-echoed, state-readied, state-delivered, state-echoers}
pub use Rattle.bracha_instance.proofs.StateOf.{state-readiers, voted, or_else_if-never}
pub use Rattle.bracha_instance.proofs.Counting.{voted_at, idle_state, newly_now, newly_again, newly_same}
pub use Rattle.bracha_instance.proofs.Causing.{IsThis}
pub use Rattle.bracha_instance.proofs.Due.{delivered_is_ready, readies_its_own, delivers_its_own, echo_stays}
pub use Rattle.bracha_instance.proofs.Due.{ready_stays, delivery_stays, ready_was_first, delivery_was_first}
pub use Rattle.bracha_instance.proofs.Due.{ready_comes, delivery_comes, not_ready, may_ready-alike}
pub use Rattle.bracha_instance.proofs.Voting.{vote_push, vote_push-other, echoed_push, contains-voters}
pub use Rattle.bracha_instance.proofs.Voting.{contains-supporters, supporters_alike, or_nothing}
pub use Rattle.bracha_instance.proofs.Same.{same_command-true, same_command-refl, same_kind-true}
pub use Rattle.bracha_instance.proofs.Same.{same_kind-refl}
