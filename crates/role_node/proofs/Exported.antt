-- What layers above may cite of the proofs. Declares nothing.
--     one_answer, one_under      a question has one answer, after a history and under relations and sessions
--     issued-Issue, packets-Take ..      the parts of a history, as one more event comes
--     stream_other, stream_same      the streams, as one more packet is taken
--     step_is_own      what a packet causes is for its own command
--     legal, relations_are      what entries and a node's state say of its history
--     at_push, events-push, entries_push ..      entries, as one more is recorded
--     recorded_next, along_legal, legal_within ..      what holds of each legal history
--     begun_twice_is_seen      where a history shows that its node was begun twice, and that it stays so
--     begun_never, begun_once, begun_stays, once_is, as_issued_is, is_as_issued-from      .. by the fronts of the history, each way
--     few_at_place      of a legal history few packets are about a place
--     refused_is_due      a refusal is the answer that is due, and want of memory is none
--     those_members, pairs_members ..      the ascending lists of the numbers and of the pairs that pass a test
pub use Rattle.role_node.proofs.ListedLemmas.{one_answer, one_under}
pub use Rattle.role_node.proofs.HistoryLemmas.{issued-Issue, issued-Take, issued-Client, packets-Issue, packets-Take}
pub use Rattle.role_node.proofs.HistoryLemmas.{packets-Client, client_events-Issue, client_events-Take}
pub use Rattle.role_node.proofs.HistoryLemmas.{client_events-Client}
pub use Rattle.role_node.proofs.HistoryLemmas.{issued-none, packets-none, client_events-none, client_events-length}
pub use Rattle.role_node.proofs.StreamLemmas.{stream_other, stream_same, policy_same}
pub use Rattle.role_node.proofs.CauseLemmas.{step_is_own}
pub use Rattle.role_node.proofs.KeptLemmas.{relations_are, legal_inside}
pub use Rattle.role_node.proofs.EntryLemmas.{at_push, events-push, events-length, entries_push, no_entries}
pub use Rattle.role_node.proofs.EntryLemmas.{legal, counted_is_due, counted_is_recorded, counted_with_room}
pub use Rattle.role_node.proofs.LegalLemmas.{recorded_next, along_legal, recorded_with_room, legal_within}
pub use Rattle.role_node.proofs.LegalLemmas.{issued_within}
pub use Rattle.role_node.proofs.BegunLemmas.{begun_twice_is_seen, begun_never, begun_once, begun_stays, once_is}
pub use Rattle.role_node.proofs.BegunLemmas.{as_issued_is, is_as_issued-from}
pub use Rattle.role_node.proofs.WorkLemmas.{few_at_place}
pub use Rattle.role_node.proofs.RefusalLemmas.{refused_is_due}
pub use Rattle.role_node.proofs.AscendingLemmas.{those_members, those_sorted}
pub use Rattle.role_node.proofs.PairLemmas.{pairs_members, permissions_sorted}
