-- What layers above may cite of the proofs. Declares nothing.
--     sent_is_pooled, pooled_is_sent      the pool of a cluster run is what its correct nodes have sent
--     has_sent_is, is_has_sent, has_sent_stays      a message was sent where its command was, and stays so
--     history_of-..      a node's history in a run that is put together
--     fronts_are_runs, front_of_history      the first events of a run are one, and of a history its history there
--     empty_run, cluster_run_push, after_step_runs, after_steps_runs      a world's run is a cluster run, and stays one
--     pool-length      how many packets the messages of a run are
--     consistency, integrity, same_policy, at_rest      the laws of every run, or of one at rest
--     quiet_is_complete, each_owner_goes_on, wanted_is_recorded      how each owner's stream goes on
--     history_is_bounded, work_is_bounded      how much can be recorded
--     vote_shows_reach, windows_suffice, complete_or_lacked, windows_heal      how windows heal a cluster
--     given_out_is_at_rest, giving_comes_to_rest      the laws of runs that go on by packets of the pool alone
--     settled_prolongs, settled_is, settled-config      a world that has settled
--     after_gives-none, after_gives-next, after_gives-pool      packets that are given one after another
--     right_decision      the verdict of any relations and any session is right
--     ready_for_one ..      their parts, of a run with what is known of it; `taken_by` is what a node took at a place
pub use Rattle.byz_world.proofs.Pooled.{sent_is_pooled, pooled_is_sent, pool_is_what_was_sent, has_sent_is}
pub use Rattle.byz_world.proofs.Pooled.{is_has_sent, has_sent_stays, recorded_after}
pub use Rattle.byz_world.proofs.Numbering.{pool-length}
pub use Rattle.byz_world.proofs.Pushing.{history_of-append, history_of-none, history_of-own, history_of-other}
pub use Rattle.byz_world.proofs.Pushing.{history_of-push, history_of-push_other, messages-push, messages-none}
pub use Rattle.byz_world.proofs.Growing.{empty_run, cluster_run_push}
pub use Rattle.byz_world.proofs.Fronts.{fronts_are_runs, front_of_history}
pub use Rattle.byz_world.proofs.Stepping.{after_step_runs, after_steps_runs, may_arrive, refused_after}
pub use Rattle.byz_world.proofs.Headline.{right_decision}
pub use Rattle.byz_world.proofs.Safety.{consistency, integrity, ready_for_one, deliver_one}
pub use Rattle.byz_world.proofs.Safety.{delivered_was_ready, ready_was_issued, delivered_was_issued, streamed}
pub use Rattle.byz_world.proofs.Policy.{same_policy, same_stream, no_stream}
pub use Rattle.byz_world.proofs.Rest.{ready_by_all, delivered_by_all, issued_reaches_all, at_rest}
pub use Rattle.byz_world.proofs.Quiet.{quiet_is_complete}
pub use Rattle.byz_world.proofs.GoesOn.{each_owner_goes_on}
pub use Rattle.byz_world.proofs.Wanted.{wanted_is_recorded}
pub use Rattle.byz_world.proofs.LongHistories.{history_is_bounded}
pub use Rattle.byz_world.proofs.Prolonging.{work_is_bounded}
pub use Rattle.byz_world.proofs.Voted.{vote_shows_reach}
pub use Rattle.byz_world.proofs.Windows.{windows_suffice}
pub use Rattle.byz_world.proofs.Healing.{complete_or_lacked, windows_heal}
pub use Rattle.byz_world.proofs.GivenOut.{given_out_is_at_rest}
pub use Rattle.byz_world.proofs.Schedules.{giving_comes_to_rest, given_out_or_not}
pub use Rattle.byz_world.proofs.Passes.{settled_prolongs, settled_is, settled-config}
pub use Rattle.byz_world.proofs.BlockWorld.{after_gives-none, after_gives-next, after_gives-pool}
