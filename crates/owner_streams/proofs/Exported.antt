-- What layers above may cite of the proofs. Declares nothing.
--     takes_at-append, -own, -other      the messages of an instance, as packets come
--     stream_is_exact_lem ..      the laws of streams
--     echoed-none ..      nothing follows from no messages
--     is_vote, vote_is      what a vote is, and that `vote_place` says so
--     last_vote-stands, -most      the packets of which it is the last vote
pub use Rattle.owner_streams.proofs.Taken.{takes_at-append, takes_at-own, takes_at-other, echoed-none}
pub use Rattle.owner_streams.proofs.Taken.{readied-none, delivered-none}
pub use Rattle.owner_streams.proofs.StreamLaws.{stream_is_exact_lem, stream_is_one_lem, stream_grows_lem}
pub use Rattle.owner_streams.proofs.LastVotes.{is_vote, vote_is, last_vote-stands, last_vote-most}
