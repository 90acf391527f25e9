-- What layers above may cite of the proofs. Declares nothing.
--     quorums_share      two sets of nodes that are each a quorum of echoes share more nodes than may lie
--     one_is_correct      among more nodes than may lie one does not
--     correct_are_enough      the nodes that do not lie are each quorum
--     len_below      a set of numbers below n has n at most
--     count, len-count, count-most      a set of numbers below n has as many as are counted up to n, at most n
--     same_names      sets of names are equal where they contain the same
--     contains-..      what a set contains after a change, with `==` of numbers
pub use Rattle.quorum_sizes.proofs.NodeCounts.{quorums_share, one_is_correct, len_below, count, len-count}
pub use Rattle.quorum_sizes.proofs.NodeCounts.{count-most, same_names, contains-insert, contains-nodes_among}
pub use Rattle.quorum_sizes.proofs.SizeLaws.{correct_are_enough}
