-- What layers above may cite of the proofs. Declares nothing.
--     contains_head, in_filter ..      the members of lists, and of what is picked from a list or mapped
--     cmp_is, digits, parts_cmp      two numbers as one have their order
--     pair_tied, turned, among_turned_others      pairs, and pairs turned
--     seconds_ascend, seconds_members      the seconds of one first
--     found_among, found_none      a look-up among the pairs of one first
--     nothing_ascends, no_blocks, less_room, block_ascends      lists in blocks
pub use Rattle.sorted_pairs.proofs.Members.{contains_head, contains_more, contains_cases, contains_none}
pub use Rattle.sorted_pairs.proofs.Members.{in_filter, into_filter, filter_none, mapped_from, mapped_into}
pub use Rattle.sorted_pairs.proofs.Members.{picked_from, picked_into}
pub use Rattle.sorted_pairs.proofs.NumberLemmas.{cmp_is, digits, parts_cmp}
pub use Rattle.sorted_pairs.proofs.PairLemmas.{pair_tied, turned, among_turned_others}
pub use Rattle.sorted_pairs.proofs.PairLemmas.{seconds_ascend, seconds_members}
pub use Rattle.sorted_pairs.proofs.FoundLemmas.{found_among, found_none}
pub use Rattle.sorted_pairs.proofs.SortedLemmas.{nothing_ascends}
pub use Rattle.sorted_pairs.proofs.SplitLemmas.{no_blocks, less_room}
pub use Rattle.sorted_pairs.proofs.PlaceLemmas.{block_ascends}
