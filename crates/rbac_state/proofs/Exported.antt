-- What layers above may cite of the proofs. Declares nothing.
--     blank_is_of_no_commands ..      a policy and the streams of which it is
--     one_list, listing_of      ascending lists with the same members are one; a listing of a set said in other words
--     contains_head, in_filter ..      the members of lists, and of what is picked from a list
--     permissions_total      the order of permissions
pub use Rattle.rbac_state.proofs.PolicyLaws.{blank_is_of_no_commands, applied_is_of_one_more}
pub use Rattle.rbac_state.proofs.PolicyLaws.{same_is_of_the_same}
pub use Rattle.rbac_state.proofs.OneListing.{one_list}
pub use Rattle.rbac_state.proofs.ListingLemmas.{listing_of}
pub use Rattle.sorted_pairs.proofs.Members.{contains_head, contains_cases, contains_none, in_filter}
pub use Rattle.sorted_pairs.proofs.Members.{into_filter, filter_none}
pub use Rattle.rbac_state.proofs.PairLemmas.{permissions_total}
