use Rattle.std.proofs.lemmas.Cmp.{nat_cmp_total}
use Rattle.rbac_state.proofs.PairLemmas.{permissions_total}
use Rattle.rbac_state.proofs.OneListing.{one_list}
use Rattle.rbac_state.proofs.laws.one_listing.Goals as goal

pub returns-clause-numbers : goal.returns-clause-numbers
returns-clause-numbers c xs ys rises listing = one_list nat_cmp_total xs ys listing.ascending rises listing.exact

pub returns-clause-permissions : goal.returns-clause-permissions
returns-clause-permissions c xs ys rises listing =
    one_list permissions_total xs ys listing.ascending rises listing.exact
