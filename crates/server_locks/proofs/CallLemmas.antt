-- What comes of a call.
use Rattle.std.proofs.Common.{◌≡◌, subst, ℕ}
use Rattle.node_lock.specs.declared.receipt.Call.{Call}
use Rattle.served_node.specs.declared.ending.Ending.{Ending}
use Rattle.served_node.specs.declared.said.Said.{Said}
use Rattle.server_locks.specs.Calls.{Seated, IsEnded}
use Rattle.server_locks.specs.declared.hold_rules.HoldRules.{HoldRules}
use Rattle.server_locks.specs.declared.votes_ahead.VotesAhead.{VotesAhead}

module _ {U N : Type 0} (said : U → Said) (speaks_of : U → ℕ) (call : Call) (old new : Seated N) (ended : Ending U) where
  -- the same rules, votes and name, as they stand elsewhere
  pub ended_for : (r s : HoldRules) (a b : VotesAhead) (m n : ℕ) → r ≡ s → a ≡ b → m ≡ n →
      IsEnded said speaks_of r a m call old new ended → IsEnded said speaks_of s b n call old new ended
  ended_for r s a b m n same_rules same_votes same_name e =
      subst (λ (x : HoldRules). IsEnded said speaks_of x b n call old new ended) same_rules
      (subst (λ (x : VotesAhead). IsEnded said speaks_of r x n call old new ended) same_votes
      (subst (λ (x : ℕ). IsEnded said speaks_of r a x call old new ended) same_name e))
