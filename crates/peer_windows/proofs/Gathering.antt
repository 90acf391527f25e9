-- Shares that were gathered, one after another.
use Rattle.std.proofs.Common.{◌≡◌, ℕ, [], ◌∷◌, ◌++◌, sym, ap, ◌∙◌, append-nil, append_assoc, subst}
use Rattle.std.specs.Prelude.{length}
use Rattle.std.specs.List.{flat_map}
use Rattle.std.proofs.lemmas.Grind.{flat_map-append}
use Rattle.std.proofs.lemmas.List.Elements.{All-nil, All-cons, All-append}
use Rattle.node_lock.specs.Holds.{Held}
use Rattle.peer_windows.specs.Owed.{OwedValue, IsGathered, IsPushed, share_messages, step_messages}
use Rattle.peer_windows.specs.declared.owed.Share.{Share}
use Rattle.peer_windows.specs.declared.seen.Step.{Step}

-- none
pub gathered_none : (h : Held) (owed : OwedValue) → IsGathered h owed owed
gathered_none h owed = record {
  added = [];
  shares = sym (append-nil owed.shares);
  messages = sym (append-nil owed.messages);
  counts = All-nil (λ share. share.count ≡ length (share_messages h share));
}

-- some, and then more
pub gathered_more : (h : Held) (a b c : OwedValue) → IsGathered h a b → IsGathered h b c → IsGathered h a c
gathered_more h a b c first next = record {
  added = first.added ++ next.added;
  shares = next.shares ∙ ap (λ xs. xs ++ next.added) first.shares ∙ append_assoc a.shares first.added next.added;
  messages = next.messages
      ∙ ap (λ xs. xs ++ flat_map (share_messages h) next.added) first.messages
      ∙ append_assoc a.messages (flat_map (share_messages h) first.added) (flat_map (share_messages h) next.added)
      ∙ ap (λ xs. a.messages ++ xs) (sym (flat_map-append (share_messages h) first.added next.added));
  counts = All-append (λ share. share.count ≡ length (share_messages h share)) first.added next.added first.counts
      next.counts;
}

-- the same, where what is behind the lock is known to be that
pub gathered_on : (h now : Held) (a b c : OwedValue) → now ≡ h → IsGathered h a b → IsGathered now b c →
    IsGathered h a c
gathered_on h now a b c same first next = gathered_more h a b c first (subst (λ x. IsGathered x b c) same next)

-- one
pub pushed_gathered : (h : Held) (owner peer : ℕ) (step : Step) (count : ℕ) (old new : OwedValue) →
    IsPushed h owner peer step count old new → IsGathered h old new
pushed_gathered h owner peer step count old new pushed =
    let share : Share = record { owner = owner; peer = peer; step = step; count = count } in
    record {
      added = share ∷ [];
      shares = pushed.shares;
      messages = pushed.messages
          ∙ ap (λ xs. old.messages ++ xs) (sym (append-nil (step_messages h owner peer step)));
      counts = All-cons (λ s. s.count ≡ length (share_messages h s)) share [] pushed.counted
          (All-nil (λ s. s.count ≡ length (share_messages h s)));
    }

pub ruleset gathered = (gathered_none, gathered_more)

pub ruleset gathered_once = (gathered_none, pushed_gathered)
