-- The last votes as they are kept: nothing was taken, one more packet, and what the states say.
use Rattle.std.proofs.Common.{◌≡◌, ◌≢◌, ℕ, ◌+◌, ◌*◌, ◌<◌, ◌≤◌, ⊎_elim, List, [], ◌∷◌, ◌++◌, length, Option}
use Rattle.std.proofs.Common.{Some, None, refl, sym, ap, ◌∙◌, subst, arith}
use Rattle.std.specs.Prelude.{max, slice_index_or, slice_set, replicate}
use Rattle.std.proofs.lemmas.Bool.{cases_eq}
use Rattle.std.proofs.lemmas.List.{length-replicate, length-set, get_or-replicate, get_or-set_same, get_or-set_other}
use Rattle.std.proofs.lemmas.List.Elements.{All-same, All-replicate, All-set, All-get_or}
use Rattle.std.proofs.lemmas.Nat.{mul-add-lt, same_from_place}
use Rattle.std.proofs.lemmas.Option.{slice_get_read, get_or_from_slice_get}
use Rattle.quorum_sizes.specs.Sizes.{Counts}
use Rattle.link_frames.specs.frames.Packets.{PacketValue, place_count}
use Rattle.owner_streams.specs.LastVotes.{vote_place, last_vote}
use Rattle.owner_streams.specs.Values.{StreamsValue, IsStateOf}
use Rattle.owner_streams.specs.inside.VoteEnds.{voted_to, end_at, AreEndsOf}
use Rattle.owner_streams.specs.declared.vote_ends.VoteEnds.{VoteEnds}
use Rattle.owner_streams.proofs.LastVotes.{no_vote, further, last_vote-none, last_vote-push}
use Rattle.owner_streams.proofs.LastVotes.{last_vote-other, last_vote-alike}

-- where nothing was taken all numbers are 0
pub ends_none : (s : Counts) (a : VoteEnds) → a.ends.items ≡ replicate (s.nodes * s.nodes) 0 → AreEndsOf s [] a
ends_none s a e =
    let IsInRange : ℕ → Type 0 = λ end. end ≤ place_count in
    let all = s.nodes * s.nodes in
    record {
      one_each = ap length e ∙ length-replicate all 0;
      each = λ owner voter h k.
          let at = owner * s.nodes + voter in
          ap (λ ends. slice_index_or ends at 0) e
          ∙ get_or-replicate all at 0 0 (mul-add-lt owner s.nodes voter s.nodes h k)
          ∙ ap voted_to (sym (last_vote-none owner voter));
      in_range = All-same IsInRange a.ends.items (replicate all 0) e (All-replicate IsInRange all 0 (omega arith));
    }

voted_to-further : (a b : Option ℕ) → max (voted_to a) (voted_to b) ≡ voted_to (further a b)
voted_to-further None b = omega arith
voted_to-further (Some x) None = omega arith
voted_to-further (Some x) (Some y) = omega arith

-- One more packet, at its number.
module _ (s : Counts) (packets : List PacketValue) (p : PacketValue) (a b : VoteEnds) (at new : ℕ)
    (is : AreEndsOf s packets a) (of_owner : p.owner < s.nodes) (of_voter : p.from < s.nodes)
    (there : at ≡ p.owner * s.nodes + p.from) (put : b.ends.items ≡ slice_set a.ends.items at new)
    (more : new ≡ max (end_at s a p.owner p.from) (voted_to (vote_place p.owner p.from p))) where
  within : at < length a.ends.items
  within = let h = mul-add-lt p.owner s.nodes p.from s.nodes of_owner of_voter in
      let one_each = is.one_each in
      omega arith

  own_end : end_at s b p.owner p.from ≡ voted_to (last_vote p.owner p.from (packets ++ p ∷ []))
  own_end =
      let last = last_vote p.owner p.from packets in
      let vote = vote_place p.owner p.from p in
      ap (λ ends. slice_index_or ends (p.owner * s.nodes + p.from) 0) put
      ∙ ap (λ k. slice_index_or (slice_set a.ends.items at new) k 0) (sym there)
      ∙ get_or-set_same a.ends.items at new 0 within
      ∙ more
      ∙ ap (λ end. max end (voted_to vote)) (is.each p.owner p.from of_owner of_voter)
      ∙ voted_to-further last vote
      ∙ ap voted_to (sym (last_vote-push p.owner p.from packets p))

  other_end : (owner voter : ℕ) → owner < s.nodes → voter < s.nodes → (owner ≡ p.owner → voter ≡ p.from → ⊥)
      → end_at s b owner voter ≡ voted_to (last_vote owner voter (packets ++ p ∷ []))
  other_end owner voter h k apart =
      let elsewhere : owner * s.nodes + voter ≢ at =
      λ e. let same = same_from_place owner voter p.owner p.from s.nodes k of_voter (e ∙ there) in
      apart same.0 same.1 in
      ap (λ ends. slice_index_or ends (owner * s.nodes + voter) 0) put
      ∙ get_or-set_other a.ends.items at (owner * s.nodes + voter) new 0 elsewhere
      ∙ is.each owner voter h k
      ∙ ap voted_to (sym (last_vote-other owner voter packets p (no_vote owner voter p
      (λ place v. apart (sym v.of_owner) (sym v.from_voter)))))

  each_end : (owner voter : ℕ) → owner < s.nodes → voter < s.nodes
      → end_at s b owner voter ≡ voted_to (last_vote owner voter (packets ++ p ∷ []))
  each_end owner voter h k =
      let Ends : ℕ → ℕ → Type 0 = λ o v. end_at s b o v ≡ voted_to (last_vote o v (packets ++ p ∷ [])) in
      ⊎_elim
      (λ (same : owner ≡ p.owner).
      ⊎_elim
      (λ (one : voter ≡ p.from).
      subst (λ o. Ends o voter) (sym same) (subst (λ v. Ends p.owner v) (sym one) own_end))
      (λ (other : voter ≢ p.from). other_end owner voter h k (λ _ one. other one))
      (cases_eq voter p.from))
      (λ (other : owner ≢ p.owner). other_end owner voter h k (λ same _. other same))
      (cases_eq owner p.owner)

  pub ends_push : voted_to (vote_place p.owner p.from p) ≤ place_count → AreEndsOf s (packets ++ p ∷ []) b
  ends_push known =
      let IsInRange : ℕ → Type 0 = λ end. end ≤ place_count in
      let was : end_at s a p.owner p.from ≤ place_count =
      subst (λ k. IsInRange (slice_index_or a.ends.items k 0)) there
      (All-get_or IsInRange a.ends.items at 0 within is.in_range) in
      let now : new ≤ place_count = omega arith in
      record {
        one_each = ap length put ∙ length-set a.ends.items at new ∙ is.one_each;
        each = each_end;
        in_range = All-same IsInRange b.ends.items (slice_set a.ends.items at new) put
            (All-set IsInRange a.ends.items at new now is.in_range);
      }

-- what was read at a number is the number
pub end_read : (s : Counts) (a : VoteEnds) (owner voter at end : ℕ) → at ≡ owner * s.nodes + voter
    → at < length a.ends.items → end ≡ slice_index_or a.ends.items at end → end ≡ end_at s a owner voter
end_read s a owner voter at end there within read =
    sym (get_or_from_slice_get a.ends.items at end 0
    (slice_get_read a.ends.items (length a.ends.items) at end refl within read))
    ∙ ap (λ k. slice_index_or a.ends.items k 0) there

-- streams are those of packets with one last vote
pub one_last_vote : (v : StreamsValue) (owner voter : ℕ) (xs ys : List PacketValue) → IsStateOf v xs → IsStateOf v ys
    → last_vote owner voter xs ≡ last_vote owner voter ys
one_last_vote v owner voter xs ys first second =
    last_vote-alike v.sizes owner voter xs ys
    (λ place. sym (first.at_each_place owner place) ∙ second.at_each_place owner place)
