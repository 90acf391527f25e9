-- A state, one vote later. Serves the law of the state and the code of an instance alike.
use Rattle.std.proofs.Common.{◌≡◌, ℕ, true, is_some, Option, Some, None, refl, sym, ap, ◌∙◌}
use Rattle.std.specs.Option.{option_or}
use Rattle.quorum_sizes.specs.Sizes.{Counts}
use Rattle.role_commands.specs.declared.command.Command.{Command}
use Rattle.bracha_instance.specs.States.{Votes, State, kept}
use Rattle.bracha_instance.specs.declared.tallies.Vote.{Vote}
use Rattle.bracha_instance.specs.inside.Next.{after_send, with_its_vote, after_vote}

-- a state with all votes, without those that are forgotten after a delivery
abbrev pub forgetting : State → State
forgetting a = record a { echo_votes = kept a.delivered a.echo_votes; ready_votes = kept a.delivered a.ready_votes }

-- from `a` to `b`, which have all votes, by the vote for c of a node that had none of its kind
pub record IsVoteStep (s : Counts) (vote : Vote) (p : ℕ) (c : Command) (a b : State) : Type 0 where
  pub echoed : b.echoed ≡ a.echoed
  pub readied_early : a.delivered ≡ None → b.readied ≡ (after_vote s a vote p c None).readied
  pub readied_late : is_some a.delivered ≡ true → b.readied ≡ a.readied
  pub delivered_early : a.delivered ≡ None → b.delivered ≡ (after_vote s a vote p c None).delivered
  pub delivered_late : is_some a.delivered ≡ true → b.delivered ≡ a.delivered
  pub echoers : b.echoers ≡ (with_its_vote a vote p c).echoers
  pub readiers : b.readiers ≡ (with_its_vote a vote p c).readiers
  pub echo_votes : b.echo_votes ≡ (with_its_vote a vote p c).echo_votes
  pub ready_votes : b.ready_votes ≡ (with_its_vote a vote p c).ready_votes

all_kept : (a : State) → a.delivered ≡ None → forgetting a ≡ a
all_kept a none = λ i. record a { echo_votes = kept (none i) a.echo_votes; ready_votes = kept (none i) a.ready_votes }

-- after a delivery nothing is kept of any votes
none_kept : (o now : Option Command) (d : Command) (v w : Votes) → o ≡ Some d → now ≡ o → kept now w ≡ kept o v
none_kept o now d v w is same = ap (λ x. kept x w) (same ∙ is) ∙ sym (ap (λ x. kept x v) is)

vote_early : (s : Counts) (vote : Vote) (p : ℕ) (c : Command) (a b : State) → IsVoteStep s vote p c a b
    → a.delivered ≡ None → forgetting b ≡ after_vote s (forgetting a) vote p c None
vote_early s vote p c a b h none =
    let ready = h.readied_early none in
    let deliver = h.delivered_early none in
    let step : forgetting b ≡ after_vote s a vote p c None = λ i.
    record {
      echoed = h.echoed i;
      readied = ready i;
      delivered = deliver i;
      echoers = h.echoers i;
      readiers = h.readiers i;
      echo_votes = kept (deliver i) (h.echo_votes i);
      ready_votes = kept (deliver i) (h.ready_votes i);
    } in
    step ∙ ap (λ x. after_vote s x vote p c None) (sym (all_kept a none))

vote_late : (s : Counts) (vote : Vote) (p : ℕ) (c d : Command) (a b : State) → IsVoteStep s vote p c a b
    → a.delivered ≡ Some d → forgetting b ≡ after_vote s (forgetting a) vote p c (Some d)
vote_late s vote p c d a b h is =
    let ready = h.readied_late (ap is_some is) in
    let deliver = h.delivered_late (ap is_some is) in
    let echoes = none_kept a.delivered b.delivered d a.echo_votes b.echo_votes is deliver in
    let readies = none_kept a.delivered b.delivered d a.ready_votes b.ready_votes is deliver in
    λ i. record {
      echoed = h.echoed i;
      readied = ready i;
      delivered = deliver i;
      echoers = h.echoers i;
      readiers = h.readiers i;
      echo_votes = echoes i;
      ready_votes = readies i;
    }

-- the state after a first vote
pub vote_step : {s : Counts} {vote : Vote} {p : ℕ} {c : Command} {a b : State} → IsVoteStep s vote p c a b →
    forgetting b ≡ after_vote s (forgetting a) vote p c a.delivered
vote_step {s = s} {vote = vote} {p = p} {c = c} {a = a} {b = b} h =
    elim (a.delivered) as (λ d. a.delivered ≡ d → forgetting b ≡ after_vote s (forgetting a) vote p c d) [
      | None ↦ vote_early s vote p c a b h
      | Some d ↦ vote_late s vote p c d a b h
    ] refl

-- the command of the first SEND is kept
pub send_again : (st : State) (c : Command) → is_some st.echoed ≡ true → after_send st c ≡ st
send_again st c some = λ i. record st { echoed = stays st.echoed c some i }
  where
    stays : (o : Option Command) (c : Command) → is_some o ≡ true → option_or o (Some c) ≡ o
    stays None c e = cc
    stays (Some d) c e = refl
