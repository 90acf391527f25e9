-- The state of a list of messages: its fields, and that one more message is one step.
-- Layers above can cite these.
use Rattle.std.proofs.Common.{◌≡◌, ℕ, Bool, true, false, cond, List, [], ◌∷◌, ◌++◌, ◌==◌, ◌&&◌}
use Rattle.std.proofs.Common.{find, option_map, is_some, Option, Some, None, refl, sym, ap, ◌∙◌}
use Rattle.std.specs.Option.{option_or}
use Rattle.std.specs.FinMap as maps
use Rattle.std.specs.FinSet as sets
use Rattle.quorum_sizes.specs.Sizes.{Counts}
use Rattle.role_commands.specs.declared.command.Command.{Command}
use Rattle.link_frames.specs.frames.Kinds.{same_kind}
use Rattle.link_frames.specs.declared.frames.kind.Kind.{Kind}
use Rattle.link_frames.specs.declared.frames.kind.Kind.TheVariants.{Send, Echo, Ready}
use Rattle.bracha_instance.specs.Broadcast.{Take, command_of, is_of_kind, is_vote_of, is_for, vote, voters}
use Rattle.bracha_instance.specs.Broadcast.{supporters, echoed, readied, delivered, may_ready, may_deliver}
use Rattle.bracha_instance.specs.States.{State, votes, kept, state}
use Rattle.bracha_instance.specs.Laws.{or_else_if, RepeatChangesNothing}
use Rattle.bracha_instance.specs.declared.tallies.Vote.{Vote}
use Rattle.bracha_instance.specs.declared.tallies.Vote.TheVariants.{Echo as EchoVote, Ready as ReadyVote}
use Rattle.bracha_instance.specs.inside.Next.{ready_now, deliver_now, only_if, by_vote, kind_of, delivers_now}
use Rattle.bracha_instance.specs.inside.Next.{after_send, after_vote, after_kind, after}
use Rattle.bracha_instance.specs.Taking.{has_voted}
use Rattle.bracha_instance.proofs.Voting.{or_nothing, vote_push-other, vote_push-again, echoed_push}
use Rattle.bracha_instance.proofs.Voting.{some_stays, contains-voters, supporters_alike}
use Rattle.bracha_instance.proofs.Voting.{voters_alike, votes_alike, votes_push-first, voters_push}
use Rattle.bracha_instance.proofs.Due.{may_ready-votes, may_deliver-votes, may_ready-alike}
use Rattle.bracha_instance.proofs.Due.{may_deliver-alike, readies_its_own, delivers_its_own}
use Rattle.bracha_instance.proofs.Due.{not_ready, not_deliverable, delivered_is_ready}
use Rattle.bracha_instance.proofs.StateSteps.{IsVoteStep, vote_step, send_again}

-- what follows from the messages, with all votes
abbrev all_of : Counts → List Take → State
all_of s ts =
    record {
      echoed = echoed ts;
      readied = readied s ts;
      delivered = delivered s ts;
      echoers = voters Echo ts;
      readiers = voters Ready ts;
      echo_votes = votes Echo ts;
      ready_votes = votes Ready ts;
    }

-- The fields.

pub state-echoed : (s : Counts) (ts : List Take) → (state s ts).echoed ≡ echoed ts
unfolding state
state-echoed s ts = refl

pub state-readied : (s : Counts) (ts : List Take) → (state s ts).readied ≡ readied s ts
unfolding state
state-readied s ts = refl

pub state-delivered : (s : Counts) (ts : List Take) → (state s ts).delivered ≡ delivered s ts
unfolding state
state-delivered s ts = refl

pub state-echoers : (s : Counts) (ts : List Take) → (state s ts).echoers ≡ voters Echo ts
unfolding state
state-echoers s ts = refl

pub state-readiers : (s : Counts) (ts : List Take) → (state s ts).readiers ≡ voters Ready ts
unfolding state
state-readiers s ts = refl

-- What another kind's message leaves.

-- what is never due is not kept
pub or_else_if-never : (o : Option Command) (b : Bool) (c : Command) → (o ≡ None → b ≡ false) → or_else_if o b c ≡ o
or_else_if-never None b c never = ap (λ x. cond x (Some c) None) (never refl)
or_else_if-never (Some d) b c never = refl

-- where no vote for the command is new, nothing is readied
readied_same : (s : Counts) (ts : List Take) (t : Take) →
    supporters Echo t.command (ts ++ t ∷ []) ≡ supporters Echo t.command ts
    → supporters Ready t.command (ts ++ t ∷ []) ≡ supporters Ready t.command ts →
    readied s (ts ++ t ∷ []) ≡ readied s ts
readied_same s ts t echoes readies =
    readies_its_own s ts t
    ∙ or_else_if-never (readied s ts) (may_ready s (ts ++ t ∷ []) t.command) t.command
    (λ none. may_ready-alike s ts (ts ++ t ∷ []) t.command echoes readies ∙ not_ready s ts none t.command)

-- where no READY for the command is new, nothing is delivered
delivered_same : (s : Counts) (ts : List Take) (t : Take)
    → supporters Ready t.command (ts ++ t ∷ []) ≡ supporters Ready t.command ts →
    delivered s (ts ++ t ∷ []) ≡ delivered s ts
delivered_same s ts t readies =
    delivers_its_own s ts t
    ∙ or_else_if-never (delivered s ts) (may_deliver s (ts ++ t ∷ []) t.command) t.command
    (λ none. may_deliver-alike s ts (ts ++ t ∷ []) t.command readies ∙ not_deliverable s ts none t.command)

abbrev SameVotes : Kind → List Take → List Take → Type 0
SameVotes kind ts us = (q : ℕ) → vote kind q us ≡ vote kind q ts

supporters_same : (kind : Kind) (c : Command) (ts us : List Take) → SameVotes kind ts us
    → supporters kind c us ≡ supporters kind c ts
supporters_same kind c ts us same = supporters_alike kind c ts us (λ q. ap (is_for c) (same q))

state_by : (s : Counts) (ts us : List Take) → echoed us ≡ echoed ts → readied s us ≡ readied s ts
    → delivered s us ≡ delivered s ts →
    SameVotes Echo ts us → SameVotes Ready ts us → state s us ≡ state s ts
unfolding state
state_by s ts us ee er ed ev rv = λ i.
    record {
      echoed = ee i;
      readied = er i;
      delivered = ed i;
      echoers = voters_alike Echo ts us ev i;
      readiers = voters_alike Ready ts us rv i;
      echo_votes = kept (ed i) (votes_alike Echo ts us ev i);
      ready_votes = kept (ed i) (votes_alike Ready ts us rv i);
    }

-- A SEND.

send_by : (st : State) (c : Command) (b : Bool) → is_some st.echoed ≡ b → after_send st c ≡ cond b st (after_send st c)
send_by st c true is = send_again st c is
send_by st c false is = refl

push_send : (s : Counts) (ts : List Take) (p : ℕ) (c : Command) →
    state s (ts ++ (record { kind = Send; from = p; command = c }) ∷ []) ≡ after_send (state s ts) c
unfolding state
push_send s ts p c =
    let t : Take = record { kind = Send; from = p; command = c } in
    let us = ts ++ t ∷ [] in
    let ev : SameVotes Echo ts us = λ q. vote_push-other Echo q ts t refl in
    let rv : SameVotes Ready ts us = λ q. vote_push-other Ready q ts t refl in
    let er = readied_same s ts t (supporters_same Echo c ts us ev) (supporters_same Ready c ts us rv) in
    let ed = delivered_same s ts t (supporters_same Ready c ts us rv) in
    λ i. record {
      echoed = echoed_push ts t i;
      readied = er i;
      delivered = ed i;
      echoers = voters_alike Echo ts us ev i;
      readiers = voters_alike Ready ts us rv i;
      echo_votes = kept (ed i) (votes_alike Echo ts us ev i);
      ready_votes = kept (ed i) (votes_alike Ready ts us rv i);
    }

-- A vote.

pub none_of : {X : Type 0} (o : Option X) → is_some o ≡ false → o ≡ None
none_of None e = refl
none_of (Some x) e = absurd cc

-- nothing but a SEND makes a node echo
echoed_same : (ts : List Take) (t : Take) → same_kind Send t.kind ≡ false → echoed (ts ++ t ∷ []) ≡ echoed ts
echoed_same ts t no_send =
    echoed_push ts t ∙ ap (λ b. option_or (echoed ts) (cond b (Some t.command) None)) no_send ∙ or_nothing (echoed ts)

-- a second vote, of whatever kind but SEND
push_again : (s : Counts) (ts : List Take) (t : Take) → same_kind Send t.kind ≡ false
    → is_some (vote t.kind t.from ts) ≡ true →
    state s (ts ++ t ∷ []) ≡ state s ts
push_again s ts t no_send voted =
    let us = ts ++ t ∷ [] in
    let same : (kind : Kind) → SameVotes kind ts us = λ kind q. vote_push-again kind q ts t voted in
    state_by s ts us
    (echoed_same ts t no_send)
    (readied_same s ts t (supporters_same Echo t.command ts us (same Echo))
    (supporters_same Ready t.command ts us (same Ready)))
    (delivered_same s ts t (supporters_same Ready t.command ts us (same Ready)))
    (same Echo)
    (same Ready)

-- what is readied stays, where a command was delivered
readied_late : (s : Counts) (ts : List Take) (t : Take) (d : Option Command) → delivered s ts ≡ d → is_some d ≡ true →
    readied s (ts ++ t ∷ []) ≡ readied s ts
readied_late s ts t None is some = absurd cc
readied_late s ts t (Some c) is some = readies_its_own s ts t
    ∙ some_stays (readied s ts) _ (delivered_is_ready s ts c is)

-- what is delivered stays
delivered_late : (s : Counts) (ts : List Take) (t : Take) → is_some (delivered s ts) ≡ true
    → delivered s (ts ++ t ∷ []) ≡ delivered s ts
delivered_late s ts t some = delivers_its_own s ts t ∙ some_stays (delivered s ts) _ some

abbrev vote_take : Vote → ℕ → Command → Take
vote_take v p c = record { kind = kind_of v; from = p; command = c }

no_send : (v : Vote) → same_kind Send (kind_of v) ≡ false
no_send EchoVote = refl
no_send ReadyVote = refl

-- of those who voted and of their votes only those of this kind are more
pub record AreMore (v : Vote) (p : ℕ) (c : Command) (ts us : List Take) : Type 0 where
  pub echoers : voters Echo us ≡ by_vote v (sets.insert (voters Echo ts) p) (voters Echo ts)
  pub readiers : voters Ready us ≡ by_vote v (voters Ready ts) (sets.insert (voters Ready ts) p)
  pub echoes : votes Echo us ≡ by_vote v (maps.insert (votes Echo ts) p c) (votes Echo ts)
  pub readies : votes Ready us ≡ by_vote v (votes Ready ts) (maps.insert (votes Ready ts) p c)

are_more : (v : Vote) (ts : List Take) (p : ℕ) (c : Command) → vote (kind_of v) p ts ≡ None
    → AreMore v p c ts (ts ++ vote_take v p c ∷ [])
are_more EchoVote ts p c none =
    let t = vote_take EchoVote p c in
    let same : SameVotes Ready ts (ts ++ t ∷ []) = λ q. vote_push-other Ready q ts t refl in record {
      echoers = voters_push ts t;
      readiers = voters_alike Ready ts _ same;
      echoes = votes_push-first ts t none;
      readies = votes_alike Ready ts _ same;
    }
are_more ReadyVote ts p c none =
    let t = vote_take ReadyVote p c in
    let same : SameVotes Echo ts (ts ++ t ∷ []) = λ q. vote_push-other Echo q ts t refl in record {
      echoers = voters_alike Echo ts _ same;
      readiers = voters_push ts t;
      echoes = votes_alike Echo ts _ same;
      readies = votes_push-first ts t none;
    }

-- before a delivery an ECHO makes nothing deliverable
delivers_by : (v : Vote) (s : Counts) (ts us : List Take) (p : ℕ) (c : Command) → delivered s ts ≡ None
    → AreMore v p c ts us
    → may_deliver s us c ≡ delivers_now s v c (by_vote v (votes Ready ts) (maps.insert (votes Ready ts) p c))
delivers_by EchoVote s ts us p c none more =
    may_deliver-votes s us c ∙ ap (deliver_now s c) more.readies ∙ sym (may_deliver-votes s ts c)
    ∙ not_deliverable s ts none c
delivers_by ReadyVote s ts us p c none more = may_deliver-votes s us c ∙ ap (deliver_now s c) more.readies

first_vote : (v : Vote) (s : Counts) (ts : List Take) (p : ℕ) (c : Command) → vote (kind_of v) p ts ≡ None →
    state s (ts ++ vote_take v p c ∷ []) ≡ after_vote s (state s ts) v p c (delivered s ts)
unfolding state
first_vote v s ts p c none =
    let t = vote_take v p c in
    let us = ts ++ t ∷ [] in
    let more = are_more v ts p c none in
    let may = may_ready-votes s us c ∙ (λ i. ready_now s c (more.echoes i) (more.readies i)) in
    let step : IsVoteStep s v p c (all_of s ts) (all_of s us) = record {
      echoed = echoed_same ts t (no_send v);
      readied_early = λ _. readies_its_own s ts t ∙ ap (λ b. option_or (readied s ts) (only_if b c)) may;
      readied_late = λ some. readied_late s ts t (delivered s ts) refl some;
      delivered_early = λ before.
          let due = delivers_by v s ts us p c before more in
          delivers_its_own s ts t ∙ (λ i. option_or (before i) (only_if (due i) c));
      delivered_late = λ some. delivered_late s ts t some;
      echoers = more.echoers;
      readiers = more.readiers;
      echo_votes = more.echoes;
      ready_votes = more.readies;
    } in
    vote_step step

vote_by : (v : Vote) (s : Counts) (ts : List Take) (p : ℕ) (c : Command) (b : Bool)
    → sets.contains (voters (kind_of v) ts) p ≡ b →
    state s (ts ++ vote_take v p c ∷ []) ≡ cond b (state s ts) (after_vote s (state s ts) v p c (delivered s ts))
vote_by v s ts p c true is =
    push_again s ts (vote_take v p c) (no_send v) (sym (contains-voters (kind_of v) ts p) ∙ is)
vote_by v s ts p c false is =
    first_vote v s ts p c (none_of (vote (kind_of v) p ts) (sym (contains-voters (kind_of v) ts p) ∙ is))

-- Any message.

push_by : (s : Counts) (ts : List Take) (kind : Kind) (p : ℕ) (c : Command) →
    state s (ts ++ (record {
      kind = kind;
      from = p;
      command = c;
    }) ∷ []) ≡ cond (has_voted (state s ts) kind p) (state s ts) (after_kind s (state s ts) kind p c)
unfolding state
push_by s ts Send p c = push_send s ts p c ∙ send_by (state s ts) c (is_some (echoed ts)) refl
push_by s ts Echo p c = vote_by EchoVote s ts p c (sets.contains (voters Echo ts) p) refl
push_by s ts Ready p c = vote_by ReadyVote s ts p c (sets.contains (voters Ready ts) p) refl

-- the state of a longer list is one step from the state of the list
pub state_push : (s : Counts) (ts : List Take) (t : Take) → state s (ts ++ t ∷ []) ≡ after s (state s ts) t
unfolding after
state_push s ts t = push_by s ts t.kind t.from t.command

-- a message that its node sent before, of that kind, changes nothing
send_voted : (p : ℕ) (ts : List Take) → is_some (option_map command_of (find (is_vote_of Send p) ts)) ≡ true
    → is_some (option_map command_of (find (is_of_kind Send) ts)) ≡ true
send_voted p [] is = is
send_voted p (t ∷ ts) is =
    send_voted_by (same_kind Send t.kind) (p == t.from) t (find (is_vote_of Send p) ts) (find (is_of_kind Send) ts)
    (send_voted p ts) is
  where
    send_voted_by : (a b : Bool) (t : Take) (x y : Option Take)
        → (is_some (option_map command_of x) ≡ true → is_some (option_map command_of y) ≡ true) →
        is_some (option_map command_of (cond (a && b) (Some t) x)) ≡ true
        → is_some (option_map command_of (cond a (Some t) y)) ≡ true
    send_voted_by true b t x y later is = refl
    send_voted_by false b t x y later is = later is

pub voted : (s : Counts) (ts : List Take) (kind : Kind) (p : ℕ) → is_some (vote kind p ts) ≡ true
    → has_voted (state s ts) kind p ≡ true
unfolding state vote echoed
voted s ts Send p is = send_voted p ts is
voted s ts Echo p is = contains-voters Echo ts p ∙ is
voted s ts Ready p is = contains-voters Ready ts p ∙ is

pub repeat_changes_nothing : RepeatChangesNothing
unfolding after
repeat_changes_nothing s ts t again =
    let us = ts ++ t ∷ [] in
    let same : (kind : Kind) → SameVotes kind ts us = λ kind q. vote_push-again kind q ts t again in (
      same,
      λ kind c. supporters_same kind c ts us (same kind),
      state_push s ts t
          ∙ ap (λ b. cond b (state s ts) (after_kind s (state s ts) t.kind t.from t.command))
          (voted s ts t.kind t.from again),
    )
