-- What the code of an instance shows of the votes that it keeps.
use Rattle.std.proofs.Common.{◌≡◌, ℕ, zero, suc, ◌+◌, ◌*◌, ◌<◌, ◌≤◌, Bool, true, false, cond, ◌||◌, nat_le}
use Rattle.std.proofs.Common.{List, [], ◌∷◌, length, get_or, is_some, Option, Some, None, refl, sym, ap, ◌∙◌}
use Rattle.std.proofs.Common.{subst, arith, zero-le, suc-le-suc, ◌==◌, ◌&&◌, find, option_map, eqb-true}
use Rattle.std.specs.Prelude.{All, Contains}
use Rattle.std.specs.List.{list_any}
use Rattle.std.specs.Option.{option_or}
use Rattle.std.specs.FinMap as maps
use Rattle.std.specs.FinSet as sets
use Rattle.std.specs.Ordering.{nat_cmp}
use Rattle.std.proofs.lemmas.List.Elements.{All-head, All-tail}
use Rattle.quorum_sizes.specs.Sizes.{Counts, echo_quorum_of, amplify_of, deliver_of}
use Rattle.quorum_sizes.proofs.Exported.{len_below}
use Rattle.role_commands.specs.declared.command.Command.{Command}
use Rattle.role_commands.specs.Same.{same_command}
use Rattle.link_frames.specs.declared.frames.kind.Kind.{Kind}
use Rattle.link_frames.specs.declared.frames.kind.Kind.TheVariants.{Send, Echo, Ready}
use Rattle.bracha_instance.specs.declared.first_votes.FirstVotes.{FirstVotes}
use Rattle.bracha_instance.specs.declared.instance.Instance.TheInside.{Inside}
use Rattle.bracha_instance.specs.declared.record.Record.TheInside as record_of
use Rattle.bracha_instance.specs.declared.tallies.Support.{Support}
use Rattle.bracha_instance.specs.Prefixes.{at_first_prefix}
use Rattle.link_frames.specs.frames.Kinds.{same_kind}
use Rattle.bracha_instance.specs.Broadcast.{Take, Names, command_of, vote, voters, supporters}
use Rattle.bracha_instance.specs.Broadcast.{is_vote_of, echoed, readied, delivered}
use Rattle.bracha_instance.specs.States.{Votes, State, votes, kept, state}
use Rattle.bracha_instance.specs.Taking.{has_voted}
use Rattle.bracha_instance.specs.inside.FirstVotes.{is_noted, noted, none_noted, VotersFit}
use Rattle.bracha_instance.specs.inside.Kept.{names_of}
use Rattle.bracha_instance.specs.inside.Next.{supporters_in, ready_now, deliver_now, only_if, by_vote, kind_of}
use Rattle.bracha_instance.specs.inside.Next.{with_its_vote, delivers_now, settled, after_vote, after_kind}
use Rattle.bracha_instance.specs.declared.tallies.Vote.{Vote}
use Rattle.bracha_instance.specs.declared.tallies.Vote.TheVariants.{Echo as EchoVote, Ready as ReadyVote}
use Rattle.bracha_instance.specs.inside.Tallies.{Tallied, no_votes, votes_of, with_command, with_vote, support_of}
use Rattle.bracha_instance.specs.inside.Tallies.{HasVote, AreVoted}
use Rattle.bracha_instance.specs.inside.Instances.{instance_state, IsInstance, record_state}
use Rattle.bracha_instance.specs.Supported.{CountsSupported}
use Rattle.bracha_instance.proofs.Same.{same_command-true}
use Rattle.bracha_instance.proofs.VoteMaps.{contains-names_of, names_of-insert, names_of-empty}
use Rattle.bracha_instance.proofs.FirstDue.{no_some}
use Rattle.bracha_instance.proofs.NameCounts.{one_more_name}
use Rattle.bracha_instance.proofs.TallyLemmas.{length-with_command}
use Rattle.bracha_instance.proofs.Voting.{contains-voters, supporters_in-votes}
use Rattle.bracha_instance.proofs.StateOf.{none_of, state-echoers, state-readiers}

-- Nothing was taken.

pub new_instance : (f : FirstVotes) (v : Tallied) → f ≡ none_noted → v ≡ no_votes
    → IsInstance (record { first_votes = f; readied = None; delivered = None; votes = v })
new_instance f v no_first none =
    let same : none_noted ≡ f = sym no_first in
    let votes : no_votes ≡ v = sym none in
    let empty = sets.len-empty nat_cmp in
    subst IsInstance (λ i. record { first_votes = same i; readied = None; delivered = None; votes = votes i }) (record {
      echoers = λ _. names_of-empty;
      readiers = λ _. names_of-empty;
      forgotten = λ _. refl;
      few = zero-le;
      fit = record { echoers = omega (arith, empty); readiers = omega (arith, empty) };
    })

pub state-empty : (s : Counts) (f : FirstVotes) (v : Tallied) → f ≡ none_noted → v ≡ no_votes
    → instance_state (record { first_votes = f; readied = None; delivered = None; votes = v }) ≡ state s []
unfolding state echoed readied delivered voters votes at_first_prefix
state-empty s f v no_first none = λ i.
    instance_state (record { first_votes = no_first i; readied = None; delivered = None; votes = none i })

-- What is noted is what contracts see.

abbrev first_of : State → FirstVotes
first_of st = record { echoed = st.echoed; echoers = st.echoers; readiers = st.readiers }

pub is_noted-has_voted : (st : State) (kind : Kind) (p : ℕ) → is_noted (first_of st) kind p ≡ has_voted st kind p
is_noted-has_voted st Send p = refl
is_noted-has_voted st Echo p = refl
is_noted-has_voted st Ready p = refl

pub record_noted : (s : Counts) (a : record_of.Inside) (kind : Kind) (p : ℕ) (c : Command)
    → record_state (record a { first_votes = noted a.first_votes kind p c }) ≡ after_kind s (record_state a) kind p c
record_noted s a Send p c = refl
record_noted s a Echo p c = refl
record_noted s a Ready p c = refl

-- A first vote, before a delivery.

no_vote : (v : Votes) (names : Names) (p : ℕ) → names_of v ≡ names → sets.contains names p ≡ false → maps.get v p ≡ None
no_vote v names p same is =
    none_of (maps.get v p) (sym (contains-names_of v p) ∙ ap (λ s. sets.contains s p) same ∙ is)

pub free_vote : (vote : Vote) (a : Inside) (p : ℕ) → IsInstance a → is_some a.delivered ≡ false
    → has_voted (instance_state a) (kind_of vote) p ≡ false → maps.get (votes_of vote a.votes) p ≡ None
free_vote EchoVote a p h early is = no_vote _ _ p (h.echoers (none_of a.delivered early)) is
free_vote ReadyVote a p h early is = no_vote _ _ p (h.readiers (none_of a.delivered early)) is

pub vote_kept : (vote : Vote) (a : Inside) (p : ℕ) (c : Command) {kind : Kind} {now : Option Command}
    {f : FirstVotes} {v : Tallied} → IsInstance a → is_some a.delivered ≡ false
    → has_voted (instance_state a) (kind_of vote) p ≡ false →
    kind ≡ kind_of vote → f ≡ noted a.first_votes kind p c → (VotersFit a.first_votes → VotersFit f)
    → v ≡ with_vote vote a.votes p c →
    IsInstance (record a { first_votes = f; readied = now; votes = v })
vote_kept vote a p c {v = v} h early new k first fit more =
    let is = first ∙ ap (λ kind. noted a.first_votes kind p c) k in
    let none = none_of a.delivered early in
    let names = names_more vote a p c h none in
    let before : length a.votes.commands ≤ sets.len a.first_votes.echoers + sets.len a.first_votes.readiers = h.few in
    let after = ap (λ (w : Tallied). length w.commands) more ∙ commands_more vote a.votes p c in
    let count = ap voters_in is ∙ voter_more vote a p c new in record {
      echoers = λ _. (λ i. names_of (more i).echoes) ∙ names.0 ∙ sym (λ i. (is i).echoers);
      readiers = λ _. (λ i. names_of (more i).readies) ∙ names.1 ∙ sym (λ i. (is i).readiers);
      forgotten = λ some. absurd (no_some a.delivered none some);
      few = omega (arith, length-with_command c a.votes.commands, after, count);
      fit = fit h.fit;
    }
  where
    voters_in : FirstVotes → ℕ
    voters_in f = sets.len f.echoers + sets.len f.readiers

    names_more : (vote : Vote) (a : Inside) (p : ℕ) (c : Command) → IsInstance a → a.delivered ≡ None
        → (names_of (with_vote vote a.votes p c).echoes ≡ (noted a.first_votes (kind_of vote) p c).echoers)
        × (names_of (with_vote vote a.votes p c).readies ≡ (noted a.first_votes (kind_of vote) p c).readiers)
    names_more EchoVote a p c h none =
        (names_of-insert a.votes.echoes p c ∙ ap (λ s. sets.insert s p) (h.echoers none), h.readiers none)
    names_more ReadyVote a p c h none =
        (h.echoers none, names_of-insert a.votes.readies p c ∙ ap (λ s. sets.insert s p) (h.readiers none))

    commands_more : (vote : Vote) (v : Tallied) (p : ℕ) (c : Command)
        → length (with_vote vote v p c).commands ≡ length (with_command c v.commands)
    commands_more EchoVote v p c = refl
    commands_more ReadyVote v p c = refl

    voter_more : (vote : Vote) (a : Inside) (p : ℕ) (c : Command)
        → has_voted (instance_state a) (kind_of vote) p ≡ false
        → voters_in (noted a.first_votes (kind_of vote) p c) ≡ voters_in a.first_votes + 1
    voter_more EchoVote a p c new = let more = one_more_name a.first_votes.echoers p new in omega arith
    voter_more ReadyVote a p c new = let more = one_more_name a.first_votes.readiers p new in omega arith

-- What is readied and delivered with some support.

ready_by_support : (s : Counts) (c : Command) (due : Bool) (n : Support) (v : Tallied)
    → due ≡ (nat_le (echo_quorum_of s) n.echoes || nat_le (amplify_of s) n.readies) → n ≡ support_of v c
    → due ≡ ready_now s c v.echoes v.readies
unfolding ready_now
ready_by_support s c due n v is support =
    is ∙ ap (λ (m : Support). nat_le (echo_quorum_of s) m.echoes || nat_le (amplify_of s) m.readies) support

deliver_by_support : (s : Counts) (vote : Vote) (c : Command) (due : Bool) (n : Support) (v : Tallied)
    → due ≡ by_vote vote false (nat_le (deliver_of s) n.readies) → n ≡ support_of v c
    → due ≡ delivers_now s vote c v.readies
unfolding deliver_now
deliver_by_support s vote c due n v is support =
    is ∙ ap (λ (m : Support). by_vote vote false (nat_le (deliver_of s) m.readies)) support

abbrev more_of : Vote → Inside → ℕ → Command → Inside
more_of vote a p c =
    record a { first_votes = noted a.first_votes (kind_of vote) p c; votes = with_vote vote a.votes p c }

more_is : (vote : Vote) (a : Inside) (p : ℕ) (c : Command)
    → instance_state (more_of vote a p c) ≡ with_its_vote (instance_state a) vote p c
more_is EchoVote a p c = refl
more_is ReadyVote a p c = refl

-- with `d` delivered then, and the votes `w` kept
pub vote_early : (s : Counts) (vote : Vote) (p : ℕ) (c : Command) (a : Inside) {kind : Kind} {due delivers : Bool}
    {now d : Option Command} {f : FirstVotes} {v : Tallied} {n : Support} (w : Tallied)
    → is_some a.delivered ≡ false → kind ≡ kind_of vote
    → f ≡ noted a.first_votes kind p c → v ≡ with_vote vote a.votes p c → n ≡ support_of v c →
    due ≡ (nat_le (echo_quorum_of s) n.echoes || nat_le (amplify_of s) n.readies) →
    now ≡ option_or a.readied (only_if due c) →
    delivers ≡ by_vote vote false (nat_le (deliver_of s) n.readies) → d ≡ only_if delivers c →
    w.echoes ≡ kept d v.echoes → w.readies ≡ kept d v.readies →
    instance_state (record a { first_votes = f; readied = now; delivered = d; votes = w })
    ≡ after_vote s (instance_state a) vote p c a.delivered
vote_early s vote p c a {v = v} {n = n} w early k is more support is_due is_now is_deliver is_d echoes readies =
    let first = is ∙ ap (λ k. noted a.first_votes k p c) k in
    let due = ready_by_support s c _ n v is_due support ∙ (λ i. ready_now s c (more i).echoes (more i).readies) in
    let ready = is_now ∙ ap (λ b. option_or a.readied (only_if b c)) due in
    let delivers = deliver_by_support s vote c _ n v is_deliver support
    ∙ (λ i. delivers_now s vote c (more i).readies) in
    let deliver = is_d ∙ ap (λ b. only_if b c) delivers in
    let echo_votes = echoes ∙ (λ i. kept (deliver i) (more i).echoes) in
    let ready_votes = readies ∙ (λ i. kept (deliver i) (more i).readies) in
    let settle : State → State = λ st. settled s c (delivers_now s vote c st.ready_votes) st in
    let step : _ ≡ settle (instance_state (more_of vote a p c)) = λ i.
    record {
      echoed = (first i).echoed;
      readied = ready i;
      delivered = deliver i;
      echoers = (first i).echoers;
      readiers = (first i).readiers;
      echo_votes = echo_votes i;
      ready_votes = ready_votes i;
    } in
    step ∙ ap settle (more_is vote a p c)
    ∙ ap (after_vote s (instance_state a) vote p c) (sym (none_of a.delivered early))

-- How many commands have a supporter.

listed : (c : Command) (commands : List Command) → list_any (same_command c) commands ≡ true → Contains commands c
listed c [] none = absurd cc
listed c (d ∷ commands) any = at (same_command c d) refl any (listed c commands)
  where
    at : (b : Bool) → same_command c d ≡ b → (b || list_any (same_command c) commands) ≡ true
        → (list_any (same_command c) commands ≡ true → Contains commands c) → Contains (d ∷ commands) c
    at true same any rest = (zero, suc-le-suc zero-le, sym (same_command-true c d same))
    at false other any rest = let r = rest any in (suc r.0, suc-le-suc r.1, r.2)

supporters_of : (kind : Kind) (c : Command) (takes : List Take) (v : Votes) → v ≡ votes kind takes
    → sets.len (supporters_in c v) ≡ sets.len (supporters kind c takes)
supporters_of kind c takes v is =
    ap (λ w. sets.len (supporters_in c w)) is ∙ ap sets.len (sym (supporters_in-votes kind c takes))

counts_supported : (takes : List Take) (v : Tallied) (count : ℕ) → AreVoted v → v.echoes ≡ votes Echo takes
    → v.readies ≡ votes Ready takes → length v.commands ≡ count → CountsSupported takes count
counts_supported takes v count are echoes readies len =
    let same : (c : Command) → (support_of v c).echoes + (support_of v c).readies
    ≡ sets.len (supporters Echo c takes) + sets.len (supporters Ready c takes) = λ c i.
    supporters_of Echo c takes v.echoes echoes i + supporters_of Ready c takes v.readies readies i in (
      v.commands,
      record {
        once = are.once;
        each = λ c. (
          λ there.
              let here : HasVote v (get_or v.commands there.0 c) = are.voted there.0 c there.1 in
              let voted : HasVote v c = subst (HasVote v) there.2 here in
              let n = same c in
              omega arith,
          λ supported. let n = same c in listed c v.commands (are.all c (omega arith)),
        );
      },
      len,
    )

pub kept_supported : (s : Counts) (takes : List Take) (a : Inside) (count : ℕ) → AreVoted a.votes
    → instance_state a ≡ state s takes → a.delivered ≡ None → length a.votes.commands ≡ count
    → CountsSupported takes count
unfolding state
kept_supported s takes a count are is none len =
    let early : delivered s takes ≡ None = sym (ap (λ (st : State). st.delivered) is) ∙ none in
    counts_supported takes a.votes count are
    (ap (λ (st : State). st.echo_votes) is ∙ ap (λ d. kept d (votes Echo takes)) early)
    (ap (λ (st : State). st.ready_votes) is ∙ ap (λ d. kept d (votes Ready takes)) early)
    len

voter_below : (n : ℕ) (kind : Kind) (takes : List Take) → All (λ (t : Take). t.from < n) takes → (q : ℕ)
    → is_some (vote kind q takes) ≡ true → q < n
unfolding vote
voter_below n kind [] below q is = absurd cc
voter_below n kind (t ∷ takes) below q is =
    at (same_kind kind t.kind) (q == t.from) refl is (voter_below n kind takes (All-tail (λ
    (t : Take). t.from < n) t takes below) q)
  where
    at : (a b : Bool) → (q == t.from) ≡ b
        → is_some (option_map command_of (cond (a && b) (Some t) (find (is_vote_of kind q) takes))) ≡ true
        → (is_some (option_map command_of (find (is_vote_of kind q) takes)) ≡ true → q < n) → q < n
    at true true same is rest =
        let e : q ≡ t.from = eqb-true q t.from same in
        let here : t.from < n = All-head (λ (t : Take). t.from < n) t takes below in
        omega arith
    at true false same is rest = rest is
    at false b same is rest = rest is

pub kept_few : (s : Counts) (takes : List Take) (a : Inside)
    → length a.votes.commands ≤ sets.len a.first_votes.echoers + sets.len a.first_votes.readiers
    → instance_state a ≡ state s takes → All (λ (t : Take). t.from < s.nodes) takes
    → length a.votes.commands ≤ 2 * s.nodes
kept_few s takes a few is below =
    let most : (kind : Kind) → sets.len (voters kind takes) ≤ s.nodes = λ kind.
    len_below s.nodes (voters kind takes) (λ name has.
    voter_below s.nodes kind takes below name (sym (contains-voters kind takes name) ∙ has)) in
    let echoers = ap (λ (st : State). sets.len st.echoers) is ∙ ap sets.len (state-echoers s takes) in
    let readiers = ap (λ (st : State). sets.len st.readiers) is ∙ ap sets.len (state-readiers s takes) in
    omega (arith, few, echoers, readiers, most Echo, most Ready)
