-- The run of four nodes is at rest: each message that a correct node has sent, each correct node has taken.
use Rattle.std.proofs.Common.{◌≡◌, ℕ, zero, suc, ◌<◌, Bool, true, ◌==◌, ◌&&◌, List, [], ◌∷◌, length, slice_get}
use Rattle.std.proofs.Common.{Contains, Option, Some, None, refl, sym, ap, ◌∙◌, subst, arith, ltb-true, eqb-true}
use Rattle.std.specs.List.{list_all}
use Rattle.std.proofs.lemmas.Bool.{and_parts}
use Rattle.role_commands.proofs.Exported.{if_some}
use Rattle.role_commands.specs.declared.command.Command.{Command}
use Rattle.link_frames.specs.frames.Packets.{message_of}
use Rattle.link_frames.specs.declared.frames.kind.Kind.{Kind}
use Rattle.link_frames.specs.declared.frames.kind.Kind.TheVariants.{Send, Echo, Ready}
use Rattle.bracha_instance.specs.Broadcast.{Take, vote, echoed, readied}
use Rattle.bracha_instance.specs.Prefixes.{at_first_prefix}
use Rattle.owner_streams.specs.Places.{takes_at}
use Rattle.owner_streams.proofs.Exported.{echoed-none, readied-none}
use Rattle.role_node.specs.Histories.{issued, packets}
use Rattle.role_node.specs.declared.event.Event.{Event}
use Rattle.role_node.specs.declared.event.Event.TheVariants as event
use Rattle.byz_world.specs.Example.{four, four_nodes, three_lies, user_seven, told, example_run, AnExample}
use Rattle.byz_world.specs.Resting.{IsAtRest}
use Rattle.byz_world.specs.Runs.{history_of, IsClusterRun}
use Rattle.byz_world.proofs.Computed.{names_end, readied-now}
use Rattle.byz_world.proofs.Example.{honest, honest-is, example_is_run, example_delivers}
use Rattle.byz_world.proofs.ExampleGoesOn.{ready_wanted, readys_prolong}
use Rattle.byz_world.proofs.GivenOut.{rest_is_quiet}
use Rattle.byz_world.proofs.Histories.{taken_by, taken_whole, IsTakenIn, taken_in}
use Rattle.byz_world.proofs.Pooled.{pooled_is_sent, has_sent_is}
use Rattle.byz_world.proofs.Votes.{said_by}

-- a correct node is one of three
by_name : (P : ℕ → Type 0) → P 0 → P 1 → P 2 → (name : ℕ) → honest name ≡ true → P name
by_name P a b c zero is = a
by_name P a b c (suc zero) is = b
by_name P a b c (suc (suc zero)) is = c
by_name P a b c (suc (suc (suc zero))) is = absurd cc
by_name P a b c (suc (suc (suc (suc n)))) is =
    let below : suc (suc (suc (suc n))) < 4 = ltb-true _ 4 (and_parts _ _ is).0 in absurd (omega arith)

-- Each packet of the run is of place 0 of node 0.

about_zero : ℕ × Event → Bool
about_zero (node, event.Take p) = (p.owner == 0) && (p.place == 0)
about_zero (node, event.Issue c) = true
about_zero (node, event.Client act) = true

all_pass : (test : ℕ × Event → Bool) (pairs : List (ℕ × Event)) → list_all test pairs ≡ true
    → (k : ℕ) (pair : ℕ × Event) →
    slice_get pairs k ≡ Some pair → test pair ≡ true
all_pass test [] all k pair e = absurd cc
all_pass test (x ∷ xs) all zero pair e = let same : x ≡ pair = cc in ap test (sym same) ∙ (and_parts _ _ all).0
all_pass test (x ∷ xs) all (suc k) pair e = all_pass test xs (and_parts _ _ all).1 k pair e

all_about_zero : list_all about_zero example_run ≡ true
unfolding about_zero
all_about_zero = refl

instance_by : (node owner place : ℕ) (takes : List Take) → taken_by example_run node owner place ≡ takes
    → (takes ≡ [] → ⊥) →
    (owner ≡ 0) × (place ≡ 0)
unfolding about_zero
instance_by node owner place [] is some = absurd (some refl)
instance_by node owner place (t ∷ ts) is some =
    let from : IsTakenIn example_run (length example_run) node owner place t =
    taken_in (length example_run) example_run node owner place t
    (0, ap (λ x. slice_get x 0) (taken_whole example_run node owner place ∙ is)) in
    let test = all_pass about_zero example_run all_about_zero from.at (node, event.Take from.packet) from.in_run in
    let parts = and_parts _ _ test in
    (sym from.owner_is ∙ eqb-true from.packet.owner 0 parts.0, sym from.place_is ∙ eqb-true from.packet.place 0 parts.1)

-- What each correct node has sent: it echoed the command and is ready for it, and node 0 published it.

nothing : (A : Type 0) (o : Option Command) (c : Command) → o ≡ None → o ≡ Some c → A
nothing A o c e f = absurd cc

it_is : (o : Option Command) (c : Command) → o ≡ Some user_seven → o ≡ Some c → c ≡ user_seven
it_is o c e f = cc

issued_once : (place : ℕ) (c : Command) → slice_get (user_seven ∷ []) place ≡ Some c → (place ≡ 0) × (c ≡ user_seven)
issued_once zero c e = (refl, cc)
issued_once (suc place) c e = absurd cc

abbrev EchoedSeven : ℕ → Type 0
EchoedSeven name = echoed (taken_by example_run name 0 0) ≡ Some user_seven

abbrev ReadySeven : ℕ → Type 0
ReadySeven name = readied four (taken_by example_run name 0 0) ≡ Some user_seven

echoed_seven : (name : ℕ) → honest name ≡ true → EchoedSeven name
unfolding history_of packets takes_at echoed
echoed_seven name is = by_name EchoedSeven refl refl refl name is

ready_seven : (name : ℕ) → honest name ≡ true → ReadySeven name
unfolding history_of packets takes_at vote at_first_prefix names_end
ready_seven name is = by_name ReadySeven (readied-now four _ ∙ refl) (readied-now four _ ∙ refl)
    (readied-now four _ ∙ refl) name is

issued_by : (name : ℕ) → honest name ≡ true → (place : ℕ) (c : Command)
    → slice_get (issued (history_of name example_run)) place ≡ Some c →
    (name ≡ 0) × (place ≡ 0) × (c ≡ user_seven)
unfolding history_of issued
issued_by name is =
    by_name (λ n. (place : ℕ) (c : Command) → slice_get (issued (history_of n example_run)) place ≡ Some c →
    (n ≡ 0) × (place ≡ 0) × (c ≡ user_seven))
    (λ place c e. let once = issued_once place c e in (refl, once.0, once.1))
    (λ place c e. absurd cc) (λ place c e. absurd cc) name is

abbrev FromZero : Kind → ℕ → Type 0
FromZero kind name = kind ≡ Send → name ≡ 0

said_only : (name : ℕ) (kind : Kind) (owner place : ℕ) (c : Command) → honest name ≡ true →
    said_by four example_run name kind owner place ≡ Some c
    → ((owner ≡ 0) × (place ≡ 0) × (c ≡ user_seven)) × FromZero kind name
said_only name Send owner place c is e =
    let own = if_some (owner == name) _ c e in
    let here = issued_by name is place c own.1 in
    ((eqb-true owner name own.0 ∙ here.0, here.1, here.2), λ _. here.0)
said_only name Echo owner place c is e =
    let at = instance_by name owner place _ refl (λ none. nothing ⊥ _ c (ap echoed none ∙ echoed-none) e) in
    let there : echoed (taken_by example_run name owner place) ≡ Some user_seven =
    (λ i. echoed (taken_by example_run name (at.0 i) (at.1 i))) ∙ echoed_seven name is in
    ((at.0, at.1, it_is _ c there e), λ k. absurd cc)
said_only name Ready owner place c is e =
    let at = instance_by name owner place _ refl
    (λ none. nothing ⊥ _ c (ap (readied four) none ∙ readied-none four) e) in
    let there : readied four (taken_by example_run name owner place) ≡ Some user_seven =
    (λ i. readied four (taken_by example_run name (at.0 i) (at.1 i))) ∙ ready_seven name is in
    ((at.0, at.1, it_is _ c there e), λ k. absurd cc)

-- .. and each of these stands in each correct node's history.

abbrev Stands : Kind → ℕ → ℕ → Type 0
Stands kind from to = Contains (packets (history_of to example_run)) (told kind user_seven from to)

sends_stand : (to : ℕ) → honest to ≡ true → Stands Send 0 to
unfolding history_of packets
sends_stand to is = by_name (Stands Send 0) (0, omega arith, refl) (0, omega arith, refl) (0, omega arith, refl) to is

echoes_stand : (from to : ℕ) → honest from ≡ true → honest to ≡ true → Stands Echo from to
unfolding history_of packets
echoes_stand from to sender is =
    by_name (λ n. Stands Echo n to)
    (by_name (Stands Echo 0) (1, omega arith, refl) (2, omega arith, refl) (1, omega arith, refl) to is)
    (by_name (Stands Echo 1) (2, omega arith, refl) (3, omega arith, refl) (2, omega arith, refl) to is)
    (by_name (Stands Echo 2) (3, omega arith, refl) (4, omega arith, refl) (3, omega arith, refl) to is) from sender

readies_stand : (from to : ℕ) → honest from ≡ true → honest to ≡ true → Stands Ready from to
unfolding history_of packets
readies_stand from to sender is =
    by_name (λ n. Stands Ready n to)
    (by_name (Stands Ready 0) (4, omega arith, refl) (5, omega arith, refl) (4, omega arith, refl) to is)
    (by_name (Stands Ready 1) (5, omega arith, refl) (6, omega arith, refl) (5, omega arith, refl) to is)
    (by_name (Stands Ready 2) (6, omega arith, refl) (7, omega arith, refl) (6, omega arith, refl) to is) from sender

stands : (kind : Kind) (from to : ℕ) → honest from ≡ true → honest to ≡ true → FromZero kind from → Stands kind from to
stands Send from to sender is zero_sends = subst (λ n. Stands Send n to) (sym (zero_sends refl)) (sends_stand to is)
stands Echo from to sender is zero_sends = echoes_stand from to sender is
stands Ready from to sender is zero_sends = readies_stand from to sender is

pub example_rests : IsClusterRun four_nodes three_lies example_run → IsAtRest four_nodes three_lies example_run
example_rests cluster p in_pool correct =
    let pooled = pooled_is_sent four_nodes three_lies example_run p cluster in_pool in
    let sender : honest p.from ≡ true = sym (honest-is p.from) ∙ pooled.from in
    let receiver : honest p.to ≡ true = sym (honest-is p.to) ∙ correct in
    let said = said_only p.from p.kind p.owner p.place p.command sender
    (has_sent_is four example_run p.from (message_of p) pooled.sent) in
    let is : told p.kind user_seven p.from p.to ≡ p =
    λ i. record {
      from = p.from;
      to = p.to;
      kind = p.kind;
      owner = sym said.0.0 i;
      place = sym said.0.1 i;
      command = sym said.0.2 i;
    } in
    subst (Contains (packets (history_of p.to example_run))) is (stands p.kind p.from p.to sender receiver said.1)

pub an_example : AnExample
an_example = record {
  is_run = example_is_run;
  rests = example_rests example_is_run;
  delivered_at_zero = example_delivers.0;
  delivered_at_one = example_delivers.1;
  wanted = ready_wanted;
  prolongs = readys_prolong;
  quiet = rest_is_quiet four_nodes three_lies example_run 0 1 example_is_run (example_rests example_is_run);
}
