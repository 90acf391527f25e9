-- How much is recorded about a place: each packet that counts there is the first vote of its kind of its sender.
use Rattle.std.proofs.Common.{◌≡◌, ℕ, zero, suc, ◌+◌, ◌<◌, ◌≤◌, ⊎_elim, Bool, true, false, cond, ◌&&◌, ◌==◌}
use Rattle.std.proofs.Common.{List, [], ◌∷◌, ◌++◌, length, Option, Some, None, Result, Ok, Err, refl, sym, ap, ◌∙◌}
use Rattle.std.proofs.Common.{subst, length-append, arith, ltb-true, eq-eqb}
use Rattle.std.specs.Prelude.{if◌then◌else◌, is_some}
use Rattle.std.specs.Option.{option_or}
use Rattle.std.proofs.lemmas.Bool.{and_parts, and_from, cases_lt}
use Rattle.std.proofs.lemmas.List.{get_or_append_left}
use Rattle.std.proofs.Math.Seq.{get_or-append_seam}
use Rattle.std.proofs.lemmas.Map.Views.{exact_unsigned_eq}
use Rattle.quorum_sizes.specs.Sizes.{Counts}
use Rattle.quorum_sizes.proofs.Exported.{count, count-most}
use Rattle.role_commands.specs.declared.command.Command.{Command}
use Rattle.link_frames.specs.frames.Packets.{PacketValue, SentByOwner}
use Rattle.link_frames.specs.declared.frames.kind.Kind.{Kind}
use Rattle.link_frames.specs.declared.frames.kind.Kind.TheVariants.{Send, Echo, Ready}
use Rattle.bracha_instance.proofs.Exported.{same_kind-refl, vote_push}
use Rattle.bracha_instance.specs.Broadcast.{Take, is_vote_of, vote}
use Rattle.bracha_instance.specs.Taking.{effect_of}
use Rattle.bracha_instance.specs.declared.instance.Effect.{Effect}
use Rattle.bracha_instance.specs.declared.instance.Effect.TheVariants as effect
use Rattle.owner_streams.proofs.Exported.{takes_at-own, takes_at-other}
use Rattle.owner_streams.specs.Places.{window, reach, take_of, takes_at}
use Rattle.owner_streams.specs.Steps.{SendsAreOwners, step_of, step_due, effect_due}
use Rattle.owner_streams.specs.declared.steps.StreamStep.{StreamStep}
use Rattle.owner_streams.specs.declared.steps.StreamFault.{StreamFault}
use Rattle.owner_streams.specs.declared.steps.StreamFault.TheVariants.{Beyond}
use Rattle.role_node.specs.Answers.{is_routed, take_outlook, reply_to, answer_due, is_recorded}
use Rattle.role_node.specs.Configs.{ConfigValue}
use Rattle.role_node.specs.Histories.{packets}
use Rattle.role_node.specs.Work.{most_at_place, FewAtPlace}
use Rattle.role_node.specs.declared.event.Event.{Event}
use Rattle.role_node.specs.declared.event.Event.TheVariants as event
use Rattle.role_node.proofs.EntryLemmas.{counted_with_room}
use Rattle.role_node.proofs.FieldLemmas.{last_two, routed_by, counted_by}
use Rattle.role_node.proofs.HistoryLemmas.{packets-none, packets-Issue, packets-Take, packets-Client}
use Rattle.role_node.proofs.LegalLemmas.{recorded_counts, along_legal}

-- Counts.

cond_keeps : (a b : Bool) (x y : ℕ) → (a ≡ true → b ≡ true) → x ≤ y → cond a (suc x) x ≤ cond b (suc y) y
cond_keeps true true x y keeps h = omega (arith, h)
cond_keeps true false x y keeps h = absurd (let clash = keeps refl in cc)
cond_keeps false true x y keeps h = omega (arith, h)
cond_keeps false false x y keeps h = h

cond_more : (a b : Bool) (x y : ℕ) → (a ≡ true → b ≡ true) → x + 1 ≤ y → cond a (suc x) x + 1 ≤ cond b (suc y) y
cond_more true true x y keeps h = omega (arith, h)
cond_more true false x y keeps h = absurd (let clash = keeps refl in cc)
cond_more false true x y keeps h = omega (arith, h)
cond_more false false x y keeps h = h

-- what passes one test passes another
abbrev Keeps : (ℕ → Bool) → (ℕ → Bool) → Type 0
Keeps p q = (k : ℕ) → p k ≡ true → q k ≡ true

count_keeps : (p q : ℕ → Bool) (n : ℕ) → Keeps p q → count p n ≤ count q n
count_keeps p q zero keeps = omega arith
count_keeps p q (suc n) keeps = cond_keeps (p n) (q n) _ _ (keeps n) (count_keeps p q n keeps)

-- .. and so does one number more
count_more : (p q : ℕ → Bool) (n k : ℕ) → Keeps p q → k < n → p k ≡ false → q k ≡ true → count p n + 1 ≤ count q n
count_more p q zero k keeps h was now = absurd (omega (arith, h))
count_more p q (suc n) k keeps h was now =
    ⊎_elim
    (λ (early : k < n). cond_more (p n) (q n) _ _ (keeps n) (count_more p q n k keeps early was now))
    (λ (late : n ≤ k).
    let last : k ≡ n = omega (arith, h, late) in
    by (p n) (q n) _ _ (ap p (sym last) ∙ was) (ap q (sym last) ∙ now) (count_keeps p q n keeps))
    (cases_lt k n)
  where
    by : (a b : Bool) (x y : ℕ) → a ≡ false → b ≡ true → x ≤ y → cond a (suc x) x + 1 ≤ cond b (suc y) y
    by true b x y e f h = absurd cc
    by false true x y e f h = omega (arith, h)
    by false false x y e f h = absurd cc

-- Votes.

still_voted : (kind : Kind) (name : ℕ) (takes : List Take) (t : Take) → is_some (vote kind name takes) ≡ true →
    is_some (vote kind name (takes ++ t ∷ [])) ≡ true
still_voted kind name takes t was = ap is_some (vote_push kind name takes t) ∙ stays (vote kind name takes) _ was
  where
    stays : (o more : Option Command) → is_some o ≡ true → is_some (option_or o more) ≡ true
    stays None more e = absurd cc
    stays (Some c) more e = refl

now_voted : (takes : List Take) (t : Take) → is_some (vote t.kind t.from (takes ++ t ∷ [])) ≡ true
now_voted takes t =
    let own : is_vote_of t.kind t.from t ≡ true =
    and_from _ _ (same_kind-refl t.kind) (eq-eqb t.from t.from refl) in
    ap is_some (vote_push t.kind t.from takes t)
    ∙ ap (λ b. is_some (option_or (vote t.kind t.from takes) (cond b (Some t.command) None))) own
    ∙ either (vote t.kind t.from takes) t.command
  where
    either : (o : Option Command) (c : Command) → is_some (option_or o (Some c)) ≡ true
    either None c = refl
    either (Some d) c = refl

abbrev has_vote : Kind → List Take → ℕ → Bool
has_vote kind takes name = is_some (vote kind name takes)

-- how many have voted: the owner by its SEND, and the nodes by ECHO and by READY
abbrev votes_in : Counts → ℕ → List Take → ℕ
votes_in s owner takes =
    count (λ _. has_vote Send takes owner) 1 + count (has_vote Echo takes) s.nodes
    + count (has_vote Ready takes) s.nodes

few_votes : (s : Counts) (owner : ℕ) (takes : List Take) → votes_in s owner takes ≤ most_at_place s
few_votes s owner takes =
    let sends = count-most (λ _. has_vote Send takes owner) 1 in
    let echoes = count-most (has_vote Echo takes) s.nodes in
    let readies = count-most (has_vote Ready takes) s.nodes in
    omega (arith, sends, echoes, readies)

more_by : (s : Counts) (owner : ℕ) (takes : List Take) (t : Take) → t.from < s.nodes →
    (t.kind ≡ Send → t.from ≡ owner) → (kind : Kind) → t.kind ≡ kind → has_vote kind takes t.from ≡ false →
    has_vote kind (takes ++ t ∷ []) t.from ≡ true →
    votes_in s owner takes + 1 ≤ votes_in s owner (takes ++ t ∷ [])
more_by s owner takes t node own Send is was now =
    let after : List Take = takes ++ t ∷ [] in
    let mine : t.from ≡ owner = own is in
    let sends = count_more (λ _. has_vote Send takes owner) (λ _. has_vote Send after owner) 1 0
    (λ _ e. still_voted Send owner takes t e) (omega arith) (ap (has_vote Send takes) (sym mine) ∙ was)
    (ap (has_vote Send after) (sym mine) ∙ now) in
    let echoes = count_keeps (has_vote Echo takes) (has_vote Echo after) s.nodes
    (λ q e. still_voted Echo q takes t e) in
    let readies = count_keeps (has_vote Ready takes) (has_vote Ready after) s.nodes
    (λ q e. still_voted Ready q takes t e) in
    omega (arith, sends, echoes, readies)
more_by s owner takes t node own Echo is was now =
    let after : List Take = takes ++ t ∷ [] in
    let sends = count_keeps (λ _. has_vote Send takes owner) (λ _. has_vote Send after owner) 1
    (λ _ e. still_voted Send owner takes t e) in
    let echoes = count_more (has_vote Echo takes) (has_vote Echo after) s.nodes t.from
    (λ q e. still_voted Echo q takes t e) node was now in
    let readies = count_keeps (has_vote Ready takes) (has_vote Ready after) s.nodes
    (λ q e. still_voted Ready q takes t e) in
    omega (arith, sends, echoes, readies)
more_by s owner takes t node own Ready is was now =
    let after : List Take = takes ++ t ∷ [] in
    let sends = count_keeps (λ _. has_vote Send takes owner) (λ _. has_vote Send after owner) 1
    (λ _ e. still_voted Send owner takes t e) in
    let echoes = count_keeps (has_vote Echo takes) (has_vote Echo after) s.nodes
    (λ q e. still_voted Echo q takes t e) in
    let readies = count_more (has_vote Ready takes) (has_vote Ready after) s.nodes t.from
    (λ q e. still_voted Ready q takes t e) node was now in
    omega (arith, sends, echoes, readies)

-- a first vote is one vote more
one_vote_more : (s : Counts) (owner : ℕ) (takes : List Take) (t : Take) → t.from < s.nodes →
    (t.kind ≡ Send → t.from ≡ owner) → has_vote t.kind takes t.from ≡ false →
    votes_in s owner takes + 1 ≤ votes_in s owner (takes ++ t ∷ [])
one_vote_more s owner takes t node own was = more_by s owner takes t node own t.kind refl was (now_voted takes t)

-- A packet that is recorded is its sender's first vote of its kind.

uncounted : (b : Bool) → cond b effect.Idle effect.Counted ≡ effect.Counted → b ≡ false
uncounted true e = absurd cc
uncounted false e = refl

within_by : (beyond : Bool) (place end : ℕ) (step : StreamStep) →
    ◌≡◌ {A = Result Effect StreamFault} (effect_due (if beyond then Err (Beyond place end) else Ok step))
    (Ok effect.Counted) → step.effect ≡ effect.Counted
within_by true place end step e = absurd cc
within_by false place end step e = cc

effect_counts : (s : Counts) (taken : List PacketValue) (p : PacketValue) →
    effect_due (step_due s taken p) ≡ Ok effect.Counted →
    effect_of (takes_at p.owner p.place taken) (take_of p) ≡ effect.Counted
unfolding step_due
effect_counts s taken p e = within_by _ p.place (reach s p.owner taken + window) (step_of s taken p) e

record IsFirst (s : Counts) (past : List Event) (p : PacketValue) : Type 0 where
  pub node : p.from < s.nodes
  pub fresh : has_vote p.kind (takes_at p.owner p.place (packets past)) p.from ≡ false

recorded_is_first : (config : ConfigValue) (me : ℕ) (past : List Event) (p : PacketValue) →
    is_recorded (answer_due config me past (event.Take p)) ≡ true → IsFirst config.roles.sizes past p
recorded_is_first config me past p recorded =
    let s : Counts = config.roles.sizes in
    let counts = recorded_counts _ (reply_to config.roles me past (event.Take p)) recorded in
    let early : take_outlook config.roles me past p ≡ Ok effect.Counted =
    (counted_with_room config me past (event.Take p) counts).1 in
    let both = last_two _ _ _ (routed_by (is_routed s me p) _ early) in
    let now = effect_counts s (packets past) p (counted_by (is_routed s me p) _ early) in
    record { node = ltb-true p.from s.nodes both.0; fresh = uncounted _ now }

-- The packets about a place.

own_instance : (a b c d : ℕ) → ((a == b) && (c == d)) ≡ true → (b ≡ a) × (d ≡ c)
own_instance a b c d e =
    let both = and_parts _ _ e in
    (sym (exact_unsigned_eq a b both.0), sym (exact_unsigned_eq c d both.1))

-- Along a history.

abbrev about : ℕ → ℕ → List Event → List Take
about owner place history = takes_at owner place (packets history)

abbrev IsFew : Counts → ℕ → ℕ → List Event → Type 0
IsFew s owner place history = length (about owner place history) ≤ votes_in s owner (about owner place history)

few_own : (s : Counts) (past : List Event) (p : PacketValue) → IsFirst s past p → SentByOwner p →
    IsFew s p.owner p.place past → IsFew s p.owner p.place (past ++ event.Take p ∷ [])
few_own s past p first own few =
    let takes : List Take = about p.owner p.place past in
    let after : about p.owner p.place (past ++ event.Take p ∷ []) ≡ takes ++ take_of p ∷ [] =
    ap (takes_at p.owner p.place) (packets-Take past p) ∙ takes_at-own (packets past) p in
    let long : length (takes ++ take_of p ∷ []) ≡ length takes + 1 = length-append takes (take_of p ∷ []) in
    let more = one_vote_more s p.owner takes (take_of p) first.node own first.fresh in
    let P : List Take → Type 0 = λ ts. length ts ≤ votes_in s p.owner ts in
    subst P (sym after) (omega (arith, few, long, more))

few_by : (s : Counts) (owner place : ℕ) (past : List Event) (p : PacketValue) (b : Bool) →
    ((p.owner == owner) && (p.place == place)) ≡ b → IsFirst s past p → SentByOwner p →
    IsFew s owner place past → IsFew s owner place (past ++ event.Take p ∷ [])
few_by s owner place past p false other first own few =
    let P : List Take → Type 0 = λ ts. length ts ≤ votes_in s owner ts in
    subst P (sym (ap (takes_at owner place) (packets-Take past p) ∙ takes_at-other owner place (packets past) p other))
    few
few_by s owner place past p true here first own few =
    let same = own_instance p.owner owner p.place place here in
    let P : ℕ → ℕ → Type 0 = λ o k. IsFew s o k past → IsFew s o k (past ++ event.Take p ∷ []) in
    subst (λ o. P o place) (sym same.0) (subst (P p.owner) (sym same.1) (few_own s past p first own)) few

same_about : (s : Counts) (owner place : ℕ) {ps qs : List PacketValue} → ps ≡ qs →
    length (takes_at owner place qs) ≤ votes_in s owner (takes_at owner place qs) →
    length (takes_at owner place ps) ≤ votes_in s owner (takes_at owner place ps)
same_about s owner place e few =
    let P : List PacketValue → Type 0 = λ ps.
    length (takes_at owner place ps) ≤ votes_in s owner (takes_at owner place ps) in
    subst P (sym e) few

earlier_sends : (taken : List PacketValue) (p : PacketValue) → SendsAreOwners (taken ++ p ∷ []) → SendsAreOwners taken
earlier_sends taken p owned k d h =
    subst SentByOwner (get_or_append_left taken (p ∷ []) d k h)
    (owned k d (omega (arith, h, length-append taken (p ∷ []))))

last_send : (taken : List PacketValue) (p : PacketValue) → SendsAreOwners (taken ++ p ∷ []) → SentByOwner p
last_send taken p owned =
    subst SentByOwner (get_or-append_seam taken p [] p)
    (owned (length taken) p (omega (arith, length-append taken (p ∷ []))))

few_next : (config : ConfigValue) (me owner place : ℕ) (past : List Event) (e : Event) →
    is_recorded (answer_due config me past e) ≡ true → SendsAreOwners (packets (past ++ e ∷ [])) →
    IsFew config.roles.sizes owner place past → IsFew config.roles.sizes owner place (past ++ e ∷ [])
few_next config me owner place past (event.Issue c) recorded owned few =
    same_about config.roles.sizes owner place (packets-Issue past c) few
few_next config me owner place past (event.Take p) recorded owned few =
    let sends = subst SendsAreOwners (packets-Take past p) owned in
    few_by config.roles.sizes owner place past p _ refl (recorded_is_first config me past p recorded)
    (last_send (packets past) p sends) few
few_next config me owner place past (event.Client act) recorded owned few =
    same_about config.roles.sizes owner place (packets-Client past act) few

earlier_owned : (past : List Event) (e : Event) → SendsAreOwners (packets (past ++ e ∷ [])) →
    SendsAreOwners (packets past)
earlier_owned past (event.Issue c) owned = subst SendsAreOwners (packets-Issue past c) owned
earlier_owned past (event.Take p) owned =
    earlier_sends (packets past) p (subst SendsAreOwners (packets-Take past p) owned)
earlier_owned past (event.Client act) owned = subst SendsAreOwners (packets-Client past act) owned

nothing_taken : (owner place : ℕ) → takes_at owner place [] ≡ []
unfolding takes_at
nothing_taken owner place = refl

pub few_at_place : FewAtPlace
few_at_place config me history owner place legal owned =
    let s : Counts = config.roles.sizes in
    let start : about owner place [] ≡ [] = ap (takes_at owner place) packets-none ∙ nothing_taken owner place in
    let few : IsFew s owner place history =
    along_legal config me (λ past. SendsAreOwners (packets past) → IsFew s owner place past)
    (λ past e recorded was sends. few_next config me owner place past e recorded sends
    (was (earlier_owned past e sends)))
    [] history legal (λ _. subst (λ ts. length ts ≤ votes_in s owner ts) (sym start) (omega arith)) owned in
    omega (arith, few, few_votes s owner (about owner place history))
