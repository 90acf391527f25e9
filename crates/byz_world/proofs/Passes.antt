-- Passes over the pool: each prolongs the run by packets that count, and where one adds nothing none counts.
use Rattle.std.proofs.Common.{◌≡◌, ℕ, zero, suc, ◌+◌, ◌-◌, ◌<◌, ◌≤◌, ◌⊎◌, inl, inr, ⊎_elim, Bool, true, false}
use Rattle.std.proofs.Common.{◌&&◌, ◌==◌, List, [], ◌∷◌, ◌++◌, length, take, Option, Some, None, Ok, Err}
use Rattle.std.proofs.Common.{refl, sym, ap, ◌∙◌, subst, append-nil, append_assoc, length-append, arith}
use Rattle.std.specs.Prelude.{if◌then◌else◌, not, nat_lt, map, slice_get}
use Rattle.std.specs.List.{range_with_len}
use Rattle.std.proofs.lemmas.Bool.{ltb-true}
use Rattle.std.proofs.lemmas.Bool.Decides.{nat_tests}
use Rattle.std.proofs.lemmas.Map.Views.{exact_unsigned_eq}
use Rattle.std.proofs.lemmas.Option.{slice_get_within}
use Rattle.std.proofs.lemmas.List.{nil_from_length}
use Rattle.std.proofs.lemmas.List.FromFn.{map-range_with_len_more}
use Rattle.quorum_sizes.specs.NodeSets.{Nodes}
use Rattle.link_frames.specs.frames.Packets.{PacketValue}
use Rattle.role_node.proofs.Exported.{legal_within}
use Rattle.role_node.specs.Configs.{ConfigValue}
use Rattle.role_node.specs.declared.event.Event.{Event}
use Rattle.role_node.specs.declared.event.Event.TheVariants as event
use Rattle.byz_world.specs.Pools.{pool}
use Rattle.byz_world.specs.Giving.{counts_now, IsGivable, IsProlongation, IsGivenOut}
use Rattle.byz_world.specs.Runs.{Run, history_of, IsClusterRun}
use Rattle.byz_world.specs.Settled.{IsProlonged, IsSettled, after_gives, after_pass, pass_adds, after_passes}
use Rattle.byz_world.specs.Settled.{longest_run, settled}
use Rattle.byz_world.specs.Steps.{arrival, arrives, given, is_pool_full, recorded_pair, with_run}
use Rattle.byz_world.specs.Steps.{after_step, after_steps}
use Rattle.byz_world.specs.Worlds.{WorldValue, is_correct_in, IsClusterRunOf}
use Rattle.byz_world.specs.declared.faults.WorldFault.TheVariants as fault
use Rattle.byz_world.specs.declared.step.Step.TheVariants.{Give}
use Rattle.byz_world.proofs.Elements.{contained, number_of}
use Rattle.byz_world.proofs.Pooled.{name_at}
use Rattle.byz_world.proofs.GivenOut.{given_out_is_at_rest, rest_is_given_out, wanted_at_full}
use Rattle.byz_world.specs.Resting.{IsAtRest}
use Rattle.byz_world.proofs.Prolonging.{total, total_most, total_more, prolonged_is_run}
use Rattle.byz_world.proofs.Prolonging.{first_given, rest_given}
use Rattle.byz_world.proofs.Pushing.{history_of-own, history_of-other}
use Rattle.byz_world.proofs.Stepping.{after_where, same_run, after_steps-none, after_steps-push}
use Rattle.byz_world.proofs.Telling.{correct_is_node}

-- A packet that is given.

-- it comes to a correct node, the pool has room, and it counts
abbrev pub goes_in : WorldValue → PacketValue → Bool
goes_in w p = is_correct_in w p.to && (not (is_pool_full w) && counts_now w.config w.run p)

abbrev pub pair_of : PacketValue → ℕ × Event
pair_of p = (p.to, event.Take p)

pairs_by : (w : WorldValue) (p : PacketValue) (a b c : Bool) → counts_now w.config w.run p ≡ c →
    recorded_pair w (if a then (if b then Err fault.PoolFull else Ok (Some (pair_of p))) else Ok None)
    ≡ (if a && (not b && c) then pair_of p ∷ [] else [])
pairs_by w p false b c e = refl
pairs_by w p true true c e = refl
pairs_by w p true false c e = ap (λ t. if t then pair_of p ∷ [] else []) e

pub arrived : (w : WorldValue) (p : PacketValue) →
    recorded_pair w (arrives w p) ≡ (if goes_in w p then pair_of p ∷ [] else [])
arrived w p = pairs_by w p (is_correct_in w p.to) (is_pool_full w) (counts_now w.config w.run p) refl

-- what a step that gives a packet adds to the run
abbrev pub added : WorldValue → ℕ → Run
added w k = recorded_pair w (arrival w (Give k))

one_or_none : (w : WorldValue) (k : ℕ) (o : Option PacketValue) → slice_get (pool w.config w.run) k ≡ o →
    (recorded_pair w (given w o) ≡ [])
    ⊎ ((p : PacketValue) × IsGivable w.config w.liars w.run p × (recorded_pair w (given w o) ≡ pair_of p ∷ []))
one_or_none w k None at = inl refl
one_or_none w k (Some p) at =
    by (is_correct_in w p.to) (is_pool_full w) (counts_now w.config w.run p) refl refl (arrived w p)
  where
    by : (a b c : Bool) → is_correct_in w p.to ≡ a → counts_now w.config w.run p ≡ c →
        recorded_pair w (arrives w p) ≡ (if a && (not b && c) then pair_of p ∷ [] else []) →
        (recorded_pair w (arrives w p) ≡ [])
        ⊎ ((q : PacketValue) × IsGivable w.config w.liars w.run q × (recorded_pair w (arrives w p) ≡ pair_of q ∷ []))
    by false b c correct counts is = inl is
    by true true c correct counts is = inl is
    by true false false correct counts is = inl is
    by true false true correct counts is = inr (
      p,
      record {
        sent = contained (pool w.config w.run) k p at;
        to = correct;
        counts = counts;
      },
      is,
    )

-- Runs that are prolonged.

pub prolonged_none : (w : WorldValue) → IsProlonged w w
prolonged_none w = ([], sym (same_run w), λ t pair at. absurd cc)

-- a packet before a prolongation
pub given_before : (config : ConfigValue) (liars : Nodes) (run more : Run) (pair : ℕ × Event) →
    (p : PacketValue) × IsGivable config liars run p × (pair ≡ (p.to, event.Take p)) →
    IsProlongation config liars (run ++ pair ∷ []) more → IsProlongation config liars run (pair ∷ more)
given_before config liars run more pair head tail zero next at =
    let same : pair ≡ next = cc in
    (head.0, subst (λ r. IsGivable config liars r head.0) (sym (append-nil run)) head.1, sym same ∙ head.2)
given_before config liars run more pair head tail (suc t) next at =
    let one = tail t next at in
    (one.0, subst (λ r. IsGivable config liars r one.0) (append_assoc run (pair ∷ []) (take t more)) one.1, one.2)

prolongation_more : (config : ConfigValue) (liars : Nodes) (run before later : Run) →
    IsProlongation config liars run before → IsProlongation config liars (run ++ before) later →
    IsProlongation config liars run (before ++ later)
prolongation_more config liars run [] later first then' =
    subst (λ r. IsProlongation config liars r later) (append-nil run) then'
prolongation_more config liars run (one ∷ before) later first then' =
    let split : run ++ one ∷ before ≡ (run ++ one ∷ []) ++ before = sym (append_assoc run (one ∷ []) before) in
    let tail : IsProlongation config liars (run ++ one ∷ []) before = rest_given config liars run before one first in
    let whole = prolongation_more config liars (run ++ one ∷ []) before later tail
    (subst (λ r. IsProlongation config liars r later) split then') in
    given_before config liars run (before ++ later) one (first_given config liars run before one first) whole

pub prolonged_more : (a b d : WorldValue) → IsProlonged a b → IsProlonged b d → IsProlonged a d
prolonged_more a b d first then' =
    let P : WorldValue → Type 0 = λ w. IsProlonged w d in
    let next : IsProlonged (with_run a (a.run ++ first.0)) d = subst P first.1 then' in (
      first.0 ++ next.0,
      next.1 ∙ ap (with_run a) (append_assoc a.run first.0 next.0),
      prolongation_more a.config a.liars a.run first.0 next.0 first.2 next.2,
    )

one_given : (config : ConfigValue) (liars : Nodes) (run : Run) (p : PacketValue) → IsGivable config liars run p →
    IsProlongation config liars run (pair_of p ∷ [])
one_given config liars run p givable zero pair at =
    let same : pair_of p ≡ pair = cc in
    (p, subst (λ r. IsGivable config liars r p) (sym (append-nil run)) givable, sym same)
one_given config liars run p givable (suc t) pair at = absurd cc

pub give_prolongs : (w : WorldValue) (k : ℕ) → IsProlonged w (after_step w (Give k))
give_prolongs w k =
    let after = after_where w (Give k) (arrival w (Give k)) refl in
    ⊎_elim
    (λ (none : added w k ≡ []).
    let same : after_step w (Give k) ≡ w = after ∙ ap (λ ps. with_run w (w.run ++ ps)) none ∙ same_run w in
    subst (IsProlonged w) (sym same) (prolonged_none w))
    (λ (one : (p : PacketValue) × IsGivable w.config w.liars w.run p × (added w k ≡ pair_of p ∷ [])). (
      pair_of one.0 ∷ [],
      after ∙ ap (λ ps. with_run w (w.run ++ ps)) one.2,
      one_given w.config w.liars w.run one.0 one.1,
    ))
    (one_or_none w k (slice_get (pool w.config w.run) k) refl)

pub gives_prolong : (w : WorldValue) (numbers : List ℕ) → IsProlonged w (after_steps w (map Give numbers))
unfolding after_steps
gives_prolong w [] = prolonged_none w
gives_prolong w (k ∷ numbers) =
    prolonged_more w (after_step w (Give k)) (after_steps (after_step w (Give k)) (map Give numbers))
    (give_prolongs w k) (gives_prolong (after_step w (Give k)) numbers)

-- what is prolonged is no shorter, and where it is no longer it is the same
prolonged-length : (a b : WorldValue) → IsProlonged a b → length a.run ≤ length b.run
prolonged-length a b first =
    omega (arith, ap (λ w. length w.run) first.1, length-append a.run first.0)

prolonged_same : (a b : WorldValue) → IsProlonged a b → length b.run ≤ length a.run → b ≡ a
prolonged_same a b first short =
    let none : first.0 ≡ [] =
    nil_from_length first.0 (omega (arith, ap (λ w. length w.run) first.1, length-append a.run first.0, short)) in
    first.1 ∙ ap (λ more. with_run a (a.run ++ more)) none ∙ same_run a

-- a world whose run was prolonged is one
pub prolonged_runs : (a b : WorldValue) → IsClusterRunOf a → IsProlonged a b → IsClusterRunOf b
prolonged_runs a b is first =
    subst IsClusterRunOf (sym first.1) (prolonged_is_run a.config a.liars a.run first.0 is first.2)

-- Passes.

-- where giving packets adds nothing, none of them would
none_added : (w : WorldValue) (numbers : List ℕ) → length (after_steps w (map Give numbers)).run ≤ length w.run →
    (j k : ℕ) → slice_get numbers j ≡ Some k → added w k ≡ []
unfolding after_steps
none_added w [] short j k at = absurd cc
none_added w (n ∷ numbers) short j k at =
    let next : WorldValue = after_step w (Give n) in
    let rest = prolonged-length next (after_steps next (map Give numbers)) (gives_prolong next numbers) in
    let after = after_where w (Give n) (arrival w (Give n)) refl in
    let long : length next.run ≡ length w.run + length (added w n) =
    ap (λ v. length v.run) after ∙ length-append w.run (added w n) in
    let first : added w n ≡ [] = nil_from_length (added w n) (omega (arith, rest, long, short)) in
    let same : next ≡ w = after ∙ ap (λ ps. with_run w (w.run ++ ps)) first ∙ same_run w in
    let P : WorldValue → Type 0 = λ v. length (after_steps v (map Give numbers)).run ≤ length w.run in
    by first (none_added w numbers (subst P same short)) j at
  where
    by : added w n ≡ [] → ((j k : ℕ) → slice_get numbers j ≡ Some k → added w k ≡ []) → (j : ℕ) →
        slice_get (n ∷ numbers) j ≡ Some k → added w k ≡ []
    by first rest zero at = let same : n ≡ k = cc in ap (added w) (sym same) ∙ first
    by first rest (suc j) at = rest j k at

pub pass_prolongs : (w : WorldValue) → IsProlonged w (after_pass w)
pass_prolongs w = gives_prolong w (range_with_len 0 (length (pool w.config w.run)))

-- where no packet of the pool counts, a pass leaves the world
prolonged_given_out : (w : WorldValue) (more : Run) → IsGivenOut w.config w.liars w.run →
    IsProlongation w.config w.liars w.run more → more ≡ []
prolonged_given_out w [] given_out is = refl
prolonged_given_out w (pair ∷ more) given_out is =
    let one = is 0 pair refl in
    let P : Run → Type 0 = λ run. IsGivable w.config w.liars run one.0 in
    let now : IsGivable w.config w.liars w.run one.0 = subst P (append-nil w.run) one.1 in
    let not' : counts_now w.config w.run one.0 ≡ false = given_out one.0 now.sent now.to in
    let counts : counts_now w.config w.run one.0 ≡ true = now.counts in
    absurd cc

pub rest_pass : (w : WorldValue) → IsClusterRunOf w → IsAtRest w.config w.liars w.run → after_pass w ≡ w
rest_pass w is rest =
    let first = pass_prolongs w in
    let none = prolonged_given_out w first.0 (rest_is_given_out w.config w.liars w.run is rest) first.2 in
    first.1 ∙ ap (λ more. with_run w (w.run ++ more)) none ∙ same_run w

less_itself : (n : ℕ) → nat_lt n n ≡ false
less_itself n = grind (arith, nat_tests)

pub rest_adds : (w : WorldValue) → after_pass w ≡ w → pass_adds w ≡ false
rest_adds w same = ap (λ (v : WorldValue). nat_lt (length w.run) (length v.run)) same ∙ less_itself (length w.run)

not_less : (a b : ℕ) → nat_lt a b ≡ false → b ≤ a
not_less a b e = grind (arith, nat_tests)

-- a pass that adds nothing leaves the world
pub idle_pass : (w : WorldValue) → pass_adds w ≡ false → after_pass w ≡ w
idle_pass w none = prolonged_same w (after_pass w) (pass_prolongs w) (not_less _ _ none)

uncounted_by : (a b c : Bool) (pair : ℕ × Event) → (if a && (not b && c) then pair ∷ [] else []) ≡ [] → a ≡ true →
    b ≡ false → c ≡ false
uncounted_by true false true pair e f g = absurd cc
uncounted_by true false false pair e f g = refl
uncounted_by true true c pair e f g = absurd cc
uncounted_by false b c pair e f g = absurd cc

-- .. and while the pool has room none of its packets counts
pub idle_pass_is_given_out : (w : WorldValue) → pass_adds w ≡ false → is_pool_full w ≡ false →
    IsGivenOut w.config w.liars w.run
idle_pass_is_given_out w none room p pooled correct =
    let packets : List PacketValue = pool w.config w.run in
    let at = number_of packets p pooled in
    let nothing : added w at.0 ≡ [] =
    none_added w (range_with_len 0 (length packets)) (not_less _ _ none) at.0 at.0
    (name_at (length packets) at.0 (slice_get_within packets at.0 p at.1)) in
    let given' : added w at.0 ≡ (if goes_in w p then pair_of p ∷ [] else []) =
    ap (λ o. recorded_pair w (given w o)) at.1 ∙ arrived w p in
    uncounted_by (is_correct_in w p.to) (is_pool_full w) (counts_now w.config w.run p) (pair_of p)
    (sym given' ∙ nothing) correct room

-- How long a run can be.

all_histories : (run : Run) (nodes : ℕ) → ((t node : ℕ) (e : Event) → slice_get run t ≡ Some (node, e) → node < nodes) →
    length run ≤ total (λ node. length (history_of node run)) nodes
all_histories [] nodes names = omega arith
all_histories (pair ∷ run) nodes names =
    let rest = all_histories run nodes (λ t node e at. names (suc t) node e at) in
    let own : length (history_of pair.0 run) + 1 ≤ length (history_of pair.0 (pair ∷ run)) =
    omega (arith, ap length (history_of-own pair.0 pair.1 run)) in
    let more = total_more (λ node. length (history_of node run)) (λ node. length (history_of node (pair ∷ run))) nodes
    pair.0 (λ node. longer node (pair.0 == node) refl) (names 0 pair.0 pair.1 refl) own in
    omega (arith, rest, more)
  where
    longer : (node : ℕ) (b : Bool) → (pair.0 == node) ≡ b →
        length (history_of node run) ≤ length (history_of node (pair ∷ run))
    longer node false other = omega (arith, ap length (history_of-other node pair run other))
    longer node true own =
        let same : pair.0 ≡ node = exact_unsigned_eq pair.0 node own in
        let P : ℕ → Type 0 = λ n. length (history_of n run) ≤ length (history_of n (pair ∷ run)) in
        subst P same (omega (arith, ap length (history_of-own pair.0 pair.1 run)))

pub run_is_short : (config : ConfigValue) (liars : Nodes) (run : Run) → IsClusterRun config liars run →
    length run ≤ longest_run config
run_is_short config liars run cluster =
    let nodes : ℕ = config.roles.sizes.nodes in
    let all = all_histories run nodes (λ t node e at.
    correct_is_node config.roles.sizes liars node (cluster.correct t node e at)) in
    let few = total_most (λ node. length (history_of node run)) nodes config.limit
    (λ node. legal_within config node (history_of node run) (cluster.legal node)) in
    omega (arith, all, few)

-- The last pass.

passes_idle : (most : ℕ) (w : WorldValue) → pass_adds w ≡ false → after_passes most w ≡ w
unfolding after_passes
passes_idle zero w none = refl
passes_idle (suc most) w none = ap (λ b. if b then after_passes most (after_pass w) else w) none

passes_on : (most : ℕ) (w : WorldValue) → pass_adds w ≡ true →
    after_passes (suc most) w ≡ after_passes most (after_pass w)
unfolding after_passes
passes_on most w adds = ap (λ b. if b then after_passes most (after_pass w) else w) adds

passes_over : (w : WorldValue) → after_passes 0 w ≡ w
unfolding after_passes
passes_over w = refl

passes_prolong : (most : ℕ) (w : WorldValue) → IsProlonged w (after_passes most w)
passes_prolong zero w = subst (IsProlonged w) (sym (passes_over w)) (prolonged_none w)
passes_prolong (suc most) w = by (pass_adds w) refl (passes_prolong most (after_pass w))
  where
    by : (b : Bool) → pass_adds w ≡ b → IsProlonged (after_pass w) (after_passes most (after_pass w)) →
        IsProlonged w (after_passes (suc most) w)
    by false none rest = subst (IsProlonged w) (sym (passes_idle (suc most) w none)) (prolonged_none w)
    by true adds rest = subst (IsProlonged w) (sym (passes_on most w adds))
        (prolonged_more w (after_pass w) (after_passes most (after_pass w)) (pass_prolongs w) rest)

less_not : (a b : ℕ) → b ≤ a → nat_lt a b ≡ false
less_not a b h = grind (arith, nat_tests)

same_config : (a b : WorldValue) → IsProlonged a b → b.config ≡ a.config
same_config a b first = ap (λ w. w.config) first.1

last_is_idle : (most : ℕ) (w : WorldValue) → IsClusterRunOf w → longest_run w.config ≤ length w.run + most →
    pass_adds (after_passes most w) ≡ false
last_is_idle zero w is long =
    let next = prolonged_runs w (after_pass w) is (pass_prolongs w) in
    let short = run_is_short (after_pass w).config (after_pass w).liars (after_pass w).run next in
    let same : longest_run (after_pass w).config ≡ longest_run w.config =
    ap longest_run (same_config w (after_pass w) (pass_prolongs w)) in
    ap pass_adds (passes_over w) ∙ less_not _ _ (omega (arith, short, same, long))
last_is_idle (suc most) w is long =
    by (pass_adds w) refl (last_is_idle most (after_pass w) (prolonged_runs w (after_pass w) is (pass_prolongs w)))
  where
    by : (b : Bool) → pass_adds w ≡ b → (longest_run (after_pass w).config ≤ length (after_pass w).run + most →
        pass_adds (after_passes most (after_pass w)) ≡ false) → pass_adds (after_passes (suc most) w) ≡ false
    by false none rest = ap pass_adds (passes_idle (suc most) w none) ∙ none
    by true adds rest =
        let same : longest_run (after_pass w).config ≡ longest_run w.config =
        ap longest_run (same_config w (after_pass w) (pass_prolongs w)) in
        let grown = ltb-true _ _ adds in
        ap pass_adds (passes_on most w adds) ∙ rest (omega (arith, same, long, grown))

pub settled_prolongs : (w : WorldValue) → IsProlonged w (settled w)
settled_prolongs w = passes_prolong (longest_run w.config) w

pub settled_is : (w : WorldValue) → IsClusterRunOf w → IsSettled (settled w)
settled_is w is =
    let idle : pass_adds (settled w) ≡ false = last_is_idle (longest_run w.config) w is (omega arith) in
    let runs = prolonged_runs w (settled w) is (settled_prolongs w) in
    record {
      given_out = idle_pass_is_given_out (settled w) idle;
      wanted = λ room. wanted_at_full (settled w).config (settled w).liars (settled w).run runs
          (idle_pass_is_given_out (settled w) idle room);
      rests = λ room histories.
          let both = given_out_is_at_rest (settled w).config (settled w).liars (settled w).run runs histories in
          both.0 (idle_pass_is_given_out (settled w) idle room);
    }

-- it keeps its configuration
pub settled-config : (w : WorldValue) → (settled w).config ≡ w.config
settled-config w = same_config w (settled w) (settled_prolongs w)

-- As the code has it.

-- so many passes were made, and what is left of them is due
pub record Passes (first : WorldValue) (longest count : ℕ) (w : WorldValue) : Type 0 where
  pub rest : after_passes (longest - count) w ≡ settled first
  pub within : count ≤ longest
  pub prolonged : IsProlonged first w
  pub cluster : IsClusterRunOf w

pub passes_first : (w : WorldValue) (longest : ℕ) → longest ≡ longest_run w.config → IsClusterRunOf w →
    Passes w longest 0 w
passes_first w longest is cluster = record {
  rest = ap (λ n. after_passes n w) (all longest ∙ is);
  within = omega arith;
  prolonged = prolonged_none w;
  cluster = cluster;
}
  where
    all : (n : ℕ) → n - 0 ≡ n
    all n = omega arith

pub passes_next : {first w : WorldValue} {longest count : ℕ} (after : WorldValue) → Passes first longest count w →
    count < longest → pass_adds w ≡ true → after ≡ after_pass w → Passes first longest (count + 1) after
passes_next {first} {w} {longest} {count} after passes more adds is = record {
  rest =
      ap (after_passes (longest - (count + 1))) is ∙ sym (passes_on (longest - (count + 1)) w adds)
      ∙ ap (λ n. after_passes n w) one ∙ passes.rest;
  within = omega (arith, more);
  prolonged = subst (IsProlonged first) (sym is)
      (prolonged_more first w (after_pass w) passes.prolonged (pass_prolongs w));
  cluster = subst IsClusterRunOf (sym is) (prolonged_runs w (after_pass w) passes.cluster (pass_prolongs w));
}
  where
    one : suc (longest - (count + 1)) ≡ longest - count
    one = omega (arith, more)

pub passes_ended : {first w : WorldValue} {longest count : ℕ} (after : WorldValue) → Passes first longest count w →
    pass_adds w ≡ false → after ≡ after_pass w → after ≡ settled first
passes_ended {first} {w} {longest} {count} after passes none is =
    is ∙ idle_pass w none ∙ sym (passes_idle (longest - count) w none) ∙ passes.rest

pub passes_all : {first w : WorldValue} {longest count : ℕ} → Passes first longest count w → longest ≤ count →
    w ≡ settled first
passes_all {first} {w} {longest} {count} passes over =
    let none : longest - count ≡ 0 = omega (arith, over) in
    sym (passes_over w) ∙ ap (λ n. after_passes n w) (sym none) ∙ passes.rest

-- what is known at the end
pub ended_settled : (first after : WorldValue) → IsClusterRunOf first → after ≡ settled first → IsSettled after
ended_settled first after is same = subst IsSettled (sym same) (settled_is first is)

pub ended_prolongs : (first after : WorldValue) → after ≡ settled first → IsProlonged first after
ended_prolongs first after same = subst (IsProlonged first) (sym same) (settled_prolongs first)

pub ended_no_shorter : (first after : WorldValue) → after ≡ settled first → length first.run ≤ length after.run
ended_no_shorter first after same = prolonged-length first after (ended_prolongs first after same)

-- one packet more is given
pub gives_next : (w : WorldValue) (first count number : ℕ) → first + count ≡ number →
    after_step (after_gives w first count) (Give number) ≡ after_gives w first (count + 1)
gives_next w first count number is =
    sym (ap (after_steps w) (map-range_with_len_more Give first count number is)
    ∙ after_steps-push w (map Give (range_with_len first count)) (Give number))

-- the first so many packets of the pool were given
pub record HasGiven (first : WorldValue) (end count : ℕ) (w : WorldValue) : Type 0 where
  pub after : w ≡ after_gives first 0 count
  pub within : count ≤ end
  pub cluster : IsClusterRunOf w

pub given_first : (w : WorldValue) (end : ℕ) → IsClusterRunOf w → HasGiven w end 0 w
given_first w end is = record { after = sym (after_steps-none w); within = omega arith; cluster = is }

pub given_next : {first w : WorldValue} {end count : ℕ} (after : WorldValue) → HasGiven first end count w →
    count < end → after ≡ after_step w (Give count) → IsClusterRunOf after → HasGiven first end (count + 1) after
given_next {first} {w} {end} {count} after was more is runs = record {
  after = is ∙ ap (λ v. after_step v (Give count)) was.after ∙ gives_next first 0 count count (omega arith);
  within = omega (arith, more);
  cluster = runs;
}

pub given_prolongs : {first w : WorldValue} {end count : ℕ} → HasGiven first end count w → IsProlonged first w
given_prolongs {first} {w} {end} {count} was =
    subst (IsProlonged first) (sym was.after) (gives_prolong first (range_with_len 0 count))

pub given_all : {first w : WorldValue} {end count : ℕ} → HasGiven first end count w → end ≤ count →
    end ≡ length (pool first.config first.run) → w ≡ after_pass first
given_all {first} {w} {end} {count} was over all =
    let same : count ≡ length (pool first.config first.run) = omega (arith, was.within, over, all) in
    was.after ∙ ap (after_gives first 0) same
