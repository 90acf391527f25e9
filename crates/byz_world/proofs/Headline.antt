-- The promise, from the laws of every run and the rules of a decision.
use Rattle.std.proofs.Common.{◌≡◌, ◌≢◌, ℕ, zero, suc, Bool, true, false, not, ◌==◌, if◌then◌else◌}
use Rattle.std.proofs.Common.{List, [], ◌∷◌, length, take, find, filter, slice_get, Contains, Option}
use Rattle.std.proofs.Common.{Some, None, refl, sym, ap, ◌∙◌, subst, ◌≤◌, arith, eqb-true, subst₂, All, IsSomeAnd}
use Rattle.std.proofs.lemmas.Bool.{not-true, not-false, eqb-false, ltb-false}
use Rattle.role_commands.specs.declared.command.Command.{Command}
use Rattle.role_sessions.specs.Sessions.{Session}
use Rattle.role_sessions.specs.Decisions.{Relations, SessionMay, counted_roles, verdict, allowed}
use Rattle.role_sessions.specs.declared.verdict.Rule.{Rule}
use Rattle.role_sessions.specs.declared.verdict.Rule.TheVariants.{NoSession, NotYours, NoActiveRole}
use Rattle.role_sessions.specs.declared.verdict.Rule.TheVariants.{NoneAssigned, NotPermitted}
use Rattle.role_sessions.specs.declared.verdict.Verdict.{Verdict}
use Rattle.role_sessions.specs.declared.verdict.Verdict.TheVariants.{Allow, Deny}
use Rattle.byz_world.specs.Headline.{IsFirstRule, IsRightDecision, Headline}
use Rattle.byz_world.specs.AfterSteps.{HeadlineOfSteps}
use Rattle.byz_world.specs.Runs.{stream_of}
use Rattle.byz_world.specs.Runs.{history_of, IsClusterRun}
use Rattle.byz_world.specs.Steps.{after_step, after_steps, IsSoundStep}
use Rattle.byz_world.specs.Worlds.{WorldValue, new_world, too_many_lie}
use Rattle.byz_world.specs.declared.step.Step.{Step}
use Rattle.quorum_sizes.specs.Sizes.{AreSizes}
use Rattle.quorum_sizes.specs.NodeSets.{Nodes}
use Rattle.role_node.specs.Configs.{ConfigValue}
use Rattle.std.proofs.lemmas.Option.{get_or_from_slice_get, slice_get_within}
use Rattle.role_node.specs.Access.{relations_at, session_at}
use Rattle.byz_world.proofs.Elements.{number_of}
use Rattle.byz_world.proofs.Lists.{found_there}
use Rattle.byz_world.proofs.Safety.{integrity, deliver_one, streamed}
use Rattle.byz_world.proofs.Growing.{empty_run}
use Rattle.byz_world.proofs.Stepping.{after_steps_runs}

empty_if : (xs : List ℕ) → (length xs == 0) ≡ true → xs ≡ []
empty_if [] is = refl
empty_if (x ∷ xs) is = absurd (let e : length (x ∷ xs) ≡ 0 = eqb-true (length (x ∷ xs)) 0 is in omega arith)

some_if : (xs : List ℕ) → (length xs == 0) ≡ false → xs ≢ []
some_if xs is empty = eqb-false (length xs) 0 is (ap length empty)

none_in : (xs : List ℕ) (x : ℕ) → xs ≡ [] → Contains xs x → ⊥
none_in [] x is found = omega (arith, found.1)
none_in (y ∷ xs) x is found = cc

by_rule : (P : Rule → Type 0) (v : Verdict) (is rule : Rule) → v ≡ Deny is → v ≡ Deny rule → P is → P rule
by_rule P v is rule e f p = let same : is ≡ rule = cc in subst P same p

module _ (relations : Relations) (user operation object : ℕ) where
  abbrev may : ℕ → Bool
  may = relations.granted operation object

  abbrev Allows : Session → Verdict → Type 0
  Allows session v =
      (role : ℕ) → v ≡ Allow role → (session.user ≡ user) × (find may (counted_roles relations session) ≡ Some role)

  abbrev Denies : Option Session → Verdict → Type 0
  Denies found v = (rule : Rule) → v ≡ Deny rule → IsFirstRule relations found user operation object rule

  -- by the tests of a decision, in the order of the rules
  parts_by : (session : Session) (a b c : Bool) (o : Option ℕ) → not (session.user == user) ≡ a →
      (length session.active == 0) ≡ b → (length (counted_roles relations session) == 0) ≡ c →
      find may (counted_roles relations session) ≡ o → (v : Verdict) →
      v ≡ (if a then Deny NotYours else
      (if b then Deny NoActiveRole else (if c then Deny NoneAssigned else allowed o))) →
      Allows session v × Denies (Some session) v
  parts_by session true b c o a_is b_is c_is o_is v is = (
    λ role e. absurd cc,
    λ rule e. by_rule
        (IsFirstRule relations (Some session) user operation object) v NotYours rule is e
        (eqb-false session.user user (not-true _ a_is)),
  )
  parts_by session false true c o a_is b_is c_is o_is v is = (
    λ role e. absurd cc,
    λ rule e. by_rule
        (IsFirstRule relations (Some session) user operation object) v NoActiveRole rule is e
        (eqb-true session.user user (not-false _ a_is), empty_if session.active b_is),
  )
  parts_by session false false true o a_is b_is c_is o_is v is = (
    λ role e. absurd cc,
    λ rule e. by_rule
        (IsFirstRule relations (Some session) user operation object) v NoneAssigned rule is e (
          eqb-true session.user user (not-false _ a_is),
          some_if session.active b_is,
          empty_if (counted_roles relations session) c_is,
        ),
  )
  parts_by session false false false None a_is b_is c_is o_is v is = (
    λ role e. absurd cc,
    λ rule e. by_rule
        (IsFirstRule relations (Some session) user operation object) v NotPermitted rule is e (
          eqb-true session.user user (not-false _ a_is),
          some_if (counted_roles relations session) c_is,
          λ (h : SessionMay relations session operation object).
              let at = number_of (counted_roles relations session) h.0 h.1 in
              let found = found_there may (counted_roles relations session) h.0 at.0 at.1 h.2 in
              let clash : None ≡ Some found.0 = sym o_is ∙ found.1 in
              absurd cc,
        ),
  )
  parts_by session false false false (Some chosen) a_is b_is c_is o_is v is = (
    λ role e. (
      eqb-true session.user user (not-false _ a_is),
      let same : chosen ≡ role = cc in o_is
          ∙ ap Some same,
    ),
    λ rule e. absurd cc,
  )

  -- a rule that denies leaves no counted role that may
  denied : (session : Session) (rule : Rule) → IsFirstRule relations (Some session) user operation object rule →
      (session.user ≡ user) × SessionMay relations session operation object → ⊥
  denied session NoSession first h = absurd cc
  denied session NotYours first h = first h.0
  denied session NoActiveRole first h =
      none_in (counted_roles relations session) h.1.0 (ap (filter (relations.assigned session.user)) first.1) h.1.1
  denied session NoneAssigned first h = none_in (counted_roles relations session) h.1.0 first.2 h.1.1
  denied session NotPermitted first h = first.2 h.1

  allowed_by : (session : Session) (v : Verdict) → Denies (Some session) v
      → (session.user ≡ user) × SessionMay relations session operation object →
      (role : ℕ) × (v ≡ Allow role)
  allowed_by session (Allow role) denies h = (role, refl)
  allowed_by session (Deny rule) denies h = absurd (denied session rule (denies rule refl) h)

  pub right_decision : (found : Option Session)
      → IsRightDecision relations found user operation object (verdict relations found user operation object)
  right_decision None = record {
    allows = λ h. absurd h;
    in_a_role = λ role e. absurd cc;
    denies = λ rule e. by_rule (IsFirstRule relations None user operation object)
        (Deny NoSession) NoSession rule refl e refl;
  }
  right_decision (Some session) =
      let parts = parts_by session _ _ _ _ refl refl refl refl
      (verdict relations (Some session) user operation object) refl in
      record { allows = allowed_by session _ parts.1; in_a_role = parts.0; denies = parts.1 }

-- lists of which no two elements at one place differ begin alike
alike : (n : ℕ) (xs ys : List Command) → n ≤ length xs → n ≤ length ys →
    ((k : ℕ) (c d : Command) → slice_get xs k ≡ Some c → slice_get ys k ≡ Some d → c ≡ d) → take n xs ≡ take n ys
alike zero xs ys in_xs in_ys same = refl
alike (suc n) [] ys in_xs in_ys same = absurd (omega arith)
alike (suc n) (x ∷ xs) [] in_xs in_ys same = absurd (omega arith)
alike (suc n) (x ∷ xs) (y ∷ ys) in_xs in_ys same =
    let first : x ≡ y = same zero x y refl refl in
    let rest : take n xs ≡ take n ys = alike n xs ys (omega arith) (omega arith) (λ k c d e f. same (suc k) c d e f) in
    λ i. first i ∷ rest i

-- Steps change nothing of a world but its run.

config_stays : (w : WorldValue) (steps : List Step) → (after_steps w steps).config ≡ w.config
unfolding after_step after_steps
config_stays w [] = refl
config_stays w (step ∷ steps) = config_stays (after_step w step) steps

liars_stay : (w : WorldValue) (steps : List Step) → (after_steps w steps).liars ≡ w.liars
unfolding after_step after_steps
liars_stay w [] = refl
liars_stay w (step ∷ steps) = liars_stay (after_step w step) steps

each_sound : (steps : List Step) → All IsSoundStep steps → (k : ℕ) (step : Step) → slice_get steps k ≡ Some step
    → IsSoundStep step
each_sound steps all k step e =
    subst IsSoundStep (get_or_from_slice_get steps k step step e) (all k step (slice_get_within steps k step e))

run_of_steps : (config : ConfigValue) (liars : Nodes) (steps : List Step) → AreSizes config.roles.sizes →
    too_many_lie config.roles.sizes liars ≡ false → All IsSoundStep steps →
    IsClusterRun config liars (after_steps (new_world config liars) steps).run
run_of_steps config liars steps sizes few sound =
    let w : WorldValue = new_world config liars in
    let is = after_steps_runs w steps (empty_run config liars sizes (ltb-false _ _ few)) (each_sound steps sound) in
    subst₂ (λ c l. IsClusterRun c l (after_steps w steps).run) (config_stays w steps) (liars_stay w steps) is

-- what is right of a correct node's decision is right of what it answers
answered : {b : Bool} (P : Verdict → Type 0) (v : Verdict) → b ≡ true → P v → IsSomeAnd (if b then Some v else None) P
answered {b} P v correct right = subst (λ t. IsSomeAnd (if t then Some v else None) P) (sym correct) right

pub headline : Headline
headline config liars run cluster =
    record {
      decisions = λ node session user operation object correct.
          let relations = relations_at config.roles (history_of node run) in
          let found = session_at (history_of node run) session in
          answered _ (verdict relations found user operation object) correct
          (right_decision relations user operation object found);
      streams_agree = λ i j owner _ _.
          alike _ (stream_of config run i owner) (stream_of config run j owner) (omega arith) (omega arith)
          (λ k c d e f.
          deliver_one config liars run cluster i j owner k c d
          (streamed config liars run cluster i owner k c e) (streamed config liars run cluster j owner k d f));
      nothing_forged = λ i owner correct sender. integrity config liars run i owner cluster correct sender;
    }

pub headline_of_steps : HeadlineOfSteps
headline_of_steps config liars steps sizes few are =
    let cluster = run_of_steps config liars steps sizes few are in
    record { is_run = cluster; keeps = headline config liars (after_steps (new_world config liars) steps).run cluster }
