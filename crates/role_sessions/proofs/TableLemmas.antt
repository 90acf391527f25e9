-- The code's table of open sessions: what it says of each, and the answers that are kept in it.
use Rattle.std.proofs.Common.{◌≡◌, ℕ, ◌+◌, ◌<◌, ◌≤◌, min, Bool, true, false, cond, ◌==◌}
use Rattle.std.proofs.Common.{if◌then◌else◌, nat_eq, List, [], ◌∷◌, ◌++◌, map, filter}
use Rattle.std.proofs.Common.{length, All, Contains, Option, Some, None, is_some, Result, Ok, Err}
use Rattle.std.proofs.Common.{OnErr, refl, sym, ap, subst, ◌∙◌, eqb-true, eq-eqb, arith}
use Rattle.std.proofs.lemmas.Bool.{true≢false}
use Rattle.std.proofs.lemmas.Bool.Decides.{nat_tests}
use Rattle.std.proofs.lemmas.List.{length-map}
use Rattle.std.proofs.lemmas.List.Elements.{All-map}
use Rattle.std.proofs.lemmas.List.Elements.{All-nil, All-cons, All-head, All-tail, All-append, All-weaker, All-contains}
use Rattle.std.proofs.lemmas.List.Elements.{All-contains_itself, Contains-append_left, Contains-append_right}
use Rattle.std.specs.FinMap as finite
use Rattle.std.specs.List.{flat_map}
use Rattle.std.proofs.lemmas.Map.Steps.{set_value_same}
use Rattle.std.specs.Map.{lookup, keys_of, set_value}
use Rattle.std.specs.Option.{option_map, option_map_or, IfSome}
use Rattle.role_sessions.specs.declared.answers.Remembered.{Remembered}
use Rattle.role_sessions.specs.declared.open_session.OpenSession.{OpenSession}
use Rattle.role_sessions.specs.Sessions.{Session}
use Rattle.role_sessions.specs.Decisions.{Relations, verdict}
use Rattle.role_sessions.specs.inside.Changes.{changed_at}
use Rattle.role_sessions.specs.Kept.{KeptAnswer, KeptAreRight, KeepsRight}
use Rattle.role_sessions.specs.inside.Remembered.{last_generation, IsNothing, IsRightFor, IsPast, RemembersNothing}
use Rattle.role_sessions.specs.inside.Remembered.{RemembersRight, IsOfThePast, kept_in, Entries, sessions_in}
use Rattle.role_sessions.specs.inside.Remembered.{kept_by, OpenValue, open_value, as_sessions, IsTable}
use Rattle.rbac_state.proofs.Exported.{filter_none}
use Rattle.role_sessions.proofs.OpenLemmas.{map_of, get-map_of, map_of-written, map_of-absent, Gives, IsLong-none}
use Rattle.role_sessions.proofs.OpenLemmas.{IsLong-insert, IsLong-remove, IsLong-written}

-- ---- lists

-- what holds where the test passes holds of what the filter keeps
All-kept : {X : Type 0} (p : X → Bool) (P : X → Type 0) (xs : List X) → All (λ x. p x ≡ true → P x) xs
    → All P (filter p xs)
All-kept p P [] h = All-nil P
All-kept {X} p P (x ∷ xs) h = by (p x) refl (All-kept p P xs (All-tail (λ y. p y ≡ true → P y) x xs h))
  where
    by : (b : Bool) → p x ≡ b → All P (filter p xs) → All P (cond b (x ∷ filter p xs) (filter p xs))
    by true e rest = All-cons P x (filter p xs) (All-head (λ y. p y ≡ true → P y) x xs h e) rest
    by false e rest = rest

All-unkept : {X : Type 0} (p : X → Bool) (P : X → Type 0) (xs : List X) → All P (filter p xs)
    → All (λ x. p x ≡ true → P x) xs
All-unkept {X} p P [] h = All-nil (λ x. p x ≡ true → P x)
All-unkept {X} p P (x ∷ xs) h = by (p x) refl h (All-unkept p P xs)
  where
    Passing : X → Type 0
    Passing y = p y ≡ true → P y

    by : (b : Bool) → p x ≡ b → All P (cond b (x ∷ filter p xs) (filter p xs))
        → (All P (filter p xs) → All Passing xs) → All Passing (x ∷ xs)
    by true e all rest =
        All-cons Passing x xs (λ _. All-head P x (filter p xs) all) (rest (All-tail P x (filter p xs) all))
    by false e all rest = All-cons Passing x xs (λ t. absurd (true≢false (sym t ∙ e))) (rest all)

All-unmapped : {X Y : Type 0} (P : Y → Type 0) (f : X → Y) (xs : List X) → All P (map f xs) → All (λ x. P (f x)) xs
All-unmapped P f [] h = All-nil (λ x. P (f x))
All-unmapped P f (x ∷ xs) h =
    All-cons (λ y. P (f y)) x xs (All-head P (f x) (map f xs) h)
    (All-unmapped P f xs (All-tail P (f x) (map f xs) h))

All-flat : {A : Type 0} (P : A → Type 0) (f : ℕ → List A) (ids : List ℕ) → ((id : ℕ) → All P (f id))
    → All P (flat_map f ids)
All-flat P f [] h = All-nil P
All-flat P f (id ∷ ids) h = All-append P (f id) (flat_map f ids) (h id) (All-flat P f ids h)

left : {A : Type 0} (P : A → Type 0) (xs ys : List A) → All P (xs ++ ys) → All P xs
left P xs ys h =
    All-weaker (Contains xs) P (λ x there. All-contains P (xs ++ ys) x h (Contains-append_left xs ys x there)) xs
    (All-contains_itself xs)

right : {A : Type 0} (P : A → Type 0) (xs ys : List A) → All P (xs ++ ys) → All P ys
right P xs ys h =
    All-weaker (Contains ys) P (λ y there. All-contains P (xs ++ ys) y h (Contains-append_right xs ys y there)) ys
    (All-contains_itself ys)

flat-none : {A : Type 0} (f : ℕ → List A) (ids : List ℕ) → ((id : ℕ) → f id ≡ []) → flat_map f ids ≡ []
flat-none f [] h = refl
flat-none f (id ∷ ids) h = (λ i. h id i ++ flat-none f ids h i)

-- ---- look-ups

lookup-sessions_in : (q : ℕ) (es : Entries)
    → lookup (nat_eq q) (sessions_in es) ≡ option_map (λ (o : OpenSession). o.session) (lookup (nat_eq q) es)
lookup-sessions_in q [] = refl
lookup-sessions_in q (e ∷ es) = by (nat_eq q e.0) (lookup-sessions_in q es)
  where
    by : (b : Bool)
        → lookup (nat_eq q) (sessions_in es) ≡ option_map (λ (o : OpenSession). o.session) (lookup (nat_eq q) es)
        → cond b (Some e.1.session) (lookup (nat_eq q) (sessions_in es))
        ≡ option_map (λ (o : OpenSession). o.session) (cond b (Some e.1) (lookup (nat_eq q) es))
    by true h = refl
    by false h = h

pub gives-sessions_in : (old new : Entries) (id : ℕ) (w : Option OpenSession) → Gives id w old new
    → Gives id (option_map (λ (o : OpenSession). o.session) w) (sessions_in old) (sessions_in new)
gives-sessions_in old new id w gives q =
    lookup-sessions_in q new ∙ ap (option_map (λ (o : OpenSession). o.session)) (gives q) ∙ by (nat_eq id q)
  where
    by : (b : Bool)
        → option_map (λ (o : OpenSession). o.session) (cond b w (lookup (nat_eq q) old))
        ≡ cond b (option_map (λ (o : OpenSession). o.session) w) (lookup (nat_eq q) (sessions_in old))
    by true = refl
    by false = sym (lookup-sessions_in q old)

pub here-sessions_in : (es : Entries) (id : ℕ) (o : OpenSession) → Some o ≡ lookup (nat_eq id) es
    → Some o.session ≡ lookup (nat_eq id) (sessions_in es)
here-sessions_in es id o here =
    ap (option_map (λ (x : OpenSession). x.session)) here ∙ sym (lookup-sessions_in id es)

pub absent-sessions_in : (es : Entries) (id : ℕ) → None ≡ lookup (nat_eq id) es
    → None ≡ lookup (nat_eq id) (sessions_in es)
absent-sessions_in es id absent =
    ap (option_map (λ (x : OpenSession). x.session)) absent ∙ sym (lookup-sessions_in id es)

pub get-sessions_in : (es : Entries) (id : ℕ)
    → finite.get (map_of (sessions_in es)) id ≡ option_map (λ (o : OpenSession). o.session) (lookup (nat_eq id) es)
get-sessions_in es id = get-map_of (sessions_in es) id ∙ lookup-sessions_in id es

-- it holds of each session that a look-up finds
abbrev pub AllOf : (OpenSession → Type 0) → Entries → Type 0
AllOf A es = (q : ℕ) (o : OpenSession) → lookup (nat_eq q) es ≡ Some o → A o

pub AllOf-given : (A : OpenSession → Type 0) (old new : Entries) (id : ℕ) (w : Option OpenSession) → Gives id w old new
    → ((o : OpenSession) → w ≡ Some o → A o) → AllOf A old → AllOf A new
AllOf-given A old new id w gives here rest q o found = by (nat_eq id q) (sym (gives q) ∙ found)
  where
    by : (b : Bool) → cond b w (lookup (nat_eq q) old) ≡ Some o → A o
    by true e = here o e
    by false e = rest q o e

pub the_one : (A : OpenSession → Type 0) (o : OpenSession) → A o → (x : OpenSession) → Some o ≡ Some x → A x
the_one A o h x e = let same : o ≡ x = cc in subst A same h

-- ---- what is kept

-- a kept answer is the verdict in the session that has its id
abbrev IsRightIn : Relations → Entries → KeptAnswer → Type 0
IsRightIn relations es k =
    IfSome (finite.get (map_of (sessions_in es)) k.session) (λ session.
    k.answer ≡ verdict relations (Some session) session.user k.operation k.object)

-- the same of an answer that is remembered, in this session
abbrev IsRightOf : Relations → Option Session → Remembered → Type 0
IsRightOf relations found r =
    IfSome found (λ session. r.answer ≡ verdict relations (Some session) session.user r.operation r.object)

module _ (relations : Relations) (generation id : ℕ) (es : Entries) (o : OpenSession)
    (found : lookup (nat_eq id) es ≡ Some o) where
  is : finite.get (map_of (sessions_in es)) id ≡ Some o.session
  is = get-sessions_in es id ∙ ap (option_map (λ (x : OpenSession). x.session)) found

  kept_in-right : RemembersRight relations generation o → All (IsRightIn relations es) (kept_in generation id o)
  kept_in-right h =
      All-map (IsRightIn relations es) (λ (r : Remembered). record {
        session = id;
        operation = r.operation;
        object = r.object;
        answer = r.answer;
      }) (filter (λ (r : Remembered). r.generation == generation) o.answers.places)
      (All-kept (λ (r : Remembered). r.generation == generation)
      (IsRightOf relations (finite.get (map_of (sessions_in es)) id)) o.answers.places
      (All-weaker (IsRightFor relations generation o.session)
      (λ r. (r.generation == generation) ≡ true
      → IsRightOf relations (finite.get (map_of (sessions_in es)) id) r)
      (λ r holds live. subst (λ s. IsRightOf relations s r) (sym is) (holds (eqb-true r.generation generation live)))
      o.answers.places h))

  right-kept_in : All (IsRightIn relations es) (kept_in generation id o) → RemembersRight relations generation o
  right-kept_in h =
      All-weaker (λ (r : Remembered). (r.generation == generation) ≡ true
      → IsRightOf relations (finite.get (map_of (sessions_in es)) id) r) (IsRightFor relations generation o.session)
      (λ r holds live. subst (λ s. IsRightOf relations s r) is (holds (eq-eqb r.generation generation live)))
      o.answers.places
      (All-unkept (λ (r : Remembered). r.generation == generation)
      (IsRightOf relations (finite.get (map_of (sessions_in es)) id)) o.answers.places
      (All-unmapped (IsRightIn relations es) (λ (r : Remembered). record {
        session = id;
        operation = r.operation;
        object = r.object;
        answer = r.answer;
      }) (filter (λ (r : Remembered). r.generation == generation) o.answers.places) h))

-- what is kept is right where each session remembers what is right
pub kept_from : (relations : Relations) (generation : ℕ) (es : Entries) → AllOf (RemembersRight relations generation) es
    → KeptAreRight relations (as_sessions (open_value generation es))
unfolding kept_by
kept_from relations generation es h =
    All-flat (IsRightIn relations es)
    (λ id. option_map_or (kept_in generation id) (lookup (nat_eq id) es) []) (keys_of es)
    (λ id. by id (lookup (nat_eq id) es) refl)
  where
    by : (id : ℕ) (found : Option OpenSession) → lookup (nat_eq id) es ≡ found
        → All (IsRightIn relations es) (option_map_or (kept_in generation id) found [])
    by id None e = All-nil (IsRightIn relations es)
    by id (Some o) e = kept_in-right relations generation id es o e (h id o e)

in_flat : {A : Type 0} (P : A → Type 0) (f : ℕ → List A) (es : Entries) (id : ℕ) (o : OpenSession)
    → lookup (nat_eq id) es ≡ Some o → All P (flat_map f (keys_of es)) → All P (f id)
in_flat P f [] id o found h = absurd (cc)
in_flat P f (e ∷ es) id o found h = by (nat_eq id e.0) refl found (in_flat P f es id o)
  where
    by : (b : Bool) → nat_eq id e.0 ≡ b → cond b (Some e.1) (lookup (nat_eq id) es) ≡ Some o
        → (lookup (nat_eq id) es ≡ Some o → All P (flat_map f (keys_of es)) → All P (f id)) → All P (f id)
    by true same at rest =
        subst (λ q. All P (f q)) (sym (eqb-true id e.0 same)) (left P (f e.0) (flat_map f (keys_of es)) h)
    by false other at rest = rest at (right P (f e.0) (flat_map f (keys_of es)) h)

pub kept_at : (relations : Relations) (generation : ℕ) (es : Entries)
    → KeptAreRight relations (as_sessions (open_value generation es)) → AllOf (RemembersRight relations generation) es
unfolding kept_by
kept_at relations generation es h id o found =
    let here = in_flat (IsRightIn relations es)
    (λ q. option_map_or (kept_in generation q) (lookup (nat_eq q) es) []) es id o found h in
    right-kept_in relations generation id es o found
    (subst (λ x. All (IsRightIn relations es) (option_map_or (kept_in generation id) x [])) found here)

-- ---- what the calls do to it

nothing_is_right : (relations : Relations) (generation : ℕ) (o : OpenSession) → 1 ≤ generation → RemembersNothing o
    → RemembersRight relations generation o
nothing_is_right relations generation o started h =
    All-weaker IsNothing (IsRightFor relations generation o.session)
    (λ r none live. absurd (never r.generation none live)) o.answers.places h
  where
    never : (g : ℕ) → g ≡ 0 → g ≡ generation → ⊥
    never g none live = omega arith

pub nothing_is_past : (generation : ℕ) (o : OpenSession) → RemembersNothing o → IsOfThePast generation o
nothing_is_past generation o h =
    All-weaker IsNothing (IsPast generation) (λ r none. past r.generation none) o.answers.places h
  where
    past : (g : ℕ) → g ≡ 0 → (g ≤ generation) × (g < last_generation)
    past g none = (omega arith, omega arith)

-- a session that remembers nothing is written, or taken out
module _ (generation : ℕ) (old new : Entries) (id : ℕ) (w : Option OpenSession) (gives : Gives id w old new)
    (nothing : (o : OpenSession) → w ≡ Some o → RemembersNothing o) (table : IsTable generation old) where
  pub keeps_given : KeepsRight (as_sessions (open_value generation old)) (as_sessions (open_value generation new))
  keeps_given =
      λ relations are. kept_from relations generation new
      (AllOf-given (RemembersRight relations generation) old new id w gives
      (λ o e. nothing_is_right relations generation o table.started (nothing o e))
      (kept_at relations generation old are))

  past_given : AllOf (IsOfThePast generation) new
  past_given =
      AllOf-given (IsOfThePast generation) old new id w gives (λ o e. nothing_is_past generation o (nothing o e))
      table.past

is_some-sessions_in : (es : Entries) (id : ℕ)
    → is_some (lookup (nat_eq id) (sessions_in es)) ≡ is_some (lookup (nat_eq id) es)
is_some-sessions_in es id = ap is_some (lookup-sessions_in id es) ∙ by (lookup (nat_eq id) es)
  where
    by : (o : Option OpenSession) → is_some (option_map (λ (x : OpenSession). x.session) o) ≡ is_some o
    by None = refl
    by (Some o) = refl

length-sessions_in : (es : Entries) → length (sessions_in es) ≡ length es
length-sessions_in es = length-map es (λ e. (e.0, e.1.session))

pub table_of_none : IsTable 1 []
table_of_none =
    record {
      long = IsLong-none;
      started = omega arith;
      within = omega arith;
      past = λ id o found. absurd (cc);
    }

pub table_length : (generation : ℕ) (es : Entries) → IsTable generation es
    → length es ≡ finite.len (map_of (sessions_in es))
table_length generation es table = sym (length-sessions_in es) ∙ sym table.long

pub table-insert : (generation : ℕ) (old new : Entries) (id : ℕ) (o : OpenSession) → IsTable generation old
    → RemembersNothing o → Gives id (Some o) old new
    → length new ≡ length old + (if is_some (lookup (nat_eq id) old) then 0 else 1) → IsTable generation new
table-insert generation old new id o table nothing gives len =
    record {
      long =
          IsLong-insert (sessions_in old) (sessions_in new) id o.session table.long
          (gives-sessions_in old new id (Some o) gives)
          (length-sessions_in new ∙ len
          ∙ (λ i. sym (length-sessions_in old) i + (if sym (is_some-sessions_in old id) i then 0 else 1)));
      started = table.started;
      within = table.within;
      past = past_given generation old new id (Some o) gives (the_one RemembersNothing o nothing) table;
    }

pub table-remove : (generation : ℕ) (old new : Entries) (id : ℕ) → IsTable generation old → Gives id None old new
    → length new + (if is_some (lookup (nat_eq id) old) then 1 else 0) ≡ length old → IsTable generation new
table-remove generation old new id table gives len =
    record {
      long =
          IsLong-remove (sessions_in old) (sessions_in new) id table.long (gives-sessions_in old new id None gives)
          ((λ i. length-sessions_in new i + (if is_some-sessions_in old id i then 1 else 0))
          ∙ len ∙ sym (length-sessions_in old));
      started = table.started;
      within = table.within;
      past = past_given generation old new id None gives (λ o e. absurd (cc)) table;
    }

-- the session at the id is written anew
pub table-written : (generation : ℕ) (old new : Entries) (id : ℕ) (o w : OpenSession) → IsTable generation old
    → Some o ≡ lookup (nat_eq id) old → Gives id (Some w) old new → length new ≡ length old
    → IsOfThePast generation w → IsTable generation new
table-written generation old new id o w table here gives len past =
    record {
      long =
          IsLong-written (sessions_in old) (sessions_in new) id o.session w.session (here-sessions_in old id o here)
          (gives-sessions_in old new id (Some w) gives) table.long
          (length-sessions_in new ∙ len ∙ sym (length-sessions_in old));
      started = table.started;
      within = table.within;
      past = AllOf-given (IsOfThePast generation) old new id (Some w) gives (the_one (IsOfThePast generation) w past)
          table.past;
    }

-- ---- a session is changed

pub keeps_same : (old new : OpenValue) → new ≡ old → KeepsRight (as_sessions old) (as_sessions new)
keeps_same old new same = λ relations. subst (λ v. KeptAreRight relations (as_sessions v)) (sym same)

-- the table as a caller sees it, of which the session of this id is changed
pub record IsChanged (old new : OpenValue) (id : ℕ) (change : Session → Session) : Type 0 where
  pub sessions : new.sessions ≡ changed_at old.sessions id change
  pub kept : KeepsRight (as_sessions old) (as_sessions new)

module _ (generation : ℕ) (value : OpenValue) (old new : Entries) (id : ℕ) (change : Session → Session)
    (view : open_value generation old ≡ value) where
  -- the session is written anew, and remembers nothing
  pub changed-written : IsTable generation old → (o w : OpenSession) → Some o ≡ lookup (nat_eq id) old
      → Gives id (Some w) old new → RemembersNothing w → w.session ≡ change o.session
      → IsChanged value (open_value generation new) id change
  changed-written table o w here gives nothing is =
      subst (λ v. IsChanged v (open_value generation new) id change) view (record {
        sessions =
            map_of-written (sessions_in old) (sessions_in new) id o.session w.session (here-sessions_in old id o here)
            (gives-sessions_in old new id (Some w) gives) change is;
        kept = keeps_given generation old new id (Some w) gives (the_one RemembersNothing w nothing) table;
      })

  -- no session has the id
  pub changed-absent : None ≡ lookup (nat_eq id) old → new ≡ old
      → IsChanged value (open_value generation new) id change
  changed-absent absent same =
      subst (λ v. IsChanged v (open_value generation new) id change) view (record {
        sessions =
            ap (λ es. map_of (sessions_in es)) same
            ∙ map_of-absent (sessions_in old) id change (absent-sessions_in old id absent);
        kept = keeps_same _ _ (ap (open_value generation) same);
      })

-- ---- forgotten

-- the generation after this one
module _ (generation next : ℕ) (is : next ≡ min (generation + 1) last_generation) where
  forgotten_in : (id : ℕ) (o : OpenSession) → IsOfThePast generation o → kept_in next id o ≡ []
  forgotten_in id o past =
      ap (map (λ (r : Remembered). record {
        session = id;
        operation = r.operation;
        object = r.object;
        answer = r.answer;
      }))
      (filter_none (λ (r : Remembered). r.generation == next) o.answers.places
      (All-weaker (IsPast generation) (λ r. (r.generation == next) ≡ false) (λ r p. apart r.generation p.0 p.1)
      o.answers.places past))
    where
      apart : (g : ℕ) → g ≤ generation → g < last_generation → (g == next) ≡ false
      apart g before ended = let below : g < next = omega (arith, is) in grind (arith, nat_tests)

  -- nothing is kept
  pub forgotten : (es : Entries) → IsTable generation es → kept_by next es ≡ []
  unfolding kept_by
  forgotten es table =
      flat-none (λ id. option_map_or (kept_in next id) (lookup (nat_eq id) es) []) (keys_of es)
      (λ id. by id (lookup (nat_eq id) es) refl)
    where
      by : (id : ℕ) (found : Option OpenSession) → lookup (nat_eq id) es ≡ found
          → option_map_or (kept_in next id) found [] ≡ []
      by id None e = refl
      by id (Some o) e = forgotten_in id o (table.past id o e)

  pub table-forget : (es : Entries) → IsTable generation es → IsTable next es
  table-forget es table =
      let more : generation ≤ next = omega (arith, is, table.within) in
      record {
        long = table.long;
        started = omega (arith, more, table.started);
        within = omega (arith, is);
        past = λ id o found. All-weaker (IsPast generation) (IsPast next) (λ r p. (omega (arith, p.0, more), p.1))
            o.answers.places (table.past id o found);
      }

-- ---- as the model sees it

pub kept_by-none : (generation : ℕ) → kept_by generation [] ≡ []
unfolding kept_by
kept_by-none generation = refl

-- what stood there, written anew, changes nothing
pub written_back : (old new : Entries) (id : ℕ) (o w : OpenSession) → Some o ≡ lookup (nat_eq id) old
    → new ≡ set_value (nat_eq id) old w → w ≡ o → new ≡ old
written_back old new id o w here is same =
    is ∙ ap (set_value (nat_eq id) old) same ∙ set_value_same (nat_eq id) old o (sym here)

pub on_err : {X E P : Type 0} (r : Result X E) → P → OnErr r P
on_err (Ok x) p = tt
on_err (Err e) p = p
