-- The entries of an `IndexMap` of sessions are a finite map.
use Rattle.std.proofs.Common.{◌≡◌, ◌≢◌, ℕ, ◌+◌, ◌-◌, Bool, true, false, cond, ◌==◌, if◌then◌else◌, ◌⊎◌, nat_eq, List}
use Rattle.std.proofs.Common.{[], ◌∷◌, length, Option, Some, None, is_some, refl, sym, ap, ◌∙◌, inl, inr, arith}
use Rattle.std.proofs.lemmas.Bool.Decides.{eqb_tells}
use Rattle.std.specs.Cmp.{nat_cmp_total, nat_eq_equiv, unsigned_tied}
use Rattle.std.specs.FinMap as map
use Rattle.std.specs.FinMap.{find, get-from_entries, len-insert, len-remove}
use Rattle.std.specs.FinMap.{len-empty, same_map, nat_cmp-IsAntisymmetric}
use Rattle.std.specs.Map.{lookup}
use Rattle.std.specs.Option.{option_map_or}
use Rattle.std.specs.Ordering.{nat_cmp}
use Rattle.role_sessions.specs.Sessions.{Session}
use Rattle.role_sessions.specs.inside.Changes.{changed_at}
use Rattle.role_sessions.proofs.StateLemmas.{get-inserted, get-removed}

abbrev Entries : Type 0
Entries = List (ℕ × Session)

-- the finite map of the entries
abbrev pub map_of : Entries → map.FinMap nat_cmp Session
map_of es = map.from_entries es

-- as many entries as keys
abbrev pub IsLong : Entries → Type 0
IsLong es = map.len (map_of es) ≡ length es

-- the new entries have this at the key, and the old ones' elsewhere
abbrev pub Gives : {V : Type 0} → ℕ → Option V → List (ℕ × V) → List (ℕ × V) → Type 0
Gives id w old new = (q : ℕ) → lookup (nat_eq q) new ≡ cond (nat_eq id q) w (lookup (nat_eq q) old)

pub find-lookup : (q : ℕ) (es : Entries) → find nat_cmp q es ≡ lookup (nat_eq q) es
find-lookup q [] = refl
find-lookup q (e ∷ es) = λ i. cond (unsigned_tied q e.0 i) (Some e.1) (find-lookup q es i)

pub get-map_of : (es : Entries) (q : ℕ) → map.get (map_of es) q ≡ lookup (nat_eq q) es
get-map_of es q = get-from_entries nat_cmp_total es q ∙ find-lookup q es

given : (old new : Entries) (id : ℕ) (w : Option Session) → Gives id w old new → (q : ℕ)
    → map.get (map_of new) q ≡ (if q == id then w else map.get (map_of old) q)
given old new id w gives q =
    get-map_of new q ∙ gives q ∙ (λ i. if nat_eq_equiv.symm id q i then w else sym (get-map_of old q) i)

pub map_of-insert : (old new : Entries) (id : ℕ) (session : Session) → Gives id (Some session) old new
    → map_of new ≡ map.insert (map_of old) id session
map_of-insert old new id session gives =
    same_map nat_cmp_total nat_cmp-IsAntisymmetric _ _ (λ q. given old new id (Some session) gives q
    ∙ sym (get-inserted (map_of old) id session q))

pub map_of-remove : (old new : Entries) (id : ℕ) → Gives id None old new → map_of new ≡ map.remove (map_of old) id
map_of-remove old new id gives =
    same_map nat_cmp_total nat_cmp-IsAntisymmetric _ _ (λ q. given old new id None gives q
    ∙ sym (get-removed (map_of old) id q))

-- the session that stands there is written again
pub map_of-again : (old new : Entries) (id : ℕ) (session : Session) → Some session ≡ lookup (nat_eq id) old
    → Gives id (Some session) old new → map_of new ≡ map_of old
map_of-again old new id session here gives =
    same_map nat_cmp_total nat_cmp-IsAntisymmetric _ _ (λ q. given old new id (Some session) gives q
    ∙ by q (eqb_tells q id))
  where
    by : (q : ℕ) → ((q == id) ≡ true) × (q ≡ id) ⊎ ((q == id) ≡ false) × (q ≢ id) →
        (if q == id then Some session else map.get (map_of old) q) ≡ map.get (map_of old) q
    by q (inl same) = rw same.0 (here ∙ sym (get-map_of old id) ∙ ap (map.get (map_of old)) (sym same.1))
    by q (inr apart) = rw apart.0 refl

pub IsLong-none : IsLong []
IsLong-none = len-empty nat_cmp Session

pub IsLong-insert : (old new : Entries) (id : ℕ) (session : Session) → IsLong old → Gives id (Some session) old new →
    length new ≡ length old + (if is_some (lookup (nat_eq id) old) then 0 else 1) → IsLong new
IsLong-insert old new id session long gives len =
    ap map.len (map_of-insert old new id session gives) ∙ len-insert nat_cmp_total (map_of old) id session
    ∙ by (map.contains_key (map_of old) id) (ap is_some (get-map_of old id)) ∙ sym len
  where
    by : (b : Bool) → b ≡ is_some (lookup (nat_eq id) old) →
        cond b (map.len (map_of old)) (map.len (map_of old) + 1)
        ≡ length old + (if is_some (lookup (nat_eq id) old) then 0 else 1)
    by true e = rw (← e) (omega (arith, long))
    by false e = rw (← e) (omega (arith, long))

pub IsLong-remove : (old new : Entries) (id : ℕ) → IsLong old → Gives id None old new →
    length new + (if is_some (lookup (nat_eq id) old) then 1 else 0) ≡ length old → IsLong new
IsLong-remove old new id long gives len =
    ap map.len (map_of-remove old new id gives) ∙ len-remove nat_cmp_total (map_of old) id
    ∙ by (map.contains_key (map_of old) id) (ap is_some (get-map_of old id)) len
  where
    by : (b : Bool) → b ≡ is_some (lookup (nat_eq id) old)
        → length new + (if is_some (lookup (nat_eq id) old) then 1 else 0) ≡ length old →
        cond b (map.len (map_of old) - 1) (map.len (map_of old)) ≡ length new
    by true e len = let more : length new + 1 ≡ length old = rw (← e) at len in omega (arith, long)
    by false e len = let same : length new + 0 ≡ length old = rw (← e) at len in omega (arith, long)

-- the session at the id is written anew
module _ (old new : Entries) (id : ℕ) (session written : Session) (here : Some session
    ≡ lookup (nat_eq id) old) (gives : Gives id (Some written) old new) where
  pub IsLong-written : IsLong old → length new ≡ length old → IsLong new
  IsLong-written long len =
      let there : is_some (lookup (nat_eq id) old) ≡ true = ap is_some (sym here) in
      IsLong-insert old new id written long gives (rw there (omega (arith, len)))

  pub map_of-written : (change : Session → Session) → written ≡ change session
      → map_of new ≡ changed_at (map_of old) id change
  map_of-written change is =
      map_of-insert old new id written gives ∙ ap (map.insert (map_of old) id) is
      ∙ ap (λ o. option_map_or (λ s. map.insert (map_of old) id (change s)) o (map_of old))
      (here ∙ sym (get-map_of old id))

-- no session has the id
pub map_of-absent : (es : Entries) (id : ℕ) (change : Session → Session) → None ≡ lookup (nat_eq id) es
    → map_of es ≡ changed_at (map_of es) id change
map_of-absent es id change absent =
    ap (λ o. option_map_or (λ s. map.insert (map_of es) id (change s)) o (map_of es)) (absent ∙ sym (get-map_of es id))
