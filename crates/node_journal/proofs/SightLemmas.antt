-- Bytes that were read, and events that were recorded again, in the terms of what is seen of a journal.
use Rattle.std.proofs.Common.{◌≡◌, ℕ, suc, ◌+◌, ◌-◌, ◌<◌, ◌≤◌, ◌==◌, Bool, true, false, not, ◌||◌, List, [], ◌∷◌}
use Rattle.std.proofs.Common.{length, inl, inr, sym, ◌∙◌, ap, subst, arith}
use Rattle.std.specs.Prelude.{◌↔◌, ◌≢◌, IsTrue, All, slice_index, slice_index_or}
use Rattle.std.specs.List.{list_any}
use Rattle.std.proofs.lemmas.Bool.{cases_eq, ne_eqb}
use Rattle.std.proofs.lemmas.List.Folds.{list_any_at}
use Rattle.sqlite_disk.specs.Disk.{Holds}
use Rattle.quorum_sizes.specs.Sizes.{Counts}
use Rattle.role_node.specs.declared.event.Event.{Event}
use Rattle.role_node.specs.declared.event.Event.TheVariants.{Issue, Take, Client}
use Rattle.kept_node.specs.Events.{IsEvent, IsEventOf}
use Rattle.node_journal.specs.Sights.{HasByte}

abbrev is_set : ℕ → Bool
is_set byte = not (byte == 0)

set_not : (byte : ℕ) → is_set byte ≡ true → byte ≢ 0
set_not byte is none = let bad : false ≡ true = subst (λ b. is_set b ≡ true) none is in absurd cc

not_set : (byte : ℕ) → byte ≢ 0 → is_set byte ≡ true
not_set byte other = ap not (ne_eqb byte 0 other)

-- a set byte is at some place
found : (bytes : List ℕ) → list_any is_set bytes ≡ true →
    (at : ℕ) × (at < length bytes) × (is_set (slice_index bytes at) ≡ true)
found [] any = absurd cc
found (byte ∷ bytes) any =
    elim (cases_eq byte 0) [
      | inl none ↦
          let rest = found bytes (subst (λ b. (is_set b || list_any is_set bytes) ≡ true) none any) in
          (suc rest.0, omega (arith, rest.1), rest.2)
      | inr other ↦ (0, omega arith, not_set byte other)
    ]

-- what was read of a file
pub byte_read : (file bytes : List ℕ) (from to : ℕ) (b : Bool) → from ≤ to → length bytes ≡ to - from →
    (0 < length bytes → Holds file from bytes) → b ≡ list_any is_set bytes → IsTrue b ↔ HasByte file from to
byte_read file bytes from to b order count holds is = (
  λ has.
      let here = found bytes (sym is ∙ has) in
      let held = holds (omega (arith, here.1)) in (
        from + here.0,
        omega arith,
        omega (arith, order, count, here.1),
        λ none. set_not (slice_index bytes here.0) here.2 (sym (held.each here.0 here.1) ∙ none),
      ),
  λ has.
      let place = has.0 - from in
      let within : place < length bytes = omega (arith, order, count, has.1, has.2) in
      let held = holds (omega (arith, within)) in
      let there : from + place ≡ has.0 = omega (arith, has.1) in
      let same : slice_index file has.0 ≡ slice_index bytes place =
      ap (slice_index file) (sym there) ∙ held.each place within in
      is ∙ list_any_at is_set bytes place 0 within
      (not_set (slice_index bytes place) (λ none. has.3 (same ∙ none))),
)

event_any : (s : Counts) (me : ℕ) (event : Event) → IsEventOf s me event → IsEvent event
event_any s me (Issue command) is = is
event_any s me (Take p) is = is.0
event_any s me (Client act) is = is

-- the events of some node are events
pub events_any : (s : Counts) (me : ℕ) (events : List Event) → All (IsEventOf s me) events → All IsEvent events
events_any s me events each = λ k d within. event_any s me (slice_index_or events k d) (each k d within)
