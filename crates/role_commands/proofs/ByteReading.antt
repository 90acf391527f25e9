-- The command that nine bytes are read as is the one whose bytes they are.
use Rattle.std.proofs.Common.{◌≡◌, ℕ, ◌+◌, ◌<◌, ◌^◌, Bool, true, false, cond, eqb, List, get_or, take}
use Rattle.std.proofs.Common.{drop, Option, Some, None, refl, sym, ap, subst, ◌∙◌, inl, inr, arith}
use Rattle.std.specs.Prelude.{IfSome, option_and_then}
use Rattle.std.specs.Int.{w16, w32, from_be_bytes}
use Rattle.std.specs.Str.{bytes_eq}
use Rattle.std.proofs.lemmas.Bool.{cases_lt}
use Rattle.std.proofs.lemmas.List.{get_or-drop, get_or-take, get_or_past, length-take}
use Rattle.std.proofs.lemmas.Slice.Eq.{bytes_eq-Decides}
use Rattle.std.proofs.lemmas.Nat.{from_be_bytes-to_be_bytes_2, from_be_bytes-to_be_bytes_4}
use Rattle.role_commands.specs.Bytes.{bytes_of, part, IsBytes, tagged, command_in}
use Rattle.role_commands.specs.Words.{IsCommand}
use Rattle.role_commands.specs.declared.command.Command.{Command}
use Rattle.role_commands.specs.declared.command.Command.TheVariants.{Assign, Deassign, Grant, Revoke, Clear}

pub IsBytes-part : (at n : ℕ) (bytes : List ℕ) → IsBytes bytes → IsBytes (part at n bytes)
IsBytes-part at n bytes h i =
    elim (cases_lt i n) [
      | inl lt ↦ rw (get_or-take n (drop at bytes) i 0 lt, get_or-drop) (h (at + i))
      | inr le ↦ rw (get_or_past (take n (drop at bytes)) i 0 (omega (arith, length-take n (drop at bytes))))
          (omega arith)
    ]

bytes_same : (bytes : List ℕ) → bytes_eq bytes bytes ≡ true
bytes_same bytes = (bytes_eq-Decides bytes bytes).1 refl

-- a command's bytes are read as the command
pub command_again : (c : Command) → IsCommand c → command_in (bytes_of c) ≡ Some c
unfolding command_in bytes_of
command_again (Assign user role) fits =
    rw (
      from_be_bytes-to_be_bytes_2 role fits.1,
      from_be_bytes-to_be_bytes_4 user fits.0,
      bytes_same (bytes_of (Assign user role)),
    ) refl
command_again (Deassign user role) fits =
    rw (
      from_be_bytes-to_be_bytes_2 role fits.1,
      from_be_bytes-to_be_bytes_4 user fits.0,
      bytes_same (bytes_of (Deassign user role)),
    ) refl
command_again (Grant role operation object) fits =
    rw (
      from_be_bytes-to_be_bytes_2 role fits.0,
      from_be_bytes-to_be_bytes_2 operation fits.1,
      from_be_bytes-to_be_bytes_4 object fits.2,
      bytes_same (bytes_of (Grant role operation object)),
    ) refl
command_again (Revoke role operation object) fits =
    rw (
      from_be_bytes-to_be_bytes_2 role fits.0,
      from_be_bytes-to_be_bytes_2 operation fits.1,
      from_be_bytes-to_be_bytes_4 object fits.2,
      bytes_same (bytes_of (Revoke role operation object)),
    ) refl
command_again (Clear role) fits =
    rw (from_be_bytes-to_be_bytes_2 role fits, bytes_same (bytes_of (Clear role))) refl

spelled : (bytes : List ℕ) (read : Option Command) (c : Command)
    → option_and_then (λ d. cond (bytes_eq bytes (bytes_of d)) (Some d) None) read ≡ Some c
    → (read ≡ Some c) × (bytes ≡ bytes_of c)
spelled bytes None c e = absurd cc
spelled bytes (Some d) c e = go (bytes_eq bytes (bytes_of d)) refl e
  where
    go : (b : Bool) → bytes_eq bytes (bytes_of d) ≡ b → cond b (Some d) None ≡ Some c
        → (Some d ≡ Some c) × (bytes ≡ bytes_of c)
    go true t e = (e, (bytes_eq-Decides bytes (bytes_of d)).0 t ∙ ap bytes_of cc)
    go false t e = absurd cc

chosen_fits : {A : Type 0} (b : Bool) (x y : Option A) (P : A → Type 0) → IfSome x P → IfSome y P
    → IfSome (cond b x y) P
chosen_fits true x y P one other = one
chosen_fits false x y P one other = other

-- the numbers of a command that is read are within their widths
tagged_fits : (tag role party operation : ℕ) → role < 2 ^ 16 → party < 2 ^ 32 → operation < 2 ^ 16
    → IfSome (tagged tag role party operation) IsCommand
tagged_fits tag role party operation hr hp ho =
    let assign : (party < 2 ^ 32) × (role < 2 ^ 16) = (hp, hr) in
    let grant : (role < 2 ^ 16) × (operation < 2 ^ 16) × (party < 2 ^ 32) = (hr, ho, hp) in
    chosen_fits (eqb tag 1) (Some (Assign party role)) _ IsCommand assign
    (chosen_fits (eqb tag 2) (Some (Deassign party role)) _ IsCommand assign
    (chosen_fits (eqb tag 3) (Some (Grant role operation party)) _ IsCommand grant
    (chosen_fits (eqb tag 4) (Some (Revoke role operation party)) _ IsCommand grant
    (chosen_fits (eqb tag 5) (Some (Clear role)) None IsCommand hr tt))))

-- what is read as a command is the command's bytes
pub command_takes : (bytes : List ℕ) (c : Command) → IsBytes bytes → command_in bytes ≡ Some c
    → (bytes ≡ bytes_of c) × IsCommand c
unfolding command_in
command_takes bytes c fits e =
    let tag = get_or bytes 0 0 in
    let role = from_be_bytes w16 (part 1 2 bytes) in
    let party = from_be_bytes w32 (part 3 4 bytes) in
    let operation = from_be_bytes w16 (part 7 2 bytes) in
    let rs = IsBytes-part 1 2 bytes fits in
    let ps = IsBytes-part 3 4 bytes fits in
    let os = IsBytes-part 7 2 bytes fits in
    let is = spelled bytes (tagged tag role party operation) c e in
    let in_range = tagged_fits tag role party operation (omega (arith, rs 0, rs 1))
    (omega (arith, ps 0, ps 1, ps 2, ps 3)) (omega (arith, os 0, os 1)) in
    (is.1, subst (λ (o : Option Command). IfSome o IsCommand) is.0 in_range)

-- what decodes bytes exactly gives the command that they are read as
pub decoded : (bytes : List ℕ) (o : Option Command) → IsBytes bytes → IfSome o (λ c. bytes ≡ bytes_of c)
    → IfSome o IsCommand
    → ((c : Command) → IsCommand c → bytes ≡ bytes_of c → o ≡ Some c) → o ≡ command_in bytes
decoded bytes (Some c) fits found in_range only = sym (command_again c in_range) ∙ ap command_in (sym found)
decoded bytes None fits found in_range only = go (command_in bytes) refl
  where
    go : (read : Option Command) → command_in bytes ≡ read → None ≡ read
    go None e = refl
    go (Some c) e = let is = command_takes bytes c fits e in only c is.1 is.0
