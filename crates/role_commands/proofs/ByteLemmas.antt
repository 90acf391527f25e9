-- Two commands with the same bytes are one.
use Rattle.std.proofs.Common.{◌≡◌, ℕ, ◌<◌, ◌^◌, get_or, drop, sym, ap, ◌∙◌, refl, arith}
use Rattle.std.proofs.lemmas.Nat.{from_be_bytes-to_be_bytes_2, from_be_bytes-to_be_bytes_4}
use Rattle.std.specs.Int.{w16, w32, from_be_bytes}
use Rattle.role_commands.specs.Bytes.{fields_bytes, bytes_of}
use Rattle.role_commands.specs.Words.{IsCommand}
use Rattle.role_commands.specs.Laws.{BytesDiffer, NineBytes}
use Rattle.role_commands.specs.declared.command.Command.{Command}
use Rattle.role_commands.specs.declared.command.Command.TheVariants.{Assign, Deassign, Grant, Revoke, Clear}

record SameFields (t r p o t' r' p' o' : ℕ) : Type 0 where
  pub tag : t ≡ t'
  pub role : r ≡ r'
  pub user_or_object : p ≡ p'
  pub operation : o ≡ o'

fields_same : (t r p o t' r' p' o' : ℕ) → r < 2 ^ 16 → p < 2 ^ 32 → o < 2 ^ 16 → r' < 2 ^ 16 → p' < 2 ^ 32 → o' < 2 ^ 16
    → fields_bytes t r p o ≡ fields_bytes t' r' p' o' → SameFields t r p o t' r' p' o'
fields_same t r p o t' r' p' o' hr hp ho hr' hp' ho' e = record {
  tag = ap (λ bs. get_or bs 0 0) e;
  role = sym (from_be_bytes-to_be_bytes_2 r hr) ∙ ap (λ bs. from_be_bytes w16 (drop 1 bs)) e
      ∙ from_be_bytes-to_be_bytes_2 r' hr';
  user_or_object =
      sym (from_be_bytes-to_be_bytes_4 p hp) ∙ ap (λ bs. from_be_bytes w32 (drop 3 bs)) e
      ∙ from_be_bytes-to_be_bytes_4 p' hp';
  operation =
      sym (from_be_bytes-to_be_bytes_2 o ho) ∙ ap (λ bs. from_be_bytes w16 (drop 7 bs)) e
      ∙ from_be_bytes-to_be_bytes_2 o' ho';
}

pub length-bytes_of : NineBytes
unfolding bytes_of
length-bytes_of (Assign user role) = refl
length-bytes_of (Deassign user role) = refl
length-bytes_of (Grant role operation object) = refl
length-bytes_of (Revoke role operation object) = refl
length-bytes_of (Clear role) = refl

-- the fields of a command that has these bytes
IsRow : Command → ℕ → ℕ → ℕ → ℕ → Type 0
IsRow (Assign user role) t r p o = SameFields t r p o 1 role user 0
IsRow (Deassign user role) t r p o = SameFields t r p o 2 role user 0
IsRow (Grant role operation object) t r p o = SameFields t r p o 3 role object operation
IsRow (Revoke role operation object) t r p o = SameFields t r p o 4 role object operation
IsRow (Clear role) t r p o = SameFields t r p o 5 role 0 0

fields_of : (c : Command) (t r p o : ℕ) → r < 2 ^ 16 → p < 2 ^ 32 → o < 2 ^ 16 → IsCommand c
    → fields_bytes t r p o ≡ bytes_of c
    → IsRow c t r p o
unfolding bytes_of IsRow
fields_of (Assign user role) t r p o hr hp ho fits e =
    fields_same t r p o 1 role user 0 hr hp ho fits.1 fits.0 (omega arith) e
fields_of (Deassign user role) t r p o hr hp ho fits e =
    fields_same t r p o 2 role user 0 hr hp ho fits.1 fits.0 (omega arith) e
fields_of (Grant role operation object) t r p o hr hp ho fits e =
    fields_same t r p o 3 role object operation hr hp ho fits.0 fits.2 fits.1 e
fields_of (Revoke role operation object) t r p o hr hp ho fits e =
    fields_same t r p o 4 role object operation hr hp ho fits.0 fits.2 fits.1 e
fields_of (Clear role) t r p o hr hp ho fits e =
    fields_same t r p o 5 role 0 0 hr hp ho fits (omega arith) (omega arith) e

assign_row : (c : Command) (t r p o : ℕ) → IsRow c t r p o → t ≡ 1 → Assign p r ≡ c
unfolding IsRow
assign_row (Assign user role) t r p o is tag = cc
assign_row (Deassign user role) t r p o is tag = absurd (omega arith)
assign_row (Grant role operation object) t r p o is tag = absurd (omega arith)
assign_row (Revoke role operation object) t r p o is tag = absurd (omega arith)
assign_row (Clear role) t r p o is tag = absurd (omega arith)

deassign_row : (c : Command) (t r p o : ℕ) → IsRow c t r p o → t ≡ 2 → Deassign p r ≡ c
unfolding IsRow
deassign_row (Assign user role) t r p o is tag = absurd (omega arith)
deassign_row (Deassign user role) t r p o is tag = cc
deassign_row (Grant role operation object) t r p o is tag = absurd (omega arith)
deassign_row (Revoke role operation object) t r p o is tag = absurd (omega arith)
deassign_row (Clear role) t r p o is tag = absurd (omega arith)

grant_row : (c : Command) (t r p o : ℕ) → IsRow c t r p o → t ≡ 3 → Grant r o p ≡ c
unfolding IsRow
grant_row (Assign user role) t r p o is tag = absurd (omega arith)
grant_row (Deassign user role) t r p o is tag = absurd (omega arith)
grant_row (Grant role operation object) t r p o is tag = cc
grant_row (Revoke role operation object) t r p o is tag = absurd (omega arith)
grant_row (Clear role) t r p o is tag = absurd (omega arith)

revoke_row : (c : Command) (t r p o : ℕ) → IsRow c t r p o → t ≡ 4 → Revoke r o p ≡ c
unfolding IsRow
revoke_row (Assign user role) t r p o is tag = absurd (omega arith)
revoke_row (Deassign user role) t r p o is tag = absurd (omega arith)
revoke_row (Grant role operation object) t r p o is tag = absurd (omega arith)
revoke_row (Revoke role operation object) t r p o is tag = cc
revoke_row (Clear role) t r p o is tag = absurd (omega arith)

clear_row : (c : Command) (t r p o : ℕ) → IsRow c t r p o → t ≡ 5 → Clear r ≡ c
unfolding IsRow
clear_row (Assign user role) t r p o is tag = absurd (omega arith)
clear_row (Deassign user role) t r p o is tag = absurd (omega arith)
clear_row (Grant role operation object) t r p o is tag = absurd (omega arith)
clear_row (Revoke role operation object) t r p o is tag = absurd (omega arith)
clear_row (Clear role) t r p o is tag = cc

pub bytes_of_injective : BytesDiffer
unfolding bytes_of
bytes_of_injective (Assign user role) d is also e =
    assign_row d _ _ _ _ (fields_of d 1 role user 0 is.1 is.0 (omega arith) also e) refl
bytes_of_injective (Deassign user role) d is also e =
    deassign_row d _ _ _ _ (fields_of d 2 role user 0 is.1 is.0 (omega arith) also e) refl
bytes_of_injective (Grant role operation object) d is also e =
    grant_row d _ _ _ _ (fields_of d 3 role object operation is.0 is.2 is.1 also e) refl
bytes_of_injective (Revoke role operation object) d is also e =
    revoke_row d _ _ _ _ (fields_of d 4 role object operation is.0 is.2 is.1 also e) refl
bytes_of_injective (Clear role) d is also e =
    clear_row d _ _ _ _ (fields_of d 5 role 0 0 is (omega arith) (omega arith) also e) refl
