-- Words, numbers and commands are plain text.
use Rattle.std.proofs.Common.{◌≡◌, ℕ, Bool, true, false, ◌&&◌, nat_lt, refl}
use Rattle.std.proofs.Common.{◌<◌, ◌^◌, List, [], ◌∷◌, ◌++◌, codes, arith}
use Rattle.std.proofs.lemmas.Bool.Decides.{nat_tests}
use Rattle.std.proofs.lemmas.Fmt.{IsAscii-decimal}
use Rattle.std.proofs.lemmas.Str.{IsAscii-append}
use Rattle.std.proofs.lemmas.Str.Ascii.{IsAscii-nil, IsAscii-cons}
use Rattle.std.specs.List.{list_all}
use Rattle.std.specs.Fmt.{decimal}
use Rattle.std.specs.Str.{IsAscii}
use Rattle.role_commands.specs.Words.{spelling, IsCommand}
use Rattle.role_commands.specs.declared.command.Command.{Command}
use Rattle.role_commands.specs.declared.command.Command.TheVariants.{Assign, Deassign, Grant, Revoke, Clear}

-- as a record, so that the text is found from the fact
pub record Ascii (text : List ℕ) : Type 0 where
  pub is : IsAscii text

pub word_text : (text : List ℕ) → list_all (λ b. nat_lt b 128) text ≡ true → Ascii text
word_text text e = record { is = each text e }
  where
    each : (bytes : List ℕ) → list_all (λ b. nat_lt b 128) bytes ≡ true → IsAscii bytes
    each [] h = IsAscii-nil
    each (b ∷ bs) h =
        let (first, others) = both (nat_lt b 128) (list_all (λ c. nat_lt c 128) bs) h in
        IsAscii-cons b bs (grind (arith, nat_tests)) (each bs others)
      where
        both : (x y : Bool) → x && y ≡ true → (x ≡ true) × (y ≡ true)
        both true y h = (refl, h)
        both false y h = cc

pub number : (n : ℕ) → n < 2 ^ 64 → Ascii (decimal n)
number n small = record { is = IsAscii-decimal n small }

infixl 20 ◌then◌
pub ◌then◌ : {xs ys : List ℕ} → Ascii xs → Ascii ys → Ascii (xs ++ ys)
◌then◌ {xs} {ys} p q = record { is = IsAscii-append xs ys p.is q.is }

pub space_text : Ascii (codes " ")
space_text = word_text (codes " ") refl

pub command_text : (c : Command) → IsCommand c → Ascii (spelling c)
command_text (Assign u r) is =
    word_text (codes "assign") refl then space_text then number u (omega arith)
    then space_text then number r (omega arith)
command_text (Deassign u r) is =
    word_text (codes "deassign") refl then space_text then number u (omega arith)
    then space_text then number r (omega arith)
command_text (Grant r p b) is =
    word_text (codes "grant") refl then space_text then number r (omega arith)
    then space_text then number p (omega arith) then space_text then number b (omega arith)
command_text (Revoke r p b) is =
    word_text (codes "revoke") refl then space_text then number r (omega arith)
    then space_text then number p (omega arith) then space_text then number b (omega arith)
command_text (Clear r) is = word_text (codes "clear") refl then space_text then number r (omega arith)
