-- What bytes are as JSON text, from what the library says of them.
use Rattle.std.proofs.Common.{◌≡◌, ◌≤◌, ℕ, nat_lt, Bool, true, false, List, length, Some, None, if◌then◌else◌}
use Rattle.std.proofs.Common.{option_and_then, Err, refl, arith}
use Rattle.std.specs.Str.{IsUtf8, is_utf8}
use Rattle.std.proofs.lemmas.Str.{IsUtf8-from_is_utf8, is_utf8-from_IsUtf8}
use Rattle.serde_json.specs.Data.{Data, Members, object}
use Rattle.serde_json.specs.Find.{as_str}
use Rattle.serde_json.specs.Read.{read}
use Rattle.quorum_sizes.specs.Sizes.{Counts}
use Rattle.client_lines.specs.Json.{json_of}
use Rattle.client_lines.specs.Members.{member_of}
use Rattle.client_lines.specs.Requests.{most_line_bytes, request_due, request_if_json, request_if_named}
use Rattle.client_lines.specs.Requests.{request_of_value}
use Rattle.client_lines.specs.declared.fault.LineFault.TheVariants.{NotJson}
use Rattle.client_lines.specs.declared.member.Member.TheVariants.{Op}

pub json_of-some : (bytes : List ℕ) (value : Data) → IsUtf8 bytes → read bytes ≡ Some value → json_of bytes ≡ Some value
unfolding json_of
json_of-some bytes value text is = rw (is_utf8-from_IsUtf8 bytes text) is

pub json_of-none : (bytes : List ℕ) → (IsUtf8 bytes → read bytes ≡ None) → json_of bytes ≡ None
unfolding json_of
json_of-none bytes refused = by_test (is_utf8 bytes) refl
  where
    by_test : (b : Bool) → is_utf8 bytes ≡ b → (if b then read bytes else None) ≡ None
    by_test false e = refl
    by_test true e = refused (IsUtf8-from_is_utf8 bytes e)

-- what bytes ask that are no JSON text
pub due-none : (s : Counts) (bytes : List ℕ) → json_of bytes ≡ None → Err NotJson ≡ request_due s bytes
unfolding request_due
due-none s bytes refused = by_test (nat_lt most_line_bytes (length bytes))
  where
    by_test : (b : Bool) → Err NotJson ≡ (if b then Err NotJson else request_if_json s (json_of bytes))
    by_test false = rw refused
    by_test true = refl

-- what a text asks that is an object
pub asks-object : (s : Counts) (text : List ℕ) (ms : Members) → IsUtf8 text → read text ≡ Some (object ms)
    → request_if_named s (option_and_then as_str (member_of Op (object ms))) (object ms)
    ≡ request_if_json s (json_of text)
unfolding request_of_value
asks-object s text ms utf8 is = rw (json_of-some text (object ms) utf8 is) refl

-- what bytes ask that are an object
pub due-object : (s : Counts) (bytes : List ℕ) (ms : Members) → length bytes ≤ most_line_bytes → IsUtf8 bytes
    → read bytes ≡ Some (object ms)
    → request_if_named s (option_and_then as_str (member_of Op (object ms))) (object ms) ≡ request_due s bytes
unfolding request_due request_of_value
due-object s bytes ms short text is =
    let within : nat_lt most_line_bytes (length bytes) ≡ false = grind arith in
    rw (within, json_of-some bytes (object ms) text is) refl
