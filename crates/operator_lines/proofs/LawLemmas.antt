-- The clients' table has no operator's operation.
use Rattle.std.proofs.Common.{◌≡◌, ◌∙◌, ℕ, nat_lt, Bool, true, false, List, length, codes, refl, ap}
use Rattle.std.proofs.Common.{Option, Some, None, option_and_then, Err, if◌then◌else◌}
use Rattle.std.specs.Option.{IsSome}
use Rattle.std.specs.Str.{bytes_eq}
use Rattle.std.proofs.lemmas.Bool.{false≢true}
use Rattle.std.proofs.lemmas.Slice.Eq.{bytes_eq-Decides}
use Rattle.serde_json.specs.Data.{Data, null, boolean, number, string, array, object}
use Rattle.quorum_sizes.specs.Sizes.{Counts}
use Rattle.client_lines.specs.Json.{json_of}
use Rattle.client_lines.specs.Operations.{operation_named}
use Rattle.client_lines.specs.Requests.{most_line_bytes, request_due, request_if_json, request_if_named}
use Rattle.client_lines.specs.Requests.{request_if_known, request_of_value}
use Rattle.client_lines.specs.declared.fault.LineFault.TheVariants.{NotJson, UnknownOp}
use Rattle.operator_lines.specs.Requests.{operator_due, request_in, request_named}
use Rattle.operator_lines.specs.Laws.{ClientsKnowNone}

-- a word that names no operation of clients, under another name
same_word : (name word : List ℕ) → bytes_eq name word ≡ true → operation_named word ≡ None
    → operation_named name ≡ None
same_word name word same none = ap operation_named ((bytes_eq-Decides name word).0 same) ∙ none

status_is_none : operation_named (codes "status") ≡ None
unfolding operation_named
status_is_none = refl

command_is_none : operation_named (codes "command") ≡ None
unfolding operation_named
command_is_none = refl

sessions_is_none : operation_named (codes "sessions") ≡ None
unfolding operation_named
sessions_is_none = refl

decide_is_none : operation_named (codes "decide") ≡ None
unfolding operation_named
decide_is_none = refl

decide_all_is_none : operation_named (codes "decide_all") ≡ None
unfolding operation_named
decide_all_is_none = refl

-- a name of an operator's operation is none of a client's
no_operation : (s : Counts) (line : Data) (name : List ℕ) → IsSome (request_named s line name)
    → operation_named name ≡ None
no_operation s line name found =
    by_test (bytes_eq name (codes "status")) (bytes_eq name (codes "command")) (bytes_eq name (codes "sessions"))
    (bytes_eq name (codes "decide")) (bytes_eq name (codes "decide_all")) refl refl refl refl refl
  where
    by_test : (a b c d e : Bool) → bytes_eq name (codes "status") ≡ a → bytes_eq name (codes "command") ≡ b
        → bytes_eq name (codes "sessions") ≡ c → bytes_eq name (codes "decide") ≡ d
        → bytes_eq name (codes "decide_all") ≡ e → operation_named name ≡ None
    by_test true b c d e p q r t u = same_word name (codes "status") p status_is_none
    by_test false true c d e p q r t u = same_word name (codes "command") q command_is_none
    by_test false false true d e p q r t u = same_word name (codes "sessions") r sessions_is_none
    by_test false false false true e p q r t u = same_word name (codes "decide") t decide_is_none
    by_test false false false false true p q r t u = same_word name (codes "decide_all") u decide_all_is_none
    by_test false false false false false p q r t u = absurd (false≢true (rw (p, q, r, t, u) at found))

by_name : (s : Counts) (line : Data) (name : Option (List ℕ)) → IsSome (option_and_then (request_named s line) name)
    → request_if_named s name line ≡ Err UnknownOp
by_name s line None found = absurd (false≢true found)
by_name s line (Some name) found =
    ap (λ known. request_if_known s known line) (no_operation s line name found)

by_value : (s : Counts) (line : Data) → IsSome (request_in s line) → request_of_value s line ≡ Err UnknownOp
unfolding request_in request_of_value
by_value s null found = absurd (false≢true found)
by_value s (boolean b) found = absurd (false≢true found)
by_value s (number n) found = absurd (false≢true found)
by_value s (string text) found = absurd (false≢true found)
by_value s (array items) found = absurd (false≢true found)
by_value s (object ms) found = by_name s (object ms) _ found

by_json : (s : Counts) (line : Option Data) → IsSome (option_and_then (request_in s) line)
    → request_if_json s line ≡ Err UnknownOp
by_json s None found = absurd (false≢true found)
by_json s (Some line) found = by_value s line found

pub clients_know_none : ClientsKnowNone
unfolding operator_due request_due
clients_know_none s bytes found = by_length (nat_lt most_line_bytes (length bytes)) found
  where
    by_length : (b : Bool) → IsSome (if b then None else option_and_then (request_in s) (json_of bytes))
        → (if b then Err NotJson else request_if_json s (json_of bytes)) ≡ Err UnknownOp
    by_length true found = absurd (false≢true found)
    by_length false found = by_json s (json_of bytes) found
