use Rattle.std.proofs.Common.{◌≡◌, ◌++◌, codes, take, string_bytes}
use Rattle.std.specs.List.{flat_map}
use Rattle.lab_scripts.proofs.order_texts.numbers_text.Given as goal

abbrev pub invariant-loop-number : goal.invariant-loop-number
invariant-loop-number g l =
    string_bytes l.text ≡ codes "list" ++ flat_map (λ n. codes " " ++ g.written n) (take l.number-index l.numbers)
