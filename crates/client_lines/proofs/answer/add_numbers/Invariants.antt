use Rattle.std.proofs.Common.{◌≡◌, ◌++◌, codes, take, string_bytes}
use Rattle.std.specs.List.{flat_map}
use Rattle.client_lines.proofs.answer.add_numbers.Given as goal

abbrev pub invariant-loop-number : goal.invariant-loop-number
invariant-loop-number g l = string_bytes l.text ≡ string_bytes l.initial.text
    ++ flat_map (λ y. codes "," ++ g.T.Integer.text y) (take l.number-index l.others)
