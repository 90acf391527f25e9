use Rattle.std.proofs.Common.{rules, ◌≡◌, ◌+◌, ◌-◌, arith, length-set, subst, sym, IsAscii, set}
use Rattle.std.proofs.lemmas.Fmt.{length-decimal-le}
use Rattle.std.proofs.lemmas.List.{drop-set}
use Rattle.std.proofs.lemmas.Str.{IsAscii-append}
use Rattle.client_lines.specs.inside.Items.{behind_comma}
use Rattle.client_lines.proofs.ItemLemmas.{item_ascii, item_grouped}
use Rattle.client_lines.proofs.answer.put_permission.Goals as goal

pub write_digits-second-requires : goal.write_digits-second-requires
write_digits-second-requires c =
    (omega (arith, length-decimal-le 10 c.from.result (omega arith) (omega arith) (omega arith)), search rules)

pub overflow_sub-block-2 : goal.overflow_sub-block-2
overflow_sub-block-2 c = omega (arith, length-decimal-le 10 c.from.result (omega arith) (omega arith) (omega arith))

pub overflow_sub-second : goal.overflow_sub-second
overflow_sub-second c = omega (arith, length-decimal-le 10 c.from.result (omega arith) (omega arith) (omega arith))

pub write_digits-first-requires : goal.write_digits-first-requires
write_digits-first-requires c =
    let long = length-decimal-le 10 c.from.result (omega arith) (omega arith) (omega arith) in
    (omega (arith, length-decimal-le 5 c.from-2.result (omega arith) (omega arith) (omega arith)), search rules)

pub overflow_sub-block-3 : goal.overflow_sub-block-3
overflow_sub-block-3 c =
    let long = length-decimal-le 10 c.from.result (omega arith) (omega arith) (omega arith) in
    omega (arith, length-decimal-le 5 c.from-2.result (omega arith) (omega arith) (omega arith))

pub overflow_sub-block-4 : goal.overflow_sub-block-4
overflow_sub-block-4 c =
    let long = length-decimal-le 10 c.from.result (omega arith) (omega arith) (omega arith) in
    omega (arith, length-decimal-le 5 c.from-2.result (omega arith) (omega arith) (omega arith))

pub overflow_sub-result : goal.overflow_sub-result
overflow_sub-result c =
    let long = length-decimal-le 10 c.from.result (omega arith) (omega arith) (omega arith) in
    omega (arith, length-decimal-le 5 c.from-2.result (omega arith) (omega arith) (omega arith))

pub returns-clause-within : goal.returns-clause-within
returns-clause-within c =
    let long = length-decimal-le 10 c.from.result (omega arith) (omega arith) (omega arith) in
    let longer = length-decimal-le 5 c.from-2.result (omega arith) (omega arith) (omega arith) in
    (omega arith, omega arith)

pub returns-clause-written : goal.returns-clause-written
returns-clause-written c =
    let long = length-decimal-le 10 c.from.result (omega arith) (omega arith) (omega arith) in
    let longer = length-decimal-le 5 c.from-2.result (omega arith) (omega arith) (omega arith) in
    let rest = c.args.rest in
    let second = c.write_digits-second in
    let first = c.write_digits-first in
    let e1 : first.result - 2 + 1 ≡ first.result - 1 = omega arith in
    let e2 : first.result - 1 + 1 ≡ first.result = omega arith in
    let e3 : second.result - 1 + 1 ≡ second.result = omega arith in
    let e4 : rest - 1 + 1 ≡ rest = omega arith in
    rw (
      drop-set (set first.new.buf (first.result - 1) 91) (first.result - 2) 44
          (omega (arith, length-set first.new.buf (first.result - 1) 91)),
      e1,
      drop-set first.new.buf (first.result - 1) 91 (omega arith),
      e2,
      first.ensures.written,
      drop-set second.new.buf (second.result - 1) 44 (omega arith),
      e3,
      second.ensures.written,
      drop-set c.args.block.now (rest - 1) 93 (omega arith),
      e4,
      c.from.ensures,
      c.from-2.ensures,
    )
    (item_grouped c.args.permission _)

pub returns-clause-ascii : goal.returns-clause-ascii
returns-clause-ascii c = λ ascii.
    subst IsAscii (sym (returns-clause-written c))
    (IsAscii-append (behind_comma c.args.permission) _ (item_ascii c.args.permission (omega arith) (omega arith)) ascii)
