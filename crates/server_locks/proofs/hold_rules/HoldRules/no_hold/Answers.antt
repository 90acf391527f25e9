use Rattle.std.proofs.Common.{Some, sym, subst, ◌∙◌}
use Rattle.node_lock.specs.Views.{held_after_hold}
use Rattle.node_lock.specs.declared.receipt.Call.{Call}
use Rattle.node_lock.specs.declared.receipt.Call.TheVariants.{Step}
use Rattle.server_locks.specs.HoldRules.{IsWithin}
use Rattle.server_locks.proofs.Within.{within_after}
use Rattle.server_locks.proofs.hold_rules.HoldRules.no_hold.Goals as goal

pub returns-in-Step-clause-within : goal.returns-in-Step-clause-within
returns-in-Step-clause-within g c = λ seat none within.
    let held = g.N.HeldNode.held c.args.node.now in
    let shares = c.args.self.now.shares in
    subst (λ (x : Call). IsWithin shares (held_after_hold held seat (Some x)).node) (sym {b = Step c.in-Step.event} c.in-Step.is)
    (within_after shares held seat c.in-Step.event c.answer_of_shares.ensures.legal
    (sym c.answer_of_shares.ensures.answer ∙ none) within)
