use Rattle.std.proofs.Common.{sym}
use Rattle.std.proofs.lemmas.Result.{err_from_is_err_and}
use Rattle.role_node.proofs.RefusalLemmas.{refused_is_due}
use Rattle.role_node.proofs.node.Node.apply.Goals as goal

pub returns-in_err-look-clause-due : goal.returns-in_err-look-clause-due
returns-in_err-look-clause-due c =
    let p = err_from_is_err_and c.from_residual.result c.from_residual.ensures.1 in
    rw (p.1, p.2)
    (refused_is_due c.args.self.now.config c.args.self.now.me c.args.self.now.history c.args.event _
    (sym c.in_err-look.ensures.due))
