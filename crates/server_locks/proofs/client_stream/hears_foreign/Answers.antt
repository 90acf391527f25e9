use Rattle.std.proofs.Common.{◌≡◌, ◌∙◌, sym, ap, subst, ◌≤◌, false, arith}
use Rattle.std.proofs.lemmas.Bool.{true≢false}
use Rattle.link_frames.specs.lines.Aheads.{pending}
use Rattle.link_frames.specs.lines.Watching.{watched_inner}
use Rattle.server_locks.specs.Requests.{is_foreign, HoldsOfAll}
use Rattle.server_locks.proofs.RequestLemmas.{told_of_all}
use Rattle.server_locks.proofs.client_stream.hears_foreign.Goals as goal
use Rattle.server_locks.proofs.client_stream.hears_foreign.Goals.{then-operators, else-operators}

pub returns-clause-all : goal.returns-clause-all
returns-clause-all g c =
    let enough : c.args.operators ≡ false → 7 ≤ c.if-operators.most =
    elim c.if-operators.branch [
      | then-operators w ↦ λ none. absurd (true≢false (sym w.if-operators.true ∙ none))
      | else-operators w ↦ λ none. omega arith
    ] in
    let told = c.is_foreign.ensures ∙ ap (is_foreign c.args.operators) c.front.ensures in
    subst (HoldsOfAll c.args.operators (pending (g.R.Read.remaining (watched_inner c.args.reader.now)) c.args.ahead.now))
    (sym told)
    (told_of_all c.args.operators c.if-operators.most _ _ _ c.in_ok-peek.field-0 enough c.peek.ensures.keeps
    c.in_ok-peek.ensures.begins.0 c.in_ok-peek.ensures.begins.1)
