-- What a check of an access answers.
use Rattle.std.specs.Prelude.{ℕ, if◌then◌else◌, Option, Some, None}
use Rattle.quorum_sizes.specs.NodeSets.{Nodes}
use Rattle.role_node.specs.Access.{verdict_at}
use Rattle.role_node.specs.Configs.{ConfigValue}
use Rattle.role_sessions.specs.declared.verdict.Verdict.{Verdict}
use Rattle.byz_world.specs.Runs.{Run, history_of, is_correct}

-- the decision on an access at a correct node
abbrev pub decision_due : ConfigValue → Nodes → Run → ℕ → ℕ → ℕ → ℕ → ℕ → Option Verdict
decision_due config liars run node session user operation object =
    if is_correct config.roles.sizes liars node
    then Some (verdict_at config.roles (history_of node run) session user operation object)
    else None
