-- Decisions without a session, each by the roles of one owner.
use Rattle.std.specs.Prelude.{ℕ, List, [], map, slice_index_or}
use Rattle.std.specs.List.{range_with_len}
use Rattle.role_commands.specs.Tables.{Table, roles_of_owner}
use Rattle.role_node.specs.Nodes.{NodeValue}
use Rattle.role_node.specs.Access.{reach_at, decided_at}
use Rattle.operator_lines.specs.declared.decision.Access.{Access}
use Rattle.operator_lines.specs.declared.decision.Decision.{Decision}

-- the roles of each node of the sizes, by its index
abbrev pub role_lists : Table → List (List ℕ)
role_lists table = map (roles_of_owner table) (range_with_len 0 table.sizes.nodes)

-- the roles that these lists have of a node
abbrev pub roles_in : List (List ℕ) → ℕ → List ℕ
roles_in lists owner = slice_index_or lists owner []

-- the decision by the owner's roles, and how far the owner's stream reaches
abbrev pub decision_at : NodeValue → List (List ℕ) → Access → Decision
decision_at node lists asked =
    record {
      reach = reach_at node.config.roles.sizes node.history asked.owner;
      verdict = decided_at node.config.roles node.history (roles_in lists asked.owner) asked.user asked.operation
          asked.object;
    }
