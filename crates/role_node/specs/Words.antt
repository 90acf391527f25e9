-- Whose word a decision goes by.
use Rattle.std.specs.Prelude.{◌≡◌, ℕ, List}
use Rattle.role_commands.specs.Tables.{Table, roles_of_owner}
use Rattle.role_node.specs.Access.{stream_at, decided_at}
use Rattle.role_node.specs.declared.event.Event.{Event}

-- A decision in all roles of one owner follows from that owner's stream: whatever others published, and whatever else
-- happened at a node, is nothing to it. So nodes at which the stream is the same decide alike.
abbrev pub OneOwnersWord : Type 0
OneOwnersWord =
    (table : Table) (one other : List Event) (owner user operation object : ℕ) →
    stream_at table.sizes one owner ≡ stream_at table.sizes other owner →
    decided_at table one (roles_of_owner table owner) user operation object
    ≡ decided_at table other (roles_of_owner table owner) user operation object
