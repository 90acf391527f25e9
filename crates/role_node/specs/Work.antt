-- How much a node records about one place of a stream, whatever liars send.
use Rattle.std.specs.Prelude.{ℕ, ◌+◌, ◌*◌, ◌≤◌, List, length}
use Rattle.quorum_sizes.specs.Sizes.{Counts}
use Rattle.owner_streams.specs.Places.{takes_at}
use Rattle.owner_streams.specs.Steps.{SendsAreOwners}
use Rattle.role_node.specs.declared.event.Event.{Event}
use Rattle.role_node.specs.Answers.{IsLegal}
use Rattle.role_node.specs.Configs.{ConfigValue}
use Rattle.role_node.specs.Histories.{packets}

-- so many packets about a place can count at a node: a SEND of the owner, and an ECHO and a READY of each node
abbrev pub most_at_place : Counts → ℕ
most_at_place s = 2 * s.nodes + 1

-- Of a legal history whose SENDs are their owners' no more are about a place.
abbrev pub FewAtPlace : Type 0
FewAtPlace =
    (config : ConfigValue) (me : ℕ) (history : List Event) (owner place : ℕ) → IsLegal config me history →
    SendsAreOwners (packets history) →
    length (takes_at owner place (packets history)) ≤ most_at_place config.roles.sizes
