-- A node with its journal, as a server sees it.
use Rattle.std.specs.Prelude.{option_map}
use Rattle.kept_node.specs.Telling.{UntoldValue}
use Rattle.served_node.specs.declared.said.Said.{Said}

-- what a hold said, as the server hears it
abbrev pub said_of : UntoldValue → Said
said_of untold = record { outcome = option_map (λ receipt. receipt.outcome) untold.receipt; view = untold.view }
