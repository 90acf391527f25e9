-- What an inbox that is not finished hands back, and why.
use Rattle.std.specs.Prelude.{List}
use Rattle.atomic_table.specs.Seated.{TableId}
use Rattle.node_lock.specs.Inboxes.{Passing, AreAllPasses}
use Rattle.node_lock.specs.declared.inbox.InboxFault.{InboxFault}
use Rattle.node_lock.specs.declared.inbox.InboxFault.TheVariants.{PassMissing, Memory}

abbrev pub inbox_in : InboxFault → TableId
inbox_in (PassMissing inbox passes) = inbox
inbox_in (Memory inbox passes) = inbox

abbrev pub passes_in : InboxFault → List Passing
passes_in (PassMissing inbox passes) = passes.items
passes_in (Memory inbox passes) = passes.items

-- a pass is absent, or else memory is wanting
abbrev pub IsInboxFault : List Passing → InboxFault → Type 0
IsInboxFault all (PassMissing inbox passes) = ¬ AreAllPasses all
IsInboxFault all (Memory inbox passes) = AreAllPasses all
