-- How a fault is written: its code, a space and its name.
use Rattle.std.specs.Prelude.{ℕ, List, codes}
use Rattle.batch_journal.specs.Texts.{journal_fault_text}
use Rattle.kept_node.specs.declared.fault.Unrestored.{Unrestored}
use Rattle.kept_node.specs.declared.fault.Unrestored.TheVariants.{Unopened, Illegal, Memory}

abbrev pub unrestored_text : {D : Type 0} → Unrestored D → List ℕ
unrestored_text (Unopened fault files) = journal_fault_text fault
unrestored_text (Illegal place journal) = codes "D12 Illegal"
unrestored_text (Memory journal) = codes "out of memory"
