-- Why a journal is not made or opened, as it is handed on.
use Rattle.std.proofs.Common.{◌≡◌, ◌⊎◌, ℕ, Bool, List, inl, inr, sym, subst}
use Rattle.sqlite_disk.specs.Disk.{MoreFaults}
use Rattle.sqlite_disk.specs.declared.files.Files.{Files}
use Rattle.batch_journal.specs.Faults.{IsAlone, IsNotBegun, IsRefused}
use Rattle.batch_journal.specs.declared.fault.JournalFault.{JournalFault}
use Rattle.batch_journal.specs.declared.fault.JournalFault.TheVariants as fault
use Rattle.batch_journal.specs.declared.head.Head.{Head}
use Rattle.role_node.specs.Configs.{ConfigValue}
use Rattle.kept_node.specs.NodeHeads.{IsHeadOf}
use Rattle.kept_node.specs.Restoring.{IsUnrestored}
use Rattle.kept_node.specs.declared.fault.Unrestored.{Unrestored}
use Rattle.kept_node.specs.declared.fault.Unrestored.TheVariants.{Unopened, Illegal, Memory}
use Rattle.node_journal.specs.Refusals.{IsNotMade, IsNotRestored, fault_in}
use Rattle.node_journal.specs.declared.fault.KeptFault.TheVariants.{Journal}

module _ {D : Type 0} (seen : D → List ℕ) (faults : D → ℕ) (is_clean is_mixing : D → Bool) where
  pub not_made : (old new : Files D) (e : JournalFault) → IsNotBegun seen faults is_clean is_mixing old new e →
      IsNotMade seen faults is_clean is_mixing old (Journal e)
  not_made old new fault.Memory why = tt
  not_made old new e why = (new, why)

  pub not_opened : (key : List ℕ) (config : ConfigValue) (me : ℕ) (old new : Files D) (head : Head)
      (e : JournalFault) → IsHeadOf config me head →
      IsRefused seen faults is_clean is_mixing key head old new e →
      IsNotRestored seen faults is_clean is_mixing key config me old (Journal e)
  not_opened key config me old new head fault.Memory names why = tt
  not_opened key config me old new head e names why = (new, head, names, why)

  not_unopened : (key : List ℕ) (config : ConfigValue) (me : ℕ) (old new : Files D) (e : JournalFault) →
      IsUnrestored seen faults is_clean is_mixing key config me old (Unopened e new) →
      IsNotRestored seen faults is_clean is_mixing key config me old (Journal e)
  not_unopened key config me old new fault.Memory why = tt
  not_unopened key config me old new e why = (new, why.0, why.1, why.2)

  pub not_restored : (key : List ℕ) (config : ConfigValue) (me : ℕ) (old : Files D) (u : Unrestored D) →
      IsUnrestored seen faults is_clean is_mixing key config me old u →
      IsNotRestored seen faults is_clean is_mixing key config me old (fault_in u)
  not_restored key config me old (Unopened e new) why = not_unopened key config me old new e why
  not_restored key config me old (Illegal place journal) why =
      (record { log = journal.beside; db = journal.disk }, place, why.0, why.1)
  not_restored key config me old (Memory journal) why = tt

  -- where the bytes behind the batches were not read, of a journal beside which the file is empty
  pub not_read : (key : List ℕ) (config : ConfigValue) (me : ℕ) (old new : Files D) (head : Head)
      (e : JournalFault) (before : ℕ) (P : Type 0) → IsHeadOf config me head →
      IsAlone seen faults is_clean is_mixing old new → before ≡ faults old.db → P →
      (e ≡ fault.Memory) ⊎ ((e ≡ fault.Device) × (P → MoreFaults before (faults new.db))) →
      IsNotRestored seen faults is_clean is_mixing key config me old (Journal e)
  not_read key config me old new head e before P names alone same holds why =
      let Q : JournalFault → Type 0 = λ e. IsNotRestored seen faults is_clean is_mixing key config me old (Journal e) in
      elim why [
        | inl memory ↦ subst Q (sym memory) tt
        | inr device ↦ subst Q (sym device.0)
            (new, head, names, inr (alone, inl (subst (λ n. MoreFaults n (faults new.db)) same (device.1 holds))))
      ]
