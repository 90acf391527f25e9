-- A node's journal, opened with room for what will wait. Serves the code, and no public contract.
use Rattle.std.specs.Prelude.{◌≡◌, ℕ, ◌≤◌, Bool, false, IsTrue, List, length, Ok}
use Rattle.std.specs.List.{concat}
use Rattle.batch_journal.specs.Journals.{JournalValue, Survives}
use Rattle.batch_journal.specs.Readings.{reading}
use Rattle.role_node.specs.Configs.{ConfigValue}
use Rattle.kept_node.specs.NodeHeads.{IsHeadOf}

-- A journal under this key and the head of the node of this configuration and name: the file is read as its batches,
-- and these digits are theirs, unless the disk has lied; all of them are synced.
pub record IsOpened {D : Type 0} (may_leave : D → List ℕ → Type 0) (is_clean : D → Bool) (key : List ℕ)
    (config : ConfigValue) (me : ℕ) (file : List ℕ) (j : JournalValue D) (digits : List ℕ) : Type 0 where
  pub key_is : j.key ≡ key
  pub names : IsHeadOf config me j.head
  pub whole : j.broken ≡ false
  pub settled : j.synced ≡ length j.batches
  pub reads : IsTrue (is_clean j.disk) → reading key j.head file ≡ Ok j.batches
  pub digits_are : IsTrue (is_clean j.disk) → digits ≡ concat j.batches
  pub room : 19497 ≤ j.room
  pub survives : Survives may_leave is_clean j
