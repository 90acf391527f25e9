-- How a node's journal is opened: why it is not, what is then left, and what it is once it has room.
use Rattle.std.proofs.Common.{◌≡◌, ℕ, ◌≤◌, Bool, true, false, List, [], length, take, ap, sym, ◌∙◌, subst, arith}
use Rattle.std.proofs.Common.{append-nil, inl, inr, ⊎_elim, Result, Ok, Err}
use Rattle.std.specs.Prelude.{IsTrue, OnOk, is_err}
use Rattle.std.specs.List.{concat}
use Rattle.std.proofs.Math.Seq.{take-append_seam}
use Rattle.sqlite_disk.specs.declared.files.Files.{Files}
use Rattle.batch_journal.specs.Faults.{IsRefused}
use Rattle.batch_journal.specs.Journals as journals
use Rattle.batch_journal.specs.Journals.{JournalValue, LeavesTheSame}
use Rattle.batch_journal.specs.Readings.{reading}
use Rattle.batch_journal.specs.declared.fault.JournalFault.{JournalFault}
use Rattle.batch_journal.specs.declared.fault.JournalFault.TheVariants as journal_fault
use Rattle.batch_journal.specs.declared.head.Head.{Head}
use Rattle.role_node.specs.Configs.{ConfigValue}
use Rattle.kept_node.specs.NodeHeads.{IsHeadOf}
use Rattle.kept_node.specs.Restoring.{IsUnrestored, LeavesAsBefore}
use Rattle.kept_node.specs.declared.fault.Unrestored.TheVariants.{Unopened}
use Rattle.kept_node.specs.inside.Opening.{IsOpened}

pub not_err : {T E : Type 0} (r : Result T E) (b : Bool) (P : Type 0) → OnOk r P → b ≡ is_err r → b ≡ false → P
not_err (Ok x) b P h e f = h
not_err (Err x) b P h e f = let apart : true ≡ false = sym e ∙ f in absurd cc

pub head_names : (config told : ConfigValue) (me name : ℕ) (head : Head) → told ≡ config → name ≡ me →
    IsHeadOf told name head → IsHeadOf config me head
head_names config told me name head c n h =
    subst (λ (x : ConfigValue). IsHeadOf x me head) c (subst (λ (x : ℕ). IsHeadOf told x head) n h)

pub unopened_leaves : (key : List ℕ) (config : ConfigValue) (me : ℕ) (head : Head) (file : List ℕ)
    (old new : List ℕ → Type 0) → IsHeadOf config me head → LeavesTheSame key head file old new →
    LeavesAsBefore key config me file old new
unopened_leaves key config me head file old new names leaves c may =
    ⊎_elim (λ was. inl was) (λ same. inr (head, names, same)) (leaves c may)

-- a journal as it was opened under a key and a head, and as it is once it has room
pub record Opened {D : Type 0} (may_leave : D → List ℕ → Type 0) (is_clean : D → Bool) (first now : JournalValue D)
    (key : List ℕ) (head : Head) (file : List ℕ) : Type 0 where
  pub same : now ≡ record first { room = now.room }
  pub key_is : first.key ≡ key
  pub head_is : first.head ≡ head
  pub settled : first.synced ≡ length first.batches
  pub reads : IsTrue (is_clean first.disk) → reading key head file ≡ Ok first.batches
  pub survives : journals.Survives may_leave is_clean now

module _ {D : Type 0} where
  pub unopened_is : (seen : D → List ℕ) (faults : D → ℕ) (is_clean is_mixing : D → Bool) (key : List ℕ)
      (config : ConfigValue) (me : ℕ) (old files : Files D) (head : Head) (fault : JournalFault) →
      IsHeadOf config me head → IsRefused seen faults is_clean is_mixing key head old files fault →
      IsUnrestored seen faults is_clean is_mixing key config me old (Unopened fault files)
  unopened_is seen faults is_clean is_mixing key config me old files head journal_fault.Memory names refused = tt
  unopened_is seen faults is_clean is_mixing key config me old files head fault names refused = (head, names, refused)

  -- of a journal that was opened
  pub opened_leaves : (may_leave : D → List ℕ → Type 0) (is_clean : D → Bool) (j : JournalValue D)
      (config : ConfigValue) (me : ℕ) (file : List ℕ) (old : List ℕ → Type 0) → IsHeadOf config me j.head →
      journals.Survives may_leave is_clean j → j.synced ≡ length j.batches → IsTrue (is_clean j.disk) →
      reading j.key j.head file ≡ Ok j.batches → LeavesAsBefore j.key config me file old (may_leave j.disk)
  opened_leaves may_leave is_clean j config me file old names survives settled clean reads c may =
      let f = survives clean c may in
      let all : f.count ≡ length j.batches = omega (arith, f.enough, f.within, settled) in
      let same : take f.count j.batches ≡ j.batches =
      ap (λ n. take n j.batches) all ∙ ap (take (length j.batches)) (sym (append-nil j.batches))
      ∙ take-append_seam j.batches [] in
      inr (j.head, names, f.is ∙ ap Ok same ∙ sym reads)

  clean_first : (is_clean : D → Bool) (first now : JournalValue D) → now ≡ record first { room = now.room } →
      IsTrue (is_clean now.disk) → IsTrue (is_clean first.disk)
  clean_first is_clean first now same clean =
      subst (λ (d : D). IsTrue (is_clean d)) (ap (λ (j : JournalValue D). j.disk) same) clean

  pub beside_first : (is_clean : D → Bool) (first now : JournalValue D) → now ≡ record first { room = now.room } →
      IsTrue (is_clean now.beside) → IsTrue (is_clean first.beside)
  beside_first is_clean first now same clean =
      subst (λ (d : D). IsTrue (is_clean d)) (ap (λ (j : JournalValue D). j.beside) same) clean

  pub opened_is : (may_leave : D → List ℕ → Type 0) (is_clean : D → Bool) (first now : JournalValue D)
      (key : List ℕ) (head : Head) (file : List ℕ) (config : ConfigValue) (me : ℕ) (digits : List ℕ) →
      Opened may_leave is_clean first now key head file → IsHeadOf config me head → first.broken ≡ false →
      (IsTrue (is_clean first.disk) → digits ≡ concat first.batches) → 19497 ≤ now.room →
      IsOpened may_leave is_clean key config me file now digits
  opened_is may_leave is_clean first now key head file config me digits o names whole are room =
      let head_is : now.head ≡ head = ap (λ (j : JournalValue D). j.head) o.same ∙ o.head_is in
      let batches : now.batches ≡ first.batches = ap (λ (j : JournalValue D). j.batches) o.same in
      record {
        key_is = ap (λ (j : JournalValue D). j.key) o.same ∙ o.key_is;
        names = subst (IsHeadOf config me) (sym head_is) names;
        whole = ap (λ (j : JournalValue D). j.broken) o.same ∙ whole;
        settled = ap (λ (j : JournalValue D). j.synced) o.same ∙ o.settled ∙ ap length (sym batches);
        reads = λ clean. ap (λ (h : Head). reading key h file) head_is
            ∙ o.reads (clean_first is_clean first now o.same clean) ∙ ap Ok (sym batches);
        digits_are = λ clean. are (clean_first is_clean first now o.same clean) ∙ ap concat (sym batches);
        room = room;
        survives = o.survives;
      }

  -- where room is wanting
  pub roomless_left : (may_leave : D → List ℕ → Type 0) (is_clean : D → Bool) (first now : JournalValue D)
      (key : List ℕ) (head : Head) (file : List ℕ) (config : ConfigValue) (me : ℕ) (old : List ℕ → Type 0) →
      Opened may_leave is_clean first now key head file → IsHeadOf config me head → IsTrue (is_clean now.disk) →
      LeavesAsBefore key config me file old (may_leave now.disk)
  roomless_left may_leave is_clean first now key head file config me old o names clean =
      let key_is : now.key ≡ key = ap (λ (j : JournalValue D). j.key) o.same ∙ o.key_is in
      let head_is : now.head ≡ head = ap (λ (j : JournalValue D). j.head) o.same ∙ o.head_is in
      let batches : now.batches ≡ first.batches = ap (λ (j : JournalValue D). j.batches) o.same in
      let settled : now.synced ≡ length now.batches =
      ap (λ (j : JournalValue D). j.synced) o.same ∙ o.settled ∙ ap length (sym batches) in
      let reads : reading now.key now.head file ≡ Ok now.batches =
      (λ i. reading (key_is i) (head_is i) file) ∙ o.reads (clean_first is_clean first now o.same clean)
      ∙ ap Ok (sym batches) in
      subst (λ (k : List ℕ). LeavesAsBefore k config me file old (may_leave now.disk)) key_is
      (opened_leaves may_leave is_clean now config me file old
      (subst (IsHeadOf config me) (sym head_is) names) o.survives settled clean reads)
