-- What a journal that was opened makes of the node that is restored from it.
use Rattle.std.proofs.Common.{◌≡◌, ℕ, ◌≤◌, Bool, List, [], ap, sym, ◌∙◌, subst, Ok}
use Rattle.std.specs.Prelude.{IsTrue, All}
use Rattle.quorum_sizes.specs.Sizes.{AreSizes}
use Rattle.batch_journal.specs.Journals.{JournalValue}
use Rattle.batch_journal.specs.Readings.{reading}
use Rattle.role_node.specs.Configs.{ConfigValue}
use Rattle.role_node.specs.Nodes.{NodeValue}
use Rattle.node_lock.specs.Holds.{Held, end_of}
use Rattle.kept_node.specs.Events.{IsEventOf, digits_of_events}
use Rattle.kept_node.specs.NodeHeads.{IsHeadOf}
use Rattle.kept_node.specs.Keeping.{StandsFor}
use Rattle.kept_node.specs.Restoring.{IsIllegal, IsIllegalFile, LeavesAsBefore}
use Rattle.kept_node.specs.inside.Fields.{IsKept}
use Rattle.kept_node.specs.inside.Opening.{IsOpened}
use Rattle.kept_node.proofs.OpeningLemmas.{opened_leaves}
use Rattle.kept_node.proofs.KeptLemmas.{kept_restored}

module _ {D : Type 0} where
  pub opened_left : (may_leave : D → List ℕ → Type 0) (is_clean : D → Bool) (key : List ℕ) (config : ConfigValue)
      (me : ℕ) (file : List ℕ) (old : List ℕ → Type 0) (j : JournalValue D) (digits : List ℕ) →
      IsOpened may_leave is_clean key config me file j digits → IsTrue (is_clean j.disk) →
      LeavesAsBefore key config me file old (may_leave j.disk)
  opened_left may_leave is_clean key config me file old j digits o clean =
      let reads : reading j.key j.head file ≡ Ok j.batches =
      ap (λ (k : List ℕ). reading k j.head file) o.key_is ∙ o.reads clean in
      subst (λ (k : List ℕ). LeavesAsBefore k config me file old (may_leave j.disk)) o.key_is
      (opened_leaves may_leave is_clean j config me file old o.names o.survives o.settled clean reads)

  pub opened_illegal : (may_leave : D → List ℕ → Type 0) (is_clean : D → Bool) (key : List ℕ) (config : ConfigValue)
      (me : ℕ) (file : List ℕ) (j : JournalValue D) (digits : List ℕ) (place : ℕ) →
      IsOpened may_leave is_clean key config me file j digits → IsTrue (is_clean j.disk) →
      IsIllegal config me place digits → IsIllegalFile key config me place file
  opened_illegal may_leave is_clean key config me file j digits place o clean illegal = record {
    head = j.head;
    batches = j.batches;
    is_head = o.names;
    reads = o.reads clean;
    illegal = subst (IsIllegal config me place) (o.digits_are clean) illegal;
  }

  pub opened_stands : (may_leave : D → List ℕ → Type 0) (is_clean : D → Bool) (key file : List ℕ) (node new : NodeValue)
      (j : JournalValue D) (digits : List ℕ) →
      IsOpened may_leave is_clean key node.config node.me file j digits → IsTrue (is_clean j.disk) →
      new ≡ record node { history = new.history } → digits ≡ digits_of_events new.history →
      All (IsEventOf new.config.roles.sizes new.me) new.history →
      StandsFor key node.config node.me file new.history
  opened_stands may_leave is_clean key file node new j digits o clean same replayed each =
      let config : new.config ≡ node.config = ap (λ (n : NodeValue). n.config) same in
      let me : new.me ≡ node.me = ap (λ (n : NodeValue). n.me) same in
      record {
        head = j.head;
        batches = j.batches;
        is_head = o.names;
        reads = o.reads clean;
        digits = sym (o.digits_are clean) ∙ replayed;
        each = subst (λ (c : ConfigValue). All (IsEventOf c.roles.sizes node.me) new.history) config
            (subst (λ (m : ℕ). All (IsEventOf new.config.roles.sizes m) new.history) me each);
      }

  pub opened_kept : (may_leave : D → List ℕ → Type 0) (is_clean : D → Bool) (key file : List ℕ) (node : NodeValue)
      (held : Held) (j : JournalValue D) (digits waiting : List ℕ) (capacity count : ℕ) →
      IsOpened may_leave is_clean key node.config node.me file j digits →
      held.node ≡ record node { history = held.node.history } → digits ≡ digits_of_events held.node.history →
      All (IsEventOf held.node.config.roles.sizes held.node.me) held.node.history → count ≡ end_of held →
      AreSizes held.node.config.roles.sizes → waiting ≡ [] → 19456 ≤ capacity →
      IsKept may_leave is_clean held j waiting capacity count count
  opened_kept may_leave is_clean key file node held j digits waiting capacity count o same replayed each counted sizes
      none wide =
      let config : held.node.config ≡ node.config = ap (λ (n : NodeValue). n.config) same in
      let me : held.node.me ≡ node.me = ap (λ (n : NodeValue). n.me) same in
      let named : IsHeadOf held.node.config held.node.me j.head =
      subst (λ (c : ConfigValue). IsHeadOf c held.node.me j.head) (sym config)
      (subst (λ (m : ℕ). IsHeadOf node.config m j.head) (sym me) o.names) in
      kept_restored may_leave is_clean held j waiting capacity count counted none sizes each named o.room wide
      o.settled o.survives (λ clean. sym (o.digits_are clean) ∙ replayed)
