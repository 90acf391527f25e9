-- A cluster file that was read into a buffer.
use Rattle.std.proofs.Common.{◌≡◌, ℕ, ◌+◌, ◌<◌, ◌≤◌, ◌⊎◌, inl, inr, true, nat_lt, List, length, take}
use Rattle.std.proofs.Common.{Option, None, Result, Ok, Err, IfErr, refl, sym, subst, ◌∙◌, arith}
use Rattle.std.proofs.lemmas.Bool.Decides.{nat_tests}
use Rattle.link_frames.specs.lines.LinePrograms.{HasBytes}
use Rattle.cluster_text.proofs.Exported.{setup_due-long, text_read}
use Rattle.cluster_text.specs.Files.{Filled}
use Rattle.cluster_text.specs.Results.{IsDueOrMemory}
use Rattle.cluster_text.specs.Setups.{setup_due, most_text_bytes}
use Rattle.cluster_text.specs.declared.cluster.Mode.TheVariants.{Serve}
use Rattle.cluster_text.specs.declared.cluster.Setup.{Setup}
use Rattle.cluster_text.specs.declared.fault.ClusterFault.{ClusterFault}
use Rattle.cluster_hosts.specs.Givens.{reserved_in, IsGiven, GivenRead}
use Rattle.cluster_hosts.specs.declared.hosts.Given.{Given}
use Rattle.cluster_hosts.specs.declared.fault.GivenFault.{GivenFault}
use Rattle.cluster_hosts.specs.declared.fault.GivenFault.TheVariants as fault

-- a setup that was read is the one that is due
pub due_Ok : (due : Result Setup ClusterFault) (setup : Setup) → IsDueOrMemory due (Ok setup) → due ≡ Ok setup
due_Ok due setup (inl e) = sym e
due_Ok due setup (inr e) = absurd cc

-- a text that sets up a node is not too long
pub not_long : (text : List ℕ) (setup : Setup) → setup_due Serve text ≡ Ok setup → length text ≤ most_text_bytes
not_long text setup due = omega (arith, long)
  where
    long : most_text_bytes < length text → ⊥
    long longer = let e = setup_due-long Serve text longer in absurd cc

reserved_in-long : (text : List ℕ) → most_text_bytes < length text → reserved_in text ≡ None
unfolding reserved_in
reserved_in-long text long =
    let past : nat_lt most_text_bytes (length text) ≡ true = grind (arith, nat_tests) in rw past refl

-- of two texts that are too long the same is said
given_long : (text other : List ℕ) (result : Result Given GivenFault) → most_text_bytes < length text
    → most_text_bytes < length other → IsGiven other result → (result ≡ Err fault.Memory → ⊥) → IsGiven text result
given_long text other (Ok given) long longer (none, due, not, hosts) memory =
    absurd (omega (arith, not_long other given.setup due))
given_long text other (Err (fault.Reserved member)) long longer (inl some) memory =
    let none = reserved_in-long other longer in absurd cc
given_long text other (Err (fault.Reserved member)) long longer (inr (is, none, (setup, due, role))) memory =
    absurd (omega (arith, not_long other setup due))
given_long text other (Err (fault.Cluster f)) long longer (none, due) memory =
    (reserved_in-long text long, setup_due-long Serve text long ∙ sym (setup_due-long Serve other longer) ∙ due)
given_long text other (Err fault.Hosts) long longer (none, (setup, due, not, hosts)) memory =
    absurd (omega (arith, not_long other setup due))
given_long text other (Err fault.Unread) long longer given memory = given
given_long text other (Err fault.Memory) long longer given memory = absurd (memory refl)

module _ (p q : Option (List ℕ)) (buffer : List ℕ) (n : ℕ) (len : length buffer ≡ most_text_bytes + 1)
    (filled : Filled p q buffer n) where
  -- what the buffer says is what all that the reader had says
  whole : (result : Result Given GivenFault) → IsGiven (take n buffer) result → (result ≡ Err fault.Memory → ⊥)
      → (text : List ℕ) × HasBytes p text × IsGiven text result
  whole result given memory =
      let (text, has, same) = text_read p q buffer n len filled in (text, has, by_case text same)
    where
      by_case : (text : List ℕ)
          → (text ≡ take n buffer) ⊎ ((most_text_bytes < length text) × (most_text_bytes < length (take n buffer)))
          → IsGiven text result
      by_case text (inl same) = subst (λ t. IsGiven t result) (sym same) given
      by_case text (inr (long, longer)) = given_long text _ result long longer given memory

  pub given_read : (result : Result Given GivenFault) → IsGiven (take n buffer) result → GivenRead p result
  given_read (Ok answer) given = whole (Ok answer) given (λ e. absurd cc)
  given_read (Err (fault.Reserved member)) given = whole (Err (fault.Reserved member)) given (λ e. absurd cc)
  given_read (Err (fault.Cluster f)) given = whole (Err (fault.Cluster f)) given (λ e. absurd cc)
  given_read (Err fault.Hosts) given = whole (Err fault.Hosts) given (λ e. absurd cc)
  given_read (Err fault.Unread) given = tt
  given_read (Err fault.Memory) given = tt

pub not_unread : (text : List ℕ) (result : Result Given GivenFault) (F : Type 0) → IsGiven text result
    → IfErr result (λ e. e ≡ fault.Unread → F)
not_unread text (Ok answer) F given = tt
not_unread text (Err (fault.Reserved member)) F given = λ e. absurd cc
not_unread text (Err (fault.Cluster f)) F given = λ e. absurd cc
not_unread text (Err fault.Hosts) F given = λ e. absurd cc
not_unread text (Err fault.Unread) F given = absurd given
not_unread text (Err fault.Memory) F given = λ e. absurd cc
