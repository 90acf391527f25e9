-- A cluster file that was read in several reads.
use Rattle.std.proofs.Common.{◌≡◌, ℕ, ◌+◌, ◌<◌, ◌≤◌, ◌⊎◌, inl, inr, true, nat_lt, List, [], ◌++◌, length, take}
use Rattle.std.proofs.Common.{Option, Result, Ok, Err, IfOk, IfErr, refl, ap, sym, subst, ◌∙◌, arith}
use Rattle.std.proofs.Common.{append-nil, length-append}
use Rattle.std.proofs.Common.{length-take-le}
use Rattle.std.proofs.lemmas.Bool.{cases_lt}
use Rattle.std.proofs.lemmas.Bool.Decides.{nat_tests}
use Rattle.std.proofs.Math.Seq.{take-append_seam}
use Rattle.std.proofs.KnownBytes.{Consumes-trans}
use Rattle.std.specs.Io.KnownBytes.{Consumes}
use borrow.Rule.Slice.PartMut.{put_mid}
use Rattle.link_frames.specs.lines.Devices.{WentOn}
use Rattle.link_frames.specs.lines.LinePrograms.{HasBytes}
use Rattle.link_frames.specs.lines.Watching.{Tally}
use Rattle.link_frames.proofs.Exported.{HasBytes-done, WentOn-trans, some_tail, nothing_left, front_read}
use Rattle.cluster_text.specs.Files.{Filled, SetupRead, RefusesSetup}
use Rattle.cluster_text.specs.Setups.{setup_due, most_text_bytes}
use Rattle.cluster_text.specs.declared.cluster.Mode.{Mode}
use Rattle.cluster_text.specs.declared.cluster.Mode.TheVariants.{Serve}
use Rattle.cluster_text.specs.declared.cluster.Setup.{Setup}
use Rattle.cluster_text.specs.declared.fault.ClusterFault.TheVariants as fault
use Rattle.cluster_text.specs.declared.fault.FileFault.{FileFault}
use Rattle.cluster_text.specs.declared.fault.FileFault.TheVariants as file

-- so many bytes were read so far
pub record Filling (before now : Option (List ℕ)) (old new : Tally) (buffer : List ℕ) (have : ℕ) : Type 0 where
  pub within : have ≤ length buffer
  pub gave : Consumes before now (take have buffer)
  pub went : WentOn old new

-- n bytes more were read
pub filled_more : {a b : Option (List ℕ)} {old mid : Tally} {buffer : List ℕ} {have : ℕ} (c : Option (List ℕ))
    (new : Tally) (k n : ℕ) (rest : List ℕ) → Filling a b old mid buffer have → n ≤ length rest
    → have + n ≤ length (put_mid have k buffer rest) → Consumes b c (take n rest) → WentOn mid new
    → Filling a c old new (put_mid have k buffer rest) (have + n)
filled_more {buffer} {have} c new k n rest h fits within read went = record {
  within = within;
  gave = subst (Consumes _ _) (sym (front_read have k n buffer rest h.within fits))
      (Consumes-trans _ _ _ _ _ h.gave read);
  went = WentOn-trans h.went went;
}

-- ---- the text that was read says what all that the reader had says

pub setup_due-long : (mode : Mode) (text : List ℕ) → most_text_bytes < length text
    → setup_due mode text ≡ Err fault.NotJson
unfolding setup_due
setup_due-long mode text long =
    let past : nat_lt most_text_bytes (length text) ≡ true = grind (arith, nat_tests) in rw past refl

-- All that the reader had is what was read, or both are too long.
pub text_read : (p q : Option (List ℕ)) (buffer : List ℕ) (n : ℕ) → length buffer ≡ most_text_bytes + 1
    → Filled p q buffer n
    → (text : List ℕ) × HasBytes p text
    × ((text ≡ take n buffer) ⊎ ((most_text_bytes < length text) × (most_text_bytes < length (take n buffer))))
text_read p q buffer n len (within, read, end) = by_length (cases_lt n (most_text_bytes + 1))
  where
    by_length : (n < most_text_bytes + 1) ⊎ (most_text_bytes + 1 ≤ n)
        → (text : List ℕ) × HasBytes p text
        × ((text ≡ take n buffer) ⊎ ((most_text_bytes < length text) × (most_text_bytes < length (take n buffer))))
    by_length (inl short) =
        let has = HasBytes-done p q (take n buffer) [] read (nothing_left q (end (omega (arith, len, short)))) in
        (take n buffer ++ [], has, inl (append-nil (take n buffer)))
    by_length (inr full) =
        let (tail, has) = some_tail q in
        let front = take n buffer in
        let size : length front ≡ n = length-take-le n buffer within in (
          front ++ tail,
          HasBytes-done p q front tail read has,
          inr (omega (arith, size, full, length-append front tail), omega (arith, size, full)),
        )

whole_text : (p q : Option (List ℕ)) (buffer : List ℕ) (n : ℕ) → length buffer ≡ most_text_bytes + 1
    → Filled p q buffer n
    → (text : List ℕ) × HasBytes p text × (setup_due Serve text ≡ setup_due Serve (take n buffer))
whole_text p q buffer n len filled =
    let (text, has, same) = text_read p q buffer n len filled in (text, has, by_case text same)
  where
    by_case : (text : List ℕ)
        → (text ≡ take n buffer) ⊎ ((most_text_bytes < length text) × (most_text_bytes < length (take n buffer)))
        → setup_due Serve text ≡ setup_due Serve (take n buffer)
    by_case text (inl same) = ap (setup_due Serve) same
    by_case text (inr (long, longer)) = setup_due-long Serve text long ∙ sym (setup_due-long Serve _ longer)

-- what the text says is what all that the reader had says
pub setup_read : (p q : Option (List ℕ)) (buffer : List ℕ) (n : ℕ) (result : Result Setup FileFault)
    → length buffer ≡ most_text_bytes + 1 → Filled p q buffer n
    → IfOk result (λ setup. setup_due Serve (take n buffer) ≡ Ok setup)
    → IfErr result (RefusesSetup (take n buffer)) → SetupRead p result
setup_read p q buffer n (Ok setup) len filled due refused =
    let (text, has, same) = whole_text p q buffer n len filled in (text, has, same ∙ due)
setup_read p q buffer n (Err (file.Cluster fault)) len filled due refused =
    let (text, has, same) = whole_text p q buffer n len filled in (text, has, same ∙ refused)
setup_read p q buffer n (Err file.Unread) len filled due refused = tt
setup_read p q buffer n (Err file.Memory) len filled due refused = tt

pub not_unread : (text : List ℕ) (result : Result Setup FileFault) (F : Type 0) → IfErr result (RefusesSetup text)
    → IfErr result (λ e. e ≡ file.Unread → F)
not_unread text (Ok setup) F refused = tt
not_unread text (Err (file.Cluster fault)) F refused = λ e. absurd cc
not_unread text (Err file.Unread) F refused = absurd refused
not_unread text (Err file.Memory) F refused = λ e. absurd cc

-- a buffer as it is shown after it was written
pub shown_buffer : (shown buffer behind : List ℕ) (whole : ℕ) → shown ≡ take whole (buffer ++ behind)
    → whole ≡ length buffer → shown ≡ buffer
shown_buffer shown buffer behind whole is size =
    is ∙ ap (λ m. take m (buffer ++ behind)) size ∙ take-append_seam buffer behind
