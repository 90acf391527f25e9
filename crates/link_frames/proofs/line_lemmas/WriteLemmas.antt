-- Texts that are written in parts.
use Rattle.std.proofs.Common.{◌≡◌, ℕ, ◌+◌, ◌-◌, ◌*◌, ◌≤◌, List, [], Option, length, take}
use Rattle.std.proofs.Common.{drop, refl, sym, subst, take-append-drop, append-nil}
use Rattle.std.proofs.lemmas.List.{take_rest}
use Rattle.std.proofs.Math.Seq.{take-add}
use Rattle.std.proofs.KnownBytes.{Appends-trans, Appends-kept, Appends-nil}
use Rattle.std.specs.Io.KnownBytes.{Appends, Keeps}
use Rattle.link_frames.specs.lines.Watching.{Tally}
use Rattle.link_frames.specs.lines.Devices.{most_retries, WentOn, AppendsFront}

-- so many of the bytes were written, each try with few interruptions
pub record Sent (before now : Option (List ℕ)) (old new : Tally) (bytes : List ℕ) (sent : ℕ) : Type 0 where
  pub within : sent ≤ length bytes
  pub wrote : Appends before now (take sent bytes)
  pub went : WentOn old new
  pub few : new.faults ≤ old.faults + most_retries * sent
  pub unread : new.reads ≡ old.reads

pub Appends-more : (a b c : Option (List ℕ)) (xs : List ℕ) (k n : ℕ) → Appends a b (take k xs)
    → Appends b c (take n (take (length xs - k) (drop k xs))) → Appends a c (take (k + n) xs)
Appends-more a b c xs k n p q =
    let q' : Appends b c (take n (drop k xs)) = subst (λ (l : List ℕ). Appends b c (take n l)) (take_rest xs k) q in
    subst (Appends a c) (sym (take-add k n xs)) (Appends-trans a b c _ _ p q')

-- what was written when a writer failed
pub AppendsFront-kept : (a b c : Option (List ℕ)) (xs : List ℕ) (k : ℕ) → Appends a b (take k xs) → Keeps b c
    → AppendsFront a c xs
AppendsFront-kept a b c xs k p q = (take k xs, drop k xs, sym (take-append-drop k xs), Appends-kept a b c _ p q)

-- nothing was written
pub AppendsFront-nothing : (a : Option (List ℕ)) (held : List ℕ) → AppendsFront a a held
AppendsFront-nothing a held = ([], held, refl, Appends-nil a)

-- all of it was written
pub AppendsFront-whole : (a b : Option (List ℕ)) (held : List ℕ) → Appends a b held → AppendsFront a b held
AppendsFront-whole a b held wrote = (held, [], sym (append-nil held), wrote)
