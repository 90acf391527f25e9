-- Frames that a writer takes, in some writes.
use Rattle.std.proofs.Common.{◌≡◌, ◌∙◌, refl, sym, ap, subst, ℕ, ◌+◌, List, Option, take, drop}
use Rattle.std.proofs.Math.Seq.{take-add}
use Rattle.std.proofs.lemmas.List.{drop-drop}
use Rattle.std.proofs.KnownBytes.{Appends-trans, Appends-kept, Appends-nil}
use Rattle.std.specs.Io.KnownBytes.{Appends, Keeps}
use Rattle.frame_queues.specs.Unsent.{UnsentValue, unsent}
use Rattle.server_locks.specs.Lines.{HasGone}

-- before the first write
pub none_gone : (a : Option (List ℕ)) (u : UnsentValue) → HasGone a a u u
none_gone a u = record { count = 0; taken = Appends-nil a; rest = refl }

-- the writer has taken so many bytes more
pub more_gone : (a b c : Option (List ℕ)) (u v w : UnsentValue) (n : ℕ) → HasGone a b u v →
    Appends b c (take n (unsent v)) → unsent w ≡ drop n (unsent v) → HasGone a c u w
more_gone a b c u v w n gone took rest =
    let next = ap (take n) gone.rest in record {
      count = gone.count + n;
      taken =
          subst (Appends a c) (sym (take-add gone.count n (unsent u)))
          (Appends-trans a b c _ _ gone.taken (subst (Appends b c) next took));
      rest = rest ∙ ap (drop n) gone.rest ∙ drop-drop n gone.count (unsent u);
    }

-- it has failed, and taken none
pub failed_then : (a b c : Option (List ℕ)) (u v w : UnsentValue) → HasGone a b u v → Keeps b c → w ≡ v →
    HasGone a c u w
failed_then a b c u v w gone kept same =
    record { count = gone.count; taken = Appends-kept a b c _ gone.taken kept; rest = ap unsent same ∙ gone.rest }
