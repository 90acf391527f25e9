use Rattle.std.proofs.Common.{◌≡◌, Result, Ok, Err, refl, arith, ◌∙◌, sym}
use Rattle.std.specs.Prelude.{IfOk}
use Rattle.link_frames.proofs.frame_lemmas.OpeningLemmas.{open_takes, open_again}
use Rattle.link_frames.proofs.frames.opening.open_frame.Goals as goal

if_ok : {X E : Type 0} (r : Result X E) (P : X → Type 0) → ((x : X) → r ≡ Ok x → P x) → IfOk r P
if_ok (Ok x) P h = h x refl
if_ok (Err e) P h = tt

pub returns-clause-only : goal.returns-clause-only
returns-clause-only c p h = c.open_bytes.ensures ∙ open_again _ _ _ p (omega (arith, c.ranges.cluster)) h

pub returns-clause-found : goal.returns-clause-found
returns-clause-found c =
    if_ok _ _ (λ p e. open_takes _ _ _ p (λ i. omega (arith, c.type_inv.bytes i)) (sym c.open_bytes.ensures ∙ e))
