use Rattle.std.proofs.Common.{◌≡◌, ℕ, List, [], ◌++◌, length, take, drop, arith}
use Rattle.std.proofs.Common.{refl, ap, ◌∙◌, take_at, drop_at, append-nil}
use Rattle.std.proofs.Math.ListN.{drop_of_length-le}
use borrow.Rule.Slice.PartMut.{put_mid}
use Rattle.link_frames.specs.frames.Layout.{tag_at, tag_len}
use Rattle.link_frames.proofs.frames.sealing.joined.Goals as goal

-- both parts of a buffer were written
joined_is : (first fields second tag rest : List ℕ) → first ≡ fields → second ≡ tag → length fields ≡ tag_at
    → length rest ≡ tag_len
    → put_mid tag_at tag_len (first ++ rest) second ≡ fields ++ tag
joined_is first fields second tag rest one two len more =
    let front : take tag_at (first ++ rest) ≡ fields =
    ap (λ l. take tag_at (l ++ rest)) one ∙ take_at fields rest tag_at len in
    let behind : drop tag_at (first ++ rest) ≡ rest =
    ap (λ l. drop tag_at (l ++ rest)) one ∙ drop_at fields rest tag_at len in
    let nothing : drop tag_len rest ≡ [] = drop_of_length-le rest {i = tag_len} (omega arith) in
    rw (front, behind, nothing, two) (ap (λ l. fields ++ l) (append-nil tag))

pub returns : goal.returns
returns c = joined_is _ _ _ _ _ c.copy_from_slice.ensures.after c.copy_from_slice-2.ensures.after c.told-fields refl
