use Rattle.std.proofs.Common.{◌≡◌, ◌∙◌, ℕ, List, ◌∷◌, ap, ◌++◌}
use Rattle.std.proofs.Common.{append_assoc, codes, get_or, string_bytes}
use Rattle.std.specs.Fmt.{decimal}
use Rattle.lab_scripts.specs.OrderTexts.{permissions_text}
use Rattle.role_commands.specs.Numbers.{space}
use Rattle.link_frames.proofs.Exported.{written_more}
use Rattle.lab_scripts.proofs.order_texts.permissions_text.Goals as goal

pub loop-operation-init : goal.loop-operation-init
unfolding permissions_text
loop-operation-init c = c.in_ok-text.ensures.ok

item : ℕ × ℕ → List ℕ
item p = codes " " ++ decimal p.0 ++ codes ":" ++ decimal p.1

item-grouped : (p : ℕ × ℕ) → space ∷ (decimal p.0 ++ (codes ":" ++ decimal p.1)) ≡ item p
unfolding item
item-grouped p = simp append_assoc

pub loop-operation-preserved : goal.loop-operation-preserved
unfolding permissions_text item
loop-operation-preserved c =
    let xs = c.args.permissions.now in
    let i = c.loop-operation.operation-index in
    let p = get_or xs i (0, 0) in
    let text = string_bytes c.loop-operation.text in
    let grouped : text ++ (space ∷ (decimal p.0 ++ (codes ":" ++ decimal p.1))) ≡ text ++ item p =
    rw (item-grouped p) in
    c.in_ok-write.ensures.bytes ∙ grouped
    ∙ ap (λ (front : List ℕ). front ++ item p) c.loop-operation.invariant
    ∙ written_more item (codes "list") xs i (0, 0) c.loop-operation-test.true
