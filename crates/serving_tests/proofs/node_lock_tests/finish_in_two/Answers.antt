use Rattle.std.proofs.Common.{◌≡◌, List, [], ◌∷◌, ◌++◌, sym, ap, ◌∙◌, subst}
use Rattle.std.specs.Prelude.{All}
use Rattle.std.proofs.lemmas.List.Elements.{All-nil, All-push}
use Rattle.atomic_table.specs.Seated.{TableId}
use Rattle.node_lock.specs.Inboxes.{Passing, IsPassTo}
use Rattle.node_lock.specs.InboxFaults.{inbox_in, passes_in}
use Rattle.serving_tests.proofs.node_lock_tests.finish_in_two.Goals as goal

pub finish_at_last-requires : goal.finish_at_last-requires
finish_at_last-requires g c =
    let same : c.in-Err-PassMissing.inbox ≡ c.args.inbox =
    ap inbox_in (sym c.in-Err-PassMissing.field-0-is) ∙ c.in-Err-PassMissing.ensures.inbox in
    let back : c.in-Err-PassMissing.passes.items ≡ c.push.new.self.items =
    ap passes_in (sym c.in-Err-PassMissing.field-0-is) ∙ c.in-Err-PassMissing.ensures.passes in
    let one : c.push.new.self.items ≡ [] ++ c.args.pass ∷ [] =
    c.in_ok-push.ensures.items ∙ ap (λ (ps : List Passing). ps ++ c.args.pass ∷ []) c.in_ok-one.ensures in
    let both : c.push-2.new.self.items ≡ ([] ++ c.args.pass ∷ []) ++ c.args.kept ∷ [] =
    c.in_ok-push-2.ensures.items ∙ ap (λ (ps : List Passing). ps ++ c.args.kept ∷ []) (back ∙ one) in
    let all : All (IsPassTo c.args.inbox) (([] ++ c.args.pass ∷ []) ++ c.args.kept ∷ []) =
    All-push (IsPassTo c.args.inbox) ([] ++ c.args.pass ∷ []) c.args.kept
    (All-push (IsPassTo c.args.inbox) [] c.args.pass (All-nil (IsPassTo c.args.inbox)) c.requires.pass)
    c.requires.kept in
    let P : List Passing → Type 0 = λ ps. All (IsPassTo c.in-Err-PassMissing.inbox) ps in
    let Q : TableId → Type 0 = λ i. All (IsPassTo i) (([] ++ c.args.pass ∷ []) ++ c.args.kept ∷ []) in
    subst P (sym both) (subst Q (sym same) all)
