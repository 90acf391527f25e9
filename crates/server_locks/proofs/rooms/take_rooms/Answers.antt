use Rattle.std.proofs.Common.{rules, ◌≡◌, ◌∙◌, ◌+◌, ◌<◌, ◌++◌, ◌∷◌, [], ℕ, List, Option, length, sym, ap}
use Rattle.std.specs.Prelude.{take}
use Rattle.std.proofs.Math.Seq.{take-suc}
use native.Mathlib.Numerals.{unary_clauses}
use Rattle.peer_windows.specs.declared.owed.Share.{Share}
use Rattle.server_locks.specs.Rooms.{rooms_beside}
use Rattle.server_locks.proofs.FrontLemmas.{rooms_beside_more}
use Rattle.server_locks.proofs.rooms.take_rooms.Goals as goal

pub loop-share-preserved : goal.loop-share-preserved
loop-share-preserved c =
    let shares = c.args.shares.now in
    let i = c.loop-share.share-index in
    let share = c.share-item.result in
    let there : i < length shares = search rules in
    let one_more : take i shares ++ share ∷ [] ≡ take (i + 1) shares =
    simp unary_clauses
    (ap (λ (x : Share). take i shares ++ x ∷ []) c.share-item.is ∙ sym (take-suc shares i share there)) in
    c.take_room.ensures
    ∙ ap (λ (rooms : List (Option ℕ)). rooms_beside (share ∷ []) rooms) c.loop-share.invariant
    ∙ sym (rooms_beside_more (take i shares) share c.args.rooms.now)
    ∙ ap (λ (front : List Share). rooms_beside front c.args.rooms.now) one_more
