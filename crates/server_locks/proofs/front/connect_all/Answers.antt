use Rattle.std.proofs.Common.{rules, ◌≡◌, ◌+◌, ◌<◌, ◌++◌, ◌∷◌, [], ℕ, List, length, sym, ap, ◌∙◌}
use Rattle.std.specs.Prelude.{take}
use Rattle.std.proofs.Math.Seq.{take-suc}
use native.Mathlib.Numerals.{unary_clauses}
use Rattle.peer_windows.specs.Owners.{PairsValue, connected}
use Rattle.server_locks.specs.Fronts.{all_connected}
use Rattle.server_locks.proofs.FrontLemmas.{all_connected_more}
use Rattle.server_locks.proofs.front.connect_all.Goals as goal

-- src/front.rt:294:5
pub loop-peer-preserved : goal.loop-peer-preserved
loop-peer-preserved c =
    let peers = c.args.peers.now in
    let i = c.loop-peer.peer-index in
    let peer = c.peer-item.result in
    let there : i < length peers = search rules in
    let one_more : take i peers ++ peer ∷ [] ≡ take (i + 1) peers =
    simp unary_clauses (ap (λ (x : ℕ). take i peers ++ x ∷ []) c.peer-item.is ∙ sym (take-suc peers i peer there)) in
    c.connected.ensures
    ∙ ap (λ (a : PairsValue). connected c.args.now peer a) c.loop-peer.invariant
    ∙ sym (all_connected_more c.args.now (take i peers) peer c.args.pairs.now)
    ∙ ap (λ (front : List ℕ). all_connected c.args.now front c.args.pairs.now) one_more
