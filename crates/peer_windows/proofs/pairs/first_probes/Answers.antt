use Rattle.std.proofs.Common.{◌≡◌, ℕ, ◌+◌, ◌++◌, ◌∷◌, [], arith}
use Rattle.std.specs.Prelude.{map}
use Rattle.std.specs.List.{range_with_len}
use Rattle.std.proofs.lemmas.List.FromFn.{map-range_with_len_more}
use Rattle.peer_windows.specs.Owners.{first_probe}
use Rattle.peer_windows.proofs.pairs.first_probes.Goals as goal

pub loop-peer-preserved : goal.loop-peer-preserved
loop-peer-preserved c =
    let f : ℕ → ℕ = first_probe c.args.now c.args.nodes c.args.me in
    let peer : ℕ = c.loop-peer.peer in
    let more : map f (range_with_len 0 (peer + 1)) ≡ map f (range_with_len 0 peer) ++ f peer ∷ [] =
    map-range_with_len_more f 0 peer peer (omega arith) in
    cc (
      more,
      c.in_ok-push.ensures.items,
      c.from-in-loop-peer.ensures,
      c.from-in-loop-peer-2.ensures,
      c.from-in-loop-peer-3.ensures,
      c.from-in-loop-peer-4.ensures,
      c.index.ensures.value,
      c.loop-peer.invariant,
    )
