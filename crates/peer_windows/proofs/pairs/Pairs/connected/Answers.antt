use Rattle.std.proofs.Common.{◌≡◌, ◌<◌, ◌∙◌, ap, arith, length}
use Rattle.peer_windows.specs.Owners.{PairsValue}
use Rattle.peer_windows.proofs.EachOwner.{joined_more}
use Rattle.peer_windows.proofs.pairs.Pairs.connected.Goals as goal

pub loop-owner-preserved : goal.loop-owner-preserved
loop-owner-preserved c =
    let a : PairsValue = c.args.self.now in
    let dues : length c.self.inside.dues.items ≡ length a.dues =
    ap (λ (x : PairsValue). length x.dues) c.self.view_is in
    let pairs : length c.self.inside.pairs.items ≡ length a.pairs =
    ap (λ (x : PairsValue). length x.pairs) c.self.view_is in
    let count : c.len-owner-end.result ≡ length c.self.inside.pairs.items =
    c.len-owner-end.ensures ∙ c.self.inside.pairs.ok.0 in
    let same : length a.dues ≡ length a.pairs = omega arith in
    let within : c.loop-owner.owner < length a.pairs = omega arith in
    c.join.ensures
    ∙ joined_more c.args.now c.from-peer.result c.loop-owner.owner a c.loop-owner.self within same
    c.loop-owner.invariant
