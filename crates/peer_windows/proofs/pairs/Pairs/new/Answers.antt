use Rattle.std.proofs.Common.{◌≡◌, ℕ, ◌<◌, ◌∙◌, ap, sym, arith, length, replicate}
use Rattle.std.proofs.lemmas.List.{length-replicate}
use Rattle.peer_windows.specs.Pauses.{never}
use Rattle.peer_windows.specs.Pairs.{new_pair}
use Rattle.peer_windows.specs.Owners.{PairsValue, begun_at, pairs_at_first}
use Rattle.peer_windows.proofs.EachOwner.{begun_first, begun_more, begun_all, pairs_unbegun}
use Rattle.peer_windows.proofs.pairs.Pairs.new.Goals as goal

pub loop-owner-2-preserved : goal.loop-owner-2-preserved
loop-owner-2-preserved c =
    let first : PairsValue = record {
      me = c.args.me;
      longest = c.longest_look.result;
      pairs = c.loop-owner.pairs.items;
      dues = c.in_ok-from_elem.field-0.items;
      moved = c.in_ok-from_elem-2.field-0.items;
      probes = c.in_ok-first_probes.field-0.items;
      turn = 0;
    } in
    let count : c.len-owner-end.result ≡ length first.pairs = c.len-owner-end.ensures ∙ c.loop-owner.pairs.ok.0 in
    let nodes : c.loop-owner._owner ≡ c.n-nodes.result = omega arith in
    let pairs : length first.pairs ≡ c.loop-owner._owner =
    ap length c.loop-owner.invariant
    ∙ length-replicate c.loop-owner._owner (replicate c.n-nodes.result new_pair) in
    let dues : length first.dues ≡ c.n-nodes.result =
    sym c.in_ok-from_elem.field-0.ok.0 ∙ c.in_ok-from_elem.ensures.len ∙ c.from-2.ensures in
    let same : length first.dues ≡ length first.pairs = omega arith in
    let within : c.loop-owner-2.owner < length first.pairs = omega arith in
    let me : c.from-in-loop-owner-2.result ≡ c.args.me = c.from-in-loop-owner-2.ensures ∙ c.index.ensures.value in
    c.begin.ensures
    ∙ ap (λ peer. begun_at c.args.now c.loop-owner-2.owner peer c.loop-owner-2.made) me
    ∙ begun_more c.args.now c.args.me c.loop-owner-2.owner first c.loop-owner-2.made within same
    c.loop-owner-2.invariant

pub returns : goal.returns
returns c =
    let now : ℕ = c.args.now in
    let me : ℕ = c.args.me in
    let n : ℕ = c.n-nodes.result in
    let first : PairsValue = record {
      me = me;
      longest = c.longest_look.result;
      pairs = c.loop-owner.pairs.items;
      dues = c.in_ok-from_elem.field-0.items;
      moved = c.in_ok-from_elem-2.field-0.items;
      probes = c.in_ok-first_probes.field-0.items;
      turn = 0;
    } in
    let nodes : c.loop-owner._owner ≡ n = omega arith in
    let pairs : first.pairs ≡ replicate n (replicate n new_pair) =
    c.loop-owner.invariant ∙ ap (λ m. replicate m (replicate n new_pair)) nodes in
    let count : c.len-owner-end.result ≡ n =
    c.len-owner-end.ensures ∙ c.loop-owner.pairs.ok.0 ∙ ap length pairs
    ∙ length-replicate n (replicate n new_pair) in
    let dues : first.dues ≡ replicate n never =
    c.in_ok-from_elem.ensures.items_if_clones_equal (λ y e. e) ∙ ap (λ m. replicate m never) c.from-2.ensures in
    let moved : first.moved ≡ replicate n 0 =
    c.in_ok-from_elem-2.ensures.items_if_clones_equal (λ y e. e) ∙ ap (λ m. replicate m 0) c.from-3.ensures in
    let probes : first.probes ≡ (pairs_at_first now n me).probes = c.in_ok-first_probes.ensures in
    let is : first ≡ pairs_unbegun n me (pairs_at_first now n me).probes =
    cc (c.longest_look.ensures.value, pairs, dues, moved, probes) in
    let all : c.loop-owner-2.owner ≡ n = omega arith in
    c.loop-owner-2.invariant
    ∙ ap (λ m. begun_first now me m first) all
    ∙ ap (begun_first now me n) is
    ∙ begun_all now n me c.requires
    ∙ ap (λ m. pairs_at_first now m me) c.n-nodes.ensures.value
