use Rattle.std.proofs.Common.{◌/◌, drop, ap, ◌∙◌, arith}
use Rattle.sorted_pairs.proofs.SplitLemmas.{is_split}
use Rattle.sorted_pairs.proofs.blocks.split.Goals as goal

pub returns-clause-ok : goal.returns-clause-ok
returns-clause-ok g c =
    is_split c.args.blocks.now.items c.insert.new.self.items c.args.place (c.len-half.result / 2) c.index.result.now
    c.index-2.result.now c.index_mut.result.now c.in_ok-upper.upper c.truncate.new.self
    (omega (arith, c.args.blocks.now.ok.0, c.requires)) c.index.ensures c.index-2.ensures c.in_ok-insert.ensures.items
    c.index_mut.ensures.value (ap (λ n. n / 2) c.len-half.ensures)
    (c.in_ok-upper.ensures.items ∙ ap (drop (c.len-half.result / 2)) c.deref.ensures.value)
    c.in_ok-upper.ensures.capacity c.truncate.ensures.items c.truncate.ensures.len c.truncate.ensures.capacity
