use Rattle.std.proofs.Common.{◌≡◌, ℕ, [], ◌∷◌, ◌++◌, Option, ap, sym, ◌∙◌, arith}
use Rattle.std.proofs.lemmas.Grind.{common_steps}
use Rattle.std.proofs.lemmas.List.FromFn.{map-range_with_len_more}
use Rattle.link_frames.specs.frames.KeyRings.{KeyRing}
use Rattle.byz_world.specs.LabKeys.{ring_due}
use Rattle.byz_world.proofs.keys.new_keys.Goals as goal

pub loop-index-preserved : goal.loop-index-preserved
loop-index-preserved c =
    let f : ℕ → Option KeyRing = ring_due c.args.sizes c.args.liars.now in
    let pushed : c.push.new.self.items
    ≡ c.loop-index.keys.items ++ c.in_ok-keys_due.field-0 ∷ [] = grind (arith, common_steps) in
    let name : c.unwrap-name.result ≡ c.loop-index.index = grind (arith, common_steps) in
    let one : c.in_ok-keys_due.field-0 ≡ f c.loop-index.index = c.in_ok-keys_due.ensures ∙ ap f name in
    pushed ∙ (λ i. c.loop-index.invariant i ++ one i ∷ [])
    ∙ sym (map-range_with_len_more f 0 c.loop-index.index c.loop-index.index (omega arith))
