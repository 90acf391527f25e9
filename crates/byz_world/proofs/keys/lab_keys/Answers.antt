use Rattle.std.proofs.Common.{◌≡◌, ℕ, List, [], ◌∷◌, ◌++◌, length, Result, Err, ap, sym, ◌∙◌, subst, arith}
use Rattle.std.proofs.lemmas.Grind.{common_steps}
use Rattle.std.proofs.lemmas.List.FromFn.{map-range_with_len_more, length-map-range_with_len}
use Rattle.link_frames.specs.frames.KeyRings.{KeyRing}
use Rattle.link_frames.specs.frames.Keys.{KeysDue}
use Rattle.link_frames.specs.declared.frames.keys.KeyFault.{KeyFault}
use Rattle.link_frames.specs.declared.frames.keys.KeyFault.TheVariants.{WrongCount}
use Rattle.byz_world.specs.LabKeys.{lab_key}
use Rattle.byz_world.proofs.keys.lab_keys.Goals as goal

pub loop-index-preserved : goal.loop-index-preserved
loop-index-preserved c =
    let f : ℕ → List ℕ = lab_key c.args.me in
    let pushed : c.push.new.self.items
    ≡ c.loop-index.keys.items ++ c.lab_key.result ∷ [] = grind (arith, common_steps) in
    let name : c.unwrap.result ≡ c.loop-index.index = grind (arith, common_steps) in
    let one : c.lab_key.result ≡ f c.loop-index.index = c.lab_key.ensures ∙ ap f name in
    pushed ∙ (λ i. c.loop-index.invariant i ++ one i ∷ [])
    ∙ sym (map-range_with_len_more f 0 c.loop-index.index c.loop-index.index (omega arith))

-- there is a key for each node
pub unreachable-requires : goal.unreachable-requires
unreachable-requires c =
    let keys : List (List ℕ) = c.deref.result.now in
    let P : Result KeyRing KeyFault → Type 0 = λ r. KeysDue c.args.sizes.now c.args.me keys r in
    let wrong : P (Err WrongCount) =
    subst P (c.in-Err-WrongCount.is ∙ ap Err c.in-Err-WrongCount.field-0-is) c.new.ensures in
    let long : length keys ≡ c.loop-index.index =
    ap length (c.deref.ensures.value ∙ c.loop-index.invariant)
    ∙ length-map-range_with_len (lab_key c.args.me) 0 c.loop-index.index in
    let all : c.loop-index.index ≡ c.args.sizes.now.nodes = grind (arith, common_steps) in
    wrong (long ∙ all)
