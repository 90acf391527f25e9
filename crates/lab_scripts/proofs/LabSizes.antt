-- The sizes of a cluster stay, whatever a line asks; and no liar is too many.
use Rattle.std.proofs.Common.{◌≡◌, ℕ, zero, suc, ◌+◌, ◌&&◌, false, nat_lt}
use Rattle.std.proofs.Common.{Option, Some, None, refl, sym, ap, ◌∙◌, arith}
use Rattle.std.proofs.lemmas.Bool.{le-ltb}
use Rattle.std.specs.Option.{option_map_or}
use Rattle.std.specs.Ordering.{nat_cmp}
use Rattle.std.specs.FinSet as sets
use Rattle.quorum_sizes.specs.Sizes.{Counts}
use Rattle.quorum_sizes.specs.NodeSets.{nodes_among}
use Rattle.quorum_sizes.proofs.Exported.{same_names, contains-nodes_among}
use Rattle.byz_world.specs.Steps.{after_step}
use Rattle.byz_world.specs.Worlds.{WorldValue, too_many_lie}
use Rattle.byz_world.proofs.Exported.{settled-config}
use Rattle.byz_world.specs.declared.step.Step.{Step}
use Rattle.byz_world.specs.declared.step.Step.TheVariants.{Give}
use Rattle.lab_scripts.specs.Labs.{Lab, lab_sizes, next_number, after_doing, flush_within, after_order}
use Rattle.lab_scripts.specs.declared.orders.ScriptLine.{ScriptLine}
use Rattle.lab_scripts.specs.declared.orders.ScriptLine.TheVariants.{Do, Flush, Settle, Rest, Ask, Reach, Agree}

pub after_step-config : (w : WorldValue) (step : Step) → (after_step w step).config ≡ w.config
unfolding after_step
after_step-config w step = refl

flush_within-config : (times count : ℕ) (lab : Lab) → (flush_within times count lab).lab.world.config ≡ lab.world.config
unfolding flush_within
flush_within-config zero count lab = refl
flush_within-config (suc times) count lab =
    at (next_number lab) (λ number. flush_within-config times (count + 1) (after_doing lab (Give number)))
  where
    at : (o : Option ℕ)
        → ((number : ℕ) → (flush_within times (count + 1) (after_doing lab (Give number))).lab.world.config
        ≡ (after_doing lab (Give number)).world.config)
        → (option_map_or (λ number. flush_within times (count + 1) (after_doing lab (Give number))) o
        (record { count = count; lab = lab })).lab.world.config ≡ lab.world.config
    at None rest = refl
    at (Some number) rest = rest number ∙ after_step-config lab.world (Give number)

pub after_order-sizes : (lab : Lab) (order : ScriptLine) → lab_sizes (after_order lab order) ≡ lab_sizes lab
after_order-sizes lab (Do step) = ap (λ c. c.roles.sizes) (after_step-config lab.world step)
after_order-sizes lab Flush = ap (λ c. c.roles.sizes) (flush_within-config lab.world.config.limit 0 lab)
after_order-sizes lab Settle = ap (λ c. c.roles.sizes) (settled-config lab.world)
after_order-sizes lab Rest = refl
after_order-sizes lab (Ask node question) = refl
after_order-sizes lab (Reach node owner) = refl
after_order-sizes lab (Agree one other owner) = refl

-- none of no names lies
pub none_lie_too_many : (s : Counts) → too_many_lie s sets.empty ≡ false
none_lie_too_many s =
    let none : sets.len (nodes_among s sets.empty) ≡ 0 =
    ap sets.len (same_names (nodes_among s sets.empty) sets.empty (λ name.
    contains-nodes_among s sets.empty name ∙ ap (λ b. b && nat_lt name s.nodes) (sets.contains-empty nat_cmp name)
    ∙ sym (sets.contains-empty nat_cmp name))) ∙ sets.len-empty nat_cmp in
    le-ltb s.liars (sets.len (nodes_among s sets.empty)) (omega (arith, none))
