use Rattle.std.proofs.Common.{◌≡◌, map, subst, rules}
use Rattle.std.specs.Prelude.{IfOk}
use Rattle.std.proofs.lemmas.Iterator.{YieldsList-from_map_by, YieldsList-from_slice}
use Rattle.std.proofs.lemmas.Iterator.Consumers.{map_from_collect}
use Rattle.std.proofs.lemmas.List.{map-id}
use Rattle.rbac_state.specs.inside.PermissionNumbers.{permission_of}
use Rattle.rbac_state.proofs.permission_number.to_numbers.Goals as goal

pub returns : goal.returns
returns c =
    subst (λ all. IfOk c.collect.result (λ numbers. map permission_of numbers.items ≡ all))
    (map-id c.args.permissions.items)
    (map_from_collect c.collect.result c.collect.ensures.ran
    (YieldsList-from_map_by _ permission_of (λ p. p) (YieldsList-from_slice c.args.permissions.items cc)
    c.map.ensures.closure (λ x r q k. search rules)))
