-- What a world's fields show, and what holds of them. Serves the code, and no public contract.
use Rattle.std.specs.Prelude.{◌≡◌}
use Rattle.byz_world.specs.LabKeys.{rings_due}
use Rattle.byz_world.specs.Worlds.{WorldValue}
use Rattle.byz_world.specs.inside.Kept.{world_in, IsWorldIn}
use Rattle.byz_world.specs.declared.world.World.TheInside.{Inside}

abbrev pub world_value : Inside → WorldValue
world_value a = world_in a.config a.liars a.members.items a.order.items

-- the fields show a world, each correct node has laboratory keys, and the cursor counts all nodes
pub record IsWorld (a : Inside) : Type 0 where
  pub world : IsWorldIn a.config a.liars a.members.items a.order.items a.sent.items
  pub keys : a.keys.items ≡ rings_due a.config.roles.sizes a.liars
  pub cursor : a.cursor.nodes ≡ a.config.roles.sizes.nodes
