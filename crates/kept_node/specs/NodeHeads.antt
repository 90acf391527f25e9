-- The head of a node's journal: whose it is, from what the node was told at its start.
use Rattle.std.specs.Prelude.{◌≡◌, ℕ, zero, suc, Option, Some, None, List, [], ◌++◌}
use Rattle.std.specs.FinMap as map
use Rattle.role_commands.specs.Tables.{Table}
use Rattle.batch_journal.specs.Digits.{digits_of}
use Rattle.batch_journal.specs.declared.head.Head.{Head}
use Rattle.role_node.specs.Configs.{ConfigValue}

-- a role and its owner, if it is in the table
abbrev pub role_digits : ℕ → Option ℕ → List ℕ
role_digits role None = []
role_digits role (Some owner) = digits_of 3 role ++ digits_of 2 owner

-- the roles below this one with their owners, the lowest role first
unfoldable pub roles_below : Table → ℕ → List ℕ
roles_below t zero = []
roles_below t (suc role) = roles_below t role ++ role_digits role (map.get t.owners role)

-- all roles
unfoldable pub roles_digits : Table → List ℕ
roles_digits t = roles_below t 65536

-- the head names the cluster, the node, its sizes, the roles with their owners and the limit
pub record IsHeadOf (config : ConfigValue) (me : ℕ) (head : Head) : Type 0 where
  pub cluster : head.cluster ≡ config.cluster
  pub node : head.node ≡ me
  pub nodes : head.nodes ≡ config.roles.sizes.nodes
  pub liars : head.liars ≡ config.roles.sizes.liars
  pub roles : head.roles.items ≡ roles_digits config.roles
  pub limit : head.limit ≡ config.limit
