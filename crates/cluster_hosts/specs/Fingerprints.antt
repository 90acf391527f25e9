-- Fingerprints, by which two owners compare what they have without saying it.
use Rattle.std.specs.Prelude.{ℕ, zero, suc, List, [], ◌∷◌, ◌++◌, take, Option, Some, None, codes}
use Rattle.std.specs.FinMap as map
use Rattle.std.specs.Int.{to_be_bytes, w16, w32}
use Rattle.sha2.specs.Sha256.{sha256}
use Rattle.role_commands.specs.Tables.{Table}
use Rattle.role_node.specs.Configs.{ConfigValue}

-- the first bytes of the digest of what is compared behind what it is
abbrev pub fingerprint : List ℕ → List ℕ → List ℕ
fingerprint what bytes = take 8 (sha256 (what ++ bytes))

-- a role and its owner, if it is in the table
abbrev pub role_bytes : ℕ → Option ℕ → List ℕ
role_bytes role None = []
role_bytes role (Some owner) = to_be_bytes w16 role ++ owner ∷ []

-- the roles below this one with their owners, the lowest role first
unfoldable pub roles_below : Table → ℕ → List ℕ
roles_below t zero = []
roles_below t (suc role) = roles_below t role ++ role_bytes role (map.get t.owners role)

-- the members that the texts of all nodes have in common: the number of the cluster, the sizes and the roles
unfoldable pub common_bytes : ConfigValue → List ℕ
common_bytes config =
    to_be_bytes w32 config.cluster ++ config.roles.sizes.nodes ∷ config.roles.sizes.liars ∷ []
    ++ roles_below config.roles 65536

abbrev pub common_fingerprint : ConfigValue → List ℕ
common_fingerprint config = fingerprint (codes "tundelca cluster") (common_bytes config)

-- a key that two nodes share
abbrev pub key_fingerprint : List ℕ → List ℕ
key_fingerprint key = fingerprint (codes "tundelca key") key
