-- What a node is told at its start.
use Rattle.std.specs.Prelude.{ℕ, nat_le, ◌&&◌, if◌then◌else◌, Option, Some, None, refl}
use Rattle.std.specs.Coded.{Coded, code_by, coded×, coded_ℕ}
use Rattle.role_commands.specs.Tables.{Table, table_code}

-- the number of the cluster, the role table, and how many events the node may record
pub record ConfigValue : Type 0 where
  pub cluster : ℕ
  pub roles : Table
  pub limit : ℕ

-- it is stored as its parts
abbrev pub config_code : Coded ConfigValue
config_code =
    code_by (ℕ × (Table × ℕ)) (coded× coded_ℕ (coded× table_code coded_ℕ))
    (λ c. (c.cluster, (c.roles, c.limit)))
    (λ p. record { cluster = p.0; roles = p.1.0; limit = p.1.1 }) (λ _. refl)

-- the most events that a node may be told to record
abbrev pub most_events : ℕ
most_events = 4194304

-- a node records one event at least
abbrev pub config_due : ℕ → Table → ℕ → Option ConfigValue
config_due cluster roles limit =
    if nat_le 1 limit && nat_le limit most_events then Some (record {
      cluster = cluster;
      roles = roles;
      limit = limit;
    }) else None
