-- What a pool's report says.
use Rattle.std.specs.Prelude.{◌≡◌, ℕ, ◌==◌, ◌&&◌, List, map, count_by}
use Rattle.std.specs.List.{range_with_len}
use Rattle.role_node.specs.Configs.{ConfigValue}
use Rattle.node_lock.specs.Audits.{AreTrue}
use Rattle.node_lock.specs.Receipts.{is_recorded_outcome}
use Rattle.node_lock.specs.declared.receipt.Call.{Call}
use Rattle.node_lock.specs.declared.receipt.Receipt.{Receipt}
use Rattle.node_lock.specs.declared.report.PoolReport.{PoolReport}

-- the most calls of a pool
abbrev pub most_calls : ℕ
most_calls = 65536

abbrev pub call_of : Receipt → Call
call_of r = r.call

-- how many of the receipts are of events that the seat with this number recorded
abbrev pub recorded_by : List Receipt → ℕ → ℕ
recorded_by receipts seat = count_by (λ (r : Receipt). (r.seat == seat) && is_recorded_outcome r.outcome) receipts

-- of each worker's seat
abbrev pub recorded_counts : List Receipt → ℕ → List ℕ
recorded_counts receipts workers = map (recorded_by receipts) (range_with_len 0 workers)

-- Receipt i is for call i, the receipts are true of the node, which is of this configuration and name, and each
-- worker's count is that of its receipts.
pub record IsReport (config : ConfigValue) (me : ℕ) (calls : List Call) (workers : ℕ)
    (report : PoolReport) : Type 0 where
  pub calls_told : map call_of report.receipts.items ≡ calls
  pub audited : AreTrue report.node report.receipts.items
  pub config_given : report.node.config ≡ config
  pub name_given : report.node.me ≡ me
  pub counted : report.recorded.items ≡ recorded_counts report.receipts.items workers
