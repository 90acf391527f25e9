-- When sizes are refused, and how a fault is written: its code, a space and its name.
use Rattle.std.specs.Prelude.{ℕ, ◌*◌, ◌==◌, nat_lt, nat_le, if◌then◌else◌, List, codes, Result, Ok, Err}
use Rattle.quorum_sizes.specs.Sizes.{Counts, most_nodes}
use Rattle.quorum_sizes.specs.declared.sizes.SizeFault.{SizeFault}
use Rattle.quorum_sizes.specs.declared.sizes.SizeFault.TheVariants.{NoNodes, TooMany, TooManyLiars}

-- the sizes of n nodes of which f may lie, or the first fault that holds
abbrev pub sizes_due : ℕ → ℕ → Result Counts SizeFault
sizes_due n f =
    if n == 0 then Err NoNodes
    else (if nat_lt most_nodes n then Err TooMany
    else (if nat_le n (3 * f) then Err TooManyLiars
    else Ok (record { nodes = n; liars = f })))

abbrev pub size_fault_text : SizeFault → List ℕ
size_fault_text NoNodes = codes "Q1 NoNodes"
size_fault_text TooMany = codes "Q2 TooMany"
size_fault_text TooManyLiars = codes "Q3 TooManyLiars"
