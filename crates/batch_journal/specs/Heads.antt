-- The head of a journal: whose it is.
use Rattle.std.specs.Prelude.{ℕ, ◌+◌, ◌≤◌, nat_lt, if◌then◌else◌, List, ◌∷◌, ◌++◌, length}
use Rattle.batch_journal.specs.Batches.{sealed}
use Rattle.batch_journal.specs.Digits.{digits_of, AreDigits}
use Rattle.batch_journal.specs.declared.fault.JournalFault.{JournalFault}
use Rattle.batch_journal.specs.declared.fault.JournalFault.TheVariants as fault
use Rattle.batch_journal.specs.declared.head.Head.{Head}

-- its roles are digits, and not too many
pub record IsHead (head : Head) : Type 0 where
  pub digits : AreDigits head.roles.items
  pub few : length head.roles.items ≤ 100000

-- Of a head before its seal: the first two fields say that it is a journal and of which version, then come its kind,
-- its generation, the cluster, the node, how many nodes there are and how many may lie, the roles behind their length,
-- the limit, and how long the head is.
unfoldable pub opened_head : Head → List ℕ
opened_head head =
    249 ∷ digits_of 1 1 ++ digits_of 1 1 ++ digits_of 2 0 ++ digits_of 5 head.cluster ++ digits_of 2 head.node
    ++ digits_of 2 head.nodes ++ digits_of 2 head.liars ++ digits_of 3 (length head.roles.items) ++ head.roles.items
    ++ digits_of 5 head.limit ++ digits_of 3 (60 + length head.roles.items)

-- as it stands in the file
unfoldable pub head_of : List ℕ → Head → List ℕ
head_of key head = sealed key (opened_head head)

-- what is wrong where the first byte that differs from this head stands at this place
abbrev pub other_head : Head → ℕ → JournalFault
other_head head at =
    if nat_lt at 1 then fault.NotAJournal
    else if nat_lt at 2 then fault.OtherVersion
    else if nat_lt at 3 then fault.OtherKind
    else if nat_lt at 5 then fault.OtherGeneration
    else if nat_lt at 10 then fault.OtherCluster
    else if nat_lt at 12 then fault.OtherNode
    else if nat_lt at 16 then fault.OtherSizes
    else if nat_lt at (19 + length head.roles.items) then fault.OtherRoles
    else if nat_lt at (24 + length head.roles.items) then fault.OtherLimit
    else if nat_lt at (27 + length head.roles.items) then fault.OtherLength
    else fault.OtherKey
