-- How an instance keeps its votes: for each command that has one, the names of those that echoed it and of those
-- that are ready for it. Serves the models of the code, and no contract.
use Rattle.std.specs.Prelude.{◌≡◌, ◌≢◌, ◌<◌, ℕ, zero, suc, ◌+◌, Bool, true, false}
use Rattle.std.specs.Prelude.{Option, Some, None, if◌then◌else◌, List, [], ◌∷◌, ◌++◌, map, All, AllPairs, refl}
use Rattle.std.specs.Coded.{Coded, code_by, coded×, coded_list}
use Rattle.std.specs.List.{list_any}
use Rattle.std.specs.FinMap as maps
use Rattle.std.specs.FinSet as sets
use Rattle.role_commands.specs.Same.{same_command}
use Rattle.role_commands.specs.declared.command.Command.{Command}
use Rattle.bracha_instance.specs.Broadcast.{Names}
use Rattle.bracha_instance.specs.States.{Votes}
use Rattle.bracha_instance.specs.inside.Kept.{command_code, names_code, votes_code}
use Rattle.bracha_instance.specs.inside.Next.{supporters_in}
use Rattle.bracha_instance.specs.declared.tallies.Support.{Support}
use Rattle.bracha_instance.specs.declared.tallies.Vote.{Vote}
use Rattle.bracha_instance.specs.declared.tallies.Vote.TheVariants.{Echo, Ready}

-- a command, with the names of its votes of both kinds
pub record TallyValue : Type 0 where
  pub command : Command
  pub echoes : Names
  pub readies : Names

-- the votes of both kinds, and the commands that have one, in the order of their first votes
pub record Tallied : Type 0 where
  pub echoes : Votes
  pub readies : Votes
  pub commands : List Command

abbrev pub no_votes : Tallied
no_votes = record { echoes = maps.empty; readies = maps.empty; commands = [] }

-- the commands, with this one
unfoldable pub with_command : Command → List Command → List Command
with_command c commands = if list_any (same_command c) commands then commands else commands ++ c ∷ []

-- the votes of this kind
abbrev pub votes_of : Vote → Tallied → Votes
votes_of Echo v = v.echoes
votes_of Ready v = v.readies

-- a vote more
abbrev pub with_vote : Vote → Tallied → ℕ → Command → Tallied
with_vote Echo v name c =
    record { echoes = maps.insert v.echoes name c; readies = v.readies; commands = with_command c v.commands }
with_vote Ready v name c =
    record { echoes = v.echoes; readies = maps.insert v.readies name c; commands = with_command c v.commands }

-- how many nodes support c
abbrev pub support_of : Tallied → Command → Support
support_of v c =
    record { echoes = sets.len (supporters_in c v.echoes); readies = sets.len (supporters_in c v.readies) }

-- the command has a vote
abbrev pub HasVote : Tallied → Command → Type 0
HasVote v c = 0 < (support_of v c).echoes + (support_of v c).readies

-- its commands are those that have a vote, each once
pub record AreVoted (v : Tallied) : Type 0 where
  pub once : AllPairs ◌≢◌ v.commands
  pub voted : All (HasVote v) v.commands
  pub all : (c : Command) → HasVote v c → list_any (same_command c) v.commands ≡ true

-- a command with the names of its votes of one kind
abbrev pub Row : Type 0
Row = Command × Names

abbrev pub echo_row : TallyValue → Row
echo_row t = (t.command, t.echoes)

abbrev pub ready_row : TallyValue → Row
ready_row t = (t.command, t.readies)

-- each of the names votes for c
unfoldable pub vote_all : Command → List ℕ → Votes → Votes
vote_all c [] v = v
vote_all c (name ∷ names) v = maps.insert (vote_all c names v) name c

-- the votes that these rows keep
unfoldable pub votes_in : List Row → Votes
votes_in [] = maps.empty
votes_in (row ∷ rows) = vote_all row.0 (sets.items row.1) (votes_in rows)

-- the names in the row of c
unfoldable pub names_for : Command → List Row → Names
names_for c [] = sets.empty
names_for c (row ∷ rows) = if same_command c row.0 then row.1 else names_for c rows

-- the supporters of each command are those in its row
abbrev pub RowsAgree : List Row → Type 0
RowsAgree rows = (c : Command) → supporters_in c (votes_in rows) ≡ names_for c rows

abbrev pub command_in : TallyValue → Command
command_in t = t.command

abbrev pub is_tally_of : Command → TallyValue → Bool
is_tally_of c t = same_command c t.command

-- the first tally of c is at this place
abbrev pub IsFirst : Command → List TallyValue → ℕ → Type 0
IsFirst c [] at = ⊥
IsFirst c (t ∷ tallies) zero = is_tally_of c t ≡ true
IsFirst c (t ∷ tallies) (suc at) = (is_tally_of c t ≡ false) × IsFirst c tallies at

-- a tally without a name
abbrev pub no_names : Command → TallyValue
no_names c = record { command = c; echoes = sets.empty; readies = sets.empty }

-- the tallies, with a change of that of c, which is new where there is none
unfoldable pub with_tally : (TallyValue → TallyValue) → Command → List TallyValue → List TallyValue
with_tally change c [] = change (no_names c) ∷ []
with_tally change c (t ∷ tallies) =
    if is_tally_of c t then change t ∷ tallies else t ∷ with_tally change c tallies

-- the tally with a vote more
abbrev pub voted_by : Vote → ℕ → TallyValue → TallyValue
voted_by Echo name t = record t { echoes = sets.insert t.echoes name }
voted_by Ready name t = record t { readies = sets.insert t.readies name }

-- how many names the tally of c has
abbrev pub support_in : Command → List TallyValue → Support
support_in c tallies =
    record {
      echoes = sets.len (names_for c (map echo_row tallies));
      readies = sets.len (names_for c (map ready_row tallies));
    }

unfoldable pub tallied : List TallyValue → Tallied
tallied tallies =
    record {
      echoes = votes_in (map echo_row tallies);
      readies = votes_in (map ready_row tallies);
      commands = map command_in tallies;
    }

pub record AreTallies (tallies : List TallyValue) : Type 0 where
  pub echoes : RowsAgree (map echo_row tallies)
  pub readies : RowsAgree (map ready_row tallies)
  pub voted : AreVoted (tallied tallies)

-- how many names a tally has
abbrev pub names_in_tally : TallyValue → Support
names_in_tally t = record { echoes = sets.len t.echoes; readies = sets.len t.readies }

-- the tally of the command whose vote came first, with those of the others
abbrev pub all_of : Option TallyValue → List TallyValue → List TallyValue
all_of None others = others
all_of (Some t) others = t ∷ others

-- the first tally is of another command
abbrev pub IsOther : Command → Option TallyValue → Type 0
IsOther c None = ⊥
IsOther c (Some t) = is_tally_of c t ≡ false

-- the first tally was of c, or there was none, and now it is changed; it has these many names
abbrev pub IsFirstChanged : (TallyValue → TallyValue) → Command → Option TallyValue → Option TallyValue → Support
    → Type 0
IsFirstChanged change c None new support =
    (new ≡ Some (change (no_names c))) × (support ≡ names_in_tally (change (no_names c)))
IsFirstChanged change c (Some t) new support =
    (is_tally_of c t ≡ true) × (new ≡ Some (change t)) × (support ≡ names_in_tally (change t))

-- the commands are kept as they should be, and there is a first where there are others
pub record AreKept (first : Option TallyValue) (others : List TallyValue) : Type 0 where
  pub tallies : AreTallies (all_of first others)
  pub none : first ≡ None → others ≡ []

-- both are stored as their fields
abbrev pub tally_code : Coded TallyValue
tally_code =
    code_by (Command × (Names × Names)) (coded× command_code (coded× names_code names_code))
    (λ t. (t.command, (t.echoes, t.readies)))
    (λ p. record { command = p.0; echoes = p.1.0; readies = p.1.1 })
    (λ _. refl)

abbrev pub tallied_code : Coded Tallied
tallied_code =
    code_by (Votes × (Votes × List Command)) (coded× votes_code (coded× votes_code (coded_list command_code)))
    (λ v. (v.echoes, (v.readies, v.commands)))
    (λ p. record { echoes = p.0; readies = p.1.0; commands = p.1.1 })
    (λ _. refl)
