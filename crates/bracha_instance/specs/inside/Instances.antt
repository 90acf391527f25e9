-- What holds of an instance as it is kept, and what contracts see of it. Serves the models of the code, and no
-- contract.
use Rattle.std.specs.Prelude.{◌≡◌, ◌≤◌, ◌+◌, true, length, is_some, Some, None}
use Rattle.std.specs.FinMap as maps
use Rattle.std.specs.FinSet as sets
use Rattle.bracha_instance.specs.States.{State}
use Rattle.bracha_instance.specs.inside.FirstVotes.{VotersFit}
use Rattle.bracha_instance.specs.inside.Kept.{names_of}
use Rattle.bracha_instance.specs.inside.Tallies.{no_votes}
use Rattle.bracha_instance.specs.declared.instance.Instance.TheInside as instance
use Rattle.bracha_instance.specs.declared.record.Record.TheInside as record_of

abbrev pub instance_state : instance.Inside → State
instance_state a =
    record {
      echoed = a.first_votes.echoed;
      readied = a.readied;
      delivered = a.delivered;
      echoers = a.first_votes.echoers;
      readiers = a.first_votes.readiers;
      echo_votes = a.votes.echoes;
      ready_votes = a.votes.readies;
    }

-- Until something is delivered the voters are those that have a vote, and then no vote is kept. No more commands
-- have a vote than nodes voted.
pub record IsInstance (a : instance.Inside) : Type 0 where
  pub echoers : a.delivered ≡ None → names_of a.votes.echoes ≡ a.first_votes.echoers
  pub readiers : a.delivered ≡ None → names_of a.votes.readies ≡ a.first_votes.readiers
  pub forgotten : is_some a.delivered ≡ true → a.votes ≡ no_votes
  pub few : length a.votes.commands ≤ sets.len a.first_votes.echoers + sets.len a.first_votes.readiers
  pub fit : VotersFit a.first_votes

-- something is delivered, and no vote is kept
abbrev pub record_state : record_of.Inside → State
record_state a =
    record {
      echoed = a.first_votes.echoed;
      readied = a.readied;
      delivered = Some a.delivered;
      echoers = a.first_votes.echoers;
      readiers = a.first_votes.readiers;
      echo_votes = maps.empty;
      ready_votes = maps.empty;
    }
