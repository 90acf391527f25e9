-- How states are stored, and the names in a map of votes. Serves the models of the code, and no contract.
use Rattle.std.specs.Prelude.{Option, refl}
use Rattle.std.specs.Coded.{Coded, code_by, coded×, coded_ℕ, coded_option}
use Rattle.std.specs.FinMap as maps
use Rattle.std.specs.FinSet as sets
use Rattle.role_commands.specs.declared.command.Command.{Command}
use Rattle.role_commands.specs.contracts.command.Command as contract
use Rattle.bracha_instance.specs.Broadcast.{Names}
use Rattle.bracha_instance.specs.States.{Votes, State}

abbrev pub command_code : Coded Command
command_code = contract.the_row.coded

abbrev pub names_code : Coded Names
names_code = sets.code coded_ℕ

abbrev pub votes_code : Coded Votes
votes_code = maps.code coded_ℕ command_code

-- the nodes that have a vote
unfoldable pub names_of : Votes → Names
names_of votes = sets.from_list (maps.keys votes)

-- a state is stored as its fields
abbrev pub state_code : Coded State
state_code =
    code_by
    (Option Command × (Option Command × (Option Command × (Names × (Names × (Votes × Votes))))))
    (coded× (coded_option command_code) (coded× (coded_option command_code) (coded× (coded_option command_code)
    (coded× names_code (coded× names_code (coded× votes_code votes_code))))))
    (λ s. (s.echoed, (s.readied, (s.delivered, (s.echoers, (s.readiers, (s.echo_votes, s.ready_votes)))))))
    (λ p. record {
      echoed = p.0;
      readied = p.1.0;
      delivered = p.1.1.0;
      echoers = p.1.1.1.0;
      readiers = p.1.1.1.1.0;
      echo_votes = p.1.1.1.1.1.0;
      ready_votes = p.1.1.1.1.1.1;
    })
    (λ _. refl)
