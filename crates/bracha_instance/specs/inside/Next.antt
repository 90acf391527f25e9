-- One more message, as a step from state to state. Serves private functions and proofs, and no public contract:
-- `state_push` in proofs/StateOf.antt says that this is the state of the longer list.
use Rattle.std.specs.Prelude.{ℕ, Bool, false, if◌then◌else◌, ◌||◌, nat_le, Option, Some, None}
use Rattle.std.specs.Option.{option_or}
use Rattle.std.specs.FinMap as maps
use Rattle.std.specs.FinSet as sets
use Rattle.quorum_sizes.specs.Sizes.{Counts, echo_quorum_of, amplify_of, deliver_of}
use Rattle.role_commands.specs.declared.command.Command.{Command}
use Rattle.link_frames.specs.declared.frames.kind.Kind.{Kind}
use Rattle.link_frames.specs.declared.frames.kind.Kind.TheVariants.{Send, Echo, Ready}
use Rattle.bracha_instance.specs.declared.tallies.Vote.{Vote}
use Rattle.bracha_instance.specs.declared.tallies.Vote.TheVariants.{Echo as EchoVote, Ready as ReadyVote}
use Rattle.bracha_instance.specs.Broadcast.{Take, Names, is_for}
use Rattle.bracha_instance.specs.States.{Votes, State, kept}
use Rattle.bracha_instance.specs.Taking.{has_voted}
use Rattle.bracha_instance.specs.inside.Kept.{names_of}

-- the nodes that have this command
unfoldable pub supporters_in : Command → Votes → Names
supporters_in c votes = sets.retain (names_of votes) (λ name. is_for c (maps.get votes name))

unfoldable pub ready_now : Counts → Command → Votes → Votes → Bool
ready_now s c echoes readies =
    nat_le (echo_quorum_of s) (sets.len (supporters_in c echoes))
    || nat_le (amplify_of s) (sets.len (supporters_in c readies))

unfoldable pub deliver_now : Counts → Command → Votes → Bool
deliver_now s c readies = nat_le (deliver_of s) (sets.len (supporters_in c readies))

abbrev pub only_if : Bool → Command → Option Command
only_if due c = if due then Some c else None

abbrev pub after_send : State → Command → State
after_send st c = record st { echoed = option_or st.echoed (Some c) }

-- what goes for an ECHO, and for a READY
abbrev pub by_vote : {A : Type 0} → Vote → A → A → A
by_vote EchoVote echo ready = echo
by_vote ReadyVote echo ready = ready

abbrev pub kind_of : Vote → Kind
kind_of vote = by_vote vote Echo Ready

-- the state with p among those that voted so
abbrev pub with_voter : State → Vote → ℕ → State
with_voter st vote p =
    record st {
      echoers = by_vote vote (sets.insert st.echoers p) st.echoers;
      readiers = by_vote vote st.readiers (sets.insert st.readiers p);
    }

-- with its vote too
abbrev pub with_its_vote : State → Vote → ℕ → Command → State
with_its_vote st vote p c =
    record (with_voter st vote p) {
      echo_votes = by_vote vote (maps.insert st.echo_votes p c) st.echo_votes;
      ready_votes = by_vote vote st.ready_votes (maps.insert st.ready_votes p c);
    }

-- only a READY can have c delivered
abbrev pub delivers_now : Counts → Vote → Command → Votes → Bool
delivers_now s vote c readies = by_vote vote false (deliver_now s c readies)

-- with c readied, where it may be now, and delivered, where it is due
abbrev pub settled : Counts → Command → Bool → State → State
settled s c delivers st =
    let d = only_if delivers c in
    record st {
      readied = option_or st.readied (only_if (ready_now s c st.echo_votes st.ready_votes) c);
      delivered = d;
      echo_votes = kept d st.echo_votes;
      ready_votes = kept d st.ready_votes;
    }

-- the last argument is what was delivered: after a delivery only the name is kept
abbrev pub after_vote : Counts → State → Vote → ℕ → Command → Option Command → State
after_vote s st vote p c None =
    let more = with_its_vote st vote p c in settled s c (delivers_now s vote c more.ready_votes) more
after_vote s st vote p c (Some d) = with_voter st vote p

abbrev pub after_kind : Counts → State → Kind → ℕ → Command → State
after_kind s st Send p c = after_send st c
after_kind s st Echo p c = after_vote s st EchoVote p c st.delivered
after_kind s st Ready p c = after_vote s st ReadyVote p c st.delivered

unfoldable pub after : Counts → State → Take → State
after s st t = if has_voted st t.kind t.from then st else after_kind s st t.kind t.from t.command
