-- The run of four nodes is one of a cluster: each of its packets passes a test that computes.
use Rattle.std.proofs.Common.{◌≡◌, ℕ, ◌+◌, ◌<◌, ◌≤◌, Bool, true, false, cond, not, ◌==◌, ◌&&◌, ◌||◌, nat_lt, nat_le}
use Rattle.std.proofs.Common.{if◌then◌else◌, is_some, List, [], ◌∷◌, ◌++◌, map, length, slice_get, Option, Some}
use Rattle.std.proofs.Common.{None, Ok, Err, refl, sym, ap, ◌∙◌, subst, arith, append_assoc, append-nil, ⊎_elim}
use Rattle.std.specs.Prelude.{nat_eq}
use Rattle.std.specs.List.{list_any}
use Rattle.std.specs.Ordering.{nat_cmp, eq_by_cmp}
use Rattle.std.specs.Cmp.{nat_cmp_total}
use Rattle.std.specs.FinMap as maps
use Rattle.std.specs.FinSet as sets
use Rattle.std.specs.Option.{option_map_or}
use Rattle.std.proofs.lemmas.Bool.{and_parts, or_cases, not-true, ltb-true, lt-leb, eqb-true, both_ways}
use Rattle.quorum_sizes.specs.Sizes.{Counts}
use Rattle.quorum_sizes.specs.NodeSets.{nodes_among}
use Rattle.quorum_sizes.proofs.Exported.{contains-nodes_among, count, len-count}
use Rattle.role_commands.specs.declared.command.Command.{Command}
use Rattle.link_frames.specs.frames.Kinds.{same_kind}
use Rattle.link_frames.specs.frames.Packets.{PacketValue, SentByOwner, IsSound, place_count, message_of}
use Rattle.link_frames.specs.declared.frames.kind.Kind.TheVariants.{Send}
use Rattle.bracha_instance.specs.Broadcast.{is_for, vote, echoed}
use Rattle.bracha_instance.specs.Prefixes.{at_first_prefix}
use Rattle.bracha_instance.specs.declared.instance.Effect.TheVariants as effect
use Rattle.owner_streams.specs.Places.{takes_at, reach, window, stream, places_end, answers_from}
use Rattle.owner_streams.specs.Steps.{step_of, step_due, effect_due}
use Rattle.owner_streams.specs.declared.steps.StreamFault.TheVariants.{Beyond}
use Rattle.role_node.specs.Configs.{ConfigValue}
use Rattle.role_node.specs.Histories.{issued, packets}
use Rattle.role_node.specs.Answers.{is_routed, take_outlook, is_recorded, answered, unless_full}
use Rattle.role_node.specs.Answers.{or_counted, of_effect_due, reply_to, answer_due}
use Rattle.role_node.specs.declared.event.Event.{Event}
use Rattle.role_node.specs.declared.event.Event.TheVariants.{Issue, Take}
use Rattle.role_node.specs.declared.faults.NodeFault.TheVariants as fault
use Rattle.byz_world.specs.Runs.{Run, history_of, is_correct, of_kind, has_sent, IsClusterRun}
use Rattle.byz_world.specs.Example.{four, four_nodes, three_lies, user_seven, told_at_first, told_at_last}
use Rattle.byz_world.specs.Example.{before_readys, example_run}
use Rattle.byz_world.specs.Laws.{delivered_by}
use Rattle.byz_world.proofs.Computed.{names_end, readied_now, readied-now, delivered-now}
use Rattle.byz_world.proofs.Growing.{cluster_run_push, empty_run}

-- Who is correct.

abbrev pub honest : ℕ → Bool
honest name = nat_lt name 4 && not (list_any (λ y. nat_eq y name) (3 ∷ []))

pub honest-is : (name : ℕ) → is_correct four three_lies name ≡ honest name
honest-is name = λ i. nat_lt name 4 && not (sets.contains-from_list_nat (3 ∷ []) name i)

one_of_four : ((name : ℕ) → sets.contains (nodes_among four three_lies) name
    ≡ (list_any (λ y. nat_eq y name) (3 ∷ []) && nat_lt name 4))
    → count (sets.contains (nodes_among four three_lies)) 4 ≡ 1
one_of_four each = λ i. count (λ name. each name i) 4

liars_counted : sets.len (nodes_among four three_lies) ≡ 1
liars_counted =
    let each : (name : ℕ) → sets.contains (nodes_among four three_lies) name
    ≡ (list_any (λ y. nat_eq y name) (3 ∷ []) && nat_lt name 4) =
    λ name. contains-nodes_among four three_lies name
    ∙ (λ i. sets.contains-from_list_nat (3 ∷ []) name i && nat_lt name 4) in
    len-count 4 (nodes_among four three_lies) (λ name is. ltb-true name 4 (and_parts _ _ (sym (each name) ∙ is)).1)
    ∙ one_of_four each

one_lies : sets.len (nodes_among four three_lies) ≤ 1
one_lies = omega (arith, liars_counted)

-- The first event.

owns_two : option_map_or (λ owner. owner == 0) (maps.get four_nodes.roles.owners 2) false ≡ true
owns_two =
    ap (λ o. option_map_or (λ owner. owner == 0) o false)
    (maps.get-insert nat_cmp_total maps.empty 2 0 2
    ∙ ap (λ o. cond (eq_by_cmp nat_cmp 2 2) (Some 0) o) (maps.get-empty nat_cmp 2))

issue_counts : is_recorded (answer_due four_nodes 0 [] (Issue user_seven)) ≡ true
unfolding issued packets stream places_end answers_from
issue_counts =
    ap (λ b. is_recorded (answered (unless_full false (or_counted (if not b then Some fault.NotMine else None)))
    (reply_to four_nodes.roles 0 [] (Issue user_seven)))) owns_two

pub first_run : IsClusterRun four_nodes three_lies ((0, Issue user_seven) ∷ [])
unfolding history_of
first_run =
    cluster_run_push four_nodes three_lies [] 0 (Issue user_seven)
    (empty_run four_nodes three_lies (omega arith, omega arith) one_lies)
    (record { correct = honest-is 0; sound = λ p e. absurd cc; links = λ p e _. absurd cc })
    issue_counts

-- A packet that counts: it is routed, within the window of any stream, and its sender's first of its kind.

abbrev pub counts_now : ConfigValue → ℕ → List Event → PacketValue → Bool
counts_now config node history p =
    (not (nat_le config.limit (length history)) && is_routed config.roles.sizes node p)
    && (nat_lt p.place window && not (is_some (vote p.kind p.from (takes_at p.owner p.place (packets history)))))

pub counted_now : (config : ConfigValue) (node : ℕ) (history : List Event) (p : PacketValue)
    → counts_now config node history p ≡ true → take_outlook config.roles node history p ≡ Ok effect.Counted
unfolding step_due
counted_now config node history p counts =
    let s : Counts = config.roles.sizes in
    let parts = and_parts _ _ counts in
    let room = and_parts _ _ parts.0 in
    let new = and_parts _ _ parts.1 in
    let within : p.place < 64 = ltb-true p.place 64 new.0 in
    let open_place : nat_le (reach s p.owner (packets history) + 64) p.place ≡ false = lt-leb _ _ (omega arith) in
    let first : is_some (vote p.kind p.from (takes_at p.owner p.place (packets history))) ≡ false = not-true _ new.1 in
    let due : effect_due (step_due s (packets history) p) ≡ Ok effect.Counted =
    ap (λ b. effect_due (if b then Err (Beyond p.place (reach s p.owner (packets history) + 64)) else Ok
    (step_of s (packets history) p))) open_place
    ∙ ap (λ b. Ok (cond b effect.Idle effect.Counted)) first in
    λ i. if room.1 i then of_effect_due (due i) else Err fault.Misrouted

pub recorded_now : (config : ConfigValue) (node : ℕ) (history : List Event) (p : PacketValue)
    → counts_now config node history p ≡ true →
    is_recorded (answer_due config node history (Take p)) ≡ true
recorded_now config node history p counts =
    let room = and_parts _ _ (and_parts _ _ counts).0 in
    let full : nat_le config.limit (length history) ≡ false = not-true _ room.0 in
    λ i. is_recorded (answered (unless_full (full i) (counted_now config node history p counts i))
    (reply_to config.roles node history (Take p)))

-- A packet that follows a run.

abbrev said_now : Run → PacketValue → Option Command
said_now run p =
    of_kind p.kind
    (record {
      send = if p.owner == p.from then slice_get (issued (history_of p.from run)) p.place else None;
      echo = echoed (takes_at p.owner p.place (packets (history_of p.from run)));
      ready = readied_now four (takes_at p.owner p.place (packets (history_of p.from run)));
    })

sent_now : (run : Run) (p : PacketValue) → has_sent four run p.from (message_of p) ≡ is_for p.command (said_now run p)
unfolding has_sent
sent_now run p = λ i.
    is_for p.command (of_kind p.kind
    (record {
      send = if p.owner == p.from then slice_get (issued (history_of p.from run)) p.place else None;
      echo = echoed (takes_at p.owner p.place (packets (history_of p.from run)));
      ready = readied-now four (takes_at p.owner p.place (packets (history_of p.from run))) i;
    }))

abbrev pub follows : Run → PacketValue → Bool
follows run p =
    (honest p.to && counts_now four_nodes p.to (history_of p.to run) p)
    && (((not (same_kind p.kind Send) || (p.from == p.owner)) && nat_lt p.place place_count)
    && (not (honest p.from) || is_for p.command (said_now run p)))

own_send : (p : PacketValue) → (not (same_kind p.kind Send) || (p.from == p.owner)) ≡ true → SentByOwner p
own_send p test is =
    ⊎_elim
    (λ (other : not (same_kind p.kind Send) ≡ true). absurd
    (both_ways _ (not-true _ other) (ap (λ k. same_kind k Send) is)))
    (λ (own : (p.from == p.owner) ≡ true). eqb-true p.from p.owner own)
    (or_cases _ _ test)

sound_packet : (p : PacketValue) →
    ((not (same_kind p.kind Send) || (p.from == p.owner)) && nat_lt p.place place_count) ≡ true → IsSound p
sound_packet p test =
    let parts = and_parts _ _ test in (own_send p parts.0, ltb-true p.place place_count parts.1)

pub was_sent : (run : Run) (p : PacketValue) → (not (honest p.from) || is_for p.command (said_now run p)) ≡ true →
    is_correct four three_lies p.from ≡ true → has_sent four run p.from (message_of p) ≡ true
was_sent run p test correct =
    ⊎_elim
    (λ (liar : not (honest p.from) ≡ true). absurd (both_ways _ (not-true _ liar) (sym (honest-is p.from) ∙ correct)))
    (λ (said : is_for p.command (said_now run p) ≡ true). sent_now run p ∙ said)
    (or_cases _ _ test)

same_packet : (p q : PacketValue) → Take p ≡ Take q → p ≡ q
same_packet p q e = cc

pub one_more : (run : Run) (p : PacketValue) → IsClusterRun four_nodes three_lies run → follows run p ≡ true →
    IsClusterRun four_nodes three_lies (run ++ (p.to, Take p) ∷ [])
one_more run p is test =
    let parts = and_parts _ _ test in
    let there = and_parts _ _ parts.0 in
    let true_links = and_parts _ _ parts.1 in
    cluster_run_push four_nodes three_lies run p.to (Take p) is
    (record {
      correct = honest-is p.to ∙ there.0;
      sound = λ q e. subst IsSound (same_packet p q e) (sound_packet p true_links.0);
      links = λ q e.
          subst (λ x. is_correct four three_lies x.from ≡ true → has_sent four run x.from (message_of x) ≡ true)
          (same_packet p q e)
          (was_sent run p true_links.1);
    })
    (recorded_now four_nodes p.to (history_of p.to run) p there.1)

all_follow : Run → List PacketValue → Bool
all_follow run [] = true
all_follow run (p ∷ ps) = follows run p && all_follow (run ++ (p.to, Take p) ∷ []) ps

goes_on : (run : Run) (ps : List PacketValue) → IsClusterRun four_nodes three_lies run → all_follow run ps ≡ true →
    IsClusterRun four_nodes three_lies (run ++ map (λ p. (p.to, Take p)) ps)
unfolding all_follow
goes_on run [] is test = subst (IsClusterRun four_nodes three_lies) (sym (append-nil run)) is
goes_on run (p ∷ ps) is test =
    let parts = and_parts _ _ test in
    subst (IsClusterRun four_nodes three_lies) (append_assoc run ((p.to, Take p) ∷ []) (map (λ q. (q.to, Take q)) ps))
    (goes_on (run ++ (p.to, Take p) ∷ []) ps (one_more run p is parts.0) parts.1)

told_first : all_follow ((0, Issue user_seven) ∷ []) told_at_first ≡ true
unfolding all_follow history_of issued packets takes_at vote echoed at_first_prefix names_end
told_first = refl

pub before_is_run : IsClusterRun four_nodes three_lies before_readys
before_is_run = goes_on ((0, Issue user_seven) ∷ []) told_at_first first_run told_first

told_last : all_follow before_readys told_at_last ≡ true
unfolding all_follow history_of issued packets takes_at vote echoed at_first_prefix names_end
told_last = refl

pub example_is_run : IsClusterRun four_nodes three_lies example_run
example_is_run = goes_on before_readys told_at_last before_is_run told_last

pub example_delivers : (delivered_by four_nodes example_run 0 0 0 ≡ Some user_seven)
    × (delivered_by four_nodes example_run 1 0 0 ≡ Some user_seven)
unfolding history_of packets takes_at vote at_first_prefix names_end
example_delivers = (delivered-now four _ ∙ refl, delivered-now four _ ∙ refl)
