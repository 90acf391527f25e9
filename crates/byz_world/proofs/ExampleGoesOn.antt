-- Before its READYs the run of four nodes wants them, and they are given.
use Rattle.std.proofs.Common.{◌≡◌, Bool, true, ◌&&◌, List, [], ◌∷◌, ◌++◌, refl, ◌∙◌}
use Rattle.std.proofs.lemmas.Bool.{and_parts}
use Rattle.link_frames.specs.frames.Packets.{PacketValue, message_of}
use Rattle.link_frames.specs.declared.frames.kind.Kind.TheVariants.{Ready}
use Rattle.bracha_instance.specs.Broadcast.{vote, echoed}
use Rattle.bracha_instance.specs.Prefixes.{at_first_prefix}
use Rattle.owner_streams.specs.Places.{takes_at}
use Rattle.role_node.specs.Histories.{issued, packets}
use Rattle.role_node.specs.declared.event.Event.TheVariants.{Take}
use Rattle.byz_world.specs.Example.{four, four_nodes, three_lies, user_seven, told, told_at_last, taken, before_readys}
use Rattle.byz_world.specs.Giving.{IsGivable, IsProlongation}
use Rattle.byz_world.specs.Progress.{IsWanted}
use Rattle.byz_world.specs.Runs.{Run, history_of, IsClusterRun}
use Rattle.byz_world.proofs.Computed.{names_end}
use Rattle.byz_world.proofs.Example.{honest, honest-is, counted_now, recorded_now, follows, was_sent}
use Rattle.byz_world.proofs.Example.{one_more, before_is_run}
use Rattle.byz_world.proofs.Passes.{given_before}
use Rattle.byz_world.proofs.Pooled.{sent_is_pooled}
use Rattle.byz_world.proofs.Telling.{correct_is_node}

wanted_now : (run : Run) (p : PacketValue) → follows run p ≡ true → honest p.from ≡ true →
    IsWanted four_nodes three_lies run p
wanted_now run p test sender =
    let parts = and_parts _ _ test in
    let there = and_parts _ _ parts.0 in
    let true_links = and_parts _ _ parts.1 in
    record {
      sent = record {
        from = honest-is p.from ∙ sender;
        to = correct_is_node four three_lies p.to (honest-is p.to ∙ there.0);
        sent = was_sent run p true_links.1 (honest-is p.from ∙ sender);
      };
      to = honest-is p.to ∙ there.0;
      counts = counted_now four_nodes p.to (history_of p.to run) p there.1;
    }

givable_now : (run : Run) (p : PacketValue) → IsClusterRun four_nodes three_lies run → follows run p ≡ true →
    honest p.from ≡ true → IsGivable four_nodes three_lies run p
givable_now run p is test sender =
    let wanted = wanted_now run p test sender in
    let there = and_parts _ _ (and_parts _ _ test).0 in
    record {
      sent = sent_is_pooled four_nodes three_lies run p.from p.to (message_of p) is wanted.sent.sent wanted.sent.to;
      to = wanted.to;
      counts = recorded_now four_nodes p.to (history_of p.to run) p there.1;
    }

all_given : Run → List PacketValue → Bool
all_given run [] = true
all_given run (p ∷ ps) = (follows run p && honest p.from) && all_given (run ++ (p.to, Take p) ∷ []) ps

prolongs_by : (run : Run) (ps : List PacketValue) → IsClusterRun four_nodes three_lies run → all_given run ps ≡ true →
    IsProlongation four_nodes three_lies run (taken ps)
unfolding all_given
prolongs_by run [] is test = λ t pair at. absurd cc
prolongs_by run (p ∷ ps) is test =
    let parts = and_parts _ _ test in
    let first = and_parts _ _ parts.0 in
    given_before four_nodes three_lies run (taken ps) (p.to, Take p)
    (p, givable_now run p is first.0 first.1, refl)
    (prolongs_by (run ++ (p.to, Take p) ∷ []) ps (one_more run p is first.0) parts.1)

readys_given : all_given before_readys told_at_last ≡ true
unfolding all_given history_of issued packets takes_at vote echoed at_first_prefix names_end
readys_given = refl

pub readys_prolong : IsProlongation four_nodes three_lies before_readys (taken told_at_last)
readys_prolong = prolongs_by before_readys told_at_last before_is_run readys_given

first_follows : follows before_readys (told Ready user_seven 0 0) ≡ true
unfolding history_of issued packets takes_at vote echoed at_first_prefix names_end
first_follows = refl

pub ready_wanted : IsWanted four_nodes three_lies before_readys (told Ready user_seven 0 0)
ready_wanted = wanted_now before_readys (told Ready user_seven 0 0) first_follows refl
