-- The example is a life: what byz_world's run of four nodes says of its events, and a crash before and after the first.
use Rattle.std.proofs.Common.{◌≡◌, ◌≤◌, List, [], ◌∷◌, length, drop, Result, Ok, Err}
use Rattle.std.proofs.Common.{refl, ap, ◌∙◌, arith}
use Rattle.std.specs.Prelude.{IsTrue, fold}
use Rattle.std.proofs.lemmas.List.{take_all}
use Rattle.link_frames.specs.declared.frames.packet.Message.{Message}
use Rattle.bracha_instance.specs.declared.instance.Effect.{Effect}
use Rattle.bracha_instance.specs.declared.instance.Effect.TheVariants as effect
use Rattle.role_node.specs.Answers.{is_recorded, answer_due, answered}
use Rattle.role_node.specs.Histories.{issued}
use Rattle.role_node.specs.declared.event.Event.TheVariants.{Issue}
use Rattle.role_node.specs.declared.event.Reply.TheVariants as reply
use Rattle.role_node.specs.declared.faults.NodeFault.{NodeFault}
use Rattle.byz_world.specs.Example.{four_nodes, three_lies, user_seven, example_run}
use Rattle.byz_world.specs.Runs.{Run, history_of, has_sent, IsClusterRun}
use Rattle.byz_world.proofs.Exported.{recorded_after}
use Rattle.restarts.specs.Example.{user_nine, example_life, AnExample}
use Rattle.restarts.specs.Laws.{synced_at_once}
use Rattle.restarts.specs.Lives.{Act, Records, Syncs, Moment, at_first, after, MayRecord}
use Rattle.restarts.proofs.AtOnce.{IsSynced, none_synced, synced_next, may_record, all_at_once}
use Rattle.restarts.proofs.Lives.{MayAll, each_may}

-- whether a command is recorded does not depend on the message that publishes it
issued_alike : (due : Result Effect NodeFault) (m n : Message) →
    is_recorded (answered due (reply.Issued m)) ≡ is_recorded (answered due (reply.Issued n))
issued_alike (Ok effect.Idle) m n = refl
issued_alike (Ok effect.Counted) m n = refl
issued_alike (Err fault) m n = refl

rest_of_run : Run
rest_of_run = drop 1 example_run

-- node 0 has published the command and synced that
abbrev published_seven : Moment
published_seven = after (after at_first (Records 0 (Issue user_seven))) (Syncs 0)

seven_synced : IsSynced published_seven ((0, Issue user_seven) ∷ [])
seven_synced = synced_next at_first [] 0 (Issue user_seven) none_synced

module _ (is_run : IsClusterRun four_nodes three_lies example_run) where
  nine_recorded : IsTrue (is_recorded (answer_due four_nodes 0 (history_of 0 []) (Issue user_nine)))
  unfolding rest_of_run
  nine_recorded =
      issued_alike _ _ _ ∙ recorded_after four_nodes [] rest_of_run 0 (Issue user_seven) (is_run.legal 0)

  nine_may : MayRecord four_nodes three_lies at_first 0 (Issue user_nine)
  nine_may = record {
    correct = is_run.correct 0 0 (Issue user_seven) refl;
    recorded = nine_recorded;
    sound = λ p is. absurd cc;
    links = λ p is honest apart. absurd cc;
    own = λ p is same. absurd cc;
  }

  seven_may : MayRecord four_nodes three_lies at_first 0 (Issue user_seven)
  unfolding rest_of_run
  seven_may = may_record four_nodes three_lies at_first [] rest_of_run 0 (Issue user_seven) none_synced is_run

  the_rest : MayAll four_nodes three_lies published_seven (synced_at_once rest_of_run)
      × IsSynced (fold after published_seven (synced_at_once rest_of_run)) example_run
  unfolding rest_of_run
  the_rest =
      all_at_once four_nodes three_lies published_seven ((0, Issue user_seven) ∷ []) rest_of_run seven_synced is_run

  one_synced : published_seven.synced 0 ≤ 1
  unfolding history_of
  one_synced = omega arith

  each_in_turn : MayAll four_nodes three_lies at_first example_life
  unfolding rest_of_run
  each_in_turn = (nine_may, (omega arith, (seven_may, (_, (the_rest.0.0, (one_synced, the_rest.0))))))

  pub is_example : AnExample
  unfolding rest_of_run history_of has_sent issued
  is_example = record {
    is_life = record {
      sizes = is_run.sizes;
      few = is_run.few;
      may = each_may four_nodes three_lies at_first example_life each_in_turn;
    };
    was_sent = refl;
    had_not_left = refl;
    is_lost = refl;
    has_left_later = refl;
    is_kept = refl;
    stands = ap (λ (some : List Act). (fold after at_first some).run)
        (take_all (length example_life) example_life (omega arith)) ∙ the_rest.1.stands;
  }
