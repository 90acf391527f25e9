-- Correct nodes at which an owner's stream reaches equally far have the same stream, at whichever moments of a run, and
-- so decide alike by that owner's word.
use Rattle.std.proofs.Common.{◌≡◌, ℕ, take, slice_get, Some, ap, ◌∙◌}
use Rattle.quorum_sizes.specs.NodeSets.{Nodes}
use Rattle.role_commands.specs.declared.command.Command.{Command}
use Rattle.bracha_instance.specs.Broadcast.{delivered}
use Rattle.bracha_instance.proofs.Exported.{delivery_stays}
use Rattle.role_node.specs.Configs.{ConfigValue}
use Rattle.role_node.specs.Words.{OneOwnersWord}
use Rattle.byz_world.specs.Laws.{SameReachDecidesAlike, SameReachWheneverAsked}
use Rattle.byz_world.specs.Runs.{Run, history_of, stream_of, reach_of, IsClusterRun}
use Rattle.byz_world.proofs.Fronts.{fronts_are_runs}
use Rattle.byz_world.proofs.Histories.{taken_by, taken_front}
use Rattle.byz_world.proofs.Lists.{same_by_places}
use Rattle.byz_world.proofs.Policy.{same_stream}
use Rattle.byz_world.proofs.Safety.{deliver_one, streamed}

module _ (config : ConfigValue) (liars : Nodes) (run : Run) (cluster : IsClusterRun config liars run) where
  -- what stands in a stream at a moment is delivered there for good
  delivered_later : (count node owner place : ℕ) (c : Command) →
      slice_get (stream_of config (take count run) node owner) place ≡ Some c →
      delivered config.roles.sizes (taken_by run node owner place) ≡ Some c
  delivered_later count node owner place c there =
      let past : Run = take count run in
      let front = taken_front count run node owner place in
      ap (delivered config.roles.sizes) front.1
      ∙ delivery_stays config.roles.sizes (taken_by past node owner place) front.0 c
      (streamed config liars past (fronts_are_runs config liars run count cluster) node owner place c there)

  same_stream_whenever : (i j one other owner : ℕ) →
      reach_of config (take one run) i owner ≡ reach_of config (take other run) j owner →
      stream_of config (take one run) i owner ≡ stream_of config (take other run) j owner
  same_stream_whenever i j one other owner reaches =
      same_by_places _ _ reaches (λ k c d e f.
      deliver_one config liars run cluster i j owner k c d
      (delivered_later one i owner k c e) (delivered_later other j owner k d f))

-- since such a decision goes by the owner's stream alone

pub same_reach_decides_alike : OneOwnersWord → SameReachDecidesAlike
same_reach_decides_alike word config liars run i j owner user operation object cluster _ _ reaches =
    word config.roles (history_of i run) (history_of j run) owner user operation object
    (same_stream config liars run cluster i j owner (λ _. reaches))

pub same_reach_whenever_asked : OneOwnersWord → SameReachWheneverAsked
same_reach_whenever_asked word config liars run i j one other owner user operation object cluster _ _ reaches =
    word config.roles (history_of i (take one run)) (history_of j (take other run)) owner user operation object
    (same_stream_whenever config liars run cluster i j one other owner reaches)
