-- Correct nodes whose streams reach equally far have the same streams, and so the same relations.
use Rattle.std.proofs.Common.{◌≡◌, ℕ, ◌<◌, ◌≤◌, List, [], ◌∷◌, length, slice_get, refl, sym, ap, ◌∙◌, ⊎_elim, arith}
use Rattle.std.proofs.lemmas.Bool.{cases_lt}
use Rattle.quorum_sizes.specs.NodeSets.{Nodes}
use Rattle.bracha_instance.specs.Broadcast.{Take, delivered}
use Rattle.owner_streams.proofs.Exported.{stream_is_one_lem, delivered-none}
use Rattle.rbac_state.specs.Assignments.{is_user_assigned, is_permission_granted}
use Rattle.role_node.specs.Configs.{ConfigValue}
use Rattle.role_node.specs.Histories.{packets}
use Rattle.byz_world.specs.Laws.{SamePolicy}
use Rattle.byz_world.specs.Runs.{stream_of, reach_of}
use Rattle.byz_world.specs.Runs.{Run, history_of, IsClusterRun}
use Rattle.byz_world.proofs.Lists.{same_by_places}
use Rattle.byz_world.proofs.Histories.{taken_by, taken_whole, IsTakenIn, taken_in, routed}
use Rattle.byz_world.proofs.Safety.{deliver_one, streamed}

module _ (config : ConfigValue) (liars : Nodes) (run : Run) (cluster : IsClusterRun config liars run) where
  -- nothing is taken of an owner that is no node
  no_takes : (node owner place : ℕ) → config.roles.sizes.nodes ≤ owner → (takes : List Take) →
      taken_by run node owner place ≡ takes → takes ≡ []
  no_takes node owner place past [] is = refl
  no_takes node owner place past (t ∷ ts) is =
      let from : IsTakenIn run (length run) node owner place t =
      taken_in (length run) run node owner place t (
        0,
        ap (λ x. slice_get x 0) (taken_whole run node owner place ∙ is),
      ) in
      let route =
      routed config node (history_of node run) from.number from.packet (cluster.legal node) from.in_history in
      let within : owner < config.roles.sizes.nodes = rw from.owner_is at route.2 in
      absurd (omega arith)

  pub no_stream : (node owner : ℕ) → config.roles.sizes.nodes ≤ owner → stream_of config run node owner ≡ []
  no_stream node owner past =
      sym (stream_is_one_lem config.roles.sizes owner (packets (history_of node run)) []
      (λ place _. ap (delivered config.roles.sizes) (no_takes node owner place past _ refl)
      ∙ delivered-none config.roles.sizes))

  pub same_stream : (i j owner : ℕ)
      → (owner < config.roles.sizes.nodes → reach_of config run i owner ≡ reach_of config run j owner) →
      stream_of config run i owner ≡ stream_of config run j owner
  same_stream i j owner reaches =
      ⊎_elim
      (λ (within : owner < config.roles.sizes.nodes).
      same_by_places _ _ (reaches within) (λ k c d e f.
      deliver_one config liars run cluster i j owner k c d
      (streamed config liars run cluster i owner k c e) (streamed config liars run cluster j owner k d f)))
      (λ (past : config.roles.sizes.nodes ≤ owner). no_stream i owner past ∙ sym (no_stream j owner past))
      (cases_lt owner config.roles.sizes.nodes)

pub same_policy : SamePolicy
same_policy config liars run i j cluster _ _ reaches =
    let streams : stream_of config run i ≡ stream_of config run j =
    λ t owner. same_stream config liars run cluster i j owner (reaches owner) t in
    record {
      assigned = λ user role. ap (λ all. is_user_assigned config.roles all user role) streams;
      granted = λ operation object role.
          ap (λ all. is_permission_granted config.roles all operation object role) streams;
    }
