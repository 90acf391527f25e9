-- Where no packet of a window is lacked, each correct node has taken all about the end of its stream: that place is in
-- each correct node's window of it.
use Rattle.std.proofs.Common.{◌≡◌, ℕ, ◌+◌, ◌-◌, ◌<◌, ◌≤◌, ⊎_elim, true, Some, refl, sym, subst, arith}
use Rattle.std.specs.Prelude.{Contains}
use Rattle.std.proofs.lemmas.Bool.{cases_lt}
use Rattle.quorum_sizes.specs.Sizes.{Counts}
use Rattle.quorum_sizes.specs.NodeSets.{Nodes}
use Rattle.role_commands.proofs.Exported.{some_value}
use Rattle.role_commands.specs.declared.command.Command.{Command}
use Rattle.link_frames.specs.frames.Packets.{PacketValue, packet_of}
use Rattle.link_frames.specs.declared.frames.kind.Kind.TheVariants.{Ready}
use Rattle.link_frames.specs.declared.frames.packet.Message.{Message}
use Rattle.bracha_instance.proofs.Exported.{delivered_is_ready}
use Rattle.owner_streams.proofs.Exported.{vote_is}
use Rattle.owner_streams.specs.Places.{window}
use Rattle.role_node.specs.Configs.{ConfigValue}
use Rattle.role_node.specs.Histories.{packets}
use Rattle.role_node.specs.Windows.{last_vote_at, IsInWindow}
use Rattle.byz_world.specs.Pools.{pool}
use Rattle.byz_world.specs.Progress.{IsWanted}
use Rattle.byz_world.specs.Runs.{Run, history_of, stream_of, reach_of, is_correct, IsClusterRun}
use Rattle.byz_world.specs.Windows.{IsHealed, WindowsSuffice}
use Rattle.byz_world.proofs.Complete.{EndsAreTaken, complete}
use Rattle.byz_world.proofs.Histories.{taken_by}
use Rattle.byz_world.proofs.Pooled.{pooled_is_sent, sent_is_pooled, is_has_sent}
use Rattle.byz_world.proofs.Progress.{some_within, pooled_within}
use Rattle.byz_world.proofs.Quiet.{taken_or_wanted}
use Rattle.byz_world.proofs.Safety.{streamed}
use Rattle.byz_world.proofs.Telling.{correct_is_node}
use Rattle.byz_world.proofs.Voted as votes
use Rattle.byz_world.proofs.Voted.{voted_by_reach, voted_is_open, vote_counts}
use Rattle.byz_world.proofs.Votes.{said_by}

module _ (config : ConfigValue) (liars : Nodes) (run : Run) (owner places : ℕ) (cluster : IsClusterRun config liars run)
    (healed : IsHealed config liars run owner places) where
  abbrev s : Counts
  s = config.roles.sizes

  abbrev IsHonest : ℕ → Type 0
  IsHonest name = is_correct s liars name ≡ true

  abbrev reach : ℕ → ℕ
  reach node = reach_of config run node owner

  abbrev voted : ℕ → ℕ → ℕ
  voted node voter = votes.voted config liars run cluster node owner voter

  -- a packet of a window that is open where it is sent to was taken there
  given : (p : PacketValue) → Contains (pool config run) p → IsHonest p.to → p.owner ≡ owner → p.place < places →
      p.place < reach_of config run p.to p.owner + window →
      IsInWindow (last_vote_at (history_of p.from run) p.owner p.to) p.place →
      Contains (packets (history_of p.to run)) p
  given p pooled correct own early within there =
      ⊎_elim
      (λ (taken : Contains (packets (history_of p.to run)) p). taken)
      (λ (wanted : IsWanted config liars run p).
      absurd (healed p (record { wanted = wanted; in_window = there }) own early))
      (taken_or_wanted config liars run p cluster pooled correct within)

  -- what a node has delivered it was ready for
  ready_below : (i place : ℕ) → place < reach i → (c : Command) × (said_by s run i Ready owner place ≡ Some c)
  ready_below i place before =
      let there = some_within (stream_of config run i owner) place before in
      some_value _ (delivered_is_ready s (taken_by run i owner place) there.0
      (streamed config liars run cluster i owner place there.0 there.1))

  -- so where that READY is in its window of another one, who takes messages there, it was taken
  ready_taken : (i j place : ℕ) → IsHonest j → place < places → place < reach i → place < reach j + window →
      IsInWindow (last_vote_at (history_of i run) owner j) place → place < voted j i
  ready_taken i j place correct early before within there =
      let ready = ready_below i place before in
      let m : Message = record { kind = Ready; owner = owner; place = place; command = ready.0 } in
      let p : PacketValue = packet_of i j m in
      let pooled = sent_is_pooled config liars run i j m cluster (is_has_sent s run i m ready.1)
      (correct_is_node s liars j correct) in
      vote_counts config liars run cluster j owner i place p (given p pooled correct refl early within there)
      (vote_is owner i place p
      (record { of_owner = refl; from_voter = refl; no_send = λ send. absurd cc; at_place = refl }))

  -- The end of a node's stream is in the window that any other has of it.

  -- who has voted nowhere near its own reach has sent READYs in between, one of which would have been taken
  not_far : (i j : ℕ) → IsHonest i → IsHonest j → reach j < places → reach j < reach i + window →
      voted i j + window ≤ reach j → ⊥
  not_far i j one other early within far =
      ⊎_elim
      (λ (less : voted i j < voted j i + window).
      ⊎_elim
      (λ (behind : voted i j + (window + 1) < voted j i).
      let last = voted_is_open config liars run cluster j owner i in
      let there = ready_taken j i (voted j i - (window + 1)) one (omega (arith, last, early, far))
      (omega (arith, last, far)) (omega (arith, last, within, far))
      (record { from = omega arith; to = omega arith }) in
      omega (arith, there, behind))
      (λ (near : voted j i ≤ voted i j + (window + 1)).
      let there = ready_taken j i (voted i j) one (omega (arith, early, far)) (omega (arith, far))
      (omega (arith, within, far)) (record { from = omega (arith, near); to = less }) in
      omega (arith, there))
      (cases_lt (voted i j + (window + 1)) (voted j i)))
      (λ (more : voted j i + window ≤ voted i j).
      let there = ready_taken i j (voted i j - 1) other (omega (arith, early, far)) (omega (arith, within, far, more))
      (omega (arith, far)) (record { from = omega arith; to = omega arith }) in
      omega (arith, there, more))
      (cases_lt (voted i j) (voted j i + window))

  end_in_window : (i j : ℕ) → IsHonest i → IsHonest j → reach j < places → reach j < reach i + window →
      IsInWindow (last_vote_at (history_of i run) owner j) (reach j)
  end_in_window i j one other early within = record {
    from = omega (arith, voted_by_reach config liars run cluster i owner j other);
    to = ⊎_elim
        (λ (near : reach j < voted i j + window). near)
        (λ (far : voted i j + window ≤ reach j). absurd (not_far i j one other early within far))
        (cases_lt (reach j) (voted i j + window));
  }

  pub ends_taken : EndsAreTaken config liars run owner places
  ends_taken node correct early p pooled to own there =
      let was = pooled_is_sent config liars run p cluster pooled in
      let F : ℕ → Type 0 = λ o. p.place < reach_of config run p.from o + window in
      let within : p.place < reach p.from + window = subst F own (pooled_within config liars run cluster p pooled) in
      let W : ℕ → ℕ → ℕ → Type 0 = λ o name k. IsInWindow (last_vote_at (history_of p.from run) o name) k in
      let in_window : W owner node (reach node) =
      end_in_window p.from node was.from correct early (omega (arith, within, there)) in
      let R : ℕ → ℕ → Type 0 = λ name o. p.place < reach_of config run name o + window in
      let here : R node owner = omega (arith, there) in
      let P : ℕ → Type 0 = λ name. Contains (packets (history_of name run)) p in
      subst P to
      (given p pooled (subst IsHonest (sym to) correct) own (omega (arith, early, there))
      (subst (λ name. R name p.owner) (sym to) (subst (R node) (sym own) here))
      (subst (W p.owner p.to) (sym there)
      (subst (λ name. W p.owner name (reach node)) (sym to)
      (subst (λ o. W o node (reach node)) (sym own) in_window))))

pub windows_suffice : WindowsSuffice
windows_suffice config liars run owner places cluster healed =
    complete config liars run owner places cluster (ends_taken config liars run owner places cluster healed)
