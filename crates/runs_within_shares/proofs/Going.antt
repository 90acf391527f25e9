-- A run within shares goes on by what is wanted below them.
use Rattle.std.proofs.Common.{◌≡◌, ℕ, suc, ◌<◌, inl, inr, ⊎_elim, Bool, true, false, ◌==◌, List, [], ◌∷◌}
use Rattle.std.proofs.Common.{◌++◌, length, Some, None, Ok, refl, sym, ap, ◌∙◌, subst, arith}
use Rattle.std.specs.Prelude.{if◌then◌else◌, nat_le}
use Rattle.std.specs.List.{cons_option}
use Rattle.std.proofs.lemmas.Bool.Decides.{nat_tests}
use Rattle.std.proofs.lemmas.List.Elements.{All-cons, All-nil, All-push, All-same}
use Rattle.std.proofs.lemmas.Map.Views.{exact_unsigned_eq}
use Rattle.quorum_sizes.specs.NodeSets.{Nodes}
use Rattle.link_frames.specs.frames.Packets.{PacketValue, IsSound}
use Rattle.bracha_instance.specs.declared.instance.Effect.TheVariants as effect
use Rattle.role_node.proofs.Exported.{counted_with_room, counted_is_due, packets-Take}
use Rattle.role_node.specs.Answers.{outlook, answer_due, is_recorded}
use Rattle.role_node.specs.Configs.{ConfigValue}
use Rattle.role_node.specs.Histories.{packets}
use Rattle.role_node.specs.declared.event.Event.{Event}
use Rattle.role_node.specs.declared.event.Event.TheVariants as event
use Rattle.owner_shares.proofs.Exported.{never_full}
use Rattle.owner_shares.specs.Laws.{AreSound, IsWithinShares, FindsRoom}
use Rattle.owner_shares.specs.Shares.{share}
use Rattle.byz_world.proofs.Exported.{pool_is_what_was_sent, wanted_is_recorded, each_owner_goes_on}
use Rattle.byz_world.proofs.Exported.{history_of-push, history_of-push_other}
use Rattle.byz_world.specs.Laws.{PoolIsSound}
use Rattle.byz_world.specs.Limits.{IsRunUnderLimits}
use Rattle.byz_world.specs.Progress.{IsWanted, IsComplete, GoesOn}
use Rattle.byz_world.specs.Runs.{Run, history_of, PacketsAreSound, IsClusterRun}
use Rattle.runs_within_shares.specs.Laws.{IsRunWithinShares, SharesGoOn, OwnersGoOn}

-- The packets of a history are sound.

sound_by : (node : ℕ) (b : Bool) (e : Event) (rest : List Event) → ((p : PacketValue) → e ≡ event.Take p → IsSound p) →
    AreSound rest → AreSound (cons_option (if b then Some e else None) rest)
unfolding packets
sound_by node false e rest sound are = are
sound_by node true (event.Issue c) rest sound are = are
sound_by node true (event.Take p) rest sound are = All-cons IsSound p (packets rest) (sound p refl) are
sound_by node true (event.Client act) rest sound are = are

all_sound : (node : ℕ) (run : Run) → PacketsAreSound run → AreSound (history_of node run)
unfolding history_of packets
all_sound node [] sound = All-nil IsSound
all_sound node (pair ∷ run) sound =
    sound_by node (pair.0 == node) pair.1 (history_of node run)
    (λ p is. sound 0 pair.0 p (ap (λ e. Some (pair.0, e)) is))
    (all_sound node run (λ t n p at. sound (suc t) n p at))

-- Its receiver has room for a wanted packet below a share.

finds_room : (config : ConfigValue) (liars : Nodes) (run : Run) (p : PacketValue) → PoolIsSound →
    IsRunWithinShares config liars run → IsWanted config liars run p → p.place < share config.roles p.owner →
    FindsRoom config p.to (history_of p.to run) (event.Take p)
finds_room config liars run p pooled is wanted below =
    let history : List Event = history_of p.to run in
    let p_sound : IsSound p =
    pooled config liars run p is.cluster ((pool_is_what_was_sent config liars run p is.cluster).1 wanted.sent) in
    let sound : AreSound (history ++ event.Take p ∷ []) =
    All-same IsSound _ _ (packets-Take history p)
    (All-push IsSound (packets history) p (all_sound p.to run is.cluster.sound) p_sound) in
    never_full config p.to history (event.Take p) is.most (is.cluster.legal p.to) sound (is.within p.to wanted.to) below

counts_now : (config : ConfigValue) (liars : Nodes) (run : Run) (p : PacketValue) → IsWanted config liars run p →
    FindsRoom config p.to (history_of p.to run) (event.Take p) →
    outlook config p.to (history_of p.to run) (event.Take p) ≡ Ok effect.Counted
counts_now config liars run p wanted finds = finds.room ∙ wanted.counts

less_than : (limit n : ℕ) → nat_le limit n ≡ false → n < limit
less_than limit n e = grind (arith, nat_tests)

-- The run with it.

under_its_limit : (config : ConfigValue) (liars : Nodes) (run : Run) → IsClusterRun config liars run →
    IsRunUnderLimits config (λ _. config.limit) liars run
under_its_limit config liars run cluster =
    record {
      sizes = cluster.sizes;
      few = cluster.few;
      correct = cluster.correct;
      legal = cluster.legal;
      sound = cluster.sound;
      links = cluster.links;
    }

of_its_limit : (config : ConfigValue) (liars : Nodes) (run : Run) →
    IsRunUnderLimits config (λ _. config.limit) liars run → IsClusterRun config liars run
of_its_limit config liars run is =
    record {
      sizes = is.sizes;
      few = is.few;
      correct = is.correct;
      legal = is.legal;
      sound = is.sound;
      links = is.links;
    }

within_by : (config : ConfigValue) (run : Run) (p : PacketValue) (node : ℕ) (b : Bool) → (p.to == node) ≡ b →
    IsWithinShares config.roles p.to (history_of p.to run ++ event.Take p ∷ []) →
    IsWithinShares config.roles node (history_of node run) →
    IsWithinShares config.roles node (history_of node (run ++ (p.to, event.Take p) ∷ []))
within_by config run p node false other now was =
    subst (IsWithinShares config.roles node) (sym (history_of-push_other node (p.to, event.Take p) run other)) was
within_by config run p node true own now was =
    let same : p.to ≡ node = exact_unsigned_eq p.to node own in
    let W : ℕ → Type 0 = λ n. IsWithinShares config.roles n (history_of n (run ++ (p.to, event.Take p) ∷ [])) in
    let here : W p.to =
    subst (IsWithinShares config.roles p.to) (sym (history_of-push p.to (event.Take p) run)) now in
    subst W same here

pub shares_go_on : PoolIsSound → SharesGoOn
shares_go_on pooled config liars run p is wanted below =
    let history : List Event = history_of p.to run in
    let finds = finds_room config liars run p pooled is wanted below in
    let counts = counts_now config liars run p wanted finds in
    let room : length history < config.limit =
    less_than config.limit (length history) (counted_with_room config p.to history (event.Take p) counts).0 in
    let recorded : is_recorded (answer_due config p.to history (event.Take p)) ≡ true =
    ap is_recorded (counted_is_due config p.to history (event.Take p) _ counts refl) in
    record {
      cluster = of_its_limit config liars _
          (wanted_is_recorded config (λ _. config.limit) liars run p (under_its_limit config liars run is.cluster)
          wanted room);
      most = is.most;
      within = λ node correct.
          within_by config run p node (p.to == node) refl (finds.stays recorded) (is.within node correct);
    }

pub owners_go_on : SharesGoOn → OwnersGoOn
owners_go_on shares config liars run owner is =
    let places : ℕ = share config.roles owner in
    let goes : GoesOn config liars run owner places = each_owner_goes_on config liars run owner places is.cluster in
    ⊎_elim (λ (whole : IsComplete config liars run owner places). inl whole)
    (λ (one : (p : PacketValue) × IsWanted config liars run p × (p.owner ≡ owner) × (p.place < places)).
    let p : PacketValue = one.0 in
    let below : p.place < share config.roles p.owner =
    subst (λ o. p.place < share config.roles o) (sym one.2) one.3 in
    inr (record {
      packet = p;
      of_owner = one.2;
      below = one.3;
      wanted = one.1;
      recorded = shares config liars run p is one.1 below;
    }))
    goes.complete_or_wanted
