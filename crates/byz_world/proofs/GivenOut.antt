-- Where no packet of the pool counts any more, what is wanted is so at a full node; where none is full the cluster is
-- at rest.
use Rattle.std.proofs.Common.{◌≡◌, ℕ, suc, ◌+◌, ◌<◌, ◌≤◌, ⊎_elim, Bool, true, false, List, length, Result, Ok, Err}
use Rattle.std.proofs.Common.{refl, sym, ap, ◌∙◌, arith, le_refl}
use Rattle.std.specs.Prelude.{nat_le, Contains}
use Rattle.std.proofs.lemmas.Bool.{cases_lt}
use Rattle.quorum_sizes.specs.NodeSets.{Nodes}
use Rattle.link_frames.specs.frames.Packets.{PacketValue, message_of}
use Rattle.bracha_instance.specs.declared.instance.Effect.{Effect}
use Rattle.bracha_instance.specs.declared.instance.Effect.TheVariants as effect
use Rattle.role_node.specs.Answers.{outlook, answered, unless_full, reply_to, answer_due, is_recorded}
use Rattle.role_node.specs.Configs.{ConfigValue}
use Rattle.role_node.specs.Histories.{packets}
use Rattle.role_node.specs.declared.event.Event.{Event}
use Rattle.role_node.specs.declared.event.Event.TheVariants as event
use Rattle.role_node.specs.declared.faults.NodeFault.{NodeFault}
use Rattle.byz_world.specs.inside.Kept.{is_idle}
use Rattle.byz_world.specs.Giving.{IsGivenOut, HasRoom, GivenOutIsAtRest}
use Rattle.byz_world.specs.Progress.{IsWanted, IsQuiet}
use Rattle.byz_world.specs.Resting.{IsAtRest}
use Rattle.byz_world.specs.Runs.{Run, history_of, reach_of, IsClusterRun}
use Rattle.byz_world.proofs.Idle.{taken_is_idle}
use Rattle.byz_world.proofs.Pooled.{pooled_is_sent, sent_is_pooled}
use Rattle.byz_world.proofs.Progress.{not_full, roomy, pooled_within}
use Rattle.byz_world.proofs.Complete.{reaches}
use Rattle.byz_world.proofs.Quiet.{within_taken, ends_taken}
use Rattle.byz_world.proofs.Recording.{counted_recorded}

-- what is wanted counts where its receiver has room
pub wanted_counts : (config : ConfigValue) (liars : Nodes) (run : Run) (p : PacketValue) →
    IsWanted config liars run p → length (history_of p.to run) < config.limit →
    is_recorded (answer_due config p.to (history_of p.to run) (event.Take p)) ≡ true
wanted_counts config liars run p wanted room =
    let history : List Event = history_of p.to run in
    let full : Bool = nat_le config.limit (length history) in
    let is : outlook config p.to history (event.Take p) ≡ Ok effect.Counted =
    ap (unless_full full) wanted.counts ∙ roomy full effect.Counted (not_full _ _ room) in
    counted_recorded config p.to history (event.Take p) is

pub wanted_at_full : (config : ConfigValue) (liars : Nodes) (run : Run) → IsClusterRun config liars run →
    IsGivenOut config liars run → (p : PacketValue) → IsWanted config liars run p →
    config.limit ≤ length (history_of p.to run)
wanted_at_full config liars run cluster given p wanted =
    let pooled = sent_is_pooled config liars run p.from p.to (message_of p) cluster wanted.sent.sent wanted.sent.to in
    ⊎_elim
    (λ (room : length (history_of p.to run) < config.limit).
    let clash : true ≡ false = sym (wanted_counts config liars run p wanted room) ∙ given p pooled wanted.to in
    absurd cc)
    (λ (full : config.limit ≤ length (history_of p.to run)). full)
    (cases_lt (length (history_of p.to run)) config.limit)

pub given_out_is_quiet : (config : ConfigValue) (liars : Nodes) (run : Run) (owner places : ℕ) →
    IsClusterRun config liars run → HasRoom config liars run → IsGivenOut config liars run →
    IsQuiet config liars run owner places
given_out_is_quiet config liars run owner places cluster room given p wanted own early =
    omega (arith, wanted_at_full config liars run cluster given p wanted, room p.to wanted.to)

rests : (config : ConfigValue) (liars : Nodes) (run : Run) → IsClusterRun config liars run → HasRoom config liars run →
    IsGivenOut config liars run → IsAtRest config liars run
rests config liars run cluster room given p pooled correct =
    let was = pooled_is_sent config liars run p cluster pooled in
    let reach : ℕ = reach_of config run p.from p.owner in
    let places : ℕ = suc (p.place + reach) in
    let quiet = given_out_is_quiet config liars run p.owner places cluster room given in
    let ends = ends_taken config liars run p.owner places cluster quiet in
    let far = reaches config liars run p.owner places cluster ends reach p.from (omega arith) was.from (le_refl _) p.to
    correct in
    within_taken config liars run p.owner places cluster quiet p pooled correct refl (omega arith)
    (omega (arith, far, pooled_within config liars run cluster p pooled))

idle_uncounted : (config : ConfigValue) (me : ℕ) (history : List Event) (e : Event) →
    is_idle (outlook config me history e) ≡ true → is_recorded (answer_due config me history e) ≡ false
idle_uncounted config me history e idle = by (outlook config me history e) idle
  where
    by : (o : Result Effect NodeFault) → is_idle o ≡ true →
        is_recorded (answered o (reply_to config.roles me history e)) ≡ false
    by (Ok effect.Idle) is = refl
    by (Ok effect.Counted) is = absurd cc
    by (Err f) is = absurd cc

-- at rest no packet counts, also where a history is full
pub rest_is_given_out : (config : ConfigValue) (liars : Nodes) (run : Run) → IsClusterRun config liars run →
    IsAtRest config liars run → IsGivenOut config liars run
rest_is_given_out config liars run cluster rest p pooled correct =
    idle_uncounted config p.to (history_of p.to run) (event.Take p)
    (taken_is_idle config p.to (history_of p.to run) p (cluster.legal p.to) (rest p pooled correct))

early_clash : (full : Bool) (r : Result Effect NodeFault) → r ≡ Ok effect.Counted → is_idle (unless_full full r) ≡ false
early_clash full r e = ap (λ x. is_idle (unless_full full x)) e ∙ by full
  where
    by : (b : Bool) → is_idle (unless_full b (Ok effect.Counted)) ≡ false
    by true = refl
    by false = refl

-- what is wanted was not taken
pub wanted_is_new : (config : ConfigValue) (liars : Nodes) (run : Run) (p : PacketValue) →
    IsClusterRun config liars run → IsWanted config liars run p → Contains (packets (history_of p.to run)) p → ⊥
wanted_is_new config liars run p cluster wanted taken =
    let idle : is_idle (outlook config p.to (history_of p.to run) (event.Take p)) ≡ true =
    taken_is_idle config p.to (history_of p.to run) p (cluster.legal p.to) taken in
    let clash : true ≡ false = sym idle ∙ early_clash _ _ wanted.counts in
    absurd cc

-- .. so at rest nothing is
pub rest_is_quiet : (config : ConfigValue) (liars : Nodes) (run : Run) (owner places : ℕ) →
    IsClusterRun config liars run → IsAtRest config liars run → IsQuiet config liars run owner places
rest_is_quiet config liars run owner places cluster rest p wanted own early =
    let pooled = sent_is_pooled config liars run p.from p.to (message_of p) cluster wanted.sent.sent wanted.sent.to in
    wanted_is_new config liars run p cluster wanted (rest p pooled wanted.to)

pub given_out_is_at_rest : GivenOutIsAtRest
given_out_is_at_rest config liars run cluster room = (
  λ given. rests config liars run cluster room given,
  λ rest. rest_is_given_out config liars run cluster rest,
)
