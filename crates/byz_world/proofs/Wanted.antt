-- Nodes with limits of their own: what is wanted is recorded where its receiver is below its own.
use Rattle.std.proofs.Common.{◌≡◌, ℕ, suc, ◌<◌, ◌≤◌, ⊎_elim, Bool, true, false, ◌==◌, [], ◌∷◌, ◌++◌, length, take}
use Rattle.std.proofs.Common.{Some, Ok, Result, refl, sym, ap, ◌∙◌, subst, arith}
use Rattle.std.specs.Prelude.{IsTrue, slice_get}
use Rattle.std.proofs.Math.Seq.{take-append_seam}
use Rattle.std.proofs.lemmas.List.{take-append-le}
use Rattle.std.proofs.lemmas.Map.Views.{exact_unsigned_eq}
use Rattle.quorum_sizes.specs.NodeSets.{Nodes}
use Rattle.link_frames.specs.frames.Packets.{PacketValue, IsSound, message_of}
use Rattle.bracha_instance.specs.declared.instance.Effect.{Effect}
use Rattle.bracha_instance.specs.declared.instance.Effect.TheVariants as effect
use Rattle.role_node.proofs.Exported.{at_push}
use Rattle.role_node.specs.Answers.{unless_full, answer_due, is_recorded, IsLegal}
use Rattle.role_node.specs.Configs.{ConfigValue}
use Rattle.role_node.specs.declared.event.Event.TheVariants.{Take}
use Rattle.role_node.specs.declared.faults.NodeFault.{NodeFault}
use Rattle.byz_world.specs.Limits.{with_limit}
use Rattle.byz_world.specs.Progress.{IsWanted, WantedIsRecorded}
use Rattle.byz_world.specs.Runs.{Run, history_of, is_correct, has_sent, IsClusterRun}
use Rattle.byz_world.proofs.Limits.{spare, under_limits}
use Rattle.byz_world.proofs.Pooled.{sent_is_pooled}
use Rattle.byz_world.proofs.Sound.{pooled_is_sound}
use Rattle.byz_world.proofs.Growing.{legal_push}
use Rattle.byz_world.proofs.Pushing.{history_of-push, history_of-push_other}
use Rattle.byz_world.proofs.Recording.{counted_recorded}

still_counts : (full : Bool) (r : Result Effect NodeFault) → full ≡ false → r ≡ Ok effect.Counted →
    unless_full full r ≡ Ok effect.Counted
still_counts full r room e = ap (unless_full full) e ∙ ap (λ b. unless_full b (Ok effect.Counted)) room

same_take : (p q : PacketValue) → Take p ≡ Take q → p ≡ q
same_take p q e = cc

legal_by : (config : ConfigValue) (limits : ℕ → ℕ) (run : Run) (p : PacketValue) (node : ℕ) (b : Bool) →
    (p.to == node) ≡ b → IsLegal (with_limit config (limits node)) node (history_of node run) →
    is_recorded (answer_due (with_limit config (limits p.to)) p.to (history_of p.to run) (Take p)) ≡ true →
    IsLegal (with_limit config (limits node)) node (history_of node (run ++ (p.to, Take p) ∷ []))
legal_by config limits run p node false other legal recorded =
    subst (IsLegal (with_limit config (limits node)) node) (sym (history_of-push_other node (p.to, Take p) run other))
    legal
legal_by config limits run p node true own legal recorded =
    let same : p.to ≡ node = exact_unsigned_eq p.to node own in
    let L : ℕ → Type 0 = λ n. IsLegal (with_limit config (limits n)) n (history_of n (run ++ (p.to, Take p) ∷ [])) in
    let before : IsLegal (with_limit config (limits p.to)) p.to (history_of p.to run) =
    subst (λ n. IsLegal (with_limit config (limits n)) n (history_of n run)) (sym same) legal in
    let now : L p.to =
    subst (IsLegal (with_limit config (limits p.to)) p.to) (sym (history_of-push p.to (Take p) run))
    (legal_push (with_limit config (limits p.to)) p.to (history_of p.to run) (Take p) before recorded) in
    subst L same now

wanted_is_sound : (config : ConfigValue) (liars : Nodes) (run : Run) (p : PacketValue) →
    IsClusterRun config liars run → IsWanted config liars run p → IsSound p
wanted_is_sound config liars run p cluster wanted =
    pooled_is_sound config liars run cluster p
    (sent_is_pooled config liars run p.from p.to (message_of p) cluster wanted.sent.sent wanted.sent.to)

pub wanted_is_recorded : WantedIsRecorded
wanted_is_recorded config limits liars run p is wanted room =
    let most : ℕ = suc (length run) in
    let cluster : IsClusterRun (with_limit config most) liars run = under_limits config liars run limits is in
    let wanted' : IsWanted (with_limit config most) liars run p =
    record {
      sent = record { from = wanted.sent.from; to = wanted.sent.to; sent = wanted.sent.sent };
      to = wanted.to;
      counts = wanted.counts;
    } in
    let sound : IsSound p = wanted_is_sound (with_limit config most) liars run p cluster wanted' in
    let recorded : is_recorded (answer_due (with_limit config (limits p.to)) p.to (history_of p.to run) (Take p))
    ≡ true =
    counted_recorded (with_limit config (limits p.to)) p.to (history_of p.to run) (Take p)
    (still_counts _ _ (spare (limits p.to) (length (history_of p.to run)) room) wanted.counts) in
    record {
      sizes = is.sizes;
      few = is.few;
      correct = λ t node event there.
          ⊎_elim
          (λ (h : (t < length run) × (slice_get run t ≡ Some (node, event))). is.correct t node event h.1)
          (λ (h : (t ≡ length run) × ((p.to, Take p) ≡ (node, event))).
          let P : ℕ → Type 0 = λ n. IsTrue (is_correct config.roles.sizes liars n) in
          subst P (ap (λ x. x.0) h.1) wanted.to)
          (at_push run (p.to, Take p) t (node, event) there);
      legal = λ node. legal_by config limits run p node _ refl (is.legal node) recorded;
      sound = λ t node q there.
          ⊎_elim
          (λ (h : (t < length run) × (slice_get run t ≡ Some (node, Take q))). is.sound t node q h.1)
          (λ (h : (t ≡ length run) × ((p.to, Take p) ≡ (node, Take q))).
          subst IsSound (same_take p q (ap (λ x. x.1) h.1)) sound)
          (at_push run (p.to, Take p) t (node, Take q) there);
      links = λ t node q there honest.
          let P : Run → Type 0 = λ past. IsTrue (has_sent config.roles.sizes past q.from (message_of q)) in
          ⊎_elim
          (λ (h : (t < length run) × (slice_get run t ≡ Some (node, Take q))).
          let short : t ≤ length run = omega (arith, h.0) in
          subst P (sym (take-append-le t run ((p.to, Take p) ∷ []) short)) (is.links t node q h.1 honest))
          (λ (h : (t ≡ length run) × ((p.to, Take p) ≡ (node, Take q))).
          let past : take t (run ++ (p.to, Take p) ∷ []) ≡ run = ap (λ n. take n (run ++ (p.to, Take p) ∷ [])) h.0
          ∙ take-append_seam run ((p.to, Take p) ∷ []) in
          let same : p ≡ q = same_take p q (ap (λ x. x.1) h.1) in
          subst P (sym past)
          (subst (λ (x : PacketValue). IsTrue (has_sent config.roles.sizes run x.from (message_of x))) same
          wanted.sent.sent))
          (at_push run (p.to, Take p) t (node, Take q) there);
    }
