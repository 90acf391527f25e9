-- What the code of an instance shows of each of its steps.
use Rattle.std.proofs.Common.{◌≡◌, ℕ, Bool, true, false, cond, List, [], ◌∷◌, ◌++◌, All, is_some}
use Rattle.std.proofs.Common.{Option, Some, None, refl, sym, ap, ◌∙◌, ◌==◌, ◌&&◌, find, option_map}
use Rattle.std.proofs.Common.{zero, suc, zero-le, suc-le-suc, le_of_suc-le-suc, not-suc-le-zero, eq-eqb}
use Rattle.quorum_sizes.specs.Sizes.{Counts}
use Rattle.role_commands.specs.declared.command.Command.{Command}
use Rattle.link_frames.specs.frames.Kinds.{same_kind}
use Rattle.link_frames.specs.declared.frames.kind.Kind.{Kind}
use Rattle.link_frames.specs.declared.frames.kind.Kind.TheVariants.{Send, Echo, Ready}
use Rattle.bracha_instance.specs.declared.instance.Effect.TheVariants.{Idle, Counted}
use Rattle.bracha_instance.specs.Broadcast.{Take, command_of, is_of_kind, is_vote_of, vote, echoed}
use Rattle.bracha_instance.specs.States.{State, state}
use Rattle.bracha_instance.specs.Taking.{SendsAreFrom, effect_of, newly, sent_for}
use Rattle.bracha_instance.specs.Taking.{newly_sent, newly_delivered, has_voted}
use Rattle.bracha_instance.specs.inside.Next.{after_kind, after}
use Rattle.bracha_instance.proofs.Same.{same_kind-true}
use Rattle.bracha_instance.proofs.Voting.{contains-voters}
use Rattle.bracha_instance.proofs.StateOf.{state_push}

-- The answers of `take`.

after-voted : (s : Counts) (st : State) (t : Take) → has_voted st t.kind t.from ≡ true → after s st t ≡ st
unfolding after
after-voted s st t is = ap (λ b. cond b st (after_kind s st t.kind t.from t.command)) is

after-first : (s : Counts) (st : State) (t : Take) → has_voted st t.kind t.from ≡ false
    → after s st t ≡ after_kind s st t.kind t.from t.command
unfolding after
after-first s st t is = ap (λ b. cond b st (after_kind s st t.kind t.from t.command)) is

pub idle_state : (s : Counts) (ts : List Take) (t : Take) (st : State) → has_voted st t.kind t.from ≡ true
    → st ≡ state s ts
    → st ≡ state s (ts ++ t ∷ [])
idle_state s ts t st voted is = sym (state_push s ts t ∙ ap (λ x. after s x t) (sym is) ∙ after-voted s st t voted)

pub counted_state : (s : Counts) (ts : List Take) (t : Take) (st now : State) → has_voted st t.kind t.from ≡ false
    → now ≡ after_kind s st t.kind t.from t.command →
    st ≡ state s ts → now ≡ state s (ts ++ t ∷ [])
counted_state s ts t st now first step is =
    step ∙ sym (state_push s ts t ∙ ap (λ x. after s x t) (sym is) ∙ after-first s st t first)

-- what is new is there now, and nothing is where something was before, or where nothing changed
pub newly_now : (before now : Option Command) (c : Command) → newly before now ≡ Some c → now ≡ Some c
newly_now None now c e = e
newly_now (Some d) now c e = absurd cc

pub newly_again : (before now : Option Command) (c : Command) → before ≡ Some c → newly before now ≡ None
newly_again before now c e = ap (λ o. newly o now) e

pub newly_same : (before now : Option Command) → now ≡ before → newly before now ≡ None
newly_same None now e = e
newly_same (Some c) now e = refl

pub sent_of : (s : Counts) (ts us : List Take) (st now : State) → st ≡ state s ts → now ≡ state s us →
    sent_for (newly st.echoed now.echoed) (newly st.readied now.readied) ≡ newly_sent s ts us
unfolding state
sent_of s ts us st now is is_now = λ i.
    sent_for (newly ((is i).echoed) ((is_now i).echoed)) (newly ((is i).readied) ((is_now i).readied))

pub delivered_of : (s : Counts) (ts us : List Take) (st now : State) → st ≡ state s ts → now ≡ state s us →
    newly st.delivered now.delivered ≡ newly_delivered s ts us
unfolding state
delivered_of s ts us st now is is_now = λ i. newly ((is i).delivered) ((is_now i).delivered)

pub nothing_sent : (s : Counts) (ts us : List Take) (st : State) → st ≡ state s ts → st ≡ state s us
    → None ≡ newly_sent s ts us
nothing_sent s ts us st is is_now =
    (λ i. sent_for (sym (newly_same st.echoed _ refl) i) (sym (newly_same st.readied _ refl) i))
    ∙ sent_of s ts us st st is is_now

pub nothing_delivered : (s : Counts) (ts us : List Take) (st : State) → st ≡ state s ts → st ≡ state s us
    → None ≡ newly_delivered s ts us
nothing_delivered s ts us st is is_now = sym (newly_same st.delivered _ refl) ∙ delivered_of s ts us st st is is_now

front : (P : Take → Type 0) (ts : List Take) (t : Take) → All P (ts ++ t ∷ []) → All P ts
front P [] t all k d within = absurd (not-suc-le-zero within)
front P (x ∷ ts) t all zero d within = all zero d (suc-le-suc zero-le)
front P (x ∷ ts) t all (suc k) d within =
    front P ts t (λ j e inside. all (suc j) e (suc-le-suc inside)) k d (le_of_suc-le-suc within)

last : (P : Take → Type 0) (ts : List Take) (t : Take) → All P (ts ++ t ∷ []) → P t
last P [] t all = all zero t (suc-le-suc zero-le)
last P (x ∷ ts) t all = last P ts t (λ j e inside. all (suc j) e (suc-le-suc inside))

same_test : (a b : Bool) (t : Take) (rest : Option Take) → (a ≡ true → b ≡ true)
    → cond (a && b) (Some t) rest ≡ cond a (Some t) rest
same_test true b t rest implies = ap (λ x. cond x (Some t) rest) (implies refl)
same_test false b t rest implies = refl

-- where all SENDs are the owner's, the owner's first is the first
owner_first : (owner : ℕ) (ts : List Take) → SendsAreFrom owner ts
    → find (is_vote_of Send owner) ts ≡ find (is_of_kind Send) ts
owner_first owner [] all = refl
owner_first owner (t ∷ ts) all =
    ap (cond (is_vote_of Send owner t) (Some t))
    (owner_first owner ts (λ k d within. all (suc k) d (suc-le-suc within)))
    ∙ same_test (same_kind Send t.kind) (owner == t.from) t (find (is_of_kind Send) ts)
    (λ is. eq-eqb owner t.from (sym (all zero t (suc-le-suc zero-le) (sym (same_kind-true Send t.kind is)))))

vote_is : (s : Counts) (ts : List Take) (owner : ℕ) (kind : Kind) (p : ℕ) (c : Command)
    → SendsAreFrom owner (ts ++ (record { kind = kind; from = p; command = c }) ∷ []) →
    has_voted (state s ts) kind p ≡ is_some (vote kind p ts)
unfolding state vote echoed
vote_is s ts owner Send p c all =
    sym (ap (λ n. is_some (option_map command_of (find (is_vote_of Send n) ts))) (last (λ (t : Take). t.kind ≡ Send
    → t.from ≡ owner) ts _ all refl)
    ∙ ap (λ o. is_some (option_map command_of o))
    (owner_first owner ts (front (λ (t : Take). t.kind ≡ Send → t.from ≡ owner) ts _ all)))
vote_is s ts owner Echo p c all = contains-voters Echo ts p
vote_is s ts owner Ready p c all = contains-voters Ready ts p

pub effect_at : (s : Counts) (ts : List Take) (t : Take) (owner : ℕ) (st : State) (b : Bool)
    → has_voted st t.kind t.from ≡ b
    → st ≡ state s ts →
    SendsAreFrom owner (ts ++ t ∷ []) → cond b Idle Counted ≡ effect_of ts t
effect_at s ts t owner st b is is_state all =
    ap (λ x. cond x Idle Counted) (sym is ∙ ap (λ x. has_voted x t.kind t.from) is_state
    ∙ vote_is s ts owner t.kind t.from t.command all)

-- what the state says of a vote is what the messages say
pub voted_at : (s : Counts) (ts : List Take) (owner : ℕ) (kind : Kind) (p : ℕ) (c : Command) (st : State) (b : Bool)
    → b ≡ has_voted st kind p → st ≡ state s ts →
    SendsAreFrom owner (ts ++ (record { kind = kind; from = p; command = c }) ∷ []) → b ≡ is_some (vote kind p ts)
voted_at s ts owner kind p c st b is is_state all =
    is ∙ ap (λ x. has_voted x kind p) is_state ∙ vote_is s ts owner kind p c all
