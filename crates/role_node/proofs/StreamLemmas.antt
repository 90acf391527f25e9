-- How the streams grow when one more packet is taken, and the policy with them.
use Rattle.std.proofs.Common.{◌≡◌, ℕ, zero, suc, ◌+◌, ◌≤◌, Bool, true, false, ◌&&◌, ◌==◌, List, []}
use Rattle.std.proofs.Common.{◌∷◌, ◌++◌, length, take, Some, None, refl, sym, ap, ◌∙◌, subst, arith}
use Rattle.std.specs.Prelude.{if◌then◌else◌, slice_get}
use Rattle.std.proofs.Math.Seq.{take-append_seam}
use Rattle.std.proofs.lemmas.List.{take_all}
use Rattle.std.proofs.lemmas.Bool.Decides.{nat_tests}
use Rattle.std.proofs.lemmas.Map.Views.{exact_unsigned_eq}
use Rattle.quorum_sizes.specs.Sizes.{Counts}
use Rattle.role_commands.specs.declared.command.Command.{Command}
use Rattle.link_frames.specs.frames.Packets.{PacketValue}
use Rattle.bracha_instance.specs.Broadcast.{delivered}
use Rattle.owner_streams.specs.Places.{stream, reach, places_end, answers_from}
use Rattle.owner_streams.proofs.Exported.{takes_at-other, stream_is_exact_lem, stream_is_one_lem, stream_grows_lem}
use Rattle.rbac_state.specs.Assignments.{with_command}
use Rattle.rbac_state.specs.Policies.{PolicyValue, IsApplied, IsPolicyOf}
use Rattle.rbac_state.proofs.Exported.{applied_is_of_one_more}
use Rattle.role_node.specs.inside.Kept.{obeyed}

not_both : (b c : Bool) → b ≡ false → (b && c) ≡ false
not_both b c e = ap (λ x. x && c) e

pub stream_of_nothing : (s : Counts) (owner : ℕ) → stream s owner [] ≡ []
unfolding stream places_end answers_from
stream_of_nothing s owner = refl

-- another owner's stream stays
pub stream_other : (s : Counts) (owner : ℕ) (taken : List PacketValue) (p : PacketValue) → (p.owner == owner) ≡ false →
    stream s owner (taken ++ p ∷ []) ≡ stream s owner taken
stream_other s owner taken p e =
    sym (stream_is_one_lem s owner (taken ++ p ∷ []) (stream s owner taken)
    (λ place h.
    ap (delivered s) (takes_at-other owner place taken p (not_both (p.owner == owner) (p.place == place) e))
    ∙ stream_is_exact_lem s owner taken place h))

-- the first commands of a longer stream are those of the shorter
take_shorter : {A : Type 0} (xs ys rest : List A) → xs ++ rest ≡ ys → take (length xs) ys ≡ xs
take_shorter xs ys rest e = ap (take (length xs)) (sym e) ∙ take-append_seam xs rest

take_one_more : {A : Type 0} (xs : List A) (n : ℕ) (x : A) → slice_get xs n ≡ Some x
    → take (n + 1) xs ≡ take n xs ++ x ∷ []
take_one_more [] n x e = absurd cc
take_one_more (y ∷ xs) zero x e = let same : y ≡ x = cc in ap (λ z. z ∷ []) same
take_one_more (y ∷ xs) (suc n) x e =
    let next : suc n + 1 ≡ suc (n + 1) = omega arith in
    ap (λ m. take m (y ∷ xs)) next ∙ ap (λ zs. y ∷ zs) (take_one_more xs n x e)

take_nothing : {A : Type 0} (n : ℕ) → ◌≡◌ {A = List A} (take n []) []
take_nothing {A} n = take_all {A = A} n [] (omega arith)

take_no_more : {A : Type 0} (xs : List A) (n : ℕ) → slice_get xs n ≡ None → take (n + 1) xs ≡ take n xs
take_no_more [] n e = take_nothing (n + 1) ∙ sym (take_nothing n)
take_no_more (y ∷ xs) zero e = absurd cc
take_no_more (y ∷ xs) (suc n) e =
    let next : suc n + 1 ≡ suc (n + 1) = omega arith in
    ap (λ m. take m (y ∷ xs)) next ∙ ap (λ zs. y ∷ zs) (take_no_more xs n e)

turned : (a b : ℕ) (t : Bool) → (a == b) ≡ t → (b == a) ≡ t
turned a b true e = grind (arith, nat_tests)
turned a b false e = grind (arith, nat_tests)

none_by : (s : Counts) (taken : List PacketValue) (p : PacketValue) (node : ℕ) (b : Bool) → (node == p.owner) ≡ b →
    (if b then take (reach s p.owner taken) (stream s p.owner (taken ++ p ∷ [])) else stream s node (taken ++ p ∷ []))
    ≡ stream s node taken
none_by s taken p node true e =
    let longer = stream_grows_lem s p.owner taken (p ∷ []) in
    take_shorter (stream s p.owner taken) (stream s p.owner (taken ++ p ∷ [])) longer.0 longer.1
    ∙ ap (λ n. stream s n taken) (sym (exact_unsigned_eq node p.owner e))
none_by s taken p node false e = stream_other s node taken p (turned node p.owner false e)

-- before any of its owner's new commands is obeyed, the streams are as before the packet
pub obeyed_none : (s : Counts) (taken : List PacketValue) (p : PacketValue) (node : ℕ) →
    obeyed s (taken ++ p ∷ []) p.owner (reach s p.owner taken) node ≡ stream s node taken
obeyed_none s taken p node = none_by s taken p node (node == p.owner) refl

all_by : (s : Counts) (taken : List PacketValue) (owner count node : ℕ) (b : Bool) → reach s owner taken ≤ count
    → (node == owner) ≡ b →
    (if b then take count (stream s owner taken) else stream s node taken) ≡ stream s node taken
all_by s taken owner count node true h e =
    take_all count (stream s owner taken) h ∙ ap (λ n. stream s n taken) (sym (exact_unsigned_eq node owner e))
all_by s taken owner count node false h e = refl

-- after all are, the streams are those of all packets
pub obeyed_all : (s : Counts) (taken : List PacketValue) (owner count : ℕ) → reach s owner taken ≤ count → (node : ℕ) →
    obeyed s taken owner count node ≡ stream s node taken
obeyed_all s taken owner count h node = all_by s taken owner count node (node == owner) h refl

more_by : (s : Counts) (taken : List PacketValue) (owner count : ℕ) (c : Command) (node : ℕ) (b : Bool)
    → slice_get (stream s owner taken) count ≡ Some c →
    (if b then (if b then take count (stream s owner taken) else stream s node taken) ++ c ∷ []
    else (if b then take count (stream s owner taken) else stream s node taken))
    ≡ (if b then take (count + 1) (stream s owner taken) else stream s node taken)
more_by s taken owner count c node true e = sym (take_one_more (stream s owner taken) count c e)
more_by s taken owner count c node false e = refl

-- one more command of the stream is obeyed
pub obeyed_more : (s : Counts) (taken : List PacketValue) (owner count : ℕ) (c : Command)
    → slice_get (stream s owner taken) count ≡ Some c → (node : ℕ) →
    with_command (obeyed s taken owner count) owner c node ≡ obeyed s taken owner (count + 1) node
obeyed_more s taken owner count c e node = more_by s taken owner count c node (node == owner) e

past_by : (s : Counts) (taken : List PacketValue) (owner count node : ℕ) (b : Bool)
    → slice_get (stream s owner taken) count ≡ None →
    (if b then take count (stream s owner taken) else stream s node taken)
    ≡ (if b then take (count + 1) (stream s owner taken) else stream s node taken)
past_by s taken owner count node true e = sym (take_no_more (stream s owner taken) count e)
past_by s taken owner count node false e = refl

-- there is none past the end
pub obeyed_past : (s : Counts) (taken : List PacketValue) (owner count : ℕ)
    → slice_get (stream s owner taken) count ≡ None
    → (node : ℕ) →
    obeyed s taken owner count node ≡ obeyed s taken owner (count + 1) node
obeyed_past s taken owner count e node = past_by s taken owner count node (node == owner) e

-- a policy of these streams is one of the same streams
pub policy_same : (f g : ℕ → List Command) (p : PolicyValue) → ((node : ℕ) → f node ≡ g node) → IsPolicyOf f p
    → IsPolicyOf g p
policy_same f g p same is =
    let e : f ≡ g = λ i node. same node i in
    let P : (ℕ → List Command) → Type 0 = λ streams. IsPolicyOf streams p in
    subst P e is

-- a stream that reaches no further stays
pub stream_same : (s : Counts) (taken : List PacketValue) (p : PacketValue)
    → reach s p.owner (taken ++ p ∷ []) ≤ reach s p.owner taken → (node : ℕ) →
    stream s node taken ≡ stream s node (taken ++ p ∷ [])
stream_same s taken p h node =
    sym (obeyed_none s taken p node) ∙ obeyed_all s (taken ++ p ∷ []) p.owner (reach s p.owner taken) h node

-- the next command of the owner's stream is obeyed ..
pub policy_more : (s : Counts) (taken : List PacketValue) (owner place : ℕ) {command : Command} {old new : PolicyValue}
    →
    Some command ≡ slice_get (stream s owner taken) place → IsApplied owner command old new →
    IsPolicyOf (obeyed s taken owner place) old → IsPolicyOf (obeyed s taken owner (place + 1)) new
policy_more s taken owner place {command = command} {old = old} {new = new} e applied was =
    policy_same (with_command (obeyed s taken owner place) owner command) (obeyed s taken owner (place + 1)) new
    (obeyed_more s taken owner place command (sym e))
    (applied_is_of_one_more (obeyed s taken owner place) owner command old new was applied)

-- .. or there is none
pub policy_past : (s : Counts) (taken : List PacketValue) (owner place : ℕ) {p : PolicyValue}
    → None ≡ slice_get (stream s owner taken) place →
    IsPolicyOf (obeyed s taken owner place) p → IsPolicyOf (obeyed s taken owner (place + 1)) p
policy_past s taken owner place {p = p} e was =
    policy_same (obeyed s taken owner place) (obeyed s taken owner (place + 1)) p
    (obeyed_past s taken owner place (sym e)) was
