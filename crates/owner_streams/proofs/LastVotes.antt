-- How far a node has voted in an owner's stream, as packets come, and by the states of the stream's instances.
use Rattle.std.proofs.Common.{◌≡◌, ◌≢◌, ℕ, zero, suc, ◌<◌, ◌≤◌, ⊎_elim, inl, inr, le_refl, true, false}
use Rattle.std.proofs.Common.{cond, List, [], ◌∷◌, ◌++◌, length, Option, Some, None, refl, sym, ap, ◌∙◌}
use Rattle.std.proofs.Common.{arith, find, option_map}
use Rattle.std.specs.Prelude.{◌==◌, ◌&&◌, ◌⊎◌, not, max, is_some, slice_index_or, Contains}
use Rattle.std.specs.FinSet as sets
use Rattle.std.specs.List.{cons_option}
use Rattle.std.specs.Option.{option_map_or}
use Rattle.std.proofs.lemmas.Bool.{cases_lt, cases_Bool, and_parts, and_from, both_ways, not-true, not_from_false}
use Rattle.std.proofs.lemmas.Bool.{eqb-true, eq-eqb}
use Rattle.std.proofs.lemmas.List.Elements.{filter_map-append}
use Rattle.std.proofs.lemmas.Option.{same_Some, cond_some}
use Rattle.quorum_sizes.specs.Sizes.{Counts}
use Rattle.link_frames.specs.frames.Kinds.{same_kind}
use Rattle.link_frames.specs.frames.Packets.{PacketValue}
use Rattle.link_frames.specs.declared.frames.kind.Kind.{Kind}
use Rattle.link_frames.specs.declared.frames.kind.Kind.TheVariants.{Send, Echo, Ready}
use Rattle.bracha_instance.proofs.Exported.{contains-voters, state-echoers, state-readiers}
use Rattle.bracha_instance.proofs.Exported.{same_kind-true, same_kind-refl}
use Rattle.bracha_instance.specs.Broadcast.{Take, command_of, is_vote_of, vote}
use Rattle.bracha_instance.specs.States.{state}
use Rattle.bracha_instance.specs.Taking.{has_voted}
use Rattle.owner_streams.specs.LastVotes.{vote_place, greatest, last_vote}
use Rattle.owner_streams.specs.Places.{take_of, take_at, takes_at}

-- Votes.

-- the packet is a vote, an ECHO or a READY, of this node at this place of the owner's stream
pub record IsVoteAt (owner voter place : ℕ) (p : PacketValue) : Type 0 where
  pub of_owner : p.owner ≡ owner
  pub from_voter : p.from ≡ voter
  pub no_send : p.kind ≢ Send
  pub at_place : p.place ≡ place

other_kind : (kind : Kind) → kind ≢ Send → same_kind Send kind ≡ false
other_kind Send h = absurd (h refl)
other_kind Echo h = refl
other_kind Ready h = refl

pub is_vote : (owner voter place : ℕ) (p : PacketValue) → vote_place owner voter p ≡ Some place
    → IsVoteAt owner voter place p
is_vote owner voter place p e =
    let all = cond_some _ p.place place e in
    let parts = and_parts _ _ all.0 in
    let names = and_parts _ _ parts.0 in
    record {
      of_owner = eqb-true p.owner owner names.0;
      from_voter = eqb-true p.from voter names.1;
      no_send = λ send. both_ways (same_kind Send p.kind) (not-true _ parts.1) (ap (same_kind Send) send);
      at_place = all.1;
    }

pub vote_is : (owner voter place : ℕ) (p : PacketValue) → IsVoteAt owner voter place p
    → vote_place owner voter p ≡ Some place
vote_is owner voter place p v =
    let test : ((p.owner == owner) && (p.from == voter)) && not (same_kind Send p.kind) ≡ true =
    and_from _ _ (and_from _ _ (eq-eqb p.owner owner v.of_owner) (eq-eqb p.from voter v.from_voter))
    (not_from_false _ (other_kind p.kind v.no_send)) in
    ap (λ b. cond b (Some p.place) None) test ∙ ap Some v.at_place

-- One more packet.

-- of two places that there may be, the greater
abbrev pub further : Option ℕ → Option ℕ → Option ℕ
further None b = b
further (Some x) b = Some (option_map_or (max x) b x)

further-none : (a : Option ℕ) → further a None ≡ a
further-none None = refl
further-none (Some x) = refl

further-assoc : (a b c : Option ℕ) → further (further a b) c ≡ further a (further b c)
further-assoc None b c = refl
further-assoc (Some x) None c = refl
further-assoc (Some x) (Some y) None = refl
further-assoc (Some x) (Some y) (Some z) = let e : max (max x y) z ≡ max x (max y z) = omega arith in ap Some e

greatest-append : (xs ys : List ℕ) → greatest (xs ++ ys) ≡ further (greatest xs) (greatest ys)
unfolding greatest
greatest-append [] ys = refl
greatest-append (x ∷ xs) ys =
    ap (further (Some x)) (greatest-append xs ys) ∙ sym (further-assoc (Some x) (greatest xs) (greatest ys))

greatest-one : (o : Option ℕ) → greatest (cons_option o []) ≡ o
unfolding greatest
greatest-one None = refl
greatest-one (Some x) = refl

pub last_vote-none : (owner voter : ℕ) → last_vote owner voter [] ≡ None
unfolding last_vote greatest
last_vote-none owner voter = refl

pub last_vote-append : (owner voter : ℕ) (xs ys : List PacketValue)
    → last_vote owner voter (xs ++ ys) ≡ further (last_vote owner voter xs) (last_vote owner voter ys)
unfolding last_vote
last_vote-append owner voter xs ys =
    ap greatest (filter_map-append (vote_place owner voter) xs ys) ∙ greatest-append _ _

last_vote-one : (owner voter : ℕ) (p : PacketValue) → last_vote owner voter (p ∷ []) ≡ vote_place owner voter p
unfolding last_vote
last_vote-one owner voter p = greatest-one (vote_place owner voter p)

-- one more packet is a vote further on, or leaves the last vote as it was
pub last_vote-push : (owner voter : ℕ) (packets : List PacketValue) (p : PacketValue)
    → last_vote owner voter (packets ++ p ∷ []) ≡ further (last_vote owner voter packets) (vote_place owner voter p)
last_vote-push owner voter packets p =
    last_vote-append owner voter packets (p ∷ [])
    ∙ ap (further (last_vote owner voter packets)) (last_vote-one owner voter p)

last_vote-cons : (owner voter : ℕ) (p : PacketValue) (packets : List PacketValue)
    → last_vote owner voter (p ∷ packets) ≡ further (vote_place owner voter p) (last_vote owner voter packets)
last_vote-cons owner voter p packets =
    last_vote-append owner voter (p ∷ []) packets
    ∙ ap (λ o. further o (last_vote owner voter packets)) (last_vote-one owner voter p)

-- a packet that is no vote of the node in that stream changes nothing
pub last_vote-other : (owner voter : ℕ) (packets : List PacketValue) (p : PacketValue)
    → vote_place owner voter p ≡ None → last_vote owner voter (packets ++ p ∷ []) ≡ last_vote owner voter packets
last_vote-other owner voter packets p e =
    last_vote-push owner voter packets p ∙ ap (further (last_vote owner voter packets)) e
    ∙ further-none (last_vote owner voter packets)

-- The packets of which it is the last vote.

one_of : (a b : Option ℕ) (m : ℕ) → further a b ≡ Some m → (a ≡ Some m) ⊎ (b ≡ Some m)
one_of None b m e = inr e
one_of (Some x) None m e = inl e
one_of (Some x) (Some y) m e =
    let is : max x y ≡ m = same_Some (max x y) m e in
    ⊎_elim (λ (less : x < y). let last : y ≡ m = omega arith in inr (ap Some last))
    (λ (more : y ≤ x). let first : x ≡ m = omega arith in inl (ap Some first))
    (cases_lt x y)

left_within : (x : ℕ) (b : Option ℕ) → (m : ℕ) × (further (Some x) b ≡ Some m) × (x ≤ m)
left_within x None = (x, refl, le_refl x)
left_within x (Some y) = (max x y, refl, omega arith)

right_within : (a : Option ℕ) (y : ℕ) → (m : ℕ) × (further a (Some y) ≡ Some m) × (y ≤ m)
right_within None y = (y, refl, le_refl y)
right_within (Some x) y = (max x y, refl, omega arith)

at_number : {A : Type 0} (x : A) (xs : List A) (y : A) (k : ℕ) → k < length (x ∷ xs)
    → slice_index_or (x ∷ xs) k y ≡ y → (x ≡ y) ⊎ Contains xs y
at_number x xs y zero h e = inl e
at_number x xs y (suc k) h e = inr (k, omega arith, e)

first_or_later : {A : Type 0} (x : A) (xs : List A) (y : A) → Contains (x ∷ xs) y → (x ≡ y) ⊎ Contains xs y
first_or_later x xs y c = at_number x xs y c.0 c.1 c.2

later_on : {A : Type 0} (x : A) (xs : List A) (y : A) → Contains xs y → Contains (x ∷ xs) y
later_on x xs y c = (suc c.0, omega arith, c.2)

in_front : {A : Type 0} (x : A) (xs : List A) → Contains (x ∷ xs) x
in_front x xs = (0, omega arith, refl)

-- a packet stands at the last vote
pub last_vote-stands : (owner voter : ℕ) (packets : List PacketValue) (m : ℕ) → last_vote owner voter packets ≡ Some m
    → (p : PacketValue) × Contains packets p × (vote_place owner voter p ≡ Some m)
last_vote-stands owner voter [] m e = absurd (let none = last_vote-none owner voter in cc)
last_vote-stands owner voter (q ∷ packets) m e =
    ⊎_elim (λ (here : vote_place owner voter q ≡ Some m). (q, in_front q packets, here))
    (λ (later : last_vote owner voter packets ≡ Some m).
    let known = last_vote-stands owner voter packets m later in
    (known.0, later_on q packets known.0 known.1, known.2))
    (one_of (vote_place owner voter q) (last_vote owner voter packets) m
    (sym (last_vote-cons owner voter q packets) ∙ e))

-- and no vote is further on
pub last_vote-most : (owner voter : ℕ) (packets : List PacketValue) (p : PacketValue) (place : ℕ)
    → Contains packets p → vote_place owner voter p ≡ Some place
    → (m : ℕ) × (last_vote owner voter packets ≡ Some m) × (place ≤ m)
last_vote-most owner voter [] p place c e = absurd (omega (arith, c.1))
last_vote-most owner voter (q ∷ packets) p place c e =
    ⊎_elim
    (λ (here : q ≡ p).
    let found = left_within place (last_vote owner voter packets) in (
      found.0,
      last_vote-cons owner voter q packets
          ∙ ap (λ o. further o (last_vote owner voter packets)) (ap (vote_place owner voter) here ∙ e) ∙ found.1,
      found.2,
    ))
    (λ (there : Contains packets p).
    let known = last_vote-most owner voter packets p place there e in
    let found = right_within (vote_place owner voter q) known.0 in (
      found.0,
      last_vote-cons owner voter q packets ∙ ap (further (vote_place owner voter q)) known.1 ∙ found.1,
      let most = known.2 in let more = found.2 in omega arith,
    ))
    (first_or_later q packets p c)

no_place : (o : Option ℕ) → ((place : ℕ) → o ≡ Some place → ⊥) → o ≡ None
no_place None h = refl
no_place (Some place) h = absurd (h place refl)

pub no_vote : (owner voter : ℕ) (p : PacketValue) → ((place : ℕ) → IsVoteAt owner voter place p → ⊥)
    → vote_place owner voter p ≡ None
no_vote owner voter p h = no_place (vote_place owner voter p) (λ place e. h place (is_vote owner voter place p e))

-- The last vote by the votes at each place.

-- where these packets have a vote the others have one
abbrev HasItsVotes : ℕ → ℕ → List PacketValue → List PacketValue → Type 0
HasItsVotes owner voter xs ys = (p : PacketValue) (place : ℕ) → Contains xs p → vote_place owner voter p ≡ Some place
    → (q : PacketValue) × Contains ys q × (vote_place owner voter q ≡ Some place)

no_less : (owner voter : ℕ) (xs ys : List PacketValue) (m : ℕ) → HasItsVotes owner voter xs ys
    → last_vote owner voter xs ≡ Some m → (n : ℕ) × (last_vote owner voter ys ≡ Some n) × (m ≤ n)
no_less owner voter xs ys m has e =
    let one = last_vote-stands owner voter xs m e in
    let other = has one.0 m one.1 one.2 in
    last_vote-most owner voter ys other.0 m other.1 other.2

one_place : (a b : Option ℕ) → ((m : ℕ) → a ≡ Some m → (n : ℕ) × (b ≡ Some n) × (m ≤ n))
    → ((n : ℕ) → b ≡ Some n → (m : ℕ) × (a ≡ Some m) × (n ≤ m)) → a ≡ b
one_place None None up down = refl
one_place None (Some n) up down = let known = down n refl in let clash = known.1 in absurd cc
one_place (Some m) None up down = let known = up m refl in let clash = known.1 in absurd cc
one_place (Some m) (Some n) up down =
    let more = up m refl in
    let less = down n refl in
    let is : n ≡ more.0 = same_Some n more.0 more.1 in
    let was : m ≡ less.0 = same_Some m less.0 less.1 in
    let above = more.2 in
    let below = less.2 in
    let same : m ≡ n = omega arith in
    ap Some same

alike : (owner voter : ℕ) (xs ys : List PacketValue) → HasItsVotes owner voter xs ys → HasItsVotes owner voter ys xs
    → last_vote owner voter xs ≡ last_vote owner voter ys
alike owner voter xs ys forth back =
    one_place (last_vote owner voter xs) (last_vote owner voter ys) (λ m. no_less owner voter xs ys m forth)
    (λ n. no_less owner voter ys xs n back)

-- The votes at a place, by its messages.

vote-first : (kind : Kind) (name : ℕ) (t : Take) (ts : List Take) → is_vote_of kind name t ≡ true
    → is_some (vote kind name (t ∷ ts)) ≡ true
unfolding vote
vote-first kind name t ts is =
    ap (λ b. is_some (option_map command_of (cond b (Some t) (find (is_vote_of kind name) ts)))) is

vote-later : (kind : Kind) (name : ℕ) (t : Take) (ts : List Take) → is_vote_of kind name t ≡ false
    → is_some (vote kind name (t ∷ ts)) ≡ is_some (vote kind name ts)
unfolding vote
vote-later kind name t ts other =
    ap (λ b. is_some (option_map command_of (cond b (Some t) (find (is_vote_of kind name) ts)))) other

vote_stays : (kind : Kind) (name : ℕ) (o : Option Take) (ts : List Take) → is_some (vote kind name ts) ≡ true
    → is_some (vote kind name (cons_option o ts)) ≡ true
vote_stays kind name None ts e = e
vote_stays kind name (Some t) ts e =
    ⊎_elim (λ (is : is_vote_of kind name t ≡ true). vote-first kind name t ts is)
    (λ (other : is_vote_of kind name t ≡ false). vote-later kind name t ts other ∙ e)
    (cases_Bool (is_vote_of kind name t))

vote_was : (kind : Kind) (name : ℕ) (o : Option Take) (ts : List Take)
    → is_some (vote kind name (cons_option o ts)) ≡ true
    → ((t : Take) × (o ≡ Some t) × (is_vote_of kind name t ≡ true)) ⊎ (is_some (vote kind name ts) ≡ true)
vote_was kind name None ts e = inr e
vote_was kind name (Some t) ts e =
    ⊎_elim (λ (is : is_vote_of kind name t ≡ true). inl (t, refl, is))
    (λ (other : is_vote_of kind name t ≡ false). inr (sym (vote-later kind name t ts other) ∙ e))
    (cases_Bool (is_vote_of kind name t))

takes_at-cons : (owner place : ℕ) (p : PacketValue) (packets : List PacketValue)
    → takes_at owner place (p ∷ packets) ≡ cons_option (take_at owner place p) (takes_at owner place packets)
unfolding takes_at
takes_at-cons owner place p packets = refl

takes_at-none : (owner place : ℕ) → takes_at owner place [] ≡ []
unfolding takes_at
takes_at-none owner place = refl

vote-none : (kind : Kind) (name : ℕ) → is_some (vote kind name []) ≡ false
unfolding vote
vote-none kind name = refl

voted_by : (kind : Kind) (owner voter place : ℕ) (p : PacketValue) (t : Take) → kind ≢ Send
    → take_at owner place p ≡ Some t → is_vote_of kind voter t ≡ true → IsVoteAt owner voter place p
voted_by kind owner voter place p t votes e is =
    let at = cond_some _ (take_of p) t e in
    let spot = and_parts _ _ at.0 in
    let parts = and_parts _ _ is in
    let same : kind ≡ p.kind = same_kind-true kind t.kind parts.0 ∙ ap (λ u. u.kind) (sym at.1) in
    record {
      of_owner = eqb-true p.owner owner spot.0;
      from_voter = ap (λ u. u.from) at.1 ∙ sym (eqb-true voter t.from parts.1);
      no_send = λ send. votes (same ∙ send);
      at_place = eqb-true p.place place spot.1;
    }

-- a vote among the messages at a place is one of the packets
pub voted_at_place : (kind : Kind) (owner voter place : ℕ) (packets : List PacketValue) → kind ≢ Send
    → is_some (vote kind voter (takes_at owner place packets)) ≡ true
    → (p : PacketValue) × Contains packets p × (vote_place owner voter p ≡ Some place)
voted_at_place kind owner voter place [] votes e =
    absurd (both_ways _ (vote-none kind voter)
    (ap (λ ts. is_some (vote kind voter ts)) (sym (takes_at-none owner place)) ∙ e))
voted_at_place kind owner voter place (q ∷ packets) votes e =
    ⊎_elim
    (λ (here : (t : Take) × (take_at owner place q ≡ Some t) × (is_vote_of kind voter t ≡ true)). (
      q,
      in_front q packets,
      vote_is owner voter place q (voted_by kind owner voter place q here.0 votes here.1 here.2),
    ))
    (λ (later : is_some (vote kind voter (takes_at owner place packets)) ≡ true).
    let known = voted_at_place kind owner voter place packets votes later in
    (known.0, later_on q packets known.0 known.1, known.2))
    (vote_was kind voter (take_at owner place q) (takes_at owner place packets)
    (ap (λ ts. is_some (vote kind voter ts)) (sym (takes_at-cons owner place q packets)) ∙ e))

own_vote : (owner voter place : ℕ) (p : PacketValue) (ts : List Take) → IsVoteAt owner voter place p
    → is_some (vote p.kind voter (cons_option (take_at owner place p) ts)) ≡ true
own_vote owner voter place p ts v =
    let at : take_at owner place p ≡ Some (take_of p) =
    ap (λ b. cond b (Some (take_of p)) None)
    (and_from _ _ (eq-eqb p.owner owner v.of_owner) (eq-eqb p.place place v.at_place)) in
    ap (λ o. is_some (vote p.kind voter (cons_option o ts))) at
    ∙ vote-first p.kind voter (take_of p) ts
    (and_from _ _ (same_kind-refl p.kind) (eq-eqb voter p.from (sym v.from_voter)))

-- a vote among the packets is one among the messages at its place
pub place_voted : (owner voter place : ℕ) (packets : List PacketValue) (p : PacketValue) → Contains packets p
    → IsVoteAt owner voter place p → is_some (vote p.kind voter (takes_at owner place packets)) ≡ true
place_voted owner voter place [] p c v = absurd (omega (arith, c.1))
place_voted owner voter place (q ∷ packets) p c v =
    let rest = takes_at owner place packets in
    ap (λ ts. is_some (vote p.kind voter ts)) (takes_at-cons owner place q packets)
    ∙ ⊎_elim
    (λ (here : q ≡ p).
    ap (λ x. is_some (vote p.kind voter (cons_option (take_at owner place x) rest))) here
    ∙ own_vote owner voter place p rest v)
    (λ (there : Contains packets p).
    vote_stays p.kind voter (take_at owner place q) rest (place_voted owner voter place packets p there v))
    (first_or_later q packets p c)

-- a state says which nodes have voted
voter_in : (s : Counts) (takes : List Take) (kind : Kind) (name : ℕ) → kind ≢ Send
    → has_voted (state s takes) kind name ≡ is_some (vote kind name takes)
voter_in s takes Send name votes = absurd (votes refl)
voter_in s takes Echo name votes =
    ap (λ names. sets.contains names name) (state-echoers s takes) ∙ contains-voters Echo takes name
voter_in s takes Ready name votes =
    ap (λ names. sets.contains names name) (state-readiers s takes) ∙ contains-voters Ready takes name

by_states : (s : Counts) (owner voter : ℕ) (xs ys : List PacketValue)
    → ((place : ℕ) → state s (takes_at owner place xs) ≡ state s (takes_at owner place ys))
    → HasItsVotes owner voter xs ys
by_states s owner voter xs ys same p place c e =
    let v = is_vote owner voter place p e in
    voted_at_place p.kind owner voter place ys v.no_send
    (sym (voter_in s (takes_at owner place ys) p.kind voter v.no_send)
    ∙ ap (λ st. has_voted st p.kind voter) (sym (same place))
    ∙ voter_in s (takes_at owner place xs) p.kind voter v.no_send
    ∙ place_voted owner voter place xs p c v)

-- the states of an owner's instances say how far each node has voted
pub last_vote-alike : (s : Counts) (owner voter : ℕ) (xs ys : List PacketValue)
    → ((place : ℕ) → state s (takes_at owner place xs) ≡ state s (takes_at owner place ys))
    → last_vote owner voter xs ≡ last_vote owner voter ys
last_vote-alike s owner voter xs ys same =
    alike owner voter xs ys (by_states s owner voter xs ys same)
    (by_states s owner voter ys xs (λ place. sym (same place)))
