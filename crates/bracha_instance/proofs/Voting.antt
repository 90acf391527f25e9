-- First votes, voters and supporters, as one more message comes.
use Rattle.std.proofs.Common.{◌≡◌, ℕ, ◌==◌, Bool, true, false, cond, ◌&&◌, ◌||◌, List, [], ◌∷◌, ◌++◌, map, filter}
use Rattle.std.proofs.Common.{find, is_some, Option, Some, None, option_map, refl, sym, ap, ◌∙◌, eqb-true}
use Rattle.std.proofs.lemmas.Bool.{and_parts}
use Rattle.std.proofs.lemmas.List.Folds.{find-append}
use Rattle.std.specs.Option.{option_or}
use Rattle.std.specs.List.{list_any}
use Rattle.std.specs.Ordering.{nat_cmp, eq_by_cmp}
use Rattle.std.specs.Cmp.{nat_cmp_total, unsigned_tied}
use Rattle.std.specs.FinMap as maps
use Rattle.std.specs.FinSet as sets
use Rattle.role_commands.specs.declared.command.Command.{Command}
use Rattle.role_commands.specs.Same.{same_command}
use Rattle.link_frames.specs.frames.Kinds.{same_kind}
use Rattle.link_frames.specs.declared.frames.kind.Kind.{Kind}
use Rattle.link_frames.specs.declared.frames.kind.Kind.TheVariants.{Send}
use Rattle.bracha_instance.specs.Broadcast.{Take, command_of, from_of, is_of_kind, is_vote_of}
use Rattle.bracha_instance.specs.Broadcast.{is_for, vote, voters, supporters, echoed}
use Rattle.bracha_instance.specs.States.{votes}
use Rattle.bracha_instance.specs.inside.Next.{supporters_in}
use Rattle.bracha_instance.proofs.Same.{same_kind-true, same_kind-refl}
use Rattle.quorum_sizes.proofs.Exported.{same_names, contains-insert}
use Rattle.bracha_instance.proofs.VoteMaps.{same_votes, get-insert, contains-supporters_in, some_and}

-- Options.

pub or_nothing : (o : Option Command) → option_or o None ≡ o
or_nothing None = refl
or_nothing (Some c) = refl

pub map_or : (a b : Option Take)
    → option_map command_of (option_or a b) ≡ option_or (option_map command_of a) (option_map command_of b)
map_or None b = refl
map_or (Some t) b = refl

map_cond : (b : Bool) (t : Take) → option_map command_of (cond b (Some t) None) ≡ cond b (Some t.command) None
map_cond true t = refl
map_cond false t = refl

find_push : (p : Take → Bool) (ts : List Take) (t : Take) →
    option_map command_of (find p (ts ++ t ∷ []))
    ≡ option_or (option_map command_of (find p ts)) (cond (p t) (Some t.command) None)
find_push p ts t =
    ap (option_map command_of) (find-append p ts (t ∷ []))
    ∙ map_or (find p ts) (cond (p t) (Some t) None)
    ∙ ap (option_or (option_map command_of (find p ts))) (map_cond (p t) t)

-- One more message.

pub vote_push : (kind : Kind) (name : ℕ) (ts : List Take) (t : Take) →
    vote kind name (ts ++ t ∷ []) ≡ option_or (vote kind name ts) (cond (is_vote_of kind name t) (Some t.command) None)
unfolding vote
vote_push kind name ts t = find_push (is_vote_of kind name) ts t

pub echoed_push : (ts : List Take) (t : Take) →
    echoed (ts ++ t ∷ []) ≡ option_or (echoed ts) (cond (same_kind Send t.kind) (Some t.command) None)
unfolding echoed
echoed_push ts t = find_push (is_of_kind Send) ts t

-- a message of another kind is no vote of this one
pub vote_push-other : (kind : Kind) (name : ℕ) (ts : List Take) (t : Take) → same_kind kind t.kind ≡ false →
    vote kind name (ts ++ t ∷ []) ≡ vote kind name ts
vote_push-other kind name ts t other =
    vote_push kind name ts t
    ∙ ap (λ b. option_or (vote kind name ts) (cond (b && (name == t.from)) (Some t.command) None)) other
    ∙ or_nothing (vote kind name ts)

pub some_stays : (o more : Option Command) → is_some o ≡ true → option_or o more ≡ o
some_stays None more e = cc
some_stays (Some c) more e = refl

again_by : (kind : Kind) (name : ℕ) (ts : List Take) (t : Take) → is_some (vote t.kind t.from ts) ≡ true → (b : Bool)
    → is_vote_of kind name t ≡ b →
    option_or (vote kind name ts) (cond b (Some t.command) None) ≡ vote kind name ts
again_by kind name ts t voted false is = or_nothing (vote kind name ts)
again_by kind name ts t voted true is =
    let parts = and_parts _ _ is in
    some_stays (vote kind name ts) (Some t.command)
    (ap (λ k. is_some (vote k name ts)) (same_kind-true kind t.kind parts.0)
    ∙ ap (λ n. is_some (vote t.kind n ts)) (eqb-true name t.from parts.1) ∙ voted)

-- a second vote counts for nothing
pub vote_push-again : (kind : Kind) (name : ℕ) (ts : List Take) (t : Take) → is_some (vote t.kind t.from ts) ≡ true →
    vote kind name (ts ++ t ∷ []) ≡ vote kind name ts
vote_push-again kind name ts t voted = vote_push kind name ts t
    ∙ again_by kind name ts t voted (is_vote_of kind name t) refl

pub or_is : (o more : Option Command) (c : Command) → o ≡ Some c → option_or o more ≡ Some c
or_is o more c e = ap (λ x. option_or x more) e

-- The voters, the map of votes and the supporters, by the votes.

voter_by : (kind : Kind) (q : ℕ) (ts : List Take) →
    list_any (eq_by_cmp nat_cmp q) (map from_of (filter (is_of_kind kind) ts))
    ≡ is_some (option_map command_of (find (is_vote_of kind q) ts))
voter_by kind q [] = refl
voter_by kind q (t ∷ ts) =
    let all = map from_of (filter (is_of_kind kind) ts) in
    let first = find (is_vote_of kind q) ts in
    elim (same_kind kind t.kind) as (λ b.
    list_any (eq_by_cmp nat_cmp q)
    (map from_of (cond b (t ∷ filter (is_of_kind kind) ts) (filter (is_of_kind kind) ts)))
    ≡ is_some (option_map command_of (cond (b && (q == t.from)) (Some t) first))) [
      | true ↦ ap (λ b. b || list_any (eq_by_cmp nat_cmp q) all) (unsigned_tied q t.from)
          ∙ elim (q == t.from) as (λ b. (b || list_any (eq_by_cmp nat_cmp q) all)
          ≡ is_some (option_map command_of (cond b (Some t) first))) [ true ↦ refl | false ↦ voter_by kind q ts ]
      | false ↦ voter_by kind q ts
    ]

pub contains-voters : (kind : Kind) (ts : List Take) (q : ℕ)
    → sets.contains (voters kind ts) q ≡ is_some (vote kind q ts)
unfolding voters vote
contains-voters kind ts q =
    sets.contains-from_list nat_cmp_total (map from_of (filter (is_of_kind kind) ts)) q ∙ voter_by kind q ts

abbrev pair_of : Take → ℕ × Command
pair_of t = (t.from, t.command)

vote_by : (kind : Kind) (q : ℕ) (ts : List Take) →
    maps.find nat_cmp q (map pair_of (filter (is_of_kind kind) ts))
    ≡ option_map command_of (find (is_vote_of kind q) ts)
vote_by kind q [] = refl
vote_by kind q (t ∷ ts) =
    let all = map pair_of (filter (is_of_kind kind) ts) in
    let first = find (is_vote_of kind q) ts in
    elim (same_kind kind t.kind) as (λ b.
    maps.find nat_cmp q (map pair_of (cond b (t ∷ filter (is_of_kind kind) ts) (filter (is_of_kind kind) ts)))
    ≡ option_map command_of (cond (b && (q == t.from)) (Some t) first)) [
      | true ↦ ap (λ b. cond b (Some t.command) (maps.find nat_cmp q all)) (unsigned_tied q t.from)
          ∙ elim (q == t.from) as (λ b. cond b (Some t.command) (maps.find nat_cmp q all)
          ≡ option_map command_of (cond b (Some t) first)) [ true ↦ refl | false ↦ vote_by kind q ts ]
      | false ↦ vote_by kind q ts
    ]

pub get-votes : (kind : Kind) (ts : List Take) (q : ℕ) → maps.get (votes kind ts) q ≡ vote kind q ts
unfolding votes vote
get-votes kind ts q = maps.get-from_entries nat_cmp_total (map pair_of (filter (is_of_kind kind) ts)) q
    ∙ vote_by kind q ts

pub contains-supporters : (kind : Kind) (c : Command) (ts : List Take) (q : ℕ)
    → sets.contains (supporters kind c ts) q ≡ is_for c (vote kind q ts)
unfolding supporters
contains-supporters kind c ts q =
    sets.contains-retain (voters kind ts) (λ name. is_for c (vote kind name ts)) q (λ x tie.
    ap (λ n. is_for c (vote kind n ts)) (sym (maps.nat_cmp-IsAntisymmetric q x tie)))
    ∙ ap (λ b. b && is_for c (vote kind q ts)) (contains-voters kind ts q)
    ∙ some_and c (vote kind q ts)

pub supporters_alike : (kind : Kind) (c : Command) (ts us : List Take)
    → ((q : ℕ) → is_for c (vote kind q us) ≡ is_for c (vote kind q ts)) →
    supporters kind c us ≡ supporters kind c ts
supporters_alike kind c ts us alike =
    same_names _ _ (λ q. contains-supporters kind c us q ∙ alike q ∙ sym (contains-supporters kind c ts q))

pub voters_alike : (kind : Kind) (ts us : List Take) → ((q : ℕ) → vote kind q us ≡ vote kind q ts)
    → voters kind us ≡ voters kind ts
voters_alike kind ts us alike =
    same_names _ _ (λ q. contains-voters kind us q ∙ ap is_some (alike q) ∙ sym (contains-voters kind ts q))

pub votes_alike : (kind : Kind) (ts us : List Take) → ((q : ℕ) → vote kind q us ≡ vote kind q ts)
    → votes kind us ≡ votes kind ts
votes_alike kind ts us alike = same_votes _ _ (λ q. get-votes kind us q ∙ alike q ∙ sym (get-votes kind ts q))

pub supporters_in-votes : (kind : Kind) (c : Command) (ts : List Take)
    → supporters kind c ts ≡ supporters_in c (votes kind ts)
supporters_in-votes kind c ts = same_names _ _ (λ q.
    contains-supporters kind c ts q
    ∙ sym (contains-supporters_in c (votes kind ts) q ∙ ap (is_for c) (get-votes kind ts q)))

-- A message for another command.

for_other_by : (c : Command) (o : Option Command) (d : Command) (b : Bool) → same_command c d ≡ false
    → is_for c (option_or o (cond b (Some d) None)) ≡ is_for c o
for_other_by c None d true other = other
for_other_by c None d false other = refl
for_other_by c (Some e) d b other = refl

-- a message for another command is of no supporter of c
pub supporters_push-other : (kind : Kind) (c : Command) (ts : List Take) (t : Take) → same_command c t.command ≡ false →
    supporters kind c (ts ++ t ∷ []) ≡ supporters kind c ts
supporters_push-other kind c ts t other = supporters_alike kind c ts (ts ++ t ∷ []) (λ q.
    ap (is_for c) (vote_push kind q ts t) ∙ for_other_by c (vote kind q ts) t.command (is_vote_of kind q t) other)

-- A first vote.

own : (t : Take) (q : ℕ) → is_vote_of t.kind q t ≡ (q == t.from)
own t q = ap (λ b. b && (q == t.from)) (same_kind-refl t.kind)

first_by : (kind : Kind) (ts : List Take) (t : Take) (q : ℕ) → vote kind t.from ts ≡ None → (b : Bool)
    → (q == t.from) ≡ b →
    option_or (vote kind q ts) (cond b (Some t.command) None) ≡ cond b (Some t.command) (vote kind q ts)
first_by kind ts t q none true is =
    ap (λ o. option_or o (Some t.command)) (ap (λ n. vote kind n ts) (eqb-true q t.from is) ∙ none)
first_by kind ts t q none false is = or_nothing (vote kind q ts)

pub votes_push-first : (ts : List Take) (t : Take) → vote t.kind t.from ts ≡ None
    → votes t.kind (ts ++ t ∷ []) ≡ maps.insert (votes t.kind ts) t.from t.command
votes_push-first ts t none = same_votes _ _ (λ q.
    get-votes t.kind (ts ++ t ∷ []) q
    ∙ vote_push t.kind q ts t
    ∙ ap (λ b. option_or (vote t.kind q ts) (cond b (Some t.command) None)) (own t q)
    ∙ first_by t.kind ts t q none (q == t.from) refl
    ∙ sym (get-insert (votes t.kind ts) t.from t.command q
    ∙ ap (cond (q == t.from) (Some t.command)) (get-votes t.kind ts q)))

some_either : (o : Option Command) (b : Bool) (c : Command)
    → is_some (option_or o (cond b (Some c) None)) ≡ (b || is_some o)
some_either None true c = refl
some_either None false c = refl
some_either (Some d) true c = refl
some_either (Some d) false c = refl

pub voters_push : (ts : List Take) (t : Take) → voters t.kind (ts ++ t ∷ []) ≡ sets.insert (voters t.kind ts) t.from
voters_push ts t = same_names _ _ (λ q.
    contains-voters t.kind (ts ++ t ∷ []) q
    ∙ ap is_some (vote_push t.kind q ts t)
    ∙ ap (λ b. is_some (option_or (vote t.kind q ts) (cond b (Some t.command) None))) (own t q)
    ∙ some_either (vote t.kind q ts) (q == t.from) t.command
    ∙ sym (contains-insert (voters t.kind ts) t.from q ∙ ap (λ b. (q == t.from) || b) (contains-voters t.kind ts q)))

-- No message for a command.

nobody_by : (kind : Kind) (c : Command) (q : ℕ) (ts : List Take) → find (same_command c) (map command_of ts) ≡ None →
    is_for c (option_map command_of (find (is_vote_of kind q) ts)) ≡ false
nobody_by kind c q [] none = refl
nobody_by kind c q (t ∷ ts) none =
    let parts =
    not_first c t.command (find (same_command c) (map command_of ts)) (same_command c t.command) refl none in
    elim (is_vote_of kind q t) as (λ b. is_for c (option_map command_of (cond b (Some t) (find (is_vote_of kind q) ts)))
    ≡ false) [
      | true ↦ parts.0
      | false ↦ nobody_by kind c q ts parts.1
    ]
  where
    not_first : (c d : Command) (rest : Option Command) (b : Bool) → same_command c d ≡ b → cond b (Some d) rest ≡ None
        → (same_command c d ≡ false) × (rest ≡ None)
    not_first c d rest true is e = absurd cc
    not_first c d rest false is e = (is, e)

-- a command that no message is for has no supporters
pub supporters-nobody : (kind : Kind) (c : Command) (ts : List Take) → find (same_command c) (map command_of ts) ≡ None
    → supporters kind c ts ≡ sets.empty
unfolding vote
supporters-nobody kind c ts none = same_names _ _ (λ q.
    contains-supporters kind c ts q ∙ nobody_by kind c q ts none ∙ sym (sets.contains-empty nat_cmp q))
