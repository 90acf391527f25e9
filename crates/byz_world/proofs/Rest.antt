-- A cluster at rest: what correct nodes have sent, all correct nodes have counted, so what one delivers, all do.
use Rattle.std.proofs.Common.{◌≡◌, ℕ, ◌-◌, ◌<◌, ◌≤◌, ◌⊎◌, inl, ⊎_elim, Bool, true, false, ◌==◌, ◌&&◌, not}
use Rattle.std.proofs.Common.{if◌then◌else◌, subst}
use Rattle.std.specs.Prelude.{IsTrue, Contains}
use Rattle.std.proofs.Common.{length, take, slice_get, option_map, Option, Some, None, refl}
use Rattle.std.proofs.Common.{sym, ap, ◌∙◌, arith, take_all, le_refl, ltb-true, eq-eqb}
use Rattle.std.specs.FinSet as sets
use Rattle.std.specs.Cmp.{nat_cmp_total}
use Rattle.std.proofs.lemmas.Bool.{and_parts, and_from, or_left, or_right, leb-true, le-leb, not-true, not_from_false}
use Rattle.quorum_sizes.specs.Sizes.{Counts, echo_quorum_of, amplify_of, deliver_of}
use Rattle.quorum_sizes.specs.NodeSets.{Nodes, AreNodes}
use Rattle.quorum_sizes.proofs.Exported.{correct_are_enough}
use Rattle.role_commands.proofs.Exported.{some_value}
use Rattle.role_commands.specs.declared.command.Command.{Command}
use Rattle.link_frames.specs.frames.Packets.{PacketValue, packet_of}
use Rattle.link_frames.specs.declared.frames.kind.Kind.{Kind}
use Rattle.link_frames.specs.declared.frames.kind.Kind.TheVariants.{Send, Echo, Ready}
use Rattle.link_frames.specs.declared.frames.packet.Message.{Message}
use Rattle.bracha_instance.specs.Broadcast.{command_of, is_of_kind, is_vote_of, vote, supporters}
use Rattle.bracha_instance.specs.Broadcast.{echoed, readied, delivered, may_ready, may_deliver}
use Rattle.bracha_instance.proofs.Exported.{same_kind-refl, contains-supporters}
use Rattle.bracha_instance.proofs.Exported.{ready_comes, delivery_comes, delivery_was_first, delivered_is_ready}
use Rattle.owner_streams.specs.Places.{take_of, take_at, takes_at}
use Rattle.owner_streams.proofs.Exported.{stream_is_one_lem}
use Rattle.role_node.specs.Configs.{ConfigValue}
use Rattle.role_node.specs.Histories.{issued, packets}
use Rattle.byz_world.specs.Laws.{ReadyByAll, DeliveredByAll, HasReached, IssuedReachesAll, AtRest}
use Rattle.byz_world.specs.Resting.{IsAtRest}
use Rattle.byz_world.specs.Pools.{pool}
use Rattle.byz_world.specs.Runs.{Run, history_of, is_correct, IsClusterRun}
use Rattle.byz_world.proofs.Elements.{number_of}
use Rattle.byz_world.proofs.Pooled.{sent_is_pooled, is_has_sent, some_is_for}
use Rattle.byz_world.proofs.Counts.{len_within, len_covered, len_all}
use Rattle.byz_world.proofs.Lists.{IsIn, is_picked, front_itself, front_taken, found_there}
use Rattle.byz_world.proofs.Histories.{taken_by, own_take}
use Rattle.byz_world.proofs.Votes.{said_by, said_stays, vote_before, echo_was_issued}
use Rattle.byz_world.proofs.Safety.{IsCorrect, correct_if, correct_among, supporters_are, supporter_said}
use Rattle.byz_world.proofs.Safety.{whole_front, ready_for_one, deliver_one, ready_was_issued, delivered_was_issued}

some_same : {A : Type 0} (o : Option A) (x y : A) → o ≡ Some x → x ≡ y → o ≡ Some y
some_same o x y e same = e ∙ ap Some same

-- answers are one where each says what the other does
same_answer : {A : Type 0} (a b : Option A) → ((x : A) → a ≡ Some x → b ≡ Some x) → ((x : A) → b ≡ Some x → a ≡ Some x)
    → a ≡ b
same_answer None None to from = refl
same_answer None (Some x) to from = from x refl
same_answer (Some x) b to from = sym (to x refl)

own_send : (b : Bool) (o : Option Command) (c : Command) → b ≡ true → o ≡ Some c → (if b then o else None) ≡ Some c
own_send true o c is e = e
own_send false o c is e = absurd cc

-- the node has taken each packet about a place of an owner's stream that correct nodes have sent to it
abbrev pub HasTakenAll : ConfigValue → Run → ℕ → ℕ → ℕ → Type 0
HasTakenAll config run node owner place =
    (p : PacketValue) → Contains (pool config run) p → p.to ≡ node → p.owner ≡ owner → p.place ≡ place →
    Contains (packets (history_of node run)) p

-- at rest about one place of an owner's stream: each correct node has taken all
abbrev pub IsAtRestAt : ConfigValue → Nodes → Run → ℕ → ℕ → Type 0
IsAtRestAt config liars run owner place =
    (node : ℕ) → IsTrue (is_correct config.roles.sizes liars node) → HasTakenAll config run node owner place

-- .. or has delivered there
abbrev pub IsTakenOrDelivered : ConfigValue → Nodes → Run → ℕ → ℕ → Type 0
IsTakenOrDelivered config liars run owner place =
    (node : ℕ) → IsTrue (is_correct config.roles.sizes liars node) → HasTakenAll config run node owner place
    ⊎ ((c : Command) × (delivered config.roles.sizes (taken_by run node owner place) ≡ Some c))

module _ (config : ConfigValue) (liars : Nodes) (run : Run) (owner place : ℕ)
    (cluster : IsClusterRun config liars run) where
  abbrev s : Counts
  s = config.roles.sizes

  abbrev IsHonest : ℕ → Type 0
  IsHonest name = IsCorrect config liars run cluster name

  abbrev TakesAll : ℕ → Type 0
  TakesAll node = HasTakenAll config run node owner place

  node_of : (name : ℕ) → IsHonest name → name < s.nodes
  node_of name correct = ltb-true name s.nodes (and_parts _ _ correct).0

  -- what a correct node has sent, who has taken all has taken
  taken_there : (i name : ℕ) (kind : Kind) (c : Command) → IsHonest i → TakesAll i →
      said_by s run name kind owner place ≡ Some c →
      IsIn (taken_by run i owner place) (record { kind = kind; from = name; command = c })
  unfolding takes_at
  taken_there i name kind c correct all e =
      let m : Message = record { kind = kind; owner = owner; place = place; command = c } in
      let p : PacketValue = packet_of name i m in
      let pooled = sent_is_pooled config liars run name i m cluster (is_has_sent s run name m e) (node_of i correct) in
      let number = number_of (packets (history_of i run)) p (all p pooled refl refl refl) in
      is_picked (take_at owner place) (packets (history_of i run)) p (take_of p) number.0 number.1 (own_take p)

  voted : (i name : ℕ) (kind : Kind) (c : Command) → IsHonest i → TakesAll i → IsHonest name →
      said_by s run name kind owner place ≡ Some c → vote kind name (taken_by run i owner place) ≡ Some c
  unfolding vote
  voted i name kind c correct all sender e =
      let takes = taken_by run i owner place in
      let there = taken_there i name kind c correct all e in
      let found = found_there (is_vote_of kind name) takes _ there.0 there.1
      (and_from _ _ (same_kind-refl kind) (eq-eqb name name refl)) in
      let is : vote kind name takes ≡ Some found.0.command = ap (option_map command_of) found.1 in
      let before = vote_before config liars run (length run) i owner place takes cluster
      (whole_front config liars run cluster takes i owner place (front_itself takes)) kind name found.0.command is
      in
      let said = said_stays s before.at run name kind owner place found.0.command (before.sent sender) in
      is ∙ sym said ∙ e

  -- .. and counted
  supports : (i name : ℕ) (kind : Kind) (c : Command) → IsHonest i → TakesAll i → IsHonest name →
      said_by s run name kind owner place ≡ Some c
      → sets.contains (supporters kind c (taken_by run i owner place)) name ≡ true
  supports i name kind c correct all sender e =
      contains-supporters kind c (taken_by run i owner place) name
      ∙ some_is_for c _ (voted i name kind c correct all sender e)

  are_nodes : (i : ℕ) (kind : Kind) (c : Command)
      → AreNodes s (supporters kind c (taken_by run i owner place))
  are_nodes i kind c =
      let takes = taken_by run i owner place in
      supporters_are config liars run cluster (length run) i owner place takes
      (whole_front config liars run cluster takes i owner place (front_itself takes)) kind c

  -- what all correct nodes have sent is supported by all but the liars
  by_all : (i : ℕ) (kind : Kind) (c : Command) → IsHonest i → TakesAll i →
      ((name : ℕ) → IsHonest name → said_by s run name kind owner place ≡ Some c) →
      s.nodes - s.liars ≤ sets.len (supporters kind c (taken_by run i owner place))
  by_all i kind c correct all sent =
      let h = len_all s liars (supporters kind c (taken_by run i owner place)) (are_nodes i kind c)
      (λ name within honest. let one = correct_if config liars run cluster name within honest in
      supports i name kind c correct all one (sent name one)) in
      let few = cluster.few in
      omega arith

  -- Who is ready.

  ready_now : (i : ℕ) (c : Command) → may_ready s (taken_by run i owner place) c ≡ true →
      (d : Command) × (readied s (taken_by run i owner place) ≡ Some d)
  ready_now i c may =
      let takes = taken_by run i owner place in
      some_value _ (ready_comes s takes (length takes) c
      (ap (λ ts. may_ready s ts c) (take_all (length takes) takes (le_refl _)) ∙ may))

  -- who has delivered is ready, and who has taken the READYs of so many
  some_ready : IsTakenOrDelivered config liars run owner place → (c : Command) (ready : Nodes) →
      ((name : ℕ) → sets.contains ready name ≡ true
      → IsHonest name × (readied s (taken_by run name owner place) ≡ Some c)) →
      amplify_of s ≤ sets.len ready → (j : ℕ) → IsHonest j →
      (d : Command) × (readied s (taken_by run j owner place) ≡ Some d)
  unfolding may_ready
  some_ready each c ready are many j correct =
      ⊎_elim
      (λ (all : TakesAll j).
      let more =
      len_within s ready (supporters Ready c (taken_by run j owner place))
      (λ name is. node_of name (are name is).0) (are_nodes j Ready c)
      (λ name is. let r = are name is in supports j name Ready c correct all r.0 r.1) in
      ready_now j c (or_right _ _ (le-leb (amplify_of s) _ (omega arith))))
      (λ (was : (d : Command) × (delivered s (taken_by run j owner place) ≡ Some d)).
      some_value _ (delivered_is_ready s (taken_by run j owner place) was.0 was.1))
      (each j correct)

  pub amplified : IsTakenOrDelivered config liars run owner place → (c : Command) (ready : Nodes) →
      ((name : ℕ) → sets.contains ready name ≡ true
      → IsHonest name × (readied s (taken_by run name owner place) ≡ Some c)) →
      amplify_of s ≤ sets.len ready → (j : ℕ) → IsHonest j → readied s (taken_by run j owner place) ≡ Some c
  amplified each c ready are many j correct =
      let now = some_ready each c ready are many j correct in
      let one = correct_among config liars run cluster ready (λ name is. node_of name (are name is).0) (omega arith) in
      now.1 ∙ ap Some (ready_for_one config liars run cluster j one.0 owner place now.0 c now.1 (are one.0 one.2).1)

  -- Who delivers: where all correct nodes are ready, each of them that has taken all.

  deliver_now : (i : ℕ) (c : Command) → IsHonest i → TakesAll i →
      ((name : ℕ) → IsHonest name → readied s (taken_by run name owner place) ≡ Some c) →
      (d : Command) × (delivered s (taken_by run i owner place) ≡ Some d)
  unfolding may_deliver
  deliver_now i c correct all ready =
      let takes = taken_by run i owner place in
      let many = by_all i Ready c correct all ready in
      let enough = (correct_are_enough s cluster.sizes).1 in
      let may : may_deliver s takes c ≡ true = le-leb (deliver_of s) _ (omega arith) in
      some_value _ (delivery_comes s takes (length takes) c
      (ap (λ ts. may_deliver s ts c) (take_all (length takes) takes (le_refl _)) ∙ may))

  -- what one delivered, each correct node is ready for
  ready_there : IsTakenOrDelivered config liars run owner place → (i : ℕ) (c : Command) →
      delivered s (taken_by run i owner place) ≡ Some c →
      (name : ℕ) → IsHonest name → readied s (taken_by run name owner place) ≡ Some c
  unfolding may_deliver
  ready_there each i c e =
      let all = taken_by run i owner place in
      let first = delivery_was_first s all c e in
      let takes = take first.0 all in
      let front = whole_front config liars run cluster takes i owner place (front_taken first.0 all) in
      let for_c = supporters Ready c takes in
      let are : AreNodes s for_c =
      supporters_are config liars run cluster (length run) i owner place takes front Ready c in
      let honest = sets.difference for_c liars in
      let both : (name : ℕ) → sets.contains honest name ≡ (sets.contains for_c name && not (sets.contains liars name)) =
      sets.contains-difference nat_cmp_total for_c liars in
      let are_honest : AreNodes s honest = λ name is. are name (and_parts _ _ (sym (both name) ∙ is)).0 in
      let many : deliver_of s ≤ sets.len for_c = leb-true _ _ first.2 in
      let fewer = len_covered s liars for_c honest are are_honest (λ name is not_liar. both name
      ∙ and_from _ _ is (not_from_false _ not_liar)) in
      let few = cluster.few in
      amplified each c honest
      (λ name is.
      let parts = and_parts _ _ (sym (both name) ∙ is) in
      let one = correct_if config liars run cluster name (are name parts.0) (not-true _ parts.1) in (
        one,
        supporter_said config liars run cluster (length run) i owner place takes front Ready c name one parts.0,
      ))
      (omega arith)

  pub delivered_there : IsTakenOrDelivered config liars run owner place → (i j : ℕ) (c : Command) → IsHonest j →
      delivered s (taken_by run i owner place) ≡ Some c → delivered s (taken_by run j owner place) ≡ Some c
  delivered_there each i j c correct e =
      let now : (d : Command) × (delivered s (taken_by run j owner place) ≡ Some d) =
      ⊎_elim
      (λ (all : TakesAll j). deliver_now j c correct all (ready_there each i c e))
      (λ (was : (d : Command) × (delivered s (taken_by run j owner place) ≡ Some d)). was)
      (each j correct) in
      some_same _ now.0 c now.1 (deliver_one config liars run cluster j i owner place now.0 c now.1 e)

  -- A correct owner's command.

  pub echoed_there : IsAtRestAt config liars run owner place → (i : ℕ) (c : Command) → IsHonest i → IsHonest owner
      → slice_get (issued (history_of owner run)) place ≡ Some c →
      echoed (taken_by run i owner place) ≡ Some c
  unfolding echoed
  echoed_there rest i c correct sender e =
      let takes = taken_by run i owner place in
      let sent : said_by s run owner Send owner place ≡ Some c =
      own_send (owner == owner) _ c (eq-eqb owner owner refl) e in
      let there = taken_there i owner Send c correct (rest i correct) sent in
      let found = found_there (is_of_kind Send) takes _ there.0 there.1 (same_kind-refl Send) in
      let is : echoed takes ≡ Some found.0.command = ap (option_map command_of) found.1 in
      is ∙ sym (echo_was_issued config liars run i owner place found.0.command cluster sender is) ∙ e

  pub readied_there : IsAtRestAt config liars run owner place → (i : ℕ) (c : Command) → IsHonest i → IsHonest owner
      → slice_get (issued (history_of owner run)) place ≡ Some c →
      readied s (taken_by run i owner place) ≡ Some c
  unfolding may_ready
  readied_there rest i c correct sender e =
      let many = by_all i Echo c correct (rest i correct) (λ name one. echoed_there rest name c one sender e) in
      let enough = (correct_are_enough s cluster.sizes).0 in
      let now = ready_now i c (or_left _ _ (le-leb (echo_quorum_of s) _ (omega arith))) in
      now.1 ∙ sym (ready_was_issued config liars run cluster i owner place now.0 sender now.1) ∙ e

  pub reached : IsAtRestAt config liars run owner place → (i : ℕ) (c : Command) → IsHonest i → IsHonest owner
      → slice_get (issued (history_of owner run)) place ≡ Some c →
      HasReached config run i owner place c
  reached rest i c correct sender e =
      let now = deliver_now i c correct (rest i correct) (λ name one. readied_there rest name c one sender e) in
      record {
        was_echoed = echoed_there rest i c correct sender e;
        was_readied = readied_there rest i c correct sender e;
        was_delivered = now.1 ∙ sym (delivered_was_issued config liars run cluster i owner place now.0 sender now.1)
            ∙ e;
      }

-- A cluster at rest is so about each place.

module _ (config : ConfigValue) (liars : Nodes) (run : Run) (cluster : IsClusterRun config liars run)
    (rest : IsAtRest config liars run) where
  about : (owner place : ℕ) → IsAtRestAt config liars run owner place
  about owner place node correct p pooled to _ _ =
      let C : ℕ → Type 0 = λ name. IsTrue (is_correct config.roles.sizes liars name) in
      let P : ℕ → Type 0 = λ name. Contains (packets (history_of name run)) p in
      subst P to (rest p pooled (subst C (sym to) correct))

  taken : (owner place : ℕ) → IsTakenOrDelivered config liars run owner place
  taken owner place node correct = inl (about owner place node correct)

  abbrev IsHonestIn : ℕ → Type 0
  IsHonestIn name = IsCorrect config liars run cluster name

  there : (i j owner place : ℕ) (c : Command) → IsHonestIn j →
      delivered config.roles.sizes (taken_by run i owner place) ≡ Some c →
      delivered config.roles.sizes (taken_by run j owner place) ≡ Some c
  there i j owner place c = delivered_there config liars run owner place cluster (taken owner place) i j c

  everywhere : (i owner place : ℕ) (c : Command) → IsHonestIn i → IsHonestIn owner →
      slice_get (issued (history_of owner run)) place ≡ Some c → HasReached config run i owner place c
  everywhere i owner place c = reached config liars run owner place cluster (about owner place) i c

pub ready_by_all : ReadyByAll
ready_by_all config liars run owner place c ready cluster rest are many j correct =
    amplified config liars run owner place cluster (taken config liars run cluster rest owner place) c
    ready are many j correct

pub delivered_by_all : DeliveredByAll
delivered_by_all config liars run i j owner place c cluster rest _ correct e =
    there config liars run cluster rest i j owner place c correct e

pub issued_reaches_all : IssuedReachesAll
issued_reaches_all config liars run i owner place c cluster rest correct sender e =
    everywhere config liars run cluster rest i owner place c correct sender e

pub at_rest : AtRest
at_rest config liars run cluster rest = record {
  issued_is_delivered = λ i owner correct sender.
      sym (stream_is_one_lem config.roles.sizes owner (packets (history_of i run)) (issued (history_of owner run))
      (λ place _. same_answer _ _
      (λ c e. delivered_was_issued config liars run cluster i owner place c sender e)
      (λ c e. let all = everywhere config liars run cluster rest i owner place c correct sender e in
      all.was_delivered)));
  delivered_by_all = λ i j owner place a b. same_answer _ _
      (λ c e. there config liars run cluster rest i j owner place c b e)
      (λ c e. there config liars run cluster rest j i owner place c a e);
}
