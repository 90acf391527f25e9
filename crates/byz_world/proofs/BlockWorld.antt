-- The fields of a world after a block of messages was given.
use Rattle.std.proofs.Common.{◌≡◌, ℕ, zero, suc, ◌+◌, ◌-◌, ◌*◌, ◌<◌, ◌≤◌, ⊎_elim, Bool, true, false, ◌==◌}
use Rattle.std.proofs.Common.{List, [], ◌∷◌, ◌++◌, length, take, drop, Option, Some, None, refl, sym, ap, ◌∙◌}
use Rattle.std.proofs.Common.{subst, arith}
use Rattle.std.specs.Option.{option_map_or}
use Rattle.std.proofs.Common.{length-append, length-drop, take_all}
use Rattle.std.specs.Prelude.{if◌then◌else◌, nat_lt, min, slice_get, Contains, ◌/◌, ◌%◌}
use Rattle.std.specs.List.{range_with_len}
use Rattle.std.proofs.lemmas.Bool.{cases_lt}
use Rattle.std.proofs.lemmas.Bool.Decides.{nat_tests}
use Rattle.std.proofs.lemmas.Map.Views.{exact_unsigned_eq}
use Rattle.std.proofs.Math.Nat.{mul-le-mul_right, mod-add-div'}
use Rattle.quorum_sizes.specs.NodeSets.{Nodes}
use Rattle.link_frames.specs.frames.Packets.{PacketValue, packet_of}
use Rattle.role_node.specs.Configs.{ConfigValue}
use Rattle.role_node.specs.Nodes.{NodeValue}
use Rattle.byz_world.specs.Runs.{Run, history_of, IsClusterRun}
use Rattle.byz_world.specs.Pools.{Sent, messages, messages_after, packets_of, pool}
use Rattle.byz_world.specs.Worlds.{WorldValue, node_in, node_due, is_correct_in}
use Rattle.byz_world.specs.inside.Kept.{Members, member_in, history_in, run_in, world_in}
use Rattle.byz_world.specs.inside.Kept.{IsWorldIn}
use Rattle.byz_world.specs.Settled.{IsProlonged}
use Rattle.byz_world.specs.Steps.{with_run, is_pool_full, after_step}
use Rattle.byz_world.specs.Settled.{MayAdd, after_gives}
use Rattle.byz_world.specs.Giving.{counts_now}
use Rattle.byz_world.specs.inside.Blocks.{member_after, after_takes, mark_in, AreGiven, block_names, block_messages}
use Rattle.byz_world.specs.inside.Blocks.{block_most, IsBlock, StartsBlock, counts_at, wants, MayWant, SomeMayWant}
use Rattle.byz_world.specs.declared.step.Step.TheVariants.{Give}
use Rattle.byz_world.specs.declared.block.Mark.{Mark}
use Rattle.byz_world.proofs.BlockMerge.{Merged, IsMarked, given_to, takes_are, added_is, merged_none, merged_block}
use Rattle.byz_world.proofs.BlockMembers.{taken-length, at_taken}
use Rattle.byz_world.proofs.BlockNotes.{dropped-at}
use Rattle.byz_world.proofs.Elements.{at_front, contained, number_of, flat_contains}
use Rattle.byz_world.proofs.Pooled.{to_each}
use Rattle.byz_world.proofs.Sound.{message_is_due}
use Rattle.byz_world.proofs.Telling.{node_is, correct_is_node}
use Rattle.byz_world.proofs.BlockRuns.{names, names-times, run_of_names, order_is_names, unnamed, messages-append}
use Rattle.byz_world.proofs.Numbering.{pool-length}
use Rattle.byz_world.proofs.Ordered.{times}
use Rattle.byz_world.proofs.Passes.{prolonged_runs, gives_prolong, gives_next}
use Rattle.byz_world.proofs.Stepping.{after_steps-none}

min_take : {A : Type 0} (xs : List A) (most count : ℕ) → length xs ≡ count → take (min most count) xs ≡ take most xs
min_take xs most count long =
    ⊎_elim
    (λ (h : most < count). let e : min most count ≡ most = omega (arith, h) in ap (λ k. take k xs) e)
    (λ (h : count ≤ most).
    let e : min most count ≡ count = omega (arith, h) in
    ap (λ k. take k xs) e ∙ take_all count xs (omega (arith, long)) ∙ sym (take_all most xs (omega (arith, long, h))))
    (cases_lt most count)

not_over : (limit count : ℕ) → count ≤ limit → nat_lt limit count ≡ false
not_over limit count h = grind (arith, nat_tests)

-- what the fields show then
pub record HasMerged (config : ConfigValue) (liars : Nodes) (w : WorldValue) (first count : ℕ) (long : ℕ)
    (members' : Members) (order' : List ℕ) (sent' : List Sent) : Type 0 where
  pub is : IsWorldIn config liars members' order' sent'
  pub prolonged : IsProlonged w (world_in config liars members' order')
  pub room : is_pool_full (world_in config liars members' order') ≡ false
  pub due : long ≡ w.config.roles.sizes.nodes * count →
      world_in config liars members' order'
      ≡ after_gives w (first * w.config.roles.sizes.nodes) (count * w.config.roles.sizes.nodes)

module _ (config : ConfigValue) (liars : Nodes) (members : Members) (order : List ℕ) (sent : List Sent)
    (is : IsWorldIn config liars members order sent) (first count : ℕ) (block : List Sent) (marks : List Mark)
    (members' : Members) (given : AreGiven members members' block marks)
    (marked : IsMarked (world_in config liars members order) first count block marks)
    (order' : List ℕ) (sent' : List Sent)
    (m : Merged (world_in config liars members order) first count block marks count 0 order' sent') where
  abbrev w : WorldValue
  w = world_in config liars members order

  abbrev w' : WorldValue
  w' = with_run w m.run

  cluster' : IsClusterRun config liars m.run
  cluster' = prolonged_runs w w' is.cluster m.prolonged

  -- the member of a name is its node of the run
  member_is : (name : ℕ) (b : Bool) → is_correct_in w name ≡ b → member_in members' name ≡ node_due w' name
  member_is name false lies =
      given.each name
      ∙ (λ i. member_after ((is.nodes name ∙ ap (λ b. if b then Some (node_in w name) else None) lies) i)
      (take (length marks - name * length block) block))
      ∙ sym (ap (λ b. if b then Some (node_in w' name) else None) lies)
  member_is name true correct =
      let most : ℕ = length marks - name * count in
      let before : nat_lt name 0 ≡ false = grind (arith, nat_tests) in
      let history : history_of name m.run ≡ (after_takes (node_in w name) (take most block)).history =
      m.each name correct
      ∙ ap (λ b. (after_takes (node_in w name) (take (given_to most count b) block)).history) before
      ∙ ap (λ xs. (after_takes (node_in w name) xs).history) (min_take block most count marked.long) in
      given.each name
      ∙ (λ i. member_after ((is.nodes name ∙ ap (λ b. if b then Some (node_in w name) else None) correct) i)
      (take (length marks - name * marked.long i) block))
      ∙ ap Some (takes_are w m.run name (take most block) history)
      ∙ sym (ap (λ b. if b then Some (node_in w' name) else None) correct)

  own_history : (name : ℕ) → is_correct_in w name ≡ true → history_in (member_in members' name) ≡ history_of name m.run
  own_history name correct =
      ap history_in (member_is name true correct)
      ∙ ap (λ b. history_in (if b then Some (node_in w' name) else None)) correct

  run_is : run_in members' order' ≡ m.run
  unfolding names
  run_is =
      ap (run_in members') m.order_is
      ∙ run_of_names (λ name. history_in (member_in members' name)) [] m.run
      (λ t node e at. own_history node (cluster'.correct t node e at))

  -- a liar records nothing
  lies_none : (name : ℕ) → is_correct_in w name ≡ false → history_of name m.run ≡ []
  lies_none name lies =
      unnamed name m.run (λ t node e at. apart_by node (node == name) refl (cluster'.correct t node e at))
    where
      apart_by : (node : ℕ) (b : Bool) → (node == name) ≡ b → is_correct_in w node ≡ true → b ≡ false
      apart_by node false e correct = refl
      apart_by node true e correct =
          let same : node ≡ name = exact_unsigned_eq node name e in
          let clash : is_correct_in w name ≡ true = ap (is_correct_in w) (sym same) ∙ correct in
          absurd cc

  named_by : (name : ℕ) (b : Bool) → is_correct_in w name ≡ b →
      times name order' ≡ length (history_in (member_in members' name))
  named_by name true correct =
      ap (times name) m.order_is ∙ names-times name m.run ∙ ap length (sym (own_history name correct))
  named_by name false lies =
      ap (times name) m.order_is ∙ names-times name m.run ∙ ap length (lies_none name lies)
      ∙ sym (ap (λ o. length (history_in o)) (member_is name false lies
      ∙ ap (λ b. if b then Some (node_in w' name) else None) lies))

  abbrev n : ℕ
  n = config.roles.sizes.nodes

  -- with room for one more message to all
  fits : length (pool config m.run) + n ≤ config.limit
  fits =
      let said : length sent' ≡ length (messages config m.run) = ap length m.sent_is in
      let index : count * n + 0 ≡ count * n = omega arith in
      let few : suc (length (messages config m.run)) ≤ length (messages config w.run) + count * n + 1 =
      omega (arith, m.few, said, index) in
      let rows : suc (length (messages config m.run)) * n ≤ (length (messages config w.run) + count * n + 1) * n =
      mul-le-mul_right n few in
      let product : suc (length (messages config m.run)) * n ≡ length (messages config m.run) * n + n = grind arith in
      omega (arith, pool-length config m.run, rows, product, marked.room)

  pub has_merged : HasMerged config liars w first count (length marks) members' order' sent'
  has_merged =
      let C : Run → Type 0 = λ r. IsClusterRun config liars r in
      let P : Run → Type 0 = λ r. length (pool config r) ≤ config.limit in
      let R : Run → Type 0 = λ r. nat_lt config.limit (length (pool config r) + n) ≡ false in
      let D : Run → Type 0 = λ r. IsProlonged w (with_run w r) in
      record {
        is = record {
          cluster = subst C (sym run_is) cluster';
          one_each = given.same ∙ is.one_each;
          nodes = λ name.
              member_is name (is_correct_in w name) refl ∙ ap (λ r. node_due (with_run w r) name) (sym run_is);
          named = λ name. named_by name (is_correct_in w name) refl;
          messages = m.sent_is ∙ ap (messages config) (sym run_is);
          within = subst P (sym run_is) (omega (arith, fits));
          limit = is.limit;
        };
        prolonged = subst D (sym run_is) m.prolonged;
        room = subst R (sym run_is) (not_over _ _ fits);
        due = λ all.
            let index : count * n + 0 ≡ count * n = omega arith in
            ap (with_run w) run_is ∙ m.due all ∙ ap (after_gives w (first * n)) index;
      }

-- As the code has it.

at_block : (sent : List Sent) (first count : ℕ) (j : ℕ) (s : Sent) → slice_get
    (take count (drop first sent)) j ≡ Some s →
    slice_get (drop first sent) j ≡ Some s
at_block sent first count j s at =
    let within : j < count = at_below count (drop first sent) j s at in
    sym (at_taken j count (drop first sent) within) ∙ at
  where
    at_below : (n : ℕ) (xs : List Sent) (j : ℕ) (s : Sent) → slice_get (take n xs) j ≡ Some s → j < n
    at_below zero xs j s at = absurd cc
    at_below (suc n) [] j s at = absurd cc
    at_below (suc n) (x ∷ xs) zero s at = omega arith
    at_below (suc n) (x ∷ xs) (suc j) s at = let h = at_below n xs j s at in omega (arith, h)

pub block_given : (config : ConfigValue) (liars : Nodes) (members : Members) (order : List ℕ) (sent : List Sent)
    (w : WorldValue) (first count : ℕ) (marks : List Mark) (members' : Members) (order' : List ℕ) (sent' : List Sent) →
    IsWorldIn config liars members order sent → world_in config liars members order ≡ w → IsBlock w first count →
    AreGiven members members' (take count (drop first sent)) marks →
    order' ≡ order ++ block_names marks count config.roles.sizes.nodes count →
    sent' ≡ sent ++ block_messages marks (drop first sent) count config.roles.sizes.nodes count →
    HasMerged config liars w first count (length marks) members' order' sent'
block_given config liars members order sent w first count marks members' order' sent' is same may given order_is
    sent_is =
    let start : WorldValue = world_in config liars members order in
    let may' : IsBlock start first count = subst (λ v. IsBlock v first count) (sym same) may in
    let block : List Sent = take count (drop first sent) in
    let said : length sent ≡ length (messages config start.run) = ap length is.messages in
    let long : length block ≡ count =
    taken-length count (drop first sent) (omega (arith, length-drop first sent, may'.within, said)) in
    let marked : IsMarked start first count block marks = record {
      cluster = is.cluster;
      long = long;
      block_is = λ j s at.
          ap (λ ms. slice_get ms (first + j)) (sym is.messages) ∙ sym (dropped-at first sent j)
          ∙ at_block sent first count j s at;
      room = may'.room;
      mark = λ name j s at early.
          let P : ℕ → Type 0 = λ c. name * c + j < length marks in
          let Q : ℕ → Type 0 = λ c. slice_get marks (name * c + j)
          ≡ Some (mark_in (node_due start name) (take j block) s) in
          subst Q long
          (given.mark name j s at (subst P (sym long) early)
          ∙ ap (λ o. Some (mark_in o (take j block) s)) (is.nodes name));
    } in
    let m = merged_block start first count block marks marked (drop first sent) (at_block sent first count) _ _
    (merged_none start first count block marks) count (omega arith) in
    let M : List ℕ → List Sent → Type 0 = λ o x. Merged start first count block marks count 0 o x in
    let o : names start.run ++ block_names marks count config.roles.sizes.nodes count ≡ order' =
    ap (λ ns. ns ++ block_names marks count config.roles.sizes.nodes count)
    (sym (order_is_names config liars members order sent is)) ∙ sym order_is in
    let x : messages config start.run ++ block_messages marks (drop first sent) count config.roles.sizes.nodes count
    ≡ sent' =
    ap (λ ms. ms ++ block_messages marks (drop first sent) count config.roles.sizes.nodes count) (sym is.messages)
    ∙ sym sent_is in
    let all : List Sent =
    messages config start.run ++ block_messages marks (drop first sent) count config.roles.sizes.nodes count in
    let moved : M order' sent' = subst (M order') x (subst (λ ns. M ns all) o m) in
    subst (λ v. HasMerged config liars v first count (length marks) members' order' sent') same
    (has_merged config liars members order sent is first count block marks members' given marked order' sent' moved)

-- where a member would record a message of the block, some packet of the pool would be
pub block_may_add : (config : ConfigValue) (liars : Nodes) (w : WorldValue) (first count long : ℕ) (members' : Members)
    (order' : List ℕ) (sent sent' more : List Sent) → HasMerged config liars w first count long members' order' sent' →
    sent' ≡ sent ++ more → SomeMayWant members' (take count (drop first sent)) →
    MayAdd (world_in config liars members' order')
unfolding pool
block_may_add config liars w first count long members' order' sent sent' more m longer (name, want) =
    by (member_in members' name) refl want
  where
    by : (o : Option NodeValue) → member_in members' name ≡ o → MayWant o (take count (drop first sent)) →
        MayAdd (world_in config liars members' order')
    by None e none = absurd none
    by (Some node) e (j, s, at, wanted) =
        let now : WorldValue = world_in config liars members' order' in
        let n : ℕ = config.roles.sizes.nodes in
        let here = node_is now name node (sym (m.is.nodes name) ∙ e) in
        let early : slice_get sent (first + j) ≡ Some s =
        sym (dropped-at first sent j) ∙ at_block sent first count j s at in
        let there : slice_get sent' (first + j) ≡ Some s =
        ap (λ xs. slice_get xs (first + j)) longer ∙ at_front sent more (first + j) s early in
        let said : Contains (messages config now.run) s =
        contained (messages config now.run) (first + j) s
        (ap (λ ms. slice_get ms (first + j)) (sym m.is.messages) ∙ there) in
        let p : PacketValue = packet_of s.0 name s.1 in
        let pooled = number_of (pool config now.run) p
        (flat_contains (packets_of n) (messages config now.run) s p said
        (to_each s.0 name n s.1 (correct_is_node config.roles.sizes liars name here.correct))) in
        let due = message_is_due config liars now.run m.is.cluster s name said in
        let counts : counts_now config now.run p ≡ true =
        sym (ap (λ v. wants v s) here.is ∙ ap (λ o. option_map_or (counts_at (node_in now name)) o false) due)
        ∙ wanted in
        let added' = added_is now m.is.cluster pooled.0 name s said pooled.1 m.room true true here.correct counts in
        (pooled.0, ap (λ (pairs : Run). nat_lt 0 (length pairs)) added')

-- Where a block begins.

within_by : (first count said n : ℕ) → 0 < n → (first + count) * n ≤ said * n → first + count ≤ said
within_by first count said n some h =
    ⊎_elim
    (λ (more : said < first + count).
    let rows : suc said * n ≤ (first + count) * n = mul-le-mul_right n (omega (arith, more)) in
    let product : suc said * n ≡ said * n + n = grind arith in
    absurd (omega (arith, rows, product, h, some)))
    (λ (fits : first + count ≤ said). fits)
    (cases_lt said (first + count))

divided : (x n : ℕ) → x / n * n ≤ x
divided x n = omega (arith, mod-add-div' x n)

pub block_starts : (w : WorldValue) (packet most count nodes pooled : ℕ) → 0 < w.config.roles.sizes.nodes →
    nodes ≡ w.config.roles.sizes.nodes → pooled ≡ length (pool w.config w.run) → packet < pooled → packet % nodes ≡ 0 →
    count ≡ min (min (pooled - packet) most / nodes) block_most → pooled +
    (count * nodes + 1) * nodes ≤ w.config.limit →
    StartsBlock w packet most count
block_starts w packet most count nodes pooled some same all early begins is fits =
    let n : ℕ = w.config.roles.sizes.nodes in
    let said : ℕ = length (messages w.config w.run) in
    let x : ℕ = min (pooled - packet) most in
    let B : ℕ → Type 0 = λ k. packet % k ≡ 0 in
    let C : ℕ → Type 0 = λ k. count ≡ min (x / k) block_most in
    let F : ℕ → Type 0 = λ k. pooled + (count * k + 1) * k ≤ w.config.limit in
    let begins' : B n = subst B same begins in
    let is' : C n = subst C same is in
    let fits' : F n = subst F same fits in
    let start : packet ≡ packet / n * n = omega (arith, mod-add-div' packet n, begins') in
    let few : count ≤ x / n = omega (arith, is') in
    let rows : count * n ≤ x / n * n = mul-le-mul_right n few in
    let short : count * n ≤ x = omega (arith, rows, divided x n) in
    let pooled_is : pooled ≡ said * n = all ∙ pool-length w.config w.run in
    let product : (packet / n + count) * n ≡ packet / n * n + count * n = grind arith in
    let room : (said + count * n + 1) * n ≡ said * n + (count * n + 1) * n = grind arith in
    record {
      start = start;
      most_is = omega (arith, short);
      block = record {
        few = omega (arith, is');
        within = within_by (packet / n) count said n some (omega (arith, product, start, short, early, pooled_is));
        room = omega (arith, room, fits', pooled_is);
      };
    }

-- its packets are of the pool
pub block_pooled : (w : WorldValue) (packet most count nodes : ℕ) → nodes ≡ w.config.roles.sizes.nodes →
    StartsBlock w packet most count → packet + count * nodes ≤ length (pool w.config w.run)
block_pooled w packet most count nodes same is =
    let n : ℕ = w.config.roles.sizes.nodes in
    let said : ℕ = length (messages w.config w.run) in
    let rows : (packet / n + count) * n ≤ said * n = mul-le-mul_right n is.block.within in
    let product : (packet / n + count) * n ≡ packet / n * n + count * n = grind arith in
    let P : ℕ → Type 0 = λ k. packet + count * k ≤ length (pool w.config w.run) in
    subst P (sym same) (omega (arith, rows, product, is.start, pool-length w.config w.run))

-- one packet that is given
pub one_is_given : (w : WorldValue) (packet : ℕ) → after_step w (Give packet) ≡ after_gives w packet 1
one_is_given w packet =
    ap (λ v. after_step v (Give packet)) (sym (after_steps-none w)) ∙ gives_next w packet 0 packet (omega arith)

-- As layers above count them.

pub after_gives-none : (w : WorldValue) (first : ℕ) → after_gives w first 0 ≡ w
after_gives-none w first = after_steps-none w

pub after_gives-next : (w : WorldValue) (first count : ℕ) →
    after_step (after_gives w first count) (Give (first + count)) ≡ after_gives w first (count + 1)
after_gives-next w first count = gives_next w first count (first + count) refl

-- the pool gets no smaller
pub after_gives-pool : (w : WorldValue) (first count : ℕ) →
    length (pool w.config w.run)
    ≤ length (pool (after_gives w first count).config (after_gives w first count).run)
after_gives-pool w first count =
    let n : ℕ = w.config.roles.sizes.nodes in
    let on = gives_prolong w (range_with_len first count) in
    let P : WorldValue → Type 0 = λ v. length (pool w.config w.run) ≤ length (pool v.config v.run) in
    let said = messages w.config w.run in
    let later = messages_after w.config w.run on.0 in
    let long : length (messages w.config (w.run ++ on.0)) ≡ length said + length later =
    ap length (messages-append w.config w.run on.0) ∙ length-append said later in
    let rows : length said * n ≤ length (messages w.config (w.run ++ on.0)) * n =
    mul-le-mul_right n (omega (arith, long)) in
    subst P (sym on.1)
    (omega (arith, rows, pool-length w.config w.run, pool-length w.config (w.run ++ on.0)))
