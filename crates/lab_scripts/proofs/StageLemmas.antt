-- What is kept of a script, after one more line.
use Rattle.std.proofs.Common.{◌≡◌, ℕ, ◌<◌, ◌≤◌, Bool, true, false, cond, nat_lt, List, [], ◌∷◌, ◌++◌}
use Rattle.std.proofs.Common.{length, Option, Some, None, option_map, sym, refl, ap, ◌∙◌, arith, subst}
use Rattle.std.proofs.lemmas.Bool.Decides.{nat_tests}
use Rattle.std.proofs.lemmas.List.Elements.{All-nil, All-push}
use Rattle.std.specs.Str.{IsUtf8}
use Rattle.std.specs.Option.{option_or}
use Rattle.std.specs.FinSet as sets
use Rattle.quorum_sizes.specs.Sizes.{Counts, AreSizes}
use Rattle.quorum_sizes.specs.NodeSets.{Nodes}
use Rattle.role_commands.specs.Tables.{Table, no_roles}
use Rattle.role_commands.specs.TableFaults.{add_due}
use Rattle.role_commands.specs.declared.table.TableFault.{TableFault}
use Rattle.link_frames.specs.declared.frames.kind.Kind.TheVariants.{Send}
use Rattle.bracha_instance.specs.Broadcast.{Take}
use Rattle.bracha_instance.specs.States.{State, state}
use Rattle.bracha_instance.specs.Taking.{SendsAreFrom}
use Rattle.byz_world.specs.Worlds.{too_many_lie}
use Rattle.lab_scripts.specs.Grammar.{owner, IsFromNode, sizes_of_line, take_of_line}
use Rattle.lab_scripts.specs.inside.Kept.{lab_in}
use Rattle.lab_scripts.specs.Labs as labs
use Rattle.lab_scripts.specs.Labs.{lab_sizes, new_lab, after_order}
use Rattle.lab_scripts.specs.OrderTexts.{order_text}
use Rattle.lab_scripts.specs.Orders.{cluster_of_line, setup_of_line, order_of_line}
use Rattle.lab_scripts.specs.Scripts.{Script, Unread, OfInstance, OfSetup, OfCluster, most_line_bytes}
use Rattle.lab_scripts.specs.Scripts.{first_of_instance, first_of_cluster, after_take, table_after, one_too_many}
use Rattle.lab_scripts.specs.Scripts.{liars_after, after_setup, after_asking, after_cluster_line, after_line, next}
use Rattle.lab_scripts.specs.Stages.{Follows, Answers, StageAnswers}
use Rattle.lab_scripts.specs.Texts.{sizes_text, outcome_text}
use Rattle.lab_scripts.specs.declared.lab.Lab.{Lab}
use Rattle.lab_scripts.specs.declared.orders.ScriptLine.{ScriptLine}
use Rattle.lab_scripts.specs.declared.orders.SetupLine.{SetupLine}
use Rattle.lab_scripts.specs.declared.orders.SetupLine.TheVariants.{Owned, Liar}
use Rattle.lab_scripts.specs.declared.stage.Stage.{Stage}
use Rattle.lab_scripts.specs.declared.stage.Stage.TheVariants.{Start, Running, Setting, Living}
use Rattle.lab_scripts.proofs.LabSizes.{after_order-sizes, none_lie_too_many}
use Rattle.lab_scripts.proofs.PlainLines.{first_line-text, later_line-text, cluster_line-text}
use Rattle.lab_scripts.proofs.PlainLines.{setup_line-text, order_line-text}
use Rattle.lab_scripts.proofs.Spelled.{sizes_of_line_spelled}
use Rattle.lab_scripts.proofs.SpelledSetups.{cluster_of_line_spelled}

pub first_line-bad : (line : List ℕ) → sizes_of_line line ≡ None → cluster_of_line line ≡ None
    → StageAnswers (after_line Unread line) None
unfolding after_line
first_line-bad line e f = rw (e, f) tt

pub first_line-good : (line text : List ℕ) (s : Counts) (instance : State) → sizes_of_line line ≡ Some s
    → ((sizes : Counts) → instance ≡ state sizes []) → text ≡ sizes_text s
    → StageAnswers (after_line Unread line) (Some (Running s instance, text))
unfolding after_line Follows
first_line-good line text s instance e fresh is =
    rw e ((refl, (sizes_of_line_spelled line s e).1, fresh s, All-nil (λ t. t.kind ≡ Send → t.from ≡ owner)), is)

pub first_line-cluster : (line text : List ℕ) (s : Counts) (roles : Table) (liars : Nodes) → sizes_of_line line ≡ None
    → cluster_of_line line ≡ Some s → roles ≡ no_roles s → liars ≡ sets.empty
    → text ≡ sizes_text s → StageAnswers (after_line Unread line) (Some (Setting roles liars, text))
unfolding after_line Follows
first_line-cluster line text s roles liars none e fresh empty is =
    rw (none, e) ((fresh, empty, (cluster_of_line_spelled line s e).1, none_lie_too_many s), is)

pub later_line-bad : (s : Counts) (takes : List Take) (line : List ℕ) (stage : Stage) → take_of_line s line ≡ None
    → Answers (after_line (OfInstance s takes) line) stage None
unfolding after_line
later_line-bad s takes line stage e = rw e tt

pub SendsAreFrom-push : (s : Counts) (takes : List Take) (t : Take) → SendsAreFrom owner takes → IsFromNode s t
    → SendsAreFrom owner (takes ++ t ∷ [])
SendsAreFrom-push s takes t sends from = All-push (λ (u : Take). u.kind ≡ Send → u.from ≡ owner) takes t sends from.1

pub later_line-good : (s : Counts) (takes : List Take) (line text : List ℕ) (t : Take) (instance : State)
    → take_of_line s line ≡ Some t → IsFromNode s t → AreSizes s
    → SendsAreFrom owner takes → instance ≡ state s (takes ++ t ∷ []) → text ≡ outcome_text s takes t
    → Answers (after_line (OfInstance s takes) line) (Running s instance) (Some text)
unfolding after_line Follows
later_line-good s takes line text t instance e from are sends after is =
    rw e ((refl, are, after, SendsAreFrom-push s takes t sends from), is)

-- a line of allowed length
pub next-short : (script : Script) (line : List ℕ) → length line ≤ most_line_bytes → next script line
    ≡ after_line script line
unfolding next
next-short script line short = let within : nat_lt most_line_bytes (length line) ≡ false = grind (arith, nat_tests) in
    rw within refl

pub next-long : (script : Script) (line : List ℕ) → most_line_bytes < length line → next script line ≡ None
unfolding next
next-long script line long = let past : nat_lt most_line_bytes (length line) ≡ true = grind (arith, nat_tests) in
    rw past refl

-- a line of a cluster that is no text is bad
asking-bad : (lab : labs.Lab) (stage : Stage) (line : List ℕ) → AreSizes (lab_sizes lab) → (IsUtf8 line → ⊥)
    → Answers (after_cluster_line lab line) stage None
asking-bad lab stage line are not = bad (order_of_line (lab_sizes lab) line) refl
  where
    bad : (o : Option ScriptLine) → o ≡ order_of_line (lab_sizes lab) line →
        Answers (option_map (after_asking lab) o) stage None
    bad None e = tt
    bad (Some order) e = absurd (not (order_line-text (lab_sizes lab) line order are (sym e)))

-- a line that is no text is bad
pub no_text-bad : (script : Script) (stage : Stage) (line : List ℕ) → Follows stage script → (IsUtf8 line → ⊥)
    → Answers (after_line script line) stage None
unfolding after_line Follows
no_text-bad Unread stage line follows not = bad (sizes_of_line line) (cluster_of_line line) refl refl
  where
    bad : (o p : Option Counts) → o ≡ sizes_of_line line → p ≡ cluster_of_line line
        → Answers (option_or (option_map first_of_instance o) (option_map first_of_cluster p)) stage None
    bad None None e f = tt
    bad (Some s) p e f = absurd (not (first_line-text line s (sym e)))
    bad None (Some s) e f = absurd (not (cluster_line-text line s (sym f)))
no_text-bad (OfInstance s takes) Start line follows not = absurd follows
no_text-bad (OfInstance s takes) (Setting roles liars) line follows not = absurd follows
no_text-bad (OfInstance s takes) (Living lab) line follows not = absurd follows
no_text-bad (OfInstance s takes) (Running sizes instance) line follows not = bad (take_of_line s line) refl
  where
    bad : (o : Option Take) → o ≡ take_of_line s line →
        Answers (option_map (after_take s takes) o) (Running sizes instance) None
    bad None e = tt
    bad (Some t) e = absurd (not (later_line-text s line t follows.1 (sym e)))
no_text-bad (OfSetup roles liars) Start line follows not = absurd follows
no_text-bad (OfSetup roles liars) (Running sizes instance) line follows not = absurd follows
no_text-bad (OfSetup roles liars) (Living lab) line follows not = absurd follows
no_text-bad (OfSetup roles liars) (Setting table names) line follows not = bad (setup_of_line roles.sizes line) refl
  where
    bad : (o : Option SetupLine) → o ≡ setup_of_line roles.sizes line
        → Answers (option_or (option_map (after_setup roles liars) o) (after_cluster_line (new_lab roles liars) line))
        (Setting table names) None
    bad None e = asking-bad (new_lab roles liars) (Setting table names) line follows.2 not
    bad (Some setup) e = absurd (not (setup_line-text roles.sizes line setup follows.2 (sym e)))
no_text-bad (OfCluster lab) Start line follows not = absurd follows
no_text-bad (OfCluster lab) (Running sizes instance) line follows not = absurd follows
no_text-bad (OfCluster lab) (Setting roles liars) line follows not = absurd follows
no_text-bad (OfCluster lab) (Living kept) line follows not = asking-bad lab (Living kept) line follows.1 not

-- the answer at the first line, where the stage is that of no line
pub start-bad : (script : Script) (stage : Stage) (line : List ℕ) → stage ≡ Start → Follows stage script
    → StageAnswers (after_line Unread line) None → Answers (after_line script line) stage None
unfolding Follows
start-bad script stage line e follows bad = first script (subst (λ (s : Stage). Follows s script) e follows)
  where
    none : (o : Option (Script × List ℕ)) → StageAnswers o None → Answers o stage None
    none None h = tt
    none (Some due) h = absurd h

    first : (script : Script) → Follows Start script → Answers (after_line script line) stage None
    first Unread h = none (after_line Unread line) bad
    first (OfInstance s takes) h = absurd h
    first (OfSetup roles liars) h = absurd h
    first (OfCluster lab) h = absurd h

pub start-good : (script : Script) (stage after : Stage) (line text : List ℕ) → stage ≡ Start → Follows stage script
    → StageAnswers (after_line Unread line) (Some (after, text)) → Answers (after_line script line) after (Some text)
unfolding Follows
start-good script stage after line text e follows good =
    first script (subst (λ (s : Stage). Follows s script) e follows)
  where
    some : (o : Option (Script × List ℕ)) → StageAnswers o (Some (after, text)) → Answers o after (Some text)
    some None h = absurd h
    some (Some due) h = h

    first : (script : Script) → Follows Start script → Answers (after_line script line) after (Some text)
    first Unread h = some (after_line Unread line) good
    first (OfInstance s takes) h = absurd h
    first (OfSetup roles liars) h = absurd h
    first (OfCluster lab) h = absurd h

-- the answer at a later line
pub running : (script : Script) (stage after : Stage) (s : Counts) (instance : State) (line said : List ℕ)
    (text : Option (List ℕ)) → stage ≡ Running s instance → said ≡ line → Follows stage script
    → ((takes : List Take) → AreSizes s → instance ≡ state s takes → SendsAreFrom owner takes →
    Answers (after_line (OfInstance s takes) said) after text)
    → Answers (after_line script line) after text
unfolding Follows
running script stage after s instance line said text e same follows answers =
    subst (λ (l : List ℕ). Answers (after_line script l) after text) same
    (later script (subst (λ (s : Stage). Follows s script) e follows))
  where
    later : (script : Script) → Follows (Running s instance) script → Answers (after_line script said) after text
    later Unread h = absurd h
    later (OfSetup roles liars) h = absurd h
    later (OfCluster lab) h = absurd h
    later (OfInstance sizes takes) h =
        subst (λ (c : Counts). Answers (after_line (OfInstance c takes) said) after text) h.0
        (answers takes (subst AreSizes (sym h.0) h.1) (h.2 ∙ ap (λ c. state c takes) (sym h.0)) h.3)

-- the lines behind which there are only roles and liars
pub setting_follows : (script : Script) (stage : Stage) (roles : Table) (liars : Nodes) → stage ≡ Setting roles liars
    → Follows stage script
    → (script ≡ OfSetup roles liars) × AreSizes roles.sizes × (too_many_lie roles.sizes liars ≡ false)
unfolding Follows
setting_follows script stage roles liars e follows = are script (subst (λ (s : Stage). Follows s script) e follows)
  where
    are : (script : Script) → Follows (Setting roles liars) script
        → (script ≡ OfSetup roles liars) × AreSizes roles.sizes × (too_many_lie roles.sizes liars ≡ false)
    are Unread h = absurd h
    are (OfInstance s takes) h = absurd h
    are (OfSetup table names) h = (
      (λ i. OfSetup (sym h.0 i) (sym h.1 i)),
      subst (λ (t : Table). AreSizes t.sizes) (sym h.0) h.2,
      (λ i. too_many_lie (h.0 i).sizes (h.1 i)) ∙ h.3,
    )
    are (OfCluster lab) h = absurd h

-- the lines behind which something happened in a cluster
pub cluster_follows : (script : Script) (stage : Stage) (lab : Lab) → stage ≡ Living lab → Follows stage script
    → (script ≡ OfCluster (lab_in lab)) × AreSizes (lab_sizes (lab_in lab))
unfolding Follows
cluster_follows script stage lab e follows = are script (subst (λ (s : Stage). Follows s script) e follows)
  where
    are : (script : Script) → Follows (Living lab) script → (script ≡ OfCluster (lab_in lab))
        × AreSizes (lab_sizes (lab_in lab))
    are Unread h = absurd h
    are (OfInstance s takes) h = absurd h
    are (OfSetup table names) h = absurd h
    are (OfCluster due) h = (ap OfCluster (sym h.0), subst (λ (l : labs.Lab). AreSizes (lab_sizes l)) (sym h.0) h.1)

-- one more role or liar

same_table : (a b : Table) (x y : Nodes) → OfSetup a x ≡ OfSetup b y → (a ≡ b) × (x ≡ y)
same_table a b x y e = (cc, cc)

table_sizes : (roles : Table) (role by : ℕ) (fault : Option TableFault) → (table_after roles role by fault).sizes
    ≡ roles.sizes
table_sizes roles role by None = refl
table_sizes roles role by (Some fault) = refl

liars_few : (roles : Table) (liars : Nodes) (node : ℕ) → too_many_lie roles.sizes liars ≡ false
    → too_many_lie roles.sizes (liars_after roles liars node) ≡ false
liars_few roles liars node few = at (one_too_many roles liars node) refl
  where
    at : (b : Bool) → one_too_many roles liars node ≡ b
        → too_many_lie roles.sizes (cond b liars (sets.insert liars node)) ≡ false
    at true e = few
    at false e = e

setup_follows : (roles : Table) (liars : Nodes) (setup : SetupLine) (table : Table) (names : Nodes)
    → AreSizes roles.sizes
    → too_many_lie roles.sizes liars ≡ false → OfSetup table names ≡ (after_setup roles liars setup).0
    → Follows (Setting table names) (after_setup roles liars setup).0
unfolding Follows
setup_follows roles liars (Owned role by) table names are few is =
    let fault = add_due roles role by in
    let same = same_table table (table_after roles role by fault) names liars is in
    let sizes = table_sizes roles role by fault in
    (same.0, same.1, subst AreSizes (sym sizes) are, ap (λ s. too_many_lie s liars) sizes ∙ few)
setup_follows roles liars (Liar node) table names are few is =
    let same = same_table table roles names (liars_after roles liars node) is in
    (same.0, same.1, are, liars_few roles liars node few)

pub setup_line-good : (roles table : Table) (liars names : Nodes) (line text : List ℕ) (setup : SetupLine)
    → setup_of_line roles.sizes line ≡ Some setup → AreSizes roles.sizes → too_many_lie roles.sizes liars ≡ false
    → OfSetup table names ≡ (after_setup roles liars setup).0 → text ≡ (after_setup roles liars setup).1
    → Answers (after_line (OfSetup roles liars) line) (Setting table names) (Some text)
unfolding after_line
setup_line-good roles table liars names line text setup e are few is written =
    rw e (setup_follows roles liars setup table names are few is, written)

-- the first line that is no role's and no liar's
pub setup_ends : (roles : Table) (liars : Nodes) (line : List ℕ) → setup_of_line roles.sizes line ≡ None
    → after_line (OfSetup roles liars) line ≡ after_cluster_line (new_lab roles liars) line
unfolding after_line
setup_ends roles liars line e = rw e refl

pub cluster_goes_on : (lab : labs.Lab) (line : List ℕ) → after_line (OfCluster lab) line ≡ after_cluster_line lab line
unfolding after_line
cluster_goes_on lab line = refl

pub asking-some : (lab : labs.Lab) (new : Lab) (line text : List ℕ) (order : ScriptLine)
    → order_of_line (lab_sizes lab) line ≡ Some order → lab_in new ≡ after_order lab order
    → AreSizes (lab_sizes lab) → text ≡ order_text lab order
    → Answers (after_cluster_line lab line) (Living new) (Some text)
unfolding Follows
asking-some lab new line text order e is are written =
    rw e ((is, subst AreSizes (sym (after_order-sizes lab order)) are), written)
