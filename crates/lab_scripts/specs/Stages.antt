-- What the program keeps of the lines so far. Serves the code, and no public contract.
use Rattle.std.specs.Prelude.{◌≡◌, ℕ, false, List, Option, Some, None, ⊤}
use Rattle.quorum_sizes.specs.Sizes.{AreSizes}
use Rattle.bracha_instance.specs.States.{state}
use Rattle.bracha_instance.specs.Taking.{SendsAreFrom}
use Rattle.byz_world.specs.Worlds.{too_many_lie}
use Rattle.lab_scripts.specs.Grammar.{owner}
use Rattle.lab_scripts.specs.inside.Kept.{lab_in}
use Rattle.lab_scripts.specs.Labs.{lab_sizes}
use Rattle.lab_scripts.specs.Scripts.{Script, Unread, OfInstance, OfSetup, OfCluster}
use Rattle.lab_scripts.specs.declared.stage.Stage.{Stage}
use Rattle.lab_scripts.specs.declared.stage.Stage.TheVariants.{Start, Running, Setting, Living}

-- the stage after these lines
unfoldable pub Follows : Stage → Script → Type 0
Follows Start Unread = ⊤
Follows (Running sizes instance) (OfInstance s takes) =
    (sizes ≡ s) × AreSizes s × (instance ≡ state s takes) × SendsAreFrom owner takes
Follows (Setting roles liars) (OfSetup table names) =
    (roles ≡ table) × (liars ≡ names) × AreSizes table.sizes × (too_many_lie table.sizes names ≡ false)
Follows (Living lab) (OfCluster due) = (lab_in lab ≡ due) × AreSizes (lab_sizes due)
Follows _ _ = ⊥

-- what a line did to the stage, and the text for it; nothing where the line is bad
abbrev pub Answers : Option (Script × List ℕ) → Stage → Option (List ℕ) → Type 0
Answers None stage None = ⊤
Answers None stage (Some text) = ⊥
Answers (Some due) stage None = ⊥
Answers (Some due) stage (Some text) = Follows stage due.0 × (text ≡ due.1)

-- the same of a line that makes a stage
abbrev pub StageAnswers : Option (Script × List ℕ) → Option (Stage × List ℕ) → Type 0
StageAnswers None None = ⊤
StageAnswers None (Some first) = ⊥
StageAnswers (Some due) None = ⊥
StageAnswers (Some due) (Some first) = Follows first.0 due.0 × (first.1 ≡ due.1)
