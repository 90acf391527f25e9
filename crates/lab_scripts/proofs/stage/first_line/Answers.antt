use Rattle.std.proofs.Common.{sym, ◌∙◌}
use Rattle.lab_scripts.proofs.StageLemmas.{first_line-bad, first_line-good, first_line-cluster}
use Rattle.lab_scripts.proofs.stage.first_line.Goals as goal

pub returns-in-Some : goal.returns-in-Some
returns-in-Some c =
    first_line-good _ _ _ _ (sym c.sizes_of_line.ensures ∙ c.in-Some.is) c.new-instance.ensures c.in_ok-text.ensures

pub returns-in_default-cluster_of_line : goal.returns-in_default-cluster_of_line
returns-in_default-cluster_of_line c =
    first_line-bad _ (sym c.sizes_of_line.ensures ∙ c.in_default.is)
    (sym c.cluster_of_line.ensures ∙ c.in_default-cluster_of_line.is)

pub returns : goal.returns
returns c =
    first_line-cluster _ _ _ _ _ (sym c.sizes_of_line.ensures ∙ c.in_default.is)
    (sym c.cluster_of_line.ensures ∙ c.in-Some-cluster_of_line.is)
    c.new-roles.ensures c.new-liars.ensures c.in_ok-text-2.ensures
