use Rattle.std.proofs.Common.{◌≡◌, Some, None, option_map, string_bytes, sym, ap, ◌∙◌, subst}
use Rattle.std.proofs.lemmas.Bool.{true≢false}
use Rattle.std.proofs.lemmas.Result.{IfOk-weaker}
use Rattle.quorum_sizes.specs.Sizes.{Counts, AreSizes}
use Rattle.role_commands.specs.Tables.{Table}
use Rattle.byz_world.specs.Worlds.{too_many_lie}
use Rattle.lab_scripts.specs.inside.Kept.{lab_in}
use Rattle.lab_scripts.specs.Labs as labs
use Rattle.lab_scripts.specs.Labs.{lab_sizes, new_lab}
use Rattle.lab_scripts.specs.Orders.{setup_of_line}
use Rattle.lab_scripts.specs.Scripts.{after_cluster_line}
use Rattle.lab_scripts.specs.Stages.{Answers}
use Rattle.lab_scripts.specs.declared.stage.Stage.TheVariants.{Living}
use Rattle.lab_scripts.proofs.StageLemmas.{setting_follows, cluster_follows, setup_line-good, setup_ends}
use Rattle.lab_scripts.proofs.StageLemmas.{cluster_goes_on, next-short, no_text-bad, start-bad, start-good, running}
use Rattle.lab_scripts.proofs.stage.answer.Goals as goal

pub returns-in_default : goal.returns-in_default
returns-in_default c script follows =
    rw (next-short script c.args.line.now c.requires) (no_text-bad script _ _ follows c.in_default.ensures.cases.0)

pub returns-in_default-2 : goal.returns-in_default-2
returns-in_default-2 c script follows =
    rw (next-short script c.args.line.now c.requires)
    (start-bad script _ _ c.in-Start.is follows
    (rw c.in-Ok.ensures.cases.0 at (rw c.in_default-2.is at c.in_ok-first-in-Start.ensures)))

pub returns-in-Some : goal.returns-in-Some
returns-in-Some c script follows =
    rw (next-short script c.args.line.now c.requires)
    (start-good script _ _ _ _ c.in-Start.is follows
    (rw c.in-Ok.ensures.cases.0 at (rw c.in-Some.is at c.in_ok-first-in-Start.ensures)))

pub returns-in-Running : goal.returns-in-Running
returns-in-Running c =
    IfOk-weaker c.later_line.result _ _
    (λ text answers script follows.
    rw (next-short script c.args.line.now c.requires)
    (running script _ _ _ _ c.args.line.now c.in-Ok.text.now (option_map string_bytes text) c.in-Running.is
    c.in-Ok.ensures.cases.0 follows answers))
    c.later_line.ensures

pub returns-in-Some-setup_of_line : goal.returns-in-Some-setup_of_line
returns-in-Some-setup_of_line c script follows =
    let (is, are, few) = setting_follows script _ _ _ c.in-Setting.is follows in
    let read : setup_of_line c.in-Setting.roles.sizes c.in-Ok.text.now ≡ Some c.in-Some-setup_of_line.setup =
    subst (λ (s : Counts). setup_of_line s c.in-Ok.text.now ≡ Some c.in-Some-setup_of_line.setup) c.sizes.ensures.value
    (sym c.setup_of_line.ensures ∙ c.in-Some-setup_of_line.is) in
    rw (next-short script c.args.line.now c.requires, is)
    (setup_line-good _ _ _ _ _ _ _ (rw c.in-Ok.ensures.cases.0 at read) are few
    c.in_ok-set_up-in-Setting.ensures.after c.in_ok-set_up-in-Setting.ensures.text)

pub returns-in-Living : goal.returns-in-Living
returns-in-Living c =
    IfOk-weaker c.cluster_line-in-Living.result _ _
    (λ text answers script follows.
    let (is, are) = cluster_follows script _ _ c.in-Living.is follows in
    rw (next-short script c.args.line.now c.requires, is, cluster_goes_on _ _)
    (rw c.in-Ok.ensures.cases.0 at (answers are)))
    c.cluster_line-in-Living.ensures

pub returns-in_default-3 : goal.returns-in_default-3
returns-in_default-3 c script follows =
    let (is, are, few) = setting_follows script _ _ _ c.in-Setting.is follows in
    let many = rw c.in_default-3.is at c.in_ok-lab-in-Setting.ensures.none in
    absurd (true≢false (sym many
    ∙ ap (λ (t : Table). too_many_lie t.sizes c.in-Setting.liars) c.in_ok-copy-in-Setting.ensures ∙ few))

pub returns-in_ok-answer-in-Setting : goal.returns-in_ok-answer-in-Setting
returns-in_ok-answer-in-Setting c script follows =
    let (is, are, few) = setting_follows script _ _ _ c.in-Setting.is follows in
    let unset : setup_of_line c.in-Setting.roles.sizes c.in-Ok.text.now ≡ None =
    subst (λ (s : Counts). setup_of_line s c.in-Ok.text.now ≡ None) c.sizes.ensures.value
    (sym c.setup_of_line.ensures ∙ c.in_default-setup_of_line.is) in
    let made = rw c.in-Some-2.is at c.in_ok-lab-in-Setting.ensures.some in
    let new : lab_in c.in-Some-2.lab ≡ new_lab c.in-Setting.roles c.in-Setting.liars =
    made ∙ ap (λ (t : Table). new_lab t c.in-Setting.liars) c.in_ok-copy-in-Setting.ensures in
    let answers = c.in_ok-answer-in-Setting.ensures (subst (λ (l : labs.Lab). AreSizes (lab_sizes l)) (sym new) are) in
    let told = subst
    (λ (l : labs.Lab). Answers (after_cluster_line l c.in-Ok.text.now) (Living c.cluster_line.new.lab)
    (option_map string_bytes c.in_ok-answer-in-Setting.answer)) new answers in
    rw (next-short script c.args.line.now c.requires, is)
    (rw (setup_ends c.in-Setting.roles c.in-Setting.liars c.args.line.now (rw c.in-Ok.ensures.cases.0 at unset))
    (rw c.in-Ok.ensures.cases.0 at told))
