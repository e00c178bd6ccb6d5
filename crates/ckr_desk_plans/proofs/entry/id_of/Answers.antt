use Rattle.std.proofs.Common.{◌≡◌, ◌+◌, List, ℕ, suc, ap, sym, ◌∙◌, add-one}
use Rattle.ckr_jcl.specs.declared.deck.Step.{Step}
use Rattle.ckr_desk_turn.specs.Checkpoints.{id_by, id_in}
use Rattle.ckr_desk_plans.specs.Entries.{next_id}
use Rattle.ckr_desk_plans.specs.Plans.{row_for}
use Rattle.ckr_desk_plans.proofs.EntryPoints.{read-so}
use Rattle.ckr_desk_plans.proofs.entry.id_of.Goals as goal

pub returns : goal.returns
returns c run owned same =
    let ids = owned.step.parm.ids.items in
    let text : c.id_text.result.items ≡ next_id (row_for run c.args.table.now) owned =
    c.id_text.ensures
    ∙ ap (λ (text : List ℕ). id_by text (c.from-in_run.result + 1) (c.from-in_step.result + 1)) (c.as_slice.ensures.value ∙ ap (λ (s : Step). s.parm.ids.items) (sym same))
    ∙ ap (λ n. id_by ids n (c.from-in_step.result + 1)) (add-one c.from-in_run.result ∙ ap suc c.from-in_run.ensures)
    ∙ ap (id_by ids (suc c.args.table.now.count)) (add-one c.from-in_step.result ∙ ap suc (c.from-in_step.ensures ∙ c.step_entries.ensures.value run)) in
    read-so c.read.result c.as_slice-2.result.now c.read.ensures.grammar c.read.ensures.value ∙ ap id_in (c.as_slice-2.ensures.value ∙ text)
