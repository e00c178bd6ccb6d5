use Rattle.std.proofs.Common.{◌≡◌, ◌∙◌, sym, ap, subst, false}
use Rattle.ckr_entry.specs.declared.point.State.{State}
use Rattle.ckr_jcl.specs.declared.deck.Parm.{Parm}
use Rattle.ckr_programs.specs.Ranges.{IsInRange}
use Rattle.ckr_steps.specs.declared.files.Files.{Files}
use Rattle.ckr_steps.specs.declared.step_run.StepRun.{StepRun}
use Rattle.ckr_steps.specs.Files.{files_of}
use Rattle.ckr_steps.specs.Inputs.{AreThere}
use Rattle.ckr_steps.specs.Places.{files_at, IsStepPlace}
use Rattle.ckr_steps.specs.Units.{IsCounted, first_state}
use Rattle.ckr_steps.proofs.Counts.{first_counted}
use Rattle.ckr_steps.proofs.Start.{begins, are_there}
use Rattle.ckr_steps.proofs.step_run.StepRun.begin.Goals as goal

step_of : State → Parm → Files → StepRun
step_of state parm files = record { state = state; parm = parm; files = files; writes = 0 }

pub returns-clause-counted : goal.returns-clause-counted
returns-clause-counted c =
    subst (λ state. IsCounted c.in_ok-duplicate.field-0 state 0) (sym c.first_state.ensures)
    (first_counted c.args.step.now.program c.in_ok-duplicate.field-0 (subst IsInRange (sym c.in_ok-duplicate.ensures) c.requires.parm))

pub returns-clause-stands : goal.returns-clause-stands
unfolding step_of
returns-clause-stands c start layout library root owner step may made =
    let parm = c.in_ok-duplicate.field-0 in
    let files : files_at start ≡ c.in_ok-files_of.field-0 = (λ i. files_of (root i) (owner i) (step i)) ∙ sym c.in_ok-files_of.ensures in
    let state : first_state start.owned.step.program ≡ c.first_state.result = ap (λ s. first_state s.program) step ∙ sym c.first_state.ensures in
    subst (λ f. IsStepPlace start 0 false (step_of c.first_state.result parm f) library) files
    (subst (λ s. IsStepPlace start 0 false (step_of s parm (files_at start)) library) state
    (begins layout start may library made parm (c.in_ok-duplicate.ensures ∙ ap (λ s. s.parm) (sym step))))

pub returns-clause-there : goal.returns-clause-there
returns-clause-there c start layout library root owner step may made first second =
    let files : files_at start ≡ c.in_ok-files_of.field-0 = (λ i. files_of (root i) (owner i) (step i)) ∙ sym c.in_ok-files_of.ensures in
    subst (λ f. AreThere f library) files (are_there layout start may library made first second)
