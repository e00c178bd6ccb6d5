use Rattle.std.proofs.Common.{◌≡◌, ◌∙◌, ℕ, sym, ap, subst, false}
use Rattle.ckr_entry.specs.declared.point.State.{State}
use Rattle.ckr_jcl.specs.declared.deck.Parm.{Parm}
use Rattle.ckr_steps.specs.declared.files.Files.{Files}
use Rattle.ckr_steps.specs.declared.step_run.StepRun.{StepRun}
use Rattle.ckr_steps.specs.Files.{files_of}
use Rattle.ckr_steps.specs.Inputs.{AreThere}
use Rattle.ckr_steps.specs.Places.{files_at, IsStepPlace}
use Rattle.ckr_steps.specs.Units.{IsCounted}
use Rattle.ckr_steps.proofs.Start.{stands-at_point, there-at_point}
use Rattle.ckr_steps.proofs.step_run.StepRun.at_point.Goals as goal

step_of : State → Parm → Files → ℕ → StepRun
step_of state parm files writes = record { state = state; parm = parm; files = files; writes = writes }

pub returns-clause-counted : goal.returns-clause-counted
returns-clause-counted c =
    subst (λ parm. IsCounted parm c.copied.result c.args.writes) (sym c.in_ok-duplicate.ensures)
    (subst (λ state. IsCounted c.args.step.now.parm state c.args.writes) (sym c.copied.ensures) c.requires.counted)

pub returns-clause-stands : goal.returns-clause-stands
unfolding step_of
returns-clause-stands c start layout library taken root owner step may of has =
    let parm = c.in_ok-duplicate.field-0 in
    let writes = c.args.writes in
    let files : files_at start ≡ c.in_ok-files_of.field-0 = (λ i. files_of (root i) (owner i) (step i)) ∙ sym c.in_ok-files_of.ensures in
    subst (λ f. IsStepPlace start taken false (step_of c.copied.result parm f writes) library) files
    (subst (λ s. IsStepPlace start taken false (step_of s parm (files_at start) writes) library) (sym c.copied.ensures)
    (stands-at_point layout start may library c.args.state.now c.args.writes has taken of parm (c.in_ok-duplicate.ensures ∙ ap (λ s. s.parm) (sym step))))

pub returns-clause-there : goal.returns-clause-there
returns-clause-there c start layout library root owner step may has first second =
    let files : files_at start ≡ c.in_ok-files_of.field-0 = (λ i. files_of (root i) (owner i) (step i)) ∙ sym c.in_ok-files_of.ensures in
    subst (λ f. AreThere f library) files (there-at_point layout start may library c.args.state.now c.args.writes has first second)
