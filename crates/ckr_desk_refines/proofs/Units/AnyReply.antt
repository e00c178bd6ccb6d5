-- Whatever a unit came to, the turn tells what the desk tells of it.
use Rattle.std.proofs.Common.{◌≡◌, ℕ, List, Some}
use Rattle.ckr_console.specs.declared.question.Answer.{Answer}
use Rattle.ckr_desk_memory.specs.Plans.{told_by}
use Rattle.ckr_desk_memory.specs.View.{JobsView, RunningStepView, running_of}
use Rattle.ckr_points.specs.Rows.{RunRow, run_of}
use Rattle.ckr_steps.specs.declared.step_run.Worked.{Worked}
use Rattle.ckr_steps.specs.declared.step_run.Worked.TheVariants.{Went, Rewrite, Abend}
use Rattle.ckr_desk_turn.specs.Desk.{DeskModel}
use Rattle.ckr_desk_turn.specs.Turns.{MountedTurn}
use Rattle.ckr_volumes.specs.declared.layout.Layout.{Layout}
use Rattle.ckr_desk_refines.specs.Unit.{StandsBehindUnit}
use Rattle.ckr_desk_refines.proofs.Units.Codes.{told-coded}
use Rattle.ckr_desk_refines.proofs.Units.Rewrite.{told-rewriting}
use Rattle.ckr_desk_refines.proofs.Units.Replies.{TellsSo, told-went}

pub told-unit : (layout : Layout) (old : JobsView) (before after : List ℕ) (desk : DeskModel) (turn : MountedTurn) (run : ℕ) (on moved : RunningStepView) (worked : Worked) (answer : Answer) → StandsBehindUnit layout old before after desk turn run on moved worked
    → (row : RunRow) → run_of desk.office.tables run ≡ Some row → TellsSo answer run desk (told_by layout desk.office.tables row (running_of desk.office.tables moved) worked)
told-unit layout old before after desk turn run on moved (Went taken) answer unit = told-went layout old before after desk turn run on moved taken unit answer
told-unit layout old before after desk turn run on moved (Rewrite place image taken) answer unit = told-rewriting layout old before after desk turn run on moved place taken image unit answer
told-unit layout old before after desk turn run on moved (Abend code) answer unit = told-coded layout old before after desk turn run on moved code unit answer
