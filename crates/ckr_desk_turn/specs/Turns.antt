-- A turn of the desk, turns one after the other, and which job and which library a run begins on that continues another one.
use Rattle.std.specs.Prelude.{◌≡◌, ℕ, List, [], ◌∷◌, Some}
use Rattle.ckr_console.specs.declared.question.Answer.{Answer}
use Rattle.ckr_desk_turn.specs.declared.plan.Plan.{Plan}
use Rattle.ckr_desk_turn.specs.declared.plan.Plan.TheVariants.{Rest, Tell, Work, Pass, Take, Ask, Wait}
use Rattle.ckr_points.specs.declared.reply.Reply.{Reply}
use Rattle.ckr_desk_turn.specs.declared.reply.Turn.{Turn}
use Rattle.ckr_desk_turn.specs.declared.taking.Taking.{Taking}
use Rattle.ckr_desk_turn.specs.Desk.{DeskModel, TurnDone, answered, done_by, jobs_of, work_of}
use Rattle.ckr_desk_turn.specs.Invariant.{IsTurnOf}
use Rattle.ckr_desk_turn.specs.Jobs.{TurnJobs}
use Rattle.ckr_desk_turn.specs.Mounts.{plan_by}
use Rattle.ckr_desk_turn.specs.Plans.{plan_of}
use Rattle.ckr_desk_turn.specs.Taken.{taken_of}
use Rattle.ckr_points.specs.Office.{Leg, Office, continued_leg, leg_of}
use Rattle.ckr_points.specs.Restart.{spliced}
use Rattle.ckr_points.specs.Rows.{RunRow}
use Rattle.ckr_volumes.specs.declared.layout.Layout.{Layout}

-- a unit and a checkpoint come to what the running step decides, and a question to what the operator does
abbrev pub carried_out : Answer → Plan → DeskModel → TurnDone
carried_out answer (Rest reply) desk = done_by (Rest reply) desk
carried_out answer (Tell reply event) desk = done_by (Tell reply event) desk
carried_out answer (Work job) desk = work_of answer job desk
carried_out answer (Pass job reply) desk = done_by (Pass job reply) desk
carried_out answer (Take job) desk = taken_of job desk
carried_out answer (Ask inquiry) desk = answered answer (Ask inquiry) desk
carried_out answer (Wait job code) desk = done_by (Wait job code) desk

-- a turn, and what has become of the volumes that its step wants
pub record MountedTurn : Type 0 where
  pub turn : Turn
  pub taking : Taking

-- a turn of an initiator that the layout has, whatever has become of the volumes
abbrev pub IsMountedTurnOf : Layout → MountedTurn → Type 0
IsMountedTurnOf layout one = IsTurnOf layout one.turn

-- what it comes to
abbrev pub plan_for : Layout → TurnJobs → MountedTurn → Plan
plan_for layout jobs one = plan_by layout jobs.tables one.taking (plan_of layout jobs one.turn)

-- a turn, where the operator gives this answer if he is asked whether a run may be restarted
unfoldable pub turn_of : DeskModel → MountedTurn → Answer → TurnDone
turn_of desk one answer = carried_out answer (plan_for desk.layout (jobs_of desk) one) desk

-- a turn with that answer
pub record AnsweredTurn : Type 0 where
  pub turn : MountedTurn
  pub answer : Answer

-- a turn of an initiator that the layout has, whatever has become of the volumes and whatever the operator answers
abbrev pub IsAnsweredTurnOf : Layout → AnsweredTurn → Type 0
IsAnsweredTurnOf layout one = IsMountedTurnOf layout one.turn

-- the replies of turns, one after the other
abbrev pub replies_of : List AnsweredTurn → DeskModel → List Reply
replies_of [] desk = []
replies_of (one ∷ rest) desk = let done = turn_of desk one.turn one.answer in done.reply ∷ replies_of rest done.desk

-- the desk behind turns
abbrev pub desk_after : List AnsweredTurn → DeskModel → DeskModel
desk_after [] desk = desk
desk_after (one ∷ rest) desk = desk_after rest (turn_of desk one.turn one.answer).desk

-- A run that continues an earlier one at a step: its job is that one's steps up to it and its own later ones, and it begins on what that one
-- began on, under the names of that one's job, and under all others on what the ended jobs have left.
pub record BeginsOn (office behind : Office) (row : RunRow) (earlier step : ℕ) : Type 0 where
  pub other : Leg
  pub led : leg_of office earlier ≡ Some other
  pub at_step : row.earlier_step ≡ step
  pub job : row.job ≡ spliced other.job step row.number row.deck
  pub begins : leg_of behind row.number ≡ Some (continued_leg office row other)
