-- Automatic restarts at a desk: a run with a code and what the rules say of it, and an event that the desk goes on by.
use Rattle.std.specs.Prelude.{◌≡◌, ℕ, Bool, true, if◌then◌else◌, Option, None, Some}
use Rattle.ckr_base.specs.declared.code.Code.{Code}
use Rattle.ckr_events.specs.declared.event.Event.{Event}
use Rattle.ckr_events.specs.declared.event.Event.TheVariants.{Restarted as RestartedEvent}
use Rattle.ckr_meaning.specs.StepRun.{StepStart}
use Rattle.ckr_points.specs.Follows.{is_within}
use Rattle.ckr_points.specs.Office.{Office}
use Rattle.ckr_points.specs.Restart.{place_of}
use Rattle.ckr_points.specs.Rows.{RunRow, run_of}
use Rattle.ckr_points.specs.declared.run.RunState.TheVariants.{Released}
use Rattle.ckr_meaning.specs.declared.place.Place.TheVariants.{Within}
use Rattle.ckr_rules.specs.declared.cases.Verdict.{Verdict}
use Rattle.ckr_volumes.specs.declared.layout.Layout.{Layout}
use Rattle.ckr_desk_turn.specs.declared.reply.Turn.{Turn}
use Rattle.ckr_desk_turn.specs.Codes.{verdict_for}
use Rattle.ckr_desk_turn.specs.Desk.{DeskModel, behind, jobs_of}
use Rattle.ckr_desk_turn.specs.Invariant.{IsDesk}
use Rattle.ckr_desk_turn.specs.Jobs.{is_failed, system_failure, waiting_code}
use Rattle.ckr_desk_turn.specs.NextEvents.{Comes, IsWithinStep}
use Rattle.ckr_desk_turn.specs.Select.{run_on_initiator}
use Rattle.ckr_points.specs.Payload.{start_in_office}

-- a run on its initiator within a step, running or marked since the system failed, and what the rules say of it after a code
pub record IsJudged (layout : Layout) (office : Office) (row : RunRow) (initiator : ℕ) (code : Code) (verdict : Verdict) : Type 0 where
  pub number : ℕ
  pub committed : ℕ
  pub start : StepStart
  pub within : IsWithinStep office row.number row number committed start
  pub lodged : row.initiator ≡ Some initiator
  pub judged : verdict_for layout row code ≡ verdict

-- a code that is given is none of a run that waits with one
abbrev pub code_among : Option Code → Option Code → Option Code
code_among None fail = fail
code_among (Some code) None = Some code
code_among (Some code) (Some given) = None

-- the code that a run has in its turn: that of the system failure where it is marked, else the one with which it waits, else the one that is given
abbrev pub code_of : DeskModel → RunRow → Option Code → Option Code
code_of desk row fail = if is_failed (jobs_of desk) row.number then Some system_failure else code_among (waiting_code (jobs_of desk) row.number) fail

-- a turn of an initiator whose run is within a step, and has a code in it
pub record HasCode (desk : DeskModel) (turn : Turn) (row : RunRow) (code : Code) : Type 0 where
  pub on : run_on_initiator desk.office.tables turn.initiator ≡ Some row
  pub within : is_within (place_of row) ≡ true
  pub coded : code_of desk row turn.fail ≡ Some code

-- a run that was released, within its step, and what the rules say of it after the code that it was held with
pub record IsJudgedOff (layout : Layout) (office : Office) (row : RunRow) (code : Code) (verdict : Verdict) : Type 0 where
  pub number : ℕ
  pub committed : ℕ
  pub start : StepStart
  pub row_at : run_of office.tables row.number ≡ Some row
  pub off : row.state ≡ Released
  pub place : place_of row ≡ Within number committed
  pub start_at : start_in_office office row ≡ Some start
  pub coded : row.code ≡ Some code
  pub judged : verdict_for layout row code ≡ verdict

-- the run is restarted on an initiator, at its checkpoint in effect or at the start of its step
abbrev pub restart_of : RunRow → ℕ → Code → Bool → Event
restart_of row initiator code checkpoint = RestartedEvent row.number initiator code checkpoint

-- an event may come and carries what the job gives, and the desk behind it is as its events have brought it about
pub record GoesOnBy (desk : DeskModel) (event : Event) : Type 0 where
  pub comes : Comes desk event
  pub kept : IsDesk (behind event None desk)
