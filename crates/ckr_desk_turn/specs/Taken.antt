-- The turn by which a checkpoint of a running step is taken, with the desk behind it.
use Rattle.std.specs.Prelude.{ℕ, false, Option, None, Some}
use Rattle.std.specs.Option.{option_map_or}
use Rattle.ckr_events.specs.declared.event.Event.{Event}
use Rattle.ckr_points.specs.Rows.{RunRow, run_of}
use Rattle.ckr_desk_turn.specs.declared.plan.Plan.TheVariants.{Rest}
use Rattle.ckr_points.specs.declared.reply.Reply.TheVariants.{Idle}
use Rattle.ckr_desk_turn.specs.Checkpoints.{ServedTurn, checkpoint_turn}
use Rattle.ckr_desk_turn.specs.Desk.{DeskModel, TurnDone, behind, done_by, progress_of, with_progress}
use Rattle.ckr_points.specs.Payload.{start_in_office}

-- the desk behind the event of an entry, where one is written
abbrev pub behind_entry : Option Event → DeskModel → DeskModel
behind_entry None desk = desk
behind_entry (Some event) desk = behind event None desk

abbrev pub served_by : RunRow → ServedTurn → DeskModel → TurnDone
served_by row served desk = record {
  reply = served.reply;
  event = served.event;
  desk = with_progress row.number served.progress (behind_entry served.event desk);
  asked = false;
}

-- the checkpoint that is due in the running step of a run: it is written, doesn't fit or is suppressed
abbrev pub taken_of : ℕ → DeskModel → TurnDone
taken_of run desk =
    option_map_or
    (λ row.
    option_map_or
    (λ start. option_map_or (λ progress. served_by row (checkpoint_turn desk.office.tables row start progress) desk) (progress_of desk run) (done_by (Rest Idle) desk))
    (start_in_office desk.office row) (done_by (Rest Idle) desk))
    (run_of desk.office.tables run) (done_by (Rest Idle) desk)
