-- The memory for a turn in which the operator is asked for mounts: for what its plan comes to, and for the end of its run where he refuses one.
use Rattle.std.specs.Prelude.{◌≡◌, ℕ, Some, None}
use Rattle.ckr_events.specs.declared.event.Event.TheVariants.{Ended}
use Rattle.ckr_events.specs.declared.event.Ending.TheVariants.{Allocation}
use Rattle.ckr_points.specs.Rows.{RunRow, run_of}
use Rattle.ckr_desk_turn.specs.declared.plan.Plan.{Plan}
use Rattle.ckr_desk_turn.specs.declared.plan.Plan.TheVariants.{Ask, Tell}
use Rattle.ckr_desk_memory.specs.declared.preparation.Prepared.{Prepared}
use Rattle.ckr_desk_memory.specs.Preparation.{IsPrepared, IsPreparedFor}
use Rattle.ckr_desk_memory.specs.View.{JobsView}

-- no uses, and no step that starts
abbrev pub none_prepared : Prepared
none_prepared = record { uses = None; step = None }

-- a plan's event needs no more memory than this, if it tells one, and neither does whatever the operator answers, if it asks him
abbrev pub IsPreparedToTell : JobsView → Plan → Prepared → Type 0
IsPreparedToTell jobs (Tell reply event) prepared = IsPrepared jobs event None prepared
IsPreparedToTell jobs (Ask inquiry) prepared = IsPreparedFor jobs inquiry prepared
IsPreparedToTell jobs _ prepared = Unit {0}

pub record IsPreparedToMount (jobs : JobsView) (run : ℕ) (plan : Plan) (prepared : Prepared) : Type 0 where
  pub tells : IsPreparedToTell jobs plan prepared
  pub ends : (row : RunRow) → run_of jobs.tables.desk run ≡ Some row → (dd cause first second : ℕ) → IsPrepared jobs (Ended row.number (Allocation dd cause first second)) None none_prepared
