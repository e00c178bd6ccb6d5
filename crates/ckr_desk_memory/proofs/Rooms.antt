-- An event that needs no memory has its room, and memory for whatever the operator answers.
use Rattle.std.proofs.Common.{not, ◌==◌, ◌≡◌, ◌≤◌, ℕ, zero, suc, Bool, true, false, refl, ap, sym, ◌∙◌, subst, List, [], ◌∷◌, length, slice_get, Option, None, Some, Result, Ok, Err, IfOk, arith}
use Rattle.std.specs.Option.{is_some}
use Rattle.std.proofs.lemmas.Bool.{false≢true}
use Rattle.ckr_events.specs.declared.event.Ending.TheVariants.{Allocation}
use Rattle.ckr_events.specs.declared.event.Event.{Event}
use Rattle.ckr_events.specs.declared.event.Event.TheVariants.{Checkpointed, Ended, Restarted, Selected, Started, StepEnded, Submitted}
use Rattle.ckr_jcl.specs.declared.deck.Job.{Job}
use Rattle.ckr_base.specs.declared.code.Code.{Code}
use Rattle.ckr_points_tables.specs.Invariant.{CanEnd, CanRestart, HasRoom, entries_at, room_at}
use Rattle.ckr_points_tables.specs.Rooms.{HasNoLess, IsRoomier}
use Rattle.ckr_points_tables.specs.StepEnd.{HasPassedRoom}
use Rattle.ckr_points_tables.specs.View.{RoomyTables, RunRoom, TablesRoom}
use Rattle.ckr_points.specs.Restart.{place_of, step_in}
use Rattle.ckr_points.specs.Rows.{RunRow, run_of, step_of_run}
use Rattle.ckr_meaning.specs.EffectiveJob.{OwnedStep}
use Rattle.ckr_base.proofs.Options.{option-cases, some-not-none, some-one}
use Rattle.ckr_points_tables.proofs.SelectionRooms.{needs-none}
use Rattle.ckr_base.proofs.Numbers.{equal-true, suc-same, zero-not-suc}
use Rattle.ckr_desk_memory.specs.EventChanges.{HasUses}
use Rattle.ckr_desk_turn.specs.declared.inquiry.Inquiry.{Inquiry}
use Rattle.ckr_desk_plans.specs.declared.running_step.RunningStep.{RunningStep}
use Rattle.ckr_desk_memory.specs.declared.preparation.Prepared.{Prepared}
use Rattle.ckr_desk_memory.specs.Preparation.{HasGoingBack, HasQueueRoom, HasStarted, IsPrepared, IsPreparedFor, needs_room}
use Rattle.ckr_desk_memory.specs.MountMemory.{IsPreparedToMount, IsPreparedToTell, none_prepared}
use Rattle.ckr_desk_turn.specs.declared.plan.Plan.{Plan}
use Rattle.ckr_desk_memory.specs.View.{JobsView}

-- on the tables, in the queue, and for uses
pub record IsRoomFree (tables : RoomyTables) (queue : ℕ) (event : Event) (deck : Option Job) : Type 0 where
  pub tables_free : HasRoom tables event
  pub queue_free : HasQueueRoom event queue
  pub uses_free : HasUses event deck None

pub room-free : (tables : RoomyTables) (queue : ℕ) (event : Event) (deck : Option Job) → needs_room event ≡ false → IsRoomFree tables queue event deck
room-free tables queue (Submitted job cards) deck none = absurd (false≢true (sym none))
room-free tables queue (Selected job initiator earlier step id) deck none = record {
  tables_free = record { lists = tt; run = λ row one at there. needs-none tables row earlier step id (by (earlier == 0) refl none) };
  queue_free = tt;
  uses_free = tt;
}
  where
    by : (b : Bool) → (earlier == 0) ≡ b → not b ≡ false → earlier ≡ 0
    by true is none = equal-true earlier 0 is
    by false is none = absurd (false≢true (sym none))
room-free tables queue (Started job step items) deck none = absurd (false≢true (sym none))
room-free tables queue (Checkpointed job id taken writes lengths place bytes) deck none = absurd (false≢true (sym none))
room-free tables queue (StepEnded job step rc writes lengths) deck none = absurd (false≢true (sym none))
room-free tables queue (Restarted job initiator code checkpoint) deck none = absurd (false≢true (sym none))
room-free tables queue (Ended job ending) deck none = absurd (false≢true (sym none))
room-free tables queue _ deck none = record { tables_free = record { lists = tt; run = λ row one at there. tt }; queue_free = tt; uses_free = tt }

-- ---- whatever the operator answers

-- a run that is restarted has its step prepared, if it goes back to its checkpoint
starts_back : (jobs : JobsView) (job initiator : ℕ) (code : Code) (checkpoint : Bool) (step : Option RunningStep) → (checkpoint ≡ true → HasGoingBack jobs job step) → HasStarted (Restarted job initiator code checkpoint) jobs step
starts_back jobs job initiator code true step back = back refl
starts_back jobs job initiator code false step back = tt

pub prepared-for : (jobs : JobsView) (inquiry : Inquiry) (checkpoint : Bool) (prepared : Prepared) → checkpoint ≡ is_some inquiry.id → CanRestart jobs.tables inquiry.job checkpoint → CanEnd jobs.tables inquiry.job
    → (checkpoint ≡ true → HasGoingBack jobs inquiry.job prepared.step) → IsPreparedFor jobs inquiry prepared
prepared-for jobs inquiry checkpoint prepared is restart end back = record {
  restart =
      subst (λ b. IsPrepared jobs (Restarted inquiry.job inquiry.initiator inquiry.code b) None prepared) is (record {
        tables = record { lists = tt; run = restart };
        queue = tt;
        uses = tt;
        started = starts_back jobs inquiry.job inquiry.initiator inquiry.code checkpoint prepared.step back;
        points = tt;
      });
  refusal = record { tables = record { lists = tt; run = end }; queue = tt; uses = tt; started = tt; points = tt };
  hold = record { tables = record { lists = tt; run = λ row one at there. tt }; queue = tt; uses = tt; started = tt; points = tt };
}

-- ---- the room that is there stays

pub roomier-same : (room : TablesRoom) → IsRoomier room room
roomier-same room = record {
  sets = omega arith;
  kept = λ name. omega arith;
  runs = omega arith;
  lines = omega arith;
  sorted = omega arith;
  marks = omega arith;
  passed = omega arith;
  each = λ job one two first second. subst (HasNoLess one) (some-one one two (room_at room job) first second) (record { points = omega arith; codes = omega arith; passed = omega arith });
  writings = omega arith;
  entries = λ job one two first second. omega (arith, some-one one two (entries_at room job) first second);
}

-- where each run has its room, one that may end may end still
room_there : (each : List RunRoom) (runs : List RunRow) (place : ℕ) (row : RunRow) → length each ≡ length runs → slice_get runs place ≡ Some row → slice_get each place ≡ None → ⊥
room_there [] [] place row same at none = some-not-none row (sym at)
room_there [] (first ∷ runs) place row same at none = zero-not-suc (length runs) same
room_there (one ∷ each) [] place row same at none = zero-not-suc (length each) (sym same)
room_there (one ∷ each) (first ∷ runs) zero row same at none = some-not-none one none
room_there (one ∷ each) (first ∷ runs) (suc place) row same at none = room_there each runs place row (suc-same (length each) (length runs) same) at none

no_room : (old : RoomyTables) (run : ℕ) (row : RunRow) → length old.room.each ≡ length old.desk.runs → run_of old.desk run ≡ Some row → room_at old.room run ≡ None → ⊥
no_room old zero row same at none = some-not-none row (sym at)
no_room old (suc place) row same at none = room_there old.room.each old.desk.runs place row same at none

more_passed : (found : Option OwnedStep) (less more : ℕ) → less ≤ more → HasPassedRoom less found → HasPassedRoom more found
more_passed None less more le has = tt
more_passed (Some own) less more le has = omega (arith, le, has)

pub end-stays : (old new : RoomyTables) (run : ℕ) → length old.room.each ≡ length old.desk.runs → new.desk ≡ old.desk → IsRoomier old.room new.room → CanEnd old run → CanEnd new run
end-stays old new run same desk roomier can = λ row two at there.
    let at_old : run_of old.desk run ≡ Some row = ap (λ tables. run_of tables run) (sym desk) ∙ at in
    option-cases (room_at old.room run) (λ none. absurd (no_room old run row same at_old none))
    (λ one is.
    let has = can row one at_old is in
    let less = roomier.each run one two is there in
    record { passed = more_passed (step_of_run row (step_in (place_of row))) one.passed two.passed less.passed has.passed; codes = omega (arith, less.codes, has.codes) })

-- ---- for a refused mount

module _ (jobs : JobsView) (run : ℕ) (can : CanEnd jobs.tables run) where
  end-prepared : (number : ℕ) → number ≡ run → (dd cause first second : ℕ) → IsPrepared jobs (Ended number (Allocation dd cause first second)) None none_prepared
  end-prepared number is = λ dd cause first second. record { tables = record { lists = tt; run = subst (CanEnd jobs.tables) (sym is) can }; queue = tt; uses = tt; started = tt; points = tt }

  -- there is memory for the end of its run, and for what its plan tells
  pub mount-prepared : {E : Type 0} → ((row : RunRow) → run_of jobs.tables.desk run ≡ Some row → row.number ≡ run) → (plan : Plan) (result : Result Prepared E) → IfOk result (IsPreparedToTell jobs plan) → IfOk result (IsPreparedToMount jobs run plan)
  mount-prepared numbered plan (Ok prepared) tells = record { tells = tells; ends = λ row at. end-prepared row.number (numbered row at) }
  mount-prepared numbered plan (Err error) tells = tt
