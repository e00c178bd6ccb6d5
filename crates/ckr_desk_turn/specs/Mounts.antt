-- The volumes that a step wants, how it comes by them, and what its turn comes to by that.
use Rattle.std.specs.Prelude.{ℕ, suc, ◌==◌, ◌&&◌, ◌||◌, nat_lt, Bool, true, false, if◌then◌else◌, List, [], ◌∷◌, filter, length, slice_get, Option, None, Some}
use Rattle.std.specs.List.{list_any, range_with_len}
use Rattle.std.specs.Option.{is_some, option_map_or}
use Rattle.ckr_console.specs.Answering.{Answering, answer_in_office, asked}
use Rattle.ckr_console.specs.declared.question.Answer.TheVariants.{Yes, No, Hold, Silent}
use Rattle.ckr_console.specs.declared.question.Question.{Question}
use Rattle.ckr_console.specs.declared.question.Question.TheVariants.{Mount}
use Rattle.ckr_events.specs.declared.event.Event.TheVariants.{Cancelled as CancelledEvent, Started as StartedEvent}
use Rattle.ckr_events.specs.declared.event.Made.{Made}
use Rattle.ckr_jcl.specs.declared.deck.Dd.{Dd}
use Rattle.ckr_library.specs.NameMaps.{Name, Named, entry_at}
use Rattle.ckr_library.specs.declared.sets.Part.{Part}
use Rattle.ckr_meaning.specs.EffectiveJob.{OwnedStep, name_of}
use Rattle.ckr_points.specs.Follows.{own_step}
use Rattle.ckr_points.specs.Rows.{RunRow, TableSet, TablesModel, run_of}
use Rattle.ckr_points_library.specs.declared.cause.Cause.{Cause}
use Rattle.ckr_points_library.specs.declared.cause.Cause.TheVariants.{Units, MountRefused}
use Rattle.ckr_queue.specs.Mounts.{MountTable, held_at, units_with, with_held, with_mount}
use Rattle.ckr_queue.specs.Units.{need_of, unit_for_of}
use Rattle.ckr_volumes.specs.declared.layout.Layout.{Layout}
use Rattle.ckr_volumes.specs.declared.layout.Volume.{Volume}
use Rattle.ckr_desk_turn.specs.declared.plan.Plan.{Plan}
use Rattle.ckr_desk_turn.specs.declared.plan.Plan.TheVariants.{Rest, Tell, Work}
use Rattle.ckr_points.specs.declared.reply.Reply.{Reply}
use Rattle.ckr_points.specs.declared.reply.Reply.TheVariants.{AwaitingReply, JobEnded, JobHeld, Restarted, StepEnded, WaitingUnits}
use Rattle.ckr_desk_turn.specs.declared.taking.Taking.{Taking}
use Rattle.ckr_desk_turn.specs.declared.taking.Taking.TheVariants.{Taken, Exceeds, Lacks, Refused, Awaited}
use Rattle.ckr_desk_turn.specs.Plans.{allocation_ended}

-- ---- what is wanted

-- whether a volume is the one that is looked for, or any is
abbrev pub is_sought : Option ℕ → ℕ → Bool
is_sought None volume = true
is_sought (Some sought) volume = volume == sought

-- the DD of a number makes its data set there
abbrev pub is_made_there : List Made → Option ℕ → ℕ → Bool
is_made_there items sought number = list_any (λ (item : Made). item.dd == number && is_sought sought item.volume) items

-- the data set of a DD is there
abbrev pub stands_there : Named TableSet → Option ℕ → Option Name → Bool
stands_there sets sought None = false
stands_there sets sought (Some name) =
    option_map_or (λ (table : TableSet). list_any (λ (part : Part). is_sought sought part.volume) table.set.parts.items) (entry_at sets name) false

-- the number of the first DD that is so, from a number on
abbrev pub first_dd : (ℕ → Dd → Bool) → ℕ → List Dd → Option ℕ
first_dd is_so number [] = None
first_dd is_so number (dd ∷ dds) = if is_so number dd then Some number else first_dd is_so (suc number) dds

-- a step, with the data sets of the tables, and the parts that it is about to make
pub record Wanting : Type 0 where
  pub sets : Named TableSet
  pub row : RunRow
  pub owned : OwnedStep
  pub items : List Made

-- the number of the first DD of a step whose data set is on the volume that is looked for
abbrev pub dd_on : Wanting → Option ℕ → Option ℕ
dd_on step sought =
    first_dd (λ number dd. is_made_there step.items sought number || stands_there step.sets sought (name_of step.row.job.root step.owned dd)) 1 step.owned.step.dds

-- the volumes of a step's data sets, ascending
abbrev pub volumes_of : Layout → Wanting → List ℕ
volumes_of layout step = filter (λ volume. is_some (dd_on step (Some volume))) (range_with_len 0 (length layout.volumes.items))

-- The run of the step that wants its volumes in a turn, and the parts that the step makes: it starts, works, or cancels restarts. A running step that
-- holds no units goes on behind a restart, where its checkpoint is done and it isn't closed: so nothing else is due in it.
abbrev pub wants : Plan → Option (ℕ × List Made)
wants (Tell reply (StartedEvent job step items)) = Some (job, items.items)
wants (Tell reply (CancelledEvent job)) = Some (job, [])
wants (Work job) = Some (job, [])
wants _ = None

-- the step that a run is before or in
abbrev pub wanting_in : TablesModel → ℕ × List Made → Option Wanting
wanting_in tables want =
    option_map_or
    (λ row. option_map_or (λ owned. Some (record { sets = tables.sets; row = row; owned = owned; items = want.1 })) (own_step row) None)
    (run_of tables want.0) None

abbrev pub wanting : TablesModel → Plan → Option Wanting
wanting tables plan = option_map_or (wanting_in tables) (wants plan) None

-- ---- what it comes to

-- the run ends at a DD, where there is one
abbrev pub ended_at : Wanting → Cause → Plan → Option ℕ → Plan
ended_at step cause plan None = plan
ended_at step cause plan (Some dd) = allocation_ended step.row step.owned dd cause

abbrev pub by_taking : Layout → Taking → Plan → Wanting → Plan
by_taking layout Taken plan step = plan
by_taking layout (Exceeds need) plan step = ended_at step (Units need layout.units) plan (dd_on step None)
by_taking layout (Lacks need free) plan step = Rest (WaitingUnits need free)
by_taking layout (Refused volume) plan step = ended_at step (MountRefused volume) plan (dd_on step (Some volume))
by_taking layout Awaited plan step = Rest AwaitingReply

-- what a turn comes to, by what has become of the volumes that its step wants
unfoldable pub plan_by : Layout → TablesModel → Taking → Plan → Plan
plan_by layout tables taking plan = option_map_or (by_taking layout taking plan) (wanting tables plan) plan

-- ---- how it comes by them

-- what has become of the volumes, those that the step takes, what the units carry then, and the operator behind what he was asked
pub record Attempt : Type 0 where
  pub taking : Taking
  pub takes : Option (List ℕ)
  pub mounts : MountTable
  pub operator : Option Answering

-- nothing is wanted, or the step has its volumes
abbrev pub at_hand : MountTable → Option Answering → Attempt
at_hand mounts operator = record { taking = Taken; takes = None; mounts = mounts; operator = operator }

-- nothing is taken
abbrev pub not_taken : Taking → MountTable → Option Answering → Attempt
not_taken taking mounts operator = record { taking = taking; takes = None; mounts = mounts; operator = operator }

-- may this volume be mounted on this unit?
abbrev pub mount_question : Layout → ℕ → ℕ → Question
mount_question layout volume unit = Mount (option_map_or (λ (one : Volume). one.serial) (slice_get layout.volumes.items volume) []) unit

-- the unit for a volume, where it is on none, beside these
abbrev pub unit_beside : List ℕ → ℕ → MountTable → Option ℕ
unit_beside volumes volume mounts = unit_for_of (units_with volumes mounts) volume

-- One question for each volume that isn't on a unit, in order. Yes mounts it; no and hold refuse it.
abbrev pub mounted_all : Layout → List ℕ → List ℕ → MountTable → Option Answering → Attempt
mounted_all layout volumes [] mounts operator = record { taking = Taken; takes = Some volumes; mounts = mounts; operator = operator }
mounted_all layout volumes (volume ∷ rest) mounts operator =
    elim (unit_beside volumes volume mounts) [
      | None ↦ mounted_all layout volumes rest mounts operator
      | Some unit ↦
          elim (answer_in_office (mount_question layout volume unit) operator) [
            | Yes ↦ mounted_all layout volumes rest (with_mount volume unit mounts) (asked operator)
            | No ↦ not_taken (Refused volume) mounts (asked operator)
            | Hold ↦ not_taken (Refused volume) mounts (asked operator)
            | Silent ↦ not_taken Awaited mounts (asked operator)
          ]
    ]

abbrev pub asked_for : Layout → List ℕ → MountTable → Option Answering → Attempt
asked_for layout volumes mounts operator =
    let need = need_of (units_with [] mounts) volumes in
    if nat_lt layout.units (length volumes) then not_taken (Exceeds (length volumes)) mounts operator
    else (if nat_lt need.free need.need then not_taken (Lacks need.need need.free) mounts operator
    else mounted_all layout volumes volumes mounts operator)

-- a step that holds its volumes has them
abbrev pub unless_held : Layout → List ℕ → MountTable → Option Answering → Option (List ℕ) → Attempt
unless_held layout volumes mounts operator (Some held) = at_hand mounts operator
unless_held layout volumes mounts operator None = asked_for layout volumes mounts operator

-- the volumes of a turn of an initiator that comes to this plan
unfoldable pub attempt_for : Layout → TablesModel → ℕ → Plan → MountTable → Option Answering → Attempt
attempt_for layout tables initiator plan mounts operator =
    option_map_or (λ step. unless_held layout (volumes_of layout step) mounts operator (held_at mounts initiator)) (wanting tables plan) (at_hand mounts operator)

-- ---- behind the turn

-- at these replies the step on the initiator gives its units up, if it holds any
abbrev pub gives_up : Reply → Bool
gives_up (StepEnded job step rc) = true
gives_up (JobEnded job how) = true
gives_up (Restarted job step id taken) = true
gives_up (JobHeld job) = true
gives_up AwaitingReply = true
gives_up _ = false

abbrev pub with_taken : ℕ → Option (List ℕ) → MountTable → MountTable
with_taken initiator None mounts = mounts
with_taken initiator (Some volumes) mounts = with_held initiator volumes mounts
