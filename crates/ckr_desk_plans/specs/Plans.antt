-- What a turn comes to, by what the tables keep of a run and its running step.
use Rattle.std.specs.Prelude.{◌≡◌, ℕ, Bool, true, false, [], None}
use Rattle.ckr_events.specs.Format.{length_list}
use Rattle.ckr_events.specs.declared.event.Ending.{Ending}
use Rattle.ckr_events.specs.declared.event.Ending.TheVariants.{Coded}
use Rattle.ckr_events.specs.declared.event.Event.{Event}
use Rattle.ckr_events.specs.declared.event.Event.TheVariants.{Rewritten as RewrittenEvent, Restarted as RestartedEvent, Held as HeldEvent, Ended as EndedEvent}
use Rattle.ckr_points.specs.declared.run.RunState.TheVariants.{On}
use Rattle.ckr_library.specs.NameMaps.{Name}
use Rattle.ckr_points.specs.Rows.{KeptEntry, RunRow}
use Rattle.ckr_steps.specs.declared.unit_ahead.UnitAhead.{UnitAhead}
use Rattle.ckr_steps.specs.StepUnit.{behind_ahead}
use Rattle.ckr_steps.specs.Writes.{grown}
use Rattle.ckr_points_tables.specs.Model.RunTable.{RunTable}
use Rattle.ckr_points_tables.specs.View.{facts_of, row_with}
use Rattle.ckr_desk_turn.specs.declared.inquiry.Inquiry.{Inquiry}
use Rattle.ckr_desk_turn.specs.declared.plan.Plan.{Plan}
use Rattle.ckr_desk_turn.specs.declared.plan.Plan.TheVariants.{Rest, Tell, Work, Pass, Take, Ask, Wait}
pub use Rattle.ckr_points.specs.Replies.{HasCode, IsToldReply}
use Rattle.ckr_desk_turn.specs.Codes.{CodePlaceModel as ReachedByTurn}
use Rattle.ckr_desk_turn.specs.Spelling.{IsCode, IsSpelled}
use Rattle.ckr_desk_plans.specs.declared.run_code.CodePlace.{CodePlace}
use Rattle.ckr_desk_plans.specs.StepView.{RunningStepView}

-- a run by its number and by what the tables keep of it; a plan asks no more of its line
abbrev pub row_for : ℕ → RunTable → RunRow
row_for number table = row_with (record { number = number; name = []; state = On; initiator = None }) (facts_of table)

abbrev pub reached_seen : CodePlace → ReachedByTurn
reached_seen reached = record { writes = reached.writes; lengths = reached.lengths.items }

-- the events of all answers to what the operator is asked have a spelling
pub record IsSpelledInquiry (inquiry : Inquiry) : Type 0 where
  pub code : IsCode inquiry.code
  pub lengths : length_list.fits inquiry.lengths.items

-- the event of a plan, if there is one, has a spelling, and so have the code of its reply and the one with which a run waits
abbrev pub IsSpelledPlan : Plan → Type 0
IsSpelledPlan (Rest reply) = IsToldReply reply
IsSpelledPlan (Tell reply event) = IsSpelled event × IsToldReply reply
IsSpelledPlan (Work job) = Unit {0}
IsSpelledPlan (Pass job reply) = IsToldReply reply
IsSpelledPlan (Take job) = Unit {0}
IsSpelledPlan (Ask inquiry) = IsSpelledInquiry inquiry
IsSpelledPlan (Wait job code) = IsCode code

-- whether a run ends by a code
abbrev pub is_coded : Ending → Bool
is_coded (Coded code rule writes lengths) = true
is_coded _ = false

-- what a unit tells, if it tells an event: a rewrite in place, or the end, the hold or the restart of its run after a code
abbrev pub is_unit_event : Event → Bool
is_unit_event (RewrittenEvent job taken writes lengths place image) = true
is_unit_event (RestartedEvent job initiator code checkpoint) = true
is_unit_event (HeldEvent job code writes lengths) = true
is_unit_event (EndedEvent job ending) = is_coded ending
is_unit_event _ = false

abbrev pub IsUnitPlan : Plan → Type 0
IsUnitPlan (Rest reply) = Unit {0}
IsUnitPlan (Tell reply event) = is_unit_event event ≡ true
IsUnitPlan (Work job) = ⊥
IsUnitPlan (Pass job reply) = ⊥
IsUnitPlan (Take job) = ⊥
IsUnitPlan (Ask inquiry) = Unit {0}
IsUnitPlan (Wait job code) = Unit {0}

-- a running step behind a unit that was worked out, with its data sets; the run of one that works waits with no code
abbrev pub behind_unit : RunningStepView → UnitAhead → RunningStepView
behind_unit on ahead = record {
  run = on.run;
  step = behind_ahead on.step ahead;
  sets = record on.sets { sets = grown on.step.files ahead.writes.items on.sets.sets };
  code = None;
}

-- what a turn tells of the entry of a checkpoint: its identifier, and the records taken there
abbrev pub told_entry : KeptEntry → Name × ℕ
told_entry entry = (entry.kept.id, entry.point.taken)
