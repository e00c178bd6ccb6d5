-- A code: the rule by which the run isn't restarted, and its end, or what the operator is asked.
use Rattle.std.specs.Prelude.{ℕ, Bool, false, List, [], Option, None, Some}
use Rattle.std.specs.Option.{option_map_or}
use Rattle.ckr_base.specs.declared.code.Code.{Code}
use Rattle.ckr_events.specs.declared.event.Event.TheVariants.{Ended as EndedEvent}
use Rattle.ckr_events.specs.declared.event.Ending.TheVariants.{Coded as CodedEnding}
use Rattle.ckr_library.specs.NameMaps.{Name}
use Rattle.ckr_points.specs.RuleCases.{auto_case}
use Rattle.ckr_points.specs.Restart.{place_of, step_in}
use Rattle.ckr_points.specs.Rows.{KeptEntry, RunRow, TablesModel, step_of_run}
use Rattle.ckr_points.specs.Payload.{lengths_kept, writes_in}
use Rattle.ckr_rules.specs.RuleTables.{automatic, rule_number}
use Rattle.ckr_rules.specs.declared.cases.Rule.{Rule}
use Rattle.ckr_rules.specs.declared.cases.Rule.TheVariants.{A6}
use Rattle.ckr_rules.specs.declared.cases.Verdict.{Verdict}
use Rattle.ckr_rules.specs.declared.cases.Verdict.TheVariants.{Step, Checkpoint, Denied}
use Rattle.ckr_volumes.specs.declared.layout.Layout.{Layout}
use Rattle.ckr_desk_turn.specs.declared.inquiry.Inquiry.{Inquiry}
use Rattle.ckr_desk_turn.specs.declared.plan.Plan.{Plan}
use Rattle.ckr_desk_turn.specs.declared.plan.Plan.TheVariants.{Ask, Tell}
use Rattle.ckr_points.specs.declared.reply.How.TheVariants.{Abended}
use Rattle.ckr_points.specs.declared.reply.Reply.TheVariants.{JobEnded}
use Rattle.ckr_desk_turn.specs.Jobs.{TurnJobs, TurnStep, effect_entry, running_in, step_name_of}

-- how far a run with a code has come: the writes of its running step and the lengths with them, else the committed ones
pub record CodePlaceModel : Type 0 where
  pub writes : ℕ
  pub lengths : List ℕ

abbrev pub kept_reached : TurnJobs → RunRow → CodePlaceModel
kept_reached jobs row = record {
  writes = writes_in (place_of row);
  lengths = option_map_or (λ owned. lengths_kept row.job.root owned jobs.tables.sets) (step_of_run row (step_in (place_of row))) [];
}

abbrev pub running_reached : TurnStep → CodePlaceModel
running_reached step = record { writes = step.writes; lengths = step.lengths }

abbrev pub reached_by : TurnJobs → RunRow → CodePlaceModel
reached_by jobs row = option_map_or running_reached (running_in jobs row.number) (kept_reached jobs row)

-- a run ends with a code by a rule
abbrev pub ended_by : RunRow → Code → Rule → CodePlaceModel → Plan
ended_by row code rule reached =
    Tell (JobEnded row.number (Abended code rule))
    (EndedEvent row.number (CodedEnding code (rule_number rule) reached.writes (record { items = reached.lengths })))

-- what the operator is asked of a run that has a code: it is on the initiator, or comes to it; it would go on at this checkpoint, or without one at the
-- start of its step
abbrev pub inquiry_of : RunRow → ℕ → Bool → Code → CodePlaceModel → Option Name → ℕ → Inquiry
inquiry_of row initiator lodged code reached id taken = record {
  job = row.number;
  step = step_name_of row;
  initiator = initiator;
  lodged = lodged;
  code = code;
  id = id;
  taken = taken;
  writes = reached.writes;
  lengths = record { items = reached.lengths };
}

abbrev pub asked_at_start : RunRow → ℕ → Bool → Code → CodePlaceModel → Plan
asked_at_start row initiator lodged code reached = Ask (inquiry_of row initiator lodged code reached None 0)

abbrev pub asked_at_entry : RunRow → ℕ → Bool → Code → CodePlaceModel → KeptEntry → Plan
asked_at_entry row initiator lodged code reached entry = Ask (inquiry_of row initiator lodged code reached (Some entry.kept.id) entry.point.taken)

-- what the rules say of a run after a code, where the operator doesn't refuse its restart
abbrev pub verdict_for : Layout → RunRow → Code → Verdict
verdict_for layout row code = automatic (auto_case row (step_in (place_of row)) layout.eligible.items code false)

-- What becomes of the run by that: it ends by the rule that denies a restart, or the operator is asked. A desk always has the entry of the checkpoint at
-- which the rules restart a run, and the end in its place is for totality alone.
abbrev pub judged_plan : TablesModel → RunRow → ℕ → Bool → Code → CodePlaceModel → Verdict → Plan
judged_plan tables row initiator lodged code reached (Denied rule) = ended_by row code rule reached
judged_plan tables row initiator lodged code reached Step = asked_at_start row initiator lodged code reached
judged_plan tables row initiator lodged code reached Checkpoint =
    option_map_or (asked_at_entry row initiator lodged code reached) (effect_entry tables row) (ended_by row code A6 reached)

-- a turn of an initiator in which a run has a code
abbrev pub code_plan : Layout → TablesModel → RunRow → ℕ → Bool → Code → CodePlaceModel → Plan
code_plan layout tables row initiator lodged code reached = judged_plan tables row initiator lodged code reached (verdict_for layout row code)

-- the initiator that a run is on
abbrev pub initiator_of : RunRow → ℕ
initiator_of row = option_map_or (λ initiator. initiator) row.initiator 0
