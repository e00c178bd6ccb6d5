-- A run that continues an earlier one: whether an event has it do so, and what holds of the two where it may.
use Rattle.std.specs.Prelude.{◌≡◌, ◌==◌, ℕ, zero, suc, pred, Bool, true, false, not, Option, None, Some, slice_get}
use Rattle.std.specs.Option.{option_map_or, is_some}
use Rattle.ckr_events.specs.declared.event.Event.{Event}
use Rattle.ckr_events.specs.declared.event.Event.TheVariants.{Selected}
use Rattle.ckr_jcl.specs.declared.deck.Restart.{Restart}
use Rattle.ckr_jcl.specs.declared.deck.Step.{Step}
use Rattle.ckr_library.specs.NameMaps.{Name, same_name}
use Rattle.ckr_meaning.specs.EffectiveJob.{OwnedStep, step_at}
use Rattle.ckr_volumes.specs.declared.layout.Layout.{Layout}
use Rattle.ckr_points.specs.declared.run.RunState.TheVariants.{Queued}
use Rattle.ckr_points.specs.Follows.{is_free, is_in_state, may_hold}
use Rattle.ckr_points.specs.Marks.{point_at}
use Rattle.ckr_points.specs.Restart.{kept_at, syschk_name}
use Rattle.ckr_points.specs.RuleCases.{Wanted, has_present_marks, is_ended, number_named, stale_denial, was_selected}
use Rattle.ckr_points.specs.Rows.{KeptEntry, RunRow, StartPoint, TablesModel, run_of}
use Rattle.ckr_points.specs.Statements.{same_statements}

-- a run begins where an earlier one had come
abbrev pub continues : Event → Bool
continues (Selected job initiator zero step id) = false
continues (Selected job initiator (suc before) step id) = true
continues _ = false

-- a deferred restart by an earlier run, as it is judged
abbrev pub wanted_by : TablesModel → RunRow → RunRow → ℕ → Option Name → Wanted
wanted_by tables row other step id = record {
  number = step;
  checkpoint = is_some id;
  entry = option_map_or (λ text. kept_at tables.sets (syschk_name row.deck) text) id None;
  earlier = Some other;
  step = slice_get row.deck.steps (pred step);
}

-- the entry of a restart at a checkpoint marks each name of the step present
abbrev pub has_marks : RunRow → Wanted → OwnedStep → Bool
has_marks other wanted owned = option_map_or (λ entry. has_present_marks other owned entry.point) wanted.entry (not wanted.checkpoint)

-- the entry of a restart at a checkpoint is of the earlier run and of the step
abbrev pub IsEntryOf : RunRow → ℕ → Option Name → Option KeptEntry → Type 0
IsEntryOf other step None entry = Unit {0}
IsEntryOf other step (Some id) None = ⊥
IsEntryOf other step (Some id) (Some entry) = (entry.point.run ≡ other.number) × (entry.point.step ≡ step)

-- A run that continues another one may be selected.
pub record MayContinue (layout : Layout) (tables : TablesModel) (job initiator earlier step : ℕ) (id : Option Name) : Type 0 where
  pub row : RunRow
  pub row_at : run_of tables job ≡ Some row
  pub queued : is_in_state Queued row ≡ true
  pub free : is_free layout tables initiator ≡ true
  pub may : may_hold tables row ≡ true
  pub restart : Restart
  pub has : row.deck.restart ≡ Some restart
  pub numbered : restart.step ≡ step
  pub other : RunRow
  pub other_at : run_of tables earlier ≡ Some other
  pub selected : was_selected other ≡ true
  pub named : same_name other.deck.name row.deck.name ≡ true
  pub ended : is_ended other.state ≡ true
  pub point : StartPoint
  pub at_point : point_at other.points step ≡ Some point
  pub mine : Step
  pub its : slice_get row.deck.steps (pred step) ≡ Some mine
  pub owned : OwnedStep
  pub found : step_at other.job step ≡ Some owned
  pub same : same_statements owned.step mine ≡ true
  pub marks : has_marks other (wanted_by tables row other step id) owned ≡ true
  pub counted : (number_named other mine.name == step) ≡ true
  pub fresh : stale_denial row (wanted_by tables row other step id) tables ≡ None
  pub entry : IsEntryOf other step id (wanted_by tables row other step id).entry
