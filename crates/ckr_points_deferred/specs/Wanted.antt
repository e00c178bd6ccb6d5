-- A deferred restart as it is judged, in code.
use Rattle.std.specs.Prelude.{ℕ, pred, Bool, false, ◌&&◌, not, if◌then◌else◌, slice_get, Option, Some, None}
use Rattle.std.specs.Option.{is_some, option_copied, option_map, option_map_or}
use Rattle.ckr_jcl.specs.declared.deck.Step.{Step}
use Rattle.ckr_library.specs.NameMaps.{Name}
use Rattle.ckr_meaning.specs.EffectiveJob.{OwnedStep, step_at}
use Rattle.ckr_points.specs.declared.denial.Denial.{Denial}
use Rattle.ckr_points.specs.RuleCases.{Wanted, entry_denial, has_present_marks, number_named, start_denial}
use Rattle.ckr_points.specs.Marks.{point_at}
use Rattle.ckr_points.specs.Restart.{kept_at, syschk_name}
use Rattle.ckr_points.specs.Statements.{same_statements}
use Rattle.ckr_points.specs.Rows.{RunRow, TablesModel}
use Rattle.ckr_points_deferred.specs.declared.wanted_now.WantedNow.{WantedNow}
use Rattle.ckr_points_deferred.specs.Runs.{row_now}
use Rattle.ckr_points_tables.specs.Entries.{entry_in}

-- what is wanted, as the rules see it
abbrev pub wanted_in : WantedNow → Wanted
wanted_in wanted = record {
  number = wanted.number;
  checkpoint = wanted.checkpoint;
  entry = option_map entry_in wanted.entry;
  earlier = option_map row_now wanted.earlier;
  step = option_copied wanted.step;
}

-- the denial by what the tables have of the needed names, at a step of the earlier run
abbrev pub step_denial : RunRow → Wanted → TablesModel → RunRow → OwnedStep → Option Denial
step_denial row wanted tables earlier owned =
    if wanted.checkpoint
    then option_map_or (λ entry. entry_denial row earlier wanted.number owned entry.point tables) wanted.entry None
    else start_denial row earlier wanted.number owned tables

-- whether a step has the statements of the earlier run's step of the wanted number, and the wanted entry marks its names present
abbrev pub is_same_at : RunRow → Wanted → Step → Bool
is_same_at earlier wanted step =
    option_map_or
    (λ owned. same_statements owned.step step && option_map_or (λ entry. has_present_marks earlier owned entry.point) wanted.entry (not wanted.checkpoint))
    (step_at earlier.job wanted.number) false

-- whether a run started a step itself, or went on in it
abbrev pub has_step_point : RunRow → Option Step → Bool
has_step_point earlier step = option_map_or (λ step. is_some (point_at earlier.points (number_named earlier step.name))) step false

-- what is wanted of an earlier run
abbrev pub wanted_by : TablesModel → RunRow → RunRow → ℕ → Option Name → Wanted
wanted_by tables row earlier step id = record {
  number = step;
  checkpoint = is_some id;
  entry = option_map_or (λ text. kept_at tables.sets (syschk_name row.deck) text) id None;
  earlier = Some earlier;
  step = slice_get row.deck.steps (pred step);
}
