-- A run as it stands on the tables.
use Rattle.std.specs.Prelude.{◌≡◌, ◌≤◌, true}
use Rattle.std.specs.List.{list_all}
use Rattle.ckr_meaning.specs.EffectiveJob.{HasDistinctNames, OwnedStep}
use Rattle.ckr_points.specs.Rows.{RunRow}
use Rattle.ckr_points.specs.Syschk.{names_its_set}
use Rattle.ckr_points_deferred.specs.declared.runs.RunNow.{RunNow}
use Rattle.ckr_points_tables.specs.Rewrite.{has_master}
use Rattle.ckr_points_tables.specs.RunJobs.{IsFitting}
use Rattle.ckr_points_tables.specs.View.{row_of}

-- its row
abbrev pub row_now : RunNow → RunRow
row_now run = row_of run.line.now run.table.now

-- its number has at most seven digits, its job is within the limits, no name stands twice in a step, steps of UPDATE have a MASTER, and
-- SYSCHK, where it is given, names a data set
pub record IsRunNow (run : RunNow) : Type 0 where
  pub few : run.line.now.number ≤ 9999999
  pub fits : IsFitting (row_now run).job
  pub distinct : HasDistinctNames (row_now run).job
  pub masters : list_all (λ (own : OwnedStep). has_master own.step) (row_now run).job.steps ≡ true
  pub syschk : names_its_set (row_now run).deck.syschk ≡ true
