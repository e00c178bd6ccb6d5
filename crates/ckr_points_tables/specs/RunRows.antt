-- What holds of each run of the tables.
use Rattle.std.specs.Prelude.{◌≡◌, ◌≤◌, ℕ, true, IsTrue, length}
use Rattle.std.specs.List.{list_all}
use Rattle.ckr_meaning.specs.EffectiveJob.{HasDistinctNames, OwnedStep}
use Rattle.ckr_points.specs.Rows.{RunRow}
use Rattle.ckr_points.specs.Syschk.{names_its_set}
use Rattle.ckr_points_runs.specs.Rewrite.{has_master}
use Rattle.ckr_points_runs.specs.RunJobs.{IsFitting}
use Rattle.ckr_points_tables.specs.View.{facts_in, job_in, line_of}
use Rattle.ckr_points_runs.specs.RunJobs.{is_within_limits}
use Rattle.ckr_points_runs.specs.View.{row_with}

-- the row of the run of this number: it is told by its line and its facts, and has taken over the steps up to the one at which it continues another run
pub record IsRunRow (number : ℕ) (row : RunRow) : Type 0 where
  pub numbered : row.number ≡ number
  pub told : row ≡ row_with (line_of row) (facts_in row)
  pub few : number ≤ 9999999
  pub fits : IsFitting row.job
  pub limits : IsTrue (is_within_limits row.deck)
  pub distinct : HasDistinctNames row.job
  pub masters : list_all (λ (own : OwnedStep). has_master own.step) row.job.steps ≡ true
  pub syschk : names_its_set row.deck.syschk ≡ true
  pub taken : length (job_in row).taken ≡ row.earlier_step
