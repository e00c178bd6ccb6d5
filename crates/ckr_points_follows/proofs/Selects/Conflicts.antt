-- The uses of two decks hold against each other where a use of a DD of one keeps out that of a DD of the other.
use Rattle.std.proofs.Common.{◌≡◌, ℕ, ◌&&◌, ◌||◌, Bool, true, false, not, map, flat_map, slice_get, suc, refl, ap, sym, ◌∙◌, Some}
use Rattle.std.specs.Option.{is_some, option_and_then, option_map_or, option_to_list}
use Rattle.std.specs.List.{list_all, list_any}
use Rattle.std.proofs.lemmas.Bool.{false≢true}
use Rattle.std.proofs.lemmas.List.Folds.{list_all-map, list_any-append}
use Rattle.ckr_jcl.specs.declared.deck.Job.{Job}
use Rattle.ckr_library.specs.declared.uses.Use.{Use}
use Rattle.ckr_uses.specs.Uses.{collides, holds, own_qualifier, use_of_syschk, uses_in_step, uses_of, uses_of_dds}
use Rattle.ckr_uses.proofs.Conflicts.{holds-merged}
use Rattle.ckr_points.specs.Follows.{may_hold}
use Rattle.ckr_points.specs.Office.{is_holder}
use Rattle.ckr_points.specs.Rows.{RunRow, TablesModel, run_of}
use Rattle.ckr_points.specs.declared.run.Run.{Run}
use Rattle.ckr_points.specs.declared.run.RunState.{RunState}
use Rattle.ckr_points.specs.declared.run.RunState.TheVariants.{Queued, On, Held as HeldRun, Released as ReleasedRun, Ended, Denied, Purged}
use Rattle.ckr_points_tables.specs.BegunRuns.{is_over}
use Rattle.ckr_points_tables.specs.RunRows.{IsRunRow}
use Rattle.ckr_points_tables.specs.View.{line_of}
use Rattle.ckr_points_follows.specs.DeckConflicts.{holds_beside, may_be_beside}
use Rattle.ckr_points_follows.proofs.Lists.{all-same, any-flat_mapped, any-option}

-- a test of the uses of a deck, step by step
pub any-use : (run : ℕ) (job : Job) (test : Use → Bool) → list_any test (uses_of_dds run job)
    ≡ (list_any (λ step. list_any test (uses_in_step (is_some job.restart) (own_qualifier run job) step)) job.steps || option_map_or test (option_and_then (use_of_syschk (is_some job.restart)) job.syschk) false)
any-use run job test =
    let in_step = uses_in_step (is_some job.restart) (own_qualifier run job) in
    let last = option_and_then (use_of_syschk (is_some job.restart)) job.syschk in
    list_any-append test (flat_map in_step job.steps) (option_to_list last)
    ∙ (λ i. any-flat_mapped in_step test job.steps i || any-option test last i)

pub holds-dds : (run other : ℕ) (job other_job : Job) → holds (uses_of run job) (uses_of other other_job) ≡ list_any (λ one. list_any (collides one) (uses_of_dds other other_job)) (uses_of_dds run job)
unfolding uses_of
holds-dds run other job other_job = holds-merged (uses_of_dds run job) (uses_of_dds other other_job)

-- ---- beside each run

-- a run may be selected beside one that has ended
pub beside-ended : (tables : TablesModel) (row : RunRow) (line : Run) → is_over line.state ≡ true → may_be_beside tables row line ≡ true
beside-ended tables row line ended = ap (λ holder. not (holder && holds_beside tables row line.number)) (no-holder line.state ended)
  where
    no-holder : (state : RunState) → is_over state ≡ true → is_holder state ≡ false
    no-holder Queued e = refl
    no-holder On e = absurd (false≢true e)
    no-holder HeldRun e = absurd (false≢true e)
    no-holder ReleasedRun e = absurd (false≢true e)
    no-holder Ended e = refl
    no-holder Denied e = refl
    no-holder Purged e = refl

-- and beside one that waits in the queue
pub beside-queued : (tables : TablesModel) (row : RunRow) (line : Run) → line.state ≡ Queued → may_be_beside tables row line ≡ true
beside-queued tables row line queued = ap (λ state. not (is_holder state && holds_beside tables row line.number)) queued

module _ (tables : TablesModel) (rows : (job : ℕ) (row : RunRow) → run_of tables job ≡ Some row → IsRunRow job row) (row : RunRow) where
  beside : (place : ℕ) (other : RunRow) → slice_get tables.runs place ≡ Some other → may_be_beside tables row (line_of other) ≡ not (is_holder other.state && holds (uses_of row.number row.deck) (uses_of other.number other.deck))
  beside place other there =
      ap (λ found. not (is_holder other.state && option_map_or (λ (one : RunRow). holds (uses_of row.number row.deck) (uses_of one.number one.deck)) found false))
      (ap (run_of tables) (rows (suc place) other there).numbered ∙ there)

  pub beside-each : list_all (may_be_beside tables row) (map line_of tables.runs) ≡ may_hold tables row
  beside-each =
      list_all-map (may_be_beside tables row) line_of tables.runs
      ∙ all-same (λ other. may_be_beside tables row (line_of other)) (λ other. not (is_holder other.state && holds (uses_of row.number row.deck) (uses_of other.number other.deck))) tables.runs beside

-- ---- step by step, and then SYSCHK

module _ (run : ℕ) (job : Job) (test : Use → Bool) where
  abbrev in_steps : Bool
  in_steps = list_any (λ step. list_any test (uses_in_step (is_some job.restart) (own_qualifier run job) step)) job.steps

  abbrev in_syschk : Bool
  in_syschk = option_map_or test (option_and_then (use_of_syschk (is_some job.restart)) job.syschk) false

  pub found-in_steps : (a : Bool) → a ≡ in_steps → a ≡ true → true ≡ list_any test (uses_of_dds run job)
  found-in_steps a is found = sym (any-use run job test ∙ ap (λ b. b || in_syschk) (sym is ∙ found))

  pub found-in_syschk : (a b : Bool) → a ≡ in_steps → a ≡ false → b ≡ in_syschk → b ≡ list_any test (uses_of_dds run job)
  found-in_syschk a b is none last = last ∙ sym (any-use run job test ∙ ap (λ x. x || in_syschk) (sym is ∙ none))
