-- Which names the steps of a run made, as the tables tell it.
use Rattle.std.proofs.Common.{◌≡◌, ℕ, zero, suc, pred, ◌&&◌, ◌||◌, Bool, true, false, cond, List, [], ◌∷◌, map, filter, slice_get, slice_set, take, refl, ap, sym, ◌∙◌, Some, None, Option}
use Rattle.std.specs.Option.{option_map, option_map_or}
use Rattle.std.proofs.lemmas.List.{length-map}
use Rattle.std.proofs.lemmas.Option.{same_Some}
use Rattle.ckr_base.proofs.Bools.{and-false}
use Rattle.ckr_base.proofs.Options.{some-not-none}
use Rattle.ckr_events.specs.declared.event.Event.{Event}
use Rattle.ckr_events.specs.declared.event.Event.TheVariants.{Ended, StepEnded}
use Rattle.ckr_library.specs.NameMaps.{Name, Named, same_name}
use Rattle.ckr_library.proofs.Named.{name-same}
use Rattle.ckr_meaning.specs.EffectiveJob.{OwnedStep, is_among, names_of, step_at}
use Rattle.ckr_points.specs.Marks.{is_marked_absent, made_names, point_at}
use Rattle.ckr_points.specs.Restart.{step_in}
use Rattle.ckr_points.specs.Rows.{RunRow, StartPoint, TableSet, TablesModel, run_of, with_row}
use Rattle.ckr_points.specs.Tables.{step_made, steps_made}
use Rattle.ckr_points_runs.specs.declared.run_table.RunTable.{RunTable}
use Rattle.ckr_points_runs.specs.MadeNames.{HasFlags, RunPoints, earlier_flags, made_at, made_by, made_in, points_in, points_of}
use Rattle.ckr_points_runs.specs.RunChange.{HasFlagsFor, earlier_for, earlier_now, place_now}
use Rattle.ckr_points_runs.specs.RunJobs.{effective}
pub use Rattle.ckr_points_runs.proofs.OwnNames.{among-both}
use Rattle.ckr_points_runs.specs.View.{RunTableView, facts_of}
use Rattle.ckr_points_tables.specs.View.{facts_in}

-- ---- names that were made

-- a name among some of the names
among-filtered : (p : Name → Bool) (names : List Name) (name : Name) → is_among (filter p names) name ≡ (is_among names name && p name)
among-filtered p [] name = refl
among-filtered p (other ∷ names) name = by (p other) (same_name name other) refl refl (among-filtered p names name)
  where
    by : (passes same : Bool) → p other ≡ passes → same_name name other ≡ same → is_among (filter p names) name ≡ (is_among names name && p name)
        → is_among (cond passes (other ∷ filter p names) (filter p names)) name ≡ ((same || is_among names name) && p name)
    by true true passes same more = ap (λ b. b || is_among (filter p names) name) same ∙ sym (ap p (name-same name other same) ∙ passes)
    by true false passes same more = ap (λ b. b || is_among (filter p names) name) same ∙ more
    by false true passes same more = more ∙ ap (λ b. is_among names name && b) (ap p (name-same name other same) ∙ passes) ∙ and-false (is_among names name) ∙ sym (ap p (name-same name other same) ∙ passes)
    by false false passes same more = more

-- among the names that a step point marks absent
pub point_names : (found : Option StartPoint) (names : List Name) (name : Name) → is_among (option_map_or (λ (point : StartPoint). made_names point.marks names) found []) name ≡ (is_among names name && option_map_or (λ (point : StartPoint). is_marked_absent point.marks name) found false)
point_names None names name = sym (and-false (is_among names name))
point_names (Some point) names name = among-filtered (is_marked_absent point.marks) names name

-- the step points that the rows have
abbrev pub row_points : TablesModel → RunPoints
row_points tables run = option_map_or (λ (row : RunRow). row.points) (run_of tables run) []

-- a name among those that a step made
step-among : (tables : TablesModel) (row : RunRow) (own : OwnedStep) (number : ℕ) (name : Name) → is_among (step_made tables row own number) name ≡ made_by (row_points tables) row.job.root number name own
step-among tables row own number name = by (run_of tables own.owner)
  where
    by : (found : Option RunRow)
        → is_among (option_map_or (λ (owner : RunRow). option_map_or (λ (point : StartPoint). made_names point.marks (names_of row.job.root own)) (point_at owner.points number) []) found []) name
        ≡ (is_among (names_of row.job.root own) name && made_at (option_map_or (λ (owner : RunRow). owner.points) found []) number name)
    by None = sym (and-false (is_among (names_of row.job.root own) name))
    by (Some owner) = point_names (point_at owner.points number) (names_of row.job.root own) name

-- a name among those that steps made
pub steps-among : (tables : TablesModel) (row : RunRow) (number : ℕ) (steps : List OwnedStep) (name : Name) → is_among (steps_made tables row number steps) name ≡ made_in (row_points tables) row.job.root number steps name
steps-among tables row number [] name = refl
steps-among tables row number (own ∷ steps) name =
    among-both (step_made tables row own number) (steps_made tables row (suc number) steps) name
    ∙ ap (λ b. b || is_among (steps_made tables row (suc number) steps) name) (step-among tables row own number name)
    ∙ ap (λ b. made_by (row_points tables) row.job.root number name own || b) (steps-among tables row (suc number) steps name)

-- ---- by the same points

module _ (one other : RunPoints) (same : (run : ℕ) → one run ≡ other run) where
  made-same : (root number : ℕ) (steps : List OwnedStep) (name : Name) → made_in one root number steps name ≡ made_in other root number steps name
  made-same root number [] name = refl
  made-same root number (own ∷ steps) name =
      ap (λ points. is_among (names_of root own) name && made_at points number name || made_in one root (suc number) steps name) (same own.owner)
      ∙ ap (λ b. made_by other root number name own || b) (made-same root (suc number) steps name)

  mapped-same : (root number : ℕ) (steps : List OwnedStep) (names : List Name) → map (made_in one root number steps) names ≡ map (made_in other root number steps) names
  mapped-same root number steps [] = refl
  mapped-same root number steps (name ∷ names) =
      ap (λ b. b ∷ map (made_in one root number steps) names) (made-same root number steps name) ∙ ap (λ rest. made_in other root number steps name ∷ rest) (mapped-same root number steps names)

  pub flags-same : (root : ℕ) (steps : List OwnedStep) (step : ℕ) (own : OwnedStep) → earlier_flags one root steps step own ≡ earlier_flags other root steps step own
  flags-same root steps step own = mapped-same root 1 (take (pred step) steps) (names_of root own)

  now-same : (number : ℕ) (facts : RunTableView) → earlier_now one number facts ≡ earlier_now other number facts
  now-same number facts = by (step_at (effective number facts.job) (step_in (place_now facts)))
    where
      by : (there : Option OwnedStep)
          → option_map_or (earlier_flags one facts.job.root (effective number facts.job).steps (step_in (place_now facts))) there []
          ≡ option_map_or (earlier_flags other facts.job.root (effective number facts.job).steps (step_in (place_now facts))) there []
      by None = refl
      by (Some own) = flags-same facts.job.root (effective number facts.job).steps (step_in (place_now facts)) own

  pub earlier-same : (event : Event) (number : ℕ) (facts : RunTableView) → earlier_for event one number facts ≡ earlier_for event other number facts
  earlier-same (StepEnded job step rc writes lengths) number facts = now-same number facts
  earlier-same (Ended job ending) number facts = now-same number facts
  earlier-same _ number facts = refl

set-points : (runs : List RunRow) (place at : ℕ) (one old : RunRow) → slice_get runs place ≡ Some old → one.points ≡ old.points
    → option_map_or (λ (row : RunRow). row.points) (slice_get (slice_set runs place one) at) [] ≡ option_map_or (λ (row : RunRow). row.points) (slice_get runs at) []
set-points [] place at one old found same = absurd (some-not-none _ (sym found))
set-points (first ∷ runs) zero zero one old found same = same ∙ ap (λ (row : RunRow). row.points) (sym (same_Some first old found))
set-points (first ∷ runs) zero (suc at) one old found same = refl
set-points (first ∷ runs) (suc place) zero one old found same = refl
set-points (first ∷ runs) (suc place) (suc at) one old found same = set-points runs place at one old found same

-- the points stay where a run is put that keeps its own
pub points-kept : (number : ℕ) (one old : RunRow) (sets : Named TableSet) (desk : TablesModel) → run_of desk number ≡ Some old → one.points ≡ old.points → (run : ℕ) → row_points (record { sets = sets; runs = with_row one number desk.runs }) run ≡ row_points desk run
points-kept zero one old sets desk found same run = absurd (some-not-none _ (sym found))
points-kept (suc place) one old sets desk found same zero = refl
points-kept (suc place) one old sets desk found same (suc at) = set-points desk.runs place at one old found same

-- ---- as the code has them

-- the points of a run are those of its row
pub points-seen : (tables : List RunTable) (desk : TablesModel) → ((place : ℕ) → option_map facts_of (slice_get tables place) ≡ option_map facts_in (slice_get desk.runs place)) → (run : ℕ) → row_points desk run ≡ points_in tables run
points-seen tables desk same zero = refl
points-seen tables desk same (suc place) = by (slice_get tables place) (slice_get desk.runs place) (same place)
  where
    by : (table : Option RunTable) (row : Option RunRow) → option_map facts_of table ≡ option_map facts_in row → option_map_or (λ (one : RunRow). one.points) row [] ≡ option_map_or points_of table []
    by None None is = refl
    by None (Some row) is = absurd (some-not-none _ (sym is))
    by (Some table) None is = absurd (some-not-none _ is)
    by (Some table) (Some row) is = sym (ap (λ (facts : RunTableView). facts.points) (same_Some (facts_of table) (facts_in row) is))

flags-long : (points : RunPoints) (root : ℕ) (steps : List OwnedStep) (step : ℕ) (there : Option OwnedStep) → HasFlags root (option_map_or (earlier_flags points root steps step) there []) there
flags-long points root steps step None = tt
flags-long points root steps step (Some own) = length-map (names_of root own) (made_in points root 1 (take (pred step) steps))

-- there is one for each name of a step that ends
pub has-flags : (event : Event) (points : RunPoints) (number : ℕ) (facts : RunTableView) → HasFlagsFor event (earlier_for event points number facts) number facts
has-flags (StepEnded job step rc writes lengths) points number facts =
    let step_now = step_in (place_now facts) in
    flags-long points facts.job.root (effective number facts.job).steps step_now (step_at (effective number facts.job) step_now)
has-flags (Ended job ending) points number facts =
    let step_now = step_in (place_now facts) in
    flags-long points facts.job.root (effective number facts.job).steps step_now (step_at (effective number facts.job) step_now)
has-flags _ points number facts = tt
