-- What a run is to be that continues another one.
use Rattle.std.proofs.Common.{◌≡◌, ℕ, true, refl, ap, sym, ◌∙◌, Option, Some, None}
use Rattle.std.specs.Option.{is_some, option_and_then, option_map}
use Rattle.std.proofs.lemmas.Bool.{false≢true}
use Rattle.ckr_entry.specs.declared.point.Mark.{Mark}
use Rattle.ckr_jcl.specs.declared.deck.Job.{Job}
use Rattle.ckr_library.specs.NameMaps.{Name}
use Rattle.ckr_meaning.specs.EffectiveJob.{OwnedStep, step_at}
use Rattle.ckr_points.specs.Marks.{point_at}
use Rattle.ckr_points.specs.Rows.{StartPoint}
use Rattle.ckr_points_runs.specs.RunJobs.{effective}
use Rattle.ckr_points_tables.specs.Selection.{Entries, Resumption, continued_facts, prepared, resumed}
use Rattle.ckr_points_runs.specs.View.{RunTableView}

module _ (now : Name → Mark) (entries : Entries) (run number : ℕ) (deck : Job) (earlier : RunTableView) (step : ℕ) (id : Option Name) where
  abbrev at_point : StartPoint → Option RunTableView
  at_point point = option_map (continued_facts now run number deck earlier step point) (resumed entries deck step point id)

  behind : (point : Option StartPoint) → point_at earlier.points step ≡ point → (own : Option OwnedStep) → option_and_then (λ (one : OwnedStep). option_and_then at_point (point_at earlier.points step)) own ≡ option_and_then (λ (one : OwnedStep). option_and_then at_point point) own
  behind point is own = ap (λ found. option_and_then (λ (one : OwnedStep). option_and_then at_point found) own) is

  nothing : (own : Option OwnedStep) → None ≡ option_and_then (λ (one : OwnedStep). let none : Option RunTableView = None in none) own
  nothing None = refl
  nothing (Some own) = refl

  -- no step point
  pub prepared-pointless : None ≡ point_at earlier.points step → None ≡ prepared now entries run number deck earlier step id
  prepared-pointless none = nothing (step_at (effective number earlier.job) step) ∙ sym (behind None (sym none) (step_at (effective number earlier.job) step))

  -- no entry
  pub prepared-entryless : (point : StartPoint) → Some point ≡ point_at earlier.points step → None ≡ resumed entries deck step point id → None ≡ prepared now entries run number deck earlier step id
  prepared-entryless point pointed none =
      nothing (step_at (effective number earlier.job) step)
      ∙ ap (λ at. option_and_then (λ (one : OwnedStep). option_map (continued_facts now run number deck earlier step point) at) (step_at (effective number earlier.job) step)) none
      ∙ sym (behind (Some point) (sym pointed) (step_at (effective number earlier.job) step))

  pub prepared-so : (point : StartPoint) (at : Resumption) → is_some (step_at (effective number earlier.job) step) ≡ true → Some point ≡ point_at earlier.points step → Some at ≡ resumed entries deck step point id
      → Some (continued_facts now run number deck earlier step point at) ≡ prepared now entries run number deck earlier step id
  prepared-so point at there pointed is =
      by (step_at (effective number earlier.job) step) there
      ∙ ap (λ found. option_and_then (λ (one : OwnedStep). option_map (continued_facts now run number deck earlier step point) found) (step_at (effective number earlier.job) step)) is
      ∙ sym (behind (Some point) (sym pointed) (step_at (effective number earlier.job) step))
    where
      by : (own : Option OwnedStep) → is_some own ≡ true → Some (continued_facts now run number deck earlier step point at) ≡ option_and_then (λ (one : OwnedStep). Some (continued_facts now run number deck earlier step point at)) own
      by None e = absurd (false≢true e)
      by (Some own) e = refl
