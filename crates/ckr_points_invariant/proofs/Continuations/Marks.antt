-- The marks that a run begins with which continues another one, and what they say of the names of its job.
use Rattle.std.proofs.Common.{◌≡◌, ◌==◌, ℕ, zero, suc, pred, true, false, cond, ◌||◌, ◌&&◌, List, [], ◌∷◌, take, drop, refl, ap, sym, ◌∙◌, subst, Option, Some, None, arith}
use Rattle.std.specs.Option.{is_none, is_some, option_map_or}
use Rattle.std.proofs.lemmas.Bool.{false≢true}
use Rattle.std.proofs.lemmas.List.Folds.{list_any-append}
use Rattle.ckr_base.proofs.Bools.{and-true, bool-cases}
use Rattle.ckr_base.proofs.Options.{some-not-none}
use Rattle.ckr_base.proofs.Sequences.{find-passes}
use Rattle.ckr_entry.specs.declared.point.Mark.{Mark}
use Rattle.ckr_entry.specs.declared.point.Present.{Present}
use Rattle.ckr_library.specs.NameMaps.{Name, entry_at, same_name}
use Rattle.ckr_meaning.specs.EffectiveJob.{OwnedStep, is_among, names_of, names_of_job, names_of_steps, step_at}
use Rattle.ckr_meaning.specs.JobRun.{at}
use Rattle.ckr_meaning.specs.LibrarySet.{Library, LibrarySet}
use Rattle.ckr_meaning.specs.declared.place.Place.TheVariants.{Opened}
use Rattle.ckr_points.specs.Marks.{carried_marks, is_marked_absent, made_names, mark_at, own_names, point_at}
use Rattle.ckr_points.specs.Office.{Leg, Office, continued_leg}
use Rattle.ckr_points.specs.Restart.{carried_point, step_in}
use Rattle.ckr_points.specs.Rows.{RunRow, StartPoint}
use Rattle.ckr_points.specs.Tables.{own_made}
use Rattle.ckr_points_invariant.specs.Invariant.{AreAlike, HasMarkOf, IsMarkOf}
use Rattle.ckr_points_invariant.proofs.Continuations.CarriedPoint.{carried-marks}
use Rattle.ckr_points_invariant.proofs.Continuations.Fronts.{among-front, same-steps}
use Rattle.ckr_points_invariant.proofs.Continuations.Libraries.{MarksAll}
use Rattle.ckr_points_invariant.proofs.Marks.Points.{among-filter}
use Rattle.ckr_points_invariant.proofs.Select.Invariant.{among-step}
use Rattle.ckr_points_invariant.proofs.Start.Openings.{opened-none}
use Rattle.ckr_points_invariant.proofs.Steps.Walks.{at-opened, at-same-step}
use Rattle.ckr_points_invariant.proofs.Continuations.EarlierRun.{Coming, IsEarlier, leg_from, row_then}
use Rattle.ckr_points_invariant.proofs.Continuations.Steps.{among-behind}
use Rattle.ckr_points_invariant.proofs.Continuations.Walks.{owned, starts, step-here}

-- ---- names of a front and of the rest

-- the names of a list of steps are those of a shorter front, or those from a later place on
among-rest : (root count : ℕ) (steps : List OwnedStep) (name : Name) → is_among (names_of_steps root steps) name ≡ true → is_among (names_of_steps root (take count steps)) name ≡ false → is_among (names_of_steps root (drop (pred count) steps)) name ≡ true
among-rest root zero steps name among out = among
among-rest root (suc zero) steps name among out = among
among-rest root (suc (suc count)) [] name among out = absurd (false≢true among)
among-rest root (suc (suc count)) (first ∷ rest) name among out =
    bool-cases (is_among (names_of root first) name)
    (λ here. absurd (false≢true (sym out ∙ list_any-append (same_name name) (names_of root first) (names_of_steps root (take (suc count) rest)) ∙ ap (λ b. b || is_among (names_of_steps root (take (suc count) rest)) name) here)))
    (λ other.
    among-rest root (suc count) rest name
    (ap (λ b. b || is_among (names_of_steps root rest) name) (sym other) ∙ sym (list_any-append (same_name name) (names_of root first) (names_of_steps root rest)) ∙ among)
    (ap (λ b. b || is_among (names_of_steps root (take (suc count) rest)) name) (sym other) ∙ sym (list_any-append (same_name name) (names_of root first) (names_of_steps root (take (suc count) rest))) ∙ out))

module _ (now : Office) (row other : RunRow) (start : Library) (reach : List Name) (step : ℕ) (point : StartPoint) (earlier : IsEarlier now row other (leg_from other start reach) step point)
    (initiator : ℕ) (coming : Coming) where
  abbrev next : RunRow
  next = row_then now row other step point initiator coming

  abbrev leg : Leg
  leg = continued_leg now next (leg_from other start reach)

  abbrev begins : OwnedStep
  begins = owned now row other start reach step point earlier initiator coming

  -- the names of its job that the earlier job lacks are its own
  new-own : (name : Name) → is_among (names_of_job leg.job) name ≡ true → is_among (names_of_job other.job) name ≡ false → is_among (own_names next) name ≡ true
  new-own name among new =
      among-rest other.job.root step leg.job.steps name among
      (bool-cases (is_among (names_of_steps other.job.root (take step leg.job.steps)) name)
      (λ front.
      absurd (false≢true (
      sym new
      ∙ among-front other.job.root step other.job.steps name
      (ap (λ steps. is_among (names_of_steps other.job.root steps) name) (sym (same-steps other.job start now.library step row.number row.deck earlier.begun.owned earlier.begun.found)) ∙ front))))
      (λ e. e))

  -- those of the step are its own
  pub step-own : (its : OwnedStep) (name : Name) → step_at leg.job step ≡ Some its → is_among (names_of leg.job.root its) name ≡ true → is_among (own_names next) name ≡ true
  step-own its name found among = by step found
    where
      by : (number : ℕ) → step_at leg.job number ≡ Some its → is_among (names_of_steps leg.job.root (drop (pred number) leg.job.steps)) name ≡ true
      by zero e = absurd (some-not-none its (sym e))
      by (suc before) e = among-behind leg.job.root before before leg.job.steps its name (omega arith) e among

  -- ---- the carried point

  abbrev carried : StartPoint
  carried = carried_point leg.job now.tables.sets point

  step-is : (point.step == step) ≡ true
  step-is = find-passes (λ (point : StartPoint). point.step == step) other.points point earlier.has

  pub carried-is : point_at next.points step ≡ Some carried
  carried-is = ap (λ b. cond b (Some carried) None) step-is

  pub carried_marks-are : carried_marks next ≡ carried.marks
  carried_marks-are = ap (λ (o : Option StartPoint). option_map_or (λ point. point.marks) o []) carried-is

  -- where the tables have its own names that the earlier job lacks as the ended jobs left them
  module _ (left : (name : Name) → is_among (own_names next) name ≡ true → is_among (names_of_job other.job) name ≡ false → AreAlike now.tables.sets now.library name) where
    pub all-marked : MarksAll leg.job leg.start (Opened step) carried.marks
    all-marked =
        carried-marks other.job start now.library step row.number row.deck earlier.begun.owned earlier.begun.found (Opened step) (omega arith) point now.tables.sets earlier.marks
        (λ name among new. left name (new-own name among new) new)

    -- each other name has a mark that says what the job has there, at each place of the step
    pub carried-has : step_in coming.place ≡ step → (name : Name) → is_among (names_of_job leg.job) name ≡ true → is_among (own_names next) name ≡ false → HasMarkOf (mark_at (carried_marks next) name) (entry_at (at leg.job leg.start coming.place).sets name)
    carried-has stands name among out =
        subst (λ marks. HasMarkOf (mark_at marks name) (entry_at (at leg.job leg.start coming.place).sets name)) (sym carried_marks-are)
        (subst (HasMarkOf (mark_at carried.marks name))
        (at-same-step leg.job leg.start (Opened step) coming.place name stands
        (λ its found. bool-cases (is_among (names_of leg.job.root its) name) (λ mine. absurd (false≢true (sym out ∙ step-own its name found mine))) (λ e. e)))
        (by (mark_at carried.marks name) (all-marked.marked name among) (all-marked.says name among)))
      where
        by : (mark : Option Mark) → is_some mark ≡ true → IsMarkOf (option_map_or (λ (mark : Mark). mark.present) mark None) (entry_at (at leg.job leg.start (Opened step)).sets name) → HasMarkOf mark (entry_at (at leg.job leg.start (Opened step)).sets name)
        by None has says = absurd (false≢true has)
        by (Some mark) has says = says

    -- its own point of the step marks those names absent that weren't there
    pub own-made : (name : Name) → is_among (names_of leg.job.root begins) name ≡ true
        → is_among (own_made next begins step) name ≡ is_none (entry_at (starts now row other start reach step point earlier initiator coming).standing.sets name)
    own-made name among =
        ap (λ (o : Option StartPoint). is_among (option_map_or (λ point. made_names point.marks (names_of next.job.root begins)) o []) name) carried-is
        ∙ among-filter (is_marked_absent carried.marks) (names_of leg.job.root begins) name
        ∙ ap (λ b. is_marked_absent carried.marks name && b) among
        ∙ and-true (is_marked_absent carried.marks name)
        ∙ by (mark_at carried.marks name) (entry_at (at leg.job leg.start (Opened step)).sets name) (all-marked.marked name known) (all-marked.says name known)
        ∙ ap (λ (library : Library). is_none (entry_at library name)) (at-opened leg.job leg.start step begins here)
        ∙ opened-none (starts now row other start reach step point earlier initiator coming) name
      where
        here : step_at leg.job step ≡ Some begins
        here = step-here now row other start reach step point earlier initiator coming

        known : is_among (names_of_job leg.job) name ≡ true
        known = among-step leg.job step begins name here among

        present : (present : Option Present) (set : Option LibrarySet) → IsMarkOf present set → is_none present ≡ is_none set
        present None None says = refl
        present None (Some set) says = absurd says
        present (Some one) None says = absurd says
        present (Some one) (Some set) says = refl

        by : (mark : Option Mark) (set : Option LibrarySet) → is_some mark ≡ true → IsMarkOf (option_map_or (λ (mark : Mark). mark.present) mark None) set → option_map_or (λ (mark : Mark). is_none mark.present) mark false ≡ is_none set
        by None set has says = absurd (false≢true has)
        by (Some mark) set has says = present mark.present set says
