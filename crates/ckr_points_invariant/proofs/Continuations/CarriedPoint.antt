-- The point with which a continued run begins: it marks all names of its job, as the job has them there.
use Rattle.std.proofs.Common.{◌≡◌, ◌≤◌, ℕ, true, false, List, refl, ap, sym, ◌∙◌, subst, Option, Some, None}
use Rattle.std.specs.Option.{option_map_or, is_some}
use Rattle.std.proofs.lemmas.Bool.{false≢true}
use Rattle.ckr_base.proofs.Bools.{bool-cases}
use Rattle.ckr_base.proofs.Sequences.{find-passes}
use Rattle.ckr_entry.specs.declared.point.Mark.{Mark}
use Rattle.ckr_jcl.specs.declared.deck.Job.{Job}
use Rattle.ckr_library.specs.NameMaps.{Name, Named, entry_at, same_name}
use Rattle.ckr_library.proofs.Named.{name-same}
use Rattle.ckr_meaning.specs.EffectiveJob.{Effective, OwnedStep, is_among, names_of_job, step_at}
use Rattle.ckr_meaning.specs.JobRun.{at}
use Rattle.ckr_meaning.specs.LibrarySet.{Library}
use Rattle.ckr_meaning.specs.declared.place.Place.{Place}
use Rattle.ckr_points.specs.Marks.{mark_at, mark_now, marks_for, present_at}
use Rattle.ckr_points.specs.Restart.{carried_point, step_in}
use Rattle.ckr_points.specs.Rows.{StartPoint, TableSet}
use Rattle.ckr_points_invariant.specs.Invariant.{AreAlike, IsMarkOf}
use Rattle.ckr_points_invariant.proofs.Continuations.Fronts.{its_job, its_library, place-earlier, place-other}
use Rattle.ckr_points_invariant.proofs.Continuations.Libraries.{MarksAll}
use Rattle.ckr_points_invariant.proofs.Marks.Points.{mark_at-among, mark_at-for}
use Rattle.ckr_points_invariant.proofs.Points.Places.{mark-of}

-- the mark of a name in the carried point: the earlier one, or as the tables are
abbrev pub carried_mark : List Mark → Named TableSet → Name → Mark
carried_mark marks sets name = option_map_or (λ mark. mark) (mark_at marks name) (mark_now sets name)

module _ (marks : List Mark) (sets : Named TableSet) where
  carried-name : (name : Name) → (carried_mark marks sets name).name ≡ name
  carried-name name = by (mark_at marks name) refl
    where
      by : (mark : Option Mark) → mark_at marks name ≡ mark → (option_map_or (λ mark. mark) mark (mark_now sets name)).name ≡ name
      by None e = refl
      by (Some mark) e = sym (name-same name mark.name (find-passes (λ (mark : Mark). same_name name mark.name) marks mark e))

  module _ (names : List Name) where
    pub carried-among : (name : Name) → is_some (mark_at (marks_for (carried_mark marks sets) names) name) ≡ is_among names name
    carried-among name = mark_at-among (carried_mark marks sets) names name carried-name

    carried-is : (name : Name) → is_among names name ≡ true → present_at (marks_for (carried_mark marks sets) names) name ≡ (carried_mark marks sets name).present
    carried-is name among = ap (λ (o : Option Mark). option_map_or (λ (mark : Mark). mark.present) o None) (mark_at-for (carried_mark marks sets) names name carried-name among)

    -- a name that the earlier point marks
    pub carried-known : (name : Name) → is_among names name ≡ true → is_some (mark_at marks name) ≡ true → present_at (marks_for (carried_mark marks sets) names) name ≡ present_at marks name
    carried-known name among has = carried-is name among ∙ by (mark_at marks name) has
      where
        by : (mark : Option Mark) → is_some mark ≡ true → (option_map_or (λ mark. mark) mark (mark_now sets name)).present ≡ option_map_or (λ (mark : Mark). mark.present) mark None
        by None e = absurd (false≢true e)
        by (Some mark) e = refl

    -- and another one
    pub carried-new : (name : Name) → is_among names name ≡ true → is_some (mark_at marks name) ≡ false → present_at (marks_for (carried_mark marks sets) names) name ≡ (mark_now sets name).present
    carried-new name among none = carried-is name among ∙ by (mark_at marks name) none
      where
        by : (mark : Option Mark) → is_some mark ≡ false → (option_map_or (λ mark. mark) mark (mark_now sets name)).present ≡ (mark_now sets name).present
        by None e = refl
        by (Some mark) e = absurd (false≢true (sym e))

module _ (earlier : Effective) (start library : Library) (step run : ℕ) (deck : Job) (owned : OwnedStep) (found : step_at earlier step ≡ Some owned) (place : Place) (low : step_in place ≤ step)
    (point : StartPoint) (sets : Named TableSet) (all : MarksAll earlier start place point.marks) where
  abbrev pub job : Effective
  job = its_job earlier start library step run deck owned found

  abbrev pub begun : Library
  begun = its_library earlier start library step run deck owned found

  -- Such a point marks all names of the job, where the tables have the names that the earlier job lacks as the ended jobs left them.
  pub carried-marks : ((name : Name) → is_among (names_of_job job) name ≡ true → is_among (names_of_job earlier) name ≡ false → AreAlike sets library name) → MarksAll job begun place (carried_point job sets point).marks
  carried-marks alike = record {
    marked = λ name among. carried-among point.marks sets (names_of_job job) name ∙ among;
    alone = λ name has. sym (carried-among point.marks sets (names_of_job job) name) ∙ has;
    says = λ name among.
        bool-cases (is_among (names_of_job earlier) name)
        (λ known.
        subst (λ present. IsMarkOf present (entry_at (at job begun place).sets name)) (sym (carried-known point.marks sets (names_of_job job) name among (all.marked name known)))
        (subst (IsMarkOf (present_at point.marks name)) (sym (place-earlier earlier start library step run deck owned found place name low known)) (all.says name known)))
        (λ new.
        let none : is_some (mark_at point.marks name) ≡ false = bool-cases (is_some (mark_at point.marks name)) (λ some. absurd (false≢true (sym new ∙ all.alone name some))) (λ e. e) in
        subst (λ present. IsMarkOf present (entry_at (at job begun place).sets name)) (sym (carried-new point.marks sets (names_of_job job) name among none))
        (subst (IsMarkOf (mark_now sets name).present) (sym (place-other earlier start library step run deck owned found place name low new))
        (mark-of (entry_at sets name) (entry_at library name) (alike name among new))));
  }
