-- What the tables have of the names in the reach of a run that continues another one, once they are put back: what its job has there.
use Rattle.std.proofs.Common.{◌≡◌, ◌≤◌, ℕ, true, false, cond, List, refl, ap, sym, ◌∙◌, subst, Option, Some, None}
use Rattle.std.specs.Option.{option_map, option_map_or, is_none, is_some}
use Rattle.std.proofs.lemmas.Bool.{false≢true}
use Rattle.ckr_base.proofs.Bools.{bool-cases}
use Rattle.ckr_base.proofs.Options.{option-cases, some-not-none}
use Rattle.ckr_entry.specs.declared.point.Mark.{Mark}
use Rattle.ckr_entry.specs.declared.point.Present.{Present}
use Rattle.ckr_jcl.specs.declared.deck.Job.{Job}
use Rattle.ckr_library.specs.NameMaps.{Name, Named, entry_at}
use Rattle.ckr_meaning.specs.EffectiveJob.{Effective, OwnedStep, is_among, names_of_job, step_at}
use Rattle.ckr_meaning.specs.JobRun.{at}
use Rattle.ckr_meaning.specs.LibrarySet.{Library, LibrarySet}
use Rattle.ckr_meaning.specs.declared.place.Place.{Place}
use Rattle.ckr_points.specs.Freshness.{fresh}
use Rattle.ckr_points.specs.Marks.{is_marked_absent, mark_at, present_at, put_back, removed_all, still_exists}
use Rattle.ckr_points.specs.Restart.{step_in}
use Rattle.ckr_points.specs.Rows.{TableSet}
use Rattle.ckr_points_library.specs.Commit.{output_names}
use Rattle.ckr_points_invariant.specs.Invariant.{AreAlike, set_shape, table_shape, IsMarkOf}
use Rattle.ckr_points_invariant.proofs.Continuations.Freshness.{DeterminesMaking, fresh-alike, fresh-exists, still-alike}
use Rattle.ckr_points_invariant.proofs.Continuations.Fronts.{its_job, its_library, place-earlier, place-other}
use Rattle.ckr_points_invariant.proofs.PutBack.Sets.{at-removed_all, put_back-apart, put_back-none}

-- a point of the earlier run marks each name of its job, and no other, as its job has them there
pub record MarksAll (job : Effective) (start : Library) (place : Place) (marks : List Mark) : Type 0 where
  pub marked : (name : Name) → is_among (names_of_job job) name ≡ true → is_some (mark_at marks name) ≡ true
  pub alone : (name : Name) → is_some (mark_at marks name) ≡ true → is_among (names_of_job job) name ≡ true
  pub says : (name : Name) → is_among (names_of_job job) name ≡ true → IsMarkOf (present_at marks name) (entry_at (at job start place).sets name)

-- The needed names of a restart, and what it removes: a needed name has a mark, and a marked name of the run's own steps is needed, or it is
-- removed; what is removed is marked absent.
pub record AreNeeded (own : List Name) (marks : List Mark) (needed removed : List Name) : Type 0 where
  pub judged : (name : Name) → is_among own name ≡ true → is_some (mark_at marks name) ≡ true → is_among removed name ≡ false → is_among needed name ≡ true
  pub absent : (name : Name) → is_among removed name ≡ true → is_marked_absent marks name ≡ true

absent-none : (marks : List Mark) (name : Name) → is_marked_absent marks name ≡ true → present_at marks name ≡ None
absent-none marks name absent = by (mark_at marks name) absent
  where
    none : (present : Option Present) → is_none present ≡ true → present ≡ None
    none None e = refl
    none (Some present) e = absurd (false≢true e)

    by : (mark : Option Mark) → option_map_or (λ (mark : Mark). is_none mark.present) mark false ≡ true → option_map_or (λ (mark : Mark). mark.present) mark None ≡ None
    by None e = refl
    by (Some mark) e = none mark.present e

absent-some : (marks : List Mark) (name : Name) → is_marked_absent marks name ≡ true → is_some (mark_at marks name) ≡ true
absent-some marks name absent = by (mark_at marks name) absent
  where
    by : (mark : Option Mark) → option_map_or (λ (mark : Mark). is_none mark.present) mark false ≡ true → is_some mark ≡ true
    by None e = e
    by (Some mark) e = refl

none-marked : (marks : List Mark) (name : Name) → is_some (mark_at marks name) ≡ false → present_at marks name ≡ None
none-marked marks name none = by (mark_at marks name) none
  where
    by : (mark : Option Mark) → is_some mark ≡ false → option_map_or (λ (mark : Mark). mark.present) mark None ≡ None
    by None e = refl
    by (Some mark) e = absurd (false≢true (sym e))

alike-none : (entry : Option TableSet) (set : Option LibrarySet) → entry ≡ None → IsMarkOf None set → option_map table_shape entry ≡ option_map set_shape set
alike-none entry None e marked = ap (option_map table_shape) e
alike-none entry (Some set) e marked = absurd marked

module _ (earlier : Effective) (start library : Library) (step run : ℕ) (deck : Job) (owned : OwnedStep) (found : step_at earlier step ≡ Some owned) (place : Place) (low : step_in place ≤ step)
    (marks : List Mark) (all : MarksAll earlier start place marks) (own needed removed : List Name) (are : AreNeeded own marks needed removed)
    (sets : Named TableSet) (isfresh : fresh earlier.root owned marks needed sets ≡ None) where
  abbrev pub outputs : List Name
  outputs = output_names earlier.root owned

  -- the data sets of the tables put back
  abbrev pub back : Named TableSet
  back = put_back marks outputs needed (removed_all removed sets)

  abbrev pub there : Library
  there = (at (its_job earlier start library step run deck owned found) (its_library earlier start library step run deck owned found) place).sets

  abbrev was : Library
  was = (at earlier start place).sets

  not-removed : (name : Name) → is_among removed name ≡ false → entry_at (removed_all removed sets) name ≡ entry_at sets name
  not-removed name out = at-removed_all removed sets name ∙ ap (λ b. cond b None (entry_at sets name)) out

  unmarked-stays : (name : Name) → is_some (mark_at marks name) ≡ false → is_among removed name ≡ false
  unmarked-stays name none =
      bool-cases (is_among removed name)
      (λ gone. absurd (false≢true (sym none ∙ absent-some marks name (are.absent name gone))))
      (λ e. e)

  -- a name of the earlier run's job
  back-known : (name : Name) → is_among own name ≡ true → is_among (names_of_job earlier) name ≡ true → DeterminesMaking sets was name → AreAlike back was name
  back-known name mine known making =
      bool-cases (is_among removed name)
      (λ gone.
      let absent : present_at marks name ≡ None = absent-none marks name (are.absent name gone) in
      by_none absent (
      put_back-none marks outputs needed (removed_all removed sets) name absent
      ∙ at-removed_all removed sets name ∙ ap (λ b. cond b None (entry_at sets name)) gone) (all.says name known))
      (λ stays.
      let named : is_among needed name ≡ true = are.judged name mine (all.marked name known) stays in
      option-cases (mark_at marks name)
      (λ none. absurd (false≢true (ap is_some (sym none) ∙ all.marked name known)))
      (λ mark at_mark. fresh-alike earlier.root owned needed marks sets (removed_all removed sets) was isfresh name (not-removed name stays) making mark at_mark named (all.says name known)))
    where
      by_none : present_at marks name ≡ None → entry_at back name ≡ None → IsMarkOf (present_at marks name) (entry_at was name) → AreAlike back was name
      by_none absent gone marked = alike-none (entry_at back name) (entry_at was name) gone (marked_none (present_at marks name) absent marked)
        where
          marked_none : (present : Option Present) → present ≡ None → IsMarkOf present (entry_at was name) → IsMarkOf None (entry_at was name)
          marked_none None e marked = marked
          marked_none (Some one) e marked = absurd (some-not-none one e)

  -- another name
  back-new : (name : Name) → is_among (names_of_job earlier) name ≡ false → AreAlike sets library name → AreAlike back library name
  back-new name new alike =
      let none : is_some (mark_at marks name) ≡ false = bool-cases (is_some (mark_at marks name)) (λ some. absurd (false≢true (sym new ∙ all.alone name some))) (λ e. e) in
      ap (option_map table_shape) (put_back-none marks outputs needed (removed_all removed sets) name (none-marked marks name none) ∙ not-removed name (unmarked-stays name none)) ∙ alike

  -- A name of the run's own steps: the tables have what the job has there.
  pub own-alike : (name : Name) → is_among own name ≡ true → AreAlike sets library name → DeterminesMaking sets was name → AreAlike back there name
  own-alike name mine alike making =
      bool-cases (is_among (names_of_job earlier) name)
      (λ known. back-known name mine known making ∙ ap (option_map set_shape) (sym (place-earlier earlier start library step run deck owned found place name low known)))
      (λ new. back-new name new alike ∙ ap (option_map set_shape) (sym (place-other earlier start library step run deck owned found place name low new)))

  -- A passed name that still exists, which no own step has.
  pub passed-alike : (named : List Name) (name : Name) → still_exists marks named back name ≡ true → is_among (names_of_job earlier) name ≡ true → DeterminesMaking back was name → AreAlike back there name
  passed-alike named name exists known making =
      still-alike marks named back was name making exists (all.says name known)
      ∙ ap (option_map set_shape) (sym (place-earlier earlier start library step run deck owned found place name low known))

  -- Other names are as they were.
  pub back-outside : (name : Name) → is_among outputs name ≡ false → is_among needed name ≡ false → is_among removed name ≡ false → entry_at back name ≡ entry_at sets name
  back-outside name out other stays = put_back-apart marks outputs needed (removed_all removed sets) name out other ∙ not-removed name stays

  -- A name of the run's own steps that the job has there still exists, where the deck names it.
  pub own-exists : (named : List Name) (name : Name) → is_among own name ≡ true → is_among named name ≡ true → is_among (names_of_job earlier) name ≡ true → is_some (entry_at was name) ≡ true → still_exists marks named back name ≡ true
  own-exists named name mine its known has =
      option-cases (mark_at marks name)
      (λ none. absurd (false≢true (ap is_some (sym none) ∙ all.marked name known)))
      (λ mark at_mark. by mark at_mark mark.present refl (entry_at was name) has (marked_by mark at_mark))
    where
      marked_by : (mark : Mark) → mark_at marks name ≡ Some mark → IsMarkOf mark.present (entry_at was name)
      marked_by mark at_mark = subst (λ (o : Option Mark). IsMarkOf (option_map_or (λ (mark : Mark). mark.present) o None) (entry_at was name)) at_mark (all.says name known)

      by : (mark : Mark) → mark_at marks name ≡ Some mark → (present : Option Present) → mark.present ≡ present → (set : Option LibrarySet) → is_some set ≡ true → IsMarkOf mark.present set → still_exists marks named back name ≡ true
      by mark at_mark present is None has marked = absurd (false≢true has)
      by mark at_mark None is (Some set) has marked = absurd (nothing mark.present is marked)
        where
          nothing : (present : Option Present) → present ≡ None → IsMarkOf present (Some set) → ⊥
          nothing None e marked = marked
          nothing (Some one) e marked = some-not-none one e
      by mark at_mark (Some present) is (Some set) has marked =
          let stays : is_among removed name ≡ false =
          bool-cases (is_among removed name)
          (λ gone. absurd (some-not-none present (sym is ∙ sym (ap (λ (o : Option Mark). option_map_or (λ (mark : Mark). mark.present) o None) at_mark) ∙ absent-none marks name (are.absent name gone))))
          (λ e. e) in
          fresh-exists earlier.root owned needed named marks sets (removed_all removed sets) isfresh name (not-removed name stays) mark present at_mark is (are.judged name mine (all.marked name known) stays) its
