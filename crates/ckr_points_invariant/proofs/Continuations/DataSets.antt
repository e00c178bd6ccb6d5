-- The data sets put back for a run that continues another one: what its job has there, on its reach, and what was there outside it.
use Rattle.std.proofs.Common.{◌≡◌, ◌≤◌, ℕ, Bool, true, false, not, ◌&&◌, ◌||◌, List, refl, ap, sym, ◌∙◌, Option, Some, None, arith}
use Rattle.std.specs.Option.{is_some, option_map_or}
use Rattle.std.proofs.lemmas.Bool.{false≢true, not-true}
use Rattle.std.proofs.lemmas.List.Folds.{list_any-append}
use Rattle.ckr_base.proofs.Bools.{and-first, and-second, bool-cases}
use Rattle.ckr_entry.specs.declared.point.Mark.{Mark}
use Rattle.ckr_entry.specs.declared.point.Present.{Present}
use Rattle.ckr_library.specs.NameMaps.{Name, Named, entry_at, same_name}
use Rattle.ckr_meaning.specs.EffectiveJob.{OwnedStep, is_among}
use Rattle.ckr_meaning.specs.JobRun.{at}
use Rattle.ckr_meaning.specs.LibrarySet.{Library}
use Rattle.ckr_points.specs.Marks.{is_as_marked, mark_at, own_names, put_back, removed_all, still_exists, without_passed}
use Rattle.ckr_points.specs.Office.{Leg, Office, passed_made, continued_leg}
use Rattle.ckr_points.specs.Restart.{step_in}
use Rattle.ckr_points.specs.Rows.{RunRow, StartPoint, TableSet}
use Rattle.ckr_points_library.specs.Commit.{output_names}
use Rattle.ckr_points_invariant.specs.Invariant.{AreAlike}
use Rattle.ckr_points_invariant.proofs.Continuations.Freshness.{DeterminesMaking}
use Rattle.ckr_points_invariant.proofs.Continuations.Libraries.{back-outside, own-alike, passed-alike}
use Rattle.ckr_points_invariant.proofs.Holders.Places.{outputs-among}
use Rattle.ckr_points_invariant.proofs.Library.PassedList.{made-without}
use Rattle.ckr_points_invariant.proofs.Continuations.EarlierRun.{Coming, IsEarlier, IsPutBack, leg_from, row_then}
use Rattle.ckr_points_invariant.proofs.Continuations.LostNames.{kept-exists}
use Rattle.ckr_points_invariant.proofs.Continuations.Marks.{step-own}
use Rattle.ckr_points_invariant.proofs.Continuations.Walks.{owned, step-here}

-- ---- passed names

-- a passed name that still exists has a mark
pub exists-marked : (marks : List Mark) (named : List Name) (sets : Named TableSet) (name : Name) → still_exists marks named sets name ≡ true → is_some (mark_at marks name) ≡ true
exists-marked marks named sets name exists = by (mark_at marks name) (and-second (is_among named name) _ exists)
  where
    by : (mark : Option Mark) → option_map_or (λ (present : Present). option_map_or (λ (table : TableSet). is_as_marked table present) (entry_at sets name) false) (option_map_or (λ (mark : Mark). mark.present) mark None) false ≡ true → is_some mark ≡ true
    by None e = absurd (false≢true e)
    by (Some mark) e = refl

-- ---- the data sets

module _ (now : Office) (row other : RunRow) (start : Library) (reach : List Name) (step : ℕ) (point : StartPoint) (earlier : IsEarlier now row other (leg_from other start reach) step point)
    (initiator : ℕ) (coming : Coming) (stands : step_in coming.place ≡ step) (marks : List Mark) (needed removed named : List Name) where
  abbrev next : RunRow
  next = row_then now row other step point initiator coming

  abbrev leg : Leg
  leg = continued_leg now next (leg_from other start reach)

  abbrev begins : OwnedStep
  begins = owned now row other start reach step point earlier initiator coming

  low : step_in coming.place ≤ step
  low = omega (arith, stands)

  abbrev pub back : Named TableSet
  back = put_back marks (output_names other.job.root begins) needed (removed_all removed now.tables.sets)

  not-output : (name : Name) → is_among (own_names next) name ≡ false → is_among (output_names other.job.root begins) name ≡ false
  not-output name out =
      bool-cases (is_among (output_names other.job.root begins) name)
      (λ output.
      absurd (false≢true (
      sym out
      ∙ step-own now row other start reach step point earlier initiator coming begins name (step-here now row other start reach step point earlier initiator coming)
      (outputs-among other.job.root begins name output))))
      (λ e. e)

  module _ (isback : IsPutBack now next other begins start coming marks needed removed named) where
    -- what no own step names is as it was
    pub back-apart : (name : Name) → is_among (own_names next) name ≡ false → entry_at back name ≡ entry_at now.tables.sets name
    back-apart name out =
        back-outside other.job start now.library step row.number row.deck begins earlier.begun.found coming.place low marks isback.all (own_names next) needed removed isback.are now.tables.sets isback.judged
        name (not-output name out) (neither needed isback.needed_own) (neither removed isback.removed_own)
      where
        neither : (names : List Name) → ((name : Name) → is_among names name ≡ true → is_among (own_names next) name ≡ true) → is_among names name ≡ false
        neither names own = bool-cases (is_among names name) (λ among. absurd (false≢true (sym out ∙ own name among))) (λ e. e)

    module _ (left : (name : Name) → is_among leg.reach name ≡ true → AreAlike now.tables.sets now.library name)
        (making : (name : Name) → is_among leg.reach name ≡ true → DeterminesMaking now.tables.sets (at other.job start coming.place).sets name) where
      -- a passed name that no own step has, and that isn't lost
      passed-so : (name : Name) → is_among leg.reach name ≡ true → is_among (own_names next) name ≡ false → is_among (passed_made coming.passed) name ≡ true → is_among coming.lost name ≡ false → AreAlike back (at leg.job leg.start coming.place).sets name
      passed-so name among out made kept =
          let exists : still_exists marks named back name ≡ true = kept-exists marks named back name coming.passed (ap (λ names. is_among names name) (sym isback.lost) ∙ kept) made in
          passed-alike other.job start now.library step row.number row.deck begins earlier.begun.found coming.place low marks isback.all (own_names next) needed removed isback.are now.tables.sets isback.judged
          named name exists (isback.all.alone name (exists-marked marks named back name exists))
          (λ table set at_table. making name among table set (sym (back-apart name out) ∙ at_table))

      -- on the reach the tables have what the job has there
      pub back-alike : (name : Name) → is_among leg.reach name ≡ true → AreAlike back (at leg.job leg.start coming.place).sets name
      back-alike name among =
          bool-cases (is_among (own_names next) name)
          (λ mine.
          own-alike other.job start now.library step row.number row.deck begins earlier.begun.found coming.place low marks isback.all (own_names next) needed removed isback.are now.tables.sets isback.judged
          name mine (left name among) (making name among))
          (λ out.
          let passed : (not (is_among coming.lost name) && is_among (passed_made coming.passed) name) ≡ true =
          sym (made-without coming.lost coming.passed name)
          ∙ rest (is_among (own_names next) name) _ out (sym (list_any-append (same_name name) (own_names next) (passed_made (without_passed coming.lost coming.passed))) ∙ among) in
          passed-so name among out (and-second (not (is_among coming.lost name)) _ passed) (not-true (is_among coming.lost name) (and-first (not (is_among coming.lost name)) _ passed)))
        where
          rest : (a b : Bool) → a ≡ false → (a || b) ≡ true → b ≡ true
          rest true b e is = absurd (false≢true (sym e))
          rest false b e is = is
