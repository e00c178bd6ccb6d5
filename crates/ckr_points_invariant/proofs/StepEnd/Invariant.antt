-- The events stay kept where a step ends, and what an abnormal end leaves.
use Rattle.std.proofs.Common.{◌≡◌, ◌≤◌, ℕ, zero, suc, pred, ◌+◌, Bool, true, false, ◌&&◌, ◌||◌, List, [], ◌∷◌, ◌++◌, take, length, refl, ap, sym, ◌∙◌, subst, Some, None, arith, append_assoc}
use Rattle.std.specs.List.{AllByRecursion, filter_map}
use Rattle.std.specs.Option.{option_map, is_none}
use Rattle.std.proofs.lemmas.Bool.{false≢true}
use Rattle.std.proofs.lemmas.List.Folds.{list_any-append}
use Rattle.ckr_base.specs.declared.programs.Finish.TheVariants.{Returned}
use Rattle.ckr_base.proofs.Bools.{bool-cases, or-false}
use Rattle.ckr_base.proofs.Numbers.{number-cases}
use Rattle.ckr_base.proofs.Options.{some-not-none}
use Rattle.ckr_base.proofs.Sequences.{length-take, take-next}
use Rattle.ckr_library.specs.NameMaps.{Name, same_name, entry_at}
use Rattle.ckr_meaning.specs.LibrarySet.{LibrarySet, record_ways}
use Rattle.ckr_meaning.specs.Dispositions.{Disposal, Stock, disposed_all}
use Rattle.ckr_meaning.specs.EffectiveJob.{Effective, OwnedStep, disposals_of, is_among, name_of, names_made, placed_from, names_of, step_at}
use Rattle.ckr_meaning.specs.declared.place.Place.TheVariants.{Before}
use Rattle.ckr_meaning.specs.JobRun.{Walk, all_go_on, at, is_bypassed, step_walked, walk_before, walk_from}
use Rattle.ckr_meaning.specs.StepRun.{StepStart, disposed_at, placed_at, within_at, work_at}
use Rattle.ckr_meaning.proofs.OtherNames.{disposed_at-other}
use Rattle.ckr_volumes.specs.declared.layout.Layout.{Layout}
use Rattle.ckr_points.specs.declared.run.RunState.TheVariants.{On}
use Rattle.ckr_points.specs.Tables.{after_dispositions, earlier_made, own_made, run_disposal, run_disposals, step_made, steps_made}
use Rattle.ckr_points.specs.Follows.{is_in_state}
use Rattle.ckr_points_invariant.specs.Invariant.{AreAlike, HasMarkOf, IsAtPlace, IsAgreed, IsUnderWay, set_shape, step_now, table_shape}
use Rattle.ckr_points_invariant.specs.RunningSteps.{IsRunning, its_start, start_of}
use Rattle.ckr_points.specs.Marks.{carried_marks, mark_at, own_names}
use Rattle.ckr_points.specs.Office.{Leg, Office, is_holder, passed_made}
use Rattle.ckr_points.specs.Restart.{place_of}
use Rattle.ckr_points.specs.Rows.{RunRow, TableSet, TablesModel, standing_of, table_ways}
use Rattle.ckr_points.specs.Soundness.{AreLaidOut}
use Rattle.ckr_points_invariant.proofs.Library.Likeness.{disposed_all-alike, disposed_all-passed, placed-apart}
use Rattle.ckr_points_invariant.proofs.Steps.Commits.{alike_within, found_leg, has_next, in_reach, now, place_so, under_way}
use Rattle.ckr_points_invariant.proofs.StepEnd.Disposals.{disposals-apart, disposals-same, names_made-placed}
use Rattle.ckr_points_invariant.proofs.Library.Extents.{disposed_all-laid}
use Rattle.ckr_points_invariant.proofs.Marks.Points.{own_made-out}
use Rattle.ckr_points_invariant.proofs.Holders.Moves.{Among, kept-goes_on, moved}
use Rattle.ckr_points_invariant.proofs.Library.PassedList.{apart-unmade, disposed-apart, disposed-made}
use Rattle.ckr_points_invariant.proofs.Holders.Places.{HasNext, lent-same, other-out, own_made-is, owners-same, steps_made-same}
use Rattle.ckr_points_invariant.proofs.Steps.Walks.{at-before, at-within, goes_on-behind, step_walked-earlier, step_walked-rcs, step_walked-standing, walk_before-behind}

steps_made-append : (tables : TablesModel) (row : RunRow) (first : ℕ) (steps : List OwnedStep) (owned : OwnedStep) → steps_made tables row first (steps ++ owned ∷ []) ≡ steps_made tables row first steps ++ (step_made tables row owned (first + length steps) ++ [])
steps_made-append tables row first [] owned = ap (λ n. step_made tables row owned n ++ []) (let e : first ≡ first + 0 = omega arith in e)
steps_made-append tables row first (one ∷ rest) owned =
    ap (λ names. step_made tables row one first ++ names) (steps_made-append tables row (suc first) rest owned)
    ∙ ap (λ n. step_made tables row one first ++ (steps_made tables row (suc first) rest ++ (step_made tables row owned n ++ []))) (let e : suc first + length rest ≡ first + suc (length rest) = omega arith in e)
    ∙ sym (append_assoc (step_made tables row one first) (steps_made tables row (suc first) rest) (step_made tables row owned (first + suc (length rest)) ++ []))

module _ (layout : Layout) (office : Office) (number : ℕ) (row : RunRow) (leg : Leg) (owned : OwnedStep) (step writes : ℕ) (kept : IsAgreed layout office) (running : IsRunning office number row leg owned step writes) where
  abbrev the_start : StepStart
  the_start = its_start leg owned step

  at_place : IsAtPlace office.tables row leg
  at_place = place_so layout office number row leg owned step writes kept running

  step_is : step_now row ≡ step
  step_is = now layout office number row leg owned step writes kept running

  leg_step : step_at leg.job step ≡ Some owned
  leg_step = found_leg layout office number row leg owned step writes kept running

  way : IsUnderWay row the_start writes
  way = under_way layout office number row leg owned step writes kept running

  abbrev walk : Walk
  walk = walk_before leg.job leg.start step

  passed_is : row.passed ≡ walk.standing.passed
  passed_is = at_place.passed ∙ ap (λ n. (walk_before leg.job leg.start n).standing.passed) step_is

  earlier_is : (name : Name) → is_among (earlier_made office.tables row step) name ≡ is_among walk.earlier name
  earlier_is name =
      ap (λ n. is_among (earlier_made office.tables row n) name) (sym step_is) ∙ at_place.earlier name
      ∙ ap (λ n. is_among (walk_before leg.job leg.start n).earlier name) step_is

  -- the dispositions by the tables are those of the job's step
  abbrev disposals : Bool → List Disposal
  disposals abnormal = run_disposals row owned (own_made row owned step) (earlier_made office.tables row step) abnormal

  pub disposals_are : (abnormal : Bool) → disposals abnormal ≡ disposals_of walk.earlier abnormal (placed_at the_start)
  unfolding placed_at
  disposals_are abnormal =
      ap (λ (job : Effective). filter_map (λ dd. option_map (run_disposal (own_made row owned step) (earlier_made office.tables row step) abnormal dd) (name_of job.root owned dd)) owned.step.dds) (sym at_place.job)
      ∙ disposals-same the_start.standing leg.job.root owned 1 owned.step.dds (own_made row owned step) (earlier_made office.tables row step) walk.earlier abnormal way.flawless way.made earlier_is

  abbrev disposed : Bool → Stock TableSet
  disposed abnormal = after_dispositions row owned step abnormal office.tables

  pub disposed-inside : (abnormal : Bool) (name : Name) → Among leg name → AreAlike (disposed abnormal).sets (disposed_at the_start abnormal (within_at the_start writes)).sets name
  unfolding disposed_at
  disposed-inside abnormal name among =
      ap (λ all. option_map table_shape (entry_at (disposed_all table_ways all (standing_of row office.tables)).sets name)) (disposals_are abnormal)
      ∙ disposed_all-alike name (disposals_of walk.earlier abnormal (placed_at the_start)) (standing_of row office.tables) (record { sets = within_at the_start writes; passed = walk.standing.passed })
      (alike_within layout office number row leg owned step writes kept running name among)

  pub disposed-passes : (abnormal : Bool) → (disposed abnormal).passed ≡ (disposed_at the_start abnormal (within_at the_start writes)).passed
  unfolding disposed_at
  disposed-passes abnormal =
      ap (λ all. (disposed_all table_ways all (standing_of row office.tables)).passed) (disposals_are abnormal)
      ∙ disposed_all-passed (disposals_of walk.earlier abnormal (placed_at the_start)) (standing_of row office.tables) (record { sets = within_at the_start writes; passed = walk.standing.passed }) passed_is

  not_named : (name : Name) → is_among leg.reach name ≡ false → is_among (names_of leg.job.root owned) name ≡ false
  not_named name out =
      bool-cases (is_among (names_of leg.job.root owned) name)
      (λ among. absurd (false≢true (sym out ∙ in_reach layout office number row leg owned step writes kept running name among)))
      (λ e. e)

  apart_so : (abnormal : Bool) (name : Name) → is_among leg.reach name ≡ false → AllByRecursion (λ (one : Disposal). same_name name one.name ≡ false) (disposals abnormal)
  unfolding placed_at
  apart_so abnormal name out =
      subst (AllByRecursion (λ (one : Disposal). same_name name one.name ≡ false)) (sym (disposals_are abnormal))
      (disposals-apart walk.earlier abnormal (placed_at the_start) name
      (placed-apart record_ways the_start.standing leg.job.root owned 1 owned.step.dds name (not_named name out)))

  pub disposed-outside : (abnormal : Bool) (name : Name) → is_among leg.reach name ≡ false → entry_at (disposed abnormal).sets name ≡ entry_at office.tables.sets name
  disposed-outside abnormal name out = disposed-apart table_ways (disposals abnormal) (standing_of row office.tables) name (apart_so abnormal name out)

  pub disposed-enters : (abnormal : Bool) (name : Name) → is_among leg.reach name ≡ false → is_among row.lost name ≡ false → is_among (passed_made (disposed abnormal).passed) name ≡ false
  disposed-enters abnormal name out stays =
      disposed-made table_ways name (disposals abnormal) (standing_of row office.tables) (apart-unmade (disposals abnormal) name (apart_so abnormal name out)) (at_place.entered name out stays)

  pub disposed-laid : (abnormal : Bool) → AreLaidOut layout (disposed abnormal).sets
  disposed-laid abnormal = disposed_all-laid layout (disposals abnormal) (standing_of row office.tables) kept.extents

  -- ---- a normal end

  -- by its point, the step made what it makes
  pub made_is : (name : Name) → is_among (own_made row owned step) name ≡ is_among (names_made (placed_at the_start)) name
  unfolding placed_at
  made_is name =
      bool-cases (is_among (names_of leg.job.root owned) name)
      (λ among.
      way.made name among
      ∙ also (is_none (entry_at the_start.standing.sets name))
      ∙ ap (λ b. is_none (entry_at the_start.standing.sets name) && b) (sym among) ∙ sym makes)
      (λ out.
      own_made-out row owned step name (ap (λ (job : Effective). is_among (names_of job.root owned) name) (sym at_place.job) ∙ out)
      ∙ nothing (is_none (entry_at the_start.standing.sets name))
      ∙ ap (λ b. is_none (entry_at the_start.standing.sets name) && b) (sym out) ∙ sym makes)
    where
      makes : is_among (names_made (placed_from record_ways the_start.standing leg.job.root owned 1 owned.step.dds)) name ≡ (is_none (entry_at the_start.standing.sets name) && is_among (names_of leg.job.root owned) name)
      makes = names_made-placed the_start.standing leg.job.root owned 1 owned.step.dds name way.flawless

      also : (b : Bool) → b ≡ (b && true)
      also true = refl
      also false = refl

      nothing : (b : Bool) → false ≡ (b && false)
      nothing true = refl
      nothing false = refl

  module _ (rc : ℕ) (on : is_in_state On row ≡ true) (all : writes ≡ length (work_at the_start).writes) (returned : (work_at the_start).finish ≡ Returned rc) where
    abbrev next : RunRow
    next = record row { place = Some (Before (suc step)); rcs = row.rcs ++ (step, rc) ∷ []; passed = (disposed false).passed; in_effect = None }

    abbrev gone : Office
    gone = moved next (disposed false).sets office.library office

    has : HasNext office.tables gone.tables row next
    has = has_next layout office number row leg owned step writes kept running next (disposed false).sets refl

    runs_so : is_bypassed walk.rcs owned ≡ false
    runs_so = ap (λ rcs. is_bypassed rcs owned) (sym (at_place.rcs ∙ ap (λ n. (walk_before leg.job leg.start n).rcs) step_is)) ∙ way.runs

    behind : walk_before leg.job leg.start (suc step) ≡ step_walked the_start walk
    behind = walk_before-behind leg.job leg.start step owned leg_step runs_so

    standing_behind : (walk_before leg.job leg.start (suc step)).standing ≡ disposed_at the_start false (within_at the_start writes)
    standing_behind =
        ap (λ (w : Walk). w.standing) behind ∙ step_walked-standing the_start walk ∙ ap (λ n. disposed_at the_start false (within_at the_start n)) (sym all)

    made_of_step : (name : Name) → is_among (step_made gone.tables next owned step) name ≡ is_among (names_made (placed_at the_start)) name
    made_of_step name =
        number-cases owned.owner row.number
        (λ mine. ap (λ names. is_among names name) (own_made-is office.tables gone.tables row next has refl refl owned step mine) ∙ made_is name)
        (λ other.
        ap (λ names. is_among names name) (lent-same office.tables gone.tables row next has refl refl owned step other)
        ∙ ap (λ n. is_among (step_made office.tables row owned n) name) (sym step_is)
        ∙ at_place.lent owned name (ap (step_at leg.job) step_is ∙ leg_step) other
        ∙ ap (λ n. is_among (names_made (placed_at (start_of leg.job leg.start n owned))) name) step_is)

    earlier_step : (before : ℕ) → step ≡ suc before → (name : Name) → is_among (earlier_made gone.tables next (suc step)) name ≡ is_among (walk_before leg.job leg.start (suc step)).earlier name
    earlier_step before e name =
        ap (λ n. is_among (steps_made gone.tables next 1 (take n row.job.steps)) name) e
        ∙ ap (λ steps. is_among (steps_made gone.tables next 1 steps) name) (take-next before row.job.steps owned (ap (step_at row.job) (sym e) ∙ running.found))
        ∙ ap (λ names. is_among names name) (steps_made-append gone.tables next 1 (take before row.job.steps) owned)
        ∙ list_any-append (same_name name) (steps_made gone.tables next 1 (take before row.job.steps)) (step_made gone.tables next owned (1 + length (take before row.job.steps)) ++ [])
        ∙ ap (λ b. b || is_among (step_made gone.tables next owned (1 + length (take before row.job.steps)) ++ []) name)
        (ap (λ names. is_among names name) (steps_made-same office.tables gone.tables row next has refl refl 1 step (take before row.job.steps) (let e' : length (take before row.job.steps) ≡ before = long in omega (arith, e', e)) (λ its at_step below. refl))
        ∙ ap (λ n. is_among (steps_made office.tables row 1 (take (pred n) row.job.steps)) name) (sym e)
        ∙ earlier_is name)
        ∙ ap (λ b. is_among walk.earlier name || b)
        (list_any-append (same_name name) (step_made gone.tables next owned (1 + length (take before row.job.steps))) []
        ∙ or-false _
        ∙ ap (λ n. is_among (step_made gone.tables next owned n) name) (let e' : length (take before row.job.steps) ≡ before = long in let s : 1 + length (take before row.job.steps) ≡ step = omega (arith, e', e) in s)
        ∙ made_of_step name)
        ∙ sym (list_any-append (same_name name) walk.earlier (names_made (placed_at the_start)))
        ∙ ap (λ names. is_among names name) (sym (ap (λ (w : Walk). w.earlier) behind ∙ step_walked-earlier the_start walk))
      where
        long : length (take before row.job.steps) ≡ before
        long = length-take before row.job.steps owned (ap (step_at row.job) (sym e) ∙ running.found)

    positive : (n : ℕ) → step_at row.job n ≡ Some owned → (before : ℕ) × (n ≡ suc before)
    positive zero e = absurd (some-not-none owned (sym e))
    positive (suc before) e = (before, refl)

    -- a name that isn't the run's own is there as it was in the step
    other_behind : (name : Name) → is_among (own_names row) name ≡ false → entry_at (at leg.job leg.start (place_of row)).sets name ≡ entry_at (at leg.job leg.start (Before (suc step))).sets name
    other_behind name other =
        ap (λ place. entry_at (at leg.job leg.start place).sets name) running.stands
        ∙ ap (λ library. entry_at library name) (at-within leg.job leg.start step writes owned leg_step)
        ∙ sym (disposed_at-other the_start false (within_at the_start writes) name (other-out office.tables row leg name at_place other owned (ap (step_at leg.job) step_is ∙ leg_step)))
        ∙ ap (λ (standing : Stock LibrarySet). entry_at standing.sets name) (sym (at-before leg.job leg.start (suc step) ∙ standing_behind))

    place_behind : IsAtPlace gone.tables next leg
    place_behind = record {
      job = at_place.job;
      begun = omega arith;
      past = let was : row.earlier_step ≤ step_now row = at_place.past in omega (arith, step_is, was);
      formed = at_place.formed;
      goes_on =
          goes_on-behind leg.job leg.start step owned rc leg_step
          (ap (λ n. all_go_on leg.job.root 1 (take (pred n) leg.job.steps) (walk_from leg.start)) (sym step_is) ∙ at_place.goes_on) runs_so way.flawless returned;
      rcs =
          ap (λ rcs. rcs ++ (step, rc) ∷ []) (at_place.rcs ∙ ap (λ n. (walk_before leg.job leg.start n).rcs) step_is)
          ∙ sym (ap (λ (w : Walk). w.rcs) behind ∙ step_walked-rcs the_start walk rc returned);
      passed = disposed-passes false ∙ ap (λ (standing : Stock LibrarySet). standing.passed) (sym standing_behind);
      earlier = let its = positive step running.found in earlier_step its.0 its.1;
      owners = owners-same office.tables gone.tables row next has refl refl row.job.steps at_place.owners;
      ahead = λ other its name from found among. at_place.ahead other its name (omega (arith, step_is, from)) found among;
      own = at_place.own;
      carried = λ name among other. subst (HasMarkOf (mark_at (carried_marks row) name)) (other_behind name other) (at_place.carried name among other);
      later = λ other its from found. at_place.later other its (omega (arith, step_is, from)) found;
      lent = λ its name found apart. absurd (apart (at_place.later (suc step) its (omega (arith, step_is)) found));
      unreached = at_place.unreached;
      none_lost = at_place.none_lost;
      entered = disposed-enters false;
      waits = λ off. absurd (false≢true (sym off ∙ on));
      within = tt;
    }

    -- the events stay kept behind the step
    pub kept-step_ended : is_holder row.state ≡ true → IsAgreed layout gone
    kept-step_ended holds =
        kept-goes_on layout office number row next leg (disposed false).sets kept running.holder
        (record {
          same = refl;
          deck = refl;
          holds = holds;
          place = place_behind;
          outside = λ name out. ap (option_map table_shape) (disposed-outside false name out);
          inside = λ name among.
              disposed-inside false name among
              ∙ ap (λ (standing : Stock LibrarySet). option_map set_shape (entry_at standing.sets name)) (sym (at-before leg.job leg.start (suc step) ∙ standing_behind));
          extents = disposed-laid false;
        })
