-- The events stay kept where a run goes back to the start of its step, or to its checkpoint in effect.
use Rattle.std.proofs.Common.{◌≡◌, ◌≤◌, ◌<◌, ℕ, Bool, true, false, cond, ◌&&◌, List, [], refl, ap, sym, ◌∙◌, subst, Option, Some, None, arith}
use Rattle.std.specs.Prelude.{◌==◌}
use Rattle.std.specs.Option.{option_map, option_map_or, is_none, is_some}
use Rattle.std.proofs.lemmas.Bool.{false≢true}
use Rattle.std.proofs.lemmas.Option.{same_Some}
use Rattle.ckr_base.proofs.Bools.{and-false, bool-cases}
use Rattle.ckr_base.proofs.Numbers.{equal-true}
use Rattle.ckr_base.proofs.Options.{is_none-true, some-not-none, some-one}
use Rattle.ckr_base.proofs.Sequences.{find-passes}
use Rattle.ckr_entry.specs.declared.point.Mark.{Mark}
use Rattle.ckr_entry.specs.declared.point.Passed.{Passed}
use Rattle.ckr_entry.specs.declared.point.Present.{Present}
use Rattle.ckr_library.specs.NameMaps.{Name, Named, entry_at}
use Rattle.ckr_meaning.specs.EffectiveJob.{Effective, OwnedStep, flaws_in, is_among, names_of, names_of_job, step_at}
use Rattle.ckr_meaning.specs.JobRun.{at, start_at, walk_before}
use Rattle.ckr_meaning.specs.LibrarySet.{Library, LibrarySet}
use Rattle.ckr_meaning.specs.StepRun.{StepStart, opened_at, placed_at, within_at}
use Rattle.ckr_meaning.specs.declared.place.Place.{Place}
use Rattle.ckr_meaning.specs.declared.place.Place.TheVariants.{Before, Opened, Within}
use Rattle.ckr_volumes.specs.declared.layout.Layout.{Layout}
use Rattle.ckr_points_library.specs.Commit.{output_names}
use Rattle.ckr_points.specs.declared.run.RunState.TheVariants.{On}
use Rattle.ckr_points.specs.Follows.{is_in_state, own_step}
use Rattle.ckr_points.specs.Marks.{carried_marks, made_names, mark_at, point_at, present_at, put_back, removed_all, with_point}
use Rattle.ckr_points.specs.Office.{Leg, Office, is_holder, leg_of}
use Rattle.ckr_points.specs.Payload.{is_formed_step, rewrites_nothing, writes_in}
use Rattle.ckr_points.specs.Restart.{effect_restarted, place_of, point_restarted, row_on, step_in}
use Rattle.ckr_points.specs.Rows.{EffectPoint, RunRow, StartPoint, TableSet}
use Rattle.ckr_points.specs.Soundness.{AreLaidOut}
use Rattle.ckr_points.specs.Tables.{own_made}
use Rattle.ckr_points_invariant.specs.Invariant.{AreAlike, IsAgreed, IsAtPlace, IsMarkOf, IsUnderWay, IsWithinStep, Leaves, Shape, present_shape, set_shape, step_now, table_shape}
use Rattle.ckr_points_invariant.specs.Points.{IsPointAt}
use Rattle.ckr_points_invariant.proofs.Holders.Moves.{Among, kept-goes_on, moved}
use Rattle.ckr_points_invariant.proofs.Holders.Places.{outputs-among, place-next}
use Rattle.ckr_points_invariant.proofs.Holders.SharedSets.{at-left, step_left}
use Rattle.ckr_points_invariant.proofs.Marks.Points.{carried-again, carried-same, own_made-out, point_at-other}
use Rattle.ckr_points_invariant.proofs.Select.Invariant.{among-step}
use Rattle.ckr_points_invariant.proofs.Soundness.{at-passed}
use Rattle.ckr_points_invariant.proofs.Start.Openings.{opened-none}
use Rattle.ckr_points_invariant.proofs.Steps.Commits.{alike_within, formed_step, found_leg, has_next, in_reach, now, place_so, under_way}
use Rattle.ckr_points_invariant.proofs.Steps.Walks.{at-opened, at-within, start_at-of}
use Rattle.ckr_points_invariant.specs.Restorability.{HasPoint, IsRestorable}
use Rattle.ckr_points_invariant.specs.RunningSteps.{IsRunning, its_start}
use Rattle.ckr_points_invariant.proofs.PutBack.Sets.{at-removed_all, back_to, put_back-apart, put_back-laid, put_back-marked, put_back-none, removed_all-laid, to_catalog}
use Rattle.ckr_points_invariant.proofs.OtherRuns.Outputs.{not-output}
use Rattle.ckr_points_invariant.proofs.Restart.Libraries.{opened-made, put_back-within, within-other}

-- ---- a point of the run's own job

pub point-of : (office : Office) (number : ℕ) (leg : Leg) (place : Place) (marks : List Mark) (passed : List Passed) → leg_of office number ≡ Some leg → IsPointAt office.legs number place marks passed → HasPoint leg place marks passed
point-of office number leg place marks passed led point =
    subst (λ (its : Leg). HasPoint its place marks passed) (some-one point.leg leg (leg_of office number) point.led led)
    (record { marked = λ owned name found among. point.marked name (among-step point.leg.job (step_in place) owned name found among); passed_on = point.passed_on })

-- it marks the names of the job and no other
pub point-covers : (office : Office) (number : ℕ) (leg : Leg) (place : Place) (marks : List Mark) (passed : List Passed) → leg_of office number ≡ Some leg → IsPointAt office.legs number place marks passed → (name : Name) → is_some (mark_at marks name) ≡ is_among (names_of_job leg.job) name
point-covers office number leg place marks passed led point name =
    point.covers name ∙ ap (λ (its : Leg). is_among (names_of_job its.job) name) (some-one point.leg leg (leg_of office number) point.led led)

-- and says of each what the job has
pub point-says : (office : Office) (number : ℕ) (leg : Leg) (place : Place) (marks : List Mark) (passed : List Passed) → leg_of office number ≡ Some leg → IsPointAt office.legs number place marks passed → (name : Name) → is_among (names_of_job leg.job) name ≡ true → IsMarkOf (present_at marks name) (entry_at (at leg.job leg.start place).sets name)
point-says office number leg place marks passed led point name =
    subst (λ (its : Leg). is_among (names_of_job its.job) name ≡ true → IsMarkOf (present_at marks name) (entry_at (at its.job its.start place).sets name))
    (some-one point.leg leg (leg_of office number) point.led led) (point.marked name)

-- what isn't there isn't put back
put_back-absent : (marks : List Mark) (outputs needed : List Name) (sets : Named TableSet) (name : Name) → entry_at sets name ≡ None → entry_at (put_back marks outputs needed sets) name ≡ None
put_back-absent marks outputs needed sets name none = by (present_at marks name) refl
  where
    by : (present : Option Present) → present_at marks name ≡ present → entry_at (put_back marks outputs needed sets) name ≡ None
    by None has = put_back-none marks outputs needed sets name has ∙ none
    by (Some present) has = put_back-marked marks outputs needed sets present name has ∙ ap (option_map _) none

none-alike : (entry : Option TableSet) (set : Option LibrarySet) → entry ≡ None → set ≡ None → option_map table_shape entry ≡ option_map set_shape set
none-alike entry set one other = ap (option_map table_shape) one ∙ sym (ap (option_map set_shape) other)

module _ (layout : Layout) (office : Office) (number : ℕ) (row : RunRow) (leg : Leg) (owned : OwnedStep) (step writes : ℕ) (kept : IsAgreed layout office) (running : IsRunning office number row leg owned step writes) where
  abbrev start : StepStart
  start = its_start leg owned step

  at_place : IsAtPlace office.tables row leg
  at_place = place_so layout office number row leg owned step writes kept running

  step_is : step_now row ≡ step
  step_is = now layout office number row leg owned step writes kept running

  leg_step : step_at leg.job step ≡ Some owned
  leg_step = found_leg layout office number row leg owned step writes kept running

  way : IsUnderWay row start writes
  way = under_way layout office number row leg owned step writes kept running

  formed : is_formed_step leg.job.root owned ≡ true
  formed = formed_step layout office number row leg owned step writes kept running

  abbrev names : List Name
  names = names_of leg.job.root owned

  abbrev outputs : List Name
  outputs = output_names leg.job.root owned

  -- ---- the data sets that are put back

  -- the data sets of the tables put back for a job, with some removed
  abbrev pub sets_back : Effective → List Mark → List Name → Named TableSet
  sets_back job marks removed = put_back marks (output_names job.root owned) (names_of job.root owned) (removed_all removed office.tables.sets)

  abbrev Inside : List Name → Type 0
  Inside removed = (name : Name) → is_among names name ≡ false → is_among removed name ≡ false

  not_output : (name : Name) → is_among names name ≡ false → is_among outputs name ≡ false
  not_output name out =
      bool-cases (is_among outputs name)
      (λ among. absurd (false≢true (sym out ∙ outputs-among leg.job.root owned name among)))
      (λ e. e)

  not_named : (name : Name) → is_among leg.reach name ≡ false → is_among names name ≡ false
  not_named name out =
      bool-cases (is_among names name)
      (λ among. absurd (false≢true (sym out ∙ in_reach layout office number row leg owned step writes kept running name among)))
      (λ e. e)

  kept_entry : (removed : List Name) (name : Name) → is_among removed name ≡ false → entry_at (removed_all removed office.tables.sets) name ≡ entry_at office.tables.sets name
  kept_entry removed name out = at-removed_all removed office.tables.sets name ∙ ap (λ b. cond b None (entry_at office.tables.sets name)) out

  -- names of other steps are as they were
  back-other : (marks : List Mark) (removed : List Name) → Inside removed → (name : Name) → is_among names name ≡ false → entry_at (sets_back leg.job marks removed) name ≡ entry_at office.tables.sets name
  back-other marks removed inside name out =
      put_back-apart marks outputs names (removed_all removed office.tables.sets) name (not_output name out) out
      ∙ kept_entry removed name (inside name out)

  pub back-outside : (marks : List Mark) (removed : List Name) → Inside removed → (name : Name) → is_among leg.reach name ≡ false → entry_at (sets_back leg.job marks removed) name ≡ entry_at office.tables.sets name
  back-outside marks removed inside name out = back-other marks removed inside name (not_named name out)

  back-laid : (marks : List Mark) (removed : List Name) → AreLaidOut layout (sets_back leg.job marks removed)
  back-laid marks removed =
      put_back-laid layout marks outputs names (removed_all removed office.tables.sets) (removed_all-laid layout removed office.tables.sets kept.extents)

  alike_now : (name : Name) → Among leg name → AreAlike office.tables.sets (within_at start writes) name
  alike_now = alike_within layout office number row leg owned step writes kept running

  module _ (from : ℕ) (marks : List Mark) (below : from ≤ writes) (unwritten : rewrites_nothing start from writes ≡ true) where
    -- names of other steps are alike
    back-elsewhere : (removed : List Name) → Inside removed → (name : Name) → Among leg name → is_among names name ≡ false → AreAlike (sets_back leg.job marks removed) (within_at start from) name
    back-elsewhere removed inside name among out =
        ap (option_map table_shape) (back-other marks removed inside name out) ∙ alike_now name among
        ∙ ap (option_map set_shape) (within-other start from writes formed below unwritten name (not_output name out))

    -- those of the step that aren't removed are put back to what they were
    back-here : (removed : List Name) (name : Name) → Among leg name → is_among names name ≡ true → is_among removed name ≡ false → IsMarkOf (present_at marks name) (entry_at (within_at start from) name) → AreAlike (sets_back leg.job marks removed) (within_at start from) name
    back-here removed name among named out marked =
        put_back-within start from writes formed below unwritten marks names (removed_all removed office.tables.sets) name named marked
        (ap (option_map table_shape) (kept_entry removed name out) ∙ alike_now name among)

  -- a name that the job leaves as it was stays, where it isn't removed
  module _ (place : Place) (marks : List Mark) (passed : List Passed) (removed : List Name) (here : step_in place ≡ step) (has : HasPoint leg place marks passed) (inside : Inside removed) (name : Name) (among : Among leg name) (left : Leaves leg.job name) where
    same_there : entry_at (at leg.job leg.start place).sets name ≡ entry_at (within_at start writes) name
    same_there =
        at-left name leg.job leg.start at_place.formed left place ∙ sym (at-left name leg.job leg.start at_place.formed left (Within step writes))
        ∙ ap (λ library. entry_at library name) (at-within leg.job leg.start step writes owned leg_step)

    not_put_out : is_among outputs name ≡ false
    not_put_out = not-output leg.job.root owned name (step_left name leg.job leg.start at_place.formed left step owned leg_step)

    catalog-same : (table : TableSet) (set : LibrarySet) (present : Present) → table_shape table ≡ set_shape set → present_shape set.content present ≡ set_shape set → to_catalog present table ≡ table
    catalog-same table set present alike marked =
        ap (λ on. let its : TableSet = record table { set = record table.set { cataloged = on } } in its)
        (ap (λ (shape : Shape). shape.cataloged) marked ∙ sym (ap (λ (shape : Shape). shape.cataloged) alike))

    marked-same : (table : TableSet) → is_among removed name ≡ false → is_among names name ≡ true → entry_at office.tables.sets name ≡ Some table → (set : Option LibrarySet) → Some (table_shape table) ≡ option_map set_shape set → (present : Option Present) → present_at marks name ≡ present → IsMarkOf present set → entry_at (sets_back leg.job marks removed) name ≡ Some table
    marked-same table out named e None alike present is marked = absurd (some-not-none (table_shape table) alike)
    marked-same table out named e (Some set) alike None is marked = absurd marked
    marked-same table out named e (Some set) alike (Some present) is marked =
        put_back-marked marks outputs names (removed_all removed office.tables.sets) present name is
        ∙ ap (λ b. option_map (back_to b (is_among names name) present) (entry_at (removed_all removed office.tables.sets) name)) not_put_out
        ∙ ap (λ b. option_map (back_to false b present) (entry_at (removed_all removed office.tables.sets) name)) named
        ∙ ap (option_map (to_catalog present)) (kept_entry removed name out ∙ e)
        ∙ ap Some (catalog-same table set present (same_Some _ _ alike) marked)

    back-shared : (is_some (entry_at (at leg.job leg.start place).sets name) ≡ true → is_among removed name ≡ false) → entry_at (sets_back leg.job marks removed) name ≡ entry_at office.tables.sets name
    back-shared stays =
        bool-cases (is_among names name)
        (λ named. by (entry_at office.tables.sets name) refl named)
        (back-other marks removed inside name)
      where
        by : (entry : Option TableSet) → entry_at office.tables.sets name ≡ entry → is_among names name ≡ true → entry_at (sets_back leg.job marks removed) name ≡ entry_at office.tables.sets name
        by None e named =
            put_back-absent marks outputs names (removed_all removed office.tables.sets) name
            (at-removed_all removed office.tables.sets name ∙ ap (cond (is_among removed name) None) e ∙ nothing (is_among removed name))
            ∙ sym e
          where
            nothing : (b : Bool) → cond b None (let none : Option TableSet = None in none) ≡ None
            nothing true = refl
            nothing false = refl
        by (Some table) e named =
            let alike : Some (table_shape table) ≡ option_map set_shape (entry_at (at leg.job leg.start place).sets name) = sym (ap (option_map table_shape) e) ∙ alike_now name among ∙ ap (option_map set_shape) (sym same_there) in
            marked-same table (stays (there_by (entry_at (at leg.job leg.start place).sets name) alike)) named e (entry_at (at leg.job leg.start place).sets name) alike (present_at marks name) refl
            (has.marked owned name (ap (step_at leg.job) here ∙ leg_step) named)
            ∙ sym e
          where
            there_by : (set : Option LibrarySet) → Some (table_shape table) ≡ option_map set_shape set → is_some set ≡ true
            there_by None alike = absurd (some-not-none (table_shape table) alike)
            there_by (Some set) alike = refl

  -- ---- the row

  -- a row of the run that goes back to a place of its step
  pub record GoesBack (next : RunRow) (place : Place) : Type 0 where
    pub number_so : next.number ≡ row.number
    pub deck : next.deck ≡ row.deck
    pub job : next.job ≡ row.job
    pub own_from : next.earlier_step ≡ row.earlier_step
    pub rcs : next.rcs ≡ row.rcs
    pub passed : next.passed ≡ row.passed
    pub lost : next.lost ≡ row.lost
    pub on : is_in_state On next ≡ true
    pub holds : is_holder next.state ≡ true
    pub stands : next.place ≡ Some place
    pub here : step_in place ≡ step
    pub made : (its : OwnedStep) (number : ℕ) → number < step_now row → own_made next its number ≡ own_made row its number
    pub carried : carried_marks next ≡ carried_marks row
    pub within : IsWithinStep next leg place

  place_next : (next : RunRow) (place : Place) → GoesBack next place → place_of next ≡ place
  place_next next place goes = ap (λ (o : Option Place). option_map_or (λ place. place) o (Before 1)) goes.stands

  -- the events stay kept behind it
  pub kept-back : (next : RunRow) (place : Place) (sets : Named TableSet) → GoesBack next place → ((name : Name) → is_among leg.reach name ≡ false → entry_at sets name ≡ entry_at office.tables.sets name) → ((name : Name) → Among leg name → AreAlike sets (at leg.job leg.start place).sets name) → AreLaidOut layout sets → IsAgreed layout (moved next sets office.library office)
  kept-back next place sets goes outside inside laid =
      kept-goes_on layout office number row next leg sets kept running.holder
      (record {
        same = goes.number_so;
        deck = goes.deck;
        holds = goes.holds;
        place =
            place-next office.tables (moved next sets office.library office).tables row next leg (has_next layout office number row leg owned step writes kept running next sets goes.number_so)
            (record {
              number = goes.number_so;
              job = goes.job;
              own_from = goes.own_from;
              rcs = goes.rcs;
              passed = goes.passed;
              deck = goes.deck;
              lost = goes.lost;
              step = ap step_in stands ∙ goes.here ∙ sym step_is;
              made = goes.made;
              carried = carried-same row next goes.carried;
            })
            (λ off. absurd (false≢true (sym off ∙ goes.on)))
            (subst (IsWithinStep next leg) (sym stands) goes.within) at_place;
        outside = λ name out. ap (option_map table_shape) (outside name out);
        inside = λ name among. inside name among ∙ ap (λ its. option_map set_shape (entry_at (at leg.job leg.start its).sets name)) (sym stands);
        extents = laid;
      })
    where
      stands : place_of next ≡ place
      stands = place_next next place goes

  -- the passed list of a point is that of the run
  passed_so : (place : Place) (marks : List Mark) (passed : List Passed) → step_in place ≡ step → HasPoint leg place marks passed → passed ≡ row.passed
  passed_so place marks passed here point =
      point.passed_on ∙ at-passed leg.job leg.start place
      ∙ ap (λ n. (walk_before leg.job leg.start n).standing.passed) (here ∙ sym step_is) ∙ sym at_place.passed

  same_job : leg.job ≡ row.job
  same_job = at_place.job

  own_so : own_step row ≡ Some owned
  own_so = ap (step_at row.job) step_is ∙ running.found

  start_so : start_at leg.job leg.start (step_now row) ≡ Some start
  start_so = ap (start_at leg.job leg.start) step_is ∙ start_at-of leg.job leg.start step owned leg_step

  writes_so : writes_in (place_of row) ≡ writes
  writes_so = ap writes_in running.stands

  module _ (from : ℕ) (marks : List Mark) (passed : List Passed) (can : IsRestorable row leg from) where
    below_so : from ≤ writes
    below_so = subst (λ n. from ≤ n) writes_so can.behind

    unwritten_so : rewrites_nothing start from writes ≡ true
    unwritten_so = ap (rewrites_nothing start from) (sym writes_so) ∙ can.unwritten start start_so

  -- ---- at the start of the step

  module _ (point : StartPoint) (initiator : ℕ) (got : point_at row.points step ≡ Some point) (has : HasPoint leg (Opened step) point.marks point.passed) (can : IsRestorable row leg 0) where
    abbrev made_here : List Name
    made_here = own_made row owned step

    made_inside : Inside made_here
    made_inside name out = own_made-out row owned step name (ap (λ (job : Effective). is_among (names_of job.root owned) name) (sym same_job) ∙ out)

    abbrev pub start_sets : Effective → Named TableSet
    start_sets job = sets_back job point.marks made_here

    abbrev pub start_row : Effective → RunRow
    start_row job = record (row_on initiator row) {
      points = with_point (point_restarted point) row.points;
      in_effect = None;
      place = Some (Opened step);
      count = point.count;
      passed = point.passed;
    }

    opened_is : (at leg.job leg.start (Opened step)).sets ≡ opened_at start
    opened_is = at-opened leg.job leg.start step owned leg_step

    marked_so : (name : Name) → is_among names name ≡ true → IsMarkOf (present_at point.marks name) (entry_at (opened_at start) name)
    marked_so name named = subst (λ (library : Library). IsMarkOf (present_at point.marks name) (entry_at library name)) opened_is (has.marked owned name leg_step named)

    -- a name that the step doesn't make is alike to what it opened
    start-kept : (name : Name) → Among leg name → is_among names name ≡ true → is_none (entry_at start.standing.sets name) ≡ false → AreAlike (start_sets leg.job) (opened_at start) name
    start-kept name among named there =
        back-here 0 point.marks (below_so 0 point.marks point.passed can) (unwritten_so 0 point.marks point.passed can) made_here name among named
        (way.made name named ∙ there)
        (subst (IsMarkOf (present_at point.marks name)) (sym same) (marked_so name named))
        ∙ ap (option_map set_shape) same
      where
        same : entry_at (within_at start 0) name ≡ entry_at (opened_at start) name
        same = opened-made start name way.flawless (ap (λ b. b && is_among names name) there)

    -- one that it makes is removed
    start-made : (name : Name) → is_among names name ≡ true → is_none (entry_at start.standing.sets name) ≡ true → AreAlike (start_sets leg.job) (opened_at start) name
    start-made name named absent =
        none-alike (entry_at (start_sets leg.job) name) (entry_at (opened_at start) name)
        (put_back-absent point.marks outputs names (removed_all made_here office.tables.sets) name
        (at-removed_all made_here office.tables.sets name ∙ ap (λ b. cond b None (entry_at office.tables.sets name)) (way.made name named ∙ absent)))
        (is_none-true (entry_at (opened_at start) name) (opened-none start name ∙ absent))

    start-elsewhere : (name : Name) → Among leg name → is_among names name ≡ false → AreAlike (start_sets leg.job) (opened_at start) name
    start-elsewhere name among out =
        back-elsewhere 0 point.marks (below_so 0 point.marks point.passed can) (unwritten_so 0 point.marks point.passed can) made_here made_inside name among out
        ∙ ap (option_map set_shape) (opened-made start name way.flawless (ap (λ b. is_none (entry_at start.standing.sets name) && b) out ∙ and-false _))

    -- the data sets of the run's reach are what its job has at the start of the step
    pub start-inside : (name : Name) → Among leg name → AreAlike (start_sets leg.job) (at leg.job leg.start (Opened step)).sets name
    start-inside name among =
        bool-cases (is_among names name)
        (λ named. bool-cases (is_none (entry_at start.standing.sets name)) (start-made name named) (start-kept name among named))
        (start-elsewhere name among)
        ∙ ap (λ library. option_map set_shape (entry_at library name)) (sym opened_is)

    point_step : point.step ≡ step
    point_step = equal-true point.step step (find-passes (λ (one : StartPoint). one.step == step) row.points point got)

    start_goes : GoesBack (start_row leg.job) (Opened step)
    start_goes = record {
      number_so = refl;
      deck = refl;
      job = refl;
      own_from = refl;
      rcs = refl;
      passed = passed_so (Opened step) point.marks point.passed refl has;
      lost = refl;
      on = refl;
      holds = refl;
      stands = refl;
      here = refl;
      made = λ its other below.
          ap (λ (o : Option StartPoint). option_map_or (λ (point : StartPoint). made_names point.marks (names_of row.job.root its)) o [])
          (point_at-other (point_restarted point) row.points other (λ e. absurd (let a = e ∙ point_step in let b = step_is in omega (arith, a, b, below))));
      carried = carried-again row (point_restarted point) point (ap (point_at row.points) point_step ∙ got) refl;
      within = λ its at_step. subst (λ s. flaws_in (placed_at s) ≡ []) (same_Some start its (sym (start_at-of leg.job leg.start step owned leg_step) ∙ at_step)) way.flawless;
    }

    -- what the run doesn't reach is as it was
    pub start-outside : (name : Name) → is_among leg.reach name ≡ false → entry_at (start_sets row.job) name ≡ entry_at office.tables.sets name
    start-outside name out = ap (λ (job : Effective). entry_at (start_sets job) name) (sym same_job) ∙ back-outside point.marks made_here made_inside name out

    -- a name that its job leaves as it was too
    pub start-shared : (name : Name) → Among leg name → Leaves leg.job name → entry_at (start_sets row.job) name ≡ entry_at office.tables.sets name
    start-shared name among left =
        ap (λ (job : Effective). entry_at (start_sets job) name) (sym same_job)
        ∙ back-shared (Opened step) point.marks point.passed made_here refl has made_inside name among left
        (λ there.
        bool-cases (is_among names name)
        (λ named. way.made name named ∙ sym (opened-none start name) ∙ ap (λ library. is_none (entry_at library name)) (sym opened_is) ∙ some_there (entry_at (at leg.job leg.start (Opened step)).sets name) there)
        (made_inside name))
      where
        some_there : (set : Option LibrarySet) → is_some set ≡ true → is_none set ≡ false
        some_there None e = absurd (false≢true e)
        some_there (Some set) e = refl

    pub kept-start_back : IsAgreed layout (moved (start_row row.job) (start_sets row.job) office.library office)
    kept-start_back =
        subst (λ (job : Effective). IsAgreed layout (moved (start_row job) (start_sets job) office.library office)) same_job
        (kept-back (start_row leg.job) (Opened step) (start_sets leg.job) start_goes (back-outside point.marks made_here made_inside) start-inside (back-laid point.marks made_here))

  -- ---- at a checkpoint

  module _ (effect : EffectPoint) (from count : ℕ) (marks : List Mark) (passed : List Passed) (initiator : ℕ) (has : HasPoint leg (Within step from) marks passed) (can : IsRestorable row leg from) where
    abbrev pub entry_sets : Effective → Named TableSet
    entry_sets job = sets_back job marks []

    abbrev pub entry_row : Effective → RunRow
    entry_row job = record (row_on initiator row) {
      in_effect = Some (effect_restarted effect);
      place = Some (Within step from);
      count = count;
      passed = passed;
    }

    within_is : (at leg.job leg.start (Within step from)).sets ≡ within_at start from
    within_is = at-within leg.job leg.start step from owned leg_step

    -- the data sets of the run's reach are what its job has at the checkpoint
    pub entry-inside : (name : Name) → Among leg name → AreAlike (entry_sets leg.job) (at leg.job leg.start (Within step from)).sets name
    entry-inside name among =
        bool-cases (is_among names name)
        (λ named.
        back-here from marks (below_so from marks passed can) (unwritten_so from marks passed can) [] name among named refl
        (subst (λ (library : Library). IsMarkOf (present_at marks name) (entry_at library name)) within_is (has.marked owned name leg_step named)))
        (back-elsewhere from marks (below_so from marks passed can) (unwritten_so from marks passed can) [] (λ other out. refl) name among)
        ∙ ap (λ library. option_map set_shape (entry_at library name)) (sym within_is)

    entry_goes : GoesBack (entry_row leg.job) (Within step from)
    entry_goes = record {
      number_so = refl;
      deck = refl;
      job = refl;
      own_from = refl;
      rcs = refl;
      passed = passed_so (Within step from) marks passed refl has;
      lost = refl;
      on = refl;
      holds = refl;
      stands = refl;
      here = refl;
      made = λ its other below. refl;
      carried = refl;
      within = λ its at_step.
          subst (λ s. IsUnderWay (entry_row leg.job) s from) (same_Some start its (sym (start_at-of leg.job leg.start step owned leg_step) ∙ at_step))
          (record {
            runs = way.runs;
            flawless = way.flawless;
            done = let below = below_so from marks passed can in let done = way.done in omega (arith, below, done);
            made = way.made;
          });
    }

    -- what the run doesn't reach is as it was
    pub entry-outside : (name : Name) → is_among leg.reach name ≡ false → entry_at (entry_sets row.job) name ≡ entry_at office.tables.sets name
    entry-outside name out = ap (λ (job : Effective). entry_at (entry_sets job) name) (sym same_job) ∙ back-outside marks [] (λ other out. refl) name out

    -- a name that its job leaves as it was too
    pub entry-shared : (name : Name) → Among leg name → Leaves leg.job name → entry_at (entry_sets row.job) name ≡ entry_at office.tables.sets name
    entry-shared name among left =
        ap (λ (job : Effective). entry_at (entry_sets job) name) (sym same_job)
        ∙ back-shared (Within step from) marks passed [] refl has (λ other out. refl) name among left (λ there. refl)

    pub kept-entry_back : IsAgreed layout (moved (entry_row row.job) (entry_sets row.job) office.library office)
    kept-entry_back =
        subst (λ (job : Effective). IsAgreed layout (moved (entry_row job) (entry_sets job) office.library office)) same_job
        (kept-back (entry_row leg.job) (Within step from) (entry_sets leg.job) entry_goes (back-outside marks [] (λ other out. refl)) entry-inside (back-laid marks []))
