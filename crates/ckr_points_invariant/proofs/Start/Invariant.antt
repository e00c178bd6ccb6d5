-- The events stay kept where a step starts.
use Rattle.std.proofs.Common.{◌≡◌, ◌≤◌, ℕ, true, false, ◌&&◌, ◌⊎◌, inl, inr, List, [], refl, ap, sym, ◌∙◌, subst, Option, Some, arith}
use Rattle.std.specs.List.{AllByRecursion}
use Rattle.std.specs.Option.{option_map, option_map_or, is_none}
use Rattle.std.proofs.lemmas.Bool.{false≢true}
use Rattle.std.proofs.lemmas.Option.{same_Some}
use Rattle.ckr_base.proofs.Bools.{and-true, bool-cases}
use Rattle.ckr_events.specs.declared.event.Made.{Made}
use Rattle.ckr_library.specs.NameMaps.{Name, Named, same_name, entry_at}
use Rattle.ckr_meaning.specs.LibrarySet.{LibrarySet, record_ways}
use Rattle.ckr_meaning.specs.Allotments.{DdAllotment, opened_all}
use Rattle.ckr_meaning.specs.Dispositions.{Stock}
use Rattle.ckr_meaning.specs.EffectiveJob.{Effective, OwnedStep, flaws_in, is_among, names_of, placed_in, stamp_of, step_at}
use Rattle.ckr_meaning.specs.declared.place.Place.{Place}
use Rattle.ckr_meaning.specs.declared.place.Place.TheVariants.{Before, Opened, Within}
use Rattle.ckr_meaning.specs.JobRun.{at, is_bypassed, walk_before}
use Rattle.ckr_meaning.specs.StepRun.{StepStart, made_at, opened_at, placed_at, within_at}
use Rattle.ckr_meaning.proofs.WriteSeries.{within_at-none}
use Rattle.ckr_volumes.specs.declared.layout.Layout.{Layout}
use Rattle.ckr_points.specs.Tables.{made_tables, own_made, start_point}
use Rattle.ckr_points.specs.Follows.{are_made_clear}
use Rattle.ckr_points_invariant.specs.Invariant.{AreAlike, IsAtPlace, IsHolder, IsAgreed, IsUnderWay, set_shape, step_now, table_shape}
use Rattle.ckr_points_invariant.specs.RunningSteps.{its_start}
use Rattle.ckr_points.specs.Marks.{is_marked_absent, made_names, marks_now, own_names, with_point}
use Rattle.ckr_points.specs.Office.{Leg, Office, is_holder}
use Rattle.ckr_points.specs.Restart.{place_of, step_in}
use Rattle.ckr_points.specs.Rows.{RunRow, StartPoint, TableSet, run_of, standing_of, step_of_run, table_ways}
use Rattle.ckr_points_invariant.proofs.Library.Likeness.{each-known, known-alike, made_all-alike, made_all-apart, none-alike, opened_all-alike, opened_all-apart, placed-apart, placed_in-known}
use Rattle.ckr_points_invariant.proofs.Library.Extents.{made_all-laid}
use Rattle.ckr_points_invariant.proofs.Holders.Rows.{run-other, run-same}
use Rattle.ckr_points_invariant.proofs.Marks.Points.{absent-now, among-filter, point_at-new, point_at-other, carried-taken}
use Rattle.ckr_points_invariant.proofs.Holders.Moves.{Among, kept-goes_on, moved, standing-is}
use Rattle.ckr_points_invariant.proofs.Start.Openings.{opened-known, opened-none, opened-twice}
use Rattle.ckr_points_invariant.proofs.Holders.Places.{HasNext, IsSameRun, place-next}
use Rattle.ckr_points_invariant.proofs.Steps.Walks.{at-before, at-opened, at-within, start_at-of}

module _ (layout : Layout) (office : Office) (number : ℕ) (row : RunRow) (leg : Leg) (owned : OwnedStep) (step : ℕ) (items : List Made)
    (kept : IsAgreed layout office) (holder : IsHolder office number row leg) (stands : (place_of row ≡ Before step) ⊎ (place_of row ≡ Opened step)) (found : step_of_run row step ≡ Some owned) where
  pub place_so : IsAtPlace office.tables row leg
  place_so = kept.places number row leg holder

  pub now : step_now row ≡ step
  now = elim stands [ inl before ↦ ap step_in before | inr opened ↦ ap step_in opened ]

  pub found_leg : step_at leg.job step ≡ Some owned
  found_leg = ap (λ job. step_at job step) place_so.job ∙ found

  abbrev pub the_start : StepStart
  the_start = its_start leg owned step

  in_reach : (name : Name) → is_among (names_of leg.job.root owned) name ≡ true → (Among leg name) × (is_among (own_names row) name ≡ true)
  in_reach name among = place_so.ahead step owned name (subst (λ n. n ≤ step) (sym now) (omega arith)) found_leg among

  held_at : (place : Place) → place_of row ≡ place → (name : Name) → Among leg name → AreAlike office.tables.sets (at leg.job leg.start place).sets name
  held_at place e name among =
      kept.held number row leg name holder among
      ∙ ap (λ (standing : Stock LibrarySet). option_map set_shape (entry_at standing.sets name)) (standing-is office number row leg holder.row_at holder.leg_at ∙ ap (at leg.job leg.start) e)

  -- before the step, or opened for it
  alike_before : place_of row ≡ Before step → (name : Name) → Among leg name → AreAlike office.tables.sets the_start.standing.sets name
  alike_before e name among =
      held_at (Before step) e name among ∙ ap (λ (standing : Stock LibrarySet). option_map set_shape (entry_at standing.sets name)) (at-before leg.job leg.start step)

  alike_opened : place_of row ≡ Opened step → (name : Name) → Among leg name → AreAlike office.tables.sets (opened_at the_start) name
  alike_opened e name among =
      held_at (Opened step) e name among ∙ ap (λ library. option_map set_shape (entry_at library name)) (at-opened leg.job leg.start step owned found_leg)

  -- allocation sees what the job's step sees
  known_so : (name : Name) → is_among (names_of leg.job.root owned) name ≡ true → option_map table_ways.known (entry_at office.tables.sets name) ≡ option_map record_ways.known (entry_at the_start.standing.sets name)
  known_so name among =
      elim stands [
        | inl before ↦ known-alike office.tables.sets the_start.standing.sets name (alike_before before name (in_reach name among).0)
        | inr opened ↦ known-alike office.tables.sets (opened_at the_start) name (alike_opened opened name (in_reach name among).0) ∙ opened-known the_start name
      ]

  passed_so : row.passed ≡ the_start.standing.passed
  passed_so = place_so.passed ∙ ap (λ n. (walk_before leg.job leg.start n).standing.passed) now

  abbrev pub placed : List DdAllotment
  placed = placed_in table_ways (standing_of row office.tables) row.job.root owned

  pub placed_so : placed ≡ placed_at the_start
  unfolding placed_at
  placed_so =
      ap (λ (job : Effective). placed_in table_ways (standing_of row office.tables) job.root owned) (sym place_so.job)
      ∙ placed_in-known table_ways record_ways office.tables.sets the_start.standing.sets row.passed leg.job.root owned
      (each-known table_ways record_ways office.tables.sets the_start.standing.sets (names_of leg.job.root owned) known_so)
      ∙ ap (λ passed. placed_in record_ways (record { sets = the_start.standing.sets; passed = passed }) leg.job.root owned) passed_so

  abbrev pub opened : Named TableSet
  opened = opened_all table_ways (stamp_of owned step) placed office.tables.sets

  pub opened_so : (name : Name) → Among leg name → AreAlike opened (opened_at the_start) name
  unfolding opened_at
  opened_so name among =
      ap (λ all. option_map table_shape (entry_at (opened_all table_ways (stamp_of owned step) all office.tables.sets) name)) placed_so
      ∙ elim stands [
        | inl before ↦ opened_all-alike name (stamp_of owned step) (placed_at the_start) office.tables.sets the_start.standing.sets (alike_before before name among)
        | inr there ↦
            opened_all-alike name (stamp_of owned step) (placed_at the_start) office.tables.sets (opened_at the_start) (alike_opened there name among)
            ∙ opened-twice the_start name
      ]

  abbrev pub sets : Named TableSet
  sets = made_tables (stamp_of owned step) items placed opened

  made_so : (name : Name) → Among leg name → AreAlike sets (within_at the_start 0) name
  unfolding made_at
  made_so name among =
      ap (λ all. option_map table_shape (entry_at (made_tables (stamp_of owned step) items all opened) name)) placed_so
      ∙ made_all-alike name (stamp_of owned step) items (placed_at the_start) opened (opened_at the_start) (opened_so name among)
      ∙ ap (λ library. option_map set_shape (entry_at library name)) (sym (within_at-none the_start))

  apart_so : (name : Name) → is_among leg.reach name ≡ false → AllByRecursion (λ (one : DdAllotment). same_name name one.name ≡ false) placed
  apart_so name out =
      placed-apart table_ways (standing_of row office.tables) row.job.root owned 1 owned.step.dds name
      (ap (λ (job : Effective). is_among (names_of job.root owned) name) (sym place_so.job)
      ∙ bool-cases (is_among (names_of leg.job.root owned) name) (λ among. absurd (false≢true (sym out ∙ (in_reach name among).0))) (λ e. e))

  pub opened_out : (name : Name) → is_among leg.reach name ≡ false → entry_at opened name ≡ entry_at office.tables.sets name
  opened_out name out = opened_all-apart (stamp_of owned step) placed office.tables.sets name (apart_so name out)

  outside_so : (name : Name) → is_among leg.reach name ≡ false → entry_at sets name ≡ entry_at office.tables.sets name
  outside_so name out = made_all-apart (stamp_of owned step) items placed opened name (apart_so name out) ∙ opened_out name out

  -- ---- the row

  abbrev next : RunRow
  next = record row { place = Some (Within step 0); points = with_point (start_point row step opened) row.points }

  has_next : HasNext office.tables (moved next sets office.library office).tables row next
  has_next =
      let mine : row.number ≡ number = kept.numbered number row holder.row_at in
      record {
        was = ap (run_of office.tables) mine ∙ holder.row_at;
        now = run-same (record office.tables { sets = sets }) next row row.number (ap (run_of office.tables) mine ∙ holder.row_at) refl;
        others = λ other apart. run-other (record office.tables { sets = sets }) next other apart;
      }

  same_run : IsSameRun row next
  same_run = record {
    number = refl;
    job = refl;
    own_from = refl;
    rcs = refl;
    passed = refl;
    deck = refl;
    lost = refl;
    step = sym now;
    made = λ its at_step below.
        ap (λ (o : Option StartPoint). option_map_or (λ point. made_names point.marks (names_of row.job.root its)) o [])
        (point_at-other (start_point row step opened) row.points at_step (λ e. absurd (omega (arith, below, now, e))));
    carried = carried-taken row (start_point row step opened) opened refl;
  }

  made_now : (name : Name) → is_among (names_of leg.job.root owned) name ≡ true → is_among (own_made next owned step) name ≡ is_none (entry_at the_start.standing.sets name)
  made_now name among =
      ap (λ (o : Option StartPoint). is_among (option_map_or (λ point. made_names point.marks (names_of row.job.root owned)) o []) name) (point_at-new (start_point row step opened) row.points)
      ∙ among-filter (is_marked_absent (marks_now row opened)) (names_of row.job.root owned) name
      ∙ ap (λ b. is_marked_absent (marks_now row opened) name && b) (ap (λ (job : Effective). is_among (names_of job.root owned) name) (sym place_so.job) ∙ among)
      ∙ and-true (is_marked_absent (marks_now row opened) name)
      ∙ absent-now row opened name (in_reach name among).1
      ∙ none-alike opened (opened_at the_start) name (opened_so name (in_reach name among).0)
      ∙ opened-none the_start name

  -- the events stay kept
  pub kept-started : is_holder row.state ≡ true → is_bypassed row.rcs owned ≡ false → flaws_in placed ≡ [] → are_made_clear layout (stamp_of owned step) items placed office.tables.sets ≡ true → IsAgreed layout (moved next sets office.library office)
  kept-started holds runs flawless clear =
      kept-goes_on layout office number row next leg sets kept holder
      (record {
        same = refl;
        deck = refl;
        holds = holds;
        place = place-next office.tables (moved next sets office.library office).tables row next leg has_next same_run (λ off. refl)
            (λ its starts.
            subst (λ s. IsUnderWay next s 0) (same_Some the_start its (sym (start_at-of leg.job leg.start step owned found_leg) ∙ starts))
            (record { runs = runs; flawless = ap flaws_in (sym placed_so) ∙ flawless; done = omega arith; made = made_now }))
            place_so;
        outside = λ name out. ap (option_map table_shape) (outside_so name out);
        inside = λ name among. made_so name among ∙ ap (λ library. option_map set_shape (entry_at library name)) (sym (at-within leg.job leg.start step 0 owned found_leg));
        extents = made_all-laid layout (stamp_of owned step) items placed office.tables.sets clear kept.extents;
      })
