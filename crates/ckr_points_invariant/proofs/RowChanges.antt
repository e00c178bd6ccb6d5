-- The events stay kept where a run's row changes alone, and where a checkpoint is taken.
use Rattle.std.proofs.Common.{◌≡◌, ℕ, suc, Bool, true, false, cond, List, ◌∷◌, ◌++◌, flat_map, refl, ap, sym, ◌∙◌, subst, Option, Some, None, []}
use Rattle.std.specs.List.{AllByRecursion}
use Rattle.std.specs.Option.{option_map, option_map_or}
use Rattle.ckr_base.proofs.Options.{option_map-cond}
use Rattle.ckr_base.proofs.Sequences.{each-append, each-implies}
use Rattle.ckr_entry.specs.declared.point.Mark.{Mark}
use Rattle.ckr_library.specs.declared.sets.Kept.{Kept}
use Rattle.ckr_library.specs.NameMaps.{Name, Named, same_name, entry_at, with_changed}
use Rattle.ckr_library.proofs.Named.{at-with_changed, each-with_changed}
use Rattle.ckr_meaning.specs.LibrarySet.{LibrarySet}
use Rattle.ckr_meaning.specs.Dispositions.{Stock}
use Rattle.ckr_meaning.specs.EffectiveJob.{Effective, OwnedStep, is_among, names_of}
use Rattle.ckr_meaning.specs.declared.place.Place.{Place}
use Rattle.ckr_meaning.specs.declared.place.Place.TheVariants.{Before, Opened, Within}
use Rattle.ckr_meaning.specs.JobRun.{at, is_bypassed}
use Rattle.ckr_volumes.specs.declared.layout.Layout.{Layout}
use Rattle.ckr_points.specs.declared.run.RunState.TheVariants.{On, Released as ReleasedRun}
use Rattle.ckr_points.specs.Tables.{after_cancelled, own_made, after_checkpointed, after_commit, entry_point, fresh_effect, is_checkpoints, kept_entry, name_with_role, with_kept_entry}
use Rattle.ckr_points.specs.Follows.{are_lengths, is_in_state, is_within}
use Rattle.ckr_points.specs.Payload.{commits, writes_in}
use Rattle.ckr_points_invariant.proofs.Marks.Points.{carried-same}
use Rattle.ckr_points_invariant.specs.Invariant.{AreStamped, IsAgreed, IsHolder, IsKept, IsKnownLeg, IsMarkedShort, IsUnderWay, IsWaiting, IsWithinStep, MarksHold, set_shape, step_now, table_shape}
use Rattle.ckr_points_invariant.specs.RunningSteps.{IsRunning, its_start}
use Rattle.ckr_points_library.specs.Commit.{output_names}
use Rattle.ckr_points.specs.Marks.{made_names, point_at, present_of, carried_marks}
use Rattle.ckr_points.specs.Office.{Leg, Office, is_holder}
use Rattle.ckr_points.specs.Restart.{place_of, step_in}
use Rattle.ckr_points.specs.Rows.{KeptEntry, RunRow, StartPoint, TableSet, TablesModel, run_of, with_run}
use Rattle.ckr_points.specs.Soundness.{AreLaidOut, marks_of_entries, marks_of_row}
use Rattle.ckr_points_invariant.proofs.Decks.Events.{row-orderly, with-orderly}
use Rattle.ckr_points_invariant.proofs.Library.Extents.{laid-changed}
use Rattle.ckr_points_invariant.proofs.Holders.JobNames.{uses-stay}
use Rattle.ckr_points_invariant.proofs.Holders.Rows.{place-stays, run-other, run-same}
use Rattle.ckr_points_invariant.proofs.Marks.Changes.{EachEntryHolds, all-back, all-front, holds-sets, row-holds}
use Rattle.ckr_points_invariant.proofs.Holders.Moves.{kept-goes_on, standing-is}
use Rattle.ckr_points_invariant.proofs.Holders.Places.{place-next}
use Rattle.ckr_points_invariant.proofs.Steps.Events.{kept-commit}
use Rattle.ckr_points_invariant.proofs.Stamps.Events.{commit-holds, same_library}
use Rattle.ckr_points_invariant.proofs.Stamps.Tables.{marks-short, short-legs, table-short}

-- ---- a row alone

-- a row of the same run at the same place
pub record IsSameRow (row next : RunRow) : Type 0 where
  pub number : next.number ≡ row.number
  pub deck : next.deck ≡ row.deck
  pub job : next.job ≡ row.job
  pub own_from : next.earlier_step ≡ row.earlier_step
  pub rcs : next.rcs ≡ row.rcs
  pub passed : next.passed ≡ row.passed
  pub lost : next.lost ≡ row.lost
  pub place : next.place ≡ row.place
  pub points : next.points ≡ row.points

own-same : (row next : RunRow) → IsSameRow row next → (owned : OwnedStep) (step : ℕ) → own_made next owned step ≡ own_made row owned step
own-same row next same owned step =
    ap (λ (job : Effective). option_map_or (λ (point : StartPoint). made_names point.marks (names_of job.root owned)) (point_at next.points step) []) same.job
    ∙ ap (λ points. option_map_or (λ (point : StartPoint). made_names point.marks (names_of row.job.root owned)) (point_at points step) []) same.points

carried-is : (row next : RunRow) → IsSameRow row next → carried_marks next ≡ carried_marks row
carried-is row next same =
    ap (λ points. option_map_or (λ (point : StartPoint). point.marks) (point_at points next.earlier_step) []) same.points
    ∙ ap (λ step. option_map_or (λ (point : StartPoint). point.marks) (point_at row.points step) []) same.own_from

place-same : (row next : RunRow) → IsSameRow row next → place_of next ≡ place_of row
place-same row next same = ap (λ (o : Option Place). option_map_or (λ place. place) o (Before 1)) same.place

within-same : (row next : RunRow) (leg : Leg) → IsSameRow row next → (place : Place) → IsWithinStep row leg place → IsWithinStep next leg place
within-same row next leg same (Before step) within = tt
within-same row next leg same (Opened step) within = within
within-same row next leg same (Within step writes) within = λ start e.
    let way : IsUnderWay row start writes = within start e in
    record {
      runs = ap (λ rcs. is_bypassed rcs start.owned) same.rcs ∙ way.runs;
      flawless = way.flawless;
      done = way.done;
      made = λ name among. ap (λ names. is_among names name) (own-same row next same start.owned start.number) ∙ way.made name among;
    }

-- the events stay kept where such a row comes
pub kept-row : (layout : Layout) (office : Office) (number : ℕ) (row next : RunRow) (leg : Leg) → IsAgreed layout office → IsHolder office number row leg → IsSameRow row next → is_holder next.state ≡ true → (is_in_state On next ≡ false → is_within (place_of row) ≡ true) → IsAgreed layout (record office { tables = with_run next office.tables })
kept-row layout office number row next leg kept holder same holds waits =
    let mine : row.number ≡ number = kept.numbered number row holder.row_at in
    kept-goes_on layout office number row next leg office.tables.sets kept holder
    (record {
      same = same.number;
      deck = same.deck;
      holds = holds;
      place = place-next office.tables (with_run next office.tables) row next leg
          (record {
            was = ap (run_of office.tables) mine ∙ holder.row_at;
            now = run-same office.tables next row row.number (ap (run_of office.tables) mine ∙ holder.row_at) same.number;
            others = λ other apart. run-other office.tables next other (λ e. apart (e ∙ same.number));
          })
          (record {
            number = same.number;
            job = same.job;
            own_from = same.own_from;
            rcs = same.rcs;
            passed = same.passed;
            deck = same.deck;
            lost = same.lost;
            step = ap step_in (place-same row next same);
            made = λ owned step below. own-same row next same owned step;
            carried = carried-same row next (carried-is row next same);
          })
          (λ off. ap is_within (place-same row next same) ∙ waits off)
          (subst (IsWithinStep next leg) (sym (place-same row next same)) (within-same row next leg same (place_of row) (kept.places number row leg holder).within))
          (kept.places number row leg holder);
      outside = λ name out. refl;
      inside = λ name among.
          kept.held number row leg name holder among
          ∙ ap (λ (standing : Stock LibrarySet). option_map set_shape (entry_at standing.sets name)) (standing-is office number row leg holder.row_at holder.leg_at ∙ ap (at leg.job leg.start) (sym (place-same row next same)));
      extents = kept.extents;
    })

pub kept-withdrawn : (layout : Layout) (office : Office) (job : ℕ) (row : RunRow) (leg : Leg) → IsAgreed layout office → IsHolder office job row leg → is_within (place_of row) ≡ true → IsAgreed layout (record office { tables = after_cancelled row office.tables })
kept-withdrawn layout office job row leg kept holder within =
    kept-row layout office job row (record row { in_effect = None }) leg kept holder
    (record { number = refl; deck = refl; job = refl; own_from = refl; rcs = refl; passed = refl; lost = refl; place = refl; points = refl }) holder.holds
    (λ off. within)

pub kept-released : (layout : Layout) (office : Office) (job : ℕ) (row : RunRow) (leg : Leg) → IsAgreed layout office → IsHolder office job row leg → is_within (place_of row) ≡ true → IsAgreed layout (record office { tables = with_run (record row { state = ReleasedRun }) office.tables })
kept-released layout office job row leg kept holder within =
    kept-row layout office job row (record row { state = ReleasedRun }) leg kept holder
    (record { number = refl; deck = refl; job = refl; own_from = refl; rcs = refl; passed = refl; lost = refl; place = refl; points = refl }) refl
    (λ off. within)

-- ---- a checkpoint

-- a change that no shape shows
shape-kept : (changed : Name) (change : TableSet → TableSet) (sets : Named TableSet) (name : Name) → ((table : TableSet) → table_shape (change table) ≡ table_shape table) → option_map table_shape (entry_at (with_changed changed change sets) name) ≡ option_map table_shape (entry_at sets name)
shape-kept changed change sets name same =
    ap (option_map table_shape) (at-with_changed changed name change sets)
    ∙ option_map-cond table_shape (same_name name changed) _ _
    ∙ by (same_name name changed) (entry_at sets name)
  where
    by : (b : Bool) (entry : Option TableSet) → cond b (option_map table_shape (option_map change entry)) (option_map table_shape entry) ≡ option_map table_shape entry
    by true None = refl
    by true (Some table) = ap Some (same table)
    by false entry = refl

-- other data sets of the same shapes
pub shaped : (layout : Layout) (office : Office) (sets : Named TableSet) → IsAgreed layout office → ((name : Name) → option_map table_shape (entry_at sets name) ≡ option_map table_shape (entry_at office.tables.sets name)) → AreLaidOut layout sets → IsAgreed layout (record office { tables = record office.tables { sets = sets } })
shaped layout office sets kept same laid =
    let other : Office = record office { tables = record office.tables { sets = sets } } in
    record {
      extents = laid;
      numbered = kept.numbered;
      waiting = λ number row e queued.
          let waits : IsWaiting office row = kept.waiting number row e queued in
          record { alone = waits.alone; job = waits.job; formed = waits.formed; earlier = waits.earlier; own = waits.own; rcs = waits.rcs; passed = waits.passed; lost = waits.lost };
      legs = each-implies (IsKnownLeg office) (IsKnownLeg other) office.legs (λ leg is. record { found = is.found; listed = is.listed }) kept.legs;
      led = kept.led;
      places = λ number row leg holder.
          let before : IsHolder office number row leg = record { row_at = holder.row_at; holds = holder.holds; leg_at = holder.leg_at } in
          place-stays office.tables other.tables row (λ owner keeps. refl) leg (kept.places number row leg before);
      uses = λ number row leg holder.
          uses-stay office.tables other.tables (record { named = λ number name has. has; ended = λ number over. over }) row row refl refl leg refl
          (kept.uses number row leg (record { row_at = holder.row_at; holds = holder.holds; leg_at = holder.leg_at }));
      alone = λ one other row next leg fellow name here there.
          kept.alone one other row next leg fellow name (record { row_at = here.row_at; holds = here.holds; leg_at = here.leg_at }) (record { row_at = there.row_at; holds = there.holds; leg_at = there.leg_at });
      left = λ one other row next leg fellow name here there.
          kept.left one other row next leg fellow name (record { row_at = here.row_at; holds = here.holds; leg_at = here.leg_at }) (record { row_at = there.row_at; holds = there.holds; leg_at = there.leg_at });
      since = λ number row leg name holder. kept.since number row leg name (record { row_at = holder.row_at; holds = holder.holds; leg_at = holder.leg_at });
      held = λ number row leg name holder among.
          same name ∙ kept.held number row leg name (record { row_at = holder.row_at; holds = holder.holds; leg_at = holder.leg_at }) among;
      free = λ name free.
          same name ∙ kept.free name (λ number row leg holder. free number row leg (record { row_at = holder.row_at; holds = holder.holds; leg_at = holder.leg_at }));
    }

-- an entry more, whose point's marks hold
entry-holds : (P : Mark → Type 0) (entry : KeptEntry) (name : Name) (sets : Named TableSet) → AllByRecursion P entry.point.marks → EachEntryHolds P sets → EachEntryHolds P (with_changed name (with_kept_entry entry) sets)
entry-holds P entry name sets mine each =
    each-with_changed (λ (table : TableSet). AllByRecursion P (marks_of_entries table)) name (with_kept_entry entry) sets (λ table its. more table.entries its) each
  where
    more : (entries : List KeptEntry) → AllByRecursion P (flat_map (λ (entry : KeptEntry). entry.point.marks) entries) → AllByRecursion P (flat_map (λ (entry : KeptEntry). entry.point.marks) (entries ++ entry ∷ []))
    more [] its = each-append P entry.point.marks [] mine tt
    more (first ∷ rest) its =
        each-append P first.point.marks _ (all-front P first.point.marks (flat_map (λ (entry : KeptEntry). entry.point.marks) rest) its)
        (more rest (all-back P first.point.marks (flat_map (λ (entry : KeptEntry). entry.point.marks) rest) its))

module _ (layout : Layout) (office : Office) (job : ℕ) (row : RunRow) (leg : Leg) (owned : OwnedStep) (taken writes : ℕ) (lengths : List ℕ) (entry : Kept) (kept : IsKept layout office)
    (running : IsRunning office job row leg owned (step_now row) (writes_in (place_of row)))
    (carried : commits office.tables.sets row writes lengths (its_start leg owned (step_now row)) ≡ true)
    (are : are_lengths office.tables.sets (output_names row.job.root owned) lengths ≡ true) where
  abbrev set : Name
  set = name_with_role row.job.root owned is_checkpoints

  abbrev done : TablesModel
  done = after_commit (record row { count = suc row.count; in_effect = Some (fresh_effect set entry) }) owned (step_now row) writes lengths office.tables

  abbrev next : RunRow
  next = record row { count = suc row.count; in_effect = Some (fresh_effect set entry); place = Some (Within (step_now row) writes) }

  abbrev new_entry : KeptEntry
  new_entry = kept_entry entry (entry_point row owned (step_now row) taken writes done.sets)

  -- the events with the lengths committed
  committed_agreed : IsAgreed layout (record office { tables = done })
  committed_agreed =
      kept-commit layout office job row next leg owned writes lengths kept.events running
      (record { number = refl; deck = refl; job = refl; own_from = refl; rcs = refl; passed = refl; lost = refl; stands = refl; holds = running.holder.holds; made = λ owned step. refl; carried = refl }) carried are

  mine : AllByRecursion (IsMarkedShort office) (marks_of_row row)
  mine = row-holds (IsMarkedShort office) office.tables job row kept.stamps.marks running.holder.row_at

  done_marks : MarksHold (IsMarkedShort office) done
  done_marks = commit-holds (IsMarkedShort office) office.tables kept.stamps.marks (record row { count = suc row.count; in_effect = Some (fresh_effect set entry) }) owned (step_now row) writes lengths mine

  committed_kept : IsKept layout (record office { tables = done })
  committed_kept = record { events = committed_agreed; stamps = same_library office done kept.stamps done_marks; decks = with-orderly next office.tables (row-orderly office.tables job row kept.decks running.holder.row_at) kept.decks }

  pub checked_stamps : AreStamped (record office { tables = after_checkpointed row owned (step_now row) entry taken writes lengths office.tables })
  checked_stamps =
      same_library office (after_checkpointed row owned (step_now row) entry taken writes lengths office.tables) kept.stamps
      (holds-sets (IsMarkedShort office) done (with_changed set (with_kept_entry new_entry) done.sets)
      (entry-holds (IsMarkedShort office) new_entry set done.sets
      (marks-short office row done.sets (λ name table e. short-legs (record office { tables = done }) office name (present_of table) refl (table-short layout (record office { tables = done }) name table committed_kept e)) mine)
      done_marks.entries) done_marks)

  -- an entry more changes no shape
  pub checked_agreed : IsAgreed layout (record office { tables = after_checkpointed row owned (step_now row) entry taken writes lengths office.tables })
  checked_agreed =
      let agreed : IsAgreed layout (record office { tables = done }) = committed_agreed in
      shaped layout (record office { tables = done }) (with_changed set (with_kept_entry new_entry) done.sets) agreed
      (λ name. shape-kept set (with_kept_entry new_entry) done.sets name (λ table. refl))
      (laid-changed layout set (with_kept_entry new_entry) done.sets (λ table. record { parts = refl; lrecl = refl }) (λ table e stands. stands) agreed.extents)
