-- What an image has goes on where the lengths of a running step are committed.
use Rattle.std.proofs.Common.{◌≡◌, ℕ, Bool, true, false, cond, List, [], ◌∷◌, refl, ap, sym, ◌∙◌, Option, Some, None}
use Rattle.std.specs.Option.{option_map}
use Rattle.std.proofs.lemmas.Bool.{false≢true}
use Rattle.std.proofs.lemmas.Option.{same_Some}
use Rattle.ckr_base.proofs.Bools.{bool-cases}
use Rattle.ckr_base.proofs.Options.{some-not-none}
use Rattle.ckr_library.specs.NameMaps.{Name, Named, same_name, entry_at, with_changed}
use Rattle.ckr_library.proofs.Named.{at-with_changed}
use Rattle.ckr_meaning.specs.EffectiveJob.{OwnedStep, is_among, names_of}
use Rattle.ckr_meaning.specs.declared.place.Place.TheVariants.{Within}
use Rattle.ckr_meaning.specs.StepRun.{StepStart}
use Rattle.ckr_points_library.specs.Commit.{output_names}
use Rattle.ckr_points.specs.Tables.{after_commit, committed}
use Rattle.ckr_points.specs.Follows.{are_lengths}
use Rattle.ckr_points.specs.Payload.{commits, writes_in}
use Rattle.ckr_points.specs.Office.{Leg, Office}
use Rattle.ckr_points.specs.Restart.{place_of}
use Rattle.ckr_points.specs.Rows.{RunRow, TableSet, cut_set}
use Rattle.ckr_points_invariant.specs.Invariant.{IsKept, IsMarkedShort, step_now}
use Rattle.ckr_points_invariant.specs.RunningSteps.{IsRunning, its_start}
use Rattle.ckr_points_invariant.proofs.Decks.Events.{row-orderly, with-orderly}
use Rattle.ckr_points_invariant.proofs.Steps.Commits.{found_leg, in_reach, place_so}
use Rattle.ckr_points_invariant.proofs.RunEnd.Event.{committed_office, kept_then, running_then}
use Rattle.ckr_points_invariant.proofs.Marks.Changes.{row-holds}
use Rattle.ckr_points_invariant.proofs.Holders.Places.{outputs-among}
use Rattle.ckr_points_invariant.proofs.Stamps.Events.{commit-holds, same_library}
use Rattle.ckr_points_invariant.proofs.Writes.Likeness.{committed-other}
use Rattle.ckr_volumes.specs.declared.layout.Layout.{Layout}
use Rattle.ckr_volumes.specs.SamePlaces.{SamePlaces}
use Rattle.ckr_desk_refines.specs.Commits.{HasCommitted, HasWithin}
use Rattle.ckr_desk_refines.proofs.Durable.Places.{within-has}

-- ---- committed data sets lie where they lay

pub committed-from : (names : List Name) (lengths : List ℕ) (sets : Named TableSet) (name : Name) (table : TableSet) → entry_at (committed names lengths sets) name ≡ Some table → (old : TableSet) × (entry_at sets name ≡ Some old) × SamePlaces old.set table.set
committed-from [] lengths sets name table e = (table, e, record { parts = refl; lrecl = refl })
committed-from (output ∷ names) [] sets name table e = (table, e, record { parts = refl; lrecl = refl })
committed-from (output ∷ names) (now ∷ lengths) sets name table e =
    let later = committed-from names lengths (with_changed output (cut_set now) sets) name table e in
    by (same_name name output) (entry_at sets name) later.0 refl (sym (at-with_changed output name (cut_set now) sets) ∙ later.1) later.2
  where
    by : (same : Bool) (entry : Option TableSet) (cut : TableSet) → entry_at sets name ≡ entry → cond same (option_map (cut_set now) entry) entry ≡ Some cut → SamePlaces cut.set table.set → (old : TableSet) × (entry_at sets name ≡ Some old) × SamePlaces old.set table.set
    by true None cut is e places = absurd (some-not-none cut (sym e))
    by true (Some old) cut is e places =
        let it : cut_set now old ≡ cut = same_Some _ _ e in
        (old, is, record { parts = places.parts ∙ ap (λ (t : TableSet). t.set.parts.items) (sym it); lrecl = places.lrecl ∙ ap (λ (t : TableSet). t.set.lrecl) (sym it) })
    by false entry cut is e places = (cut, is ∙ e, places)

module _ (layout : Layout) (office : Office) (job : ℕ) (row : RunRow) (leg : Leg) (owned : OwnedStep) (writes : ℕ) (lengths : List ℕ) (kept : IsKept layout office)
    (running : IsRunning office job row leg owned (step_now row) (writes_in (place_of row)))
    (carried : commits office.tables.sets row writes lengths (its_start leg owned (step_now row)) ≡ true)
    (are : are_lengths office.tables.sets (output_names row.job.root owned) lengths ≡ true) where
  abbrev start : StepStart
  start = its_start leg owned (step_now row)

  abbrev then : Office
  then = committed_office office row owned writes lengths

  pub committed-kept : IsKept layout then
  committed-kept = record {
    events = kept_then layout office job row leg owned writes lengths kept.events running carried are;
    stamps =
        same_library office (after_commit row owned (step_now row) writes lengths office.tables) kept.stamps
        (commit-holds (IsMarkedShort office) office.tables kept.stamps.marks row owned (step_now row) writes lengths
        (row-holds (IsMarkedShort office) office.tables job row kept.stamps.marks running.holder.row_at));
    decks = with-orderly (record row { place = Some (Within (step_now row) writes) }) office.tables (row-orderly office.tables job row kept.decks running.holder.row_at) kept.decks;
  }

  running_so : IsRunning then job (record row { place = Some (Within (step_now row) writes) }) leg owned (step_now row) writes
  running_so = running_then layout office job row leg owned writes lengths kept.events running carried are

  same_job : leg.job.root ≡ row.job.root
  same_job = ap (λ job. job.root) (place_so layout office job row leg owned (step_now row) (writes_in (place_of row)) kept.events running).job

  not_output : (name : Name) → is_among (names_of leg.job.root owned) name ≡ false → is_among (output_names row.job.root owned) name ≡ false
  not_output name out =
      bool-cases (is_among (output_names row.job.root owned) name)
      (λ among. absurd (false≢true (sym out ∙ outputs-among leg.job.root owned name (ap (λ root. is_among (output_names root owned) name) same_job ∙ among))))
      (λ e. e)

  -- an image that has what was committed, and what the step has written, has what is committed then
  pub committed-has : (image : List ℕ) → HasCommitted layout office image → HasWithin layout office.tables.sets start writes image → HasCommitted layout then image
  committed-has image had has =
      let next : RunRow = record row { place = Some (Within (step_now row) writes) } in
      within-has layout office then image kept committed-kept (λ run led. refl) had job next leg owned (step_now row) writes running_so.holder refl
      (found_leg layout then job next leg owned (step_now row) writes committed-kept.events running_so)
      (in_reach layout then job next leg owned (step_now row) writes committed-kept.events running_so)
      (committed-from (output_names row.job.root owned) lengths office.tables.sets)
      (λ name out. committed-other (output_names row.job.root owned) lengths office.tables.sets name (not_output name out))
      has
