-- What an image has of the data sets goes on where a record was rewritten in place.
use Rattle.std.proofs.Common.{◌≡◌, ℕ, Bool, true, false, cond, List, refl, ap, sym, ◌∙◌, subst, Option, Some, None}
use Rattle.std.specs.Option.{option_map}
use Rattle.std.proofs.lemmas.Bool.{false≢true}
use Rattle.std.proofs.lemmas.Option.{same_Some}
use Rattle.arrayvec.specs.ArrayVec.{ArrayVec}
use Rattle.ckr_base.specs.declared.programs.Output.TheVariants.{InPlace}
use Rattle.ckr_base.proofs.Bools.{bool-cases}
use Rattle.ckr_base.proofs.Options.{some-not-none}
use Rattle.ckr_events.specs.declared.event.Event.TheVariants.{Rewritten}
use Rattle.ckr_jcl.specs.declared.deck.Job.{Job}
use Rattle.ckr_library.specs.NameMaps.{Name, Named, same_name, entry_at}
use Rattle.ckr_library.proofs.Named.{at-with_changed, name-same}
use Rattle.ckr_points_library.specs.Commit.{output_names}
use Rattle.ckr_meaning.specs.EffectiveJob.{OwnedStep, is_among, names_of}
use Rattle.ckr_meaning.specs.declared.place.Place.TheVariants.{Within}
use Rattle.ckr_meaning.specs.StepRun.{StepStart, output_name}
use Rattle.ckr_points.specs.Tables.{after_rewritten, committed, is_updates, name_with_role, row_rewritten, table_rewritten}
use Rattle.ckr_points.specs.Follows.{is_update}
use Rattle.ckr_points.specs.Payload.{writes_in}
use Rattle.ckr_points.specs.Office.{Leg, Office, office_after}
use Rattle.ckr_points.specs.Restart.{place_of}
use Rattle.ckr_points.specs.Rows.{RunRow, TableSet}
use Rattle.ckr_points.specs.Soundness.{may_come}
use Rattle.ckr_points_invariant.specs.Invariant.{IsHolder, IsKept, step_now}
use Rattle.ckr_points_invariant.specs.RunningSteps.{IsRunning, its_start}
use Rattle.ckr_points_invariant.proofs.Steps.Commits.{formed_step, found_leg, in_reach, place_so}
use Rattle.ckr_points_invariant.proofs.Holders.Rows.{run-same}
use Rattle.ckr_points_invariant.proofs.Holders.Places.{outputs-among}
use Rattle.ckr_points_invariant.proofs.Rewrite.Invariant.{updated-name}
use Rattle.ckr_points_invariant.proofs.Writes.Roles.{target, target-named}
use Rattle.ckr_points_invariant.proofs.Writes.Likeness.{committed-other}
use Rattle.ckr_volumes.specs.declared.layout.Layout.{Layout}
use Rattle.ckr_desk_refines.specs.Commits.{HasCommitted, HasWithin, HasWithinRun}
use Rattle.ckr_desk_refines.proofs.Durable.Office.{by-rewritten}
use Rattle.ckr_desk_refines.proofs.Durable.Commits.{committed-from}
use Rattle.ckr_desk_refines.proofs.Durable.Events.{its-start}
use Rattle.ckr_desk_refines.proofs.Durable.Places.{LiesAs, within-has}

module _ (layout : Layout) (office : Office) (job : ℕ) (row : RunRow) (leg : Leg) (owned : OwnedStep) (writes : ℕ) (lengths : List ℕ) (image : List ℕ) (kept : IsKept layout office)
    (running : IsRunning office job row leg owned (step_now row) (writes_in (place_of row))) (updates : is_update owned.step.program ≡ true) where
  abbrev behind : Office
  behind = record office { tables = after_rewritten row owned (step_now row) writes lengths office.tables }

  abbrev next : RunRow
  next = record (row_rewritten (step_now row) row) { place = Some (Within (step_now row) writes) }

  abbrev start : StepStart
  start = its_start leg owned (step_now row)

  abbrev updated : Name
  updated = name_with_role row.job.root owned is_updates

  abbrev done : Named TableSet
  done = committed (output_names row.job.root owned) lengths office.tables.sets

  same_job : leg.job.root ≡ row.job.root
  same_job = ap (λ job. job.root) (place_so layout office job row leg owned (step_now row) (writes_in (place_of row)) kept.events running).job

  updated_among : is_among (names_of leg.job.root owned) updated ≡ true
  updated_among =
      let e : output_name start (InPlace 0) ≡ Some (name_with_role leg.job.root owned is_updates) =
      updated-name start 0 (formed_step layout office job row leg owned (step_now row) (writes_in (place_of row)) kept.events running) updates in
      let t = target start (InPlace 0) (name_with_role leg.job.root owned is_updates) e in
      ap (λ root. is_among (names_of leg.job.root owned) (name_with_role root owned is_updates)) (sym same_job) ∙ target-named start (InPlace 0) (name_with_role leg.job.root owned is_updates) t.0 t.1

  lies : (name : Name) (table : TableSet) → entry_at behind.tables.sets name ≡ Some table → LiesAs office.tables.sets name table
  lies name table e =
      by (same_name name updated) (entry_at done name) refl (sym (at-with_changed updated name (table_rewritten owned.owner (step_now row)) done) ∙ e)
    where
      by : (same : Bool) (entry : Option TableSet) → entry_at done name ≡ entry → cond same (option_map (table_rewritten owned.owner (step_now row)) entry) entry ≡ Some table → LiesAs office.tables.sets name table
      by true None is e = absurd (some-not-none table (sym e))
      by true (Some old) is e =
          subst (LiesAs office.tables.sets name) (same_Some (table_rewritten owned.owner (step_now row) old) table e)
          (let from = committed-from (output_names row.job.root owned) lengths office.tables.sets name old is in
          (from.0, from.1, record { parts = from.2.parts; lrecl = from.2.lrecl }))
      by false entry is e = committed-from (output_names row.job.root owned) lengths office.tables.sets name table (is ∙ e)

  others : (name : Name) → is_among (names_of leg.job.root owned) name ≡ false → entry_at behind.tables.sets name ≡ entry_at office.tables.sets name
  others name out =
      at-with_changed updated name (table_rewritten owned.owner (step_now row)) done
      ∙ ap (λ b. cond b (option_map (table_rewritten owned.owner (step_now row)) (entry_at done name)) (entry_at done name))
      (bool-cases (same_name name updated)
      (λ same. absurd (false≢true (sym out ∙ ap (is_among (names_of leg.job.root owned)) (name-same name updated same) ∙ updated_among)))
      (λ apart. apart))
      ∙ committed-other (output_names row.job.root owned) lengths office.tables.sets name
      (bool-cases (is_among (output_names row.job.root owned) name)
      (λ among. absurd (false≢true (sym out ∙ outputs-among leg.job.root owned name (ap (λ root. is_among (output_names root owned) name) same_job ∙ among))))
      (λ e. e))

  holder_then : IsHolder behind job next leg
  holder_then = record {
    row_at = run-same (record office.tables { sets = behind.tables.sets }) next row job running.holder.row_at (kept.events.numbered job row running.holder.row_at);
    holds = running.holder.holds;
    leg_at = running.holder.leg_at;
  }

  pub rewritten-has : IsKept layout behind → HasCommitted layout office image → HasWithin layout office.tables.sets start writes image → HasCommitted layout behind image
  rewritten-has later had has =
      within-has layout office behind image kept later (λ run led. refl) had job next leg owned (step_now row) writes holder_then refl
      (found_leg layout office job row leg owned (step_now row) (writes_in (place_of row)) kept.events running)
      (in_reach layout office job row leg owned (step_now row) (writes_in (place_of row)) kept.events running)
      lies others has

pub rewritten-stays : (layout : Layout) (office : Office) (image : List ℕ) (job taken writes place : ℕ) (lengths : ArrayVec ℕ) (bytes : List ℕ) (deck : Option Job) → IsKept layout office → may_come layout office (Rewritten job taken writes lengths place bytes, deck) ≡ true → IsKept layout (office_after (Rewritten job taken writes lengths place bytes, deck) office) → HasCommitted layout office image → HasWithinRun layout office job writes image → HasCommitted layout (office_after (Rewritten job taken writes lengths place bytes, deck) office) image
rewritten-stays layout office image job taken writes place lengths bytes deck kept may later had has =
    by-rewritten (λ (its : Office). IsKept layout its → HasCommitted layout its image) layout office job taken writes place lengths bytes deck kept.events may
    (λ row leg owned now later.
    let running : IsRunning office job row leg owned (step_now row) (writes_in (place_of row)) = now.running in
    rewritten-has layout office job row leg owned writes lengths.items image kept running now.updates later had
    (has row (its_start leg owned (step_now row)) running.holder.row_at (its-start layout office job row leg owned kept running.holder running.found)))
    later
