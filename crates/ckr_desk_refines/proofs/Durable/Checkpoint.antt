-- What an image has of the data sets goes on where a checkpoint commits what a step has written.
use Rattle.std.proofs.Common.{◌≡◌, ℕ, Bool, true, false, cond, List, refl, ap, sym, ◌∙◌, subst, Option, Some, None}
use Rattle.std.specs.Option.{option_map}
use Rattle.std.proofs.lemmas.Option.{same_Some}
use Rattle.arrayvec.specs.ArrayVec.{ArrayVec}
use Rattle.ckr_base.proofs.Options.{some-not-none}
use Rattle.ckr_events.specs.declared.event.Event.TheVariants.{Checkpointed}
use Rattle.ckr_jcl.specs.declared.deck.Job.{Job}
use Rattle.ckr_library.specs.declared.sets.DataSet.{DataSet}
use Rattle.ckr_library.specs.NameMaps.{Name, Named, same_name, entry_at, with_changed}
use Rattle.ckr_library.proofs.Named.{at-with_changed}
use Rattle.ckr_points_library.specs.Commit.{output_names}
use Rattle.ckr_points.specs.Tables.{committed, is_checkpoints, name_with_role, with_kept_entry}
use Rattle.ckr_points.specs.Payload.{carries, writes_in}
use Rattle.ckr_points.specs.Office.{Office, office_after}
use Rattle.ckr_points.specs.Restart.{place_of}
use Rattle.ckr_points.specs.Rows.{KeptEntry, TableSet}
use Rattle.ckr_points.specs.Soundness.{may_come}
use Rattle.ckr_points_invariant.specs.Invariant.{IsKept, step_now}
use Rattle.ckr_points_invariant.specs.RunningSteps.{IsRunning, its_start}
use Rattle.ckr_points_invariant.proofs.RunEnd.Event.{committed_office}
use Rattle.ckr_volumes.specs.declared.layout.Layout.{Layout}
use Rattle.ckr_desk_refines.specs.Commits.{HasCommitted, HasWithinRun}
use Rattle.ckr_desk_refines.specs.Origins.{IsPartOf}
use Rattle.ckr_desk_refines.proofs.Durable.Commits.{committed-has, committed-kept}
use Rattle.ckr_desk_refines.proofs.Durable.Events.{all-stay, its-start}
use Rattle.ckr_desk_refines.proofs.Durable.Office.{behind_checkpoint, by-checkpointed}
use Rattle.ckr_desk_refines.proofs.Durable.StepEnd.{StaysFrom, part-itself}

-- a data set that keeps an entry more is the same but for it
pub entered-set : (name other : Name) (entry : KeptEntry) (sets : Named TableSet) (table : TableSet) → entry_at (with_changed other (with_kept_entry entry) sets) name ≡ Some table → (old : TableSet) × (entry_at sets name ≡ Some old) × (table.set ≡ old.set)
entered-set name other entry sets table e =
    by (same_name name other) (entry_at sets name) refl (sym (at-with_changed other name (with_kept_entry entry) sets) ∙ e)
  where
    by : (same : Bool) (found : Option TableSet) → entry_at sets name ≡ found → cond same (option_map (with_kept_entry entry) found) found ≡ Some table → (old : TableSet) × (entry_at sets name ≡ Some old) × (table.set ≡ old.set)
    by true None is e = absurd (some-not-none table (sym e))
    by true (Some old) is e = (old, is, ap (λ (t : TableSet). t.set) (sym (same_Some (with_kept_entry entry old) table e)))
    by false found is e = (table, is ∙ e, refl)

entered-from : (name other : Name) (entry : KeptEntry) (sets : Named TableSet) (table : TableSet) → entry_at (with_changed other (with_kept_entry entry) sets) name ≡ Some table → StaysFrom sets name table
entered-from name other entry sets table e =
    let from = entered-set name other entry sets table e in
    (from.0, from.1, subst (λ (set : DataSet). IsPartOf set from.0.set) (sym from.2) (part-itself from.0))

pub checkpointed-stays : (layout : Layout) (office : Office) (image : List ℕ) (job taken writes place bytes : ℕ) (id : Name) (lengths : ArrayVec ℕ) (deck : Option Job) → IsKept layout office → may_come layout office (Checkpointed job id taken writes lengths place bytes, deck) ≡ true
    → carries layout office (Checkpointed job id taken writes lengths place bytes) deck ≡ true → IsKept layout (office_after (Checkpointed job id taken writes lengths place bytes, deck) office) → HasCommitted layout office image → HasWithinRun layout office job writes image
    → HasCommitted layout (office_after (Checkpointed job id taken writes lengths place bytes, deck) office) image
checkpointed-stays layout office image job taken writes place bytes id lengths deck kept may carried next had has =
    by-checkpointed (λ (its : Office). IsKept layout its → HasCommitted layout its image) layout office job taken writes place bytes id lengths deck kept.events may carried
    (λ row leg owned now next.
    let running : IsRunning office job row leg owned (step_now row) (writes_in (place_of row)) = now.at.running in
    all-stay layout (committed_office office row owned writes lengths.items) (behind_checkpoint office job id taken writes lengths.items place bytes row owned) image
    (committed-kept layout office job row leg owned writes lengths.items kept running now.commit now.at.are)
    next (λ run led. refl)
    (committed-has layout office job row leg owned writes lengths.items kept running now.commit now.at.are image had
    (has row (its_start leg owned (step_now row)) running.holder.row_at (its-start layout office job row leg owned kept running.holder running.found)))
    (λ name table at. entered-from name (name_with_role row.job.root owned is_checkpoints) _ (committed (output_names row.job.root owned) lengths.items office.tables.sets) table at))
    next
