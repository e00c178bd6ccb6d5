-- What an image has of the data sets goes on where an event commits no records, and where it commits those that a step has written.
use Rattle.std.proofs.Common.{◌≡◌, ℕ, Bool, true, false, List, refl, ap, sym, ◌∙◌, Option, Some, None}
use Rattle.std.specs.Option.{option_map_or}
use Rattle.std.proofs.lemmas.Bool.{false≢true}
use Rattle.arrayvec.specs.ArrayVec.{ArrayVec}
use Rattle.ckr_base.specs.declared.code.Code.{Code}
use Rattle.ckr_events.specs.declared.event.Event.{Event}
use Rattle.ckr_events.specs.declared.event.Event.TheVariants.{Submitted, Cancelled, Denied, Selected, StepEnded, Held, Released, Ended, Purged}
use Rattle.ckr_events.specs.declared.event.Ending.{Ending}
use Rattle.ckr_events.specs.declared.event.Ending.TheVariants.{Completed, Coded, Allocation}
use Rattle.ckr_jcl.specs.declared.deck.Job.{Job}
use Rattle.ckr_library.specs.NameMaps.{Name, entry_at}
use Rattle.ckr_meaning.specs.EffectiveJob.{OwnedStep, step_at}
use Rattle.ckr_meaning.specs.declared.place.Place.{Place}
use Rattle.ckr_meaning.specs.declared.place.Place.TheVariants.{Before, Opened, Within}
use Rattle.ckr_meaning.specs.JobRun.{start_at}
use Rattle.ckr_points.specs.Marks.{has_passed, without_passed}
use Rattle.ckr_points.specs.Tables.{after_commit, after_dispositions, after_step_ended, earlier_made, own_made, run_disposals}
use Rattle.ckr_points.specs.Payload.{carries, start_in_office, writes_in}
use Rattle.ckr_points.specs.Office.{Leg, Office, leg_of, office_after}
use Rattle.ckr_points.specs.Restart.{after_abnormal, after_ended, after_event, after_passed_ended, place_of, step_in}
use Rattle.ckr_points.specs.Rows.{RunRow, TableSet, TablesModel, run_of, standing_of, step_of_run}
use Rattle.ckr_points.specs.Soundness.{may_come}
use Rattle.ckr_points_invariant.specs.Invariant.{IsHolder, IsKept, step_now}
use Rattle.ckr_points_invariant.specs.RunningSteps.{IsRunning, its_start}
use Rattle.ckr_points_invariant.proofs.RunEnd.Event.{committed_office}
use Rattle.ckr_points_invariant.proofs.Steps.Walks.{start_at-of}
use Rattle.ckr_volumes.specs.declared.layout.Layout.{Layout}
use Rattle.ckr_desk_refines.specs.Commits.{HasCommitted, HasWithinRun, keeps_sets}
use Rattle.ckr_desk_refines.specs.Origins.Stems.{stays}
use Rattle.ckr_desk_refines.proofs.Durable.Office.{behind_end, behind_hold, by-coded, by-held, by-step-ended}
use Rattle.ckr_desk_refines.proofs.Durable.Commits.{committed-has, committed-kept}
use Rattle.ckr_desk_refines.proofs.Durable.StepEnd.{StaysFrom, both-from, disposed-from, ended-from, part-itself}
use Rattle.ckr_desk_refines.proofs.Durable.Stamps.{LegsStay, goes-on}

-- where each data set stays from an earlier one
pub all-stay : (layout : Layout) (old new : Office) (image : List ℕ) → IsKept layout old → IsKept layout new → LegsStay old new → HasCommitted layout old image → ((name : Name) (table : TableSet) → entry_at new.tables.sets name ≡ Some table → StaysFrom old.tables.sets name table) → HasCommitted layout new image
all-stay layout old new image kept next legs had from =
    goes-on layout old new image kept next legs had (λ name table e plain. let its = from name table e in stays its.0 its.1 its.2)

-- ---- the data sets stay as they are

pub same-sets : (layout : Layout) (old new : Office) (image : List ℕ) → IsKept layout old → IsKept layout new → LegsStay old new → HasCommitted layout old image → new.tables.sets ≡ old.tables.sets → HasCommitted layout new image
same-sets layout old new image kept next legs had same =
    all-stay layout old new image kept next legs had
    (λ name table e. (table, ap (λ sets. entry_at sets name) (sym same) ∙ e, part-itself table))

pub by-run-sets : (change : RunRow → TablesModel) (o : Option RunRow) (tables : TablesModel) → ((row : RunRow) → (change row).sets ≡ tables.sets) → (option_map_or change o tables).sets ≡ tables.sets
by-run-sets change None tables same = refl
by-run-sets change (Some row) tables same = same row

pub sets-stay : (event : Event) (deck : Option Job) (tables : TablesModel) → keeps_sets event ≡ true → (after_event event deck tables).sets ≡ tables.sets
sets-stay (Submitted job cards) None tables keeps = refl
sets-stay (Submitted job cards) (Some its) tables keeps = refl
sets-stay (Denied job rule name) deck tables keeps = by-run-sets _ (run_of tables job) tables (λ row. refl)
sets-stay (Cancelled job) deck tables keeps = by-run-sets _ (run_of tables job) tables (λ row. refl)
sets-stay (Released job) deck tables keeps = by-run-sets _ (run_of tables job) tables (λ row. refl)
sets-stay (Purged job) deck tables keeps = by-run-sets _ (run_of tables job) tables (λ row. refl)
sets-stay event deck tables keeps = absurd (false≢true keeps)

pub quiet-stays : (layout : Layout) (office : Office) (image : List ℕ) (event : Event) (deck : Option Job) → keeps_sets event ≡ true → IsKept layout office → IsKept layout (office_after (event, deck) office) → HasCommitted layout office image → HasCommitted layout (office_after (event, deck) office) image
quiet-stays layout office image (Selected job initiator earlier step id) deck keeps kept next had = absurd (false≢true keeps)
quiet-stays layout office image (Ended job ending) deck keeps kept next had = absurd (false≢true keeps)
quiet-stays layout office image event deck keeps kept next had =
    same-sets layout office (office_after (event, deck) office) image kept next (λ run led. refl) had (sets-stay event deck office.tables keeps)

-- ---- a step ends

dispositions-from : (row : RunRow) (owned : OwnedStep) (step : ℕ) (abnormal : Bool) (tables : TablesModel) (name : Name) (table : TableSet) → entry_at (after_dispositions row owned step abnormal tables).sets name ≡ Some table → StaysFrom tables.sets name table
dispositions-from row owned step abnormal tables name table e =
    disposed-from name (run_disposals row owned (own_made row owned step) (earlier_made tables row step) abnormal) (standing_of row tables) table e

-- the step of a run on its office, as its job starts it
pub its-start : (layout : Layout) (office : Office) (job : ℕ) (row : RunRow) (leg : Leg) (owned : OwnedStep) → IsKept layout office → IsHolder office job row leg → step_of_run row (step_now row) ≡ Some owned → start_in_office office row ≡ Some (its_start leg owned (step_now row))
its-start layout office job row leg owned kept holder found =
    ap (λ (o : Option Leg). option_map_or (λ leg. start_at leg.job leg.start (step_in (place_of row))) o None) (ap (leg_of office) (kept.events.numbered job row holder.row_at) ∙ holder.leg_at)
    ∙ start_at-of leg.job leg.start (step_now row) owned (ap (λ job. step_at job (step_now row)) (kept.events.places job row leg holder).job ∙ found)

pub step-ended-stays : (layout : Layout) (office : Office) (image : List ℕ) (job step rc writes : ℕ) (lengths : ArrayVec ℕ) (deck : Option Job) → IsKept layout office → may_come layout office (StepEnded job step rc writes lengths, deck) ≡ true → carries layout office (StepEnded job step rc writes lengths) deck ≡ true → IsKept layout (office_after (StepEnded job step rc writes lengths, deck) office) → HasCommitted layout office image → HasWithinRun layout office job writes image → HasCommitted layout (office_after (StepEnded job step rc writes lengths, deck) office) image
step-ended-stays layout office image job step rc writes lengths deck kept may carried next had has =
    by-step-ended (λ (its : Office). IsKept layout its → HasCommitted layout its image) layout office job step rc writes lengths deck kept.events may carried
    (λ row leg owned now next.
    let running : IsRunning office job row leg owned (step_now row) (writes_in (place_of row)) = now.at.running in
    all-stay layout (committed_office office row owned writes lengths.items) (record office { tables = after_step_ended row owned (step_now row) rc writes lengths.items office.tables }) image
    (committed-kept layout office job row leg owned writes lengths.items kept running now.commit now.at.are)
    next (λ run led. refl)
    (committed-has layout office job row leg owned writes lengths.items kept running now.commit now.at.are image had
    (has row (its_start leg owned (step_now row)) running.holder.row_at (its-start layout office job row leg owned kept running.holder running.found)))
    (λ name table at. dispositions-from row owned (step_now row) false (after_commit row owned (step_now row) writes lengths.items office.tables) name table at))
    next

-- ---- a run is held

pub held-stays : (layout : Layout) (office : Office) (image : List ℕ) (job writes : ℕ) (code : Code) (lengths : ArrayVec ℕ) (deck : Option Job) → IsKept layout office → may_come layout office (Held job code writes lengths, deck) ≡ true → carries layout office (Held job code writes lengths) deck ≡ true → IsKept layout (office_after (Held job code writes lengths, deck) office) → HasCommitted layout office image → HasWithinRun layout office job writes image → HasCommitted layout (office_after (Held job code writes lengths, deck) office) image
held-stays layout office image job writes code lengths deck kept may carried next had has =
    by-held (λ (its : Office). IsKept layout its → HasCommitted layout its image) layout office job writes code lengths deck kept.events may carried
    (λ row leg owned now next.
    let running : IsRunning office job row leg owned (step_now row) (writes_in (place_of row)) = now.at.running in
    all-stay layout (committed_office office row owned writes lengths.items) (behind_hold office code writes lengths.items row owned) image
    (committed-kept layout office job row leg owned writes lengths.items kept running now.commit now.at.are)
    next (λ run led. refl)
    (committed-has layout office job row leg owned writes lengths.items kept running now.commit now.at.are image had
    (has row (its_start leg owned (step_now row)) running.holder.row_at (its-start layout office job row leg owned kept running.holder running.found)))
    (λ name table at. (table, at, part-itself table)))
    next

-- ---- a run ends

-- behind the dispositions of its step, where it was within one
abnormal-from : (row : RunRow) (place : Place) (tables : TablesModel) (name : Name) (table : TableSet) → entry_at (after_abnormal row place tables).sets name ≡ Some table → StaysFrom tables.sets name table
abnormal-from row (Before step) tables name table e = ended-from name (has_passed row) tables.sets table e
abnormal-from row (Opened step) tables name table e = ended-from name (has_passed row) tables.sets table e
abnormal-from row (Within step writes) tables name table e = by (step_of_run row step) e
  where
    by : (found : Option OwnedStep) → entry_at (option_map_or (λ owned. let done = after_dispositions row owned step true tables in after_passed_ended (record row { passed = done.passed }) (record tables { sets = done.sets })) found tables).sets name ≡ Some table → StaysFrom tables.sets name table
    by None e = (table, e, part-itself table)
    by (Some owned) e =
        both-from name (without_passed row.lost (after_dispositions row owned step true tables).passed) (run_disposals row owned (own_made row owned step) (earlier_made tables row step) true) (standing_of row tables) table e

-- a run ends that commits nothing
ended-stays : (layout : Layout) (office : Office) (image : List ℕ) (job : ℕ) (ending : Ending) (deck : Option Job) → IsKept layout office → IsKept layout (office_after (Ended job ending, deck) office) → HasCommitted layout office image → ((row : RunRow) (name : Name) (table : TableSet) → entry_at (after_ended row ending office.tables).sets name ≡ Some table → StaysFrom office.tables.sets name table) → HasCommitted layout (office_after (Ended job ending, deck) office) image
ended-stays layout office image job ending deck kept next had from =
    all-stay layout office (office_after (Ended job ending, deck) office) image kept next (λ run led. refl) had
    (λ name table e. by (run_of office.tables job) name table e)
  where
    by : (o : Option RunRow) (name : Name) (table : TableSet) → entry_at (option_map_or (λ row. after_ended row ending office.tables) o office.tables).sets name ≡ Some table → StaysFrom office.tables.sets name table
    by None name table e = (table, e, part-itself table)
    by (Some row) name table e = from row name table e

pub completed-stays : (layout : Layout) (office : Office) (image : List ℕ) (job : ℕ) (deck : Option Job) → IsKept layout office → IsKept layout (office_after (Ended job Completed, deck) office) → HasCommitted layout office image → HasCommitted layout (office_after (Ended job Completed, deck) office) image
completed-stays layout office image job deck kept next had =
    ended-stays layout office image job Completed deck kept next had (λ row name table e. ended-from name (has_passed row) office.tables.sets table e)

pub refused-stays : (layout : Layout) (office : Office) (image : List ℕ) (job dd cause first second : ℕ) (deck : Option Job) → IsKept layout office → IsKept layout (office_after (Ended job (Allocation dd cause first second), deck) office) → HasCommitted layout office image → HasCommitted layout (office_after (Ended job (Allocation dd cause first second), deck) office) image
refused-stays layout office image job dd cause first second deck kept next had =
    ended-stays layout office image job (Allocation dd cause first second) deck kept next had (λ row name table e. abnormal-from row (place_of row) office.tables name table e)

pub coded-stays : (layout : Layout) (office : Office) (image : List ℕ) (job rule writes : ℕ) (code : Code) (lengths : ArrayVec ℕ) (deck : Option Job) → IsKept layout office → may_come layout office (Ended job (Coded code rule writes lengths), deck) ≡ true → carries layout office (Ended job (Coded code rule writes lengths)) deck ≡ true → IsKept layout (office_after (Ended job (Coded code rule writes lengths), deck) office) → HasCommitted layout office image → HasWithinRun layout office job writes image → HasCommitted layout (office_after (Ended job (Coded code rule writes lengths), deck) office) image
coded-stays layout office image job rule writes code lengths deck kept may carried next had has =
    by-coded (λ (its : Office). IsKept layout its → HasCommitted layout its image) layout office job rule writes code lengths deck kept.events may carried
    (λ row leg owned now next.
    let running : IsRunning office job row leg owned (step_now row) (writes_in (place_of row)) = now.at.running in
    let done : TablesModel = after_commit row owned (step_now row) writes lengths.items office.tables in
    let its : TablesModel = after_abnormal (record row { place = Some (Within (step_now row) writes) }) (Within (step_now row) writes) done in
    all-stay layout (committed_office office row owned writes lengths.items) (behind_end office job (Coded code rule writes lengths) its) image
    (committed-kept layout office job row leg owned writes lengths.items kept running now.commit now.at.are)
    next (λ run led. refl)
    (committed-has layout office job row leg owned writes lengths.items kept running now.commit now.at.are image had
    (has row (its_start leg owned (step_now row)) running.holder.row_at (its-start layout office job row leg owned kept running.holder running.found)))
    (λ name table at. abnormal-from (record row { place = Some (Within (step_now row) writes) }) (Within (step_now row) writes) done name table at))
    next
