-- What two running steps have in common neither of them writes.
use Rattle.std.proofs.Common.{◌≡◌, ◌≢◌, ℕ, true, false, length, ap, sym, ◌∙◌, subst, Option, Some, None}
use Rattle.std.specs.Option.{option_map, option_map_or}
use Rattle.std.proofs.lemmas.Option.{same_Some}
use Rattle.ckr_points_library.specs.Commit.{output_names}
use Rattle.ckr_library.specs.declared.sets.Content.TheVariants.{Plain}
use Rattle.ckr_library.specs.NameMaps.{Name, entry_at}
use Rattle.ckr_meaning.specs.EffectiveJob.{OwnedStep, is_among, names_of, step_at}
use Rattle.ckr_meaning.specs.JobRun.{start_at}
use Rattle.ckr_meaning.specs.LibrarySet.{LibrarySet}
use Rattle.ckr_meaning.specs.StepRun.{StepStart, within_at}
use Rattle.ckr_points.specs.Office.{Leg, Office, leg_of}
use Rattle.ckr_points.specs.Restart.{place_of, step_in}
use Rattle.ckr_points.specs.Payload.{start_in_office}
use Rattle.ckr_points.specs.Rows.{RunRow, TableSet, step_of_run}
use Rattle.ckr_points_invariant.specs.Invariant.{AreAlike, IsAgreed, IsKept, table_shape}
use Rattle.ckr_points_invariant.specs.RunningSteps.{IsRunning, its_start}
use Rattle.ckr_points_invariant.proofs.Steps.Commits.{alike_within, in_reach}
use Rattle.ckr_points_invariant.proofs.Holders.SharedSets.{within_at-left}
use Rattle.ckr_points_invariant.proofs.Stamps.Tables.{alike_set}
use Rattle.ckr_points_invariant.proofs.OtherRuns.Outputs.{not-output}
use Rattle.ckr_points_invariant.proofs.Continuations.Reached.{start-found}
use Rattle.ckr_volumes.specs.declared.layout.Layout.{Layout}
use Rattle.ckr_desk_refines.specs.SharedSets.{IsInStep, IsShared, LeavesOthers}
use Rattle.ckr_desk_refines.proofs.Durable.OtherSets.{IsLeft, left-of, running-leaves}
use Rattle.ckr_desk_refines.proofs.Durable.Events.{its-start}
use Rattle.ckr_desk_refines.proofs.Durable.Fellows.{others-of-step}
use Rattle.ckr_desk_refines.proofs.Durable.Start.{none-long}

-- ---- a holder in its step

-- it is running the step that its job starts
pub running-of : (layout : Layout) (office : Office) (number : ℕ) (row : RunRow) (leg : Leg) (start : StepStart) (writes : ℕ) → IsAgreed layout office → IsInStep office number row leg start writes → (owned : OwnedStep) × IsRunning office number row leg owned start.number writes × (its_start leg owned start.number ≡ start)
running-of layout office number row leg start writes kept runs =
    let its = start-found leg.job leg.start start.number start there in
    (its.0, record { holder = runs.holder; stands = runs.stands; found = ap (λ job. step_at job start.number) (sym (kept.places number row leg runs.holder).job) ∙ its.1 }, its.2)
  where
    there : start_at leg.job leg.start start.number ≡ Some start
    there =
        ap (start_at leg.job leg.start) (sym (ap step_in runs.stands))
        ∙ sym (ap (λ (o : Option Leg). option_map_or (λ leg. start_at leg.job leg.start (step_in (place_of row))) o None) (ap (leg_of office) (kept.numbered number row runs.holder.row_at) ∙ runs.holder.leg_at))
        ∙ runs.starts

pub in-step : (layout : Layout) (office : Office) (number : ℕ) (row : RunRow) (leg : Leg) (owned : OwnedStep) (step writes : ℕ) → IsKept layout office → IsRunning office number row leg owned step writes → IsInStep office number row leg (its_start leg owned step) writes
in-step layout office number row leg owned step writes kept running = record {
  holder = running.holder;
  stands = running.stands;
  starts =
      let at : step_in (place_of row) ≡ step = ap step_in running.stands in
      subst (λ n. start_in_office office row ≡ Some (its_start leg owned n)) at
      (its-start layout office number row leg owned kept running.holder (ap (step_of_run row) at ∙ running.found));
}

-- an event of another run leaves the data sets of its step
pub step-others : (layout : Layout) (now later : Office) (run number : ℕ) (row : RunRow) (leg : Leg) (start : StepStart) (writes : ℕ) (name : Name) → IsKept layout now → LeavesOthers now run later → IsInStep now number row leg start writes → number ≢ run → is_among (names_of start.root start.owned) name ≡ true → entry_at later.tables.sets name ≡ entry_at now.tables.sets name
step-others layout now later run number row leg start writes name kept leaves runs apart among =
    let its = running-of layout now number row leg start writes kept.events runs in
    others-of-step layout now later run number row leg its.0 start.number writes name kept.events leaves its.1 apart
    (ap (λ (s : StepStart). is_among (names_of s.root s.owned) name) its.2 ∙ among)

-- ---- a name of two running steps

-- what holds of a running step that leaves a name of its own holds of one whose name another step has
by-shared : (Q : StepStart → Type 0) (layout : Layout) (now : Office) (start : StepStart) (writes : ℕ) (name : Name) → IsAgreed layout now → IsShared now start writes name
    → ((number : ℕ) (row : RunRow) (leg : Leg) (owned : OwnedStep) (step : ℕ) → IsRunning now number row leg owned step writes → IsLeft leg name → is_among (names_of leg.job.root owned) name ≡ true → Q (its_start leg owned step)) → Q start
by-shared Q layout now start writes name kept shared each =
    let mine = running-of layout now shared.number shared.row shared.leg start writes kept shared.runs in
    let theirs = running-of layout now shared.other shared.next shared.fellow shared.its shared.done kept shared.goes in
    subst Q mine.2
    (each shared.number shared.row shared.leg mine.0 start.number mine.1
    (left-of layout now shared.other shared.number shared.next shared.row shared.fellow shared.leg name kept shared.goes.holder shared.runs.holder (λ e. shared.apart (sym e))
    (in_reach layout now shared.other shared.next shared.fellow theirs.0 shared.its.number shared.done kept theirs.1 name
    (ap (λ (s : StepStart). is_among (names_of s.root s.owned) name) theirs.2 ∙ shared.shares)))
    (ap (λ (s : StepStart). is_among (names_of s.root s.owned) name) mine.2 ∙ shared.has))

-- it is no output
pub shared-read : (layout : Layout) (now : Office) (start : StepStart) (writes : ℕ) (name : Name) → IsKept layout now → IsShared now start writes name → is_among (output_names start.root start.owned) name ≡ false
shared-read layout now start writes name kept shared =
    by-shared (λ start. is_among (output_names start.root start.owned) name ≡ false) layout now start writes name kept.events shared
    (λ number row leg owned step running left among.
    not-output leg.job.root owned name (running-leaves layout now number row leg owned step writes name kept.events running left))

-- its records stay
pub shared-same : (layout : Layout) (now : Office) (start : StepStart) (writes more : ℕ) (name : Name) → IsKept layout now → IsShared now start writes name → entry_at (within_at start more) name ≡ entry_at (within_at start writes) name
shared-same layout now start writes more name kept shared =
    by-shared (λ start. entry_at (within_at start more) name ≡ entry_at (within_at start writes) name) layout now start writes name kept.events shared
    (λ number row leg owned step running left among.
    let leaves = running-leaves layout now number row leg owned step writes name kept.events running left in
    within_at-left name (its_start leg owned step) more leaves ∙ sym (within_at-left name (its_start leg owned step) writes leaves))

-- and they are those of the tables
shared_alike : (layout : Layout) (now : Office) (start : StepStart) (writes : ℕ) (name : Name) → IsKept layout now → IsShared now start writes name → AreAlike now.tables.sets (within_at start writes) name
shared_alike layout now start writes name kept shared =
    by-shared (λ start. AreAlike now.tables.sets (within_at start writes) name) layout now start writes name kept.events shared
    (λ number row leg owned step running left among.
    alike_within layout now number row leg owned step writes kept.events running name (in_reach layout now number row leg owned step writes kept.events running name among))

pub shared-long : (layout : Layout) (now : Office) (start : StepStart) (writes more : ℕ) (name : Name) (table : TableSet) (set : LibrarySet) → IsKept layout now → IsShared now start writes name → entry_at now.tables.sets name ≡ Some table → table.set.content ≡ Plain → entry_at (within_at start more) name ≡ Some set → length set.records ≡ table.set.length
shared-long layout now start writes more name table set kept shared e plain at_more =
    let its = alike_set table (entry_at (within_at start writes) name) (ap (option_map table_shape) (sym e) ∙ shared_alike layout now start writes name kept shared) in
    let same : its.0 ≡ set = same_Some its.0 set (sym its.1 ∙ sym (shared-same layout now start writes more name kept shared) ∙ at_more) in
    ap (λ (s : LibrarySet). length s.records) (sym same) ∙ sym (none-long table its.0 its.2 plain)
