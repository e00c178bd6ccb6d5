-- One more event of a run in its step leaves what data sets keep with their entries.
use Rattle.std.proofs.Common.{◌≡◌, ◌≤◌, ℕ, suc, Bool, true, false, cond, if◌then◌else◌, List, ◌∷◌, ◌++◌, map, refl, ap, sym, ◌∙◌, subst, Option, Some, None, arith, []}
use Rattle.std.specs.Prelude.{◌==◌}
use Rattle.std.specs.Option.{option_map}
use Rattle.std.proofs.lemmas.Bool.{false≢true}
use Rattle.std.proofs.lemmas.Option.{same_Some}
use Rattle.ckr_base.specs.declared.code.Code.{Code}
use Rattle.ckr_base.proofs.Options.{option_map-some, some-one}
use Rattle.ckr_events.specs.declared.event.Made.{Made}
use Rattle.ckr_library.specs.NameMaps.{Name, Named, with_changed}
use Rattle.ckr_meaning.specs.EffectiveJob.{OwnedStep}
use Rattle.ckr_meaning.specs.declared.place.Place.TheVariants.{Before, Within}
use Rattle.ckr_volumes.specs.declared.layout.Layout.{Layout}
use Rattle.ckr_points_library.specs.Commit.{output_names}
use Rattle.ckr_points.specs.declared.run.RunState.TheVariants.{Held as HeldRun}
use Rattle.ckr_points.specs.Follows.{are_lengths, is_within, own_step}
use Rattle.ckr_points.specs.Marks.{point_at}
use Rattle.ckr_points.specs.Office.{Leg, Office}
use Rattle.ckr_points.specs.Restart.{place_of}
use Rattle.ckr_points.specs.Rows.{EffectPoint, RunRow, StartPoint, TableSet, TablesModel, standing_of, with_run}
use Rattle.ckr_points.specs.Tables.{after_checkpointed, after_dispositions, after_held, after_rewritten, after_step_ended, committed, earlier_made, effect_rewritten, is_updates, name_with_role, own_made, point_rewritten, row_rewritten, run_disposals, table_rewritten, after_started}
use Rattle.ckr_points_invariant.specs.Invariant.{IsAgreed, IsHolder, step_now}
use Rattle.ckr_points_invariant.specs.Points.{ArePointed}
use Rattle.ckr_points_invariant.specs.Readiness.{AreReady, IsCheck}
use Rattle.ckr_points_invariant.specs.WrittenEntries.{AreWrittenEntries, HasGrown, HasWrittenEntries}
use Rattle.ckr_points_invariant.proofs.Holders.Rows.{run-other, run-same}
use Rattle.ckr_points_invariant.proofs.OtherRuns.Sets.{LeavesApart}
use Rattle.ckr_points_invariant.proofs.Readiness.Checkpoints.{checked_row, checked_sets}
use Rattle.ckr_points_invariant.proofs.Readiness.Commits.{committed-keeps}
use Rattle.ckr_points_invariant.proofs.Readiness.Office.{step-point}
use Rattle.ckr_points_invariant.proofs.StartedSteps.Runs.{marked-was, marks_at}
use Rattle.ckr_points_invariant.proofs.StartedSteps.StepEvents.{marks-rewritten}
use Rattle.ckr_points_invariant.proofs.WrittenEntries.Checkpoints.{checked-grown, checked-has}
use Rattle.ckr_points_invariant.proofs.WrittenEntries.Entries.{HasPointAs, entries-through, same-points, same-step}
use Rattle.ckr_points_invariant.proofs.WrittenEntries.Growth.{IsEffectLong, effect-kept, kept-changed, long-changed, long-committed}
use Rattle.ckr_points_invariant.proofs.WrittenEntries.Offices.{written-moved, written-on}
use Rattle.ckr_points_invariant.proofs.WrittenEntries.Sets.{committed-has, disposed_all-has, rewritten-has}
use Rattle.ckr_points_invariant.proofs.WrittenEntries.Starts.{written-step}
use Rattle.ckr_points_invariant.proofs.EventRows.{IsChecking, IsCommitting, IsRewriting}
use Rattle.ckr_points_invariant.proofs.Start.Event.{StartsNow}

-- ---- the points of a run that rewrites

point_at-rewritten : (step number : ℕ) (points : List StartPoint) → point_at (map (point_rewritten step) points) number ≡ option_map (point_rewritten step) (point_at points number)
point_at-rewritten step number [] = refl
point_at-rewritten step number (first ∷ rest) =
    by (first.step == step) (first.step == number) (point_at-rewritten step number rest)
    ∙ sym (spread (first.step == number) (point_at rest number))
  where
    by : (b here : Bool) → point_at (map (point_rewritten step) rest) number ≡ option_map (point_rewritten step) (point_at rest number) → cond (let its : StartPoint = (if b then record first { rewritten = true } else first) in its.step == number) (Some (if b then record first { rewritten = true } else first)) (point_at (map (point_rewritten step) rest) number) ≡ cond (first.step == number) (Some (if b then record first { rewritten = true } else first)) (option_map (point_rewritten step) (point_at rest number))
    by true here others = ap (cond (first.step == number) (Some (let its : StartPoint = record first { rewritten = true } in its))) others
    by false here others = ap (cond (first.step == number) (Some first)) others

    spread : (b : Bool) (o : Option StartPoint) → option_map (point_rewritten step) (cond b (Some first) o) ≡ cond b (Some (point_rewritten step first)) (option_map (point_rewritten step) o)
    spread true o = refl
    spread false o = refl

-- a point is told of at most one rewrite more
rewritten-as : (row next : RunRow) (step number : ℕ) (point : StartPoint) → next.points ≡ map (point_rewritten step) row.points → point_at row.points number ≡ Some point → HasPointAs next number point
rewritten-as row next step number point are got = record {
  later = point_rewritten step point;
  has = ap (λ points. point_at points number) are ∙ point_at-rewritten step number row.points ∙ ap (option_map (point_rewritten step)) got;
  marks = marks (point.step == step);
  passed = passed (point.step == step);
  told = told (point.step == step);
}
  where
    marks : (b : Bool) → (if b then record point { rewritten = true } else point).marks ≡ point.marks
    marks true = refl
    marks false = refl

    passed : (b : Bool) → (if b then record point { rewritten = true } else point).passed ≡ point.passed
    passed true = refl
    passed false = refl

    told : (b : Bool) → (if b then record point { rewritten = true } else point).rewritten ≡ false → point.rewritten ≡ false
    told true e = absurd (false≢true (sym e))
    told false e = e

module _ (layout : Layout) (now : Office) (kept : IsAgreed layout now) (pointed : ArePointed now) (ready : AreReady now) (written : AreWrittenEntries now) where
  abbrev Has : Name → TableSet → Type 0
  Has = HasWrittenEntries now

  pub written-started : (job step : ℕ) (items : List Made) (row : RunRow) (leg : Leg) (owned : OwnedStep) → StartsNow layout now job row leg owned step items → LeavesApart now job (after_started row owned step items now.tables).sets → AreWrittenEntries (record now { tables = after_started row owned step items now.tables })
  written-started job step items row leg owned starts = written-step layout now job row leg owned step items kept ready starts pointed written

  -- ---- lengths are committed

  module _ (job : ℕ) (row : RunRow) (leg : Leg) (owned : OwnedStep) (lengths : List ℕ) (holder : IsHolder now job row leg) (within : is_within (place_of row) ≡ true) (found : own_step row ≡ Some owned) (are : are_lengths now.tables.sets (output_names row.job.root owned) lengths ≡ true) where
    abbrev behind : Named TableSet
    behind = committed (output_names row.job.root owned) lengths now.tables.sets

    behind-grown : (point : StartPoint) → point_at row.points (step_now row) ≡ Some point → HasGrown behind row owned point.marks
    behind-grown point got =
        let was : HasGrown now.tables.sets row owned point.marks = written.grown job row leg owned point holder within found got in
        record {
          since = long-committed row owned point.marks now.tables.sets lengths are was.since;
          effect = λ effect entry in_effect.
              let check : IsCheck now.tables.sets row leg effect = (ready.runs job row leg holder).check effect within in_effect in
              effect-kept row owned point.marks now.tables.sets behind effect check.entry check.keeps
              (committed-keeps (output_names row.job.root owned) lengths now.tables.sets are effect.set effect.kept.id check.entry check.keeps)
              (λ one there. was.effect effect one in_effect there) entry;
        }

  pub written-held : (job writes : ℕ) (code : Code) (lengths : List ℕ) (row : RunRow) (leg : Leg) (owned : OwnedStep) → IsCommitting now job row leg owned writes lengths → LeavesApart now job (after_held row owned (step_now row) code writes lengths now.tables).sets → AreWrittenEntries (record now { tables = after_held row owned (step_now row) code writes lengths now.tables })
  written-held job writes code lengths row leg owned its left =
      let holder = its.at.running.holder in
      let found = its.at.running.found in
      let next : RunRow = record row { state = HeldRun; initiator = None; code = Some code; place = Some (Within (step_now row) writes) } in
      let sets : Named TableSet = committed (output_names row.job.root owned) lengths now.tables.sets in
      written-moved layout now kept pointed ready written job row next leg sets now.library holder refl (record { job = refl; deck = refl; own_from = refl; selected = λ was. refl }) left
      (committed-has Has (entries-through now) (output_names row.job.root owned) lengths now.tables.sets written.sets) (same-points row next refl)
      (λ step its. same-step row next step refl (λ holds. (its.0, λ same. refl)))
      (λ holds inside other point there got.
      subst (λ one. HasGrown sets next one point.marks) (some-one owned other (own_step row) found there)
      (let grown : HasGrown sets row owned point.marks = behind-grown job row leg owned lengths holder its.at.within found its.at.are point got in record { since = grown.since; effect = grown.effect }))

  -- ---- a record is rewritten

  rewritten-grown : (job writes : ℕ) (lengths : List ℕ) (row : RunRow) (leg : Leg) (owned : OwnedStep) (point : StartPoint) → IsHolder now job row leg → is_within (place_of row) ≡ true → own_step row ≡ Some owned → are_lengths now.tables.sets (output_names row.job.root owned) lengths ≡ true → point_at (map (point_rewritten (step_now row)) row.points) (step_now row) ≡ Some point
      → HasGrown (with_changed (name_with_role row.job.root owned is_updates) (table_rewritten owned.owner (step_now row)) (committed (output_names row.job.root owned) lengths now.tables.sets)) (record (row_rewritten (step_now row) row) { place = Some (Within (step_now row) writes) }) owned point.marks
  rewritten-grown job writes lengths row leg owned point holder within found are got =
      let points : List StartPoint = map (point_rewritten (step_now row)) row.points in
      let same : (number : ℕ) → marks_at points number ≡ marks_at row.points number = λ number. marks-rewritten (step_now row) number row.points in
      let old = marked-was points row.points (step_now row) point (same (step_now row)) got in
      let marks : point.marks ≡ old.0.marks =
      same_Some point.marks old.0.marks
      (sym (ap (option_map (λ (one : StartPoint). one.marks)) got) ∙ same (step_now row) ∙ ap (option_map (λ (one : StartPoint). one.marks)) old.1) in
      let behind : Named TableSet = committed (output_names row.job.root owned) lengths now.tables.sets in
      let updated : Name = name_with_role row.job.root owned is_updates in
      let its : HasGrown behind row owned point.marks = subst (HasGrown behind row owned) (sym marks) (behind-grown job row leg owned lengths holder within found are old.0 old.1) in
      record {
        since = long-changed row owned point.marks updated (table_rewritten owned.owner (step_now row)) behind (λ table. refl) its.since;
        effect = λ effect entry in_effect there.
            let before = option_map-some effect_rewritten row.in_effect effect in_effect in
            let back : IsEffectLong row owned point.marks behind before.0 = λ one at. its.effect before.0 one before.1 at in
            subst (λ (one : EffectPoint). IsEffectLong row owned point.marks behind one) before.2 back entry
            (sym (kept-changed updated (table_rewritten owned.owner (step_now row)) behind effect.set effect.kept.id (λ table. refl)) ∙ there);
      }

  pub written-rewritten : (job taken writes place : ℕ) (lengths image : List ℕ) (row : RunRow) (leg : Leg) (owned : OwnedStep) → IsRewriting now job row leg owned taken writes place lengths image → LeavesApart now job (after_rewritten row owned (step_now row) writes lengths now.tables).sets → AreWrittenEntries (record now { tables = after_rewritten row owned (step_now row) writes lengths now.tables })
  written-rewritten job taken writes place lengths image row leg owned its left =
      let holder = its.at.running.holder in
      let found = its.at.running.found in
      let next : RunRow = record (row_rewritten (step_now row) row) { place = Some (Within (step_now row) writes) } in
      let behind : Named TableSet = committed (output_names row.job.root owned) lengths now.tables.sets in
      let updated : Name = name_with_role row.job.root owned is_updates in
      let sets : Named TableSet = with_changed updated (table_rewritten owned.owner (step_now row)) behind in
      written-moved layout now kept pointed ready written job row next leg sets now.library holder refl (record { job = refl; deck = refl; own_from = refl; selected = λ was. refl }) left
      (rewritten-has Has (entries-through now) updated owned.owner (step_now row) behind (committed-has Has (entries-through now) (output_names row.job.root owned) lengths now.tables.sets written.sets))
      (λ step point got. let as_it : HasPointAs next step point = rewritten-as row next (step_now row) step point refl got in (as_it.later, as_it.has))
      (λ step its. record { point = λ point got. rewritten-as row next (step_now row) step point refl got; entered = λ holds. (its.0, λ same. refl) })
      (λ holds inside other point there got.
      subst (λ one. HasGrown sets next one point.marks) (some-one owned other (own_step row) found there)
      (rewritten-grown job writes lengths row leg owned point holder its.at.within found its.at.are got))

  -- ---- a checkpoint is taken

  pub written-checkpointed : (job taken writes place bytes : ℕ) (id : Name) (lengths : List ℕ) (row : RunRow) (leg : Leg) (owned : OwnedStep) → IsChecking now job row leg owned id taken writes place bytes lengths
      → LeavesApart now job (after_checkpointed row owned (step_now row) (record { id = id; run = job; place = place; bytes = bytes }) taken writes lengths now.tables).sets
      → AreWrittenEntries (record now { tables = after_checkpointed row owned (step_now row) (record { id = id; run = job; place = place; bytes = bytes }) taken writes lengths now.tables })
  written-checkpointed job taken writes place bytes id lengths row leg owned its left =
      let running = its.committing.at.running in
      let commit = its.committing.commit in
      let are = its.committing.at.are in
      let points = λ (point : StartPoint) (got : point_at row.points (step_now row) ≡ Some point). step-point layout now job row leg point kept pointed running.holder got in
      let its_ready = ready.runs job row leg running.holder in
      let grown = λ (inside : is_within (place_of row) ≡ true) (owned : OwnedStep) (point : StartPoint). written.grown job row leg owned point running.holder inside in
      let next : RunRow = checked_row layout now job row leg owned writes taken place bytes id lengths kept running commit its.told are its.check its_ready in
      let sets : Named TableSet = checked_sets layout now job row leg owned writes taken place bytes id lengths kept running commit its.told are its.check its_ready in
      written-moved layout now kept pointed ready written job row next leg sets now.library running.holder refl (record { job = refl; deck = refl; own_from = refl; selected = λ was. refl }) left
      (checked-has layout now job row leg owned writes taken place bytes id lengths kept its.some running commit its.told are its.check points its_ready grown
      (committed-has Has (entries-through now) (output_names row.job.root owned) lengths now.tables.sets written.sets)) (same-points row next refl)
      (λ step its. same-step row next step refl (λ holds. (its.0, λ same. refl)))
      (λ holds. checked-grown layout now job row leg owned writes taken place bytes id lengths kept its.some running commit its.told are its.check points its_ready grown)

  -- ---- a step ends

  pub written-step_done : (job rc writes : ℕ) (lengths : List ℕ) (row : RunRow) (leg : Leg) (owned : OwnedStep) → IsHolder now job row leg → LeavesApart now job (after_step_ended row owned (step_now row) rc writes lengths now.tables).sets → AreWrittenEntries (record now { tables = after_step_ended row owned (step_now row) rc writes lengths now.tables })
  written-step_done job rc writes lengths row leg owned holder left =
      let sets : Named TableSet = committed (output_names row.job.root owned) lengths now.tables.sets in
      let mid : RunRow = record row { place = Some (Within (step_now row) writes) } in
      let done : TablesModel = with_run mid (record now.tables { sets = sets }) in
      let disposed = after_dispositions row owned (step_now row) false done in
      let next : RunRow = record row { place = Some (Before (suc (step_now row))); rcs = row.rcs ++ (step_now row, rc) ∷ []; in_effect = None; passed = disposed.passed } in
      written-on layout now kept pointed ready written job row mid next leg done disposed.sets now.library holder
      (run-same (record now.tables { sets = sets }) mid row job holder.row_at (kept.numbered job row holder.row_at)) refl
      (λ number differs. run-other (record now.tables { sets = sets }) mid number (λ same. differs (same ∙ kept.numbered job row holder.row_at))) left
      (disposed_all-has Has (entries-through now) (run_disposals row owned (own_made row owned (step_now row)) (earlier_made done row (step_now row)) false) (standing_of row done)
      (committed-has Has (entries-through now) (output_names row.job.root owned) lengths now.tables.sets written.sets)) (record { job = refl; deck = refl; own_from = refl; selected = λ was. refl }) (same-points row next refl)
      (λ number its. same-step row next number refl (λ holds. let under : number ≤ step_now row = its.0 in (omega (arith, under), λ same. absurd (omega (arith, under, same)))))
      (λ holds inside. absurd (false≢true inside))
