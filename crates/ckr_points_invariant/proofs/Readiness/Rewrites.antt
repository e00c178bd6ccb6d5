-- A run is ready where a record was rewritten in its step: a restart rests on nothing then.
use Rattle.std.proofs.Common.{◌≡◌, ℕ, Bool, true, false, cond, if◌then◌else◌, List, [], ◌∷◌, map, refl, ap, sym, ◌∙◌, subst, Option, Some, None}
use Rattle.std.specs.Prelude.{◌==◌}
use Rattle.std.specs.Option.{is_some, option_map}
use Rattle.std.proofs.lemmas.Bool.{false≢true}
use Rattle.std.proofs.lemmas.Option.{same_Some}
use Rattle.ckr_base.proofs.Bools.{bool-cases}
use Rattle.ckr_base.proofs.Options.{some-not-none}
use Rattle.ckr_library.specs.NameMaps.{Name, Named, same_name, with_changed}
use Rattle.ckr_library.proofs.Named.{at-with_changed-other, name-same}
use Rattle.ckr_meaning.specs.EffectiveJob.{Effective, OwnedStep, is_among}
use Rattle.ckr_meaning.specs.StepRun.{StepStart}
use Rattle.ckr_meaning.specs.declared.place.Place.TheVariants.{Within}
use Rattle.ckr_volumes.specs.declared.layout.Layout.{Layout}
use Rattle.ckr_points_library.specs.Commit.{output_names}
use Rattle.ckr_points.specs.Follows.{are_lengths, is_update, is_within}
use Rattle.ckr_points.specs.Marks.{point_at}
use Rattle.ckr_points.specs.Office.{Leg, Office}
use Rattle.ckr_points.specs.Payload.{writes_in}
use Rattle.ckr_points.specs.Restart.{place_of}
use Rattle.ckr_points.specs.Rows.{EffectPoint, RunRow, StartPoint, TableSet}
use Rattle.ckr_points.specs.Tables.{committed, effect_rewritten, is_updates, name_with_role, point_rewritten, row_rewritten, table_rewritten}
use Rattle.ckr_points_invariant.specs.Invariant.{IsAgreed, step_now}
use Rattle.ckr_points_invariant.proofs.Rewrite.Invariant.{updated-name}
use Rattle.ckr_points_invariant.proofs.Rewrite.Sets.{updated-out}
use Rattle.ckr_points_invariant.proofs.Steps.Commits.{formed_step}
use Rattle.ckr_points_invariant.specs.Readiness.{IsCheck, IsReady}
use Rattle.ckr_points_invariant.specs.RunningSteps.{IsRunning, its_start}
use Rattle.ckr_points_invariant.proofs.Readiness.Commits.{committed-keeps}

-- the point of the step tells the rewrite
rewritten-told : (step : ℕ) (points : List StartPoint) (point : StartPoint) → point_at (map (point_rewritten step) points) step ≡ Some point → point.rewritten ≡ true
rewritten-told step [] point got = absurd (some-not-none point (sym got))
rewritten-told step (first ∷ rest) point got =
    by (rewritten-told step rest point) (first.step == step) refl got
  where
    by : (point_at (map (point_rewritten step) rest) step ≡ Some point → point.rewritten ≡ true) → (b : Bool) → (first.step == step) ≡ b → point_at ((if b then record first { rewritten = true } else first) ∷ map (point_rewritten step) rest) step ≡ Some point → point.rewritten ≡ true
    by others true here got =
        ap (λ (its : StartPoint). its.rewritten)
        (sym (same_Some (record first { rewritten = true }) point (sym (ap (λ b. cond b (Some (let its : StartPoint = record first { rewritten = true } in its)) (point_at (map (point_rewritten step) rest) step)) here) ∙ got)))
    by others false there got = others (sym (ap (λ b. cond b (Some first) (point_at (map (point_rewritten step) rest) step)) there) ∙ got)

-- and is there still
rewritten-there : (step : ℕ) (points : List StartPoint) → is_some (point_at points step) ≡ true → is_some (point_at (map (point_rewritten step) points) step) ≡ true
rewritten-there step [] there = there
rewritten-there step (first ∷ rest) there = by (rewritten-there step rest) (first.step == step) refl there
  where
    by : (is_some (point_at rest step) ≡ true → is_some (point_at (map (point_rewritten step) rest) step) ≡ true) → (b : Bool) → (first.step == step) ≡ b → is_some (cond b (Some first) (point_at rest step)) ≡ true → is_some (point_at ((if b then record first { rewritten = true } else first) ∷ map (point_rewritten step) rest) step) ≡ true
    by others true here there = ap (λ b. is_some (cond b (Some (let its : StartPoint = record first { rewritten = true } in its)) (point_at (map (point_rewritten step) rest) step))) here
    by others false here there = ap (λ b. is_some (cond b (Some first) (point_at (map (point_rewritten step) rest) step))) here ∙ others there

changed-from : (effect : Option EffectPoint) (later : EffectPoint) → option_map effect_rewritten effect ≡ Some later → (before : EffectPoint) × (effect ≡ Some before) × (effect_rewritten before ≡ later)
changed-from None later e = absurd (some-not-none later (sym e))
changed-from (Some before) later e = (before, refl, same_Some (effect_rewritten before) later e)

module _ (layout : Layout) (now : Office) (job : ℕ) (row : RunRow) (leg : Leg) (owned : OwnedStep) (writes : ℕ) (lengths : List ℕ) (kept : IsAgreed layout now)
    (running : IsRunning now job row leg owned (step_now row) (writes_in (place_of row)))
    (updates : is_update owned.step.program ≡ true)
    (are : are_lengths now.tables.sets (output_names row.job.root owned) lengths ≡ true)
    (ready : IsReady now.tables.sets row leg) where
  abbrev updated : Name
  updated = name_with_role row.job.root owned is_updates

  abbrev pub rewritten_sets : Named TableSet
  rewritten_sets = with_changed updated (table_rewritten owned.owner (step_now row)) (committed (output_names row.job.root owned) lengths now.tables.sets)

  abbrev pub rewritten_row : RunRow
  rewritten_row = record (row_rewritten (step_now row) row) { place = Some (Within (step_now row) writes) }

  out_so : is_among (output_names row.job.root owned) updated ≡ false
  out_so =
      let start : StepStart = its_start leg owned (step_now row) in
      let formed = formed_step layout now job row leg owned (step_now row) (writes_in (place_of row)) kept running in
      ap (λ (effective : Effective). is_among (output_names effective.root owned) (name_with_role effective.root owned is_updates)) (sym (kept.places job row leg running.holder).job)
      ∙ updated-out start (name_with_role leg.job.root owned is_updates) 0 formed (updated-name start 0 formed updates)

  within_now : is_within (place_of row) ≡ true
  within_now = ap is_within running.stands

  check-rewritten : (before : EffectPoint) → IsCheck now.tables.sets row leg before → IsCheck rewritten_sets rewritten_row leg (effect_rewritten before)
  check-rewritten before its =
      let keeps = committed-keeps (output_names row.job.root owned) lengths now.tables.sets are before.set before.kept.id its.entry its.keeps in
      record {
        owned = its.owned;
        found_step = its.found_step;
        among = its.among;
        entry = its.entry;
        keeps = record {
          table = keeps.table;
          at =
              at-with_changed-other updated before.set (table_rewritten owned.owner (step_now row)) (committed (output_names row.job.root owned) lengths now.tables.sets)
              (bool-cases (same_name before.set updated)
              (λ same.
              absurd (false≢true (sym out_so ∙ ap (is_among (output_names row.job.root owned)) (sym (name-same before.set updated same))
              ∙ ap (λ (step : OwnedStep). is_among (output_names row.job.root step) before.set) (same_Some owned its.owned (sym running.found ∙ its.found_step)) ∙ its.among)))
              (λ apart. apart))
              ∙ keeps.at;
          found = keeps.found;
          ends = keeps.ends;
        };
        back = its.back;
        point = its.point;
        taken = its.taken;
        since = λ unwritten. absurd (false≢true (sym unwritten));
      }

  pub rewritten-ready : IsReady rewritten_sets rewritten_row leg
  rewritten-ready = record {
    begun = λ within. rewritten-there (step_now row) row.points (ready.begun within_now);
    steps = λ point within got unwritten. absurd (false≢true (sym unwritten ∙ rewritten-told (step_now row) row.points point got));
    check = λ effect within got.
        let its = changed-from row.in_effect effect got in
        subst (IsCheck rewritten_sets rewritten_row leg) its.2 (check-rewritten its.0 (ready.check its.0 within_now its.1));
    none = λ out. absurd (false≢true (sym out));
  }
