-- What an automatic restart keeps of its run and of the data sets, and how the tables see it.
use Rattle.std.proofs.Common.{◌⊎◌, inl, inr, ◌≡◌, ℕ, Bool, true, false, List, [], ◌∷◌, map, find, cond, refl, ap, sym, ◌∙◌, Some, None, Option}
use Rattle.std.specs.Option.{option_and_then, option_map, option_map_or}
use Rattle.std.proofs.lemmas.Bool.{false≢true}
use Rattle.std.proofs.lemmas.Option.{same_Some}
use Rattle.ckr_entry.specs.declared.point.Mark.{Mark}
use Rattle.ckr_library.specs.Catalog.{Holding, kept_in, with_catalog}
use Rattle.ckr_library.specs.NameMaps.{EachEntry, Name, Named, entry_at, same_name}
use Rattle.ckr_library.specs.declared.sets.Kept.{Kept}
use Rattle.ckr_meaning.specs.EffectiveJob.{OwnedStep, names_of}
use Rattle.ckr_points.specs.declared.run.Run.{Run}
use Rattle.ckr_points.specs.Marks.{made_names, point_at, put_back, removed_all, with_point}
use Rattle.ckr_points.specs.Restart.{after_check_restart, after_put_back, after_restarted, after_step_restart, back_to_entry, back_to_start, by_step, effect_restarted, kept_at, point_restarted, row_on, step_in}
use Rattle.ckr_points.specs.Rows.{EffectPoint, EntryPoint, KeptEntry, RunRow, StartPoint, TableSet, TablesModel, run_of}
use Rattle.ckr_points.specs.Tables.{kept_entry}
use Rattle.ckr_points_library.specs.Commit.{output_names}
use Rattle.ckr_points_tables.specs.Invariant.{is_queued, passed_back_at}
use Rattle.ckr_points_runs.specs.PutBack.{all_made_gone, cut_back}
use Rattle.ckr_points_tables.specs.Restart.{back_at_entry, back_at_start, check_restarted, effect_restart, kept_under, passed_at_entry, passed_for, point_under, restarted, sets_at_entry, sets_at_start, step_restarted}
use Rattle.ckr_points_runs.specs.RunChange.{Going, by_step_of, desk_with, going, place_now, step_of}
use Rattle.ckr_points_runs.specs.View.{RunTableView, row_with}
use Rattle.ckr_points_tables.specs.View.{Writings, point_for, table_in}
use Rattle.ckr_points_tables.proofs.NamedViews.{at-viewed, viewed}
use Rattle.ckr_points_tables.proofs.PutBack.{back-each, back-seen, gone-each, gone-seen}
use Rattle.ckr_points_tables.proofs.RunChanges.{unchanged-in}
use Rattle.ckr_points_tables.proofs.RunMoves.{StaysRun}
use Rattle.ckr_points_tables.proofs.SetViews.{going_viewed}

-- ---- what it keeps

module _ (Q : Holding → Type 0) (cuts : (most : ℕ) (holding : Holding) → Q holding → Q (cut_back most holding)) (marks_so : (on : Bool) (holding : Holding) → Q holding → Q (with_catalog on holding)) where
  start-each : (now : Going Holding) (step initiator : ℕ) → EachEntry Q now.sets → EachEntry Q (by_step_of step (step_restarted initiator step now) now).sets
  start-each now step initiator each = by (step_of now step)
    where
      back : (own : OwnedStep) (found : Option StartPoint) → EachEntry Q (option_map_or (back_at_start initiator step now own) found now).sets
      back own None = each
      back own (Some point) =
          back-each Q cuts marks_so point.marks (output_names now.facts.job.root own) (names_of now.facts.job.root own) (all_made_gone point.marks (names_of now.facts.job.root own) now.sets)
          (gone-each Q cuts marks_so point.marks (names_of now.facts.job.root own) now.sets each)

      by : (found : Option OwnedStep) → EachEntry Q (option_map_or (step_restarted initiator step now) found now).sets
      by None = each
      by (Some own) = back own (point_at now.facts.points step)

  entry-each : (writings : Writings) (now : Going Holding) (step initiator : ℕ) → EachEntry Q now.sets → EachEntry Q (by_step_of step (check_restarted writings initiator step now) now).sets
  entry-each writings now step initiator each = by (step_of now step)
    where
      back : (own : OwnedStep) (effect : EffectPoint) (point : Option EntryPoint) → EachEntry Q (option_map_or (back_at_entry initiator step effect now own) point now).sets
      back own effect None = each
      back own effect (Some point) = back-each Q cuts marks_so point.marks (output_names now.facts.job.root own) (names_of now.facts.job.root own) now.sets each

      at : (own : OwnedStep) (in_effect : Option EffectPoint) → EachEntry Q (option_map_or (effect_restart writings initiator step now own) in_effect now).sets
      at own None = each
      at own (Some effect) = back own effect (point_under writings now.sets effect)

      by : (found : Option OwnedStep) → EachEntry Q (option_map_or (check_restarted writings initiator step now) found now).sets
      by None = each
      by (Some own) = at own now.facts.in_effect

  -- what holds of each data set behind a restart
  pub restarted-each : (writings : Writings) (checkpoint : Bool) (initiator : ℕ) (now : Going Holding) → EachEntry Q now.sets → EachEntry Q (restarted writings checkpoint initiator now).sets
  restarted-each writings true initiator now each = entry-each writings now (step_in (place_now now.facts)) initiator each
  restarted-each writings false initiator now each = start-each now (step_in (place_now now.facts)) initiator each

-- the run is as it was, or on the initiator
abbrev pub IsLeft : ℕ → Going Holding → Going Holding → Type 0
IsLeft initiator now after = StaysRun now after × ((i : ℕ) → after.line.initiator ≡ Some i → (now.line.initiator ≡ Some i) ⊎ (initiator ≡ i))

module _ (now : Going Holding) (initiator : ℕ) (free : is_queued now.line.state ≡ true → now.line.initiator ≡ None) where
  left-same : IsLeft initiator now now
  left-same = (record { number = refl; name = refl; job = refl; free = free }, λ i on. inl on)

  left-start : (step : ℕ) → IsLeft initiator now (by_step_of step (step_restarted initiator step now) now)
  left-start step = by (step_of now step)
    where
      back : (own : OwnedStep) (found : Option StartPoint) → IsLeft initiator now (option_map_or (back_at_start initiator step now own) found now)
      back own None = left-same
      back own (Some point) = (record { number = refl; name = refl; job = refl; free = λ e. absurd (false≢true e) }, λ i on. inr (same_Some initiator i on))

      by : (found : Option OwnedStep) → IsLeft initiator now (option_map_or (step_restarted initiator step now) found now)
      by None = left-same
      by (Some own) = back own (point_at now.facts.points step)

  left-entry : (writings : Writings) (step : ℕ) → IsLeft initiator now (by_step_of step (check_restarted writings initiator step now) now)
  left-entry writings step = by (step_of now step)
    where
      back : (own : OwnedStep) (effect : EffectPoint) (point : Option EntryPoint) → IsLeft initiator now (option_map_or (back_at_entry initiator step effect now own) point now)
      back own effect None = left-same
      back own effect (Some point) = (record { number = refl; name = refl; job = refl; free = λ e. absurd (false≢true e) }, λ i on. inr (same_Some initiator i on))

      at : (own : OwnedStep) (in_effect : Option EffectPoint) → IsLeft initiator now (option_map_or (effect_restart writings initiator step now own) in_effect now)
      at own None = left-same
      at own (Some effect) = back own effect (point_under writings now.sets effect)

      by : (found : Option OwnedStep) → IsLeft initiator now (option_map_or (check_restarted writings initiator step now) found now)
      by None = left-same
      by (Some own) = at own now.facts.in_effect

  -- a restart leaves its run so
  pub restarted-left : (writings : Writings) (checkpoint : Bool) → IsLeft initiator now (restarted writings checkpoint initiator now)
  restarted-left writings true = left-entry writings (step_in (place_now now.facts))
  restarted-left writings false = left-start (step_in (place_now now.facts))

-- ---- as the tables see it

kept-found : (writings : Writings) (set id : Name) (kept : List Kept) → find (λ (entry : KeptEntry). same_name entry.kept.id id) (map (λ one. kept_entry one (point_for writings set one)) kept) ≡ option_map (λ one. kept_entry one (point_for writings set one)) (find (λ (one : Kept). same_name one.id id) kept)
kept-found writings set id [] = refl
kept-found writings set id (one ∷ kept) = by (same_name one.id id) (kept-found writings set id kept)
  where
    by : (b : Bool) → find (λ (entry : KeptEntry). same_name entry.kept.id id) (map (λ other. kept_entry other (point_for writings set other)) kept) ≡ option_map (λ other. kept_entry other (point_for writings set other)) (find (λ (other : Kept). same_name other.id id) kept)
        → cond b (Some (kept_entry one (point_for writings set one))) (find (λ (entry : KeptEntry). same_name entry.kept.id id) (map (λ other. kept_entry other (point_for writings set other)) kept))
        ≡ option_map (λ other. kept_entry other (point_for writings set other)) (cond b (Some one) (find (λ (other : Kept). same_name other.id id) kept))
    by true more = refl
    by false more = more

-- the first entry of an identifier that a data set keeps, with its point
pub kept-seen : (writings : Writings) (sets : Named Holding) (set id : Name) → kept_at (viewed (table_in writings) sets) set id ≡ option_map (λ kept. kept_entry kept (point_for writings set kept)) (kept_under sets set id)
kept-seen writings sets set id =
    ap (λ found. option_map_or (λ (table : TableSet). find (λ (entry : KeptEntry). same_name entry.kept.id id) table.entries) found None) (at-viewed (table_in writings) sets set) ∙ by (entry_at sets set)
  where
    by : (found : Option Holding) → option_map_or (λ (table : TableSet). find (λ (entry : KeptEntry). same_name entry.kept.id id) table.entries) (option_map (table_in writings set) found) None
        ≡ option_map (λ kept. kept_entry kept (point_for writings set kept)) (find (λ (one : Kept). same_name one.id id) (kept_in found))
    by None = refl
    by (Some holding) = kept-found writings set id holding.kept

-- the same by what is kept under the identifier
pub entry-found : (writings : Writings) (sets : Named Holding) (seen : Named TableSet) → viewed (table_in writings) sets ≡ seen → (set id : Name) (found : Option Kept) → found ≡ kept_under sets set id
    → option_map (λ kept. kept_entry kept (point_for writings set kept)) found ≡ kept_at seen set id
entry-found writings sets seen same set id found is =
    ap (option_map (λ kept. kept_entry kept (point_for writings set kept))) is ∙ sym (kept-seen writings sets set id) ∙ ap (λ all. kept_at all set id) same

module _ (writings : Writings) (line : Run) (facts : RunTableView) (sets : Named Holding) (desk : TablesModel) (seen : desk.sets ≡ viewed (table_in writings) sets) (found : run_of desk line.number ≡ Some (row_with line facts)) where
  abbrev now : Going Holding
  now = going line facts sets

  abbrev row : RunRow
  row = row_with line facts

  -- the data sets as the tables have them at the start of the step
  start-seen : (marks : List Mark) (own : OwnedStep) → viewed (table_in writings) (sets_at_start facts.job.root marks sets own)
      ≡ put_back marks (output_names facts.job.root own) (names_of facts.job.root own) (removed_all (made_names marks (names_of facts.job.root own)) desk.sets)
  start-seen marks own =
      back-seen writings marks (output_names facts.job.root own) (names_of facts.job.root own) (all_made_gone marks (names_of facts.job.root own) sets)
      ∙ ap (put_back marks (output_names facts.job.root own) (names_of facts.job.root own)) (gone-seen writings marks (names_of facts.job.root own) sets ∙ ap (removed_all (made_names marks (names_of facts.job.root own))) (sym seen))

  back-row : (own : OwnedStep) (step initiator : ℕ) (point : StartPoint) → point_at facts.points step ≡ Some point
      → after_put_back (record (row_on initiator row) { points = with_point (point_restarted point) facts.points; in_effect = None }) own (back_to_start row own step point) desk
      ≡ desk_with (going_viewed (table_in writings) (back_at_start initiator step now own point)) desk
  back-row own step initiator point at =
      let run = facts.job.root in
      let back = back_at_start initiator step now own point in
      ap (λ (all : Named TableSet). desk_with (going back.line back.facts all) desk)
      (ap (λ one. put_back point.marks (output_names run own) (names_of run own) (removed_all (option_map_or (λ (one : StartPoint). made_names one.marks (names_of run own)) one []) desk.sets)) at
      ∙ sym (start-seen point.marks own))

  pub start-row : (step initiator : ℕ) (there : Option OwnedStep)
      → option_map_or (λ own. after_step_restart row own step initiator desk) there desk
      ≡ desk_with (going_viewed (table_in writings) (option_map_or (step_restarted initiator step now) there now)) desk
  start-row step initiator None = unchanged-seen
    where
      unchanged-seen : desk ≡ desk_with (going_viewed (table_in writings) now) desk
      unchanged-seen = unchanged-in desk line facts found ∙ ap (λ all. desk_with (going line facts all) desk) seen
  start-row step initiator (Some own) = by (point_at facts.points step) refl
    where
      by : (point : Option StartPoint) → point_at facts.points step ≡ point
          → option_map_or (λ point. after_put_back (record (row_on initiator row) { points = with_point (point_restarted point) facts.points; in_effect = None }) own (back_to_start row own step point) desk) point desk
          ≡ desk_with (going_viewed (table_in writings) (option_map_or (back_at_start initiator step now own) point now)) desk
      by None at = unchanged-in desk line facts found ∙ ap (λ all. desk_with (going line facts all) desk) seen
      by (Some point) at = back-row own step initiator point at

  -- the data sets as the tables have them at a checkpoint
  entry-seen : (marks : List Mark) (own : OwnedStep) → viewed (table_in writings) (sets_at_entry facts.job.root marks sets own) ≡ put_back marks (output_names facts.job.root own) (names_of facts.job.root own) desk.sets
  entry-seen marks own =
      back-seen writings marks (output_names facts.job.root own) (names_of facts.job.root own) sets ∙ ap (put_back marks (output_names facts.job.root own) (names_of facts.job.root own)) (sym seen)

  entry-back : (own : OwnedStep) (step initiator : ℕ) (effect : EffectPoint) (point : EntryPoint)
      → after_put_back (record (row_on initiator row) { in_effect = Some (effect_restarted effect) }) own (back_to_entry row own step point) desk
      ≡ desk_with (going_viewed (table_in writings) (back_at_entry initiator step effect now own point)) desk
  entry-back own step initiator effect point =
      let back = back_at_entry initiator step effect now own point in
      ap (λ (all : Named TableSet). desk_with (going back.line back.facts all) desk) (sym (entry-seen point.marks own))

  unchanged : desk ≡ desk_with (going_viewed (table_in writings) now) desk
  unchanged = unchanged-in desk line facts found ∙ ap (λ all. desk_with (going line facts all) desk) seen

  -- the entry of the checkpoint in effect, as the tables have it
  pub kept-there : (set id : Name) → kept_at desk.sets set id ≡ option_map (λ kept. kept_entry kept (point_for writings set kept)) (kept_under sets set id)
  kept-there set id = ap (λ all. kept_at all set id) seen ∙ kept-seen writings sets set id

  effect-row : (own : OwnedStep) (step initiator : ℕ) (effect : EffectPoint) (kept : Option Kept)
      → option_map_or (λ (entry : KeptEntry). after_put_back (record (row_on initiator row) { in_effect = Some (effect_restarted effect) }) own (back_to_entry row own step entry.point) desk)
      (option_map (λ one. kept_entry one (point_for writings effect.set one)) kept) desk
      ≡ desk_with (going_viewed (table_in writings) (option_map_or (back_at_entry initiator step effect now own) (option_map (point_for writings effect.set) kept) now)) desk
  effect-row own step initiator effect None = unchanged
  effect-row own step initiator effect (Some kept) = entry-back own step initiator effect (point_for writings effect.set kept)

  entry-row : (step initiator : ℕ) (there : Option OwnedStep)
      → option_map_or (λ own. after_check_restart row own step initiator desk) there desk
      ≡ desk_with (going_viewed (table_in writings) (option_map_or (check_restarted writings initiator step now) there now)) desk
  entry-row step initiator None = unchanged
  entry-row step initiator (Some own) = by facts.in_effect
    where
      change : EffectPoint → Option KeptEntry → TablesModel
      change effect found = option_map_or (λ (entry : KeptEntry). after_put_back (record (row_on initiator row) { in_effect = Some (effect_restarted effect) }) own (back_to_entry row own step entry.point) desk) found desk

      by : (in_effect : Option EffectPoint)
          → option_map_or (λ (effect : EffectPoint). change effect (kept_at desk.sets effect.set effect.kept.id)) in_effect desk
          ≡ desk_with (going_viewed (table_in writings) (option_map_or (effect_restart writings initiator step now own) in_effect now)) desk
      by None = unchanged
      by (Some effect) = ap (change effect) (kept-there effect.set effect.kept.id) ∙ effect-row own step initiator effect (kept_under sets effect.set effect.kept.id)

  -- the tables behind a restart
  pub restarted-row : (initiator : ℕ) (checkpoint : Bool) → by_step (λ own step. after_restarted row own step initiator checkpoint desk) row desk ≡ desk_with (going_viewed (table_in writings) (restarted writings checkpoint initiator now)) desk
  restarted-row initiator true = let step = step_in (place_now facts) in entry-row step initiator (step_of now step)
  restarted-row initiator false = let step = step_in (place_now facts) in start-row step initiator (step_of now step)

-- what was passed on at the point to which a restart goes back, as the tables have it
pub passed-there : (writings : Writings) (line : Run) (facts : RunTableView) (sets : Named Holding) (checkpoint : Bool) → passed_back_at checkpoint (row_with line facts) (viewed (table_in writings) sets) ≡ passed_for checkpoint writings sets facts
passed-there writings line facts sets false = refl
passed-there writings line facts sets true = by facts.in_effect
  where
    at : (effect : EffectPoint) (found : Option Kept) → option_map (λ (entry : KeptEntry). entry.point.passed) (option_map (λ kept. kept_entry kept (point_for writings effect.set kept)) found) ≡ option_map (λ (point : EntryPoint). point.passed) (option_map (point_for writings effect.set) found)
    at effect None = refl
    at effect (Some kept) = refl

    by : (in_effect : Option EffectPoint) → option_and_then (λ (effect : EffectPoint). option_map (λ (entry : KeptEntry). entry.point.passed) (kept_at (viewed (table_in writings) sets) effect.set effect.kept.id)) in_effect ≡ passed_at_entry writings sets in_effect
    by None = refl
    by (Some effect) = ap (option_map (λ (entry : KeptEntry). entry.point.passed)) (kept-seen writings sets effect.set effect.kept.id) ∙ at effect (kept_under sets effect.set effect.kept.id)
