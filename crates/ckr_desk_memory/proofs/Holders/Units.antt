-- A unit of its work leaves a running step that of its run: it goes on in its program, its outputs grow, and what it updates stays as long.
use Rattle.std.proofs.Common.{◌≡◌, ℕ, Bool, true, false, cond, List, [], ◌∷◌, refl, ap, sym, ◌∙◌, subst, Option, Some, None, arith}
use Rattle.std.specs.Prelude.{find, option_and_then, slice_get}
use Rattle.std.specs.List.{AllByRecursion}
use Rattle.std.specs.Option.{option_map}
use Rattle.std.proofs.lemmas.Bool.{false≢true}
use Rattle.ckr_base.proofs.Bools.{bool-cases}
use Rattle.ckr_base.proofs.Options.{and_then-some, some-not-none}
use Rattle.ckr_base.specs.declared.programs.Heads.{Heads}
use Rattle.ckr_base.specs.declared.programs.Output.{Output}
use Rattle.ckr_base.specs.declared.programs.Output.TheVariants.{InPlace, Main, Rejects}
use Rattle.ckr_base.specs.declared.programs.Write.{Write}
use Rattle.ckr_entry.specs.declared.point.State.{State}
use Rattle.ckr_entry.specs.declared.point.State.TheVariants.{Matched, Plain}
use Rattle.ckr_jcl.specs.declared.deck.Dd.{Dd}
use Rattle.ckr_jcl.specs.Programs.{names_written}
use Rattle.ckr_uses.specs.SetNames.{library_name}
use Rattle.ckr_jcl.specs.declared.deck.Parm.{Parm}
use Rattle.ckr_library.proofs.Named.{at-with_changed, at-with_changed-other, name-same}
use Rattle.ckr_library.specs.Catalog.{Holding}
use Rattle.ckr_library.specs.NameMaps.{Name, Named, entry_at, same_name}
use Rattle.ckr_library.specs.declared.sets.DataSet.{DataSet}
use Rattle.ckr_match.specs.InputOrder.{Taken, chosen}
use Rattle.ckr_match.specs.Images.{keys_of}
use Rattle.ckr_match.specs.Steps as matched_steps
use Rattle.ckr_match.specs.declared.state.MatchState.{MatchState}
use Rattle.ckr_match.specs.declared.steps.RecordStep.{RecordStep}
use Rattle.ckr_meaning.specs.EffectiveJob.{OwnedStep, is_among}
use Rattle.ckr_meaning.specs.StepRun.{StepStart, main_names, rejects_dd}
use Rattle.ckr_points.specs.Follows.{is_update}
use Rattle.ckr_points.specs.Payload.{is_formed_step}
use Rattle.ckr_points.specs.Restart.{place_of, step_in}
use Rattle.ckr_points.specs.Rows.{TableSet, TablesModel, run_of}
use Rattle.ckr_points.specs.Tables.{is_updates, name_with_role}
use Rattle.ckr_points_invariant.proofs.Writes.Roles.{is_right, target-among}
use Rattle.ckr_points_invariant.proofs.Rewrite.Invariant.{update-is}
use Rattle.ckr_desk_plans.specs.Model.Commit.{output_names}
use Rattle.ckr_programs.specs.Steps as plain_steps
use Rattle.ckr_programs.specs.Records.{can_take}
use Rattle.ckr_programs.specs.declared.state.ProgState.{ProgState}
use Rattle.ckr_desk_plans.specs.Model.Files.{dd_in, dd_of_rejects, files_of, set_in}
use Rattle.ckr_desk_plans.specs.Model.StepUnit.{HasDone, behind_unit, done_for}
use Rattle.ckr_desk_plans.specs.Model.Units.{program_of, state_of}
use Rattle.ckr_desk_plans.specs.Model.Writes.{end_set, grown, grown_in, longer}
use Rattle.ckr_desk_plans.specs.StepTypes.Files.{Files}
use Rattle.ckr_desk_plans.specs.StepTypes.StepRun.{StepRun}
use Rattle.ckr_desk_plans.specs.StepTypes.Worked.{Worked}
use Rattle.ckr_desk_memory.proofs.Holders.Moves.{row-accepted}
use Rattle.ckr_desk_memory.proofs.Holders.Names.{step-formed}
use Rattle.ckr_desk_memory.proofs.Holders.Masters.{updated-not_output}
use Rattle.ckr_desk_memory.specs.Invariant.{IsAcceptedRow}
use Rattle.ckr_desk_memory.specs.View.{RunningStepView}
use Rattle.ckr_desk_turn.specs.Queue.{AreNumbered}
use Rattle.ckr_desk_memory.specs.OwnSets.{AreCopies, AreEven, IsRunningOf}

-- ---- the program

plain_stays : (parm : Parm) (state : ProgState) (head : Option (List ℕ)) → (plain_steps.state_of parm state head).kind ≡ state.kind
unfolding plain_steps.state_of
plain_stays parm state None = refl
plain_stays parm state (Some bytes) = by (can_take state.kind parm bytes) _ refl
  where
    by : (can : Bool) (n : ProgState) → n.kind ≡ state.kind → (cond can n state).kind ≡ state.kind
    by true n e = e
    by false n e = refl

counted_stays : (is second : Bool) (key : List ℕ) (step : RecordStep) (state : MatchState) → (cond is (matched_steps.counted second key step state) state).kind ≡ state.kind
counted_stays true true key step state = refl
counted_stays true false key step state = refl
counted_stays false second key step state = refl

matched_stays : (parm : Parm) (state : MatchState) (heads : Heads) → (matched_steps.state_of parm state heads).kind ≡ state.kind
unfolding matched_steps.state_of
matched_stays parm state heads = by (chosen (keys_of state.kind parm) heads.first heads.second)
  where
    by : (next : Option Taken) → (matched_steps.state_behind parm state next).kind ≡ state.kind
    by None = refl
    by (Some next) = counted_stays (matched_steps.is_next state next.second (matched_steps.key_at parm state next.second next.bytes)) next.second (matched_steps.key_at parm state next.second next.bytes) (matched_steps.step_of state.kind parm state next.second next.bytes) state

program_stays : (parm : Parm) (state : State) (heads : Heads) → program_of (state_of parm state heads) ≡ program_of state
unfolding state_of
program_stays parm (Plain state) heads = plain_stays parm state heads.first
program_stays parm (Matched state) heads = matched_stays parm state heads

-- ---- the data sets

abbrev own_set : Named Holding → Name → Option DataSet
own_set sets name = option_map (λ (h : Holding). h.set) (entry_at sets name)

copies_longer : (entry : Option TableSet) (b : Bool) (held : Option Holding) → AreCopies entry (option_map (λ (h : Holding). h.set) held) → AreCopies entry (option_map (λ (h : Holding). h.set) (cond b (option_map longer held) held))
copies_longer None b held are = absurd are
copies_longer (Some table) true None are = are
copies_longer (Some table) true (Some held) are = record { lrecl = are.lrecl; space = are.space; length = omega (arith, are.length) }
copies_longer (Some table) false held are = are

copies_grown-in : (entry : Option TableSet) (other : Option Name) (sets : Named Holding) (name : Name) → AreCopies entry (own_set sets name) → AreCopies entry (own_set (grown_in other sets) name)
copies_grown-in entry None sets name are = are
copies_grown-in entry (Some other) sets name are =
    subst (λ held. AreCopies entry (option_map (λ (h : Holding). h.set) held)) (sym (at-with_changed other name longer sets))
    (copies_longer entry (same_name name other) (entry_at sets name) are)

copies_grown : (entry : Option TableSet) (files : Files) (writes : List Write) (sets : Named Holding) (name : Name) → AreCopies entry (own_set sets name) → AreCopies entry (own_set (grown files writes sets) name)
copies_grown entry files [] sets name are = are
copies_grown entry files (write ∷ writes) sets name are =
    copies_grown entry files writes (grown_in (end_set files write.output) sets) name (copies_grown-in entry (end_set files write.output) sets name are)

-- the writes go to other data sets than this one
abbrev GoesElsewhere : Files → Name → Type 0
GoesElsewhere files name = (output : Output) (other : Name) → end_set files output ≡ Some other → same_name name other ≡ false

grown-in_other : (other : Option Name) (sets : Named Holding) (name : Name) → ((one : Name) → other ≡ Some one → same_name name one ≡ false) → entry_at (grown_in other sets) name ≡ entry_at sets name
grown-in_other None sets name apart = refl
grown-in_other (Some other) sets name apart = at-with_changed-other other name longer sets (apart other refl)

grown_other : (files : Files) (writes : List Write) (sets : Named Holding) (name : Name) → GoesElsewhere files name → entry_at (grown files writes sets) name ≡ entry_at sets name
grown_other files [] sets name apart = refl
grown_other files (write ∷ writes) sets name apart =
    grown_other files writes (grown_in (end_set files write.output) sets) name apart
    ∙ grown-in_other (end_set files write.output) sets name (apart write.output)

-- ---- UPDATE writes its rejects alone behind a last record

module _ (run : ℕ) (owned : OwnedStep) (formed : is_formed_step run owned ≡ true) (updates : is_update owned.step.program ≡ true) where
  abbrev the_start : StepStart
  the_start = record { root = run; owned = owned; number = 0; standing = record { sets = []; passed = [] }; earlier = [] }

  main_none : (files_of run owned.owner owned.step).main ≡ None
  unfolding files_of
  main_none = ap (λ program. set_in run owned.owner owned.step (option_and_then (dd_in owned.step) (slice_get (main_names program) 0))) (update-is owned.step.program updates)

  rejects_so : (other : Name) → (files_of run owned.owner owned.step).rejects ≡ Some other → is_among (output_names run owned) other ≡ true
  unfolding files_of
  rejects_so other e =
      let one = and_then-some (λ (dd : Dd). library_name dd run owned.owner owned.step.name) (dd_of_rejects owned.step) other e in
      target-among the_start Rejects other one.0 formed
      (ap (λ program. is_right program Rejects) (update-is owned.step.program updates)) refl
      (record {
        dd_name = rejects_dd;
        named = refl;
        found = sym (ap (λ program. option_and_then (dd_in owned.step) (find (same_name rejects_dd) (names_written program))) (update-is owned.step.program updates)) ∙ one.1;
        has = one.2;
      })

  updated-elsewhere : GoesElsewhere (files_of run owned.owner owned.step) (name_with_role run owned is_updates)
  updated-elsewhere Main other e = absurd (some-not-none other (sym e ∙ main_none))
  updated-elsewhere Rejects other e =
      bool-cases (same_name (name_with_role run owned is_updates) other)
      (λ same. absurd (false≢true (sym (updated-not_output run owned formed updates) ∙ ap (is_among (output_names run owned)) (name-same _ other same) ∙ rejects_so other e)))
      (λ apart. apart)
  updated-elsewhere (InPlace place) other e = absurd (some-not-none other (sym e))

-- ---- the unit

-- a unit was done, for whatever heads
pub running-unit : (tables : TablesModel) (old new : RunningStepView) (heads : Heads) (worked : Worked) → AllByRecursion IsAcceptedRow tables.runs → AreNumbered 1 tables.runs → new.run ≡ old.run → HasDone heads old.step new.step old.sets new.sets worked → IsRunningOf tables old → IsRunningOf tables new
unfolding behind_unit
running-unit tables old new heads worked rows numbered same done is = record {
  row = is.row;
  owned = is.owned;
  row_at = ap (run_of tables) same ∙ is.row_at;
  state = is.state;
  within = is.within;
  found = is.found;
  program = ap (λ (step : StepRun). program_of step.state) done.step ∙ program_stays old.step.parm old.step.state heads ∙ is.program;
  parm = ap (λ (step : StepRun). step.parm) done.step ∙ is.parm;
  files = ap (λ (step : StepRun). step.files) done.step ∙ is.files;
  changed = λ name among.
      subst (λ sets. AreCopies (entry_at tables.sets name) (own_set sets name)) (sym done.lengths)
      (copies_grown (entry_at tables.sets name) old.step.files (done_for old.sets old.step heads) old.sets.sets name (is.changed name among));
  updated = λ updates.
      subst (λ held. AreEven (entry_at tables.sets (updated updates)) (option_map (λ (h : Holding). h.set) held))
      (sym (ap (λ sets. entry_at sets (updated updates)) done.lengths ∙ grown_other old.step.files (done_for old.sets old.step heads) old.sets.sets (updated updates) (elsewhere updates)))
      (is.updated updates);
}
  where
    updated : is_update is.owned.step.program ≡ true → Name
    updated updates = name_with_role is.row.job.root is.owned is_updates

    accepted : IsAcceptedRow is.row
    accepted = row-accepted tables old.run is.row rows is.row_at

    elsewhere : (updates : is_update is.owned.step.program ≡ true) → GoesElsewhere old.step.files (name_with_role is.row.job.root is.owned is_updates)
    elsewhere updates =
        subst (λ files. GoesElsewhere files (name_with_role is.row.job.root is.owned is_updates)) (sym is.files)
        (updated-elsewhere is.row.job.root is.owned (step-formed is.row (step_in (place_of is.row)) is.owned accepted is.found) updates)
