-- The step of a rewrite, behind its event and its record.
use Rattle.std.proofs.Common.{◌≡◌, inl, ℕ, Bool, true, false, cond, List, [], length, refl, ap, sym, ◌∙◌, subst, Option, None, Some}
use Rattle.std.specs.Prelude.{slice_get}
use Rattle.std.specs.Option.{option_map, option_map_or}
use Rattle.std.proofs.lemmas.List.{length-set}
use Rattle.std.proofs.lemmas.Option.{same_Some}
use Rattle.ckr_points_library.specs.Commit.{output_names}
use Rattle.ckr_base.specs.declared.programs.Output.TheVariants.{InPlace}
use Rattle.ckr_base.specs.Columns.{fitted}
use Rattle.ckr_base.proofs.Options.{some-not-none}
use Rattle.ckr_desk_memory.specs.View.{RunningStepView, lengths_in}
use Rattle.ckr_desk_turn.specs.Invariant.{IsDesk}
use Rattle.ckr_desk_turn.proofs.RunningSteps.{map-same}
use Rattle.ckr_desk_refines.specs.SharedSets.{LieStill}
use Rattle.ckr_desk_refines.specs.StepSets.{HasSets}
use Rattle.ckr_library.specs.declared.sets.Content.TheVariants.{Plain, Checkpoints}
use Rattle.ckr_library.specs.declared.sets.DataSet.{DataSet}
use Rattle.ckr_library.specs.Catalog.{Catalog, set_of}
use Rattle.ckr_library.specs.NameMaps.{Name, entry_at, same_name, with_changed}
use Rattle.ckr_library.proofs.Named.{at-with_changed}
use Rattle.ckr_meaning.specs.EffectiveJob.{Effective, OwnedStep, is_among, names_of}
use Rattle.ckr_meaning.specs.LibrarySet.{Library, LibrarySet}
use Rattle.ckr_meaning.specs.States.{first_of}
use Rattle.ckr_meaning.specs.StepRun.{StepStart, input_names, made_at, output_name, rewritten, set_records, within_at}
use Rattle.ckr_points.specs.Tables.{is_updates, name_with_role}
use Rattle.ckr_points.specs.Follows.{is_update}
use Rattle.ckr_points.specs.Payload.{length_by, length_now, lengths_at, records_under, writes_in}
use Rattle.ckr_points.specs.Restart.{place_of}
use Rattle.ckr_points.specs.Rows.{TableSet, run_of}
use Rattle.ckr_points_invariant.specs.Invariant.{step_now}
use Rattle.ckr_points_invariant.specs.RunningSteps.{its_start}
use Rattle.ckr_points_invariant.proofs.Steps.Commits.{formed_step, place_so}
use Rattle.ckr_points_invariant.proofs.Rewrite.Invariant.{updated-name}
use Rattle.ckr_points_invariant.proofs.Writes.Roles.{target, target-named}
use Rattle.ckr_desk_refines.specs.Moves.{HasSameRecords, IsWritten}
use Rattle.ckr_desk_refines.specs.Standing.{StandsForStep}
use Rattle.ckr_desk_refines.proofs.Standing.Lengths.{lengths-so}
use Rattle.ckr_steps.specs.Inputs.{AreStored}
use Rattle.ckr_steps.specs.Files.{files_of, set_of_source}
use Rattle.ckr_steps.specs.Places.{IsPlain, IsToRewrite, ShowsWithin, IsStepPlace}
use Rattle.ckr_steps.specs.Writes.{IsShown, Shows}
use Rattle.ckr_steps.proofs.UnitProgress.{so_far_written}
use Rattle.ckr_steps.proofs.NextHeads.{first_main, first_rejects, keeps_input, set_found, source_named}
use Rattle.ckr_steps.proofs.Inputs.{IsKept}
use Rattle.ckr_steps.proofs.Rewrites.{rewritten_shows}
use Rattle.ckr_desk_turn.specs.Desk.{DeskModel, DeskStep, jobs_of}
use Rattle.ckr_desk_turn.specs.Units.{arrived, updated_lrecl}
use Rattle.ckr_volumes.specs.declared.layout.Layout.{Layout}
use Rattle.ckr_volumes.specs.Records.{records_on}
use Rattle.ckr_desk_refines.proofs.Rewrites.Office.{behind, next-at, own-sets, own-table}
use Rattle.ckr_desk_refines.proofs.Rewrites.Legs.{IsLedStep, are-stored}
use Rattle.ckr_desk_refines.proofs.Rewrites.Unit.{goes-to, one-more}

-- what an image shows another one shows with the same records
pub shown-again : (layout : Layout) (names : List Name) (model : Library) (sets : Catalog) (old new : List ℕ)
    → ((name : Name) (set : DataSet) → set_of sets name ≡ Some set → records_on new layout set set.length ≡ records_on old layout set set.length) → Shows (Unit {0}) old layout names model sets → Shows (Unit {0}) new layout names model sets
shown-again layout names model sets old new same shows name set among is plain =
    let shown : IsShown (Unit {0}) old layout set sets name = shows name set among is plain in
    record {
      set = shown.set;
      is = shown.is;
      shows = record {
        lrecl = shown.shows.lrecl;
        space = shown.shows.space;
        length = shown.shows.length;
        records = λ is_told. same name shown.set shown.is ∙ shown.shows.records is_told;
      };
    }

records_of : Option LibrarySet → ℕ
records_of set = length (option_map_or set_records set [])

same_long : (owner step place : ℕ) (image : List ℕ) (b : Bool) (entry : Option LibrarySet) → records_of (cond b (option_map (rewritten owner step place image) entry) entry) ≡ records_of entry
unfolding records_of
same_long owner step place image true None = refl
same_long owner step place image true (Some set) = length-set set.records place (fitted set.lrecl image)
same_long owner step place image false entry = refl

changed_long : (to name : Name) (owner step place : ℕ) (image : List ℕ) (library : Library) → length (records_under (with_changed to (rewritten owner step place image) library) name) ≡ length (records_under library name)
unfolding records_of
changed_long to name owner step place image library =
    ap (λ (o : Option LibrarySet). length (option_map_or set_records o [])) (at-with_changed to name (rewritten owner step place image) library)
    ∙ same_long owner step place image (same_name name to) (entry_at library name)

module _ (desk : DeskModel) (is : IsDesk desk) (before : List ℕ) (on : RunningStepView) (step : DeskStep) (led : IsLedStep desk before on step)
    (after : List ℕ) (moved : RunningStepView) (taken place : ℕ) (bytes : List ℕ)
    (rewrite : IsToRewrite (Unit {0}) after desk.layout (its_start led.leg led.owned (step_now led.row)) step.progress.taken taken place bytes on.step moved.step moved.sets)
    (same : (name : Name) → set_of moved.sets name ≡ set_of on.sets name)
    (stood : IsStepPlace (its_start led.leg led.owned (step_now led.row)) step.progress.taken false on.step on.sets) where
  abbrev start : StepStart
  start = its_start led.leg led.owned (step_now led.row)

  abbrev from : ℕ
  from = writes_in (place_of led.row)

  pub goes-in-place : output_name start (InPlace place) ≡ Some rewrite.name
  goes-in-place = ap (output_name start) (sym rewrite.goes) ∙ goes-to (Unit {0}) after desk.layout start step.progress.taken taken place bytes on.step moved.step moved.sets rewrite

  -- what is updated is among the names of the step
  pub updated-among : is_among (names_of led.leg.job.root led.owned) rewrite.name ≡ true
  updated-among = let t = target start (InPlace place) rewrite.name goes-in-place in target-named start (InPlace place) rewrite.name t.0 t.1

  pub same-job : led.leg.job ≡ led.row.job
  same-job = (place_so desk.layout desk.office step.run led.row led.leg led.owned (step_now led.row) from is.kept.events led.running).job

  pub updates : is_update led.owned.step.program ≡ true
  updates = ap is_update rewrite.program

  -- it is what the row's step updates
  pub updated-is : rewrite.name ≡ name_with_role led.row.job.root led.owned is_updates
  updated-is =
      same_Some rewrite.name (name_with_role led.leg.job.root led.owned is_updates)
      (sym goes-in-place ∙ updated-name start place (formed_step desk.layout desk.office step.run led.row led.leg led.owned (step_now led.row) from is.kept.events led.running) updates)
      ∙ ap (λ (job : Effective). name_with_role job.root led.owned is_updates) same-job

  -- ---- the data sets in memory

  pub sets-there : HasSets desk.office.tables.sets (names_of led.leg.job.root led.owned) moved.sets
  sets-there = record {
    from = λ name set e. led.sets.from name set (sym (same name) ∙ e);
    each = λ name table among e. let its = led.sets.each name table among e in (its.0, same name ∙ its.1, its.2);
  }

  pub stored : AreStored desk.layout moved.sets
  stored = record {
    stands = λ name set e. (are-stored desk is before on step led).stands name set (sym (same name) ∙ e);
    apart = λ one other first second apart e f. (are-stored desk is before on step led).apart one other first second apart (sym (same one) ∙ e) (sym (same other) ∙ f);
  }

  -- the updated one holds records of programs
  pub updated-plain : rewrite.rewritten.content ≡ Plain
  unfolding files_of
  updated-plain =
      let named = source_named start 0 rewrite.name rewrite.updates in
      let plain : IsPlain (made_at start) (Some rewrite.name) = subst (λ s. IsPlain (made_at start) (set_of_source s)) rewrite.updates stood.may.first in
      let kept : IsKept (within_at start on.step.writes) (first_of on.step.state) rewrite.name plain.0 =
      keeps_input start stood.may on.step.state step.progress.taken stood.state (within_at start on.step.writes) (so_far_written start step.progress.taken on.step on.sets stood) 0 (first_of on.step.state)
      (first_main start.owned.step.program) (first_rejects start.owned.step.program) (λ place less. inl less) rewrite.name plain.0
      (set_found start (slice_get (input_names start.owned.step.program) 0) named.dd rewrite.name named.found named.named) plain.1 in
      ap (λ (set : LibrarySet). set.content) (same_Some rewrite.rewritten kept.set (sym rewrite.stood ∙ kept.is)) ∙ kept.kept.content ∙ plain.2

  pub updated-shown : IsShown (Unit {0}) after desk.layout rewrite.rewritten moved.sets rewrite.name
  updated-shown = rewrite.shows rewrite.name rewrite.rewritten updated-among rewrite.stood updated-plain

  -- and has the record length of its records
  pub lrecl-so : updated_lrecl (jobs_of desk) led.row ≡ rewrite.rewritten.lrecl
  lrecl-so =
      let shown : IsShown (Unit {0}) after desk.layout rewrite.rewritten moved.sets rewrite.name = updated-shown in
      let its = sets-there.from rewrite.name shown.set shown.is in
      ap (λ (o : Option OwnedStep). option_map_or (λ owned. option_map_or (λ (table : TableSet). table.set.lrecl) (entry_at desk.office.tables.sets (name_with_role led.row.job.root owned is_updates)) 0) o 0) led.running.found
      ∙ ap (λ name. option_map_or (λ (table : TableSet). table.set.lrecl) (entry_at desk.office.tables.sets name) 0) (sym updated-is)
      ∙ ap (λ (o : Option TableSet). option_map_or (λ (table : TableSet). table.set.lrecl) o 0) its.1
      ∙ sym its.2.places.lrecl
      ∙ shown.shows.lrecl

  -- ---- the lengths

  pub lengths-are : lengths_at start desk.office.tables.sets moved.step.writes ≡ lengths_in moved.sets.sets led.row.job.root led.owned
  lengths-are =
      map-same (length_now (within_at start moved.step.writes) desk.office.tables.sets) (length_now (within_at start step.progress.writes) desk.office.tables.sets) (output_names led.leg.job.root led.owned)
      (λ name among. ap (λ n. option_map_or (λ (table : TableSet). length_by table.set.content table n) (entry_at desk.office.tables.sets name) 0) (long name))
      ∙ sym (lengths-so desk.layout desk.office step.run led.row led.leg led.owned (step_now led.row) from step.progress.writes is.kept.events led.running led.spaced led.behind led.fit led.plain after moved.sets sets-there
      (subst (λ n. ShowsWithin (Unit {0}) after desk.layout start n moved.sets) led.writes rewrite.shows)
      (λ name table set e own. led.checked name table set e (sym (same name) ∙ own)))
      ∙ ap (λ (o : Option OwnedStep). option_map_or (lengths_in moved.sets.sets led.row.job.root) o []) led.running.found
    where
      long : (name : Name) → length (records_under (within_at start moved.step.writes) name) ≡ length (records_under (within_at start step.progress.writes) name)
      long name =
          ap (λ library. length (records_under library name)) (one-more (Unit {0}) after desk.layout start step.progress.taken taken place bytes on.step moved.step moved.sets rewrite)
          ∙ changed_long rewrite.name name led.owned.owner (step_now led.row) place rewrite.write.image (within_at start on.step.writes)
          ∙ ap (λ n. length (records_under (within_at start n) name)) led.writes

  -- ---- behind the event

  -- the rewrite by an image with the same records
  abbrev pub told-so : (told : List ℕ) → HasSameRecords desk.layout after told → IsToRewrite (Unit {0}) told desk.layout start step.progress.taken taken place bytes on.step moved.step moved.sets
  told-so told keeps = record {
    stands = rewrite.stands;
    served = rewrite.served;
    program = rewrite.program;
    rewritten = rewrite.rewritten;
    name = rewrite.name;
    updates = rewrite.updates;
    stood = rewrite.stood;
    below = rewrite.below;
    write = rewrite.write;
    goes = rewrite.goes;
    fits = rewrite.fits;
    more = rewrite.more;
    counted = rewrite.counted;
    shows =
        shown-again desk.layout (names_of led.leg.job.root led.owned) (within_at start on.step.writes) moved.sets after told
        (λ name set e. keeps set set.length (stored.stands name set e) (stored.stands name set e).length_fits) rewrite.shows;
  }

  -- once the record is written, the image shows it
  pub shows-rewrite : (told written : List ℕ) → HasSameRecords desk.layout after told → (set : DataSet) → set_of moved.sets rewrite.name ≡ Some set → IsWritten desk.layout set place bytes told written
      → ShowsWithin (Unit {0}) written desk.layout start moved.step.writes moved.sets
  shows-rewrite told written keeps set found wrote =
      rewritten_shows (Unit {0}) told written desk.layout start step.progress.taken taken place bytes on.step moved.step moved.sets (told-so told keeps) stored set found
      (λ is_told n le. wrote.written n le) (λ is_told other stands apart n le. wrote.others other stands apart n le)

  abbrev moved_on : DeskStep
  moved_on = record { run = led.row.number; progress = arrived taken moved.step.writes; code = None }

  -- the step stands
  pub own-stands : LieStill desk.office.tables.sets (behind desk before on step led moved.step.writes moved.sets same).tables.sets → (told written : List ℕ) → HasSameRecords desk.layout after told → (set : DataSet) → set_of moved.sets rewrite.name ≡ Some set
      → IsWritten desk.layout set place bytes told written → moved.run ≡ on.run → moved.code ≡ None → StandsForStep desk.layout (behind desk before on step led moved.step.writes moved.sets same) written moved moved_on
  own-stands still told written keeps set found wrote run none = record {
    row = _;
    row_at = ap (λ n. run_of (behind desk before on step led moved.step.writes moved.sets same).tables n) led.numbered ∙ next-at desk before on step led moved.step.writes moved.sets same;
    start = start;
    start_at = led.starts;
    run = run ∙ led.run ∙ sym led.numbered;
    code = none;
    stands = λ _. rewrite.stands;
    served = λ _. rewrite.served;
    ordered = λ _ due. refl;
    writes = refl;
    stopped = λ code some. absurd (some-not-none code (sym some ∙ none));
    sets = own-sets desk before on step led moved.step.writes moved.sets same still;
    named = λ name set e. led.named name set (sym (same name) ∙ e);
    shows = shows-rewrite told written keeps set found wrote;
    checked = λ name table set e own checks.
        let its = own-table desk before on step led moved.step.writes moved.sets same name set own in
        subst (λ (t : TableSet). t.set.content ≡ Checkpoints → set.length ≡ t.set.length) (same_Some its.0 table (sym its.1 ∙ e)) its.2.checked checks;
  }
