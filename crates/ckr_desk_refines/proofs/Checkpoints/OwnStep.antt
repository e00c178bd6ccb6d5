-- The running step whose entry was written stands for that of the desk behind the event.
use Rattle.std.proofs.Common.{◌≡◌, ◌≤◌, ℕ, Bool, true, false, cond, List, refl, ap, sym, ◌∙◌, subst, Option, Some, None, arith}
use Rattle.std.specs.Option.{option_map, option_map_or}
use Rattle.std.proofs.lemmas.Option.{same_Some}
use Rattle.ckr_base.proofs.Bools.{bool-cases}
use Rattle.ckr_base.specs.declared.programs.NextDue.TheVariants.{Checkpoint}
use Rattle.ckr_library.specs.declared.sets.Content.TheVariants.{Plain, Checkpoints}
use Rattle.ckr_library.specs.declared.sets.DataSet.{DataSet}
use Rattle.ckr_library.specs.Catalog.{set_of, with_length}
use Rattle.ckr_library.specs.NameMaps.{Name, entry_at, same_name, with_changed}
use Rattle.ckr_library.proofs.Named.{name-same}
use Rattle.ckr_meaning.specs.EffectiveJob.{is_among, names_of}
use Rattle.ckr_meaning.specs.LibrarySet.{LibrarySet}
use Rattle.ckr_meaning.specs.Program.{OutputRoom}
use Rattle.ckr_meaning.specs.StepRun.{StepStart, made_at, within_at}
use Rattle.ckr_points_library.specs.Commit.{output_names}
use Rattle.ckr_points.specs.Office.{Office}
use Rattle.ckr_points.specs.Payload.{length_now}
use Rattle.ckr_points.specs.Rows.{TableSet, run_of}
use Rattle.ckr_points_invariant.proofs.Holders.Places.{outputs-among}
use Rattle.ckr_base.proofs.Options.{some-not-none}
use Rattle.ckr_steps.proofs.Served.{checkpoint-served}
use Rattle.ckr_steps.proofs.Start.{served_stands}
use Rattle.ckr_steps.specs.declared.files.Files.{Files}
use Rattle.ckr_steps.specs.declared.step_run.StepRun.{StepRun}
use Rattle.ckr_steps.specs.Places.{IsPlain, IsStepPlace, ShowsWithin}
use Rattle.ckr_steps.specs.Units.{AreServed, due_of, is_cancelled, served_of}
use Rattle.ckr_steps.specs.Writes.{IsShown, room_at, room_of, room_of_set}
use Rattle.ckr_uses.specs.Uses.{are_distinct}
use Rattle.ckr_desk_memory.specs.View.{RunningStepView}
use Rattle.ckr_desk_turn.proofs.Checkpoints.Events.{check-among, check-dd}
use Rattle.ckr_desk_turn.specs.Checkpoints.{check_set, checkpoint_fits, is_check_set}
use Rattle.ckr_desk_turn.specs.Desk.{DeskModel, DeskStep, checkpoint_done}
use Rattle.ckr_desk_turn.specs.Invariant.{IsDesk, IsGoing}
use Rattle.ckr_desk_refines.specs.SharedSets.{LieStill, LiesStill}
use Rattle.ckr_desk_refines.specs.Standing.{StandsForStep}
use Rattle.ckr_desk_refines.specs.StepSets.{HasSets, LiesThere}
use Rattle.ckr_desk_refines.proofs.Checkpoints.Office.{HasLength, end, lengths-then, lie-still, office_then, row-then}
use Rattle.ckr_desk_refines.proofs.Checkpoints.OwnSets.{IsBehind, now-of, other-of, was-of}
use Rattle.ckr_desk_refines.proofs.Checkpoints.Progress.{own-length}
use Rattle.ckr_desk_refines.proofs.Standing.Lengths.{in-sets}
use Rattle.ckr_desk_refines.proofs.Standing.Served.{checkpoint-once}
use Rattle.ckr_desk_refines.proofs.Units.Contents.{content_at, made-content, within-content}
use Rattle.ckr_desk_refines.proofs.Units.OtherSteps.{same-start}
use Rattle.ckr_desk_refines.proofs.Entries.Checkpoint.{plain-checks}

module _ (desk : DeskModel) (is : IsDesk desk) (image : List ℕ) (on moved : RunningStepView) (step : DeskStep) (going : IsGoing desk.office step) (stands : StandsForStep desk.layout desk.office image on step)
    (uncoded : step.code ≡ None) (unclosed : step.progress.closed ≡ false) (fits : checkpoint_fits desk.office.tables.sets going.row going.start step.progress ≡ true) (due : due_of on.step.parm on.step.state ≡ Checkpoint)
    (check : Name) (check_is : check_set going.start ≡ Some check) (its : TableSet) (its_at : entry_at desk.office.tables.sets check ≡ Some its) (its_content : its.set.content ≡ Checkpoints)
    (same_run : moved.run ≡ on.run) (same_code : moved.code ≡ on.code) (counted : Bool) (entered_step : moved.step ≡ record on.step { state = served_of on.step.parm counted on.step.state })
    (entered : moved.sets.sets ≡ with_changed check (with_length (end desk is step going uncoded unclosed fits)) on.sets.sets) where
  abbrev most : ℕ
  most = end desk is step going uncoded unclosed fits

  abbrev later : Office
  later = office_then desk is step going uncoded unclosed fits

  none : on.code ≡ None
  none = stands.code ∙ uncoded

  starts_same : going.start ≡ stands.start
  starts_same = same-start desk.layout desk.office image on step going stands

  abbrev names : List Name
  names = names_of stands.start.root stands.start.owned

  named-going : (name : Name) → is_among names name ≡ true → is_among (names_of going.start.root going.start.owned) name ≡ true
  named-going name among = ap (λ (s : StepStart). is_among (names_of s.root s.owned) name) starts_same ∙ among

  was : (name : Name) (set : DataSet) → set_of moved.sets name ≡ Some set → (old : DataSet) × (set_of on.sets name ≡ Some old) × IsBehind check most name old set
  was = was-of check most on.sets moved.sets entered

  lie : LieStill desk.office.tables.sets later.tables.sets
  lie = lie-still desk is step going uncoded unclosed fits

  length-of : (name : Name) (table : TableSet) → entry_at later.tables.sets name ≡ Some table → HasLength desk is step going uncoded unclosed fits name table
  length-of =
      lengths-then desk is step going uncoded unclosed fits
      (ap (λ (s : StepStart). are_distinct (names_of s.root s.owned)) starts_same ∙ (stands.stands none).may.distinct)

  -- ---- the data set for checkpoints

  is-check : (name : Name) → is_check_set going.start name ≡ same_name name check
  is-check name = ap (λ (o : Option Name). option_map_or (same_name name) o false) check_is

  check_output : is_among (output_names going.start.root going.start.owned) check ≡ true
  check_output = check-among going.start check (check-dd going.start check check_is)

  -- it ends with the entry, in memory and in the tables
  both-end : (name : Name) (table : TableSet) (old set : DataSet) → same_name name check ≡ true → entry_at later.tables.sets name ≡ Some table → set_of on.sets name ≡ Some old → IsBehind check most name old set → table.set.length ≡ set.length
  both-end name table old set one at mine behind =
      let name_is : name ≡ check = name-same name check one in
      (length-of name table at).output (ap (is_among (output_names going.start.root going.start.owned)) name_is ∙ check_output)
      ∙ ap (λ b. cond b most (length_now (within_at going.start step.progress.writes) desk.office.tables.sets name)) (is-check name ∙ one)
      ∙ sym (behind.ends one)

  -- another one has in the tables the length that it has in memory, or it is no output and has the length that it had
  other-end : (name : Name) (table before : TableSet) (old : DataSet) → same_name name check ≡ false → entry_at later.tables.sets name ≡ Some table → entry_at desk.office.tables.sets name ≡ Some before → set_of on.sets name ≡ Some old
      → (is_among (output_names going.start.root going.start.owned) name ≡ true → table.set.length ≡ old.length) × (is_among (output_names going.start.root going.start.owned) name ≡ false → table.set.length ≡ before.set.length)
  other-end name table before old apart at at_first mine = (
    (λ among.
        (length-of name table at).output among
        ∙ ap (λ b. cond b most (length_now (within_at going.start step.progress.writes) desk.office.tables.sets name)) (is-check name ∙ apart)
        ∙ sym (own-length desk is image on step going stands name among) ∙ in-sets on.sets name old mine),
    (λ out. (length-of name table at).other out before at_first),
  )

  -- ---- its data sets are those of the tables

  lies : (name : Name) (table before : TableSet) (old set : DataSet) → entry_at later.tables.sets name ≡ Some table → entry_at desk.office.tables.sets name ≡ Some before → set_of on.sets name ≡ Some old → LiesThere before old → LiesStill before table → IsBehind check most name old set → LiesThere table set
  lies name table before old set at at_first mine there still behind = record {
    places = record { parts = behind.places.parts ∙ there.places.parts ∙ sym still.places.parts; lrecl = behind.places.lrecl ∙ there.places.lrecl ∙ sym still.places.lrecl };
    space = behind.space ∙ there.space ∙ sym still.space;
    longer =
        bool-cases (same_name name check)
        (λ one. let e : table.set.length ≡ set.length = both-end name table old set one at mine behind in omega (arith, e))
        (λ apart.
        let ends = other-end name table before old apart at at_first mine in
        let set_is : set.length ≡ old.length = ap (λ (s : DataSet). s.length) (behind.same apart) in
        let was_longer : before.set.length ≤ old.length = there.longer in
        bool-cases (is_among (output_names going.start.root going.start.owned) name)
        (λ among. let e : table.set.length ≡ old.length = ends.0 among in omega (arith, e, set_is))
        (λ out. let e : table.set.length ≡ before.set.length = ends.1 out in omega (arith, e, set_is, was_longer)));
  }

  own-from : (name : Name) (set : DataSet) → set_of moved.sets name ≡ Some set → (table : TableSet) × (entry_at later.tables.sets name ≡ Some table) × LiesThere table set
  own-from name set e =
      let old = was name set e in
      let from = stands.sets.from name old.0 old.1 in
      let now = lie.each name from.0 from.1 in
      (now.0, now.1, lies name now.0 from.0 old.0 set now.1 from.1 old.1 from.2 now.2 old.2)

  own-sets : HasSets later.tables.sets names moved.sets
  own-sets = record {
    from = own-from;
    each = λ name table among e.
        let from = lie.from name table e in
        let mine = stands.sets.each name from.0 among from.1 in
        let now = now-of check most on.sets moved.sets entered name mine.0 mine.1 in
        let there = own-from name now.0 now.1 in
        (now.0, now.1, subst (λ (t : TableSet). LiesThere t now.0) (same_Some there.0 table (sym there.1 ∙ e)) there.2);
  }

  -- ---- what it shows, and its space

  -- a plain data set isn't that for checkpoints
  plain-apart : (name : Name) → content_at (made_at stands.start) name ≡ Some Plain → same_name name check ≡ false
  plain-apart name plain =
      bool-cases (same_name name check)
      (λ one.
      let made : content_at (made_at stands.start) check ≡ Some its.set.content =
      subst (λ (s : StepStart). content_at (made_at s) check ≡ Some its.set.content) starts_same
      (made-content desk is step going check its (outputs-among going.start.root going.start.owned check check_output) its_at) in
      absurd (plain-checks (same_Some Plain Checkpoints (sym plain ∙ ap (content_at (made_at stands.start)) (name-same name check one) ∙ made ∙ ap Some its_content))))
      (λ apart. apart)

  shown-plain : (name : Name) (model : LibrarySet) → entry_at (within_at stands.start step.progress.writes) name ≡ Some model → model.content ≡ Plain → content_at (made_at stands.start) name ≡ Some Plain
  shown-plain name model e plain =
      sym (within-content stands.start step.progress.writes name) ∙ ap (option_map (λ (set : LibrarySet). set.content)) e ∙ ap Some plain

  own-shows : ShowsWithin (Unit {0}) image desk.layout stands.start step.progress.writes moved.sets
  own-shows name model among e plain =
      let shown : IsShown (Unit {0}) image desk.layout model on.sets name = stands.shows name model among e plain in
      record { set = shown.set; is = other-of check most on.sets moved.sets entered name (plain-apart name (shown-plain name model e plain)) ∙ shown.is; shows = shown.shows }

  file-room : (file : Option Name) → IsPlain (made_at stands.start) file → room_at moved.sets file ≡ room_at on.sets file
  file-room None plain = refl
  file-room (Some name) plain =
      ap (λ (o : Option DataSet). option_map_or room_of_set o 0)
      (other-of check most on.sets moved.sets entered name (plain-apart name (ap (option_map (λ (set : LibrarySet). set.content)) plain.1 ∙ ap Some plain.2)))

  own-room : room_of moved.sets on.step.files ≡ room_of on.sets on.step.files
  unfolding room_of
  own-room =
      ap (λ n. let r : OutputRoom = record { main = n; rejects = room_at moved.sets on.step.files.rejects } in r)
      (file-room on.step.files.main (subst (λ (f : Files). IsPlain (made_at stands.start) f.main) (sym (stands.stands none).files) (stands.stands none).may.main))
      ∙ ap (λ n. let r : OutputRoom = record { main = room_at on.sets on.step.files.main; rejects = n } in r)
      (file-room on.step.files.rejects (subst (λ (f : Files). IsPlain (made_at stands.start) f.rejects) (sym (stands.stands none).files) (stands.stands none).may.rejects))

  own-place : IsStepPlace stands.start step.progress.taken step.progress.closed moved.step moved.sets
  own-place =
      subst (λ (s : StepRun). IsStepPlace stands.start step.progress.taken step.progress.closed s moved.sets) (sym entered_step)
      (let so = served_stands stands.start step.progress.taken step.progress.closed counted on.step on.sets (stands.stands none) in
      record {
        may = so.may;
        parm = so.parm;
        files = so.files;
        state = so.state;
        open_or_closed = so.open_or_closed;
        writes = so.writes;
        room = so.room ∙ ap Some (sym own-room);
        finish = so.finish;
      })

  own-served : AreServed true step.progress.cancelled moved.step.state
  own-served =
      let served : AreServed true (is_cancelled on.step.state) (served_of on.step.parm counted on.step.state) = checkpoint-served on.step.parm counted on.step.state due in
      subst (λ (s : StepRun). AreServed true step.progress.cancelled s.state) (sym entered_step) (record { checkpoint = served.checkpoint; cancel = served.cancel ∙ (stands.served none).cancel })

  own-checked : (name : Name) (table : TableSet) (set : DataSet) → entry_at later.tables.sets name ≡ Some table → set_of moved.sets name ≡ Some set → table.set.content ≡ Checkpoints → set.length ≡ table.set.length
  own-checked name table set at e content =
      let old = was name set e in
      let from = lie.from name table at in
      let before : old.0.length ≡ from.0.set.length = stands.checked name from.0 old.0 from.1 old.1 (sym from.2.content ∙ content) in
      bool-cases (same_name name check)
      (λ one. sym (both-end name table old.0 set one at old.1 old.2))
      (λ apart.
      let ends = other-end name table from.0 old.0 apart at from.1 old.1 in
      ap (λ (s : DataSet). s.length) (old.2.same apart)
      ∙ bool-cases (is_among (output_names going.start.root going.start.owned) name) (λ among. sym (ends.0 among)) (λ out. before ∙ sym (ends.1 out)))

  -- ---- it stands

  pub own-stands : (number : ℕ) → number ≡ step.run → StandsForStep desk.layout later image moved (record { run = number; progress = checkpoint_done step.progress; code = None })
  own-stands number same =
      let next = row-then desk is step going uncoded unclosed fits in
      record {
        row = next.0;
        row_at = ap (run_of later.tables) same ∙ next.1;
        start = stands.start;
        start_at = next.2 ∙ ap Some starts_same;
        run = same_run ∙ stands.run ∙ sym same;
        code = same_code ∙ none;
        stands = λ _. own-place;
        served = λ _. own-served;
        ordered = λ _ again. absurd (checkpoint-once stands.start step.progress again);
        writes = ap (λ (s : StepRun). s.writes) entered_step ∙ stands.writes;
        stopped = λ code some. absurd (some-not-none code (sym some ∙ same_code ∙ none));
        sets = own-sets;
        named = λ name set e. let old = was name set e in stands.named name old.0 old.1;
        shows = own-shows;
        checked = own-checked;
      }
