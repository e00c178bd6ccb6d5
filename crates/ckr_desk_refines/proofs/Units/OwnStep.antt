-- A running step behind its unit: its data sets in memory are those of the tables still.
use Rattle.std.proofs.Common.{◌≡◌, ◌≤◌, ◌&&◌, ℕ, Bool, true, false, List, refl, ap, sym, ◌∙◌, subst, Option, Some, None, arith}
use Rattle.std.specs.Option.{option_map}
use Rattle.std.proofs.lemmas.Bool.{false≢true}
use Rattle.std.proofs.lemmas.Option.{same_Some}
use Rattle.ckr_base.proofs.Options.{some-not-none}
use Rattle.ckr_desk_memory.specs.View.{RunningStepView}
use Rattle.ckr_base.specs.declared.programs.NextDue.TheVariants.{Checkpoint}
use Rattle.ckr_desk_turn.specs.Due.{next_due}
use Rattle.ckr_desk_refines.proofs.Standing.Served.{is_checkpoint_due}
use Rattle.ckr_desk_turn.specs.Invariant.{IsDesk, IsGoing}
use Rattle.ckr_desk_refines.specs.StepSets.{HasSets, LiesThere}
use Rattle.ckr_library.specs.Catalog.{set_of}
use Rattle.ckr_library.specs.declared.sets.Content.{Content}
use Rattle.ckr_library.specs.declared.sets.Content.TheVariants.{Plain, Checkpoints}
use Rattle.ckr_library.specs.declared.sets.DataSet.{DataSet}
use Rattle.ckr_library.specs.NameMaps.{Name, entry_at}
use Rattle.ckr_meaning.specs.EffectiveJob.{is_among, names_of}
use Rattle.ckr_meaning.specs.LibrarySet.{LibrarySet}
use Rattle.ckr_meaning.specs.StepRun.{StepStart, made_at}
use Rattle.ckr_points.specs.Rows.{TableSet}
use Rattle.ckr_desk_refines.specs.Standing.{StandsForStep}
use Rattle.ckr_steps.specs.declared.files.Files.{Files}
use Rattle.ckr_steps.specs.declared.step_run.Worked.{Worked}
use Rattle.ckr_steps.specs.Places.{GoesTo, IsPlain}
use Rattle.ckr_steps.specs.StepUnit.{HasWorked, done_for}
use Rattle.ckr_steps.specs.Units.{is_cancelled}
use Rattle.ckr_desk_turn.specs.Desk.{DeskModel, DeskStep}
use Rattle.ckr_desk_refines.proofs.Units.Contents.{content_at, made-content}
use Rattle.ckr_desk_refines.proofs.Units.Lengths.{IsLengthened, lengthened-from, lengthened-to}
use Rattle.ckr_desk_refines.proofs.Units.OtherSteps.{named-so, same-start}
use Rattle.ckr_desk_refines.proofs.Units.Outcomes.{further_at}

abbrev is_plain : Content → Bool
is_plain Plain = true
is_plain Checkpoints = false

lies-longer : (files : Files) (name : Name) (table : TableSet) (was later : DataSet) → LiesThere table was → IsLengthened files name was later → LiesThere table later
lies-longer files name table was later lies longer =
    let a : table.set.length ≤ was.length = lies.longer in
    let b : was.length ≤ later.length = longer.longer in
    record {
      places = record { parts = longer.places.parts ∙ lies.places.parts; lrecl = longer.places.lrecl ∙ lies.places.lrecl };
      space = longer.space ∙ lies.space;
      longer = omega (arith, a, b);
    }

module _ (desk : DeskModel) (is : IsDesk desk) (before after : List ℕ) (on moved : RunningStepView) (step : DeskStep) (going : IsGoing desk.office step)
    (stands : StandsForStep desk.layout desk.office before on step) (none : on.code ≡ None) (worked : Worked) (did : HasWorked (Unit {0}) before after desk.layout on.step moved.step on.sets moved.sets worked) where
  from-before : (name : Name) (set : DataSet) → set_of moved.sets name ≡ Some set → (was : DataSet) × (set_of on.sets name ≡ Some was) × IsLengthened on.step.files name was set
  from-before name set e = lengthened-from on.step.files name (done_for on.sets on.step did.heads) on.sets moved.sets did.done.lengths set e

  pub own-sets : HasSets desk.office.tables.sets (names_of stands.start.root stands.start.owned) moved.sets
  own-sets = record {
    from = λ name set e.
        let was = from-before name set e in
        let its = stands.sets.from name was.0 was.1 in
        (its.0, its.1, lies-longer on.step.files name its.0 was.0 set its.2 was.2);
    each = λ name table among e.
        let its = stands.sets.each name table among e in
        let later = lengthened-to on.step.files name (done_for on.sets on.step did.heads) on.sets moved.sets did.done.lengths its.0 its.1 in
        (later.0, later.1, lies-longer on.step.files name table its.0 later.0 its.2 later.2);
  }

  pub own-named : (name : Name) (set : DataSet) → set_of moved.sets name ≡ Some set → is_among (names_of stands.start.root stands.start.owned) name ≡ true
  own-named name set e = let was = from-before name set e in stands.named name was.0 was.1

  -- what the program writes is no data set for checkpoint entries
  no-output : (name : Name) (table : TableSet) (was : DataSet) → entry_at desk.office.tables.sets name ≡ Some table → set_of on.sets name ≡ Some was → table.set.content ≡ Checkpoints → (output : Option Name) → IsPlain (made_at stands.start) output → output ≡ Some name → ⊥
  no-output name table was at e checks output plain names =
      let its : IsPlain (made_at stands.start) (Some name) = subst (IsPlain (made_at stands.start)) names plain in
      let made : content_at (made_at stands.start) name ≡ Some table.set.content =
      subst (λ (s : StepStart). content_at (made_at s) name ≡ Some table.set.content) (same-start desk.layout desk.office before on step going stands)
      (made-content desk is step going name table (named-so desk is before on step going stands name was e) at) in
      let here : its.0.content ≡ table.set.content = same_Some its.0.content table.set.content (sym (ap (option_map (λ (set : LibrarySet). set.content)) its.1) ∙ made) in
      false≢true (sym (ap is_plain checks) ∙ ap is_plain (sym here) ∙ ap is_plain its.2)

  pub own-checked : (name : Name) (table : TableSet) (set : DataSet) → entry_at desk.office.tables.sets name ≡ Some table → set_of moved.sets name ≡ Some set → table.set.content ≡ Checkpoints → set.length ≡ table.set.length
  own-checked name table set at e checks =
      let was = from-before name set e in
      was.2.unless
      (λ main. no-output name table was.0 at was.1 checks _ (stands.stands none).may.main (ap (λ (files : Files). files.main) (sym (stands.stands none).files) ∙ main))
      (λ rejects. no-output name table was.0 at was.1 checks _ (stands.stands none).may.rejects (ap (λ (files : Files). files.rejects) (sym (stands.stands none).files) ∙ rejects))
      ∙ stands.checked name table was.0 at was.1 checks

  -- a checkpoint isn't due of a closed step, and where a record was taken no cancel is done yet
  closed-ordered : (taken writes : ℕ) (closed : Bool) → next_due stands.start (further_at on.step.state taken writes closed) ≡ Checkpoint → (closed && is_cancelled on.step.state) ≡ false
  closed-ordered taken writes true due = absurd (false≢true (ap is_checkpoint_due due))
  closed-ordered taken writes false due = refl

  -- where it goes on, it stands for the step of the desk that has come so far
  pub own-stands : moved.run ≡ on.run → moved.code ≡ on.code → (taken : ℕ) (goes : GoesTo (Unit {0}) after desk.layout stands.start taken on.step moved.step moved.sets)
      → StandsForStep desk.layout desk.office after moved (record { run = step.run; progress = further_at on.step.state taken moved.step.writes goes.closed; code = None })
  own-stands run code taken goes = record {
    row = stands.row;
    row_at = stands.row_at;
    start = stands.start;
    start_at = stands.start_at;
    run = run ∙ stands.run;
    code = code ∙ none;
    stands = λ _. goes.stands;
    served = λ _. goes.served;
    ordered = λ _. closed-ordered taken moved.step.writes goes.closed;
    writes = refl;
    stopped = λ its some. absurd (some-not-none its (sym some ∙ code ∙ none));
    sets = own-sets;
    named = own-named;
    shows = goes.shows;
    checked = own-checked;
  }
