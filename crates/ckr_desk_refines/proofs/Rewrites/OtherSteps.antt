-- The running steps of other runs, behind a rewrite and its record.
use Rattle.std.proofs.Common.{◌≡◌, ◌≢◌, ◌≤◌, ℕ, true, false, List, refl, ap, sym, ◌∙◌, subst, Some, arith}
use Rattle.std.specs.Prelude.{IsTrue}
use Rattle.std.proofs.lemmas.Option.{same_Some}
use Rattle.ckr_base.specs.declared.programs.Output.TheVariants.{InPlace}
use Rattle.ckr_desk_memory.specs.View.{RunningStepView}
use Rattle.ckr_desk_turn.specs.Invariant.{IsDesk}
use Rattle.ckr_desk_refines.specs.SharedSets.{IsShared, LeavesOthers}
use Rattle.ckr_desk_refines.specs.StepSets.{LiesThere}
use Rattle.ckr_desk_refines.proofs.Durable.OtherSets.{left-of, running-leaves}
use Rattle.ckr_desk_refines.proofs.Durable.Fellows.{others-of-step}
use Rattle.ckr_desk_refines.proofs.Durable.SharedSets.{in-step, shared-long}
use Rattle.ckr_desk_refines.proofs.Durable.Units.{others-shown}
use Rattle.ckr_library.specs.declared.sets.Content.{Content}
use Rattle.ckr_library.specs.declared.sets.Content.TheVariants.{Plain, Checkpoints}
use Rattle.ckr_library.specs.declared.sets.DataSet.{DataSet}
use Rattle.ckr_library.specs.Catalog.{Catalog, set_of}
use Rattle.ckr_library.specs.NameMaps.{Name, entry_at, same_name}
use Rattle.ckr_library.proofs.Named.{name-equivalence}
use Rattle.ckr_meaning.specs.EffectiveJob.{is_among, names_of}
use Rattle.ckr_meaning.specs.StepRun.{StepStart, output_name, within_at}
use Rattle.ckr_points.specs.Payload.{writes_in}
use Rattle.ckr_points.specs.Restart.{place_of}
use Rattle.ckr_points.specs.Rows.{TableSet}
use Rattle.ckr_points_invariant.specs.Invariant.{step_now}
use Rattle.ckr_points_invariant.specs.RunningSteps.{its_start}
use Rattle.ckr_points_invariant.proofs.Steps.Commits.{in_reach}
use Rattle.ckr_points_invariant.proofs.Holders.SharedSets.{elsewhere}
use Rattle.ckr_desk_refines.specs.Moves.{HasSameRecords, IsWritten}
use Rattle.ckr_desk_refines.specs.Standing.{StandsForStep}
use Rattle.ckr_steps.specs.Places.{ShowsWithin}
use Rattle.ckr_steps.specs.Writes.{IsShown, Keeps}
use Rattle.ckr_desk_turn.specs.Desk.{DeskModel, DeskStep}
use Rattle.ckr_volumes.specs.Records.{records_on}
use Rattle.ckr_volumes.specs.Layouts.{lie_apart}
use Rattle.ckr_desk_refines.proofs.Rewrites.Office.{behind, other-at}
use Rattle.ckr_desk_refines.proofs.Rewrites.Legs.{HasModel, IsLedStep, are-stored, both-apart, model-at, set-fits}
use Rattle.ckr_desk_refines.proofs.Rewrites.OwnStep.{shown-again}

module _ (desk : DeskModel) (is : IsDesk desk) (before : List ℕ) (on : RunningStepView) (step : DeskStep) (led : IsLedStep desk before on step)
    (seen : RunningStepView) (other : DeskStep) (theirs : IsLedStep desk before seen other) (apart : other.run ≢ step.run) where
  abbrev start : StepStart
  start = its_start led.leg led.owned (step_now led.row)

  abbrev their_start : StepStart
  their_start = its_start theirs.leg theirs.owned (step_now theirs.row)

  abbrev from : ℕ
  from = writes_in (place_of led.row)

  abbrev their_from : ℕ
  their_from = writes_in (place_of theirs.row)

  -- a name that both have
  shared : (name : Name) → is_among (names_of theirs.leg.job.root theirs.owned) name ≡ true → is_among (names_of led.leg.job.root led.owned) name ≡ true → IsShared desk.office their_start their_from name
  shared name among mine = record {
    number = other.run;
    row = theirs.row;
    leg = theirs.leg;
    runs = in-step desk.layout desk.office other.run theirs.row theirs.leg theirs.owned (step_now theirs.row) their_from is.kept theirs.running;
    has = among;
    other = step.run;
    next = led.row;
    fellow = led.leg;
    its = start;
    done = from;
    goes = in-step desk.layout desk.office step.run led.row led.leg led.owned (step_now led.row) from is.kept led.running;
    shares = mine;
    apart = apart;
  }

  -- what both have is no longer in memory there than here
  no-longer : (name : Name) (set mine : DataSet) → set_of seen.sets name ≡ Some set → set_of on.sets name ≡ Some mine → set.length ≤ mine.length
  no-longer name set mine e own =
      let its = theirs.sets.from name set e in
      let here = led.sets.from name mine own in
      let same : here.0 ≡ its.0 = same_Some here.0 its.0 (sym here.1 ∙ its.1) in
      let low : its.0.set.length ≤ mine.length = (subst (λ (t : TableSet). LiesThere t mine) same here.2).longer in
      let long : set.length ≡ its.0.set.length = by its.0 its.1 its.0.set.content refl in
      omega (arith, low, long)
    where
      by : (table : TableSet) → entry_at desk.office.tables.sets name ≡ Some table → (content : Content) → table.set.content ≡ content → set.length ≡ table.set.length
      by table at Checkpoints checks = theirs.checked name table set at e checks
      by table at Plain plain =
          let among : is_among (names_of theirs.leg.job.root theirs.owned) name ≡ true = theirs.named name set e in
          let model : HasModel their_start other.progress.writes name table = model-at desk is before seen other theirs name table among at in
          let shown : IsShown (Unit {0}) before desk.layout model.set seen.sets name = theirs.shows name model.set among model.at (model.content ∙ plain) in
          ap (λ (s : DataSet). s.length) (sym (same_Some shown.set set (sym shown.is ∙ e))) ∙ shown.shows.length
          ∙ shared-long desk.layout desk.office their_start their_from other.progress.writes name table model.set is.kept (shared name among (led.named name mine own)) at plain model.at

  module _ (place : ℕ) (updated : Name) (goes : output_name start (InPlace place) ≡ Some updated) where
    -- it hasn't what the step updates
    not-updated : (name : Name) → is_among (names_of theirs.leg.job.root theirs.owned) name ≡ true → same_name name updated ≡ false
    not-updated name among =
        elsewhere name start (InPlace place) updated
        (running-leaves desk.layout desk.office step.run led.row led.leg led.owned (step_now led.row) from name is.kept.events led.running
        (left-of desk.layout desk.office other.run step.run theirs.row led.row theirs.leg led.leg name is.kept.events theirs.running.holder led.running.holder apart
        (in_reach desk.layout desk.office other.run theirs.row theirs.leg theirs.owned (step_now theirs.row) their_from is.kept.events theirs.running name among)))
        refl goes

    module _ (after told written : List ℕ) (keeps : Keeps desk.layout on.sets before after) (same : HasSameRecords desk.layout after told) (set : DataSet) (found : set_of on.sets updated ≡ Some set) (bytes : List ℕ) (wrote : IsWritten desk.layout set place bytes told written) where
      -- its data sets lie apart from the record
      records-stay : (name : Name) (one : DataSet) → set_of seen.sets name ≡ Some one → records_on written desk.layout one one.length ≡ records_on after desk.layout one one.length
      records-stay name one e =
          let its = theirs.sets.from name one e in
          let mine = led.sets.from updated set found in
          let stands = (are-stored desk is before seen other theirs).stands name one e in
          let lies : IsTrue (lie_apart set one) =
          both-apart mine.0.set its.0.set set one mine.2.places its.2.places
          (is.kept.events.extents.apart updated name mine.0 its.0 (name-equivalence.symm updated name ∙ not-updated name (theirs.named name one e)) mine.1 its.1) in
          wrote.others one stands lies one.length stands.length_fits ∙ same one one.length stands stands.length_fits

      shows-still : ShowsWithin (Unit {0}) written desk.layout their_start other.progress.writes seen.sets
      shows-still =
          shown-again desk.layout (names_of theirs.leg.job.root theirs.owned) (within_at their_start other.progress.writes) seen.sets after written records-stay
          (others-shown desk.layout desk.office.tables.sets (names_of led.leg.job.root led.owned) on.sets is.kept.events.extents led.sets before after keeps (Unit {0}) (names_of theirs.leg.job.root theirs.owned) (within_at their_start other.progress.writes) seen.sets theirs.sets
          no-longer (λ name set e. set-fits desk is before seen other theirs name set e) theirs.shows)

      module _ (writes : ℕ) (moved : Catalog) (as_was : (name : Name) → set_of moved name ≡ set_of on.sets name) (leaves : LeavesOthers desk.office step.run (behind desk before on step led writes moved as_was)) where
        stays : (name : Name) → is_among (names_of theirs.leg.job.root theirs.owned) name ≡ true → entry_at (behind desk before on step led writes moved as_was).tables.sets name ≡ entry_at desk.office.tables.sets name
        stays name among =
            others-of-step desk.layout desk.office (behind desk before on step led writes moved as_was) step.run other.run theirs.row theirs.leg theirs.owned (step_now theirs.row) their_from name is.kept.events leaves theirs.running apart among

        -- it stands
        pub other-stands : StandsForStep desk.layout (behind desk before on step led writes moved as_was) written seen other
        other-stands = record {
          row = theirs.row;
          row_at = other-at desk before on step led writes moved as_was other.run apart ∙ theirs.running.holder.row_at;
          start = their_start;
          start_at = theirs.starts;
          run = theirs.run;
          code = theirs.code;
          stands = theirs.stands;
          served = theirs.served;
          ordered = theirs.ordered;
          writes = theirs.writes;
          stopped = theirs.stopped;
          sets = record {
            from = λ name set e. let its = theirs.sets.from name set e in (its.0, stays name (theirs.named name set e) ∙ its.1, its.2);
            each = λ name table among e. theirs.sets.each name table among (sym (stays name among) ∙ e);
          };
          named = theirs.named;
          shows = shows-still;
          checked = λ name table set e own checks. theirs.checked name table set (sym (stays name (theirs.named name set own)) ∙ e) own checks;
        }
