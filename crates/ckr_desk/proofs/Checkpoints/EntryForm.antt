-- The entry of a checkpoint that is made for a running step has a spelling, on a trusted disk.
use Rattle.std.proofs.Common.{◌≡◌, ◌≤◌, ◌&&◌, ℕ, zero, suc, Bool, true, false, List, ap, sym, ◌∙◌, subst, Some, None, arith}
use Rattle.std.specs.Prelude.{not, ◌==◌}
use Rattle.std.proofs.lemmas.Bool.{false≢true}
use Rattle.ckr_base.specs.declared.programs.NextDue.TheVariants.{Checkpoint as CheckpointDue}
use Rattle.ckr_entry.specs.Entry.{IsEntry}
use Rattle.ckr_entry.specs.Parts.{Entry}
use Rattle.ckr_desk_refines.specs.Memory.Checkpoints.{IsCheckpointOf}
use Rattle.ckr_desk_refines.specs.Memory.Checkpoint.{Checkpoint}
use Rattle.ckr_desk_refines.specs.Memory.Entries.{entry_end, entry_to, fits_in, step_now}
use Rattle.ckr_desk_refines.specs.Memory.EntryModels.{IsAsFar}
use Rattle.ckr_desk_refines.specs.Memory.View.{JobsView, RunningStepView}
use Rattle.ckr_jcl.specs.declared.deck.Parm.{Parm}
use Rattle.ckr_meaning.specs.EffectiveJob.{OwnedStep}
use Rattle.ckr_meaning.specs.StepRun.{StepStart, case_at}
use Rattle.ckr_points.specs.Rows.{RunRow}
use Rattle.ckr_desk_refines.specs.Tables.Checkpoint.{checkpoint_name}
use Rattle.ckr_programs.specs.Due.{is_checkpoint_count}
use Rattle.ckr_desk_refines.proofs.Checkpoints.NextEvent.{entry-is}
use Rattle.ckr_desk_refines.proofs.Checkpoints.StateForm.{state-form}
use Rattle.ckr_desk_refines.proofs.Checkpoints.Turn.{due-so, none, pair}
use Rattle.ckr_desk_refines.proofs.Standing.StepViews.{place-due}
use Rattle.ckr_desk_refines.proofs.Units.OtherSteps.{same-start}
use Rattle.ckr_desk_refines.proofs.Units.StepLists.{IsPair}
use Rattle.ckr_desk_refines.specs.Checkpoints.{IsToTake}
use Rattle.ckr_desk_turn.proofs.Checkpoints.Due.{checkpoint-only}
use Rattle.ckr_desk_turn.proofs.Checkpoints.Ranges.{range-entry}
use Rattle.ckr_desk_turn.specs.Checkpoints.{is_in_range, next_entry, step_entries}
use Rattle.ckr_desk_turn.specs.Turns.{MountedTurn}
use Rattle.ckr_desk_turn.specs.Desk.{DeskModel}
use Rattle.ckr_desk_turn.specs.Due.{next_due}
use Rattle.ckr_desk_turn.specs.EntryForms.{IsEntryForm, IsStateForm}
use Rattle.ckr_desk_turn.specs.EntryStates.{at_checkpoint}
use Rattle.ckr_desk_turn.specs.Units.{StepProgress}
use Rattle.ckr_volumes.specs.declared.layout.Layout.{Layout}

-- a checkpoint is due once a record is taken
none-due : (b c : Bool) → (b && false && c) ≡ true → ⊥
none-due true c e = false≢true e
none-due false c e = false≢true e

some-taken : (parm : Parm) (taken : ℕ) → is_checkpoint_count parm taken ≡ true → 1 ≤ taken
some-taken parm zero due = absurd (none-due (not (parm.chk == 0)) _ due)
some-taken parm (suc taken) due = omega arith

module _ (layout : Layout) (old : JobsView) (image : List ℕ) (desk : DeskModel) (turn : MountedTurn) (run : ℕ) (on : RunningStepView) (to : IsToTake layout old image desk turn run on) where
  abbrev p : IsPair desk.layout desk.office image run on desk.running
  p = pair layout old image desk turn run on to

  abbrev row : RunRow
  row = p.going.row

  abbrev start : StepStart
  start = p.going.start

  abbrev progress : StepProgress
  progress = p.step.progress

  -- its run doesn't wait with a code
  waits-not : on.code ≡ None
  waits-not = none layout old image desk turn run on to

  next-so : next_due start progress ≡ CheckpointDue
  next-so =
      ap (λ (s : StepStart). next_due s progress) (same-start desk.layout desk.office image on p.step p.going p.stands)
      ∙ sym (place-due p.stands.start progress on (p.stands.stands waits-not) (p.stands.served waits-not)) ∙ due-so layout old image desk turn run on to

  taken-some : 1 ≤ progress.taken
  taken-some = some-taken start.owned.step.parm progress.taken (checkpoint-only start progress next-so).count

  module _ (far : IsAsFar desk.office.tables row start on progress) (made : Checkpoint) (c : IsCheckpointOf desk.office.tables on made) (row_is : c.row ≡ row) (own_is : c.own ≡ start.owned) where
    abbrev made_entry : RunRow → OwnedStep → Entry
    made_entry its own = entry_to (Some c.check) (entry_end c.check c.table desk.office.tables its own on) desk.office.tables its own on

    form-made : IsEntryForm (made_entry c.row c.own)
    unfolding entry_to
    form-made =
        c.form
        (subst (λ n. IsStateForm n (at_checkpoint (suc (step_entries c.row (step_now c.row))) on.step.state)) (sym far.taken)
        (state-form on.step.state (case_at p.stands.start) progress.taken (suc (step_entries c.row (step_now c.row))) (p.stands.stands waits-not).state c.typed taken-some (omega arith)))

    entry-same : next_entry desk.office.tables.sets row start progress ≡ made_entry row start.owned
    entry-same =
        entry-is desk.office.tables row start on progress far c.check c.table
        (ap (λ (r : RunRow). checkpoint_name r.job.root start.owned) (sym row_is) ∙ ap (checkpoint_name c.row.job.root) (sym own_is) ∙ c.named) c.there
        (ap (λ (r : RunRow). fits_in c.check c.table desk.office.tables r start.owned on) (sym row_is) ∙ ap (λ (o : OwnedStep). fits_in c.check c.table desk.office.tables c.row o on) (sym own_is) ∙ c.fits)

    pub entry-spelled : is_in_range (next_entry desk.office.tables.sets row start progress) ≡ true → IsEntry (next_entry desk.office.tables.sets row start progress)
    entry-spelled ranged =
        range-entry (next_entry desk.office.tables.sets row start progress)
        (subst IsEntryForm (ap (λ (r : RunRow). made_entry r c.own) row_is ∙ ap (made_entry row) own_is ∙ sym entry-same) form-made) ranged
