-- Entries tell the owners of their steps, behind each event too.
use Rattle.std.proofs.Common.{◌≡◌, ℕ, true, ◌&&◌, List, [], ◌∷◌, refl, ap, sym, ◌∙◌, subst, Option, Some}
use Rattle.arrayvec.specs.ArrayVec.{ArrayVec}
use Rattle.ckr_base.proofs.Bools.{and-first}
use Rattle.ckr_base.proofs.Sequences.{each-append, each-filter, each-implies}
use Rattle.ckr_events.specs.declared.event.Event.{Event}
use Rattle.ckr_events.specs.declared.event.Event.TheVariants.{Checkpointed}
use Rattle.ckr_jcl.specs.declared.deck.Job.{Job}
use Rattle.ckr_library.specs.declared.sets.Kept.{Kept}
use Rattle.ckr_library.specs.Catalog.{ends_within}
use Rattle.ckr_library.specs.NameMaps.{Name}
use Rattle.ckr_meaning.specs.EffectiveJob.{Effective, OwnedStep, step_at}
use Rattle.ckr_points.specs.declared.run.RunState.TheVariants.{On}
use Rattle.ckr_points.specs.Follows.{is_checkpoint, is_in_state, is_running, is_within, lengths_follow, of_step}
use Rattle.ckr_points.specs.Office.{Leg, Office, leg_of, office_after}
use Rattle.ckr_points.specs.Restart.{after_event, place_of}
use Rattle.ckr_points.specs.Rows.{KeptEntry, RunRow, TablesModel, run_of, step_of_run}
use Rattle.ckr_points.specs.Soundness.{may_come}
use Rattle.ckr_points_invariant.specs.Invariant.{IsAgreed, step_now}
use Rattle.ckr_points_invariant.proofs.Steps.Events.{led-by, on-holds}
use Rattle.ckr_points_invariant.proofs.WaitingRuns.{follows-of}
use Rattle.ckr_volumes.specs.declared.layout.Layout.{Layout}
use Rattle.ckr_desk_refines.specs.Entries.{AreOwned, HasOwner, HaveOwners, UnderEachName, entry_taken}
use Rattle.ckr_desk_refines.proofs.Entries.Checkpoint.{checkpointed-stays}
use Rattle.ckr_desk_refines.proofs.Entries.Effects.{passes-of}
use Rattle.ckr_desk_refines.proofs.Entries.Events.{event-each}
use Rattle.ckr_desk_refines.proofs.Entries.Legs.{KeepLegs, legs-stay, tables-behind}
use Rattle.ckr_desk_refines.proofs.Entries.Sets.{Stays}

owned-stays : (legs : List Leg) → Stays (HaveOwners legs)
owned-stays legs = record {
  cut = λ most table its. each-filter (HasOwner legs) (λ (entry : KeptEntry). ends_within most entry.kept) table.entries its;
  marked = λ on table its. its;
  stamped = λ stamp table its. its;
  fresh = λ stamp placed parts. tt;
}

owner-led : (legs later : List Leg) → KeepLegs legs later → (entry : KeptEntry) → HasOwner legs entry → HasOwner later entry
owner-led legs later keep entry its = record {
  leg = its.leg;
  led = keep entry.point.run its.leg its.led;
  owned = its.owned;
  found = its.found;
  owner = its.owner;
}

module _ (layout : Layout) (now : Office) (agreed : IsAgreed layout now) (are : AreOwned now) where
  -- the entry of a checkpoint tells the owner of the step that its run is in
  owned-taken : (job taken writes place bytes : ℕ) (id : Name) (lengths : ArrayVec ℕ) (deck : Option Job) → may_come layout now (Checkpointed job id taken writes lengths place bytes, deck) ≡ true
      → UnderEachName (HaveOwners now.legs) (after_event (Checkpointed job id taken writes lengths place bytes) deck now.tables).sets
  owned-taken job taken writes place bytes id lengths deck may =
      let holds =
      checkpointed-stays (HaveOwners now.legs) (owned-stays now.legs) now.tables agreed.numbered are kept taken writes lengths.items id job place bytes lengths deck refl refl
      (λ row owned e found table at each. each-append (HasOwner now.legs) table.entries (entry_taken now.tables row owned kept taken writes lengths.items ∷ []) each (new row owned e found, tt)) in
      holds.each
    where
      kept : Kept
      kept = record { id = id; run = job; place = place; bytes = bytes }

      passes : (row : RunRow) → run_of now.tables job ≡ Some row → (is_running row && lengths_follow now.tables row lengths.items && of_step row (is_checkpoint now.tables id lengths.items place bytes row)) ≡ true
      passes row e =
          passes-of now.tables job (λ row. is_running row && lengths_follow now.tables row lengths.items && of_step row (is_checkpoint now.tables id lengths.items place bytes row)) row
          (follows-of layout now (Checkpointed job id taken writes lengths place bytes) deck may) e

      on : (row : RunRow) → run_of now.tables job ≡ Some row → is_in_state On row ≡ true
      on row e =
          and-first (is_in_state On row) (is_within (place_of row))
          (and-first (is_running row) (lengths_follow now.tables row lengths.items) (and-first (is_running row && lengths_follow now.tables row lengths.items) _ (passes row e)))

      new : (row : RunRow) (owned : OwnedStep) → run_of now.tables job ≡ Some row → step_of_run row (step_now row) ≡ Some owned → HasOwner now.legs (entry_taken now.tables row owned kept taken writes lengths.items)
      new row owned e found =
          led-by layout now job row agreed e (on-holds row.state (on row e))
          (λ leg holder. record {
            leg = leg;
            led = ap (leg_of now) (agreed.numbered job row e) ∙ holder.leg_at;
            owned = owned;
            found = ap (λ (job : Effective). step_at job (step_now row)) (agreed.places job row leg holder).job ∙ found;
            owner = refl;
          })

  owned-sets : (event : Event) (deck : Option Job) → may_come layout now (event, deck) ≡ true → UnderEachName (HaveOwners now.legs) (after_event event deck now.tables).sets
  owned-sets (Checkpointed job id taken writes lengths place bytes) deck may = owned-taken job taken writes place bytes id lengths deck may
  owned-sets event deck may = event-each (HaveOwners now.legs) (owned-stays now.legs) now.tables agreed.numbered are event deck refl

  -- one more event leaves it so
  pub owned-next : (event : Event) (deck : Option Job) → may_come layout now (event, deck) ≡ true → AreOwned (office_after (event, deck) now)
  owned-next event deck may =
      let later : Office = office_after (event, deck) now in
      subst (λ (tables : TablesModel). UnderEachName (HaveOwners later.legs) tables.sets) (sym (tables-behind now event deck))
      (λ name table e.
      each-implies (HasOwner now.legs) (HasOwner later.legs) table.entries (owner-led now.legs later.legs (legs-stay layout now agreed event deck may))
      (owned-sets event deck may name table e))
