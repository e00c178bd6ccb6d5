-- The point in memory of a run that goes on at a checkpoint of an earlier one stands for the entry behind the event, where it was read of it.
use Rattle.std.proofs.Common.{◌≡◌, ℕ, ◌+◌, suc, List, take, refl, ap, sym, ◌∙◌, Option, Some}
use Rattle.std.specs.Prelude.{flat_map}
use Rattle.std.specs.List.{range_with_len}
use Rattle.ckr_base.proofs.Options.{some-one}
use Rattle.ckr_entry.specs.Entry.{entry_in}
use Rattle.ckr_events.specs.declared.event.Event.TheVariants.{Selected}
use Rattle.ckr_jcl.specs.declared.deck.Job.{Job}
use Rattle.ckr_library.specs.declared.sets.DataSet.{DataSet}
use Rattle.ckr_library.specs.Catalog.{records_of}
use Rattle.ckr_library.specs.NameMaps.{Name, entry_at}
use Rattle.ckr_points.specs.Events.{IsNext}
use Rattle.ckr_points.specs.Office.{Office, office_after}
use Rattle.ckr_points.specs.Restart.{syschk_name}
use Rattle.ckr_points.specs.Rows.{EffectPoint, RunRow, run_of}
use Rattle.ckr_points.specs.Tables.{fresh_effect}
use Rattle.ckr_points_invariant.specs.KeptEvents.{AreKept}
use Rattle.ckr_points_invariant.specs.EarlierRuns.{MayContinue}
use Rattle.ckr_points_invariant.proofs.KeptEvents.{next-kept}
use Rattle.ckr_steps.specs.EntryRecords.{bytes_on}
use Rattle.ckr_volumes.specs.declared.layout.Layout.{Layout}
use Rattle.ckr_volumes.specs.SamePlaces.{SamePlaces}
use Rattle.ckr_desk_memory.specs.View.{PointView}
use Rattle.ckr_desk_refines.specs.Entries.{AreOwned, AreWithin, HasEntries, IsRead, IsWantedRead}
use Rattle.ckr_desk_refines.specs.InEffect.{AreInEffect}
use Rattle.ckr_desk_refines.specs.Standing.{OwnStands}
use Rattle.ckr_desk_refines.proofs.Durable.Continuation.{continued-from, may-so}
use Rattle.ckr_desk_refines.proofs.Durable.StepEnd.{StaysFrom}
use Rattle.ckr_desk_refines.proofs.Entries.EffectContinuation.{HasWanted, wanted-behind}
use Rattle.ckr_desk_refines.proofs.Entries.Events.{has-next}
use Rattle.ckr_desk_refines.proofs.Entries.SoundEvents.{effects-behind}
use Rattle.ckr_desk_refines.proofs.Entries.There.{same-record}
use Rattle.ckr_desk_refines.proofs.Standing.Openings.{read-stands}

-- the bytes that are read hang on the parts of the data set and its record length alone
bytes-same : (image : List ℕ) (layout : Layout) (one other : DataSet) → SamePlaces one other → (place count : ℕ) → bytes_on image layout other place count ≡ bytes_on image layout one place count
unfolding bytes_on
bytes-same image layout one other same place count = λ i. take count (flat_map (λ (n : ℕ). same-record image layout one other same (place + n) i) (range_with_len 0 (records_of count)))

module _ (layout : Layout) (now : Office) (are : AreKept layout now) (within : AreWithin now.tables.sets) (owners : AreOwned now) (effects : AreInEffect now)
    (job initiator before step : ℕ) (id : Name) (deck : Option Job) (next : IsNext layout now (Selected job initiator (suc before) step (Some id), deck)) where
  abbrev later : Office
  later = office_after (Selected job initiator (suc before) step (Some id), deck) now

  later-kept : AreKept layout later
  later-kept = next-kept layout now are (Selected job initiator (suc before) step (Some id)) deck next

  its : MayContinue layout now.tables job initiator (suc before) step (Some id)
  its = may-so layout now are.kept.events job initiator before step (Some id) deck next.may

  wanted : HasWanted now.tables later.tables job (syschk_name its.row.deck) id
  wanted = wanted-behind layout now are job initiator before step id deck its

  -- the entry in effect behind the event is read as before
  read-behind : (image : List ℕ) (points : List PointView) → IsWantedRead layout now.tables image points job id → IsRead layout later.tables image points job
  read-behind image points read row effect table entry at runs got there is =
      let same_row : wanted.next ≡ row = some-one wanted.next row (run_of later.tables job) wanted.next_at at in
      let same_effect : fresh_effect (syschk_name its.row.deck) wanted.entry.kept ≡ effect =
      some-one _ effect row.in_effect (ap (λ (row : RunRow). row.in_effect) (sym same_row) ∙ wanted.got) got in
      let from : StaysFrom now.tables.sets (syschk_name its.row.deck) table =
      continued-from layout now are.kept.events job initiator before step (Some id) deck next.may (syschk_name its.row.deck) table
      (ap (λ (effect : EffectPoint). entry_at later.tables.sets effect.set) same_effect ∙ there) in
      read its.row from.0 wanted.entry entry its.row_at from.1 wanted.found
      (ap entry_in (sym (bytes-same image layout from.0.set table.set (record { parts = ap (λ parts. parts.items) from.2.parts; lrecl = from.2.lrecl }) wanted.entry.kept.place wanted.entry.kept.bytes))
      ∙ ap (λ (effect : EffectPoint). entry_in (bytes_on image layout table.set effect.kept.place effect.kept.bytes)) same_effect
      ∙ is)

  pub wanted-stands : (image : List ℕ) → HasEntries layout now image → (points : List PointView) → IsWantedRead layout now.tables image points job id → OwnStands later points job
  wanted-stands image has points read =
      read-stands layout later image points job later-kept.kept later-kept.ready (effects-behind layout now are within owners effects (Selected job initiator (suc before) step (Some id)) deck next)
      (has-next layout now are.kept.events image has (Selected job initiator (suc before) step (Some id)) deck refl next.may)
      (read-behind image points read)
