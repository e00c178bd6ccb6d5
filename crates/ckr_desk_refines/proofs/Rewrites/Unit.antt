-- The unit that asks for a rewrite in place: it takes one record, its one write is the rewrite, and the data sets in memory stay.
use Rattle.std.proofs.Common.{◌≡◌, ◌≤◌, ◌<◌, ◌+◌, inl, inr, ℕ, suc, Bool, true, false, List, [], ◌∷◌, ◌++◌, length, refl, ap, sym, ◌∙◌, subst, Option, None, Some, arith, append_assoc, length-append}
use Rattle.std.specs.Prelude.{option_and_then, slice_get}
use Rattle.std.specs.Option.{option_map}
use Rattle.ckr_base.specs.declared.programs.Finish.{Finish}
use Rattle.ckr_base.specs.declared.programs.Finish.TheVariants.{Abend as AbendFinish, Returned}
use Rattle.ckr_base.specs.declared.programs.Heads.{Heads}
use Rattle.ckr_base.specs.declared.programs.Output.{Output}
use Rattle.ckr_base.specs.declared.programs.Write.{Write}
use Rattle.ckr_base.proofs.Options.{some-not-none}
use Rattle.ckr_base.proofs.Sequences.{append-cancel}
use Rattle.ckr_jcl.specs.declared.deck.Kind.{Kind}
use Rattle.ckr_jcl.specs.Programs.{names_updated}
use Rattle.ckr_library.specs.Catalog.{Catalog, Holding, set_of}
use Rattle.ckr_library.specs.NameMaps.{Name, entry_at, with_changed}
use Rattle.ckr_meaning.specs.Program.{fitting, records_taken, rest, unit_done, upto}
use Rattle.ckr_meaning.specs.StepRun.{StepStart, case_at, changed_in, input_names, made_at, output_dd, output_name, rewritten, set_name, within_at, work_at, written_all, written_one, written_set}
use Rattle.ckr_meaning.proofs.WriteSeries.{written_all-append}
use Rattle.ckr_meaning.proofs.Prefixes.{takes_one, work_in_parts}
use Rattle.ckr_steps.specs.declared.step_run.StepRun.{StepRun}
use Rattle.ckr_steps.specs.declared.step_run.Worked.{Worked}
use Rattle.ckr_steps.specs.declared.step_run.Worked.TheVariants.{Went, Rewrite, Abend}
use Rattle.ckr_steps.specs.Files.{files_of}
use Rattle.ckr_steps.specs.Places.{IsToRewrite, IsStepPlace}
use Rattle.ckr_steps.specs.StepUnit.{HasDone, behind_unit, done_for, unit_for, worked_for, writes_for}
use Rattle.ckr_steps.specs.Units.{state_of, taken_of}
use Rattle.ckr_steps.specs.Writes.{answer_of, done_of, done_unless, grown, rewrite_of, room_of, worked_by}
use Rattle.ckr_steps.proofs.UnitProgress.{so_far_written}
use Rattle.ckr_steps.proofs.NextHeads.{source_named, set_found}
use Rattle.ckr_steps.proofs.NextUnits.{taken_is, within_records}
use Rattle.ckr_steps.proofs.LaterWrites.{written_from, within_front}
use Rattle.ckr_desk_turn.specs.Units.{first_rewrite}
use Rattle.ckr_volumes.specs.declared.layout.Layout.{Layout}
use Rattle.ckr_desk_refines.proofs.Rewrites.InputRecords.{takes-at-most-one}

-- ---- the data sets in memory

abbrev rewritten_place : Worked → Option ℕ
rewritten_place (Went taken) = None
rewritten_place (Rewrite place image taken) = Some place
rewritten_place (Abend code) = None

module _ (place : ℕ) (image : List ℕ) (taken : ℕ) where
  none-done : (behind : ℕ) (rewrite : Option (ℕ × List ℕ)) (fits : Bool) (finish : Option Finish) (writes : List Write) → Rewrite place image taken ≡ worked_by behind rewrite fits finish → done_unless rewrite writes ≡ []
  none-done behind (Some rewrite) fits finish writes is = refl
  none-done behind None false finish writes is = absurd (some-not-none place (ap rewritten_place is))
  none-done behind None true None writes is = absurd (some-not-none place (ap rewritten_place is))
  none-done behind None true (Some (Returned rc)) writes is = absurd (some-not-none place (ap rewritten_place is))
  none-done behind None true (Some (AbendFinish code)) writes is = absurd (some-not-none place (ap rewritten_place is))

  pub sets-same : (heads : Heads) (old new : StepRun) (sets later : Catalog) → HasDone heads old new sets later (Rewrite place image taken) → later.sets ≡ sets.sets
  unfolding worked_for answer_of done_for done_of
  sets-same heads old new sets later done =
      done.lengths
      ∙ ap (λ writes. grown old.files writes sets.sets)
      (none-done (taken_of (state_of old.parm old.state heads)) (rewrite_of sets old.files (writes_for old heads)) _ (unit_for old heads).finish _ done.answer)

pub same-set : (sets later : Catalog) → later.sets ≡ sets.sets → (name : Name) → set_of later name ≡ set_of sets name
same-set sets later same name = ap (λ entries. option_map (λ (h : Holding). h.set) (entry_at entries name)) same

state_behind : (heads : Heads) (old new : StepRun) (sets later : Catalog) (worked : Worked) → HasDone heads old new sets later worked → new.state ≡ state_of old.parm old.state heads
unfolding behind_unit
state_behind heads old new sets later worked done = ap (λ (step : StepRun). step.state) done.step

-- ---- the write

module _ (told : Type 0) (image : List ℕ) (layout : Layout) (start : StepStart) (before taken place : ℕ) (bytes : List ℕ) (old new : StepRun) (sets : Catalog)
    (rewrite : IsToRewrite told image layout start before taken place bytes old new sets) where
  abbrev front : List Write
  front = upto (case_at start) before

  size : length (upto (case_at start) taken) ≡ length front + 1
  size = ap length rewrite.more ∙ length-append front (rewrite.write ∷ [])

  -- it takes one record
  pub takes-one-more : (heads : Heads) (from : Catalog) (worked : Worked) → IsStepPlace start before false old from → HasDone heads old new from sets worked → taken ≡ suc before
  takes-one-more heads from worked stood done =
      let was : taken_of old.state ≡ before = taken_is old.state (case_at start) before stood.state in
      let now : taken_of (state_of old.parm old.state heads) ≡ taken = ap taken_of (sym (state_behind heads old new from sets worked done)) ∙ taken_is new.state (case_at start) taken rewrite.stands.state in
      elim (takes-at-most-one old.parm old.state heads) [
        | inl same ↦
            (let long : length (upto (case_at start) taken) ≡ length front = ap (λ n. length (upto (case_at start) n)) (sym now ∙ same ∙ was) in
            absurd (omega (arith, long, size)))
        | inr more ↦ omega (arith, was, now, more)
      ]

  -- the rewrite goes to what is updated
  pub goes-to : output_name start rewrite.write.output ≡ Some rewrite.name
  unfolding output_name files_of
  goes-to =
      ap (λ o. option_and_then (set_name start) (output_dd start.owned.step.program o)) rewrite.goes
      ∙ (let named = source_named start 0 rewrite.name rewrite.updates in
      let P : Kind → Type 0 = λ program. option_and_then (set_name start) (slice_get (input_names program) 0) ≡ Some rewrite.name → option_and_then (set_name start) (slice_get (names_updated program) 0) ≡ Some rewrite.name in
      subst P (sym rewrite.program) (λ e. e)
      (set_found start (slice_get (input_names start.owned.step.program) 0) named.dd rewrite.name named.found named.named))

  counted : old.writes ≡ length front
  counted = let here : new.writes ≡ length (upto (case_at start) taken) = rewrite.stands.writes in let one = rewrite.counted in omega (arith, here, one, size)

  abbrev later : List Write
  later = fitting (rest (case_at start) taken) (room_of sets new.files)

  whole : (work_at start).writes ≡ upto (case_at start) taken ++ later
  whole =
      written_from start (upto (case_at start) taken) [] (rest (case_at start) taken) (room_of sets new.files) (work_in_parts (case_at start) taken (within_records new.state (case_at start) taken rewrite.stands.state)) rewrite.stands.room

  -- it has space
  pub fits : new.writes ≤ length (work_at start).writes
  fits =
      let here : new.writes ≡ length (upto (case_at start) taken) = rewrite.stands.writes in
      let long : length (work_at start).writes ≡ length (upto (case_at start) taken) + length later = ap length whole ∙ length-append (upto (case_at start) taken) later in
      omega (arith, here, long)

  all : (work_at start).writes ≡ front ++ (rewrite.write ∷ [] ++ later)
  all = whole ∙ ap (λ w. w ++ later) rewrite.more ∙ append_assoc front (rewrite.write ∷ []) later

  -- the library behind it
  pub one-more : within_at start new.writes ≡ with_changed rewrite.name (rewritten start.owned.owner start.number place rewrite.write.image) (within_at start old.writes)
  unfolding written_one
  one-more =
      so_far_written start taken new sets rewrite.stands
      ∙ ap (λ w. written_all start w (made_at start)) rewrite.more
      ∙ written_all-append start front (rewrite.write ∷ []) (made_at start)
      ∙ ap (written_all start (rewrite.write ∷ [])) (sym (ap (within_at start) counted ∙ within_front start front _ all))
      ∙ ap (λ name. changed_in name (written_set start rewrite.write.output rewrite.write.image) (within_at start old.writes)) goes-to
      ∙ ap (λ o. with_changed rewrite.name (written_set start o rewrite.write.image) (within_at start old.writes)) rewrite.goes

  module _ (next : taken ≡ suc before) where
    pub below : before < records_taken (case_at start)
    below = let within : taken ≤ records_taken (case_at start) = within_records new.state (case_at start) taken rewrite.stands.state in omega (arith, next, within)

    -- it is the unit's one write
    pub only : (unit_done (case_at start) before).writes.items ≡ rewrite.write ∷ []
    only =
        append-cancel front (unit_done (case_at start) before).writes.items (rewrite.write ∷ [])
        (sym (takes_one (case_at start) before below).more ∙ ap (upto (case_at start)) (let e : before + 1 ≡ taken = omega (arith, next) in e) ∙ rewrite.more)

    pub goes-on : (unit_done (case_at start) before).finish ≡ None
    goes-on = (takes_one (case_at start) before below).goes_on

    pub first : first_rewrite (unit_done (case_at start) before).writes.items ≡ Some (place, rewrite.write.image)
    first =
        ap first_rewrite only
        ∙ ap (λ (o : Output). (let write : Write = record { output = o; image = rewrite.write.image } in first_rewrite (write ∷ []))) rewrite.goes
