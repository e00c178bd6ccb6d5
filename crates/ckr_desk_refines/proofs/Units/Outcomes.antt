-- What the desk makes of the next unit of a running step is what the unit in memory came to.
use Rattle.std.proofs.Common.{◌≡◌, ◌≤◌, ◌<◌, ℕ, suc, ◌+◌, Bool, true, false, ◌&&◌, List, [], ◌∷◌, ◌++◌, length, filter, refl, ap, sym, ◌∙◌, subst, Option, Some, None, arith, length-append}
use Rattle.std.specs.List.{list_all}
use Rattle.std.specs.Option.{is_some}
use Rattle.std.proofs.lemmas.Bool.{false≢true}
use Rattle.ckr_base.specs.declared.programs.Finish.{Finish}
use Rattle.ckr_base.specs.declared.programs.Finish.TheVariants as Finishes
use Rattle.ckr_base.specs.declared.programs.Output.{Output}
use Rattle.ckr_base.specs.declared.programs.Output.TheVariants.{Main, Rejects, InPlace}
use Rattle.ckr_base.specs.declared.programs.UnitDone.{UnitDone}
use Rattle.ckr_base.specs.declared.programs.Write.{Write}
use Rattle.ckr_base.proofs.Numbers.{nat_le-beyond, nat_le-from}
use Rattle.ckr_base.proofs.Options.{some-not-none}
use Rattle.ckr_desk_turn.proofs.Units.LastUnit.{at-end, not-at-end}
use Rattle.ckr_desk_turn.specs.Invariant.{next_writes}
use Rattle.ckr_entry.specs.declared.point.State.{State}
use Rattle.ckr_library.specs.Catalog.{Catalog}
use Rattle.ckr_meaning.proofs.Prefixes.{ends_work, takes_one, work_in_parts}
use Rattle.ckr_meaning.specs.Program.{fitting, records_taken, rest, room_after, unit_done as program_unit, upto, work}
use Rattle.ckr_meaning.specs.States.{first_of}
use Rattle.ckr_meaning.specs.StepRun.{StepStart, case_at, work_at}
use Rattle.ckr_programs.specs.Units.{is_returned}
use Rattle.ckr_programs.specs.Work.{Work}
use Rattle.ckr_steps.proofs.UnitProgress.{so_far_written}
use Rattle.ckr_steps.proofs.NextHeads.{next_heads}
use Rattle.ckr_steps.proofs.NextUnits.{closed_is, done_is, stands_more, stands_same, taken_is, within_records}
use Rattle.ckr_steps.proofs.Writes.{Kinds, go_behind, rewrites, parm_at, rewrite, unit_kinds}
use Rattle.ckr_steps.proofs.LaterWrites.{work_fits, written_from}
use Rattle.ckr_steps.specs.declared.step_run.StepRun.{StepRun}
use Rattle.ckr_steps.specs.declared.step_run.Worked.{Worked}
use Rattle.ckr_steps.specs.declared.step_run.Worked.TheVariants.{Went, Rewrite, Abend}
use Rattle.ckr_steps.specs.Places.{AreNext, GoesTo, ShowsWithin, IsStepPlace}
use Rattle.ckr_steps.specs.StepUnit.{HasWorked, behind_unit, unit_for, worked_for, writes_for}
use Rattle.ckr_steps.specs.Units.{is_cancelled, is_checkpointed, is_closed, state_of, taken_of}
use Rattle.ckr_steps.specs.Writes.{answer_of, count_of, count_unless, is_behind, rewrite_of, room_of, worked_by}
use Rattle.ckr_desk_turn.specs.Units.{StepProgress, UnitEnd, abended, finished_by, first_rewrite, no_more_space, unit_end, went}
use Rattle.ckr_volumes.specs.declared.layout.Layout.{Layout}

-- ---- what an answer says of the unit

abbrev is_went : Worked → Bool
is_went (Went taken) = true
is_went (Rewrite place image taken) = false
is_went (Abend code) = false

abbrev taken_in : Worked → ℕ
taken_in (Went taken) = taken
taken_in (Rewrite place image taken) = taken
taken_in (Abend code) = 0

by-went : {A : Type 0} (taken now : ℕ) (rewrite : Option (ℕ × List ℕ)) (fits : Bool) (finish : Option Finish) → worked_by taken rewrite fits finish ≡ Went now
    → (rewrite ≡ None → taken ≡ now → finish ≡ None → A) → (rewrite ≡ None → taken ≡ now → (rc : ℕ) → finish ≡ Some (Finishes.Returned rc) → A) → A
by-went taken now (Some rewrite) fits finish e goes returns = absurd (false≢true (ap is_went e))
by-went taken now None false finish e goes returns = absurd (false≢true (ap is_went e))
by-went taken now None true (Some (Finishes.Abend code)) e goes returns = absurd (false≢true (ap is_went e))
by-went taken now None true (Some (Finishes.Returned rc)) e goes returns = returns refl (ap taken_in e) rc refl
by-went taken now None true None e goes returns = goes refl (ap taken_in e) refl

-- ---- the writes so far fit

pub made-fit : (start : StepStart) (taken : ℕ) (closed : Bool) (step : StepRun) (library : Catalog) → IsStepPlace start taken closed step library → step.writes ≤ length (work_at start).writes
made-fit start taken true step library stands =
    let whole : work_at start ≡ work (case_at start) = work_fits start (room_of library step.files) stands.room in
    let most : length (work_at start).writes ≡ length (work (case_at start)).writes = ap (λ (w : Work). length w.writes) whole in
    let made : step.writes ≡ length (work (case_at start)).writes = stands.writes in
    omega (arith, most, made)
made-fit start taken false step library stands =
    let all : (work_at start).writes ≡ upto (case_at start) taken ++ fitting (rest (case_at start) taken) (room_of library step.files) =
    written_from start (upto (case_at start) taken) [] (rest (case_at start) taken) (room_of library step.files) (work_in_parts (case_at start) taken (within_records step.state (case_at start) taken stands.state)) stands.room in
    let long : length (work_at start).writes ≡ length (upto (case_at start) taken) + length (fitting (rest (case_at start) taken) (room_of library step.files)) =
    ap length all ∙ length-append (upto (case_at start) taken) (fitting (rest (case_at start) taken) (room_of library step.files)) in
    let made : step.writes ≡ length (upto (case_at start) taken) = stands.writes in
    omega (arith, long, made)

-- ---- the writes of a unit

no-first : (writes : List Write) → list_all is_behind writes ≡ true → first_rewrite writes ≡ None
no-first [] all = refl
no-first (write ∷ writes) all = by write.output write.image (no-first writes) all
  where
    by : (output : Output) (image : List ℕ) → (list_all is_behind writes ≡ true → first_rewrite writes ≡ None) → (is_behind (record { output = output; image = image }) && list_all is_behind writes) ≡ true
        → first_rewrite (record { output = output; image = image } ∷ writes) ≡ None
    by Main image others all = others all
    by Rejects image others all = others all
    by (InPlace place) image others all = absurd (false≢true all)

-- what a unit comes to at the desk, by whether its writes fit
abbrev end_by : StepStart → StepProgress → Bool → UnitEnd
end_by start before fit = elim fit as (λ fit. UnitEnd) [
  | true ↦ finished_by (program_unit (case_at start) before.taken).finish (program_unit (case_at start) before.taken).writes.items before (next_writes start before)
  | false ↦ record { unit = abended no_more_space; progress = record before { writes = length (work_at start).writes } }
]

pub end-fits : (start : StepStart) (before : StepProgress) → next_writes start before ≤ length (work_at start).writes → unit_end start before ≡ end_by start before true
end-fits start before within = ap (end_by start before) (nat_le-from (next_writes start before) (length (work_at start).writes) within)

pub end-spills : (start : StepStart) (before : StepProgress) → length (work_at start).writes < next_writes start before → unit_end start before ≡ end_by start before false
end-spills start before full =
    ap (end_by start before) (nat_le-beyond (next_writes start before) (length (work_at start).writes) full)

-- how far a step has come before a unit, with what is served by the state of its program
abbrev pub open_at : State → ℕ → ℕ → StepProgress
open_at state taken writes = record { taken = taken; writes = writes; checkpointed = is_checkpointed state; cancelled = is_cancelled state; closed = false }

-- and behind it, where it goes on
abbrev pub further_at : State → ℕ → ℕ → Bool → StepProgress
further_at state taken writes closed = record {
  taken = taken;
  writes = writes;
  checkpointed = closed && is_checkpointed state;
  cancelled = closed && is_cancelled state;
  closed = closed;
}

abbrev end_so : State → Option (ℕ × List ℕ) → ℕ → ℕ → Bool → UnitEnd
end_so state first number count closed = record { unit = went first; progress = further_at state number count closed }

module _ (before after : List ℕ) (layout : Layout) (start : StepStart) (taken : ℕ) (old new : StepRun) (library library' : Catalog) (worked : Worked)
    (stands : IsStepPlace start taken false old library) (shows : ShowsWithin (Unit {0}) before layout start old.writes library)
    (did : HasWorked (Unit {0}) before after layout old new library library' worked) where
  next : AreNext (case_at start) old.state did.heads
  next =
      subst (AreNext (case_at start) old.state) (sym (did.read tt))
      (next_heads (Unit {0}) before layout start taken old library tt stands (so_far_written start taken old library stands) shows)

  pub unit-is : unit_for old did.heads ≡ program_unit (case_at start) taken
  unit-is = done_is old.parm did.heads (case_at start) taken (stands.parm ∙ sym (parm_at start)) old.state stands.state next

  pub writes-are : writes_for old did.heads ≡ (program_unit (case_at start) taken).writes.items
  writes-are = ap (λ (u : UnitDone). u.writes.items) unit-is

  pub finish-is : (program_unit (case_at start) taken).finish ≡ (unit_for old did.heads).finish
  finish-is = ap (λ (u : UnitDone). u.finish) (sym unit-is)

  pub answer-is : worked_by (taken_of (state_of old.parm old.state did.heads)) (rewrite_of library old.files (writes_for old did.heads)) (is_some (room_after (writes_for old did.heads) (room_of library old.files))) (unit_for old did.heads).finish ≡ worked
  unfolding worked_for answer_of
  answer-is = sym did.done.answer

  state-is : new.state ≡ state_of old.parm old.state did.heads
  unfolding behind_unit
  state-is = ap (λ (s : StepRun). s.state) did.done.step

  pub made-is : new.writes ≡ old.writes + count_of library old.files (writes_for old did.heads)
  unfolding behind_unit
  made-is = ap (λ (s : StepRun). s.writes) did.done.step

  pub within : taken ≤ records_taken (case_at start)
  within = within_records old.state (case_at start) taken stands.state

  closed-as : is_closed new.state ≡ is_returned (unit_for old did.heads).finish
  closed-as = ap is_closed state-is ∙ closed_is old.parm old.state did.heads stands.open_or_closed

  pub less-so : (unit_for old did.heads).finish ≡ None → taken < records_taken (case_at start)
  less-so none = not-at-end (case_at start) taken within (finish-is ∙ none)

  pub taken-more : (unit_for old did.heads).finish ≡ None → taken_of (state_of old.parm old.state did.heads) ≡ taken + 1
  taken-more none =
      taken_is (state_of old.parm old.state did.heads) (case_at start) (taken + 1)
      (stands_more old.parm did.heads (case_at start) taken (stands.parm ∙ sym (parm_at start)) old.state stands.state next (less-so none))

  taken-same : taken ≡ records_taken (case_at start) → taken_of (state_of old.parm old.state did.heads) ≡ taken
  taken-same last =
      taken_is (state_of old.parm old.state did.heads) (case_at start) taken
      (stands_same old.parm did.heads (case_at start) taken (stands.parm ∙ sym (parm_at start)) old.state stands.state next last)

  pub kinds : Kinds (case_at start).program (unit_for old did.heads).finish (first_of old.state) (writes_for old did.heads)
  kinds = unit_kinds old.parm old.state did.heads (case_at start) taken stands.state

  -- the writes behind one record more
  pub more-long : taken < records_taken (case_at start) → length (upto (case_at start) (taken + 1)) ≡ next_writes start (open_at old.state taken old.writes)
  more-long less =
      ap length (takes_one (case_at start) taken less).more
      ∙ length-append (upto (case_at start) taken) (program_unit (case_at start) taken).writes.items
      ∙ ap (λ n. n + length (program_unit (case_at start) taken).writes.items) (sym stands.writes)

  -- and behind the closing unit
  pub all-long : taken ≡ records_taken (case_at start) → length (work (case_at start)).writes ≡ next_writes start (open_at old.state taken old.writes)
  all-long last =
      ap length (ends_work (case_at start) taken last).all
      ∙ length-append (upto (case_at start) taken) (program_unit (case_at start) taken).writes.items
      ∙ ap (λ n. n + length (program_unit (case_at start) taken).writes.items) (sym stands.writes)

  -- a rewrite that isn't told counts for nothing
  untold : (place : ℕ) (bytes : List ℕ) → rewrite_of library old.files (writes_for old did.heads) ≡ None → writes_for old did.heads ≡ rewrite place bytes ∷ [] → new.writes ≡ old.writes
  unfolding count_of
  untold place bytes none are =
      let count : count_of library old.files (writes_for old did.heads) ≡ 0 =
      ap (λ r. count_unless r (fitting (writes_for old did.heads) (room_of library old.files))) none
      ∙ ap (λ w. length (filter is_behind (fitting w (room_of library old.files)))) are in
      let made : new.writes ≡ old.writes + count_of library old.files (writes_for old did.heads) = made-is in
      omega (arith, count, made)

  abbrev end_at_went : ℕ → Bool → UnitEnd
  end_at_went now closed = end_so old.state None now new.writes closed

  -- the step went on
  module _ (now : ℕ) (is : worked ≡ Went now) (goes : GoesTo (Unit {0}) after layout start now old new library') where
    -- by a record
    by-record : rewrite_of library old.files (writes_for old did.heads) ≡ None → taken_of (state_of old.parm old.state did.heads) ≡ now → (unit_for old did.heads).finish ≡ None → unit_end start (open_at old.state taken old.writes) ≡ end_at_went now goes.closed
    by-record none same ends =
        let closed : goes.closed ≡ false = sym goes.stands.open_or_closed ∙ closed-as ∙ ap is_returned ends in
        let one_more : taken + 1 ≡ now = sym (taken-more ends) ∙ same in
        let open_now : IsStepPlace start (taken + 1) false new library' = subst (λ n. IsStepPlace start n false new library') (sym one_more) (subst (λ b. IsStepPlace start now b new library') closed goes.stands) in
        let made : new.writes ≡ next_writes start (open_at old.state taken old.writes) = open_now.writes ∙ more-long (less-so ends) in
        let fit : next_writes start (open_at old.state taken old.writes) ≤ length (work_at start).writes = subst (λ n. n ≤ length (work_at start).writes) made (made-fit start (taken + 1) false new library' open_now) in
        end-fits start (open_at old.state taken old.writes) fit
        ∙ ap (λ f. finished_by f (program_unit (case_at start) taken).writes.items (open_at old.state taken old.writes) (next_writes start (open_at old.state taken old.writes))) (finish-is ∙ ends)
        ∙ ap (λ o. end_so old.state o (suc taken) (next_writes start (open_at old.state taken old.writes)) false) (ap first_rewrite (sym writes-are) ∙ no-rewrite none made kinds)
        ∙ ap (λ n. end_so old.state None n (next_writes start (open_at old.state taken old.writes)) false) (let e : suc taken ≡ now = omega (arith, one_more) in e)
        ∙ ap (λ n. end_so old.state None now n false) (sym made)
        ∙ ap (λ b. end_so old.state None now new.writes b) (sym closed)
      where
        no-rewrite : rewrite_of library old.files (writes_for old did.heads) ≡ None → new.writes ≡ next_writes start (open_at old.state taken old.writes) → {first : ℕ} → Kinds (case_at start).program (unit_for old did.heads).finish first (writes_for old did.heads) → first_rewrite (writes_for old did.heads) ≡ None
        no-rewrite none made (go_behind behind) = no-first (writes_for old did.heads) behind
        no-rewrite none made (rewrites place bytes program goes_on below are) =
            let nothing : new.writes ≡ old.writes = untold place bytes none are in
            let one : length (program_unit (case_at start) taken).writes.items ≡ 1 = ap length (sym writes-are ∙ are) in
            absurd (omega (arith, nothing, one, made))

    -- by its closing unit
    by-return : taken_of (state_of old.parm old.state did.heads) ≡ now → (rc : ℕ) → (unit_for old did.heads).finish ≡ Some (Finishes.Returned rc) → unit_end start (open_at old.state taken old.writes) ≡ end_at_went now goes.closed
    by-return same rc ends =
        let closed : goes.closed ≡ true = sym goes.stands.open_or_closed ∙ closed-as ∙ ap is_returned ends in
        let last : taken ≡ records_taken (case_at start) = at-end (case_at start) taken within (λ none. some-not-none (Finishes.Returned rc) (sym (finish-is ∙ ends) ∙ none)) in
        let number : taken ≡ now = sym (taken-same last) ∙ same in
        let closed_now : IsStepPlace start now true new library' = subst (λ b. IsStepPlace start now b new library') closed goes.stands in
        let made : new.writes ≡ next_writes start (open_at old.state taken old.writes) = closed_now.writes ∙ all-long last in
        let fit : next_writes start (open_at old.state taken old.writes) ≤ length (work_at start).writes = subst (λ n. n ≤ length (work_at start).writes) made (made-fit start now true new library' closed_now) in
        end-fits start (open_at old.state taken old.writes) fit
        ∙ ap (λ f. finished_by f (program_unit (case_at start) taken).writes.items (open_at old.state taken old.writes) (next_writes start (open_at old.state taken old.writes))) (finish-is ∙ ends)
        ∙ ap (λ n. end_so old.state None n (next_writes start (open_at old.state taken old.writes)) true) number
        ∙ ap (λ n. end_so old.state None now n true) (sym made)
        ∙ ap (λ b. end_so old.state None now new.writes b) (sym closed)

    pub end-went : unit_end start (open_at old.state taken old.writes) ≡ end_at_went now goes.closed
    end-went =
        by-went (taken_of (state_of old.parm old.state did.heads)) now (rewrite_of library old.files (writes_for old did.heads)) (is_some (room_after (writes_for old did.heads) (room_of library old.files))) (unit_for old did.heads).finish
        (answer-is ∙ is) by-record (λ none. by-return)
