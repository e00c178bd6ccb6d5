-- What the desk makes of a unit by which the step ends with a code, or which rewrites a record.
use Rattle.std.proofs.Common.{◌≡◌, ◌≤◌, ◌<◌, ℕ, ◌+◌, Bool, true, false, List, [], ◌∷◌, ◌++◌, length, take, refl, ap, sym, ◌∙◌, Option, Some, None, arith, length-append}
use Rattle.std.specs.Option.{is_some}
use Rattle.std.proofs.lemmas.Bool.{false≢true}
use Rattle.std.proofs.lemmas.Option.{same_Some}
use Rattle.ckr_base.specs.declared.code.Code.{Code}
use Rattle.ckr_base.specs.declared.code.Code.TheVariants.{System}
use Rattle.ckr_base.specs.declared.programs.Finish.{Finish}
use Rattle.ckr_base.specs.declared.programs.Finish.TheVariants as Finishes
use Rattle.ckr_base.specs.declared.programs.Heads.{Heads}
use Rattle.ckr_desk_turn.proofs.Units.LastUnit.{IsDone, all-done}
use Rattle.ckr_desk_turn.proofs.Rewrite.UnitWrites.{IsPart, unit-part}
use Rattle.ckr_desk_turn.specs.Invariant.{IsOpen, next_writes}
use Rattle.ckr_entry.specs.declared.point.State.{State}
use Rattle.ckr_library.specs.Catalog.{Catalog}
use Rattle.ckr_match.specs.Work as matched
use Rattle.ckr_meaning.proofs.FittingWrites.{fitting-some}
use Rattle.ckr_meaning.proofs.Prefixes.{ends_work}
use Rattle.ckr_meaning.specs.Program.{ProgramCase, OutputRoom, fitting, match_case, plain_case, records_taken, room_after, taken_by, unit_done as program_unit, upto, upto_by, work, work_by}
use Rattle.ckr_match.specs.State.{has_two_inputs}
use Rattle.ckr_meaning.specs.StepRun.{StepStart, case_at, work_at}
use Rattle.ckr_programs.specs.Work as plain
use Rattle.ckr_steps.proofs.NextUnits.{within_records}
use Rattle.ckr_steps.proofs.LaterWrites.{all_fit, some_fit}
use Rattle.ckr_steps.specs.declared.step_run.StepRun.{StepRun}
use Rattle.ckr_steps.specs.declared.step_run.Worked.{Worked}
use Rattle.ckr_steps.specs.declared.step_run.Worked.TheVariants.{Went, Rewrite, Abend}
use Rattle.ckr_steps.specs.Places.{EndsSo, ShowsWithin, IsStepPlace}
use Rattle.ckr_steps.specs.StepUnit.{HasWorked, unit_for, writes_for}
use Rattle.ckr_steps.specs.Units.{state_of, taken_of}
use Rattle.ckr_steps.specs.Writes.{rewrite_of, room_of, worked_by}
use Rattle.ckr_desk_turn.specs.Units.{UnitEnd, abended, finished_by, no_more_space, unit_end}
use Rattle.ckr_volumes.specs.declared.layout.Layout.{Layout}
use Rattle.ckr_desk_refines.proofs.Units.Outcomes.{answer-is, end-fits, end-spills, finish-is, open_at, writes-are}

-- ---- the unit by which a program gives up writes nothing

take-all : {X : Type 0} (xs : List X) → take (length xs) xs ≡ xs
take-all [] = refl
take-all (x ∷ xs) = ap (λ rest. x ∷ rest) (take-all xs)

plain-gives-up : (case : plain.ProgCase) (code : Code) → (plain.work case).finish ≡ Finishes.Abend code → (plain.work case).writes ≡ plain.upto case (length (plain.taken_records case))
plain-gives-up case code ends = by (plain.is_whole case) ends
  where
    by : (whole : Bool) → plain.prog_finish whole ≡ Finishes.Abend code
        → plain.prog_writes case.program case.parm (plain.taken_records case) whole ≡ plain.prog_writes case.program case.parm (take (length (plain.taken_records case)) (plain.taken_records case)) false
    by true e = absurd (unlike 0 code e)
      where
        unlike : (rc : ℕ) (code : Code) → Finishes.Returned rc ≡ Finishes.Abend code → ⊥
        unlike rc code e = cc
    by false e = ap (λ taken. plain.prog_writes case.program case.parm taken false) (sym (take-all (plain.taken_records case)))

matched-gives-up : (case : matched.MatchCase) (code : Code) → (matched.work case).finish ≡ Finishes.Abend code → (matched.work case).writes ≡ matched.upto case (length (matched.taken_records case))
matched-gives-up case code ends = by (matched.is_whole case) _ ends
  where
    by : (whole : Bool) (rejects : ℕ) → matched.match_finish whole rejects ≡ Finishes.Abend code
        → matched.match_writes case.program (matched.case_keys case) (matched.taken_records case) whole ≡ matched.match_writes case.program (matched.case_keys case) (take (length (matched.taken_records case)) (matched.taken_records case)) false
    by true rejects e = absurd (unlike _ code e)
      where
        unlike : (rc : ℕ) (code : Code) → Finishes.Returned rc ≡ Finishes.Abend code → ⊥
        unlike rc code e = cc
    by false rejects e = ap (λ taken. matched.match_writes case.program (matched.case_keys case) taken false) (sym (take-all (matched.taken_records case)))

gives-up : (case : ProgramCase) (code : Code) → (work case).finish ≡ Finishes.Abend code → (work case).writes ≡ upto case (records_taken case)
unfolding work upto records_taken
gives-up case code ends = by (has_two_inputs case.program) ends
  where
    by : (two : Bool) → (work_by two case).finish ≡ Finishes.Abend code → (work_by two case).writes ≡ upto_by two case (taken_by two case)
    by false ends = plain-gives-up (plain_case case) code ends
    by true ends = matched-gives-up (match_case case) code ends

-- ---- what an answer says of the unit

abbrev abends : Worked → Bool
abends (Went taken) = false
abends (Rewrite place image taken) = false
abends (Abend code) = true

abbrev code_in : Worked → Code
code_in (Went taken) = System 0
code_in (Rewrite place image taken) = System 0
code_in (Abend code) = code

pub by-abend : {A : Type 0} (taken : ℕ) (rewrite : Option (ℕ × List ℕ)) (fits : Bool) (finish : Option Finish) (code : Code) → worked_by taken rewrite fits finish ≡ Abend code
    → (fits ≡ false → System 2871 ≡ code → A) → (fits ≡ true → finish ≡ Some (Finishes.Abend code) → A) → A
by-abend taken (Some rewrite) fits finish code e spills ends = absurd (false≢true (ap abends e))
by-abend taken None false finish code e spills ends = spills refl (ap code_in e)
by-abend taken None true (Some (Finishes.Abend own)) code e spills ends = ends refl (ap (λ (c : Code). Some (Finishes.Abend c)) (ap code_in e))
by-abend taken None true (Some (Finishes.Returned rc)) code e spills ends = absurd (false≢true (ap abends e))
by-abend taken None true None code e spills ends = absurd (false≢true (ap abends e))

pub no-room : (room : Option OutputRoom) → is_some room ≡ false → room ≡ None
no-room None e = refl
no-room (Some room) e = absurd (false≢true (sym e))

pub some-room : (room : Option OutputRoom) → is_some room ≡ true → (left : OutputRoom) × (room ≡ Some left)
some-room None e = absurd (false≢true e)
some-room (Some left) e = (left, refl)

-- a step that ends with a code, behind so many writes
abbrev pub end_coded : State → Code → ℕ → ℕ → UnitEnd
end_coded state code taken count = record { unit = abended code; progress = open_at state taken count }

-- what the event of such an end needs: the unit had no space, or its program gave up
pub data Ended (start : StepStart) (taken before now : ℕ) : Type 0 where
  spilled : length (work_at start).writes < before + length (program_unit (case_at start) taken).writes.items → Ended start taken before now
  gave_up : now ≡ before → Ended start taken before now

-- the space for the writes of a unit, by the space for those of the step
module _ (start : StepStart) (taken : ℕ) (old : StepRun) (library : Catalog) (heads : Heads) (stands : IsStepPlace start taken false old library)
    (their_writes : writes_for old heads ≡ (program_unit (case_at start) taken).writes.items) where
  pub opened-so : IsOpen start (open_at old.state taken old.writes)
  opened-so = record { taken = within_records old.state (case_at start) taken stands.state; writes = stands.writes }

  part : IsPart (case_at start) taken
  part = unit-part (case_at start) taken opened-so.taken

  all-so : (work (case_at start)).writes ≡ upto (case_at start) taken ++ (writes_for old heads ++ part.more)
  all-so = part.whole ∙ ap (λ items. upto (case_at start) taken ++ (items ++ part.more)) (sym their_writes)

  abbrev count : ℕ
  count = length (program_unit (case_at start) taken).writes.items

  -- a write has no space
  pub full-so : room_after (writes_for old heads) (room_of library old.files) ≡ None → length (work_at start).writes < next_writes start (open_at old.state taken old.writes)
  full-so none =
      let all : length (work_at start).writes ≡ length (upto (case_at start) taken) + length (fitting (writes_for old heads) (room_of library old.files)) =
      ap length (some_fit start (upto (case_at start) taken) (writes_for old heads) part.more (room_of library old.files) all-so stands.room none)
      ∙ length-append (upto (case_at start) taken) (fitting (writes_for old heads) (room_of library old.files)) in
      let fewer : length (fitting (writes_for old heads) (room_of library old.files)) < length (writes_for old heads) = fitting-some (writes_for old heads) (room_of library old.files) none in
      let same : length (writes_for old heads) ≡ count = ap length their_writes in
      let made : old.writes ≡ length (upto (case_at start) taken) = stands.writes in
      omega (arith, all, fewer, same, made)

  -- all writes have space
  pub fit-so : (left : OutputRoom) → room_after (writes_for old heads) (room_of library old.files) ≡ Some left → next_writes start (open_at old.state taken old.writes) ≤ length (work_at start).writes
  fit-so left fits =
      let all : length (work_at start).writes ≡ (length (upto (case_at start) taken) + length (writes_for old heads)) + length (fitting part.more left) =
      ap length (all_fit start (upto (case_at start) taken) (writes_for old heads) part.more (room_of library old.files) all-so stands.room left fits)
      ∙ length-append (upto (case_at start) taken ++ writes_for old heads) (fitting part.more left)
      ∙ ap (λ n. n + length (fitting part.more left)) (length-append (upto (case_at start) taken) (writes_for old heads)) in
      let same : length (writes_for old heads) ≡ count = ap length their_writes in
      let made : old.writes ≡ length (upto (case_at start) taken) = stands.writes in
      omega (arith, all, same, made)

module _ (before after : List ℕ) (layout : Layout) (start : StepStart) (taken : ℕ) (old new : StepRun) (library library' : Catalog) (worked : Worked)
    (stands : IsStepPlace start taken false old library) (shows : ShowsWithin (Unit {0}) before layout start old.writes library)
    (did : HasWorked (Unit {0}) before after layout old new library library' worked)
    (code : Code) (is : worked ≡ Abend code) (ends : EndsSo (Unit {0}) after layout start code new library') where
  their_writes : writes_for old did.heads ≡ (program_unit (case_at start) taken).writes.items
  their_writes = writes-are before after layout start taken old new library library' worked stands shows did

  opened : IsOpen start (open_at old.state taken old.writes)
  opened = opened-so start taken old library did.heads stands their_writes

  abbrev count_so : ℕ
  count_so = length (program_unit (case_at start) taken).writes.items

  by-space : is_some (room_after (writes_for old did.heads) (room_of library old.files)) ≡ false → System 2871 ≡ code
      → (unit_end start (open_at old.state taken old.writes) ≡ end_coded old.state code taken new.writes) × Ended start taken old.writes new.writes
  by-space none same =
      let full : length (work_at start).writes < next_writes start (open_at old.state taken old.writes) = full-so start taken old library did.heads stands their_writes (no-room (room_after (writes_for old did.heads) (room_of library old.files)) none) in (
        end-spills start (open_at old.state taken old.writes) full
            ∙ ap (λ n. end_coded old.state no_more_space taken n) (sym ends.writes)
            ∙ ap (λ c. end_coded old.state c taken new.writes) same,
        spilled full,
      )

  by-finish : is_some (room_after (writes_for old did.heads) (room_of library old.files)) ≡ true → (unit_for old did.heads).finish ≡ Some (Finishes.Abend code)
      → (unit_end start (open_at old.state taken old.writes) ≡ end_coded old.state code taken new.writes) × Ended start taken old.writes new.writes
  by-finish some finish =
      let left = some-room (room_after (writes_for old did.heads) (room_of library old.files)) some in
      let fit : next_writes start (open_at old.state taken old.writes) ≤ length (work_at start).writes = fit-so start taken old library did.heads stands their_writes left.0 left.1 in
      let ended : (program_unit (case_at start) taken).finish ≡ Some (Finishes.Abend code) = finish-is before after layout start taken old new library library' worked stands shows did ∙ finish in
      let done : IsDone start (open_at old.state taken old.writes) (Finishes.Abend code) = all-done start (open_at old.state taken old.writes) (Finishes.Abend code) opened fit ended in
      let front : length (work (case_at start)).writes ≡ length (upto (case_at start) taken) =
      ap length (gives-up (case_at start) code (its_finish done.last ended)) ∙ ap (λ n. length (upto (case_at start) n)) (sym done.last) in
      let whole : length (work (case_at start)).writes ≡ length (upto (case_at start) taken) + count_so = ap length done.all ∙ length-append (upto (case_at start) taken) (program_unit (case_at start) taken).writes.items in
      let made : old.writes ≡ length (upto (case_at start) taken) = stands.writes in
      let most : next_writes start (open_at old.state taken old.writes) ≡ length (work_at start).writes = done.most in
      let now : new.writes ≡ length (work_at start).writes = ends.writes in
      let same : new.writes ≡ old.writes = omega (arith, front, whole, made, most, now) in (
        end-fits start (open_at old.state taken old.writes) fit
            ∙ ap (λ f. finished_by f (program_unit (case_at start) taken).writes.items (open_at old.state taken old.writes) (next_writes start (open_at old.state taken old.writes))) ended
            ∙ ap (λ n. end_coded old.state code taken n) (sym same),
        gave_up same,
      )
    where
      its_finish : taken ≡ records_taken (case_at start) → (program_unit (case_at start) taken).finish ≡ Some (Finishes.Abend code) → (work (case_at start)).finish ≡ Finishes.Abend code
      its_finish last ended = same_Some _ _ (sym (ends_work (case_at start) taken last).ends ∙ ended)

  -- the desk ends it behind the same writes, with the same code
  pub end-coded : (unit_end start (open_at old.state taken old.writes) ≡ end_coded old.state code taken new.writes) × Ended start taken old.writes new.writes
  end-coded =
      by-abend (taken_of (state_of old.parm old.state did.heads)) (rewrite_of library old.files (writes_for old did.heads)) (is_some (room_after (writes_for old did.heads) (room_of library old.files))) (unit_for old did.heads).finish code
      (answer-is before after layout start taken old new library library' worked stands shows did ∙ is) by-space by-finish
