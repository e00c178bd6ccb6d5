-- What a unit does is what is next of the work.
use Rattle.std.proofs.Common.{◌≡◌, ◌≤◌, ◌<◌, ℕ, ◌+◌, Bool, true, false, cond, List, [], ◌∷◌, ◌++◌, map, length, take, drop, Option, Some, None, refl, sym, ap, ◌∙◌, subst, arith, add-one}
use Rattle.std.specs.List.{slice_get}
use Rattle.std.proofs.lemmas.Bool.{lt-ltb, le-ltb}
use Rattle.std.proofs.lemmas.List.{take-append-drop, length-take-le}
use Rattle.std.proofs.lemmas.List.Sums.{sum_by_push}
use Rattle.std.proofs.Math.Seq.{drop-append_seam, drop-length}
use Rattle.ckr_base.specs.declared.programs.UnitDone.{UnitDone}
use Rattle.ckr_jcl.specs.declared.deck.Parm.{Parm}
use Rattle.ckr_programs.specs.declared.state.ProgState.{ProgState}
use Rattle.ckr_programs.specs.Records.{can_take, amount_of}
use Rattle.ckr_programs.specs.Work.{ProgCase, input_of, taken_records, is_whole, to_main, sum_of, closing_images, prog_writes, prog_finish, work, upto, rest}
use Rattle.ckr_programs.specs.Units.{StandsFor, IsUnitAt, unit_done, between, images_at}
use Rattle.ckr_programs.specs.Steps.{closing_unit, record_unit, behind_record, closed_state}
use Rattle.ckr_programs.proofs.InputRecords.{IsTaken, next_taken, next_cut, no_next}
use Rattle.ckr_programs.proofs.OutputRecords.{images_from, images_from-single, more_writes, writes-append, more_writes-none, no_more_writes}

-- the work is the writes for the first records and what the others add
pub work_split : (case : ProgCase) (taken : ℕ) → taken ≤ length (taken_records case) → (work case).writes ≡ upto case taken ++ more_writes case.program case.parm taken (sum_of case.program case.parm (take taken (taken_records case))) (drop taken (taken_records case)) (is_whole case)
work_split case taken within =
    let first = take taken (taken_records case) in
    let others = drop taken (taken_records case) in
    ap (λ all. prog_writes case.program case.parm all (is_whole case)) (sym (take-append-drop taken (taken_records case)))
    ∙ writes-append case.program case.parm first others (is_whole case)
    ∙ ap (λ place. upto case taken ++ more_writes case.program case.parm place (sum_of case.program case.parm first) others (is_whole case)) (length-take-le taken (taken_records case) within)

pub rest_is : (case : ProgCase) (taken : ℕ) → taken ≤ length (taken_records case) → rest case taken ≡ more_writes case.program case.parm taken (sum_of case.program case.parm (take taken (taken_records case))) (drop taken (taken_records case)) (is_whole case)
rest_is case taken within = ap (drop (length (upto case taken))) (work_split case taken within) ∙ drop-append_seam (upto case taken) _

-- one record more
pub upto_more : (case : ProgCase) (taken : ℕ) (bytes : List ℕ) → taken ≤ length (taken_records case) → take (taken + 1) (taken_records case) ≡ take taken (taken_records case) ++ bytes ∷ [] → upto case (taken + 1) ≡ upto case taken ++ map to_main (images_at case.program case.parm taken bytes)
upto_more case taken bytes within more =
    let first = take taken (taken_records case) in
    ap (λ all. prog_writes case.program case.parm all false) more
    ∙ writes-append case.program case.parm first (bytes ∷ []) false
    ∙ ap (λ place. upto case taken ++ map to_main (images_from case.program case.parm place (bytes ∷ []))) (length-take-le taken (taken_records case) within)
    ∙ ap (λ lines. upto case taken ++ map to_main lines) (images_from-single case.program case.parm taken bytes)

-- the next record is taken
pub taking : (case : ProgCase) (taken : ℕ) (bytes : List ℕ) → taken ≤ length (taken_records case) → slice_get (input_of case) taken ≡ Some bytes → can_take case.program case.parm bytes ≡ true → IsTaken (can_take case.program case.parm) (input_of case) taken bytes
unfolding taken_records
taking case taken bytes within head can = next_taken (can_take case.program case.parm) (input_of case) taken bytes head within can

-- the next record can't be taken
pub cutting : (case : ProgCase) (taken : ℕ) (bytes : List ℕ) → taken ≤ length (taken_records case) → slice_get (input_of case) taken ≡ Some bytes → can_take case.program case.parm bytes ≡ false → (taken ≡ length (taken_records case)) × (is_whole case ≡ false)
unfolding taken_records is_whole
cutting case taken bytes within head can =
    let end = next_cut (can_take case.program case.parm) (input_of case) taken bytes head within can in
    (end.all, end.whole)

-- no record is left
pub ending : (case : ProgCase) (taken : ℕ) → taken ≤ length (taken_records case) → slice_get (input_of case) taken ≡ None → (taken ≡ length (taken_records case)) × (is_whole case ≡ true)
unfolding taken_records is_whole
ending case taken within head =
    let end = no_next (can_take case.program case.parm) (input_of case) taken head within in
    (end.all, end.whole)

-- the facts of a taken record, for the records of the case
pub record Takes (case : ProgCase) (taken : ℕ) (bytes : List ℕ) : Type 0 where
  pub within : taken < length (taken_records case)
  pub more : take (taken + 1) (taken_records case) ≡ take taken (taken_records case) ++ bytes ∷ []

pub takes : (case : ProgCase) (taken : ℕ) (bytes : List ℕ) → taken ≤ length (taken_records case) → slice_get (input_of case) taken ≡ Some bytes → can_take case.program case.parm bytes ≡ true → Takes case taken bytes
unfolding taken_records
takes case taken bytes within head can =
    let part = next_taken (can_take case.program case.parm) (input_of case) taken bytes head within can in
    record { within = part.within; more = ap (λ n. take n (taken_records case)) (add-one taken) ∙ part.more }

-- the unit behind all records but the last
pub unit_of_record : (case : ProgCase) (taken : ℕ) (bytes : List ℕ) → Takes case taken bytes → unit_done case taken ≡ record { taken = 1; writes = record { items = map to_main (images_at case.program case.parm taken bytes) }; finish = None }
unfolding unit_done
unit_of_record case taken bytes t =
    let piece : between case taken ≡ map to_main (images_at case.program case.parm taken bytes) =
    ap (drop (length (upto case taken))) (upto_more case taken bytes (omega (arith, t.within)) t.more) ∙ drop-append_seam (upto case taken) _ in
    rw (lt-ltb taken (length (taken_records case)) t.within) (ap (λ items. record { taken = 1; writes = record { items = items }; finish = None }) piece)

pub unit_at_end : (case : ProgCase) (taken : ℕ) → taken ≡ length (taken_records case) → unit_done case taken ≡ record { taken = 0; writes = record { items = rest case taken }; finish = Some (work case).finish }
unfolding unit_done
unit_at_end case taken e = rw (le-ltb taken (length (taken_records case)) (omega (arith, e))) refl

pub rest_at_end : (case : ProgCase) (taken : ℕ) (whole : Bool) → taken ≡ length (taken_records case) → is_whole case ≡ whole → rest case taken ≡ more_writes case.program case.parm taken (sum_of case.program case.parm (take taken (taken_records case))) [] whole
rest_at_end case taken whole e w =
    rest_is case taken (omega (arith, e))
    ∙ ap (λ left. more_writes case.program case.parm taken (sum_of case.program case.parm (take taken (taken_records case))) left (is_whole case)) (ap (λ n. drop n (taken_records case)) e ∙ drop-length (taken_records case))
    ∙ ap (λ b. more_writes case.program case.parm taken (sum_of case.program case.parm (take taken (taken_records case))) [] b) w

-- ---- the code's units

same_can : {state : ProgState} {parm : Parm} {head : Option (List ℕ)} {case : ProgCase} {taken : ℕ} (at : IsUnitAt state parm head case taken) (bytes : List ℕ) → can_take state.kind parm bytes ≡ can_take case.program case.parm bytes
same_can {parm = parm} {case = case} at bytes = ap (λ k. can_take k parm bytes) at.stands.program ∙ ap (λ p. can_take case.program p bytes) at.parm_of

same_lines : {state : ProgState} {parm : Parm} {head : Option (List ℕ)} {case : ProgCase} {taken : ℕ} (at : IsUnitAt state parm head case taken) (bytes : List ℕ) → images_at state.kind parm state.first bytes ≡ images_at case.program case.parm taken bytes
same_lines {state} {parm} {head} {case} {taken} at bytes =
    ap (λ k. images_at k parm state.first bytes) at.stands.program
    ∙ ap (λ p. images_at case.program p state.first bytes) at.parm_of
    ∙ ap (λ n. images_at case.program case.parm n bytes) at.stands.first

same_amount : {state : ProgState} {parm : Parm} {head : Option (List ℕ)} {case : ProgCase} {taken : ℕ} (at : IsUnitAt state parm head case taken) (bytes : List ℕ) → amount_of state.kind parm bytes ≡ amount_of case.program case.parm bytes
same_amount {parm = parm} {case = case} at bytes = ap (λ k. amount_of k parm bytes) at.stands.program ∙ ap (λ p. amount_of case.program p bytes) at.parm_of

same_closing : {state : ProgState} {parm : Parm} {head : Option (List ℕ)} {case : ProgCase} {taken : ℕ} (at : IsUnitAt state parm head case taken) → closing_images state.kind parm state.sum ≡ closing_images case.program case.parm (sum_of case.program case.parm (take taken (taken_records case)))
same_closing {state} {parm} {head} {case} {taken} at =
    ap (λ k. closing_images k parm state.sum) at.stands.program
    ∙ ap (λ p. closing_images case.program p state.sum) at.parm_of
    ∙ ap (λ n. closing_images case.program case.parm n) at.stands.sum

pub closing_done : (state : ProgState) (parm : Parm) (case : ProgCase) (taken : ℕ) → IsUnitAt state parm None case taken → closing_unit parm state ≡ unit_done case taken
closing_done state parm case taken at =
    let end = ending case taken at.stands.within (sym at.head_of) in
    let written : rest case taken ≡ map to_main (closing_images state.kind parm state.sum) =
    rest_at_end case taken true end.0 end.1
    ∙ more_writes-none case.program case.parm taken (sum_of case.program case.parm (take taken (taken_records case)))
    ∙ ap (map to_main) (sym (same_closing at)) in
    sym (unit_at_end case taken end.0
    ∙ ap (λ items. record { taken = 0; writes = record { items = items }; finish = Some (work case).finish }) written
    ∙ ap (λ whole. record { taken = 0; writes = record { items = map to_main (closing_images state.kind parm state.sum) }; finish = Some (prog_finish whole) }) end.1)

pub closing_stands : (state : ProgState) (parm : Parm) (case : ProgCase) (taken : ℕ) → IsUnitAt state parm None case taken → StandsFor (closed_state state) case (taken + 0)
closing_stands state parm case taken at =
    subst (λ n. StandsFor (closed_state state) case n) (let e : taken ≡ taken + 0 = omega arith in e) (record {
      program = at.stands.program;
      within = at.stands.within;
      first = at.stands.first;
      second = at.stands.second;
      rejects = at.stands.rejects;
      sum = at.stands.sum;
    })

pub record_done : (state : ProgState) (parm : Parm) (case : ProgCase) (taken : ℕ) (bytes : List ℕ) → IsUnitAt state parm (Some bytes) case taken → record_unit parm state bytes ≡ unit_done case taken
record_done state parm case taken bytes at = by (can_take state.kind parm bytes) (sym (same_can at bytes))
  where
    by : (can : Bool) → can_take case.program case.parm bytes ≡ can → cond can (record { taken = 1; writes = record { items = map to_main (images_at state.kind parm state.first bytes) }; finish = None }) (record { taken = 0; writes = record { items = [] }; finish = Some (prog_finish false) }) ≡ unit_done case taken
    by true can =
        ap (λ lines. record { taken = 1; writes = record { items = map to_main lines }; finish = None }) (same_lines at bytes)
        ∙ sym (unit_of_record case taken bytes (takes case taken bytes at.stands.within (sym at.head_of) can))
    by false can =
        let end = cutting case taken bytes at.stands.within (sym at.head_of) can in
        let written : rest case taken ≡ [] =
        rest_at_end case taken false end.0 end.1
        ∙ no_more_writes case.program case.parm taken (sum_of case.program case.parm (take taken (taken_records case))) in
        sym (unit_at_end case taken end.0
        ∙ ap (λ items. record { taken = 0; writes = record { items = items }; finish = Some (work case).finish }) written
        ∙ ap (λ whole. record { taken = 0; writes = record { items = [] }; finish = Some (prog_finish whole) }) end.1)

pub record_stands : (state : ProgState) (parm : Parm) (case : ProgCase) (taken : ℕ) (bytes : List ℕ) → IsUnitAt state parm (Some bytes) case taken → StandsFor (behind_record parm state bytes) case (taken + (record_unit parm state bytes).taken)
record_stands state parm case taken bytes at = by (can_take state.kind parm bytes) (sym (same_can at bytes))
  where
    by : (can : Bool) → can_take case.program case.parm bytes ≡ can → StandsFor (cond can (record state { first = state.first + 1; sum = state.sum + amount_of state.kind parm bytes; checkpointed = false; cancelled = false }) state) case (taken + (cond {A = UnitDone} can (record { taken = 1; writes = record { items = map to_main (images_at state.kind parm state.first bytes) }; finish = None }) (record { taken = 0; writes = record { items = [] }; finish = Some (prog_finish false) })).taken)
    by true can =
        let part = takes case taken bytes at.stands.within (sym at.head_of) can in
        record {
          program = at.stands.program;
          within = omega (arith, part.within);
          first = ap (λ n. n + 1) at.stands.first;
          second = at.stands.second;
          rejects = at.stands.rejects;
          sum =
              ap (λ n. n + amount_of state.kind parm bytes) at.stands.sum
              ∙ ap (λ n. sum_of case.program case.parm (take taken (taken_records case)) + n) (same_amount at bytes)
              ∙ sym (ap (sum_of case.program case.parm) part.more ∙ sum_by_push (amount_of case.program case.parm) (take taken (taken_records case)) bytes);
        }
    by false can = subst (λ n. StandsFor state case n) (let e : taken ≡ taken + 0 = omega arith in e) at.stands
