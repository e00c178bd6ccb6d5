-- What fits of the writes of a step.
use Rattle.std.proofs.Common.{◌≡◌, ◌<◌, ◌==◌, ℕ, Bool, false, if◌then◌else◌, List, [], ◌∷◌, ◌++◌, length, take, Some, None, refl, ap, sym, ◌∙◌, arith}
use Rattle.std.specs.Prelude.{option_and_then}
use Rattle.std.specs.Option.{option_map_or}
use Rattle.std.proofs.lemmas.Bool.Decides.{nat_tests}
use Rattle.ckr_base.specs.declared.code.Code.TheVariants.{System}
use Rattle.ckr_base.specs.declared.programs.Finish.TheVariants.{Abend}
use Rattle.ckr_base.specs.declared.programs.Write.{Write}
use Rattle.ckr_base.proofs.Numbers.{equal-itself}
use Rattle.ckr_base.proofs.Options.{some-not-none}
use Rattle.ckr_programs.specs.Work.{Work}
use Rattle.ckr_meaning.specs.Program.{OutputRoom, room_behind, room_after, fitting, fitting_in, work_within, work}
use Rattle.ckr_meaning.specs.StepRun.{StepStart, case_at, room_at, work_at}

-- what fits of writes and of more writes
pub fitting-append : (first more : List Write) (room : OutputRoom) → fitting (first ++ more) room ≡ fitting first room ++ fitting_in (room_after first room) more
fitting-append [] more room = refl
fitting-append (write ∷ writes) more room =
    elim (room_behind write.output room) as
    (λ left. option_map_or (λ l. write ∷ fitting (writes ++ more) l) left [] ≡ option_map_or (λ l. write ∷ fitting writes l) left [] ++ fitting_in (option_and_then (room_after writes) left) more) [
      | None ↦ refl
      | Some left ↦ ap (λ others. write ∷ others) (fitting-append writes more left)
    ]

-- all writes fit that leave room
pub fitting-all : (writes : List Write) (room left : OutputRoom) → room_after writes room ≡ Some left → fitting writes room ≡ writes
fitting-all [] room left fits = refl
fitting-all (write ∷ writes) room left fits =
    elim (room_behind write.output room) as
    (λ behind. option_and_then (room_after writes) behind ≡ Some left → option_map_or (λ l. write ∷ fitting writes l) behind [] ≡ write ∷ writes) [
      | None ↦ λ none. absurd (some-not-none left (sym none))
      | Some behind ↦ λ fits. ap (λ others. write ∷ others) (fitting-all writes behind left fits)
    ] fits

-- where they leave none, fewer fit
pub fitting-some : (writes : List Write) (room : OutputRoom) → room_after writes room ≡ None → length (fitting writes room) < length writes
fitting-some [] room none = absurd (some-not-none room none)
fitting-some (write ∷ writes) room none =
    elim (room_behind write.output room) as
    (λ behind. option_and_then (room_after writes) behind ≡ None → length (option_map_or (λ l. write ∷ fitting writes l) behind []) < length (write ∷ writes)) [
      | None ↦ λ none. omega arith
      | Some behind ↦ λ none. let fewer : length (fitting writes behind) < length writes = fitting-some writes behind none in omega arith
    ] none

-- what fits is a front of the writes
pub fitting-front : (writes : List Write) (room : OutputRoom) → take (length (fitting writes room)) writes ≡ fitting writes room
fitting-front [] room = refl
fitting-front (write ∷ writes) room =
    elim (room_behind write.output room) as
    (λ behind. take (length (option_map_or (λ l. write ∷ fitting writes l) behind [])) (write ∷ writes) ≡ option_map_or (λ l. write ∷ fitting writes l) behind []) [
      | None ↦ refl
      | Some left ↦ ap (λ others. write ∷ others) (fitting-front writes left)
    ]

fewer : (count all : ℕ) → count < all → (count == all) ≡ false
fewer count all less = grind (arith, nat_tests)

abbrev ended_by : Work → List Write → Bool → Work
ended_by whole writes all = record { writes = writes; finish = if all then whole.finish else Abend (System 2871) }

-- the work as a whole fits
pub work_within-all : (whole : Work) (room left : OutputRoom) → room_after whole.writes room ≡ Some left → work_within room whole ≡ whole
unfolding work_within
work_within-all whole room left fits =
    ap (λ writes. ended_by whole writes (length writes == length whole.writes)) (fitting-all whole.writes room left fits)
    ∙ ap (ended_by whole whole.writes) (equal-itself (length whole.writes))

-- a write that doesn't fit ends the work
pub finish-work_within : (whole : Work) (room : OutputRoom) → room_after whole.writes room ≡ None → (work_within room whole).finish ≡ Abend (System 2871)
unfolding work_within
finish-work_within whole room none =
    ap (λ all. if all then whole.finish else Abend (System 2871)) (fewer (length (fitting whole.writes room)) (length whole.writes) (fitting-some whole.writes room none))

-- so ends a step
pub work_at-all : (start : StepStart) (left : OutputRoom) → room_after (work (case_at start)).writes (room_at start) ≡ Some left → work_at start ≡ work (case_at start)
unfolding work_at
work_at-all start left fits = work_within-all (work (case_at start)) (room_at start) left fits

pub finish-work_at : (start : StepStart) → room_after (work (case_at start)).writes (room_at start) ≡ None → (work_at start).finish ≡ Abend (System 2871)
unfolding work_at
finish-work_at start none = finish-work_within (work (case_at start)) (room_at start) none
