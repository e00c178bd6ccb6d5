-- A running step behind the unit by which its program returns; and the writes of a unit that doesn't fit.
use Rattle.std.proofs.Common.{◌≡◌, ◌≤◌, ◌<◌, ◌≢◌, ◌+◌, ◌-◌, ℕ, true, false, List, [], ◌++◌, drop, length, ap, sym, ◌∙◌, subst, Some, None, arith, append-nil, length-append}
use Rattle.std.specs.List.{list_all}
use Rattle.std.proofs.lemmas.Option.{same_Some}
use Rattle.ckr_base.specs.declared.code.Code.TheVariants.{System}
use Rattle.ckr_base.specs.declared.programs.Finish.{Finish}
use Rattle.ckr_base.specs.declared.programs.Finish.TheVariants.{Abend, Returned}
use Rattle.ckr_base.specs.declared.programs.Write.{Write}
use Rattle.ckr_base.proofs.Bools.{bool-cases}
use Rattle.ckr_base.proofs.Numbers.{number-cases}
use Rattle.ckr_base.proofs.Options.{option-cases, some-not-none}
use Rattle.ckr_base.proofs.Sequences.{all-drop, all-take}
use Rattle.ckr_meaning.specs.Program.{ProgramCase, fitting, records_taken, room_after, unit_done, upto, work, work_within}
use Rattle.ckr_meaning.specs.StepRun.{StepStart, case_at, room_at, work_at}
use Rattle.ckr_meaning.proofs.FittingWrites.{finish-work_at, fitting-front, fitting-some, work_at-all}
use Rattle.ckr_meaning.proofs.Prefixes.{ends_work, takes_one}
use Rattle.ckr_points.specs.Follows.{is_update}
use Rattle.ckr_points.specs.Payload.{rewrites_nothing}
use Rattle.ckr_points.specs.Office.{Office}
use Rattle.ckr_programs.specs.Work.{Work}
use Rattle.ckr_desk_turn.specs.Desk.{DeskStep}
use Rattle.ckr_desk_turn.specs.Units.{StepProgress}
use Rattle.ckr_desk_turn.specs.Invariant.{IsGoing, IsOpen, next_writes}
use Rattle.ckr_desk_turn.proofs.Units.Progress.{adds, goes-behind}
use Rattle.ckr_desk_turn.proofs.Rewrite.UnitWrites.{IsPart, ending-adds, unit-once, unit-part, work-adds}

-- a step with room for all its writes does all its program's work
all_fit : (start : StepStart) → length (work (case_at start)).writes ≤ length (work_at start).writes → work_at start ≡ work (case_at start)
unfolding work_at work_within
all_fit start fit =
    option-cases (room_after (work (case_at start)).writes (room_at start))
    (λ none.
    let fewer : length (fitting (work (case_at start)).writes (room_at start)) < length (work (case_at start)).writes = fitting-some (work (case_at start)).writes (room_at start) none in
    let enough : length (work (case_at start)).writes ≤ length (fitting (work (case_at start)).writes (room_at start)) = fit in
    absurd (omega (arith, fewer, enough)))
    (λ left some. work_at-all start left some)

-- the unit that ends a program comes behind the last record
pub at-end : (case : ProgramCase) (taken : ℕ) → taken ≤ records_taken case → (unit_done case taken).finish ≢ None → taken ≡ records_taken case
at-end case taken within ends =
    number-cases taken (records_taken case) (λ same. same) (λ apart. absurd (ends (takes_one case taken (omega (arith, apart, within))).goes_on))

-- any other one takes a record
pub not-at-end : (case : ProgramCase) (taken : ℕ) → taken ≤ records_taken case → (unit_done case taken).finish ≡ None → taken < records_taken case
not-at-end case taken within none =
    number-cases taken (records_taken case)
    (λ same. absurd (some-not-none (work case).finish (sym (ends_work case taken same).ends ∙ none)))
    (λ apart. omega (arith, apart, within))

-- where the unit that ends a program fits, the step does all its program's work
pub record IsDone (start : StepStart) (progress : StepProgress) (finish : Finish) : Type 0 where
  pub last : progress.taken ≡ records_taken (case_at start)
  pub all : (work (case_at start)).writes ≡ upto (case_at start) progress.taken ++ (unit_done (case_at start) progress.taken).writes.items
  pub most : next_writes start progress ≡ length (work_at start).writes
  pub ends : (work_at start).finish ≡ finish

pub all-done : (start : StepStart) (progress : StepProgress) (finish : Finish) → IsOpen start progress → next_writes start progress ≤ length (work_at start).writes → (unit_done (case_at start) progress.taken).finish ≡ Some finish → IsDone start progress finish
all-done start progress finish opened fit ended =
    let case : ProgramCase = case_at start in
    let last : progress.taken ≡ records_taken case = at-end case progress.taken opened.taken (λ none. some-not-none finish (sym ended ∙ none)) in
    let items : List Write = (unit_done (case_at start) progress.taken).writes.items in
    let all : (work case).writes ≡ upto case progress.taken ++ items = (ends_work case progress.taken last).all in
    let most : length (work case).writes ≡ next_writes start progress = ap length all ∙ length-append (upto case progress.taken) items ∙ ap (λ n. n + length items) (sym opened.writes) in
    let whole : work_at start ≡ work case = all_fit start (subst (λ n. n ≤ length (work_at start).writes) (sym most) fit) in
    record {
      last = last;
      all = all;
      most = sym most ∙ sym (ap (λ (work : Work). length work.writes) whole);
      ends = ap (λ (work : Work). work.finish) whole ∙ same_Some _ _ (sym (ends_work case progress.taken last).ends ∙ ended);
    }

-- a unit that fits and ends its program with a return code: the step is closed
pub goes-closed : (office : Office) (on : DeskStep) (going : IsGoing office on) (rc : ℕ) → IsOpen going.start on.progress → next_writes going.start on.progress ≤ length (work_at going.start).writes → (unit_done (case_at going.start) on.progress.taken).finish ≡ Some (Returned rc)
    → IsGoing office (record { run = on.run; progress = record on.progress { writes = next_writes going.start on.progress; closed = true }; code = None })
goes-closed office on going rc opened fit returned =
    let items : List Write = (unit_done (case_at going.start) on.progress.taken).writes.items in
    let done : IsDone going.start on.progress (Returned rc) = all-done going.start on.progress (Returned rc) opened fit returned in
    goes-behind office on going (record on.progress { closed = true }) [] opened
    (done.all ∙ ap (λ xs. upto (case_at going.start) on.progress.taken ++ xs) (sym (append-nil items))) fit
    (ending-adds (case_at going.start) on.progress.taken done.last)
    (record { writes = done.most; rc = rc; returned = done.ends })

-- ---- a unit that doesn't fit

-- of another program than UPDATE no write rewrites
others-plain : (start : StepStart) (from to : ℕ) → is_update start.owned.step.program ≡ false → rewrites_nothing start from to ≡ true
unfolding work_at work_within case_at
others-plain start from to isnt =
    all-take adds (to - from) (drop from (work_at start).writes)
    (all-drop adds from (work_at start).writes
    (subst (λ writes. list_all adds writes ≡ true) (fitting-front (work (case_at start)).writes (room_at start))
    (all-take adds (length (fitting (work (case_at start)).writes (room_at start))) (work (case_at start)).writes (work-adds (case_at start) isnt))))

pub update-once : (start : StepStart) (taken : ℕ) → taken ≤ records_taken (case_at start) → is_update start.owned.step.program ≡ true → length (unit_done (case_at start) taken).writes.items ≤ 1
unfolding case_at
update-once start taken within updates = unit-once (case_at start) taken within updates

-- the writes up to the first that doesn't fit rewrite nothing
pub full-plain : (office : Office) (on : DeskStep) (going : IsGoing office on) → IsOpen going.start on.progress → length (work_at going.start).writes < next_writes going.start on.progress → rewrites_nothing going.start going.committed (length (work_at going.start).writes) ≡ true
full-plain office on going opened full =
    bool-cases (is_update going.start.owned.step.program)
    (λ updates.
    let once : length (unit_done (case_at going.start) on.progress.taken).writes.items ≤ 1 = update-once going.start on.progress.taken opened.taken updates in
    let fit : on.progress.writes ≤ length (work_at going.start).writes = going.fit in
    let none : on.progress.writes ≡ length (work_at going.start).writes = omega (arith, once, fit, full) in
    subst (λ n. rewrites_nothing going.start going.committed n ≡ true) none going.plain)
    (λ isnt. others-plain going.start going.committed (length (work_at going.start).writes) isnt)

-- and the work of the step ends there, with SB37
pub full-ends : (start : StepStart) (progress : StepProgress) → IsOpen start progress → length (work_at start).writes < next_writes start progress → (work_at start).finish ≡ Abend (System 2871)
full-ends start progress opened full =
    option-cases (room_after (work (case_at start)).writes (room_at start))
    (λ none. finish-work_at start none)
    (λ left some.
    let items : List Write = (unit_done (case_at start) progress.taken).writes.items in
    let part : IsPart (case_at start) progress.taken = unit-part (case_at start) progress.taken opened.taken in
    let whole : length (work_at start).writes ≡ length (upto (case_at start) progress.taken) + length (items ++ part.more) =
    ap (λ (work : Work). length work.writes) (work_at-all start left some) ∙ ap length part.whole ∙ length-append (upto (case_at start) progress.taken) (items ++ part.more) in
    let behind : length (items ++ part.more) ≡ length items + length part.more = length-append items part.more in
    let count : progress.writes ≡ length (upto (case_at start) progress.taken) = opened.writes in
    absurd (omega (arith, whole, behind, count, full)))
