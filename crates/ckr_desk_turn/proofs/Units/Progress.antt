-- A running step behind one more unit that fits and rewrites nothing.
use Rattle.std.proofs.Common.{◌≡◌, ◌≤◌, ◌<◌, ◌+◌, ◌-◌, ℕ, zero, suc, Bool, true, not, ◌&&◌, List, [], ◌∷◌, ◌++◌, drop, take, length, refl, ap, sym, ◌∙◌, subst, Option, Some, None, arith, length-append, append_assoc}
use Rattle.std.specs.List.{list_all}
use Rattle.std.proofs.lemmas.Bool.{and_from}
use Rattle.ckr_base.specs.declared.programs.Output.{Output}
use Rattle.ckr_base.specs.declared.programs.Output.TheVariants.{Main, Rejects, InPlace}
use Rattle.ckr_base.specs.declared.programs.Write.{Write}
use Rattle.ckr_base.proofs.Bools.{and-first, and-second}
use Rattle.ckr_base.proofs.Options.{some-not-none}
use Rattle.ckr_meaning.specs.Program.{records_taken, rest, unit_done, upto, work, work_within}
use Rattle.ckr_meaning.specs.StepRun.{StepStart, case_at, room_at, work_at}
use Rattle.ckr_meaning.proofs.FittingWrites.{fitting-front}
use Rattle.ckr_meaning.proofs.Prefixes.{TakesOne, takes_one, work_in_parts}
use Rattle.ckr_points.specs.Payload.{is_in_place, rewrites_nothing}
use Rattle.ckr_points.specs.Office.{Office}
use Rattle.ckr_points.specs.Soundness.{rewrite_of}
use Rattle.ckr_desk_turn.specs.Units.{StepProgress, arrived, first_rewrite}
use Rattle.ckr_desk_turn.specs.Desk.{DeskStep}
use Rattle.ckr_desk_turn.specs.Invariant.{HasCome, IsGoing, IsOpen, next_writes}

-- a write that is no rewrite
abbrev pub adds : Write → Bool
adds write = not (is_in_place write.output)

-- where no rewrite is the first, there is none
pub no-rewrite : (writes : List Write) → first_rewrite writes ≡ None → list_all adds writes ≡ true
no-rewrite [] none = refl
no-rewrite (write ∷ writes) none =
    by write.output (no-rewrite writes) none
  where
    by : (output : Output) → (first_rewrite writes ≡ None → list_all adds writes ≡ true) → ◌≡◌ {A = Option (ℕ × List ℕ)} (elim (rewrite_of output write.image) [ Some at ↦ Some at | None ↦ first_rewrite writes ]) None → (not (is_in_place output) && list_all adds writes) ≡ true
    by Main others none = others none
    by Rejects others none = others none
    by (InPlace place) others none = absurd (some-not-none (place, write.image) none)

all-none : (test : Write → Bool) (count : ℕ) → list_all test (take count (let none : List Write = [] in none)) ≡ true
all-none test zero = refl
all-none test (suc count) = refl

drop-none : (count : ℕ) → drop count (let none : List Write = [] in none) ≡ []
drop-none zero = refl
drop-none (suc count) = refl

all-parts : (test : Write → Bool) (count more : ℕ) (xs : List Write) → list_all test (take count xs) ≡ true → list_all test (take more (drop count xs)) ≡ true → list_all test (take (count + more) xs) ≡ true
all-parts test zero more xs one other = subst (λ n. list_all test (take n xs) ≡ true) (let e : more ≡ 0 + more = omega arith in e) other
all-parts test (suc count) more [] one other = all-none test (suc count + more)
all-parts test (suc count) more (x ∷ xs) one other =
    subst (λ n. list_all test (take n (x ∷ xs)) ≡ true) (let e : suc (count + more) ≡ suc count + more = omega arith in e)
    (and_from (test x) _ (and-first (test x) _ one) (all-parts test count more xs (and-second (test x) _ one) other))

drop-more : (count more : ℕ) (xs : List Write) → drop more (drop count xs) ≡ drop (count + more) xs
drop-more zero more xs = ap (λ n. drop n xs) (let e : more ≡ 0 + more = omega arith in e)
drop-more (suc count) more [] = drop-none more ∙ sym (drop-none (suc count + more))
drop-more (suc count) more (x ∷ xs) = drop-more count more xs ∙ ap (λ n. drop n (x ∷ xs)) (let e : suc (count + more) ≡ suc count + more = omega arith in e)

middle : (front items more : List Write) (most : ℕ) → length front + length items ≤ most → take (length items) (drop (length front) (take most (front ++ (items ++ more)))) ≡ items
middle [] [] more most within = refl
middle [] (x ∷ items) more zero within = absurd (omega arith)
middle [] (x ∷ items) more (suc most) within = ap (λ xs. x ∷ xs) (middle [] items more most (omega arith))
middle (y ∷ front) items more zero within = absurd (omega arith)
middle (y ∷ front) items more (suc most) within = middle front items more most (omega arith)

-- ---- the writes of a unit that fits

module _ (start : StepStart) (front items more : List Write) (whole : (work (case_at start)).writes ≡ front ++ (items ++ more)) (fit : length front + length items ≤ length (work_at start).writes) where
  pub fitted_writes : (work_at start).writes ≡ take (length (work_at start).writes) (work (case_at start)).writes
  unfolding work_at work_within
  fitted_writes = sym (fitting-front (work (case_at start)).writes (room_at start))

  pub its_writes : take (length items) (drop (length front) (work_at start).writes) ≡ items
  its_writes =
      ap (λ xs. take (length items) (drop (length front) xs)) (fitted_writes ∙ ap (take (length (work_at start).writes)) whole)
      ∙ middle front items more (length (work_at start).writes) fit

  -- nothing is rewritten up to the unit's last write
  pub plain-next : (committed : ℕ) → committed ≤ length front → rewrites_nothing start committed (length front) ≡ true → list_all adds items ≡ true → rewrites_nothing start committed (length front + length items) ≡ true
  plain-next committed behind plain none =
      subst (λ n. list_all adds (take n (drop committed (work_at start).writes)) ≡ true)
      (let e : (length front - committed) + length items ≡ (length front + length items) - committed = omega (arith, behind) in e)
      (all-parts adds (length front - committed) (length items) (drop committed (work_at start).writes) plain
      (ap (λ xs. list_all adds (take (length items) xs)) (drop-more committed (length front - committed) (work_at start).writes ∙ ap (λ n. drop n (work_at start).writes) (let e : committed + (length front - committed) ≡ length front = omega (arith, behind) in e))
      ∙ ap (list_all adds) its_writes ∙ none))

-- ---- a running step

-- behind a unit whose writes fit and rewrite nothing
pub goes-behind : (office : Office) (on : DeskStep) (going : IsGoing office on) (base : StepProgress) (more : List Write) → IsOpen going.start on.progress
    → (work (case_at going.start)).writes ≡ upto (case_at going.start) on.progress.taken ++ ((unit_done (case_at going.start) on.progress.taken).writes.items ++ more)
    → next_writes going.start on.progress ≤ length (work_at going.start).writes → list_all adds (unit_done (case_at going.start) on.progress.taken).writes.items ≡ true
    → HasCome going.start (record base { writes = next_writes going.start on.progress }) base.closed
    → IsGoing office (record { run = on.run; progress = record base { writes = next_writes going.start on.progress }; code = None })
goes-behind office on going base more opened whole fit none come =
    let items : List Write = (unit_done (case_at going.start) on.progress.taken).writes.items in
    let front : List Write = upto (case_at going.start) on.progress.taken in
    let count : on.progress.writes ≡ length front = opened.writes in
    record {
      row = going.row;
      row_at = going.row_at;
      on = going.on;
      number = going.number;
      committed = going.committed;
      place = going.place;
      start = going.start;
      start_at = going.start_at;
      fit = fit;
      behind = let behind : going.committed ≤ on.progress.writes = going.behind in omega (arith, behind);
      plain =
          subst (λ n. rewrites_nothing going.start going.committed (n + length items) ≡ true) (sym count)
          (plain-next going.start front items more whole
          (subst (λ n. n + length items ≤ length (work_at going.start).writes) count fit)
          going.committed (subst (λ n. going.committed ≤ n) count going.behind)
          (subst (λ n. rewrites_nothing going.start going.committed n ≡ true) count going.plain) none);
      come = come;
    }

-- a unit that takes a record, fits and rewrites nothing: the step is behind it
pub goes-further : (office : Office) (on : DeskStep) (going : IsGoing office on) → IsOpen going.start on.progress → on.progress.taken < records_taken (case_at going.start)
    → on.progress.writes + length (unit_done (case_at going.start) on.progress.taken).writes.items ≤ length (work_at going.start).writes
    → first_rewrite (unit_done (case_at going.start) on.progress.taken).writes.items ≡ None
    → IsGoing office (record { run = on.run; progress = arrived (suc on.progress.taken) (on.progress.writes + length (unit_done (case_at going.start) on.progress.taken).writes.items); code = None })
goes-further office on going opened below fit none =
    let next : TakesOne (case_at going.start) on.progress.taken = takes_one (case_at going.start) on.progress.taken below in
    let count : on.progress.writes ≡ length (upto (case_at going.start) on.progress.taken) = opened.writes in
    let later : upto (case_at going.start) (suc on.progress.taken) ≡ upto (case_at going.start) on.progress.taken ++ (unit_done (case_at going.start) on.progress.taken).writes.items =
    ap (upto (case_at going.start)) (let e : suc on.progress.taken ≡ on.progress.taken + 1 = omega arith in e) ∙ next.more in
    let whole : (work (case_at going.start)).writes ≡ upto (case_at going.start) on.progress.taken ++ ((unit_done (case_at going.start) on.progress.taken).writes.items ++ rest (case_at going.start) (suc on.progress.taken)) =
    work_in_parts (case_at going.start) (suc on.progress.taken) below
    ∙ ap (λ xs. xs ++ rest (case_at going.start) (suc on.progress.taken)) later
    ∙ append_assoc (upto (case_at going.start) on.progress.taken) (unit_done (case_at going.start) on.progress.taken).writes.items (rest (case_at going.start) (suc on.progress.taken)) in
    goes-behind office on going (arrived (suc on.progress.taken) on.progress.writes) (rest (case_at going.start) (suc on.progress.taken)) opened whole fit
    (no-rewrite (unit_done (case_at going.start) on.progress.taken).writes.items none)
    (record {
      taken = below;
      writes =
          ap (λ n. n + length (unit_done (case_at going.start) on.progress.taken).writes.items) count
          ∙ sym (ap length later ∙ length-append (upto (case_at going.start) on.progress.taken) (unit_done (case_at going.start) on.progress.taken).writes.items);
    })
