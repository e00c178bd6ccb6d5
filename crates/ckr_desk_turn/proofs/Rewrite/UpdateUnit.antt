-- The unit by which UPDATE rewrites a record.
use Rattle.std.proofs.Common.{◌≡◌, ◌≤◌, ◌<◌, ◌+◌, ℕ, zero, suc, Bool, true, not, List, [], ◌∷◌, ◌++◌, drop, take, length, refl, ap, sym, ◌∙◌, subst, Option, Some, None, arith, length-append}
use Rattle.std.specs.Prelude.{nat_lt, slice_get}
use Rattle.std.specs.List.{list_all}
use Rattle.std.specs.Option.{option_map_or}
use Rattle.std.proofs.lemmas.Bool.{false≢true, ltb-true}
use Rattle.ckr_base.specs.declared.programs.Output.{Output}
use Rattle.ckr_base.specs.declared.programs.Output.TheVariants.{Main, Rejects, InPlace}
use Rattle.ckr_base.specs.declared.programs.Write.{Write}
use Rattle.ckr_base.proofs.Bools.{and-first, and-second, bool-cases}
use Rattle.ckr_base.proofs.Options.{some-not-none}
use Rattle.ckr_meaning.specs.Program.{ProgramCase, records_taken, unit_done, upto}
use Rattle.ckr_meaning.specs.StepRun.{StepStart, case_at, input_at, made_at, work_at}
use Rattle.ckr_meaning.proofs.Prefixes.{TakesOne, takes_one}
use Rattle.ckr_points.specs.Follows.{is_update}
use Rattle.ckr_points.specs.Payload.{is_in_place}
use Rattle.ckr_points.specs.Office.{Office}
use Rattle.ckr_points.specs.Soundness.{rewrite_of}
use Rattle.ckr_desk_turn.specs.Desk.{DeskStep}
use Rattle.ckr_desk_turn.specs.Units.{first_rewrite}
use Rattle.ckr_desk_turn.specs.Invariant.{IsGoing, IsOpen, next_writes}
use Rattle.ckr_desk_turn.proofs.Units.LastUnit.{update-once}
use Rattle.ckr_desk_turn.proofs.Rewrite.Places.{rewrites_below, upto-below}
use Rattle.ckr_desk_turn.proofs.Units.Progress.{adds, its_writes}
use Rattle.ckr_desk_turn.proofs.Rewrite.UnitWrites.{IsPart, unit-adds, unit-part}
use Rattle.ckr_desk_turn.proofs.Rewrite.Event.{Rewrites}

-- where there is no rewrite, none is the first
none-first : (writes : List Write) → list_all adds writes ≡ true → first_rewrite writes ≡ None
none-first [] kept = refl
none-first (write ∷ writes) kept =
    by write.output (and-first (adds write) _ kept) (none-first writes (and-second (adds write) _ kept))
  where
    by : (output : Output) → not (is_in_place output) ≡ true → first_rewrite writes ≡ None → ◌≡◌ {A = Option (ℕ × List ℕ)} (elim (rewrite_of output write.image) [ Some at ↦ Some at | None ↦ first_rewrite writes ]) None
    by Main kept others = others
    by Rejects kept others = others
    by (InPlace place) kept others = absurd (false≢true kept)

-- the one write of some that are one at most
pub record IsOnly (writes : List Write) (at : ℕ × List ℕ) : Type 0 where
  pub write : Write
  pub alone : writes ≡ write ∷ []
  pub is : rewrite_of write.output write.image ≡ Some at

only-one : (writes : List Write) (at : ℕ × List ℕ) → length writes ≤ 1 → first_rewrite writes ≡ Some at → IsOnly writes at
only-one [] at once first = absurd (some-not-none at (sym first))
only-one (write ∷ []) at once first = by (rewrite_of write.output write.image) refl first
  where
    by : (o : Option (ℕ × List ℕ)) → rewrite_of write.output write.image ≡ o → ◌≡◌ {A = Option (ℕ × List ℕ)} (elim o [ Some one ↦ Some one | None ↦ None ]) (Some at) → IsOnly (write ∷ []) at
    by None is first = absurd (some-not-none at (sym first))
    by (Some one) is first = record { write = write; alone = refl; is = is ∙ first }
only-one (write ∷ next ∷ rest) at once first = absurd (omega (arith, once))

pub some-first : (writes : List Write) (at : ℕ × List ℕ) → first_rewrite writes ≡ Some at → 1 ≤ length writes
some-first [] at first = absurd (some-not-none at (sym first))
some-first (write ∷ writes) at first = omega arith

no_more : (write : Write) → (let none : List Write = [] in none) ≡ write ∷ [] → ⊥
no_more write e = cc

get-taken : (place : ℕ) (writes : List Write) (write : Write) → take 1 (drop place writes) ≡ write ∷ [] → slice_get writes place ≡ Some write
get-taken zero [] write e = absurd (no_more write e)
get-taken zero (first ∷ rest) write e = ap (λ (writes : List Write). slice_get writes 0) e
get-taken (suc place) [] write e = absurd (no_more write e)
get-taken (suc place) (first ∷ rest) write e = get-taken place rest write e

last-passes : (test : Write → Bool) (front : List Write) (write : Write) → list_all test (front ++ write ∷ []) ≡ true → test write ≡ true
last-passes test [] write all = and-first (test write) _ all
last-passes test (first ∷ front) write all = last-passes test front write (and-second (test first) _ all)

-- only UPDATE rewrites
pub updates-so : (start : StepStart) (taken : ℕ) (at : ℕ × List ℕ) → taken ≤ records_taken (case_at start) → first_rewrite (unit_done (case_at start) taken).writes.items ≡ Some at → is_update start.owned.step.program ≡ true
unfolding case_at
updates-so start taken at within first =
    bool-cases (is_update start.owned.step.program)
    (λ updates. updates)
    (λ isnt. absurd (some-not-none at (sym first ∙ none-first (unit_done (case_at start) taken).writes.items (unit-adds (case_at start) taken within isnt))))

first-of_case : (start : StepStart) → (case_at start).first ≡ input_at start (made_at start) 0
unfolding case_at
first-of_case start = refl

below-first : (start : StepStart) (count : ℕ) → is_update start.owned.step.program ≡ true → list_all (rewrites_below (length (case_at start).first)) (upto (case_at start) count) ≡ true
unfolding case_at
below-first start count updates = upto-below (case_at start) count updates

-- the unit's write, as it stands in the work of the step
pub rewrites-so : (office : Office) (on : DeskStep) (going : IsGoing office on) (at : ℕ × List ℕ) → IsOpen going.start on.progress → on.progress.taken < records_taken (case_at going.start) → next_writes going.start on.progress ≤ length (work_at going.start).writes → first_rewrite (unit_done (case_at going.start) on.progress.taken).writes.items ≡ Some at → Rewrites going.start on.progress.writes (suc on.progress.taken) at
rewrites-so office on going at opened below fit first =
    let case : ProgramCase = case_at going.start in
    let taken : ℕ = on.progress.taken in
    let items : List Write = (unit_done (case_at going.start) on.progress.taken).writes.items in
    let front : List Write = upto (case_at going.start) on.progress.taken in
    let count : on.progress.writes ≡ length front = opened.writes in
    let updates : is_update going.start.owned.step.program ≡ true = updates-so going.start taken at opened.taken first in
    let only : IsOnly items at = only-one items at (update-once going.start taken opened.taken updates) first in
    let next : TakesOne case taken = takes_one case taken below in
    let part : IsPart case taken = unit-part case taken opened.taken in
    let later : upto case (suc taken) ≡ front ++ only.write ∷ [] =
    ap (upto case) (let e : suc taken ≡ taken + 1 = omega arith in e) ∙ next.more ∙ ap (λ its. front ++ its) only.alone in
    let room : length front + length items ≤ length (work_at going.start).writes = subst (λ n. n + length items ≤ length (work_at going.start).writes) count fit in
    let mine : take (length items) (drop (length front) (work_at going.start).writes) ≡ items = its_writes going.start front items part.more part.whole room in
    let alone : take 1 (drop on.progress.writes (work_at going.start).writes) ≡ only.write ∷ [] =
    ap (λ n. take 1 (drop n (work_at going.start).writes)) count ∙ ap (λ (its : List Write). take (length its) (drop (length front) (work_at going.start).writes)) (sym only.alone) ∙ mine ∙ only.alone in
    let low : rewrites_below (length case.first) only.write ≡ true =
    last-passes (rewrites_below (length case.first)) front only.write (ap (list_all (rewrites_below (length case.first))) (sym later) ∙ below-first going.start (suc taken) updates) in
    record {
      write = only.write;
      got = get-taken on.progress.writes (work_at going.start).writes only.write alone;
      is = only.is;
      updates = updates;
      low =
          subst (λ n. at.0 < n) (ap length (first-of_case going.start))
          (ltb-true at.0 (length case.first) (sym (ap (λ (o : Option (ℕ × List ℕ)). option_map_or (λ (one : ℕ × List ℕ). nat_lt one.0 (length case.first)) o true) only.is) ∙ low));
      below = below;
      counts =
          let more : length (front ++ only.write ∷ []) ≡ length front + 1 = length-append front (only.write ∷ []) in
          let next : suc on.progress.writes ≡ length (front ++ only.write ∷ []) = omega (arith, count, more) in
          next ∙ ap length (sym later);
    }
