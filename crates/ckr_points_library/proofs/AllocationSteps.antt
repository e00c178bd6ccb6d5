-- The allocation of DDs in turn, one DD more, and what it is by what stood before the step.
use Rattle.std.proofs.Common.{◌≡◌, ◌≤◌, ◌+◌, ◌-◌, ◌==◌, ◌||◌, ℕ, suc, true, false, not, refl, ap, sym, ◌∙◌, subst, IsTrue, List, [], ◌∷◌, ◌++◌, append-nil, append_assoc, drop, take, get_or, length, Option, Some, None, Result, Ok, Err, OnOk, IfErr, arith}
use Rattle.std.specs.List.{cons_option, filter_map, list_all}
use Rattle.std.specs.Option.{option_map, option_map_or}
use Rattle.std.specs.Result.{IsOkAnd}
use Rattle.std.specs.Cmp.Lexicographic.{nat_list_cmp_total}
use Rattle.std.specs.Cmp.{eq_by_cmp_equiv}
use Rattle.std.proofs.lemmas.Bool.{and_parts, false≢true, not-true, or_right}
use Rattle.std.proofs.lemmas.List.{take_all}
use Rattle.ckr_base.proofs.Numbers.{equal-true, plus-one}
use Rattle.ckr_events.specs.declared.event.Made.{Made}
use Rattle.ckr_jcl.specs.declared.deck.Dd.{Dd}
use Rattle.ckr_library.specs.declared.sets.Part.{Part}
use Rattle.ckr_library.specs.declared.sets.Stamp.{Stamp}
use Rattle.ckr_library.specs.Catalog.{Holding, fresh_holding}
use Rattle.ckr_library.specs.NameMaps.{EachEntry, Name, Named, entry_at, same_name, with_entry}
use Rattle.ckr_library.proofs.Named.{at-with_entry-other}
use Rattle.ckr_entry.specs.declared.point.Passed.{Passed}
use Rattle.ckr_volumes.specs.declared.layout.Layout.{Layout}
use Rattle.ckr_volumes.specs.Layouts.{StandsIn}
use Rattle.ckr_meaning.specs.SetUses.Uses.{are_distinct}
use Rattle.ckr_meaning.specs.Allotments.{allotment_of, is_passed}
use Rattle.ckr_meaning.specs.EffectiveJob.{OwnedStep, is_among, name_of, placed_from, placed_one}
use Rattle.ckr_points_library.specs.declared.cause.Cause.{Cause}
use Rattle.ckr_points_library.specs.declared.cause.Refusal.{Refusal}
use Rattle.ckr_points_library.specs.Allocation.{Allocation, allocated_all, allocated_dd, behind, fits_dd, fresh_set, made_of, then_more, with_new}
use Rattle.ckr_points_library.specs.FreeSpace.{AllApart, LiesFree}
use Rattle.ckr_points_library.specs.Holdings.{holding_ways, standing}
use Rattle.ckr_points_library.specs.AllocationSteps.{IsAllocated, allocated_in_turn, fits_named, new_parts}
use Rattle.ckr_points_library.proofs.FreeSpace.{new_all_apart}

-- a list by its first item
pub first_and_rest : {A : Type 0} (items : List A) (item : A) → 1 ≤ length items → item ≡ get_or items 0 item → items ≡ item ∷ take (length items - 1) (drop 1 items)
first_and_rest [] item some is = absurd (omega (arith, some))
first_and_rest (one ∷ rest) item some is =
    ap (λ first. first ∷ rest) (sym is) ∙ ap (λ more. item ∷ more) (sym (take_all (suc (length rest) - 1) rest (omega arith)))

pub none-of : {A : Type 0} (items : List A) → (length items == 0) ≡ true → items ≡ []
none-of [] none = refl
none-of (item ∷ items) none = (let zero : length (item ∷ items) ≡ 0 = equal-true (length (item ∷ items)) 0 none in absurd (omega (arith, zero)))

-- the first DD is such as a deck gives
pub first_fits : (named : Dd → Option Name) (dds : List Dd) (dd : Dd) (rest : List Dd) (name : Name) → dds ≡ dd ∷ rest → named dd ≡ Some name → IsTrue (list_all (fits_named named) dds) → IsTrue (fits_dd dd)
first_fits named dds dd rest name is some all =
    subst (λ (found : Option Name). IsTrue (option_map_or (λ (name : Name). fits_dd dd) found true)) some
    (and_parts (fits_named named dd) _ (subst (λ (l : List Dd). IsTrue (list_all (fits_named named) l)) is all)).0

pub on_err : {T E : Type 0} {P Q : E → Type 0} (result : Result T E) → ((e : E) → P e → Q e) → IfErr result P → IfErr result Q
on_err (Ok x) step fact = tt
on_err (Err e) step fact = step e fact

pub on_ok : {T E : Type 0} {P Q : Type 0} (result : Result T E) → (P → Q) → OnOk result P → OnOk result Q
on_ok (Ok x) step fact = step fact
on_ok (Err e) step fact = tt

module _ (layout : Layout) (passed : List Passed) (stamp : Stamp) (named : Dd → Option Name) (number : ℕ) (dds : List Dd) (dd : Dd) (rest : List Dd) (is : dds ≡ dd ∷ rest) (name : Name) (some : named dd ≡ Some name) where
  one_turn : (sets : Named Holding) → allocated_in_turn layout passed stamp named number dds sets ≡ then_more number (new_parts layout passed dd name sets) (λ parts. allocated_in_turn layout passed stamp named (number + 1) rest (with_new stamp dd name parts sets))
  one_turn sets =
      ap (λ all. allocated_in_turn layout passed stamp named number all sets) is
      ∙ ap (λ found. by found) some
    where
      by : Option Name → Result Allocation Refusal
      by found =
          option_map_or
          (λ name. then_more number (new_parts layout passed dd name sets) (λ parts. allocated_in_turn layout passed stamp named (number + 1) rest (with_new stamp dd name parts sets)))
          found
          (allocated_in_turn layout passed stamp named (number + 1) rest sets)

  behind_none : (more : Result Allocation Refusal) → behind [] more ≡ more
  behind_none (Ok done) = refl
  behind_none (Err refusal) = refl

  -- a DD whose data set is found
  pub found_turn : (sets : Named Holding) → new_parts layout passed dd name sets ≡ Ok [] → allocated_in_turn layout passed stamp named number dds sets ≡ allocated_in_turn layout passed stamp named (number + 1) rest sets
  found_turn sets none =
      one_turn sets
      ∙ ap (λ parts. then_more number parts (λ parts. allocated_in_turn layout passed stamp named (number + 1) rest (with_new stamp dd name parts sets))) none
      ∙ behind_none (allocated_in_turn layout passed stamp named (number + 1) rest sets)

  more_allocated : (sets after_sets : Named Holding) (item : Made) (before after : List Made) (more : Result Allocation Refusal) → (AllApart sets → AllApart after_sets)
      → IsOkAnd more (IsAllocated layout after_sets (before ++ item ∷ []) after) → IsOkAnd (behind (item ∷ []) more) (IsAllocated layout sets before after)
  more_allocated sets after_sets item before after (Ok done) step fact = record {
    items = fact.items ∙ append_assoc before (item ∷ []) done.items;
    stand = fact.stand;
    apart = λ apart. fact.apart (step apart);
  }
  more_allocated sets after_sets item before after (Err refusal) step fact = absurd fact

  -- a DD that makes its data set
  pub made_turn : (sets after_sets : Named Holding) (part : Part) (before between after : List Made) → new_parts layout passed dd name sets ≡ Ok (part ∷ []) → after_sets ≡ with_entry name (fresh_holding (fresh_set stamp dd (part ∷ []))) sets → between ≡ before ++ made_of number part ∷ [] → LiesFree layout sets dd part
      → IsOkAnd (allocated_in_turn layout passed stamp named (number + 1) rest after_sets) (IsAllocated layout after_sets between after) → IsOkAnd (allocated_in_turn layout passed stamp named number dds sets) (IsAllocated layout sets before after)
  made_turn sets after_sets part before between after parts put items free fact =
      subst (λ all. IsOkAnd all (IsAllocated layout sets before after))
      (sym (one_turn sets ∙ ap (λ parts. then_more number parts (λ parts. allocated_in_turn layout passed stamp named (number + 1) rest (with_new stamp dd name parts sets))) parts
      ∙ ap (λ left. behind (made_of number part ∷ []) (allocated_in_turn layout passed stamp named (number + 1) rest left)) (sym put)))
      (more_allocated sets after_sets (made_of number part) before after (allocated_in_turn layout passed stamp named (number + 1) rest after_sets)
      (λ apart. subst AllApart (sym put) (new_all_apart layout sets dd stamp part free name apart))
      (subst (λ list. IsOkAnd (allocated_in_turn layout passed stamp named (number + 1) rest after_sets) (IsAllocated layout after_sets list after)) items fact))

  -- the last DD, which makes its data set: nothing looks at the library behind it
  pub last_turn : (sets : Named Holding) (part : Part) (before after : List Made) → rest ≡ [] → new_parts layout passed dd name sets ≡ Ok (part ∷ []) → after ≡ before ++ made_of number part ∷ [] → LiesFree layout sets dd part
      → EachEntry (λ (h : Holding). StandsIn layout h.set) (with_entry name (fresh_holding (fresh_set stamp dd (part ∷ []))) sets)
      → IsOkAnd (allocated_in_turn layout passed stamp named number dds sets) (IsAllocated layout sets before after)
  last_turn sets part before after none parts items free stand =
      let after_sets = with_entry name (fresh_holding (fresh_set stamp dd (part ∷ []))) sets in
      made_turn sets after_sets part before after after parts refl items free
      (subst (λ (l : List Dd). IsOkAnd (allocated_in_turn layout passed stamp named (number + 1) l after_sets) (IsAllocated layout after_sets after after)) (sym none)
      (record { items = sym (append-nil after); stand = stand; apart = λ apart. apart }))

-- ---- by what stood before the step

among_same : (names : List Name) (one other : Name) → same_name one other ≡ true → is_among names one ≡ is_among names other
among_same [] one other tied = refl
among_same (name ∷ names) one other tied =
    ap (λ b. b || is_among names one) ((eq_by_cmp_equiv nat_list_cmp_total).congr one other name tied) ∙ ap (λ b. same_name other name || b) (among_same names one other tied)

beside : (names : List Name) (name other : Name) → is_among names name ≡ false → is_among names other ≡ true → same_name other name ≡ false
beside names name other out among =
    elim (same_name other name) as (λ b. same_name other name ≡ b → b ≡ false) [
      | true ↦ λ tied. absurd (false≢true (sym out ∙ sym (among_same names other name tied) ∙ among))
      | false ↦ λ apart. refl
    ] refl

new-beside : (stamp : Stamp) (dd : Dd) (name other : Name) (parts : List Part) (sets : Named Holding) → same_name other name ≡ false → entry_at (with_new stamp dd name parts sets) other ≡ entry_at sets other
new-beside stamp dd name other [] sets apart = refl
new-beside stamp dd name other (part ∷ parts) sets apart =
    at-with_entry-other name other (fresh_holding (fresh_set stamp dd (part ∷ parts))) sets apart

-- each of these names stands as it did
record Same (names : List Name) (sets before : Named Holding) : Type 0 where
  each : (name : Name) → is_among names name ≡ true → entry_at sets name ≡ entry_at before name

module _ (layout : Layout) (passed : List Passed) (stamp : Stamp) (root : ℕ) (owned : OwnedStep) (before : Named Holding) where
  abbrev in_turn : ℕ → List Dd → Named Holding → Result Allocation Refusal
  in_turn number dds sets = allocated_in_turn layout passed stamp (name_of root owned) number dds sets

  abbrev as_placed : ℕ → List Dd → Named Holding → Result Allocation Refusal
  as_placed number dds sets = allocated_all layout stamp (placed_from holding_ways (standing before passed) root owned number dds) sets

  abbrev Agrees : ℕ → List Dd → Type 0
  Agrees number dds = (sets : Named Holding) → IsTrue (are_distinct (filter_map (name_of root owned) dds)) → Same (filter_map (name_of root owned) dds) sets before → in_turn number dds sets ≡ as_placed number dds sets

  same_more : (number : ℕ) (parts : Result (List Part) Cause) (first second : List Part → Result Allocation Refusal) → ((parts : List Part) → first parts ≡ second parts) → then_more number parts first ≡ then_more number parts second
  same_more number (Ok parts) first second same = ap (behind _) (same parts)
  same_more number (Err cause) first second same = refl

  by_name : (number : ℕ) (dd : Dd) (dds : List Dd) → Agrees (number + 1) dds → (name : Option Name) (sets : Named Holding) → IsTrue (are_distinct (cons_option name (filter_map (name_of root owned) dds))) → Same (cons_option name (filter_map (name_of root owned) dds)) sets before
      → option_map_or (λ name. then_more number (new_parts layout passed dd name sets) (λ parts. in_turn (number + 1) dds (with_new stamp dd name parts sets))) name (in_turn (number + 1) dds sets)
      ≡ allocated_all layout stamp (cons_option (option_map (placed_one holding_ways (standing before passed) number dd) name) (placed_from holding_ways (standing before passed) root owned (number + 1) dds)) sets
  by_name number dd dds agrees None sets distinct same = agrees sets distinct same
  by_name number dd dds agrees (Some name) sets distinct same =
      let names = filter_map (name_of root owned) dds in
      let parts = and_parts (not (is_among names name)) (are_distinct names) distinct in
      ap (λ entry. then_more number (allocated_dd layout sets dd name (allotment_of dd (is_passed passed name) (option_map holding_ways.known entry))) (λ parts. in_turn (number + 1) dds (with_new stamp dd name parts sets)))
      (same.each name (ap (λ b. b || is_among names name) ((eq_by_cmp_equiv nat_list_cmp_total).refl name)))
      ∙ same_more number (allocated_dd layout sets dd name (allotment_of dd (is_passed passed name) (option_map holding_ways.known (entry_at before name))))
      (λ parts. in_turn (number + 1) dds (with_new stamp dd name parts sets)) (λ parts. as_placed (number + 1) dds (with_new stamp dd name parts sets))
      (λ list. agrees (with_new stamp dd name list sets) parts.1 (record {
        each = λ other among.
            new-beside stamp dd name other list sets (beside names name other (not-true (is_among names name) parts.0) among)
            ∙ same.each other (or_right (same_name other name) (is_among names other) among);
      }))

  agree : (number : ℕ) (dds : List Dd) → Agrees number dds
  agree number [] sets distinct same = refl
  agree number (dd ∷ dds) sets distinct same =
      by_name number dd dds (agree (number + 1) dds) (name_of root owned dd) sets distinct same
      ∙ ap (λ n. allocated_all layout stamp (cons_option (option_map (placed_one holding_ways (standing before passed) number dd) (name_of root owned dd)) (placed_from holding_ways (standing before passed) root owned n dds)) sets) (plus-one number)

  -- where no name stands twice
  pub turned : (dds : List Dd) → IsTrue (are_distinct (filter_map (name_of root owned) dds)) → in_turn 1 dds before ≡ as_placed 1 dds before
  turned dds distinct = agree 1 dds before distinct (record { each = λ name among. refl })
