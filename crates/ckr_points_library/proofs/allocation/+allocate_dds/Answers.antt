use Rattle.std.proofs.Common.{◌≡◌, ◌≤◌, sym, ap, ◌∙◌, subst, [], ◌∷◌, ◌++◌, Option, Ok, Some, None, Result, IfOk, IfSome, OnOk, drop, take, length, ◌-◌, arith}
use Rattle.std.specs.Result.{IsOkAnd}
use Rattle.std.proofs.lemmas.Grind.{common_steps}
use Rattle.ckr_events.specs.declared.event.Made.{Made}
use Rattle.ckr_library.specs.declared.sets.DataSet.{DataSet}
use Rattle.ckr_library.specs.declared.sets.Part.{Part}
use Rattle.ckr_library.specs.Catalog.{Holding, fresh_holding, set_of}
use Rattle.ckr_library.specs.NameMaps.{EachEntry, entry_at, with_entry, without_entry}
use Rattle.ckr_library.proofs.Named.{each-with_entry}
use Rattle.ckr_volumes.specs.Layouts.{StandsIn}
use Rattle.ckr_meaning.specs.EffectiveJob.{name_of}
use Rattle.ckr_points_library.specs.declared.cause.Cause.{Cause}
use Rattle.ckr_points_library.specs.Allocation.{fresh_set, made_of, space_of}
use Rattle.ckr_points_library.specs.FreeSpace.{LiesFree}
use Rattle.ckr_points_library.specs.Holdings.{owned}
use Rattle.ckr_points_library.specs.AllocationSteps.{IsAllocated, listed, new_parts}
use Rattle.ckr_points_library.proofs.SetChanges.{put_is_there, set_absent, taken_out_again}
use Rattle.ckr_points_library.proofs.FreeSpace.{new_stands}
use Rattle.ckr_points_library.proofs.AllocationSteps.{first_and_rest, first_fits, on_ok, found_turn, last_turn, made_turn, none-of}
use Rattle.ckr_points_library.proofs.allocation.+allocate_dds.Goals as goal

pub allocate_dds-allocated-requires : goal.allocate_dds-allocated-requires
allocate_dds-allocated-requires t c =
    let layout = c.args.layout.now in
    let sets = c.args.library.now.sets in
    let dd = c.dd-item.result in
    let part = c.in-Ok-Some.part in
    let dds = c.args.dds.now in
    let is = first_and_rest dds dd c.in-len1-up.len_at_least c.dd-item.is in
    let named : name_of c.args.root (owned c.args.step.now c.args.owner []) dd ≡ Some c.in-Some.name = sym c.library_name.ensures ∙ c.in-Some.is in
    let answer : c.new_part.result ≡ Ok (Some part) = c.in-Ok-Some.is ∙ ap Ok c.in-Ok-Some.field-0-is in
    let free : LiesFree layout sets dd part = subst (λ (r : Result (Option Part) Cause). IfOk r (λ p. IfSome p (LiesFree layout sets dd))) answer c.new_part.ensures.free in
    let above : 1 ≤ space_of dd = subst (λ (r : Result (Option Part) Cause). IfOk r (λ p. IfSome p (λ _. 1 ≤ space_of dd))) answer c.new_part.ensures.space in
    let stand : EachEntry (λ (h : Holding). StandsIn layout h.set) c.add.new.library.sets =
    subst (EachEntry (λ (h : Holding). StandsIn layout h.set)) (sym c.add.ensures.sets)
    (each-with_entry (λ (h : Holding). StandsIn layout h.set) c.copied.result (fresh_holding c.fresh_set.result) sets
    (subst (StandsIn layout) (sym c.fresh_set.ensures) (new_stands layout sets dd c.args.stamp part (first_fits _ dds dd _ c.in-Some.name is named c.requires.dds) above free))
    c.requires.stand) in
    grind (arith, common_steps, stand)

pub remove-requires : goal.remove-requires
remove-requires t c =
    put_is_there c.in-Some.name (fresh_holding c.fresh_set.result) c.allocate_dds-allocated.new.library c.args.library.now.sets
    (c.allocate_dds-allocated.ensures.sets ∙ c.add.ensures.sets ∙ ap (λ name. with_entry name (fresh_holding c.fresh_set.result) c.args.library.now.sets) c.copied.ensures)

pub returns-in-Ok-None-clause-ok : goal.returns-in-Ok-None-clause-ok
returns-in-Ok-None-clause-ok t c =
    let named = name_of c.args.root (owned c.args.step.now c.args.owner []) in
    let dds = c.args.dds.now in
    let sets = c.args.library.now.sets in
    let none : new_parts c.args.layout.now c.args.passed.now c.dd-item.result c.in-Some.name sets ≡ Ok [] =
    sym c.new_part.ensures.value ∙ ap listed (c.in-Ok-None.is ∙ ap Ok c.in-Ok-None.field-0-is) in
    subst (λ all. OnOk c.allocate_dds-in-Ok-None.result (IsOkAnd all (IsAllocated c.args.layout.now sets c.args.items.now.items c.allocate_dds-in-Ok-None.new.items.items)))
    (sym (found_turn c.args.layout.now c.args.passed.now c.args.stamp named c.args.number dds c.dd-item.result (take (length dds - 1) (drop 1 dds))
    (first_and_rest dds c.dd-item.result c.in-len1-up.len_at_least c.dd-item.is) c.in-Some.name (sym c.library_name.ensures ∙ c.in-Some.is) sets none))
    c.allocate_dds-in-Ok-None.ensures.ok

pub returns-else-is_empty-clause-ok : goal.returns-else-is_empty-clause-ok
returns-else-is_empty-clause-ok t c =
    let named = name_of c.args.root (owned c.args.step.now c.args.owner []) in
    let dds = c.args.dds.now in
    let dd = c.dd-item.result in
    let sets = c.args.library.now.sets in
    let part = c.in-Ok-Some.part in
    let answer : c.new_part.result ≡ Ok (Some part) = c.in-Ok-Some.is ∙ ap Ok c.in-Ok-Some.field-0-is in
    let parts : new_parts c.args.layout.now c.args.passed.now dd c.in-Some.name sets ≡ Ok (part ∷ []) = sym c.new_part.ensures.value ∙ ap listed answer in
    let free : LiesFree c.args.layout.now sets dd part = subst (λ (r : Result (Option Part) Cause). IfOk r (λ p. IfSome p (LiesFree c.args.layout.now sets dd))) answer c.new_part.ensures.free in
    let put : c.add.new.library.sets ≡ with_entry c.in-Some.name (fresh_holding (fresh_set c.args.stamp dd (part ∷ []))) sets =
    c.add.ensures.sets ∙ ap (λ name. with_entry name (fresh_holding c.fresh_set.result) sets) c.copied.ensures
    ∙ ap (λ (set : DataSet). with_entry c.in-Some.name (fresh_holding set) sets) c.fresh_set.ensures in
    let items : c.put.new.items.items ≡ c.args.items.now.items ++ made_of c.args.number part ∷ [] =
    c.put.ensures.items ∙ ap (λ (made : Made). c.args.items.now.items ++ made ∷ []) c.made_of.ensures in
    on_ok c.allocate_dds-allocated.result
    (made_turn c.args.layout.now c.args.passed.now c.args.stamp named c.args.number dds dd (take (length dds - 1) (drop 1 dds))
    (first_and_rest dds dd c.in-len1-up.len_at_least c.dd-item.is) c.in-Some.name (sym c.library_name.ensures ∙ c.in-Some.is) sets c.add.new.library.sets part
    c.args.items.now.items c.put.new.items.items c.allocate_dds-allocated.new.items.items parts put items free)
    c.allocate_dds-allocated.ensures.ok

pub returns-else-is_empty-clause-sets : goal.returns-else-is_empty-clause-sets
returns-else-is_empty-clause-sets t c =
    let sets = c.args.library.now.sets in
    let part = c.in-Ok-Some.part in
    let answer : c.new_part.result ≡ Ok (Some part) = c.in-Ok-Some.is ∙ ap Ok c.in-Ok-Some.field-0-is in
    let absent : set_of c.args.library.now c.in-Some.name ≡ None = subst (λ (r : Result (Option Part) Cause). IfOk r (λ p. IfSome p (λ _. set_of c.args.library.now c.in-Some.name ≡ None))) answer c.new_part.ensures.absent in
    c.remove.ensures.sets
    ∙ ap (without_entry c.in-Some.name) (c.allocate_dds-allocated.ensures.sets ∙ c.add.ensures.sets ∙ ap (λ name. with_entry name (fresh_holding c.fresh_set.result) sets) c.copied.ensures)
    ∙ taken_out_again c.in-Some.name (fresh_holding c.fresh_set.result) sets (set_absent (entry_at sets c.in-Some.name) absent)

pub returns-then-is_empty-clause-ok : goal.returns-then-is_empty-clause-ok
returns-then-is_empty-clause-ok t c =
    let layout = c.args.layout.now in
    let named = name_of c.args.root (owned c.args.step.now c.args.owner []) in
    let dds = c.args.dds.now in
    let dd = c.dd-item.result in
    let rest = take (length dds - 1) (drop 1 dds) in
    let sets = c.args.library.now.sets in
    let part = c.in-Ok-Some.part in
    let is = first_and_rest dds dd c.in-len1-up.len_at_least c.dd-item.is in
    let found : named dd ≡ Some c.in-Some.name = sym c.library_name.ensures ∙ c.in-Some.is in
    let answer : c.new_part.result ≡ Ok (Some part) = c.in-Ok-Some.is ∙ ap Ok c.in-Ok-Some.field-0-is in
    let parts : new_parts layout c.args.passed.now dd c.in-Some.name sets ≡ Ok (part ∷ []) = sym c.new_part.ensures.value ∙ ap listed answer in
    let free : LiesFree layout sets dd part = subst (λ (r : Result (Option Part) Cause). IfOk r (λ p. IfSome p (LiesFree layout sets dd))) answer c.new_part.ensures.free in
    let above : 1 ≤ space_of dd = subst (λ (r : Result (Option Part) Cause). IfOk r (λ p. IfSome p (λ _. 1 ≤ space_of dd))) answer c.new_part.ensures.space in
    let items : c.put.new.items.items ≡ c.args.items.now.items ++ made_of c.args.number part ∷ [] =
    c.put.ensures.items ∙ ap (λ (made : Made). c.args.items.now.items ++ made ∷ []) c.made_of.ensures in
    last_turn layout c.args.passed.now c.args.stamp named c.args.number dds dd rest is c.in-Some.name found sets part c.args.items.now.items c.put.new.items.items
    (none-of rest (sym c.is_empty.ensures ∙ c.if-is_empty.true)) parts items free
    (each-with_entry (λ (h : Holding). StandsIn layout h.set) c.in-Some.name (fresh_holding (fresh_set c.args.stamp dd (part ∷ []))) sets
    (new_stands layout sets dd c.args.stamp part (first_fits _ dds dd _ c.in-Some.name is found c.requires.dds) above free) c.requires.stand)
