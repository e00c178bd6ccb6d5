-- A deck that was accepted may be submitted under any number of at most seven digits, and its run may continue any other one.
use Rattle.std.proofs.Common.{◌≡◌, ◌||◌, ◌≤◌, ℕ, true, false, not, nat_le, List, [], ◌∷◌, length, refl, sym, ap, Option, None, Some, arith}
use Rattle.std.specs.Prelude.{IsTrue, Ok, option_and_then}
use Rattle.std.specs.List.{AllByRecursion, list_all}
use Rattle.std.specs.Option.{option_map_or}
use Rattle.std.proofs.lemmas.Bool.{and_from, or_right}
use Rattle.ckr_base.proofs.Bools.{and-first, bool-cases}
use Rattle.ckr_base.proofs.Numbers.{nat_le-from}
use Rattle.ckr_base.proofs.Options.{some-not-none}
use Rattle.ckr_events.specs.declared.event.Event.{Event}
use Rattle.ckr_events.specs.declared.event.Event.TheVariants.{Selected}
use Rattle.ckr_jcl.specs.declared.deck.Dd.{Dd}
use Rattle.ckr_jcl.specs.declared.deck.Job.{Job}
use Rattle.ckr_jcl.specs.declared.deck.Origin.{Origin}
use Rattle.ckr_jcl.specs.declared.deck.Origin.TheVariants.{Dummy, InStream, Named as NamedOrigin, Sysout, Temporary, Unnamed}
use Rattle.ckr_jcl.specs.declared.deck.Step.{Step}
use Rattle.ckr_jcl_decks.specs.Deck.{stored_deck}
use Rattle.ckr_library.specs.NameMaps.{Name}
use Rattle.ckr_meaning.specs.EffectiveJob.{OwnedStep, name_of, names_of, owned_by}
use Rattle.ckr_meaning.specs.StepRun.{StepStart}
use Rattle.ckr_points.specs.Follows.{is_update}
use Rattle.ckr_points.specs.Payload.{is_formed_step}
use Rattle.ckr_points.specs.Rows.{RunRow, TablesModel}
use Rattle.ckr_points.specs.Tables.{is_updates, name_with_role}
use Rattle.ckr_points_invariant.proofs.Decks.Names.{steps-formed}
use Rattle.ckr_points_invariant.proofs.Rewrite.Invariant.{updated-name, update-is}
use Rattle.ckr_desk_plans.specs.Model.Holdings.{owned}
use Rattle.ckr_points_tables.specs.Invariant.{CanContinue, MayContinue, is_submittable}
use Rattle.ckr_points_tables.specs.Rewrite.{has_master, has_set, master_dd}
use Rattle.ckr_points_tables.specs.View.{has_few_dds, is_within_limits}
use Rattle.ckr_uses.specs.SetNames.{origin_name, run_name}
use Rattle.ckr_uses.specs.Uses.{are_distinct}
use Rattle.ckr_desk_turn.specs.DeckLimits.{HasNamesOnce, IsWithinLimits}
use Rattle.ckr_desk_turn.proofs.Decks.DeckLimits.{few_steps, steps_within}
use Rattle.ckr_desk_turn.proofs.Decks.JobForm.{steps_once}
use Rattle.ckr_desk_turn.proofs.Decks.OrderlyDecks.{deck-orderly}
use Rattle.ckr_desk_turn.proofs.Decks.SyschkNames.{deck-syschk}
use Rattle.ckr_desk_memory.proofs.Masters.{by-role}
use Rattle.ckr_desk_memory.proofs.Starts.Steps.{row-among}
use Rattle.ckr_desk_memory.specs.Invariant.{IsAcceptedRow}

-- ---- the steps of a deck

-- a DD with a name has a data set
named-set : (origin : Origin) (root owner step dd name : Name) → origin_name origin root owner step dd ≡ Some name → has_set origin ≡ true
named-set (InStream cards) root owner step dd name is = absurd (some-not-none name (sym is))
named-set (NamedOrigin set) root owner step dd name is = refl
named-set (Temporary set) root owner step dd name is = refl
named-set Unnamed root owner step dd name is = refl
named-set Sysout root owner step dd name is = refl
named-set Dummy root owner step dd name is = absurd (some-not-none name (sym is))

-- so does MASTER, where what the step updates has a name
master-set : (root : ℕ) (owned : OwnedStep) (found : Option Dd) (name : Name) → option_and_then (name_of root owned) found ≡ Some name → option_map_or (λ (dd : Dd). has_set dd.origin) found false ≡ true
master-set root owned None name is = absurd (some-not-none name (sym is))
master-set root owned (Some dd) name is = named-set dd.origin (run_name root) (run_name owned.owner) owned.step.name dd.name name is

-- a step that is formed has a MASTER, if it is one of UPDATE
formed-master : (root : ℕ) (owned : OwnedStep) → is_formed_step root owned ≡ true → has_master owned.step ≡ true
formed-master root owned formed =
    bool-cases (is_update owned.step.program)
    (λ updates.
    let start : StepStart = record { root = root; owned = owned; number = 0; standing = record { sets = []; passed = [] }; earlier = [] } in
    or_right (not (is_update owned.step.program)) _
    (master-set root owned (master_dd owned.step) (name_with_role root owned is_updates)
    (by-role start 0 (name_with_role root owned is_updates) formed (update-is owned.step.program updates) (updated-name start 0 formed updates))))
    (λ other. ap (λ b. not b || option_map_or (λ (dd : Dd). has_set dd.origin) (master_dd owned.step) false) other)

-- so are the steps of a deck, whatever the root
deck-distinct : (root owner : ℕ) (deck : Job) (steps : List Step) → AllByRecursion (λ step. (root owner : ℕ) → is_formed_step root (owned_by owner deck step) ≡ true) steps → list_all (λ (step : Step). are_distinct (names_of root (owned_by owner deck step))) steps ≡ true
deck-distinct root owner deck [] formed = refl
deck-distinct root owner deck (step ∷ steps) formed =
    and_from (are_distinct (names_of root (owned_by owner deck step))) _
    (and-first (are_distinct (names_of root (owned_by owner deck step))) _ (and-first _ _ (formed.0 root owner)))
    (deck-distinct root owner deck steps formed.1)

deck-masters : (deck : Job) (steps : List Step) → AllByRecursion (λ step. (root owner : ℕ) → is_formed_step root (owned_by owner deck step) ≡ true) steps → list_all has_master steps ≡ true
deck-masters deck [] formed = refl
deck-masters deck (step ∷ steps) formed = and_from (has_master step) _ (formed-master 0 (owned_by 0 deck step) (formed.0 0 0)) (deck-masters deck steps formed.1)

-- ---- a deck that is submitted

-- no name stands twice in a step
deck-once : (job : ℕ) (steps : List Step) → AllByRecursion HasNamesOnce steps → list_all (λ (step : Step). are_distinct (names_of job (owned step job []))) steps ≡ true
deck-once job [] once = refl
deck-once job (step ∷ steps) once = and_from (are_distinct (names_of job (owned step job []))) _ (once.0 job job []) (deck-once job steps once.1)

deck-few : (steps : List Step) → AllByRecursion IsWithinLimits steps → list_all has_few_dds steps ≡ true
deck-few [] within = refl
deck-few (step ∷ steps) within =
    and_from (has_few_dds step) _ (and_from (nat_le (length step.dds) 16) _ (nat_le-from (length step.dds) 16 within.0.few_dds) within.0.few_volumes) (deck-few steps within.1)

pub accepted-submits : (cards : List ℕ) (job : ℕ) (deck : Job) → stored_deck cards ≡ Ok deck → job ≤ 9999999 → IsTrue (is_submittable job deck)
accepted-submits cards job deck accepted few =
    let within : is_within_limits deck ≡ true = and_from (nat_le (length deck.steps) 64) _ (nat_le-from (length deck.steps) 64 (few_steps cards deck accepted)) (deck-few deck.steps (steps_within cards deck accepted)) in
    let numbered = and_from (nat_le job 9999999) _ (nat_le-from job 9999999 few) within in
    let distinct = and_from _ _ numbered (deck-once job deck.steps (steps_once cards deck accepted)) in
    let mastered = and_from _ _ distinct (deck-masters deck deck.steps (steps-formed 0 deck (deck-orderly cards deck 0 (omega arith) accepted))) in
    and_from _ _ mastered (deck-syschk cards deck accepted)

-- ---- a run that continues another one

-- the deck of a run that was accepted may continue any other run
accepted-continues : (row before : RunRow) → IsAcceptedRow row → CanContinue row before
accepted-continues row before accepted =
    let formed = steps-formed 0 row.deck (deck-orderly accepted.cards row.deck 0 (omega arith) accepted.accepted) in
    record { distinct = deck-distinct before.job.root row.number row.deck row.deck.steps formed; masters = deck-masters row.deck row.deck.steps formed }

pub may-continue : (event : Event) (tables : TablesModel) → AllByRecursion IsAcceptedRow tables.runs → MayContinue event tables
may-continue (Selected job initiator earlier step id) tables rows = λ row before here there. accepted-continues row before (row-among IsAcceptedRow tables job row rows here)
may-continue _ tables rows = tt
