-- The uses of a deck: its names are used, and a name that isn't exclusive is left by each of its DDs.
use Rattle.std.proofs.Common.{◌≡◌, ℕ, Bool, true, false, not, cond, ◌&&◌, ◌||◌, List, [], ◌∷◌, ◌++◌, flat_map, map, refl, ap, sym, ◌∙◌, subst, Option, None, Some}
use Rattle.std.specs.List.{cons_option, filter_map, list_all, list_any}
use Rattle.std.specs.Option.{is_some, option_and_then, option_map, option_to_list}
use Rattle.std.proofs.lemmas.Bool.{and_from, false≢true, or_left, or_parts}
use Rattle.std.proofs.lemmas.List.Folds.{list_any-append}
use Rattle.ckr_base.proofs.Bools.{bool-cases}
use Rattle.ckr_uses.specs.SetNames.{name_under, run_name}
use Rattle.ckr_uses.specs.Uses.{holds, holds_at, is_exclusive_of, is_of, is_shared, leaves, use_as, use_in, use_of_syschk, uses_in_step, uses_of, uses_of_dds}
use Rattle.ckr_uses.proofs.MergedUses.{merged-is}
use Rattle.ckr_uses.proofs.SharedNames.{holds-names}
use Rattle.ckr_jcl.specs.declared.deck.Dd.{Dd}
use Rattle.ckr_jcl.specs.declared.deck.Job.{Job}
use Rattle.ckr_jcl.specs.declared.deck.Restart.{Restart}
use Rattle.ckr_jcl.specs.declared.deck.Step.{Step}
use Rattle.ckr_library.specs.declared.uses.Use.{Use}
use Rattle.ckr_library.specs.NameMaps.{Name, same_name}
use Rattle.ckr_meaning.specs.EffectiveJob.{is_among, name_of, names_of, names_of_job, names_of_steps, owned_by, plain_job}
use Rattle.ckr_points_invariant.specs.Invariant.{Leaves, leaves_dd}
use Rattle.ckr_points.specs.Office.{Leg}
use Rattle.ckr_points.specs.Rows.{RunRow, TablesModel}
use Rattle.ckr_points_invariant.proofs.Holders.Moves.{Among}
use Rattle.ckr_points_invariant.specs.JobNames.{HasUses}

-- the uses of a deck, by its RESTART and its SYSCHK
abbrev uses_by : ℕ → Job → Option Restart → Option Dd → List Use
uses_by run deck restart syschk =
    flat_map (uses_in_step (is_some restart) (cond (is_some restart) deck.name (run_name run))) deck.steps ++ option_to_list (option_and_then (use_of_syschk (is_some restart)) syschk)

-- ---- names

dds_used : (run : ℕ) (deck : Job) (step : Step) (dds : List Dd) (name : Name) → list_any (is_of name) (filter_map (use_in false (run_name run) step.name) dds) ≡ is_among (filter_map (name_of run (owned_by run deck step)) dds) name
dds_used run deck step [] name = refl
dds_used run deck step (dd ∷ dds) name =
    by (dds_used run deck step dds name) (name_under dd (run_name run) (run_name run) step.name)
  where
    by : list_any (is_of name) (filter_map (use_in false (run_name run) step.name) dds) ≡ is_among (filter_map (name_of run (owned_by run deck step)) dds) name → (other : Option Name) → list_any (is_of name) (cons_option (option_map (use_as false dd) other) (filter_map (use_in false (run_name run) step.name) dds)) ≡ is_among (cons_option other (filter_map (name_of run (owned_by run deck step)) dds)) name
    by rest None = rest
    by rest (Some other) = ap (λ b. same_name name other || b) rest

steps_used : (run : ℕ) (deck : Job) (steps : List Step) (name : Name) → list_any (is_of name) (flat_map (uses_in_step false (run_name run)) steps) ≡ is_among (names_of_steps run (map (owned_by run deck) steps)) name
steps_used run deck [] name = refl
steps_used run deck (step ∷ steps) name =
    list_any-append (is_of name) (uses_in_step false (run_name run) step) (flat_map (uses_in_step false (run_name run)) steps)
    ∙ ap (λ b. b || list_any (is_of name) (flat_map (uses_in_step false (run_name run)) steps)) (dds_used run deck step step.dds name)
    ∙ ap (λ b. is_among (names_of run (owned_by run deck step)) name || b) (steps_used run deck steps name)
    ∙ sym (list_any-append (same_name name) (names_of run (owned_by run deck step)) (names_of_steps run (map (owned_by run deck) steps)))

-- each name of a plain job is used
pub names-used : (run : ℕ) (deck : Job) (name : Name) → deck.restart ≡ None → is_among (names_of_job (plain_job run deck)) name ≡ true → list_any (is_of name) (uses_of run deck) ≡ true
unfolding uses_of
names-used run deck name plain among =
    (merged-is (uses_of_dds run deck)).same name
    ∙ ap (λ restart. list_any (is_of name) (uses_by run deck restart deck.syschk)) plain
    ∙ list_any-append (is_of name) (flat_map (uses_in_step false (run_name run)) deck.steps) (option_to_list (option_and_then (use_of_syschk false) deck.syschk))
    ∙ or_left _ (list_any (is_of name) (option_to_list (option_and_then (use_of_syschk false) deck.syschk))) (steps_used run deck deck.steps name ∙ among)

-- ---- names that aren't exclusive

shares_by : (same shared : Bool) → (same && not shared) ≡ false → (not same || shared) ≡ true
shares_by true true e = refl
shares_by true false e = absurd (false≢true (sym e))
shares_by false shared e = refl

dds_leave : (run : ℕ) (deck : Job) (step : Step) (dds : List Dd) (name : Name) → list_any (is_exclusive_of name) (filter_map (use_in false (run_name run) step.name) dds) ≡ false → list_all (leaves_dd run (owned_by run deck step) name) dds ≡ true
dds_leave run deck step [] name none = refl
dds_leave run deck step (dd ∷ dds) name none =
    by (dds_leave run deck step dds name) (name_under dd (run_name run) (run_name run) step.name) none
  where
    by : (list_any (is_exclusive_of name) (filter_map (use_in false (run_name run) step.name) dds) ≡ false → list_all (leaves_dd run (owned_by run deck step) name) dds ≡ true) → (other : Option Name) → list_any (is_exclusive_of name) (cons_option (option_map (use_as false dd) other) (filter_map (use_in false (run_name run) step.name) dds)) ≡ false → (leaves name other (is_shared dd) && list_all (leaves_dd run (owned_by run deck step) name) dds) ≡ true
    by rest None none = rest none
    by rest (Some other) none =
        let both_none = or_parts (same_name name other && not (is_shared dd)) _ none in
        and_from (not (same_name name other) || is_shared dd) _ (shares_by (same_name name other) (is_shared dd) both_none.0) (rest both_none.1)

steps_leave : (run : ℕ) (deck : Job) (steps : List Step) (name : Name) → list_any (is_exclusive_of name) (flat_map (uses_in_step false (run_name run)) steps) ≡ false → list_all (λ owned. list_all (leaves_dd run owned name) owned.step.dds) (map (owned_by run deck) steps) ≡ true
steps_leave run deck [] name none = refl
steps_leave run deck (step ∷ steps) name none =
    let both_none = or_parts (list_any (is_exclusive_of name) (uses_in_step false (run_name run) step)) _ (sym (list_any-append (is_exclusive_of name) (uses_in_step false (run_name run) step) (flat_map (uses_in_step false (run_name run)) steps)) ∙ none) in
    and_from (list_all (leaves_dd run (owned_by run deck step) name) step.dds) _ (dds_leave run deck step step.dds name both_none.0) (steps_leave run deck steps name both_none.1)

-- a plain job leaves a name that isn't exclusive
pub shared-left : (run : ℕ) (deck : Job) (name : Name) → deck.restart ≡ None → list_any (is_exclusive_of name) (uses_of run deck) ≡ false → Leaves (plain_job run deck) name
unfolding uses_of
shared-left run deck name plain none =
    steps_leave run deck deck.steps name
    (or_parts (list_any (is_exclusive_of name) (flat_map (uses_in_step false (run_name run)) deck.steps)) (list_any (is_exclusive_of name) (option_to_list (option_and_then (use_of_syschk false) deck.syschk)))
    (sym (list_any-append (is_exclusive_of name) (flat_map (uses_in_step false (run_name run)) deck.steps) (option_to_list (option_and_then (use_of_syschk false) deck.syschk)))
    ∙ sym (ap (λ restart. list_any (is_exclusive_of name) (uses_by run deck restart deck.syschk)) plain)
    ∙ sym ((merged-is (uses_of_dds run deck)).exclusive name) ∙ none)).0

-- ---- two runs that don't hold against each other

exclusive_in_none : (mine theirs one other : Bool) → (mine && theirs && (one || other)) ≡ false → mine ≡ true → theirs ≡ true → (one ≡ false) × (other ≡ false)
exclusive_in_none true true one other e f g = or_parts one other e
exclusive_in_none true false one other e f g = absurd (false≢true g)
exclusive_in_none false theirs one other e f g = absurd (false≢true f)

-- a name that two runs have in common isn't exclusive in either
pub none-exclusive : (first second : List Use) (name : Name) → holds first second ≡ false → list_any (is_of name) first ≡ true → list_any (is_of name) second ≡ true → (list_any (is_exclusive_of name) first ≡ false) × (list_any (is_exclusive_of name) second ≡ false)
none-exclusive first second name free mine theirs =
    exclusive_in_none (list_any (is_of name) first) (list_any (is_of name) second) (list_any (is_exclusive_of name) first) (list_any (is_exclusive_of name) second)
    (bool-cases (holds_at name first second) (λ at_name. absurd (false≢true (sym free ∙ (holds-names first second).1 (name, at_name)))) (λ e. e)) mine theirs

-- a holder without RESTART uses the names of its reach
pub holder-uses : (tables : TablesModel) (row : RunRow) (leg : Leg) (name : Name) → HasUses tables row leg → row.deck.restart ≡ None → Among leg name → list_any (is_of name) (uses_of row.number row.deck) ≡ true
holder-uses tables row leg name uses plain among =
    names-used row.number row.deck name plain (ap (λ job. is_among (names_of_job job) name) (sym (uses.plain plain)) ∙ uses.reached plain name among)

-- and leaves one that isn't exclusive
pub holder-leaves : (tables : TablesModel) (row : RunRow) (leg : Leg) (name : Name) → HasUses tables row leg → row.deck.restart ≡ None → list_any (is_exclusive_of name) (uses_of row.number row.deck) ≡ false → Leaves leg.job name
holder-leaves tables row leg name uses plain none =
    subst (λ job. Leaves job name) (sym (uses.plain plain)) (shared-left row.number row.deck name plain none)
