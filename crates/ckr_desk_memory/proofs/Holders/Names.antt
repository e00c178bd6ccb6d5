-- What a step may change its run reaches, and another run that holds doesn't.
use Rattle.std.proofs.Common.{◌≡◌, ◌≢◌, ◌≤◌, ◌==◌, ℕ, zero, suc, pred, Bool, true, false, ◌&&◌, ◌||◌, List, [], ◌∷◌, filter, refl, ap, sym, ◌∙◌, subst, Option, Some, None, arith}
use Rattle.std.specs.List.{list_all, list_any}
use Rattle.std.specs.Option.{option_map_or}
use Rattle.std.proofs.lemmas.Bool.{false≢true, or_left, or_right}
use Rattle.std.proofs.lemmas.List.Folds.{list_any-append}
use Rattle.ckr_base.proofs.Bools.{and-first, and-second, bool-cases, if-then, or-cases}
use Rattle.ckr_base.proofs.Numbers.{equal-true}
use Rattle.ckr_base.proofs.Options.{option-cases, some-not-none}
use Rattle.ckr_base.proofs.Sequences.{all-at, any-filter, any-second, each-get}
use Rattle.ckr_jcl.specs.declared.deck.Dd.{Dd}
use Rattle.ckr_jcl.specs.declared.deck.Job.{Job}
use Rattle.ckr_jcl.specs.declared.deck.Restart.{Restart}
use Rattle.ckr_jcl.specs.declared.deck.Step.{Step}
use Rattle.ckr_jcl.specs.declared.deck.Role.{Role}
use Rattle.ckr_jcl.specs.declared.deck.Role.TheVariants.{Reads, Writes, Updates, Checkpoints, Unused}
use Rattle.ckr_library.specs.NameMaps.{Name, same_name}
use Rattle.ckr_meaning.specs.Allotments.{is_output}
use Rattle.ckr_meaning.specs.EffectiveJob.{Effective, OwnedStep, is_among, name_of, names_of, names_of_job, owned_by, plain_job}
use Rattle.ckr_points.specs.Marks.{deck_names, own_names}
use Rattle.ckr_points.specs.Payload.{has_role, has_set, is_formed_step}
use Rattle.ckr_points.specs.RuleCases.{is_ended}
use Rattle.ckr_points.specs.Rows.{RunRow, TablesModel, run_of, step_of_run}
use Rattle.ckr_points.specs.Tables.{is_updates}
use Rattle.ckr_desk_turn.proofs.Decks.OrderlyDecks.{deck-orderly}
use Rattle.ckr_points_invariant.specs.Invariant.{AreOrderly, Leaves, leaves_dd}
use Rattle.ckr_points_invariant.specs.JobNames.{IsKin, IsNameOf, has_ended}
use Rattle.ckr_points_invariant.proofs.Continuations.ReachedNames.OwnSteps.{among-rest}
use Rattle.ckr_points_invariant.proofs.Continuations.Steps.{among-behind}
use Rattle.ckr_points_invariant.proofs.Decks.Names.{steps-formed}
use Rattle.ckr_points_invariant.proofs.Holders.CommonNames.{holds-turned, restart-holds, without-holds}
use Rattle.ckr_points_invariant.proofs.Holders.DeckNames.{names-owned}
use Rattle.ckr_points_invariant.proofs.Holders.Rows.{step-all}
use Rattle.ckr_points_invariant.proofs.Holders.SharedSets.{shared_role}
use Rattle.ckr_points_invariant.proofs.Holders.Uses.{names-used, none-exclusive, shared-left}
use Rattle.ckr_points_invariant.proofs.Library.Entries.{among-filter_map, is_name}
use Rattle.ckr_points_invariant.proofs.Writes.Roles.{changes_records}
use Rattle.ckr_desk_plans.specs.Model.Commit.{output_names}
use Rattle.ckr_uses.specs.Uses.{holds, is_shared, leaves, uses_of}
use Rattle.ckr_desk_turn.proofs.Start.Decks.{IsOfDeck, of-deck}
use Rattle.ckr_desk_turn.specs.Invariant.{IsAdmittedStep}
use Rattle.ckr_desk_memory.specs.Invariant.{IsAcceptedRow}
use Rattle.ckr_desk_memory.specs.Holders.{changed_names, is_changed, reached_names}

-- ---- names of a step

changed_some : (root : ℕ) (owned : OwnedStep) (name : Name) → is_among (changed_names root owned) name ≡ true → list_any (λ dd. is_changed dd && is_name name (name_of root owned dd)) owned.step.dds ≡ true
changed_some root owned name among =
    sym (any-filter is_changed (λ dd. is_name name (name_of root owned dd)) owned.step.dds)
    ∙ sym (among-filter_map (name_of root owned) (filter is_changed owned.step.dds) name) ∙ among

-- what a step may change is among its names
pub changed-named : (root : ℕ) (owned : OwnedStep) (name : Name) → is_among (changed_names root owned) name ≡ true → is_among (names_of root owned) name ≡ true
changed-named root owned name among =
    among-filter_map (name_of root owned) owned.step.dds name
    ∙ any-second is_changed (λ dd. is_name name (name_of root owned dd)) owned.step.dds (changed_some root owned name among)

output_changed : (dd : Dd) (named : Bool) → (is_output dd.role && named) ≡ true → (is_changed dd && named) ≡ true
output_changed dd named e = by (is_output dd.role) (is_updates dd.role) named e
  where
    by : (a b named : Bool) → (a && named) ≡ true → ((a || b) && named) ≡ true
    by true b named e = e
    by false b named e = absurd (false≢true e)

some_weaker : {X : Type 0} (one other : X → Bool) (xs : List X) → ((x : X) → one x ≡ true → other x ≡ true) → list_any one xs ≡ true → list_any other xs ≡ true
some_weaker one other [] weaker some = some
some_weaker one other (first ∷ rest) weaker some =
    bool-cases (one first)
    (λ here. or_left (other first) (list_any other rest) (weaker first here))
    (λ isnt. or_right (other first) (list_any other rest) (some_weaker one other rest weaker (sym (ap (λ b. b || list_any one rest) isnt) ∙ some)))

-- an output may be changed
pub outputs-changed : (root : ℕ) (owned : OwnedStep) (name : Name) → is_among (output_names root owned) name ≡ true → is_among (changed_names root owned) name ≡ true
outputs-changed root owned name among =
    among-filter_map (name_of root owned) (filter is_changed owned.step.dds) name
    ∙ any-filter is_changed (λ dd. is_name name (name_of root owned dd)) owned.step.dds
    ∙ some_weaker (λ dd. is_output dd.role && is_name name (name_of root owned dd)) (λ dd. is_changed dd && is_name name (name_of root owned dd)) owned.step.dds
    (λ dd. output_changed dd (is_name name (name_of root owned dd)))
    (sym (any-filter (λ dd. is_output dd.role) (λ dd. is_name name (name_of root owned dd)) owned.step.dds)
    ∙ sym (among-filter_map (name_of root owned) (filter (λ dd. is_output dd.role) owned.step.dds) name) ∙ among)

-- ---- what is changed isn't shared

changed_role : (role : Role) → (is_output role || is_updates role) ≡ true → changes_records role ≡ true
changed_role Reads e = e
changed_role Writes e = refl
changed_role Updates e = refl
changed_role Checkpoints e = refl
changed_role Unused e = e

shared_leaves : (name : Name) (other : Option Name) (shared : Bool) → is_name name other ≡ true → leaves name other shared ≡ true → shared ≡ true
shared_leaves name None shared same left = absurd (false≢true same)
shared_leaves name (Some other) shared same left = if-then (same_name name other) shared left same

all_of : {X : Type 0} (one other : X → Bool) (xs : List X) → list_all one xs ≡ true → list_all other xs ≡ true → list_all (λ x. one x && other x) xs ≡ true
all_of one other [] e f = refl
all_of one other (first ∷ rest) e f =
    by (one first) (other first) e f (all_of one other rest)
  where
    by : (a b : Bool) → (a && list_all one rest) ≡ true → (b && list_all other rest) ≡ true → (list_all one rest ≡ true → list_all other rest ≡ true → list_all (λ x. one x && other x) rest ≡ true) → ((a && b) && list_all (λ x. one x && other x) rest) ≡ true
    by true true e f more = more e f
    by true false e f more = absurd (false≢true f)
    by false b e f more = absurd (false≢true e)

-- a formed step doesn't leave what it may change
pub changed-not_left : (root : ℕ) (owned : OwnedStep) (name : Name) → is_formed_step root owned ≡ true → list_all (leaves_dd root owned name) owned.step.dds ≡ true → is_among (changed_names root owned) name ≡ false
changed-not_left root owned name formed left =
    bool-cases (is_among (changed_names root owned) name) (λ among. absurd (by among)) (λ e. e)
  where
    roles : list_all (has_role owned.step.program) owned.step.dds ≡ true
    roles = and-second _ (list_all (has_role owned.step.program) owned.step.dds) (and-first _ (list_all (has_set root owned) _) formed)

    by : is_among (changed_names root owned) name ≡ true → ⊥
    by among =
        let at = all-at (λ dd. has_role owned.step.program dd && leaves_dd root owned name dd) (λ dd. is_changed dd && is_name name (name_of root owned dd)) owned.step.dds (all_of (has_role owned.step.program) (leaves_dd root owned name) owned.step.dds roles left) (changed_some root owned name among) in
        let dd : Dd = at.0 in
        let has : has_role owned.step.program dd ≡ true = and-first (has_role owned.step.program dd) (leaves_dd root owned name dd) at.1 in
        let leaves_it : leaves_dd root owned name dd ≡ true = and-second (has_role owned.step.program dd) (leaves_dd root owned name dd) at.1 in
        let changes : is_changed dd ≡ true = and-first (is_changed dd) (is_name name (name_of root owned dd)) at.2 in
        let same : is_name name (name_of root owned dd) ≡ true = and-second (is_changed dd) (is_name name (name_of root owned dd)) at.2 in
        false≢true (sym (shared_role owned.step.program dd has (shared_leaves name (name_of root owned dd) (is_shared dd) same leaves_it)) ∙ changed_role dd.role changes)

-- ---- the steps of a run

-- a step of an accepted deck is formed, whatever the root
admitted-formed : (root number : ℕ) (owned : OwnedStep) → IsAdmittedStep number owned → is_formed_step root owned ≡ true
admitted-formed root number owned its =
    let from : IsOfDeck owned.owner its.deck owned = of-deck owned.owner its.deck number owned its.owned_so in
    subst (λ (one : OwnedStep). is_formed_step root one ≡ true) from.is
    (each-get (λ (step : Step). (root owner : ℕ) → is_formed_step root (owned_by owner its.deck step) ≡ true) its.deck.steps from.place from.step
    (steps-formed 0 its.deck (deck-orderly its.cards its.deck 0 (omega arith) its.accepted)) from.at root owned.owner)

pub step-formed : (row : RunRow) (number : ℕ) (owned : OwnedStep) → IsAcceptedRow row → step_of_run row number ≡ Some owned → is_formed_step row.job.root owned ≡ true
step-formed row number owned accepted found = admitted-formed row.job.root number owned (accepted.steps number owned found)

-- the names of a step that a run executes itself are its own
pub own-step_names : (row : RunRow) (number : ℕ) (owned : OwnedStep) (name : Name) → row.earlier_step ≤ number → step_of_run row number ≡ Some owned → is_among (names_of row.job.root owned) name ≡ true → is_among (own_names row) name ≡ true
own-step_names row zero owned name from found among = absurd (some-not-none owned (sym found))
own-step_names row (suc before) owned name from found among = among-behind row.job.root (pred row.earlier_step) before row.job.steps owned name (omega (arith, from)) found among

-- its own names are among those that it reaches
pub own-reached : (row : RunRow) (name : Name) → is_among (own_names row) name ≡ true → is_among (reached_names row) name ≡ true
own-reached row name own = list_any-append (same_name name) (own_names row) (deck_names row.job.root row.number row.deck) ∙ or_left _ (is_among (deck_names row.job.root row.number row.deck) name) own

-- so a name that the run doesn't reach is none of that step's
pub names-outside : (row : RunRow) (number : ℕ) (owned : OwnedStep) (name : Name) → row.earlier_step ≤ number → step_of_run row number ≡ Some owned → is_among (reached_names row) name ≡ false → is_among (names_of row.job.root owned) name ≡ false
names-outside row number owned name from found out =
    bool-cases (is_among (names_of row.job.root owned) name)
    (λ among. absurd (false≢true (sym out ∙ own-reached row name (own-step_names row number owned name from found among))))
    (λ none. none)

-- ---- two runs

-- A run as it acts, beside its row: it reaches names of its deck, with kin as their owners, and its root is kin. Without RESTART it runs its own deck alone.
pub record IsActing (tables : TablesModel) (number : ℕ) (acting : RunRow) : Type 0 where
  pub row : RunRow
  pub row_at : run_of tables number ≡ Some row
  pub on : is_ended row.state ≡ false
  pub root : IsKin tables row acting.job.root
  pub named : (name : Name) → is_among (reached_names acting) name ≡ true → (owner : ℕ) × IsNameOf row.deck acting.job.root owner name × IsKin tables row owner
  pub plain : row.deck.restart ≡ None → acting.job ≡ plain_job row.number row.deck
  pub number_is : acting.number ≡ row.number
  pub deck_is : acting.deck ≡ row.deck

-- a run without RESTART reaches the names of its job
plain-reached : (number : ℕ) (deck : Job) (acting : RunRow) (name : Name) → acting.job ≡ plain_job number deck → acting.number ≡ number → acting.deck ≡ deck → is_among (reached_names acting) name ≡ true → is_among (names_of_job (plain_job number deck)) name ≡ true
plain-reached number deck acting name plain same its among =
    or-cases (is_among (own_names acting) name) (is_among (deck_names acting.job.root acting.number acting.deck) name)
    (sym (list_any-append (same_name name) (own_names acting) (deck_names acting.job.root acting.number acting.deck)) ∙ among)
    (λ own. ap (λ (job : Effective). is_among (names_of_job job) name) (sym plain) ∙ among-rest (names_of acting.job.root) (pred acting.earlier_step) acting.job.steps name own)
    (λ named.
    ap (λ names. is_among names name) (names-owned number number deck deck.steps)
    ∙ ap (λ (job : Effective). is_among (deck_names job.root number deck) name) (sym plain)
    ∙ ap (λ n. is_among (deck_names acting.job.root n deck) name) (sym same)
    ∙ ap (λ (deck : Job). is_among (deck_names acting.job.root acting.number deck) name) (sym its) ∙ named)

module _ (tables : TablesModel) (numbered : (number : ℕ) (row : RunRow) → run_of tables number ≡ Some row → row.number ≡ number) (one other : ℕ) (apart : one ≢ other) (mine : RunRow) (acts : IsActing tables one mine) where
  -- kin of one run isn't another run that hasn't ended
  not-kin : (number : ℕ) (row : RunRow) → IsKin tables acts.row number → run_of tables other ≡ Some row → is_ended row.state ≡ false → number ≢ other
  not-kin number row kin at on same =
      or-cases (number == acts.row.number) (has_ended tables number) kin.1
      (λ own. apart (sym (sym same ∙ equal-true number acts.row.number own ∙ numbered one acts.row acts.row_at)))
      (λ ended.
      false≢true (
      sym on
      ∙ ap (λ (o : Option RunRow). option_map_or (λ (row : RunRow). is_ended row.state) o false) (sym at)
      ∙ ap (has_ended tables) (sym same) ∙ ended))

  -- with RESTART it holds against each run that reaches one of its names
  module _ (orderly : AreOrderly tables) (its : RunRow) (theirs : IsActing tables other its) (restart : Restart) (has : acts.row.deck.restart ≡ Some restart) (name : Name)
      (here : is_among (reached_names mine) name ≡ true) (there : is_among (reached_names its) name ≡ true) where
    own : (owner : ℕ) × IsNameOf acts.row.deck mine.job.root owner name × IsKin tables acts.row owner
    own = acts.named name here

    pub restart-against : holds (uses_of acts.row.number acts.row.deck) (uses_of theirs.row.number theirs.row.deck) ≡ true
    restart-against =
        option-cases theirs.row.deck.restart
        (λ plain.
        without-holds tables numbered orderly one other acts.row theirs.row acts.row_at theirs.row_at restart has mine.job.root own.0 name own.1 acts.root.0 own.2.0 plain
        (plain-reached theirs.row.number theirs.row.deck its name (theirs.plain plain) theirs.number_is theirs.deck_is there)
        (not-kin mine.job.root theirs.row acts.root theirs.row_at theirs.on) (not-kin own.0 theirs.row own.2 theirs.row_at theirs.on))
        (λ restart2 also.
        let found = theirs.named name there in
        restart-holds tables numbered orderly one other acts.row theirs.row acts.row_at theirs.row_at restart has mine.job.root own.0 name own.1 acts.root.0 own.2.0 restart2 also its.job.root found.0 found.1
        theirs.root.0 found.2.0)

-- What a step of a run may change isn't reached by another run that doesn't hold against it.
pub changed-alone : (tables : TablesModel) → ((number : ℕ) (row : RunRow) → run_of tables number ≡ Some row → row.number ≡ number) → AreOrderly tables → (one other : ℕ) → one ≢ other → (mine its : RunRow) (acts : IsActing tables one mine) (theirs : IsActing tables other its)
    → holds (uses_of acts.row.number acts.row.deck) (uses_of theirs.row.number theirs.row.deck) ≡ false → (number : ℕ) (owned : OwnedStep) (name : Name) → mine.earlier_step ≤ number → step_of_run mine number ≡ Some owned
    → is_formed_step mine.job.root owned ≡ true → is_among (changed_names mine.job.root owned) name ≡ true → is_among (reached_names its) name ≡ false
changed-alone tables numbered orderly one other apart mine its acts theirs free number owned name from found formed among =
    bool-cases (is_among (reached_names its) name)
    (λ there.
    absurd (option-cases acts.row.deck.restart
    (λ plain.
    option-cases theirs.row.deck.restart (λ also. both plain also there)
    (λ restart has.
    against (holds-turned (uses_of theirs.row.number theirs.row.deck) (uses_of acts.row.number acts.row.deck)
    (restart-against tables numbered other one (λ same. apart (sym same)) its theirs orderly mine acts restart has name there here))))
    (λ restart has. against (restart-against tables numbered one other apart mine acts orderly its theirs restart has name here there))))
    (λ none. none)
  where
    here : is_among (reached_names mine) name ≡ true
    here = own-reached mine name (own-step_names mine number owned name from found (changed-named mine.job.root owned name among))

    against : holds (uses_of acts.row.number acts.row.deck) (uses_of theirs.row.number theirs.row.deck) ≡ true → ⊥
    against held = false≢true (sym free ∙ held)

    both : acts.row.deck.restart ≡ None → theirs.row.deck.restart ≡ None → is_among (reached_names its) name ≡ true → ⊥
    both plain also there =
        let none = none-exclusive (uses_of acts.row.number acts.row.deck) (uses_of theirs.row.number theirs.row.deck) name free
        (names-used acts.row.number acts.row.deck name plain (plain-reached acts.row.number acts.row.deck mine name (acts.plain plain) acts.number_is acts.deck_is here))
        (names-used theirs.row.number theirs.row.deck name also (plain-reached theirs.row.number theirs.row.deck its name (theirs.plain also) theirs.number_is theirs.deck_is there)) in
        let left : Leaves mine.job name = subst (λ job. Leaves job name) (sym (acts.plain plain)) (shared-left acts.row.number acts.row.deck name plain none.0) in
        false≢true (
        sym (changed-not_left mine.job.root owned name formed (step-all (λ owned. list_all (leaves_dd mine.job.root owned name) owned.step.dds) mine.job number owned left found)) ∙ among)
