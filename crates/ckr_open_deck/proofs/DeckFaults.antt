-- No fault of a whole deck looks at the records of a DD.
use Rattle.std.proofs.Common.{◌≡◌, ℕ, ◌+◌, ◌==◌, ◌&&◌, ◌||◌, not, Bool, true, false, cond, if◌then◌else◌, nat_lt, List, [], ◌∷◌, ◌++◌, map, find, fold, position, slice_get, Option, Some, None, refl, ap, ap₂, sym, ◌∙◌}
use Rattle.std.specs.List.{list_any, position_or_len}
use Rattle.std.specs.Option.{option_map, option_or, is_none}
use Rattle.std.proofs.lemmas.List.{length-map, map-append}
use Rattle.std.proofs.lemmas.Option.{slice_get-map}
use Rattle.ckr_base.proofs.Sequences.{all-same}
use Rattle.ckr_jcl.specs.declared.deck.Kind.{Kind}
use Rattle.ckr_jcl.specs.declared.deck.Parm.{Parm}
use Rattle.ckr_jcl.specs.declared.deck.Role.{Role}
use Rattle.ckr_jcl.specs.declared.deck.Role.TheVariants.{Reads, Unused}
use Rattle.ckr_jcl.specs.Text.{if_holds}
use Rattle.ckr_jcl.specs.Programs.{names_read, names_written, names_updated, names_checkpointed}
use Rattle.ckr_jcl_operands.specs.declared.job_values.RestartText.{RestartText}
use Rattle.ckr_jcl_operands.specs.declared.job_values.StepReference.{StepReference}
use Rattle.ckr_jcl_operands.specs.declared.job_values.StepReference.TheVariants.{FirstStep, NamedStep}
use Rattle.ckr_jcl_operands.specs.Keywords.{value_of}
use Rattle.ckr_cards.specs.declared.statement.Statement.{Statement}
use Rattle.ckr_cards.specs.Statement.{is_exec, is_dd, name_in}
use Rattle.ckr_jcl_faults.specs.declared.dd_faults.DdRule.{DdRule}
use Rattle.ckr_jcl_faults.specs.declared.dd_faults.DdRule.TheVariants.{LeftOut, IllNamed, WrongUse, WrongSpace, WrongRecords}
use Rattle.ckr_jcl_faults.specs.declared.deck_text.DdText.{DdText}
use Rattle.ckr_jcl_faults.specs.declared.deck_text.StepText.{StepText}
use Rattle.ckr_jcl_faults.specs.declared.deck_text.JobText.{JobText}
use Rattle.ckr_jcl_faults.specs.DdFaults.{is_left_out_dd, breaks_role, is_wrong_use, is_wrong_space, is_wrong_record, breaks, is_temporary, keeps, is_new}
use Rattle.ckr_jcl_faults.specs.DeckText.{dd_text, role_in, step_text, with_dd, job_text, current_step, closed, with_step, dd_in, with_statement, deck_text}
use Rattle.ckr_jcl_decks.specs.DeckFaults.{step_card, dd_card, step_where, dd_where, dd_in_steps, syschk_where, dd_or_syschk, is_step_of, step_place, no_step_of, restart_step_fault, names_checkpoint, is_right_syschk, syschk_fault, checkpoint_fault, has_no_program, program_fault, has_wrong_parm, parm_text_fault, is_dd_of, has_dd, has_dds, parm_of, has_checkpoint_dd, has_needed_dds, lacks_needed, lacks_dd, missing_dd, has_dsn, has_dd_name, is_repeated_dd, repeated_dd, has_step_name, repeated_in, repeated_name, step_beyond, dd_beyond, card_beyond, no_step, lesser, limit_fault, is_checkpointed_on, any_dd, is_worked, meets_checkpoint, checkpoint_name_fault, faults_of_uses, faults_of_names, deck_faults}
use Rattle.ckr_open_deck.specs.StatementHeads.{without_records}

-- ---- a deck without its records

-- a DD
abbrev bare_dd : DdText → DdText
bare_dd dd = record dd { records = [] }

-- a step
abbrev bare_step : StepText → StepText
bare_step step = record step { dds = map bare_dd step.dds }

-- a job
abbrev bare_job : JobText → JobText
bare_job job = record job {
  syschk = option_map bare_dd job.syschk;
  steps = map bare_step job.steps;
  current = option_map bare_step job.current;
}

-- ---- a map that a test doesn't see

module _ {X : Type 0} (f : X → X) (test other : X → Bool) (same : (x : X) → test (f x) ≡ other x) where
  -- what is found
  find-map : (xs : List X) → find test (map f xs) ≡ option_map f (find other xs)
  find-map [] = refl
  find-map (x ∷ xs) = ap (λ b. cond b (Some (f x)) (find test (map f xs))) (same x) ∙ by (other x) (find-map xs)
    where
      by : (b : Bool) → find test (map f xs) ≡ option_map f (find other xs)
          → cond b (Some (f x)) (find test (map f xs)) ≡ option_map f (cond b (Some x) (find other xs))
      by true rest = refl
      by false rest = rest

  -- whether one passes
  any-map : (xs : List X) → list_any test (map f xs) ≡ list_any other xs
  any-map [] = refl
  any-map (x ∷ xs) = ap₂ (λ a b. a || b) (same x) (any-map xs)

  -- the place of the first
  place-map : (xs : List X) → position_or_len test (map f xs) ≡ position_or_len other xs
  place-map [] = refl
  place-map (x ∷ xs) = ap₂ (λ b n. cond (not b) (1 + n) 0) (same x) (place-map xs)

  -- the same, where there is one
  position-map : (xs : List X) → position test (map f xs) ≡ position other xs
  position-map xs = ap₂ (λ place size. cond (nat_lt place size) (Some place) None) (place-map xs) (length-map xs f)

-- the card of a bare step
step_card-same : (step : Option StepText) → option_map step_card (option_map bare_step step) ≡ option_map step_card step
step_card-same None = refl
step_card-same (Some step) = refl

-- the card of a bare DD
dd_card-same : (dd : Option DdText) → option_map dd_card (option_map bare_dd dd) ≡ option_map dd_card dd
dd_card-same None = refl
dd_card-same (Some dd) = refl

-- the card of the first bare step of which a test holds
step_where-same : (test : StepText → Bool) → ((step : StepText) → test (bare_step step) ≡ test step) → (steps : List StepText)
    → step_where test (map bare_step steps) ≡ step_where test steps
step_where-same test same steps =
    ap (option_map step_card) (find-map bare_step test test same steps) ∙ step_card-same (find test steps)

module _ (test other : DdText → Bool) (same : (dd : DdText) → test (bare_dd dd) ≡ other dd) where
  -- the card of the first bare DD of which a test holds
  dd_where-same : (dds : List DdText) → dd_where test (map bare_dd dds) ≡ dd_where other dds
  dd_where-same dds = ap (option_map dd_card) (find-map bare_dd test other same dds) ∙ dd_card-same (find other dds)

  -- the same over the steps
  dd_in_steps-same : (steps : List StepText) → dd_in_steps test (map bare_step steps) ≡ dd_in_steps other steps
  dd_in_steps-same [] = refl
  dd_in_steps-same (step ∷ rest) = ap₂ (λ a b. option_or a b) (dd_where-same step.dds) (dd_in_steps-same rest)

  -- SYSCHK
  syschk_where-same : (dd : Option DdText) → syschk_where test (option_map bare_dd dd) ≡ syschk_where other dd
  syschk_where-same None = refl
  syschk_where-same (Some dd) = ap (λ b. if_holds b dd.card) (same dd)

-- SYSCHK, and then the steps
dd_or_syschk-same : (test : DdText → Bool) → ((dd : DdText) → test (bare_dd dd) ≡ test dd) → (job : JobText)
    → dd_or_syschk test (bare_job job) ≡ dd_or_syschk test job
unfolding dd_or_syschk
dd_or_syschk-same test same job =
    ap₂ (λ a b. option_or a b) (syschk_where-same test test same job.syschk) (dd_in_steps-same test test same job.steps)

-- ---- the rules of a DD

-- what a role doesn't allow
breaks_role-same : (role : Role) (dd : DdText) → breaks_role role (bare_dd dd) ≡ breaks_role role dd
unfolding breaks_role
breaks_role-same Reads dd = refl
breaks_role-same other dd = refl

-- a wrong use
wrong_use-same : (dd : DdText) → is_wrong_use (bare_dd dd) ≡ is_wrong_use dd
unfolding is_wrong_use
wrong_use-same dd =
    let kept : Bool = is_temporary dd.dsn && (keeps dd.disp.normal || keeps dd.disp.abnormal) in
    let unnamed : Bool = is_none dd.dsn && not (is_new dd.disp.status) in
    ap (λ b. b || kept || unnamed) (breaks_role-same dd.role dd)

-- any rule
breaks-same : (rule : DdRule) (dd : DdText) → breaks rule (bare_dd dd) ≡ breaks rule dd
unfolding breaks is_left_out_dd is_wrong_space is_wrong_record
breaks-same LeftOut dd = refl
breaks-same IllNamed dd = refl
breaks-same WrongUse dd = wrong_use-same dd
breaks-same WrongSpace dd = refl
breaks-same WrongRecords dd = refl

-- ---- the faults of a deck, row by row

-- whether a step is the one that RESTART names
is_step_of-same : (reference : StepReference) (step : StepText)
    → is_step_of reference (bare_step step) ≡ is_step_of reference step
is_step_of-same FirstStep step = refl
is_step_of-same (NamedStep name) step = refl

-- its place
step_place-same : (reference : StepReference) (steps : List StepText)
    → step_place reference (map bare_step steps) ≡ step_place reference steps
unfolding step_place
step_place-same reference steps =
    position-map bare_step (is_step_of reference) (is_step_of reference) (is_step_of-same reference) steps

-- whether there is none
no_step_of-same : (restart : Option RestartText) (steps : List StepText)
    → no_step_of restart (map bare_step steps) ≡ no_step_of restart steps
no_step_of-same None steps = refl
no_step_of-same (Some restart) steps = ap is_none (step_place-same restart.step steps)

-- RESTART
restart-same : (job : JobText) → restart_step_fault (bare_job job) ≡ restart_step_fault job
unfolding restart_step_fault
restart-same job = ap (λ b. if_holds b job.card) (no_step_of-same job.restart job.steps)

-- SYSCHK beside a checkid
syschk-same : (dd : Option DdText) (wanted : Bool) (card : ℕ)
    → syschk_fault (option_map bare_dd dd) wanted card ≡ syschk_fault dd wanted card
unfolding is_right_syschk
syschk-same None wanted card = refl
syschk-same (Some dd) wanted card = refl

-- the checkpoint of a restart
checkpoint-same : (job : JobText) → checkpoint_fault (bare_job job) ≡ checkpoint_fault job
unfolding checkpoint_fault
checkpoint-same job = syschk-same job.syschk (names_checkpoint job.restart) job.card

-- the program of a step
program-same : (job : JobText) → program_fault (bare_job job) ≡ program_fault job
unfolding program_fault
program-same job = step_where-same has_no_program (λ step. refl) job.steps

-- its PARM
parm-same : (job : JobText) → parm_text_fault (bare_job job) ≡ parm_text_fault job
unfolding parm_text_fault
parm-same job = step_where-same has_wrong_parm (λ step. refl) job.steps

-- whether a step has a DD
has_dd-same : (dds : List DdText) (name : List ℕ) → has_dd (map bare_dd dds) name ≡ has_dd dds name
has_dd-same dds name = any-map bare_dd (is_dd_of name) (is_dd_of name) (λ dd. refl) dds

-- whether it has those of a table
has_dds-same : (dds : List DdText) (names : List (List ℕ)) → has_dds (map bare_dd dds) names ≡ has_dds dds names
unfolding has_dds
has_dds-same dds names = all-same (has_dd (map bare_dd dds)) (has_dd dds) (has_dd-same dds) names

-- whether it has CHKDD where it needs one
has_checkpoint_dd-same : (kind : Kind) (parm : Parm) (dds : List DdText)
    → has_checkpoint_dd kind parm (map bare_dd dds) ≡ has_checkpoint_dd kind parm dds
unfolding has_checkpoint_dd
has_checkpoint_dd-same kind parm dds = ap (λ b. parm.chk == 0 || b) (has_dds-same dds (names_checkpointed kind))

-- whether it has those that it needs
has_needed_dds-same : (kind : Kind) (parm : Parm) (dds : List DdText)
    → has_needed_dds kind parm (map bare_dd dds) ≡ has_needed_dds kind parm dds
unfolding has_needed_dds
has_needed_dds-same kind parm dds =
    ap₂ (λ a b. a && b)
    (ap₂ (λ a b. a && b)
    (ap₂ (λ a b. a && b) (has_dds-same dds (names_read kind)) (has_dds-same dds (names_written kind)))
    (has_dds-same dds (names_updated kind)))
    (has_checkpoint_dd-same kind parm dds)

-- whether a step lacks one, by its program
lacks_needed-same : (kind : Option Kind) (step : StepText) → lacks_needed kind (bare_step step) ≡ lacks_needed kind step
lacks_needed-same None step = refl
lacks_needed-same (Some kind) step = ap not (has_needed_dds-same kind (parm_of kind step.parm.items) step.dds)

-- a DD that is missing
missing-same : (job : JobText) → missing_dd (bare_job job) ≡ missing_dd job
unfolding missing_dd
missing-same job = step_where-same lacks_dd (λ step. lacks_needed-same step.program step) job.steps

-- a DD whose names stand before
is_repeated_dd-same : (before : List DdText) (dd : DdText)
    → is_repeated_dd (map bare_dd before) (bare_dd dd) ≡ is_repeated_dd before dd
is_repeated_dd-same before dd =
    ap₂ (λ a b. a || b)
    (any-map bare_dd (has_dd_name dd.name) (has_dd_name dd.name) (λ other. refl) before)
    (any-map bare_dd (has_dsn dd.dsn) (has_dsn dd.dsn) (λ other. refl) before)

-- names that stand twice in a step
repeated_dd-same : (before dds : List DdText) → repeated_dd (map bare_dd before) (map bare_dd dds) ≡ repeated_dd before dds
repeated_dd-same before [] = refl
repeated_dd-same before (dd ∷ rest) =
    ap₂ (λ a b. option_or a b)
    (ap (λ b. if_holds b dd.card) (is_repeated_dd-same before dd))
    (ap (λ dds. repeated_dd dds (map bare_dd rest)) (sym (map-append bare_dd before (dd ∷ [])))
    ∙ repeated_dd-same (before ++ dd ∷ []) rest)

-- a step whose name stands before
has_step_name-same : (name : List ℕ) (before : List StepText)
    → list_any (has_step_name name) (map bare_step before) ≡ list_any (has_step_name name) before
has_step_name-same name before = any-map bare_step (has_step_name name) (has_step_name name) (λ other. refl) before

-- names that stand twice in the steps
repeated_in-same : (before steps : List StepText)
    → repeated_in (map bare_step before) (map bare_step steps) ≡ repeated_in before steps
repeated_in-same before [] = refl
repeated_in-same before (step ∷ rest) =
    ap₂ (λ a b. option_or a b)
    (ap (λ b. if_holds b step.card) (has_step_name-same step.name before))
    (ap₂ (λ a b. option_or a b) (repeated_dd-same [] step.dds)
    (ap (λ steps. repeated_in steps (map bare_step rest)) (sym (map-append bare_step before (step ∷ [])))
    ∙ repeated_in-same (before ++ step ∷ []) rest))

-- names that stand twice
repeated-same : (job : JobText) → repeated_name (bare_job job) ≡ repeated_name job
unfolding repeated_name
repeated-same job = repeated_in-same [] job.steps

-- too many steps
step_beyond-same : (steps : List StepText) → step_beyond (map bare_step steps) ≡ step_beyond steps
step_beyond-same steps = ap (option_map step_card) (slice_get-map bare_step steps 64) ∙ step_card-same (slice_get steps 64)

-- too many DDs
dd_beyond-same : (steps : List StepText) → dd_beyond (map bare_step steps) ≡ dd_beyond steps
dd_beyond-same [] = refl
dd_beyond-same (step ∷ rest) =
    ap₂ (λ a b. option_or a b)
    (ap (option_map dd_card) (slice_get-map bare_dd step.dds 16) ∙ dd_card-same (slice_get step.dds 16))
    (dd_beyond-same rest)

-- no step
no_step-same : (cards : ℕ) (steps : List StepText) → no_step cards (map bare_step steps) ≡ no_step cards steps
no_step-same cards steps = ap (λ size. if_holds (size == 0) cards) (length-map steps bare_step)

-- the limits
limit-same : (cards : ℕ) (job : JobText) → limit_fault cards (bare_job job) ≡ limit_fault cards job
unfolding limit_fault
limit-same cards job =
    ap₂ lesser (step_beyond-same job.steps)
    (ap₂ lesser (dd_beyond-same job.steps) (ap (lesser (card_beyond cards)) (no_step-same cards job.steps)))

-- whether a DD of the steps passes a test
any_dd-same : (test : DdText → Bool) → ((dd : DdText) → test (bare_dd dd) ≡ test dd) → (steps : List StepText)
    → any_dd test (map bare_step steps) ≡ any_dd test steps
any_dd-same test same [] = refl
any_dd-same test same (step ∷ rest) = ap₂ (λ a b. a || b) (any-map bare_dd test test same step.dds) (any_dd-same test same rest)

-- whether a DD works on a checkpoint data set
meets_checkpoint-same : (steps : List StepText) (dd : DdText)
    → meets_checkpoint (map bare_step steps) (bare_dd dd) ≡ meets_checkpoint steps dd
meets_checkpoint-same steps dd = ap (λ b. is_worked dd.role && b) (any_dd-same (is_checkpointed_on dd.dsn) (λ other. refl) steps)

-- checkpoint data sets
checkpoint_name-same : (job : JobText) → checkpoint_name_fault (bare_job job) ≡ checkpoint_name_fault job
unfolding checkpoint_name_fault
checkpoint_name-same job =
    dd_in_steps-same (meets_checkpoint (map bare_step job.steps)) (meets_checkpoint job.steps)
    (meets_checkpoint-same job.steps) job.steps

-- a row and those behind it
row-same : (number : ℕ) {own other : Option ℕ} {rows others : List (ℕ × Option ℕ)} → own ≡ other → rows ≡ others
    → ◌≡◌ {A = List (ℕ × Option ℕ)} ((number, own) ∷ rows) ((number, other) ∷ others)
row-same number own rows = ap₂ (λ a b. (number, a) ∷ b) own rows

-- rows 20 to 24
uses-same : (cards : ℕ) (job : JobText) → faults_of_uses cards (bare_job job) ≡ faults_of_uses cards job
unfolding faults_of_uses
uses-same cards job =
    row-same 20 (dd_in_steps-same (breaks WrongUse) (breaks WrongUse) (breaks-same WrongUse) job.steps)
    (row-same 21 (dd_in_steps-same (breaks WrongSpace) (breaks WrongSpace) (breaks-same WrongSpace) job.steps)
    (row-same 22 (dd_in_steps-same (breaks WrongRecords) (breaks WrongRecords) (breaks-same WrongRecords) job.steps)
    (row-same 23 (limit-same cards job) (row-same 24 (checkpoint_name-same job) refl))))

-- rows 17 to 24
names-same : (cards : ℕ) (job : JobText) → faults_of_names cards (bare_job job) ≡ faults_of_names cards job
unfolding faults_of_names
names-same cards job =
    row-same 17 (dd_or_syschk-same (breaks LeftOut) (breaks-same LeftOut) job)
    (row-same 18 (dd_or_syschk-same (breaks IllNamed) (breaks-same IllNamed) job)
    (row-same 19 (repeated-same job) (uses-same cards job)))

-- all rows
bare-faults : (cards : ℕ) (job : JobText) → deck_faults cards (bare_job job) ≡ deck_faults cards job
unfolding deck_faults
bare-faults cards job =
    row-same 12 (restart-same job)
    (row-same 13 (checkpoint-same job)
    (row-same 14 (program-same job) (row-same 15 (parm-same job) (row-same 16 (missing-same job) (names-same cards job)))))

-- ---- the text of a deck

-- a DD
dd-same : (role : Role) (s : Statement) → dd_text role (without_records s) ≡ bare_dd (dd_text role s)
unfolding dd_text value_of
dd-same role s = refl

-- a step
step-same : (s : Statement) → step_text (without_records s) ≡ bare_step (step_text s)
unfolding step_text value_of
step-same s = refl

-- a job
job-same : (s : Statement) → job_text (without_records s) ≡ bare_job (job_text s)
unfolding job_text value_of
job-same s = refl

-- a step with one more DD
with_dd-same : (step : StepText) (s : Statement) → with_dd (bare_step step) (without_records s) ≡ bare_step (with_dd step s)
unfolding with_dd
with_dd-same step s =
    ap (λ (dds : List DdText). record step { dds = dds })
    (ap (λ dd. map bare_dd step.dds ++ dd ∷ []) (dd-same (role_in step.program (name_in s)) s)
    ∙ sym (map-append bare_dd step.dds (dd_text (role_in step.program (name_in s)) s ∷ [])))

-- the step that is read
current-same : (step : Option StepText) → current_step (option_map bare_step step) ≡ map bare_step (current_step step)
current-same None = refl
current-same (Some step) = refl

-- a job whose step has ended
closed-same : (job : JobText) → closed (bare_job job) ≡ bare_job (closed job)
unfolding closed
closed-same job =
    ap (λ (steps : List StepText). record (bare_job job) { steps = steps; current = None })
    (ap (λ steps. map bare_step job.steps ++ steps) (current-same job.current)
    ∙ sym (map-append bare_step job.steps (current_step job.current)))

-- a job with one more step
with_step-same : (job : JobText) (s : Statement) → with_step (bare_job job) (without_records s) ≡ bare_job (with_step job s)
unfolding with_step
with_step-same job s =
    ap₂ (λ (one : JobText) (step : StepText). record one { current = Some step }) (closed-same job) (step-same s)

-- a job with one more DD
dd_in-same : (job : JobText) (step : Option StepText) (s : Statement)
    → dd_in (bare_job job) (option_map bare_step step) (without_records s) ≡ bare_job (dd_in job step s)
dd_in-same job None s = ap (λ (dd : DdText). record (bare_job job) { syschk = Some dd }) (dd-same Unused s)
dd_in-same job (Some step) s = ap (λ (one : StepText). record (bare_job job) { current = Some one }) (with_dd-same step s)

-- a choice of a job
bare-choice : (b : Bool) (one other first second : JobText) → one ≡ bare_job first → other ≡ bare_job second
    → (if b then one else other) ≡ bare_job (if b then first else second)
bare-choice true one other first second does isnt = does
bare-choice false one other first second does isnt = isnt

-- a job with one more statement
with_statement-same : (job : JobText) (s : Statement)
    → with_statement (bare_job job) (without_records s) ≡ bare_job (with_statement job s)
unfolding with_statement
with_statement-same job s =
    bare-choice (is_exec s.kind) _ _ _ _ (with_step-same job s)
    (bare-choice (is_dd s.kind) _ _ _ job (dd_in-same job job.current s) refl)

-- a job with further statements
fold-same : (job : JobText) (rest : List Statement)
    → fold with_statement (bare_job job) (map without_records rest) ≡ bare_job (fold with_statement job rest)
fold-same job [] = refl
fold-same job (s ∷ rest) =
    ap (λ one. fold with_statement one (map without_records rest)) (with_statement-same job s)
    ∙ fold-same (with_statement job s) rest

-- the text of a deck without records is that of the deck, without records
deck_text-same : (first : Statement) (rest : List Statement)
    → deck_text (without_records first) (map without_records rest) ≡ bare_job (deck_text first rest)
unfolding deck_text
deck_text-same first rest =
    ap (λ job. closed (fold with_statement job (map without_records rest))) (job-same first)
    ∙ ap closed (fold-same (job_text first) rest)
    ∙ closed-same (fold with_statement (job_text first) rest)

-- no fault of a whole deck looks at a record
pub deck_faults_same : (cards : ℕ) (first : Statement) (rest : List Statement)
    → deck_faults cards (deck_text (without_records first) (map without_records rest))
    ≡ deck_faults cards (deck_text first rest)
deck_faults_same cards first rest = ap (deck_faults cards) (deck_text-same first rest) ∙ bare-faults cards (deck_text first rest)
