-- The faults of a whole deck whose statements have none, each with the least card where it holds.
use Rattle.std.specs.Prelude.{ℕ, ◌==◌, ◌&&◌, ◌||◌, not, Bool, true, false, if◌then◌else◌, nat_le, nat_lt, List, [], ◌∷◌, ◌++◌, length, Option, Some, None, Result, Ok, Err, bytes_eq, find, slice_get}
use Rattle.std.specs.List.{list_any, list_all, position}
use Rattle.std.specs.Option.{option_map, option_or, is_some, is_none}
use Rattle.std.specs.Result.{is_err}
use Rattle.ckr_jcl.specs.declared.deck.Kind.{Kind}
use Rattle.ckr_jcl.specs.declared.deck.Parm.{Parm}
use Rattle.ckr_jcl.specs.declared.refusal.ParmError.{ParmError}
use Rattle.ckr_jcl.specs.declared.deck.Role.{Role}
use Rattle.ckr_jcl.specs.declared.deck.Role.TheVariants.{Reads, Writes, Updates}
use Rattle.ckr_jcl_operands.specs.declared.job_values.StepReference.{StepReference}
use Rattle.ckr_jcl_operands.specs.declared.job_values.StepReference.TheVariants.{FirstStep, NamedStep}
use Rattle.ckr_jcl_operands.specs.declared.job_values.RestartText.{RestartText}
use Rattle.ckr_jcl_operands.specs.declared.dd_values.DsnText.{DsnText}
use Rattle.ckr_jcl_operands.specs.declared.dd_values.DsnText.TheVariants.{Permanent, Passing}
use Rattle.ckr_jcl_faults.specs.declared.dd_faults.DdRule.TheVariants.{LeftOut, IllNamed, WrongUse, WrongSpace, WrongRecords}
use Rattle.ckr_jcl_faults.specs.declared.deck_text.DdText.{DdText}
use Rattle.ckr_jcl_faults.specs.declared.deck_text.StepText.{StepText}
use Rattle.ckr_jcl_faults.specs.declared.deck_text.JobText.{JobText}
use Rattle.ckr_jcl.specs.Text.{if_holds}
use Rattle.ckr_jcl.specs.ParmGrammar.{read_parm_text, no_parm}
use Rattle.ckr_jcl.specs.Programs.{names_read, names_written, names_updated, names_checkpointed}
use Rattle.ckr_jcl_faults.specs.DdFaults.{is_old, is_shared, is_temporary, is_chkdd, breaks}

-- ---- cards

abbrev pub step_card : StepText → ℕ
step_card step = step.card

abbrev pub dd_card : DdText → ℕ
dd_card dd = dd.card

-- the card of the first step of which a test holds
abbrev pub step_where : (StepText → Bool) → List StepText → Option ℕ
step_where test steps = option_map step_card (find test steps)

abbrev pub dd_where : (DdText → Bool) → List DdText → Option ℕ
dd_where test dds = option_map dd_card (find test dds)

-- the card of the first DD of the steps of which a test holds
abbrev pub dd_in_steps : (DdText → Bool) → List StepText → Option ℕ
dd_in_steps test [] = None
dd_in_steps test (step ∷ rest) = option_or (dd_where test step.dds) (dd_in_steps test rest)

-- the same with SYSCHK, which stands before all steps
abbrev pub syschk_where : (DdText → Bool) → Option DdText → Option ℕ
syschk_where test None = None
syschk_where test (Some dd) = if_holds (test dd) dd.card

unfoldable pub dd_or_syschk : (DdText → Bool) → JobText → Option ℕ
dd_or_syschk test job = option_or (syschk_where test job.syschk) (dd_in_steps test job.steps)

-- ---- restart

abbrev pub is_step_of : StepReference → StepText → Bool
is_step_of FirstStep step = true
is_step_of (NamedStep name) step = bytes_eq name step.name

-- the place of the step that RESTART names, from 0
unfoldable pub step_place : StepReference → List StepText → Option ℕ
step_place reference steps = position (is_step_of reference) steps

abbrev pub no_step_of : Option RestartText → List StepText → Bool
no_step_of None steps = false
no_step_of (Some restart) steps = is_none (step_place restart.step steps)

-- RESTART names no step of the deck
unfoldable pub restart_step_fault : JobText → Option ℕ
restart_step_fault job = if_holds (no_step_of job.restart job.steps) job.card

abbrev pub names_checkpoint : Option RestartText → Bool
names_checkpoint None = false
names_checkpoint (Some restart) = is_some restart.id

-- SYSCHK has a DSN, no temporary one, beside which `*`, DATA and DUMMY don't stand, and the status OLD or SHR
unfoldable pub is_right_syschk : DdText → Bool
is_right_syschk dd =
    is_some dd.dsn && not (dd.in_stream || dd.dummy) && not (is_temporary dd.dsn)
    && (is_old dd.disp.status || is_shared dd.disp.status)

abbrev pub syschk_fault : Option DdText → Bool → ℕ → Option ℕ
syschk_fault None wanted card = if_holds wanted card
syschk_fault (Some dd) wanted card = if_holds (not wanted || not (is_right_syschk dd)) dd.card

-- a checkid without SYSCHK, or SYSCHK without a checkid or of the wrong form
unfoldable pub checkpoint_fault : JobText → Option ℕ
checkpoint_fault job = syschk_fault job.syschk (names_checkpoint job.restart) job.card

-- ---- programs

abbrev pub has_no_program : StepText → Bool
has_no_program step = is_none step.program

-- EXEC has no PGM, or one that is no program
unfoldable pub program_fault : JobText → Option ℕ
program_fault job = step_where has_no_program job.steps

abbrev pub is_wrong_parm : Option Kind → List ℕ → Bool
is_wrong_parm None text = false
is_wrong_parm (Some kind) text = is_err (read_parm_text kind text)

abbrev pub has_wrong_parm : StepText → Bool
has_wrong_parm step = is_wrong_parm step.program step.parm.items

-- PARM isn't in the program's grammar
unfoldable pub parm_text_fault : JobText → Option ℕ
parm_text_fault job = step_where has_wrong_parm job.steps

abbrev pub is_dd_of : List ℕ → DdText → Bool
is_dd_of name dd = bytes_eq name dd.name

abbrev pub has_dd : List DdText → List ℕ → Bool
has_dd dds name = list_any (is_dd_of name) dds

-- whether a step has each DD of a table
unfoldable pub has_dds : List DdText → List (List ℕ) → Bool
has_dds dds names = list_all (has_dd dds) names

abbrev pub parm_or_none : Result Parm ParmError → Parm
parm_or_none (Ok parm) = parm
parm_or_none (Err error) = no_parm

-- what PARM says, or nothing where it isn't in the grammar
unfoldable pub parm_of : Kind → List ℕ → Parm
parm_of kind text = parm_or_none (read_parm_text kind text)

-- CHKDD is needed where CHK is given
unfoldable pub has_checkpoint_dd : Kind → Parm → List DdText → Bool
has_checkpoint_dd kind parm dds = parm.chk == 0 || has_dds dds (names_checkpointed kind)

unfoldable pub has_needed_dds : Kind → Parm → List DdText → Bool
has_needed_dds kind parm dds =
    has_dds dds (names_read kind) && has_dds dds (names_written kind) && has_dds dds (names_updated kind)
    && has_checkpoint_dd kind parm dds

abbrev pub lacks_needed : Option Kind → StepText → Bool
lacks_needed None step = false
lacks_needed (Some kind) step = not (has_needed_dds kind (parm_of kind step.parm.items) step.dds)

abbrev pub lacks_dd : StepText → Bool
lacks_dd step = lacks_needed step.program step

-- a DD that the program needs is missing
unfoldable pub missing_dd : JobText → Option ℕ
missing_dd job = step_where lacks_dd job.steps

-- ---- names that stand twice

abbrev pub is_same_dsn : Option DsnText → Option DsnText → Bool
is_same_dsn (Some (Permanent a)) (Some (Permanent b)) = bytes_eq a b
is_same_dsn (Some (Passing a)) (Some (Passing b)) = bytes_eq a b
is_same_dsn _ _ = false

abbrev pub has_dsn : Option DsnText → DdText → Bool
has_dsn dsn other = is_same_dsn other.dsn dsn

abbrev pub has_dd_name : List ℕ → DdText → Bool
has_dd_name name other = bytes_eq other.name name

-- a DD after others has a dd name or a data set name of one of them
abbrev pub is_repeated_dd : List DdText → DdText → Bool
is_repeated_dd before dd = list_any (has_dd_name dd.name) before || list_any (has_dsn dd.dsn) before

abbrev pub repeated_dd : List DdText → List DdText → Option ℕ
repeated_dd before [] = None
repeated_dd before (dd ∷ rest) = option_or (if_holds (is_repeated_dd before dd) dd.card) (repeated_dd (before ++ dd ∷ []) rest)

abbrev pub has_step_name : List ℕ → StepText → Bool
has_step_name name other = bytes_eq other.name name

-- a step name stands twice, or a name in a step
abbrev pub repeated_in : List StepText → List StepText → Option ℕ
repeated_in before [] = None
repeated_in before (step ∷ rest) =
    option_or (if_holds (list_any (has_step_name step.name) before) step.card)
    (option_or (repeated_dd [] step.dds) (repeated_in (before ++ step ∷ []) rest))

unfoldable pub repeated_name : JobText → Option ℕ
repeated_name job = repeated_in [] job.steps

-- ---- limits

abbrev pub step_beyond : List StepText → Option ℕ
step_beyond steps = option_map step_card (slice_get steps 64)

abbrev pub dd_beyond : List StepText → Option ℕ
dd_beyond [] = None
dd_beyond (step ∷ rest) = option_or (option_map dd_card (slice_get step.dds 16)) (dd_beyond rest)

abbrev pub card_beyond : ℕ → Option ℕ
card_beyond cards = if_holds (nat_lt 100000 cards) 100001

abbrev pub no_step : ℕ → List StepText → Option ℕ
no_step cards steps = if_holds (length steps == 0) cards

abbrev pub lesser : Option ℕ → Option ℕ → Option ℕ
lesser None later = later
lesser (Some card) None = Some card
lesser (Some card) (Some other) = if nat_le card other then Some card else Some other

-- the 65th step, the 17th DD of a step, card 100,001, or the last card of a deck without a step
unfoldable pub limit_fault : ℕ → JobText → Option ℕ
limit_fault cards job =
    lesser (step_beyond job.steps) (lesser (dd_beyond job.steps) (lesser (card_beyond cards) (no_step cards job.steps)))

-- ---- checkpoint data sets

abbrev pub is_checkpointed_on : Option DsnText → DdText → Bool
is_checkpointed_on dsn other = is_chkdd other && is_same_dsn other.dsn dsn

abbrev pub any_dd : (DdText → Bool) → List StepText → Bool
any_dd test [] = false
any_dd test (step ∷ rest) = list_any test step.dds || any_dd test rest

abbrev pub is_worked : Role → Bool
is_worked Reads = true
is_worked Writes = true
is_worked Updates = true
is_worked _ = false

abbrev pub meets_checkpoint : List StepText → DdText → Bool
meets_checkpoint steps dd = is_worked dd.role && any_dd (is_checkpointed_on dd.dsn) steps

-- a name on CHKDD stands in the deck on a DD that reads, writes or updates
unfoldable pub checkpoint_name_fault : JobText → Option ℕ
checkpoint_name_fault job = dd_in_steps (meets_checkpoint job.steps) job.steps

-- ---- the table

unfoldable pub faults_of_uses : ℕ → JobText → List (ℕ × Option ℕ)
faults_of_uses cards job =
    (20, dd_in_steps (breaks WrongUse) job.steps) ∷
    (21, dd_in_steps (breaks WrongSpace) job.steps) ∷
    (22, dd_in_steps (breaks WrongRecords) job.steps) ∷
    (23, limit_fault cards job) ∷
    (24, checkpoint_name_fault job) ∷ []

unfoldable pub faults_of_names : ℕ → JobText → List (ℕ × Option ℕ)
faults_of_names cards job =
    (17, dd_or_syschk (breaks LeftOut) job) ∷
    (18, dd_or_syschk (breaks IllNamed) job) ∷
    (19, repeated_name job) ∷ faults_of_uses cards job

-- SYSCHK is looked at for 13, 17 and 18 alone
unfoldable pub deck_faults : ℕ → JobText → List (ℕ × Option ℕ)
deck_faults cards job =
    (12, restart_step_fault job) ∷
    (13, checkpoint_fault job) ∷
    (14, program_fault job) ∷
    (15, parm_text_fault job) ∷
    (16, missing_dd job) ∷ faults_of_names cards job
