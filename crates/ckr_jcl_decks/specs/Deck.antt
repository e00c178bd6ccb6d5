-- A deck: the job that cards are, or why they are none.
use Rattle.std.specs.Prelude.{ℕ, ◌≡◌, ◌+◌, ◌||◌, if◌then◌else◌, List, [], ◌∷◌, length, map, filter_map, Option, Some, None, Result, Ok, Err, codes, bytes_eq, unwrap_or}
use Rattle.std.specs.Option.{option_map, option_and_then}
use Rattle.ckr_jcl.specs.declared.deck.Kind.{Kind}
use Rattle.ckr_jcl.specs.declared.deck.Origin.{Origin}
use Rattle.ckr_jcl.specs.declared.deck.Origin.TheVariants.{InStream, Named, Temporary, Unnamed, Sysout, Dummy}
use Rattle.ckr_jcl.specs.declared.deck.Status.TheVariants.{New}
use Rattle.ckr_jcl.specs.declared.deck.After.TheVariants.{Keep}
use Rattle.ckr_jcl.specs.declared.deck.Disp.{Disp}
use Rattle.ckr_jcl.specs.declared.deck.Dd.{Dd}
use Rattle.ckr_jcl.specs.declared.deck.Step.{Step}
use Rattle.ckr_jcl.specs.declared.deck.Restart.{Restart}
use Rattle.ckr_jcl.specs.declared.deck.Job.{Job}
use Rattle.ckr_jcl_operands.specs.declared.job_values.RestartText.{RestartText}
use Rattle.ckr_jcl_operands.specs.declared.dd_values.DsnText.{DsnText}
use Rattle.ckr_jcl_operands.specs.declared.dd_values.DsnText.TheVariants.{Permanent, Passing}
use Rattle.ckr_jcl_operands.specs.declared.dd_values.VolText.{VolText}
use Rattle.ckr_jcl_operands.specs.declared.dd_values.VolText.TheVariants.{Serial}
use Rattle.ckr_jcl_faults.specs.declared.deck_text.DdText.{DdText}
use Rattle.ckr_jcl_faults.specs.declared.deck_text.StepText.{StepText}
use Rattle.ckr_jcl_faults.specs.declared.deck_text.JobText.{JobText}
use Rattle.ckr_cards.specs.declared.card.Card.{Card}
use Rattle.ckr_cards.specs.declared.statement.Statement.{Statement}
use Rattle.ckr_cards.specs.Card.{cards_in_bytes}
use Rattle.ckr_cards.specs.Statement.{statements_of}
use Rattle.ckr_jcl_operands.specs.DdValues.{disp_of}
use Rattle.ckr_jcl_faults.specs.declared.faults.Fault.{Fault}
use Rattle.ckr_jcl.specs.declared.refusal.DeckError.{DeckError}
use Rattle.ckr_jcl.specs.declared.refusal.DeckError.TheVariants.{NoMemory, At}
use Rattle.ckr_jcl_faults.specs.Faults.{least_fault, statement_fault}
use Rattle.ckr_jcl_faults.specs.DeckText.{deck_text}
use Rattle.ckr_jcl_faults.specs.DdFaults.{is_chkdd}
use Rattle.ckr_jcl_decks.specs.DeckFaults.{deck_faults, step_place, parm_of}

-- ---- a DD

abbrev pub bytes_of : Card → List ℕ
bytes_of card = card.bytes

unfoldable pub named_origin : Option DsnText → Origin
named_origin (Some (Permanent name)) = Named name
named_origin (Some (Passing name)) = Temporary name
named_origin _ = Unnamed

-- in-stream records, DUMMY and SYSOUT come before a name
unfoldable pub origin_of : DdText → Origin
origin_of dd =
    if dd.in_stream then InStream (map bytes_of dd.records)
    else (if dd.dummy then Dummy
    else (if dd.sysout then Sysout
    else named_origin dd.dsn))

unfoldable pub disposition_of : DdText → Disp
disposition_of dd = if dd.sysout then disp_of (Some New) (Some Keep) (Some Keep) else dd.disp

abbrev pub volumes_of : Option VolText → List (List ℕ)
volumes_of (Some (Serial serial)) = serial ∷ []
volumes_of _ = []

-- SYSOUT without SPACE has 500 records
unfoldable pub space_of : DdText → Option ℕ
space_of dd = if dd.sysout then Some (unwrap_or dd.space 500) else dd.space

abbrev pub default_length : DdText → ℕ
default_length dd = if dd.sysout || bytes_eq (codes "SYSPRINT") dd.name then 133 else 80

unfoldable pub record_length : DdText → ℕ
record_length dd =
    if dd.in_stream then 80
    else (if is_chkdd dd then 256
    else unwrap_or dd.dcb.length (default_length dd))

unfoldable pub dd_of : DdText → Dd
dd_of dd = record {
  name = dd.name;
  role = dd.role;
  origin = origin_of dd;
  disp = disposition_of dd;
  volumes = record { items = volumes_of dd.volume };
  space = space_of dd;
  lrecl = record_length dd;
}

-- SYSCHK names a checkpoint data set that exists, so it has no space, and records of 256 bytes
unfoldable pub syschk_of : DdText → Dd
syschk_of dd = record {
  name = dd.name;
  role = dd.role;
  origin = named_origin dd.dsn;
  disp = dd.disp;
  volumes = record { items = volumes_of dd.volume };
  space = None;
  lrecl = 256;
}

-- ---- the job

unfoldable pub step_with : StepText → Kind → Step
step_with step kind = record {
  name = step.name;
  program = kind;
  parm = parm_of kind step.parm.items;
  rd = step.rd;
  cond = [];
  dds = map dd_of step.dds;
}

abbrev pub step_of : StepText → Option Step
step_of step = option_map (step_with step) step.program

abbrev pub restart_at : RestartText → ℕ → Restart
restart_at restart place = record { step = place + 1; id = restart.id }

-- steps are numbered from 1
unfoldable pub restart_of : List StepText → RestartText → Option Restart
restart_of steps restart = option_map (restart_at restart) (step_place restart.step steps)

unfoldable pub job_of : JobText → Job
job_of job = record {
  name = job.name;
  rd = job.rd;
  cond = [];
  restart = option_and_then (restart_of job.steps) job.restart;
  syschk = option_map syschk_of job.syschk;
  steps = filter_map step_of job.steps;
}

-- ---- the answer

abbrev pub job_unless : Option Fault → JobText → Result Job Fault
job_unless None job = Ok (job_of job)
job_unless (Some fault) job = Err fault

unfoldable pub judged : ℕ → JobText → Result Job Fault
judged cards job = job_unless (least_fault (deck_faults cards job)) job

unfoldable pub job_in : ℕ → List Statement → Result Job Fault
job_in cards [] = Err (record { number = 4; card = 1 })
job_in cards (job ∷ rest) = judged cards (deck_text job rest)

-- a fault of a statement comes before those of the whole deck
abbrev pub answer_of : Option Fault → ℕ → List Statement → Result Job Fault
answer_of None cards statements = job_in cards statements
answer_of (Some fault) cards statements = Err fault

-- the job of a deck, or its refusal
unfoldable pub deck_of : List Card → Result Job Fault
deck_of cards = answer_of (statement_fault (statements_of cards)) (length cards) (statements_of cards)

-- the same of cards that are stored in 81 bytes each
unfoldable pub stored_deck : List ℕ → Result Job Fault
stored_deck bytes = deck_of (cards_in_bytes bytes)

-- ---- what a reader answers

-- the job, or the fault; the want of memory says nothing of the deck
abbrev pub Answers : Result Job DeckError → Result Job Fault → Type 0
Answers (Ok job) answer = answer ≡ Ok job
Answers (Err NoMemory) answer = Unit {0}
Answers (Err (At number card)) answer = answer ≡ Err (record { number = number; card = card })
