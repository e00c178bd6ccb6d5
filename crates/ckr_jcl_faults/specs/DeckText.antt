-- What the statements of a deck say, as it is written: the job, its steps and their DDs, without judgement.
use Rattle.std.specs.Prelude.{ℕ, ◌&&◌, ◌||◌, not, Bool, if◌then◌else◌, List, [], ◌∷◌, ◌++◌, Option, Some, None, codes, bytes_eq, unwrap_or, fold}
use Rattle.std.specs.List.{list_any}
use Rattle.std.specs.Option.{option_map, is_some}
use Rattle.ckr_jcl.specs.declared.deck.Kind.{Kind}
use Rattle.ckr_jcl.specs.declared.deck.Role.{Role}
use Rattle.ckr_jcl.specs.declared.deck.Role.TheVariants.{Unused}
use Rattle.ckr_jcl_faults.specs.declared.deck_text.DdText.{DdText}
use Rattle.ckr_jcl_faults.specs.declared.deck_text.StepText.{StepText}
use Rattle.ckr_jcl_faults.specs.declared.deck_text.JobText.{JobText}
use Rattle.ckr_cards.specs.declared.operand.Operand.{Operand}
use Rattle.ckr_cards.specs.declared.statement.Statement.{Statement}
use Rattle.ckr_cards.specs.Statement.{is_exec, is_dd, name_in, number_in}
use Rattle.ckr_jcl_operands.specs.JobValues.{rd_value, restart_value, parm_value}
use Rattle.ckr_jcl_operands.specs.DdValues.{dsn_value, disp_of, disp_value, vol_value, space_value}
use Rattle.ckr_jcl_operands.specs.DcbValues.{no_dcb, dcb_value}
use Rattle.ckr_jcl_operands.specs.Keywords.{value_of, meaning_of}
use Rattle.ckr_jcl.specs.Programs.{program_named, role_of}

-- ---- a DD

abbrev pub is_positional_word : List ℕ → Operand → Bool
is_positional_word word operand = not operand.is_keyword && bytes_eq word operand.value

abbrev pub has_word : List ℕ → Statement → Bool
has_word word s = list_any (is_positional_word word) s.operands

-- a DD of a role; its records are the cards behind it
unfoldable pub dd_text : Role → Statement → DdText
dd_text role s = record {
  card = number_in s;
  name = name_in s;
  role = role;
  in_stream = has_word (codes "*") s || has_word (codes "DATA") s;
  dummy = has_word (codes "DUMMY") s;
  sysout = is_some (value_of (codes "SYSOUT") s);
  dsn = option_map dsn_value (value_of (codes "DSN") s);
  disp = unwrap_or (meaning_of (codes "DISP") disp_value s) (disp_of None None None);
  volume = meaning_of (codes "VOL") vol_value s;
  space = meaning_of (codes "SPACE") space_value s;
  dcb = unwrap_or (meaning_of (codes "DCB") dcb_value s) no_dcb;
  records = s.records;
}

-- ---- a step

-- the role that the program of the step has for a name
abbrev pub role_in : Option Kind → List ℕ → Role
role_in None name = Unused
role_in (Some kind) name = role_of kind name

-- a step whose DDs weren't read yet
unfoldable pub step_text : Statement → StepText
step_text s = record {
  card = number_in s;
  name = name_in s;
  rd = meaning_of (codes "RD") rd_value s;
  program = meaning_of (codes "PGM") program_named s;
  parm = record { items = unwrap_or (meaning_of (codes "PARM") parm_value s) [] };
  dds = [];
}

unfoldable pub with_dd : StepText → Statement → StepText
with_dd step s = record step { dds = step.dds ++ dd_text (role_in step.program (name_in s)) s ∷ [] }

-- ---- the job

-- a job whose steps weren't read yet
unfoldable pub job_text : Statement → JobText
job_text s = record {
  card = number_in s;
  name = name_in s;
  rd = meaning_of (codes "RD") rd_value s;
  restart = meaning_of (codes "RESTART") restart_value s;
  syschk = None;
  steps = [];
  current = None;
}

abbrev pub current_step : Option StepText → List StepText
current_step None = []
current_step (Some step) = step ∷ []

-- the step whose DDs are read has ended
unfoldable pub closed : JobText → JobText
closed job = record job { steps = job.steps ++ current_step job.current; current = None }

unfoldable pub with_step : JobText → Statement → JobText
with_step job s = record (closed job) { current = Some (step_text s) }

-- before the first step the only DD is SYSCHK, which has no role
abbrev pub dd_in : JobText → Option StepText → Statement → JobText
dd_in job None s = record job { syschk = Some (dd_text Unused s) }
dd_in job (Some step) s = record job { current = Some (with_dd step s) }

-- a job with one more statement; comments and delimiters say nothing
unfoldable pub with_statement : JobText → Statement → JobText
with_statement job s = if is_exec s.kind then with_step job s else (if is_dd s.kind then dd_in job job.current s else job)

-- the deck of a JOB statement and those behind it
unfoldable pub deck_text : Statement → List Statement → JobText
deck_text job rest = closed (fold with_statement (job_text job) rest)
