-- Checkpoints by their definitions: identifiers, what is due at counts of records, and the worked entry.
use Rattle.std.specs.Prelude.{◌≡◌, ℕ, true, false, Bool, List, [], ◌∷◌, map, codes, Option, None, Some, refl}
use Rattle.std.specs.Option.{option_map, option_map_or}
use Rattle.ckr_base.specs.declared.programs.NextDue.{NextDue}
use Rattle.ckr_base.specs.declared.programs.NextDue.TheVariants.{Unit as OneUnit, Checkpoint, Cancel}
use Rattle.ckr_entry.specs.declared.point.Mark.{Mark}
use Rattle.ckr_entry.specs.declared.point.State.TheVariants.{Plain}
use Rattle.ckr_entry.specs.Parts.{Entry}
use Rattle.ckr_entry.specs.States.{plain_state}
use Rattle.ckr_events.specs.declared.event.Event.TheVariants.{Checkpointed}
use Rattle.ckr_jcl.specs.declared.deck.Kind.TheVariants.{Copy}
use Rattle.ckr_jcl.specs.declared.deck.Rd.{Rd}
use Rattle.ckr_jcl.specs.declared.deck.Rd.TheVariants.{R, Rnc, Nr, Nc}
use Rattle.ckr_jcl_decks.proofs.Definitions.{decks_open}
use Rattle.ckr_library.specs.Catalog.{records_of}
use Rattle.ckr_library.specs.NameMaps.{Name, Named, with_changed}
use Rattle.ckr_meaning.proofs.Definitions.{jobs_open}
use Rattle.ckr_meaning.specs.EffectiveJob.{plain_job}
use Rattle.ckr_meaning.specs.JobRun.{start_at}
use Rattle.ckr_meaning.specs.StepRun.{StepStart}
use Rattle.ckr_points.specs.Office.{Office, office}
use Rattle.ckr_points.specs.Rows.{RunRow, StartPoint, TableSet, run_of}
use Rattle.ckr_desk_turn.proofs.Definitions.{turns_open}
use Rattle.ckr_desk_turn.proofs.Examples.Decks.{checkpointed, copy, deck, sixty}
use Rattle.ckr_desk_turn.proofs.Examples.Tables.{ended, in_one, selected, started, step_ended, submitted}
use Rattle.ckr_desk_turn.specs.Checkpoints.{ServedTurn, checkpoint_event, checkpoint_fits, checkpoint_turn, entry_bytes, id_by, next_entry}
use Rattle.ckr_points.specs.declared.reply.Chkpt.{Chkpt}
use Rattle.ckr_points.specs.declared.reply.Chkpt.TheVariants.{Done, NotWritten, Suppressed}
use Rattle.ckr_points.specs.declared.reply.Reply.{Reply}
use Rattle.ckr_points.specs.declared.reply.Reply.TheVariants.{Checkpointed as CheckpointedReply}
use Rattle.ckr_desk_turn.specs.Due.{next_due}
use Rattle.ckr_desk_turn.specs.EntryStates.{checkpoint_state}
use Rattle.ckr_desk_turn.specs.Units.{StepProgress, arrived}
use Rattle.ckr_points.specs.Payload.{start_in_office}

-- ---- identifiers

ninth : id_by (codes "PAYROLL1") 9 9 ≡ codes "PAYROLL19"
ninth = refl

tenth : id_by (codes "PAYROLL1") 10 10 ≡ codes "PAYROLL110"
tenth = refl

last_of_two_digits : id_by (codes "PAYROLL1") 120 99 ≡ codes "PAYROLL199"
last_of_two_digits = refl

first_of_run : id_by [] 1 1 ≡ codes "C0000001"
first_of_run = refl

-- the last seven digits of the run's number alone
of_eight_digits : id_by [] 10000012 3 ≡ codes "C0000012"
of_eight_digits = refl

-- ---- what is due

-- a step of COPY as it starts, with this CHK and this CANCEL
abbrev with_parm : ℕ → ℕ → StepStart → StepStart
with_parm chk cancel start =
    record start { owned = record start.owned { step = record start.owned.step { parm = record start.owned.step.parm { chk = chk; cancel = cancel } } } }

abbrev started_copy : Option StepStart
started_copy = option_map_or (λ job. start_at (plain_job 1 job) [] 1) (deck (copy (codes "A" ∷ []) (codes "(80,10)"))) None

-- behind so many records taken, with the checkpoint and the cancel due there done or not
abbrev at_count : ℕ → Bool → Bool → StepProgress
at_count taken checked ended = record (arrived taken taken) { checkpointed = checked; cancelled = ended }

abbrev dues : ℕ → ℕ → List StepProgress → List NextDue
dues chk cancel progresses = option_map_or (λ start. map (next_due (with_parm chk cancel start)) progresses) started_copy []

-- CHK=1: a checkpoint behind each record; CANCEL=2 behind the one that is due there, and past it checkpoints go on
each_record : dues 1 2 (
    at_count 0 false false ∷ at_count 1 false false ∷ at_count 1 true false ∷ at_count 2 false false ∷ at_count 2 true false ∷ at_count 2 true true
    ∷ at_count 3 false false ∷ at_count 3 true false ∷ [])
    ≡ OneUnit ∷ Checkpoint ∷ OneUnit ∷ Checkpoint ∷ Cancel ∷ OneUnit ∷ Checkpoint ∷ OneUnit ∷ []
unfolding decks_open jobs_open turns_open
each_record = refl

-- CHK=2 and CANCEL=3: no checkpoint is due at the count of the cancel
cancel_alone : dues 2 3 (
    at_count 1 false false ∷ at_count 2 false false ∷ at_count 2 true false ∷ at_count 3 false false ∷ at_count 3 false true ∷ at_count 4 false false ∷ [])
    ≡ OneUnit ∷ Checkpoint ∷ OneUnit ∷ Cancel ∷ OneUnit ∷ Checkpoint ∷ []
unfolding decks_open jobs_open turns_open
cancel_alone = refl

-- ---- the worked entry: the first checkpoint of a COPY of 60 records that has taken and written 20

abbrev behind_start : Office
behind_start = office (
    submitted 1 (deck sixty) ∷ selected 1 ∷ started 1 1 (in_one 2 0 0 100 ∷ []) ∷ step_ended 1 1 0 60 (60 ∷ []) ∷ ended 1
    ∷ submitted 2 (deck checkpointed) ∷ selected 2 ∷ started 2 1 (in_one 2 0 8000 100 ∷ in_one 3 0 16000 20 ∷ []) ∷ [])

abbrev of_run : {A : Type 0} → Office → (Named TableSet → RunRow → StepStart → A) → Option A
of_run now view = option_map_or (λ row. option_map (view now.tables.sets row) (start_in_office now row)) (run_of now.tables 2) None

abbrev at_twenty : StepProgress
at_twenty = arrived 20 20

abbrev marked : Name → ℕ → ℕ → ℕ → Bool → ℕ → Mark
marked named size room used on maker = record {
  name = named;
  present = Some (record {
    volume = 0;
    lrecl = size;
    space = room;
    length = used;
    cataloged = on;
    stamp = record { run = maker; step = 1; rewrites = 0 };
  });
}

abbrev worked : Entry
worked = record {
  id = codes "C0000001";
  job = codes "K";
  run = 2;
  owner = 2;
  step = 1;
  step_name = codes "S1";
  count = 1;
  taken = 20;
  writes = 20;
  state = Plain (plain_state Copy (record { first = 20; second = 0; rejects = 0; entries = 1 }) 0);
  marks = marked (codes "CHK.K") 256 20 1 false 2 ∷ marked (codes "IN.A") 80 100 60 true 1 ∷ marked (codes "OUT.K") 80 100 20 false 2 ∷ [];
  passed = [];
}

worked_entry : of_run behind_start (λ sets row start. next_entry sets row start at_twenty) ≡ Some worked
unfolding decks_open jobs_open turns_open checkpoint_state
worked_entry = refl

-- it has 143 bytes, and so takes one record
worked_bytes : of_run behind_start (λ sets row start. entry_bytes sets row start at_twenty) ≡ Some 143
unfolding decks_open jobs_open turns_open checkpoint_state
worked_bytes = refl

one_record : records_of 143 ≡ 1
one_record = refl

worked_fits : of_run behind_start (λ sets row start. checkpoint_fits sets row start at_twenty) ≡ Some true
unfolding decks_open jobs_open turns_open checkpoint_state
worked_fits = refl

worked_event : of_run behind_start (λ sets row start. checkpoint_event sets row start at_twenty)
    ≡ Some (Checkpointed 2 (codes "C0000001") 20 20 (record { items = 20 ∷ 1 ∷ [] }) 0 143)
unfolding decks_open jobs_open turns_open checkpoint_state
worked_event = refl

-- ---- the replies to it

-- the turn of the checkpoint, over other data sets and another row
abbrev turn_with : (Named TableSet → Named TableSet) → (RunRow → RunRow) → Option ServedTurn
turn_with sets_then row_then =
    let tables = record behind_start.tables { sets = sets_then behind_start.tables.sets } in
    of_run behind_start (λ sets row start. checkpoint_turn tables (row_then row) start at_twenty)

abbrev reply_with : (Named TableSet → Named TableSet) → (RunRow → RunRow) → Option Reply
reply_with sets_then row_then = option_map (λ turn. turn.reply) (turn_with sets_then row_then)

abbrev answered : Chkpt → Option Name → Option Reply
answered code id = Some (CheckpointedReply 2 (codes "S1") code id)

abbrev in_check_set : (TableSet → TableSet) → Named TableSet → Named TableSet
in_check_set change sets = with_changed (codes "CHK.K") change sets

abbrev under_rd : Rd → RunRow → RunRow
under_rd rd row = record row { deck = record row.deck { rd = Some rd } }

written : reply_with (λ sets. sets) (λ row. row) ≡ answered Done (Some (codes "C0000001"))
unfolding decks_open jobs_open turns_open checkpoint_state
written = refl

-- no record is left in its data set
no_space : reply_with (in_check_set (λ table. record table { set = record table.set { length = 20 } })) (λ row. row) ≡ answered NotWritten (Some (codes "C0000001"))
unfolding decks_open jobs_open turns_open checkpoint_state
no_space = refl

-- the last one is left
last_space : reply_with (in_check_set (λ table. record table { set = record table.set { length = 19 } })) (λ row. row) ≡ answered Done (Some (codes "C0000001"))
unfolding decks_open jobs_open turns_open checkpoint_state
last_space = refl

-- its data set keeps an entry of that identifier
abbrev kept_before : TableSet → TableSet
kept_before table = record table {
  entries = record {
    kept = record { id = codes "C0000001"; run = 1; place = 0; bytes = 143 };
    point = record { job = codes "K"; run = 1; owner = 1; step = 1; step_name = codes "S1"; count = 1; taken = 20; writes = 20; marks = []; passed = [] };
  } ∷ [];
}

identifier_there : reply_with (in_check_set kept_before) (λ row. row) ≡ answered NotWritten (Some (codes "C0000001"))
unfolding decks_open jobs_open turns_open checkpoint_state
identifier_there = refl

-- the run had written so many entries before the step
abbrev behind_entries : ℕ → RunRow → RunRow
behind_entries count row = record row { count = count; points = map (λ (point : StartPoint). record point { count = count }) row.points }

-- it may write 9,999,999 of them, and a step a million
last_of_run : reply_with (λ sets. sets) (behind_entries 9999998) ≡ answered Done (Some (codes "C9999999"))
unfolding decks_open jobs_open turns_open checkpoint_state
last_of_run = refl

too_many : reply_with (λ sets. sets) (behind_entries 9999999) ≡ answered NotWritten (Some (codes "C0000000"))
unfolding decks_open jobs_open turns_open checkpoint_state
too_many = refl

last_of_step : reply_with (λ sets. sets) (λ row. record row { count = 999999 }) ≡ answered Done (Some (codes "C1000000"))
unfolding decks_open jobs_open turns_open checkpoint_state
last_of_step = refl

too_many_of_step : reply_with (λ sets. sets) (λ row. record row { count = 1000000 }) ≡ answered NotWritten (Some (codes "C1000001"))
unfolding decks_open jobs_open turns_open checkpoint_state
too_many_of_step = refl

-- RNC and NC suppress it, R and NR don't
under_each_rd : map (λ rd. reply_with (λ sets. sets) (under_rd rd)) (R ∷ Rnc ∷ Nr ∷ Nc ∷ [])
    ≡ answered Done (Some (codes "C0000001")) ∷ answered Suppressed None ∷ answered Done (Some (codes "C0000001")) ∷ answered Suppressed None ∷ []
unfolding decks_open jobs_open turns_open checkpoint_state
under_each_rd = refl
