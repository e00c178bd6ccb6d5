-- What an event carries of its job, so that the events stay sound.
use Rattle.std.specs.Prelude.{ℕ, pred, ◌-◌, ◌==◌, Bool, true, false, ◌&&◌, not, nat_le, nat_lt, nat_eq, List, [], ◌∷◌, map, length, take, drop, slice_get, option_and_then, Option, Some, None}
use Rattle.std.specs.Option.{option_map_or, is_some}
use Rattle.std.specs.List.{list_all}
use Rattle.std.specs.Cmp.Lexicographic.{pointwise}
use Rattle.ckr_base.specs.declared.code.Code.{Code}
use Rattle.ckr_base.specs.declared.programs.Output.{Output}
use Rattle.ckr_base.specs.declared.programs.Output.TheVariants.{Main, Rejects, InPlace}
use Rattle.ckr_base.specs.declared.programs.Write.{Write}
use Rattle.ckr_base.specs.declared.programs.Finish.{Finish}
use Rattle.ckr_base.specs.declared.programs.Finish.TheVariants.{Returned, Abend}
use Rattle.ckr_base.specs.Columns.{fitted}
use Rattle.ckr_events.specs.declared.event.Event.{Event}
use Rattle.ckr_events.specs.declared.event.Event.TheVariants.{Submitted, Selected, Denied, Started, Rewritten, Checkpointed, Cancelled, StepEnded, Restarted, Held, Released, Ended, Purged}
use Rattle.ckr_events.specs.declared.event.Ending.TheVariants.{Completed, Coded, Allocation}
use Rattle.ckr_library.specs.declared.sets.Content.{Content}
use Rattle.ckr_library.specs.declared.sets.Content.TheVariants.{Plain, Checkpoints}
use Rattle.ckr_library.specs.NameMaps.{Name, Named, entry_at}
use Rattle.ckr_meaning.specs.LibrarySet.{Library}
use Rattle.ckr_meaning.specs.SetUses.Uses.{are_distinct, is_shr}
use Rattle.ckr_jcl.specs.declared.deck.After.{After}
use Rattle.ckr_jcl.specs.declared.deck.After.TheVariants.{Keep}
use Rattle.ckr_jcl.specs.declared.deck.Dd.{Dd}
use Rattle.ckr_jcl.specs.declared.deck.Disp.{Disp}
use Rattle.ckr_jcl.specs.declared.deck.Job.{Job}
use Rattle.ckr_jcl.specs.declared.deck.Kind.{Kind}
use Rattle.ckr_jcl.specs.declared.deck.Origin.{Origin}
use Rattle.ckr_jcl.specs.declared.deck.Origin.TheVariants.{Named as NamedOrigin, Sysout}
use Rattle.ckr_jcl.specs.declared.deck.Role.{Role}
use Rattle.ckr_jcl.specs.declared.deck.Role.TheVariants.{Reads, Writes, Updates, Checkpoints as ChecksOn, Unused}
use Rattle.ckr_jcl.specs.declared.deck.Status.{Status}
use Rattle.ckr_jcl.specs.declared.deck.Status.TheVariants.{New, Old, Shr, Mod}
use Rattle.ckr_jcl.specs.Programs.{names_updated, role_of}
use Rattle.ckr_jcl.specs.Qualifiers.{is_kept_name}
use Rattle.ckr_meaning.specs.declared.place.Place.{Place}
use Rattle.ckr_meaning.specs.declared.place.Place.TheVariants.{Before, Opened, Within}
use Rattle.ckr_meaning.specs.EffectiveJob.{Effective, OwnedStep, name_of, names_of, plain_job}
use Rattle.ckr_meaning.specs.JobRun.{is_bypassed, start_at}
use Rattle.ckr_meaning.specs.Program.{upto, records_taken}
use Rattle.ckr_meaning.specs.StepRun.{StepStart, case_at, dd_named, work_at, within_at, set_records}
use Rattle.ckr_rules.specs.RuleTables.{automatic}
use Rattle.ckr_rules.specs.declared.cases.Verdict.{Verdict}
use Rattle.ckr_rules.specs.declared.cases.Verdict.TheVariants.{Step, Checkpoint, Denied as DeniedVerdict}
use Rattle.ckr_volumes.specs.declared.layout.Layout.{Layout}
use Rattle.ckr_points.specs.Tables.{name_with_role, is_updates}
use Rattle.ckr_points.specs.RuleCases.{auto_case}
use Rattle.ckr_points_library.specs.Commit.{output_names}
use Rattle.ckr_points.specs.Office.{Office, leg_of}
use Rattle.ckr_points.specs.Restart.{place_of, step_in}
use Rattle.ckr_points.specs.Rows.{RunRow, TableSet, run_of, step_of_run}
use Rattle.ckr_points.specs.Soundness.{rewrite_of}

-- the records of a name
abbrev pub records_under : Library → Name → List (List ℕ)
records_under library name = option_map_or set_records (entry_at library name) []

abbrev pub length_by : Content → TableSet → ℕ → ℕ
length_by Plain table most = most
length_by Checkpoints table most = table.set.length

-- the length of an output now: its records, or what the tables have of the checkpoint data set
abbrev pub length_now : Library → Named TableSet → Name → ℕ
length_now library sets name =
    option_map_or (λ table. length_by table.set.content table (length (records_under library name))) (entry_at sets name) 0

-- the lengths that an event carries, one for each output in the order of the DDs
abbrev pub lengths_at : StepStart → Named TableSet → ℕ → List ℕ
lengths_at start sets writes =
    let library = within_at start writes in
    map (length_now library sets) (output_names start.root start.owned)

-- the committed lengths, of a run that has no running step
abbrev pub lengths_kept : ℕ → OwnedStep → Named TableSet → List ℕ
lengths_kept root owned sets =
    map (λ name. option_map_or (λ table. table.set.length) (entry_at sets name) 0) (output_names root owned)

abbrev pub is_length : Content → ℕ → ℕ → Bool
is_length Plain wanted now = wanted == now
is_length Checkpoints wanted now = true

-- whether the lengths of plain outputs are those of a library
abbrev pub have_lengths : Library → Named TableSet → List Name → List ℕ → Bool
have_lengths library sets [] [] = true
have_lengths library sets [] (now ∷ lengths) = false
have_lengths library sets (name ∷ names) [] = false
have_lengths library sets (name ∷ names) (now ∷ lengths) =
    option_map_or (λ table. is_length table.set.content (length (records_under library name)) now) (entry_at sets name) false
    && have_lengths library sets names lengths

-- the writes that a place stands behind
abbrev pub writes_in : Place → ℕ
writes_in (Before step) = 0
writes_in (Opened step) = 0
writes_in (Within step writes) = writes

-- the writes of a step from one on, up to one
abbrev pub writes_between : StepStart → ℕ → ℕ → List Write
writes_between start from to = take (to - from) (drop from (work_at start).writes)

abbrev pub is_in_place : Output → Bool
is_in_place Main = false
is_in_place Rejects = false
is_in_place (InPlace place) = true

-- none of those writes is a rewrite, each of which is an event of its own
abbrev pub rewrites_nothing : StepStart → ℕ → ℕ → Bool
rewrites_nothing start from to = list_all (λ write. not (is_in_place write.output)) (writes_between start from to)

-- the writes are some of the step's, and the lengths are those behind them
abbrev pub carries_lengths : Named TableSet → ℕ → List ℕ → StepStart → Bool
carries_lengths sets writes lengths start =
    nat_le writes (length (work_at start).writes)
    && have_lengths (within_at start writes) sets (output_names start.root start.owned) lengths

-- those behind the writes that are committed, with no rewrite among them
abbrev pub commits : Named TableSet → RunRow → ℕ → List ℕ → StepStart → Bool
commits sets row writes lengths start =
    let from = writes_in (place_of row) in
    nat_le from writes && rewrites_nothing start from writes && carries_lengths sets writes lengths start

abbrev pub is_returned : ℕ → Finish → Bool
is_returned rc (Returned other) = rc == other
is_returned rc (Abend code) = false

-- the rewrite is the last of the writes, fitted to MASTER's record length
abbrev pub carries_rewrite : Named TableSet → ℕ → ℕ → List ℕ → StepStart → Bool
carries_rewrite sets writes place image start =
    option_map_or
    (λ write.
    option_map_or
    (λ at.
    at.0 == place
    && option_map_or (λ table. pointwise nat_eq image (fitted table.set.lrecl at.1)) (entry_at sets (name_with_role start.root start.owned is_updates)) false)
    (rewrite_of write.output write.image) false)
    (slice_get (work_at start).writes (pred writes)) false

-- the writes are those for the records taken
abbrev pub carries_taken : ℕ → ℕ → StepStart → Bool
carries_taken taken writes start =
    nat_le taken (records_taken (case_at start)) && writes == length (upto (case_at start) taken)

abbrev pub is_verdict : Bool → Verdict → Bool
is_verdict checkpoint (DeniedVerdict rule) = false
is_verdict true Checkpoint = true
is_verdict true Step = false
is_verdict false Checkpoint = false
is_verdict false Step = true

-- the step of a run as it is about to start
abbrev pub start_in_office : Office → RunRow → Option StepStart
start_in_office office row = option_map_or (λ leg. start_at leg.job leg.start (step_in (place_of row))) (leg_of office row.number) None

-- a test of the step that a run is in
abbrev pub of_start : Office → ℕ → (RunRow → StepStart → Bool) → Bool
of_start office job test =
    option_map_or (λ row. option_map_or (test row) (start_in_office office row) false) (run_of office.tables job) false

abbrev pub is_judged : Layout → Office → ℕ → Code → Bool → Bool
is_judged layout office job code checkpoint =
    option_map_or (λ row. is_verdict checkpoint (automatic (auto_case row (step_in (place_of row)) layout.eligible.items code false))) (run_of office.tables job) false

abbrev pub of_row : Office → ℕ → (RunRow → Bool) → Bool
of_row office job test = option_map_or test (run_of office.tables job) false

abbrev pub role_number : Role → ℕ
role_number Reads = 1
role_number Writes = 2
role_number Updates = 3
role_number ChecksOn = 4
role_number Unused = 5

abbrev pub is_old : Status → Bool
is_old New = false
is_old Old = true
is_old Shr = false
is_old Mod = false

-- the status that a role allows: no record of a shared data set is written, and what is updated is there before
abbrev pub allows : Role → Status → Bool
allows Reads status = true
allows Writes status = not (is_shr status)
allows Updates status = is_old status
allows ChecksOn status = not (is_shr status)
allows Unused status = true

-- a DD has the role that its step's program has for it, and a status that the role allows
abbrev pub has_role : Kind → Dd → Bool
has_role program dd = role_number dd.role == role_number (role_of program dd.name) && allows dd.role dd.disp.status

-- a DD of that name stands in the step, and has a data set
abbrev pub has_set : ℕ → OwnedStep → Name → Bool
has_set root owned name = is_some (option_and_then (name_of root owned) (dd_named owned name))

-- no name stands twice in the step, its DDs have their roles, and what its program updates is a data set
abbrev pub is_formed_step : ℕ → OwnedStep → Bool
is_formed_step root owned =
    are_distinct (names_of root owned) && list_all (has_role owned.step.program) owned.step.dds
    && list_all (has_set root owned) (names_updated owned.step.program)

-- so it is with each step of the job
abbrev pub is_formed : Effective → Bool
is_formed job = list_all (is_formed_step job.root) job.steps

abbrev pub is_keep : Option After → Bool
is_keep (Some Keep) = true
is_keep _ = false

abbrev pub is_new : Status → Bool
is_new New = true
is_new _ = false

-- a written name isn't one of the desk's own, and what goes to SYSOUT is new and kept at both ends of its step
abbrev pub is_orderly_at : Origin → Disp → Bool
is_orderly_at (NamedOrigin name) disp = not (is_kept_name name)
is_orderly_at Sysout disp = is_new disp.status && is_keep disp.normal && is_keep disp.abnormal
is_orderly_at _ disp = true

abbrev pub is_orderly_dd : Dd → Bool
is_orderly_dd dd = is_orderly_at dd.origin dd.disp

-- the deck of a run: the run's number has at most seven digits, its job is formed, and its DDs are orderly
abbrev pub is_orderly : ℕ → Job → Bool
is_orderly job deck = nat_le job 9999999 && is_formed (plain_job job deck) && list_all (λ step. list_all is_orderly_dd step.dds) deck.steps

-- whether an event carries what the job's run gives at the place that it commits, the entry of a checkpoint has a byte at least, and a Restarted
-- has the verdict of the rules
abbrev pub carries : Layout → Office → Event → Option Job → Bool
carries layout now (Submitted job cards) deck = option_map_or (is_orderly job) deck false
carries layout now (Selected job initiator earlier step id) deck = true
carries layout now (Denied job rule name) deck = true
carries layout now (Started job step items) deck = of_row now job (λ row. option_map_or (λ owned. not (is_bypassed row.rcs owned)) (step_of_run row step) false)
carries layout now (Rewritten job taken writes lengths place image) deck =
    of_start now job
    (λ row start.
    let from = writes_in (place_of row) in
    nat_lt from writes && rewrites_nothing start from (pred writes) && carries_lengths now.tables.sets writes lengths.items start
    && carries_taken taken writes start && carries_rewrite now.tables.sets writes place image start)
carries layout now (Checkpointed job id taken writes lengths place bytes) deck =
    nat_le 1 bytes && of_start now job (λ row start. commits now.tables.sets row writes lengths.items start && carries_taken taken writes start)
carries layout now (Cancelled job) deck = true
carries layout now (StepEnded job step rc writes lengths) deck =
    of_start now job
    (λ row start.
    commits now.tables.sets row writes lengths.items start
    && writes == length (work_at start).writes && is_returned rc (work_at start).finish)
carries layout now (Restarted job initiator code checkpoint) deck = is_judged layout now job code checkpoint
carries layout now (Held job code writes lengths) deck = of_start now job (λ row. commits now.tables.sets row writes lengths.items)
carries layout now (Released job) deck = true
carries layout now (Ended job Completed) deck = true
carries layout now (Ended job (Coded code rule writes lengths)) deck = of_start now job (λ row. commits now.tables.sets row writes lengths.items)
carries layout now (Ended job (Allocation dd cause first second)) deck = true
carries layout now (Purged job) deck = true
