-- The event of a unit is foretold by the answer to the unit, before it is done.
use Rattle.std.proofs.Common.{◌≡◌, ◌≤◌, ℕ, ◌+◌, ◌*◌, ◌++◌, Bool, true, false, List, [], length, find, refl, ap, sym, ◌∙◌, subst, Option, Some, None, arith, length-append}
use Rattle.std.proofs.lemmas.List.{length-map}
use Rattle.std.specs.Prelude.{if◌then◌else◌}
use Rattle.std.specs.Int.{w16, w32, to_be_bytes}
use Rattle.std.specs.Option.{is_some, option_map_or}
use Rattle.std.proofs.lemmas.Option.{same_Some}
use Rattle.ckr_base.specs.declared.code.Code.{Code}
use Rattle.ckr_base.specs.declared.code.Code.TheVariants.{System, User}
use Rattle.ckr_base.specs.declared.programs.Heads.{Heads}
use Rattle.ckr_base.specs.declared.programs.UnitDone.{UnitDone as UnitOfProgram}
use Rattle.ckr_points_invariant.specs.RunningSteps.{its_start}
use Rattle.ckr_base.proofs.Numbers.{equal-itself}
use Rattle.ckr_base.proofs.Options.{some-not-none}
use Rattle.ckr_console.specs.declared.question.Answer.{Answer}
use Rattle.ckr_console.specs.declared.question.Answer.TheVariants.{Yes, No, Hold, Silent}
use Rattle.ckr_events.specs.declared.event.Ending.TheVariants.{Coded}
use Rattle.ckr_events.specs.declared.event.Event.{Event}
use Rattle.ckr_events.specs.declared.event.Event.TheVariants.{Rewritten as RewrittenEvent, Held as HeldEvent, Ended as EndedEvent}
use Rattle.ckr_events.specs.Event.{spelling}
use Rattle.ckr_events.specs.Format.{length_list}
use Rattle.ckr_library.specs.NameMaps.{Name}
use Rattle.ckr_desk_memory.specs.EventChanges.{is_of_run}
use Rattle.ckr_desk_memory.specs.Plans.{told_by}
use Rattle.ckr_desk_memory.specs.View.{JobsView, RunningStepView, lengths_in, lengths_of_row, running_of}
use Rattle.ckr_desk_turn.proofs.RunningSteps.{going-within, seen-so}
use Rattle.ckr_desk_turn.proofs.NextEvents.WithinStep.{by-step}
use Rattle.ckr_desk_turn.specs.Invariant.{next_writes}
use Rattle.ckr_desk_refines.specs.StepSets.{HasSets}
use Rattle.ckr_meaning.specs.EffectiveJob.{OwnedStep, names_of}
use Rattle.ckr_meaning.specs.Program.{fitting, room_after, unit_done as program_unit}
use Rattle.ckr_meaning.specs.StepRun.{StepStart, case_at, work_at}
use Rattle.ckr_points.specs.Payload.{lengths_at, rewrites_nothing}
use Rattle.ckr_points.specs.Restart.{place_of, step_in}
use Rattle.ckr_points.specs.Rows.{KeptEntry, RunRow, TablesModel, run_of, step_of_run}
use Rattle.ckr_rules.specs.RuleTables.{rule_number}
use Rattle.ckr_rules.specs.declared.cases.Rule.{Rule}
use Rattle.ckr_rules.specs.declared.cases.Rule.TheVariants.{A6}
use Rattle.ckr_rules.specs.declared.cases.Verdict.{Verdict}
use Rattle.ckr_rules.specs.declared.cases.Verdict.TheVariants.{Checkpoint, Denied, Step}
use Rattle.ckr_desk_refines.proofs.Standing.Lengths.{lengths-so}
use Rattle.ckr_desk_refines.specs.Moves.{event_in}
use Rattle.ckr_desk_refines.specs.Standing.{StandsForDesk}
use Rattle.ckr_steps.proofs.UnitProgress.{goes_on, so_far_written}
use Rattle.ckr_steps.proofs.NextHeads.{next_heads}
use Rattle.ckr_steps.proofs.NextUnits.{done_is}
use Rattle.ckr_steps.proofs.Writes.{parm_at}
use Rattle.ckr_steps.specs.declared.step_run.Worked.{Worked}
use Rattle.ckr_steps.specs.declared.step_run.Worked.TheVariants.{Went, Rewrite, Abend}
use Rattle.ckr_steps.specs.Inputs.{AreThere}
use Rattle.ckr_steps.specs.Places.{AreNext, ShowsWithin, IsStepPlace}
use Rattle.ckr_steps.specs.StepUnit.{HasDone, HasLooked, HasWritten, behind_unit, done_for, heads_on, unit_for, worked_for, writes_for}
use Rattle.ckr_steps.specs.Units.{state_of, taken_of}
use Rattle.ckr_steps.specs.Writes.{Shows, answer_of, done_of, done_unless, grown, put_all, rewrite_of, room_of, worked_by}
use Rattle.ckr_desk_turn.specs.Codes.{asked_at_entry, ended_by, initiator_of, inquiry_of, judged_plan, running_reached, verdict_for}
use Rattle.ckr_desk_turn.specs.Inquiries.{decide}
use Rattle.ckr_desk_turn.specs.declared.plan.Plan.{Plan}
use Rattle.ckr_desk_turn.specs.declared.plan.Plan.TheVariants.{Ask, Rest, Wait, Work}
use Rattle.ckr_points.specs.declared.reply.Reply.TheVariants.{AwaitingReply}
use Rattle.ckr_desk_turn.specs.Turns.{MountedTurn, plan_for}
use Rattle.ckr_desk_turn.specs.Desk.{DeskModel, TurnDone, jobs_of, seen, seen_from, with_progress, work_of}
use Rattle.ckr_desk_turn.specs.Jobs.{TurnStep, as_stopped, effect_entry}
use Rattle.ckr_desk_turn.specs.Units.{StepProgress, finished_by, unit_end}
use Rattle.ckr_desk_turn.proofs.Spelling.{lengths_long}
use Rattle.ckr_volumes.specs.declared.layout.Layout.{Layout}
use Rattle.ckr_desk_refines.specs.Forecast.{IsAsForetold, IsTold}
use Rattle.ckr_desk_refines.specs.Unit.{StandsBehindUnit}
use Rattle.ckr_desk_refines.proofs.Units.CodeOutcomes.{by-abend, end_coded, fit-so, full-so, no-room, some-room}
use Rattle.ckr_desk_refines.proofs.Units.Outcomes.{end-fits, end-spills, open_at}
use Rattle.ckr_desk_refines.proofs.Units.Replies.{event-done, plain_of}
use Rattle.ckr_desk_refines.proofs.Units.RunningStep.{number-found, pair-found, row-found, shows-found, stands-found, work-found}
use Rattle.ckr_desk_refines.proofs.Units.StepLists.{IsPair}
use Rattle.ckr_desk_refines.proofs.Units.OtherSteps.{same-start}
use Rattle.ckr_desk_refines.proofs.Units.Rewrite.{by-rewrite}
use Rattle.ckr_desk_refines.proofs.Units.AnyReply.{told-unit}

-- ---- events with as many lengths have as many bytes

rewritten-long : (run taken writes place : ℕ) (lengths image : List ℕ) → length (spelling (RewrittenEvent run taken writes (record { items = lengths }) place image)) ≡ 20 + 4 * length lengths + length image
rewritten-long run taken writes place lengths image =
    omega (arith, lengths_long lengths, length-append (length_list.spell lengths) (to_be_bytes w32 place ++ (to_be_bytes w16 (length image) ++ image)))

coded-long : (run writes others rule : ℕ) (code : Code) (one two : List ℕ) → length one ≡ length two
    → length (spelling (EndedEvent run (Coded code rule others (record { items = two })))) ≡ length (spelling (EndedEvent run (Coded code rule writes (record { items = one }))))
coded-long run writes others rule (System number) one two same = omega (arith, same, lengths_long one, lengths_long two)
coded-long run writes others rule (User number) one two same = omega (arith, same, lengths_long one, lengths_long two)

held-long : (run writes others : ℕ) (code : Code) (one two : List ℕ) → length one ≡ length two
    → length (spelling (HeldEvent run code others (record { items = two }))) ≡ length (spelling (HeldEvent run code writes (record { items = one })))
held-long run writes others (System number) one two same = omega (arith, same, lengths_long one, lengths_long two)
held-long run writes others (User number) one two same = omega (arith, same, lengths_long one, lengths_long two)

-- an event where there is one, and none where there is none
abbrev pub BothTell : Option Event → Option Event → Type 0
BothTell None None = Unit {0}
BothTell None (Some told) = ⊥
BothTell (Some foretold) None = ⊥
BothTell (Some foretold) (Some told) = IsAsForetold foretold told

-- so it is with two plans, with the operator's answer
abbrev pub BothPlansTell : Answer → Plan → Plan → Type 0
BothPlansTell answer one two = BothTell (event_in (decide answer one)) (event_in (decide answer two))

-- what is told of a code, whatever the rules say of it, and whatever the operator answers
module _ (tables : TablesModel) (row : RunRow) (initiator : ℕ) (lodged : Bool) (code : Code) (one two : TurnStep) (same : length one.lengths ≡ length two.lengths) where
  ended-tell : (answer : Answer) (rule : Rule) → BothPlansTell answer (ended_by row code rule (running_reached one)) (ended_by row code rule (running_reached two))
  ended-tell answer rule = record {
    like = equal-itself row.number;
    long = coded-long row.number one.writes two.writes (rule_number rule) code one.lengths two.lengths same;
  }

  silent-tell : (job : ℕ) (on : Bool) → BothTell (event_in (if on then Wait job code else Rest AwaitingReply)) (event_in (if on then Wait job code else Rest AwaitingReply))
  silent-tell job true = tt
  silent-tell job false = tt

  asked-tell : (answer : Answer) (id : Option Name) (taken : ℕ)
      → BothPlansTell answer (Ask (inquiry_of row initiator lodged code (running_reached one) id taken)) (Ask (inquiry_of row initiator lodged code (running_reached two) id taken))
  asked-tell Yes id taken = record { like = equal-itself row.number; long = refl }
  asked-tell No id taken = record {
    like = equal-itself row.number;
    long = coded-long row.number one.writes two.writes (rule_number A6) code one.lengths two.lengths same;
  }
  asked-tell Hold id taken = record {
    like = equal-itself row.number;
    long = held-long row.number one.writes two.writes code one.lengths two.lengths same;
  }
  asked-tell Silent id taken = silent-tell row.number lodged

  code-tell : (answer : Answer) (verdict : Verdict) → BothPlansTell answer (judged_plan tables row initiator lodged code (running_reached one) verdict) (judged_plan tables row initiator lodged code (running_reached two) verdict)
  code-tell answer (Denied rule) = ended-tell answer rule
  code-tell answer Step = asked-tell answer None 0
  code-tell answer Checkpoint = back (effect_entry tables row)
    where
      back : (entry : Option KeptEntry) → BothPlansTell answer (option_map_or (asked_at_entry row initiator lodged code (running_reached one)) entry (ended_by row code A6 (running_reached one)))
          (option_map_or (asked_at_entry row initiator lodged code (running_reached two)) entry (ended_by row code A6 (running_reached two)))
      back None = ended-tell answer A6
      back (Some entry) = asked-tell answer (Some entry.kept.id) entry.point.taken

-- what is told of two steps with one answer, which have as many outputs
pub both-tell : (answer : Answer) (layout : Layout) (tables : TablesModel) (row : RunRow) (one two : TurnStep) (worked : Worked) → length one.lengths ≡ length two.lengths → BothPlansTell answer (told_by layout tables row one worked) (told_by layout tables row two worked)
both-tell answer layout tables row one two (Went taken) same = tt
both-tell answer layout tables row one two (Rewrite place image taken) same = record {
  like = equal-itself row.number;
  long = rewritten-long row.number two.taken two.writes place two.lengths image
      ∙ ap (λ n. 20 + 4 * n + length image) (sym same)
      ∙ sym (rewritten-long row.number one.taken one.writes place one.lengths image);
}
both-tell answer layout tables row one two (Abend code) same = code-tell tables row (initiator_of row) true code one two same answer (verdict_for layout row code)

told-by-both : (one two : Option Event) → BothTell one two → (foretold : Event) → one ≡ Some foretold → IsTold foretold two
told-by-both None two both foretold is = absurd (some-not-none foretold (sym is))
told-by-both (Some event) None both foretold is = absurd both
told-by-both (Some event) (Some told) both foretold is = record { told = told; is = refl; so = subst (λ (e : Event). IsAsForetold e told) (same_Some event foretold is) both }

-- a step that has stopped has the same outputs
stopped-lengths : (code : Option Code) (step : TurnStep) → (as_stopped code step).lengths ≡ step.lengths
stopped-lengths None step = refl
stopped-lengths (Some code) step = refl

outputs-many : (row : Option RunRow) (one two : RunningStepView) → length (option_map_or (lengths_of_row one.sets.sets) row []) ≡ length (option_map_or (lengths_of_row two.sets.sets) row [])
outputs-many None one two = refl
outputs-many (Some row) one two = by (step_of_run row (step_in (place_of row)))
  where
    by : (owned : Option OwnedStep) → length (option_map_or (lengths_in one.sets.sets row.job.root) owned []) ≡ length (option_map_or (lengths_in two.sets.sets row.job.root) owned [])
    by None = refl
    by (Some owned) = simp length-map

-- a step behind its unit has as many outputs as before it
pub as-many : (tables : TablesModel) (one two : RunningStepView) → one.run ≡ two.run → length (running_of tables one).lengths ≡ length (running_of tables two).lengths
as-many tables one two same =
    ap length (stopped-lengths one.code (plain_of tables one))
    ∙ ap (λ n. length (option_map_or (lengths_of_row one.sets.sets) (run_of tables n) [])) same
    ∙ outputs-many (run_of tables two.run) one two
    ∙ sym (ap length (stopped-lengths two.code (plain_of tables two)))

module _ (layout : Layout) (jobs : JobsView) (image : List ℕ) (desk : DeskModel) (turn : MountedTurn) (run : ℕ) (on : RunningStepView)
    (stands : StandsForDesk layout jobs image desk) (planned : plan_for desk.layout (jobs_of desk) turn ≡ Work run) (found : find (is_of_run run) jobs.running ≡ Some on)
    (there : AreThere on.step.files on.sets) where
  abbrev p : IsPair desk.layout desk.office image run on desk.running
  p = pair-found layout jobs image desk turn run on stands planned found

  abbrev start : StepStart
  start = p.stands.start

  abbrev taken : ℕ
  taken = p.step.progress.taken

  stands-at : IsStepPlace start taken false on.step on.sets
  stands-at = stands-found layout jobs image desk turn run on stands planned found

  -- the heads that were looked at are the next records of the step's inputs
  next-at : (heads : Heads) → heads ≡ heads_on image layout on.sets on.step → (from : StepStart) (taken : ℕ) → IsStepPlace from taken false on.step on.sets → ShowsWithin (Unit {0}) image layout from on.step.writes on.sets
      → AreNext (case_at from) on.step.state heads
  next-at heads read from taken stood shows =
      subst (AreNext (case_at from) on.step.state) (sym read) (next_heads (Unit {0}) image layout from taken on.step on.sets tt stood (so_far_written from taken on.step on.sets stood) shows)

  -- ---- a rewrite: its unit writes nothing on the disk, so it can be thought done

  module _ (place now : ℕ) (bytes : List ℕ) (looked : HasLooked (Unit {0}) image layout on.step on.sets (Rewrite place bytes now)) where
    abbrev heads : Heads
    heads = looked.heads

    answer-so : worked_by (taken_of (state_of on.step.parm on.step.state heads)) (rewrite_of on.sets on.step.files (writes_for on.step heads)) (is_some (room_after (writes_for on.step heads) (room_of on.sets on.step.files))) (unit_for on.step heads).finish
        ≡ Rewrite place bytes now
    unfolding worked_for answer_of
    answer-so = sym looked.answer

    rewrite-at : (at : ℕ × List ℕ) × (rewrite_of on.sets on.step.files (writes_for on.step heads) ≡ Some at)
    rewrite-at = by-rewrite _ now place bytes _ _ _ answer-so (λ at is same. (at, is))

    nothing : done_for on.sets on.step heads ≡ []
    unfolding done_for done_of
    nothing = ap (λ rewrite. done_unless rewrite (fitting (writes_for on.step heads) (room_of on.sets on.step.files))) rewrite-at.1

    abbrev pub moved : RunningStepView
    moved = record { run = on.run; step = behind_unit on.sets on.step heads; sets = on.sets; code = on.code }

    done : HasDone heads on.step moved.step on.sets on.sets (Rewrite place bytes now)
    done = record { answer = looked.answer; step = refl; lengths = sym (ap (λ writes. grown on.step.files writes on.sets.sets) nothing) }

    written : HasWritten (Unit {0}) image image layout heads on.step on.sets on.sets
    written = record { shows = λ names model shows. subst (λ writes. Shows (Unit {0}) image layout names (put_all on.step.files writes model) on.sets) (sym nothing) shows }

    unit : StandsBehindUnit layout jobs image image desk turn run on moved (Rewrite place bytes now)
    unit = record {
      stands = stands;
      planned = planned;
      found = found;
      same_run = refl;
      same_code = refl;
      did = record { heads = heads; read = looked.read; done = done; written = written };
      goes = λ from taken stood shows.
          goes_on (Unit {0}) image image layout from taken on.step moved.step on.sets on.sets heads (Rewrite place bytes now) stood (next-at heads (looked.read tt) from taken stood shows) done written shows there;
      keeps = record { records = λ name set n is le. refl; others = λ other n clear its le. refl; front = refl };
    }

    rewrite-told : (answer : Answer) (row : RunRow) → run_of desk.office.tables run ≡ Some row → BothTell (event_in (decide answer (told_by layout desk.office.tables row (running_of desk.office.tables on) (Rewrite place bytes now)))) (work_of answer run desk).event
    rewrite-told answer row at =
        subst (BothTell (event_in (decide answer (told_by layout desk.office.tables row (running_of desk.office.tables on) (Rewrite place bytes now))))) (told-unit layout jobs image image desk turn run on moved (Rewrite place bytes now) answer unit row at).1
        (both-tell answer layout desk.office.tables row (running_of desk.office.tables on) (running_of desk.office.tables moved) (Rewrite place bytes now)
        (as-many desk.office.tables on moved refl))

  -- ---- an end with a code

  -- the lengths of its outputs before the unit
  lengths-on : (running_of desk.office.tables on).lengths ≡ lengths_at start desk.office.tables.sets p.step.progress.writes
  lengths-on =
      stopped-lengths on.code (plain_of desk.office.tables on) ∙
      let same : p.going.start ≡ p.stands.start = same-start desk.layout desk.office image on p.step p.going p.stands in
      ap (λ n. option_map_or (lengths_of_row on.sets.sets) (run_of desk.office.tables n) []) p.stands.run
      ∙ ap (λ (o : Option RunRow). option_map_or (lengths_of_row on.sets.sets) o []) p.going.row_at
      ∙ by-step desk stands.is_desk p.step.run p.going.row p.going.number p.going.committed p.going.start (going-within desk.office p.step p.going)
      (λ leg owned running starts spaced.
      let its : its_start leg owned p.going.number ≡ p.stands.start = sym starts ∙ same in
      lengths-so desk.layout desk.office p.step.run p.going.row leg owned p.going.number p.going.committed p.step.progress.writes stands.is_desk.kept.events running spaced p.going.behind
      (subst (λ (s : StepStart). p.step.progress.writes ≤ length (work_at s).writes) starts p.going.fit)
      (subst (λ (s : StepStart). rewrites_nothing s p.going.committed p.step.progress.writes ≡ true) starts p.going.plain)
      image on.sets
      (subst (λ (s : StepStart). HasSets desk.office.tables.sets (names_of s.root s.owned) on.sets) (sym its) p.stands.sets)
      (subst (λ (s : StepStart). ShowsWithin (Unit {0}) image desk.layout s p.step.progress.writes on.sets) (sym its) p.stands.shows)
      p.stands.checked
      ∙ ap (λ (s : StepStart). lengths_at s desk.office.tables.sets p.step.progress.writes) its)

  -- as many as the desk sees of it, however far it has come
  as-many-seen : (progress : StepProgress) → length (running_of desk.office.tables on).lengths ≡ length (seen desk.office p.stands.row.number progress).lengths
  as-many-seen progress =
      let its : seen desk.office p.stands.row.number progress ≡ seen_from desk.office p.stands.row.number progress p.stands.start =
      seen-so desk.office p.stands.row.number progress p.stands.row p.stands.start
      (ap (run_of desk.office.tables) (number-found layout jobs image desk turn run on stands planned found) ∙ row-found layout jobs image desk turn run on stands planned found) p.stands.start_at in
      ap length lengths-on
      ∙ ends p.step.progress.writes progress.writes
      ∙ sym (ap (λ (s : TurnStep). length s.lengths) its)
    where
      ends : (one two : ℕ) → length (lengths_at start desk.office.tables.sets one) ≡ length (lengths_at start desk.office.tables.sets two)
      ends one two = simp length-map

  module _ (code : Code) (looked : HasLooked (Unit {0}) image layout on.step on.sets (Abend code)) where
    next : AreNext (case_at start) on.step.state looked.heads
    next =
        next-at looked.heads (looked.read tt) start taken stands-at
        (subst (λ (l : Layout). ShowsWithin (Unit {0}) image l start on.step.writes on.sets) stands.layout_is (shows-found layout jobs image desk turn run on stands planned found))

    unit-is : unit_for on.step looked.heads ≡ program_unit (case_at start) taken
    unit-is = done_is on.step.parm looked.heads (case_at start) taken (stands-at.parm ∙ sym (parm_at start)) on.step.state stands-at.state next

    writes-are : writes_for on.step looked.heads ≡ (program_unit (case_at start) taken).writes.items
    writes-are = ap (λ (u : UnitOfProgram). u.writes.items) unit-is

    code-so : worked_by (taken_of (state_of on.step.parm on.step.state looked.heads)) (rewrite_of on.sets on.step.files (writes_for on.step looked.heads)) (is_some (room_after (writes_for on.step looked.heads) (room_of on.sets on.step.files))) (unit_for on.step looked.heads).finish
        ≡ Abend code
    unfolding worked_for answer_of
    code-so = sym looked.answer

    -- the desk ends the step with this code, behind some of its writes
    ends-so : (count : ℕ) × (unit_end start (open_at on.step.state taken on.step.writes) ≡ end_coded on.step.state code taken count)
    ends-so =
        by-abend _ _ _ (unit_for on.step looked.heads).finish code code-so
        (λ none same. (
          length (work_at start).writes,
          end-spills start (open_at on.step.state taken on.step.writes) (full-so start taken on.step on.sets looked.heads stands-at writes-are (no-room _ none))
              ∙ ap (λ c. end_coded on.step.state c taken (length (work_at start).writes)) same,
        ))
        (λ some finish.
        let left = some-room _ some in (
          on.step.writes,
          end-fits start (open_at on.step.state taken on.step.writes) (fit-so start taken on.step on.sets looked.heads stands-at writes-are left.0 left.1)
              ∙ ap (λ f. finished_by f (program_unit (case_at start) taken).writes.items (open_at on.step.state taken on.step.writes) (next_writes start (open_at on.step.state taken on.step.writes)))
              (sym (ap (λ (u : UnitOfProgram). u.finish) unit-is) ∙ finish),
        ))

    coded-told : (answer : Answer) (row : RunRow) → run_of desk.office.tables run ≡ Some row → BothTell (event_in (decide answer (told_by layout desk.office.tables row (running_of desk.office.tables on) (Abend code)))) (work_of answer run desk).event
    coded-told answer row at =
        let mine : p.stands.row ≡ row = same_Some p.stands.row row (sym (row-found layout jobs image desk turn run on stands planned found) ∙ at) in
        subst (λ (r : RunRow). BothTell (event_in (decide answer (told_by layout desk.office.tables r (running_of desk.office.tables on) (Abend code)))) (work_of answer run desk).event) mine
        (subst (λ (l : Layout). BothTell (event_in (decide answer (told_by l desk.office.tables p.stands.row (running_of desk.office.tables on) (Abend code)))) (work_of answer run desk).event) stands.layout_is
        (subst (λ (done : TurnDone). BothTell (event_in (decide answer (told_by desk.layout desk.office.tables p.stands.row (running_of desk.office.tables on) (Abend code)))) done.event)
        (sym (work-found layout jobs image desk turn run on stands planned found answer (end_coded on.step.state code taken ends-so.0) ends-so.1))
        (subst (BothTell (event_in (decide answer (told_by desk.layout desk.office.tables p.stands.row (running_of desk.office.tables on) (Abend code)))))
        (event-done (decide answer (told_by desk.layout desk.office.tables p.stands.row behind (Abend code))) (with_progress p.stands.row.number progress desk))
        (both-tell answer desk.layout desk.office.tables p.stands.row (running_of desk.office.tables on) behind (Abend code) (as-many-seen progress)))))
      where
        progress : StepProgress
        progress = open_at on.step.state taken ends-so.0

        behind : TurnStep
        behind = seen desk.office p.stands.row.number progress

  -- ---- whatever the answer

  answer-told : (answer : Answer) (worked : Worked) → HasLooked (Unit {0}) image layout on.step on.sets worked → (row : RunRow) → run_of desk.office.tables run ≡ Some row
      → (foretold : Event) → event_in (decide answer (told_by layout desk.office.tables row (running_of desk.office.tables on) worked)) ≡ Some foretold → IsTold foretold (work_of answer run desk).event
  answer-told answer (Went now) looked row at foretold is = absurd (some-not-none foretold (sym is))
  answer-told answer (Rewrite place bytes now) looked row at foretold is = told-by-both _ (work_of answer run desk).event (rewrite-told place now bytes looked answer row at) foretold is
  answer-told answer (Abend code) looked row at foretold is = told-by-both _ (work_of answer run desk).event (coded-told code looked answer row at) foretold is

-- what the turn tells of the unit is as the answer before it foretells
pub foretold-so : (layout : Layout) (jobs : JobsView) (image : List ℕ) (desk : DeskModel) (turn : MountedTurn) (run : ℕ) (on : RunningStepView) (worked : Worked) (answer : Answer)
    → StandsForDesk layout jobs image desk → plan_for desk.layout (jobs_of desk) turn ≡ Work run → find (is_of_run run) jobs.running ≡ Some on → AreThere on.step.files on.sets
    → HasLooked (Unit {0}) image layout on.step on.sets worked → (row : RunRow) → run_of desk.office.tables run ≡ Some row
    → (foretold : Event) → event_in (decide answer (told_by layout desk.office.tables row (running_of desk.office.tables on) worked)) ≡ Some foretold → IsTold foretold (work_of answer run desk).event
foretold-so layout jobs image desk turn run on worked answer stands planned found there looked row at foretold is =
    answer-told layout jobs image desk turn run on stands planned found there answer worked looked row at foretold is
