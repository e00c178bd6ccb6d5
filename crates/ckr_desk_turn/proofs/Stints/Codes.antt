-- A run that has a code, that of the system failure or the one with which it waits: its turn comes to the end of its stint, or it waits with the code.
use Rattle.std.proofs.Common.{◌≡◌, ◌≤◌, ◌+◌, ℕ, Bool, true, false, cond, inl, inr, not, ◌&&◌, ◌||◌, List, [], ◌∷◌, find, refl, ap, sym, ◌∙◌, Option, Some, None, arith}
use Rattle.std.specs.Prelude.{◌==◌, ◌⊎◌, if◌then◌else◌}
use Rattle.std.specs.List.{list_any}
use Rattle.std.specs.Option.{is_some, option_map, option_map_or}
use Rattle.std.proofs.lemmas.Bool.{false≢true, or_left}
use Rattle.ckr_base.specs.declared.code.Code.{Code}
use Rattle.ckr_base.proofs.Bools.{bool-cases, or-cases, or-first-false, or-second-false}
use Rattle.ckr_base.proofs.Options.{is_some-true}
use Rattle.ckr_console.specs.declared.question.Answer.{Answer}
use Rattle.ckr_console.specs.declared.question.Answer.TheVariants.{Yes, No, Hold, Silent}
use Rattle.ckr_library.specs.NameMaps.{Name}
use Rattle.ckr_meaning.specs.StepRun.{StepStart}
use Rattle.ckr_points.specs.Office.{Leg}
use Rattle.ckr_points.specs.Restart.{place_of}
use Rattle.ckr_points.specs.Rows.{KeptEntry, RunRow, TablesModel}
use Rattle.ckr_points.specs.declared.reply.Reply.{Reply}
use Rattle.ckr_rules.specs.declared.cases.Rule.TheVariants.{A6}
use Rattle.ckr_rules.specs.declared.cases.Verdict.{Verdict}
use Rattle.ckr_rules.specs.declared.cases.Verdict.TheVariants.{Step, Checkpoint, Denied}
use Rattle.ckr_volumes.specs.declared.layout.Layout.{Layout}
use Rattle.ckr_desk_turn.specs.declared.failed_run.FailedRun.{FailedRun}
use Rattle.ckr_desk_turn.specs.declared.plan.Plan.{Plan}
use Rattle.ckr_desk_turn.specs.declared.plan.Plan.TheVariants.{Ask, Wait}
use Rattle.ckr_desk_turn.specs.Codes.{CodePlaceModel, asked_at_entry, code_plan, ended_by, initiator_of, inquiry_of, judged_plan, reached_by, verdict_for}
use Rattle.ckr_desk_turn.specs.Desk.{DeskModel, DeskStep, TurnDone, answered, done_by, jobs_of, seen, seen_from, seen_step, start_in_run, waiting, with_code}
use Rattle.ckr_desk_turn.specs.Jobs.{TurnStep, effect_entry, is_asked, is_failed, running_in, waiting_code}
use Rattle.ckr_desk_turn.specs.Stints.{ends_stint, is_wait}
use Rattle.ckr_desk_turn.specs.Plans.{placed_plan, run_plan, system_failure, unmarked_plan}
use Rattle.ckr_desk_turn.specs.Select.{run_on_initiator}
use Rattle.ckr_desk_turn.specs.Turns.{carried_out}
use Rattle.ckr_desk_turn.specs.Units.{StepProgress, arrived}
use Rattle.ckr_desk_turn.proofs.RunningSteps.{nothing_seen, stopped-code}
use Rattle.ckr_desk_turn.proofs.Turns.Due.{find-seen}
use Rattle.ckr_desk_turn.proofs.Stints.Bounds.{has_code, has_mark, placed_left, running_of, turns_left}
use Rattle.ckr_desk_turn.proofs.Stints.OtherSteps.{marked-asked}

-- ---- what a turn does for a stint

-- a wait counts for none
abbrev pub cost_by : Bool → ℕ
cost_by waits = cond waits 0 1

abbrev pub cost : Reply → ℕ
cost reply = cost_by (is_wait reply)

-- The run is on its initiator, and its stint goes on: it needs one turn fewer than so many, or no more where it waits.
pub record GoesOn (i run : ℕ) (leg : Leg) (most : ℕ) (done : TurnDone) : Type 0 where
  pub next : RunRow
  pub on : run_on_initiator done.desk.office.tables i ≡ Some next
  pub same : next.number ≡ run
  pub left : cost done.reply + turns_left leg (has_mark done.desk run) (running_of done.desk run) (place_of next) ≤ most

-- its stint ends, or goes on
abbrev pub IsLegTurn : ℕ → ℕ → Leg → ℕ → TurnDone → Type 0
IsLegTurn i run leg most done = (ends_stint done.reply ≡ true) ⊎ GoesOn i run leg most done

-- ---- lists

-- marks, by whether the operator was asked
asked-some : (run : ℕ) (failed : List FailedRun) → list_any (λ (one : FailedRun). one.run == run) failed ≡ true → list_any (λ (one : FailedRun). one.run == run && not one.asked) failed ≡ false → list_any (λ (one : FailedRun). one.run == run && one.asked) failed ≡ true
asked-some run [] some fresh = absurd (false≢true some)
asked-some run (first ∷ rest) some fresh =
    by (first.run == run) first.asked (list_any (λ (one : FailedRun). one.run == run) rest) (list_any (λ (one : FailedRun). one.run == run && not one.asked) rest) (list_any (λ (one : FailedRun). one.run == run && one.asked) rest) (asked-some run rest) some fresh
  where
    by : (here told some fresh asked : Bool) → (some ≡ true → fresh ≡ false → asked ≡ true) → (here || some) ≡ true → ((here && not told) || fresh) ≡ false → ((here && told) || asked) ≡ true
    by true true some fresh asked more one other = refl
    by true false some fresh asked more one other = absurd (false≢true (sym other))
    by false told some fresh asked more one other = more one other

fewer-marks : (run : ℕ) (also : FailedRun → Bool) (failed : List FailedRun) → list_any (λ (one : FailedRun). one.run == run) failed ≡ false → list_any (λ (one : FailedRun). one.run == run && also one) failed ≡ false
fewer-marks run also [] none = refl
fewer-marks run also (first ∷ rest) none =
    ap (λ b. b && also first || list_any (λ (one : FailedRun). one.run == run && also one) rest) (or-first-false (first.run == run) (list_any (λ (one : FailedRun). one.run == run) rest) none)
    ∙ fewer-marks run also rest (or-second-false (first.run == run) (list_any (λ (one : FailedRun). one.run == run) rest) none)

abbrev coded : Option DeskStep → Bool
coded on = option_map_or (λ (step : DeskStep). is_some step.code) on false

coded-found : (run : ℕ) (code : Code) (running : List DeskStep) → is_some (find (λ (step : DeskStep). step.run == run) running) ≡ true → coded (find (λ (step : DeskStep). step.run == run) (with_code run code running)) ≡ true
coded-found run code [] some = absurd (false≢true some)
coded-found run code (first ∷ rest) some =
    let stopped : DeskStep = record { run = first.run; progress = arrived 0 first.progress.writes; code = Some code } in
    let others : Option DeskStep = find (λ (step : DeskStep). step.run == run) (with_code run code rest) in
    bool-cases (first.run == run)
    (λ same. ap (λ b. coded (find (λ (step : DeskStep). step.run == run) (cond b stopped first ∷ with_code run code rest))) same ∙ ap (λ b. coded (cond b (Some stopped) others)) same)
    (λ isnt.
    ap (λ b. coded (find (λ (step : DeskStep). step.run == run) (cond b stopped first ∷ with_code run code rest))) isnt
    ∙ ap (λ b. coded (cond b (Some first) others)) isnt
    ∙ coded-found run code rest (sym (ap (λ b. is_some (cond b (Some first) (find (λ (step : DeskStep). step.run == run) rest))) isnt) ∙ some))

-- a run that waits has its code
waits-coded : (desk : DeskModel) (run : ℕ) (code : Code) → (has_mark desk run || is_some (running_of desk run)) ≡ true → has_code (has_mark (waiting run code desk) run) (running_of (waiting run code desk) run) ≡ true
waits-coded desk run code some =
    or-cases (has_mark desk run) (is_some (running_of desk run)) some
    (λ mark. or_left (has_mark (waiting run code desk) run) _ (marked-asked run run desk.failed ∙ mark))
    (λ running. or-both (has_mark (waiting run code desk) run) (coded (running_of (waiting run code desk) run)) (coded-found run code desk.running running))
  where
    or-both : (a b : Bool) → b ≡ true → (a || b) ≡ true
    or-both true b its = refl
    or-both false b its = its

-- ---- a plan for a code

module _ (i : ℕ) (row : RunRow) (leg : Leg) (most : ℕ) (some : 1 ≤ most) (desk : DeskModel) (on : run_on_initiator desk.office.tables i ≡ Some row) (running : (has_mark desk row.number || is_some (running_of desk row.number)) ≡ true) (answer : Answer) where
  abbrev Answered : Plan → Type 0
  Answered plan = IsLegTurn i row.number leg most (answered answer plan desk)

  waits-turn : (code : Code) → GoesOn i row.number leg most (done_by (Wait row.number code) desk)
  waits-turn code = record {
    next = row;
    on = on;
    same = refl;
    left =
        let one : turns_left leg (has_mark (waiting row.number code desk) row.number) (running_of (waiting row.number code desk) row.number) (place_of row) ≡ 1 =
        ap (λ b. cond b 1 (placed_left leg (running_of (waiting row.number code desk) row.number) (place_of row))) (waits-coded desk row.number code running) in
        omega (arith, one, some);
  }

  asked-turn : (code : Code) (reached : CodePlaceModel) (id : Option Name) (taken : ℕ) → Answered (Ask (inquiry_of row (initiator_of row) true code reached id taken))
  asked-turn code reached id taken = by answer
    where
      by : (given : Answer) → IsLegTurn i row.number leg most (answered given (Ask (inquiry_of row (initiator_of row) true code reached id taken)) desk)
      by Yes = inl refl
      by No = inl refl
      by Hold = inl refl
      by Silent =
          let waits : GoesOn i row.number leg most (done_by (Wait row.number code) desk) = waits-turn code in
          inr (record { next = waits.next; on = waits.on; same = waits.same; left = waits.left })

  judged-turn : (tables : TablesModel) (code : Code) (reached : CodePlaceModel) (verdict : Verdict) → Answered (judged_plan tables row (initiator_of row) true code reached verdict)
  judged-turn tables code reached (Denied rule) = inl refl
  judged-turn tables code reached Step = asked-turn code reached None 0
  judged-turn tables code reached Checkpoint = by (effect_entry tables row)
    where
      by : (entry : Option KeptEntry) → Answered (option_map_or (asked_at_entry row (initiator_of row) true code reached) entry (ended_by row code A6 reached))
      by None = inl refl
      by (Some entry) = asked-turn code reached (Some entry.kept.id) entry.point.taken

  pub code-turn : (layout : Layout) (tables : TablesModel) (code : Code) (reached : CodePlaceModel) → Answered (code_plan layout tables row (initiator_of row) true code reached)
  code-turn layout tables code reached = judged-turn tables code reached (verdict_for layout row code)

-- so it is carried out
pub code-carried : (answer : Answer) (desk : DeskModel) (layout : Layout) (tables : TablesModel) (row : RunRow) (initiator : ℕ) (lodged : Bool) (code : Code) (reached : CodePlaceModel) → carried_out answer (code_plan layout tables row initiator lodged code reached) desk ≡ answered answer (code_plan layout tables row initiator lodged code reached) desk
code-carried answer desk layout tables row initiator lodged code reached = by (verdict_for layout row code)
  where
    by-entry : (entry : Option KeptEntry) → carried_out answer (option_map_or (asked_at_entry row initiator lodged code reached) entry (ended_by row code A6 reached)) desk ≡ answered answer (option_map_or (asked_at_entry row initiator lodged code reached) entry (ended_by row code A6 reached)) desk
    by-entry None = refl
    by-entry (Some entry) = refl

    by : (verdict : Verdict) → carried_out answer (judged_plan tables row initiator lodged code reached verdict) desk ≡ answered answer (judged_plan tables row initiator lodged code reached verdict) desk
    by (Denied rule) = refl
    by Step = refl
    by Checkpoint = by-entry (effect_entry tables row)

-- ---- the plan of a run on its initiator, by whether it has a code

module _ (desk : DeskModel) (row : RunRow) where
  abbrev planned : Bool → Plan
  planned b = elim b [
    | true ↦ code_plan desk.layout desk.office.tables row (initiator_of row) true system_failure (reached_by (jobs_of desk) row)
    | false ↦ unmarked_plan desk.layout (jobs_of desk) row None (waiting_code (jobs_of desk) row.number)
  ]

  abbrev waits_by : Bool → Option TurnStep → Option Code
  waits_by asked step = if asked then Some system_failure else option_map_or (λ (step : TurnStep). step.code) step None

  seen-uncoded : (run : ℕ) (progress : StepProgress) → (seen desk.office run progress).code ≡ None
  seen-uncoded run progress = by (start_in_run desk.office run)
    where
      by : (start : Option StepStart) → (option_map_or (seen_from desk.office run progress) start (nothing_seen run progress)).code ≡ None
      by None = refl
      by (Some start) = refl

  -- the code of its running step, as its jobs see it
  step-code : option_map_or (λ (step : TurnStep). step.code) (running_in (jobs_of desk) row.number) None ≡ option_map_or (λ (step : DeskStep). step.code) (running_of desk row.number) None
  step-code = ap (λ (o : Option TurnStep). option_map_or (λ (step : TurnStep). step.code) o None) (find-seen desk.office row.number desk.running) ∙ by (running_of desk row.number)
    where
      by : (on : Option DeskStep) → option_map_or (λ (step : TurnStep). step.code) (option_map (seen_step desk.office) on) None ≡ option_map_or (λ (step : DeskStep). step.code) on None
      by None = refl
      by (Some on) = stopped-code on.code (seen desk.office on.run on.progress) (seen-uncoded on.run on.progress)

  code-some : (on : Option DeskStep) → coded on ≡ true → is_some (option_map_or (λ (step : DeskStep). step.code) on None) ≡ true
  code-some None its = absurd (false≢true its)
  code-some (Some on) its = its

  code-none : (on : Option DeskStep) → coded on ≡ false → option_map_or (λ (step : DeskStep). step.code) on None ≡ None
  code-none None its = refl
  code-none (Some on) its = by on.code its
    where
      by : (code : Option Code) → is_some code ≡ false → code ≡ None
      by None its = refl
      by (Some code) its = absurd (false≢true (sym its))

  pub unfailed : has_code (has_mark desk row.number) (running_of desk row.number) ≡ false → is_failed (jobs_of desk) row.number ≡ false
  unfailed none = fewer-marks row.number (λ one. not one.asked) desk.failed (or-first-false (has_mark desk row.number) (coded (running_of desk row.number)) none)

  pub unwaiting : has_code (has_mark desk row.number) (running_of desk row.number) ≡ false → waiting_code (jobs_of desk) row.number ≡ None
  unwaiting none =
      ap (λ b. waits_by b (running_in (jobs_of desk) row.number)) (fewer-marks row.number (λ one. one.asked) desk.failed (or-first-false (has_mark desk row.number) (coded (running_of desk row.number)) none))
      ∙ step-code ∙ code-none (running_of desk row.number) (or-second-false (has_mark desk row.number) (coded (running_of desk row.number)) none)

  -- with none, it does what its place gives
  pub uncoded-plan : has_code (has_mark desk row.number) (running_of desk row.number) ≡ false → run_plan desk.layout (jobs_of desk) None row ≡ placed_plan desk.layout (jobs_of desk) row (place_of row)
  uncoded-plan none = ap planned (unfailed none) ∙ ap (unmarked_plan desk.layout (jobs_of desk) row None) (unwaiting none)

  -- a run with a code waits with one where it isn't marked
  waits-some : has_code (has_mark desk row.number) (running_of desk row.number) ≡ true → is_failed (jobs_of desk) row.number ≡ false → is_some (waiting_code (jobs_of desk) row.number) ≡ true
  waits-some has isnt =
      or-cases (has_mark desk row.number) (coded (running_of desk row.number)) has
      (λ mark. ap (λ b. is_some (waits_by b (running_in (jobs_of desk) row.number))) (asked-some row.number desk.failed mark isnt))
      (λ stopped. by (is_asked (jobs_of desk) row.number) (ap is_some step-code ∙ code-some (running_of desk row.number) stopped))
    where
      by : (asked : Bool) → is_some (option_map_or (λ (step : TurnStep). step.code) (running_in (jobs_of desk) row.number) None) ≡ true → is_some (waits_by asked (running_in (jobs_of desk) row.number)) ≡ true
      by true its = refl
      by false its = its

  -- with one, it comes to what that gives
  pub coded-plan : {A : Type 0} → has_code (has_mark desk row.number) (running_of desk row.number) ≡ true
      → ((code : Code) → run_plan desk.layout (jobs_of desk) None row ≡ code_plan desk.layout desk.office.tables row (initiator_of row) true code (reached_by (jobs_of desk) row) → A) → A
  coded-plan has use_it =
      bool-cases (is_failed (jobs_of desk) row.number)
      (λ failed. use_it system_failure (ap planned failed))
      (λ isnt. is_some-true (waiting_code (jobs_of desk) row.number) (waits-some has isnt) (λ code waits. use_it code (ap planned isnt ∙ ap (unmarked_plan desk.layout (jobs_of desk) row None) waits)))

  -- it has a mark or a running step
  pub coded-some : has_code (has_mark desk row.number) (running_of desk row.number) ≡ true → (has_mark desk row.number || is_some (running_of desk row.number)) ≡ true
  coded-some has = by (has_mark desk row.number) (running_of desk row.number) has
    where
      by : (mark : Bool) (on : Option DeskStep) → has_code mark on ≡ true → (mark || is_some on) ≡ true
      by true on has = refl
      by false None has = has
      by false (Some on) has = refl
