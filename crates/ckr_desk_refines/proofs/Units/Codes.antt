-- A unit by which a step ends with a code: what the desk tells, and what stands until its run ends, or is restarted, in memory too.
use Rattle.std.proofs.Common.{◌≡◌, ◌≤◌, ◌<◌, ℕ, Bool, true, false, not, cond, List, ◌∷◌, length, refl, ap, sym, ◌∙◌, subst, Some, None, arith}
use Rattle.std.specs.Prelude.{◌==◌}
use Rattle.std.specs.Option.{is_some, option_map_or}
use Rattle.std.proofs.lemmas.Option.{same_Some}
use Rattle.arrayvec.specs.ArrayVec.{ArrayVec}
use Rattle.ckr_base.specs.declared.code.Code.{Code}
use Rattle.ckr_console.specs.declared.question.Answer.{Answer}
use Rattle.ckr_console.specs.declared.question.Answer.TheVariants.{Yes, No, Hold, Silent}
use Rattle.ckr_base.proofs.Numbers.{equal-itself}
use Rattle.ckr_base.proofs.Options.{some-not-none}
use Rattle.ckr_events.specs.declared.event.Event.{Event}
use Rattle.ckr_events.specs.declared.event.Event.TheVariants.{Ended as EndedEvent, Held as HeldEvent, Restarted as RestartedEvent}
use Rattle.ckr_events.specs.declared.event.Ending.{Ending}
use Rattle.ckr_events.specs.declared.event.Ending.TheVariants.{Coded as CodedEnding}
use Rattle.ckr_desk_memory.specs.EventChanges.{without_first, without_run as seen_without}
use Rattle.ckr_desk_memory.specs.Plans.{told_by}
use Rattle.ckr_desk_memory.specs.View.{JobsView, RunningStepView, running_of}
use Rattle.ckr_desk_turn.proofs.Codes.{by-verdict}
use Rattle.ckr_desk_turn.proofs.Moves.{come-uncoded}
use Rattle.ckr_desk_turn.proofs.Units.LastUnit.{full-plain}
use Rattle.ckr_desk_turn.specs.Invariant.{HasCome, IsOpen, next_writes}
use Rattle.ckr_desk_refines.proofs.Durable.Units.{within-shown}
use Rattle.ckr_desk_refines.specs.Commits.{HasWithin, HasWithinRun}
use Rattle.ckr_meaning.specs.StepRun.{StepStart, work_at}
use Rattle.ckr_points.specs.Payload.{rewrites_nothing, start_in_office}
use Rattle.ckr_points.specs.Rows.{RunRow, TablesModel, run_of}
use Rattle.ckr_rules.specs.RuleTables.{rule_number}
use Rattle.ckr_rules.specs.declared.cases.Rule.TheVariants.{A6}
use Rattle.ckr_desk_refines.specs.Standing.{AllStand, PointsStand, StandsBut, steps_without}
use Rattle.ckr_steps.specs.declared.step_run.Worked.TheVariants.{Abend}
use Rattle.ckr_steps.specs.Places.{EndsSo}
use Rattle.ckr_desk_turn.specs.Codes.{CodePlaceModel, code_plan, initiator_of, inquiry_of, running_reached}
use Rattle.ckr_desk_turn.specs.Desk.{DeskModel, DeskStep, TurnDone, answered, at_entry, behind, done_by, seen, unit_done, with_progress, work_of}
use Rattle.ckr_desk_turn.specs.Inquiries.{decided}
use Rattle.ckr_desk_turn.specs.Jobs.{effect_entry}
use Rattle.ckr_desk_turn.specs.declared.inquiry.Inquiry.{Inquiry}
use Rattle.ckr_desk_turn.specs.declared.plan.Plan.{Plan}
use Rattle.ckr_desk_turn.specs.Turns.{MountedTurn}
use Rattle.ckr_desk_turn.specs.Units.{StepProgress, unit_end}
use Rattle.ckr_desk_turn.proofs.Units.Invariant.{without-moved}
use Rattle.ckr_desk_turn.proofs.Turns.Operator.{silent-tells}
use Rattle.ckr_volumes.specs.declared.layout.Layout.{Layout}
use Rattle.ckr_desk_refines.specs.Unit.{IsPutBack, StandsBehindUnit}
use Rattle.ckr_desk_refines.proofs.Units.Desk.{committed-so, did-so, each-stays, goes-so, pair, row-at, run-moved, shows-at, stands-at, unclosed, uncoded, unwaiting, work-is}
use Rattle.ckr_desk_refines.proofs.Units.CodeOutcomes.{Ended, gave_up, spilled, end-coded, end_coded}
use Rattle.ckr_desk_refines.proofs.Units.Outcomes.{open_at}
use Rattle.ckr_desk_refines.proofs.Units.StepLists.{IsPair, all-stay, without-first}
use Rattle.ckr_desk_refines.proofs.Units.OtherSteps.{same-start}
use Rattle.ckr_desk_refines.proofs.Units.OwnStep.{own-sets}
use Rattle.ckr_desk_refines.proofs.Units.Replies.{TellsSo, lengths-behind, moved-plain, plan_at, seen-behind, told-so}

-- behind the end of its run it doesn't matter how far the step had come
behind-moved : (run : ℕ) (ending : Ending) (progress : StepProgress) (desk : DeskModel) → behind (EndedEvent run ending) None (with_progress run progress desk) ≡ behind (EndedEvent run ending) None desk
behind-moved run ending progress desk =
    ap (λ (running : List DeskStep). record (behind (EndedEvent run ending) None desk) { running = running }) (without-moved run progress desk.running)

-- nor behind its restart
behind-restarted : (run initiator : ℕ) (code : Code) (checkpoint : Bool) (progress : StepProgress) (desk : DeskModel) → behind (RestartedEvent run initiator code checkpoint) None (with_progress run progress desk) ≡ behind (RestartedEvent run initiator code checkpoint) None desk
behind-restarted run initiator code false progress desk =
    ap (λ (running : List DeskStep). record (behind (RestartedEvent run initiator code false) None desk) { running = running }) (without-moved run progress desk.running)
behind-restarted run initiator code true progress desk =
    ap (λ (running : List DeskStep). record (behind (RestartedEvent run initiator code true) None desk) { running = option_map_or (λ entry. at_entry run entry.point ∷ running) (option_map_or (effect_entry desk.office.tables) (run_of desk.office.tables run) None) running })
    (without-moved run progress desk.running)

-- nor behind its hold
behind-held : (run writes : ℕ) (code : Code) (lengths : ArrayVec ℕ) (progress : StepProgress) (desk : DeskModel) → behind (HeldEvent run code writes lengths) None (with_progress run progress desk) ≡ behind (HeldEvent run code writes lengths) None desk
behind-held run writes code lengths progress desk =
    ap (λ (running : List DeskStep). record (behind (HeldEvent run code writes lengths) None desk) { running = running }) (without-moved run progress desk.running)

asked-behind : (answer : Answer) (inquiry : Inquiry) (progress : StepProgress) (desk : DeskModel) (event : Event) → (done_by (decided answer inquiry) (with_progress inquiry.job progress desk)).event ≡ Some event
    → (done_by (decided answer inquiry) (with_progress inquiry.job progress desk)).desk ≡ behind event None desk
asked-behind Yes inquiry progress desk event is =
    behind-restarted inquiry.job inquiry.initiator inquiry.code (is_some inquiry.id) progress desk ∙ ap (λ (e : Event). behind e None desk) (same_Some _ event is)
asked-behind No inquiry progress desk event is =
    behind-moved inquiry.job (CodedEnding inquiry.code (rule_number A6) inquiry.writes inquiry.lengths) progress desk ∙ ap (λ (e : Event). behind e None desk) (same_Some _ event is)
asked-behind Hold inquiry progress desk event is =
    behind-held inquiry.job inquiry.writes inquiry.code inquiry.lengths progress desk ∙ ap (λ (e : Event). behind e None desk) (same_Some _ event is)
asked-behind Silent inquiry progress desk event is = absurd (some-not-none event (sym is ∙ silent-tells inquiry (with_progress inquiry.job progress desk)))

-- nor behind any of them, whatever the rules say of the code
code-behind : (answer : Answer) (layout : Layout) (tables : TablesModel) (row : RunRow) (initiator : ℕ) (lodged : Bool) (code : Code) (reached : CodePlaceModel) (progress : StepProgress) (desk : DeskModel) (event : Event)
    → (answered answer (code_plan layout tables row initiator lodged code reached) (with_progress row.number progress desk)).event ≡ Some event
    → (answered answer (code_plan layout tables row initiator lodged code reached) (with_progress row.number progress desk)).desk ≡ behind event None desk
code-behind answer layout tables row initiator lodged code reached progress desk event =
    by-verdict (λ plan. (answered answer plan (with_progress row.number progress desk)).event ≡ Some event → (answered answer plan (with_progress row.number progress desk)).desk ≡ behind event None desk)
    layout tables row initiator lodged code reached
    (λ rule ends is. behind-moved row.number (CodedEnding code (rule_number rule) reached.writes (record { items = reached.lengths })) progress desk ∙ ap (λ (e : Event). behind e None desk) (same_Some _ event is))
    (λ judged is. asked-behind answer (inquiry_of row initiator lodged code reached None 0) progress desk event is)
    (λ entry judged there is. asked-behind answer (inquiry_of row initiator lodged code reached (Some entry.kept.id) entry.point.taken) progress desk event is)

module _ (layout : Layout) (old : JobsView) (before after : List ℕ) (desk : DeskModel) (turn : MountedTurn) (run : ℕ) (on moved : RunningStepView) (code : Code) (unit : StandsBehindUnit layout old before after desk turn run on moved (Abend code)) where
  abbrev p : IsPair desk.layout desk.office before run on desk.running
  p = pair layout old before after desk turn run on moved (Abend code) unit

  pub ends : EndsSo (Unit {0}) after desk.layout p.stands.start code moved.step moved.sets
  ends = goes-so layout old before after desk turn run on moved (Abend code) unit

  its_end : (unit_end p.stands.start (open_at on.step.state p.step.progress.taken on.step.writes) ≡ end_coded on.step.state code p.step.progress.taken moved.step.writes) × Ended p.stands.start p.step.progress.taken on.step.writes moved.step.writes
  its_end =
      end-coded before after desk.layout p.stands.start p.step.progress.taken on.step moved.step on.sets moved.sets (Abend code)
      (stands-at layout old before after desk turn run on moved (Abend code) unit) (shows-at layout old before after desk turn run on moved (Abend code) unit) (did-so layout old before after desk turn run on moved (Abend code) unit)
      code refl ends

  abbrev pub its_progress : StepProgress
  its_progress = open_at on.step.state p.step.progress.taken moved.step.writes

  pub coded-done : (answer : Answer) → work_of answer run desk ≡ unit_done answer p.stands.row (end_coded on.step.state code p.step.progress.taken moved.step.writes) desk
  coded-done answer = work-is layout old before after desk turn run on moved (Abend code) unit answer (end_coded on.step.state code p.step.progress.taken moved.step.writes) its_end.0

  same : p.going.start ≡ p.stands.start
  same = same-start desk.layout desk.office before on p.step p.going p.stands

  opened : IsOpen p.going.start p.step.progress
  opened = subst (HasCome p.going.start p.step.progress) (unclosed layout old before after desk turn run on moved (Abend code) unit)
      (come-uncoded desk.office p.step (unwaiting layout old before after desk turn run on moved (Abend code) unit) p.going)

  most : moved.step.writes ≡ length (work_at p.going.start).writes
  most = ends.writes ∙ ap (λ (s : StepStart). length (work_at s).writes) (sym same)

  committed-below : p.going.committed ≤ moved.step.writes
  committed-below =
      let a : p.going.committed ≤ p.step.progress.writes = p.going.behind in
      let b : p.step.progress.writes ≤ length (work_at p.going.start).writes = p.going.fit in
      let c : moved.step.writes ≡ length (work_at p.going.start).writes = most in
      omega (arith, a, b, c)

  plain-so : Ended p.stands.start p.step.progress.taken on.step.writes moved.step.writes → rewrites_nothing p.going.start p.going.committed moved.step.writes ≡ true
  plain-so (spilled full) =
      subst (λ n. rewrites_nothing p.going.start p.going.committed n ≡ true) (sym most)
      (full-plain desk.office p.step p.going opened
      (subst (λ (s : StepStart). length (work_at s).writes < next_writes s p.step.progress) (sym same)
      (subst (λ (n : ℕ). length (work_at p.stands.start).writes < next_writes p.stands.start (record p.step.progress { writes = n })) p.stands.writes full)))
  plain-so (gave_up none) = subst (λ n. rewrites_nothing p.going.start p.going.committed n ≡ true) (sym (none ∙ p.stands.writes)) p.going.plain

  reached-so : running_reached (running_of desk.office.tables moved) ≡ running_reached (seen desk.office p.stands.row.number its_progress)
  reached-so =
      ap running_reached (moved-plain layout old before after desk turn run on moved (Abend code) unit)
      ∙ ap (λ (lengths : List ℕ). let reached : CodePlaceModel = record { writes = moved.step.writes; lengths = lengths } in reached)
      (lengths-behind layout old before after desk turn run on moved (Abend code) unit moved.step.writes committed-below
      (let c : moved.step.writes ≡ length (work_at p.going.start).writes = most in omega (arith, c)) (plain-so its_end.1) ends.shows)
      ∙ sym (ap running_reached (seen-behind layout old before after desk turn run on moved (Abend code) unit its_progress))

  -- the plan in memory is that of the desk
  abbrev told : Plan
  told = told_by layout desk.office.tables p.stands.row (running_of desk.office.tables moved) (Abend code)

  pub plan-so : told ≡ plan_at layout old before after desk turn run on moved (Abend code) unit (end_coded on.step.state code p.step.progress.taken moved.step.writes)
  plan-so =
      ap (λ (l : Layout). code_plan l desk.office.tables p.stands.row (initiator_of p.stands.row) true code (running_reached (running_of desk.office.tables moved))) (sym unit.stands.layout_is)
      ∙ ap (code_plan desk.layout desk.office.tables p.stands.row (initiator_of p.stands.row) true code) reached-so

  pub told-coded : (answer : Answer) (row : RunRow) → run_of desk.office.tables run ≡ Some row → TellsSo answer run desk (told_by layout desk.office.tables row (running_of desk.office.tables moved) (Abend code))
  told-coded answer = told-so layout old before after desk turn run on moved (Abend code) unit answer (end_coded on.step.state code p.step.progress.taken moved.step.writes) (coded-done answer) plan-so

  -- ---- what stands meanwhile

  others : (put : JobsView) → IsPutBack run moved old put → AllStand desk.layout desk.office after (seen_without run put.running) (steps_without run desk.running)
  others put back =
      subst (λ (seen : List RunningStepView). AllStand desk.layout desk.office after seen (steps_without run desk.running))
      (sym (ap (seen_without run) back.running
      ∙ ap (λ b. cond (not b) (moved ∷ seen_without run (without_first run old.running)) (seen_without run (without_first run old.running)))
      (ap (λ n. n == run) (run-moved layout old before after desk turn run on moved (Abend code) unit) ∙ equal-itself run)
      ∙ without-first run old.running))
      (all-stay desk.layout desk.office before after run (each-stays layout old before after desk turn run on moved (Abend code) unit) old.running desk.running unit.stands.is_desk.going unit.stands.running)

  pub coded-but : (put : JobsView) → IsPutBack run moved old put → StandsBut run layout put after desk
  coded-but put back = record {
    layout_is = unit.stands.layout_is;
    is_desk = unit.stands.is_desk;
    tables = back.tables ∙ unit.stands.tables;
    failed = back.failed ∙ unit.stands.failed;
    running = others put back;
    differ_so = unit.stands.differ_so;
    points = subst (PointsStand desk.office) (sym back.points) unit.stands.points;
    committed = committed-so layout old before after desk turn run on moved (Abend code) unit before after unit.stands.committed unit.keeps;
  }

  -- the image has what the step has written
  pub coded-within : HasWithinRun desk.layout desk.office run moved.step.writes after
  coded-within row start at starts =
      let mine : p.stands.row ≡ row = same_Some p.stands.row row (sym (row-at layout old before after desk turn run on moved (Abend code) unit) ∙ at) in
      let its : p.stands.start ≡ start = same_Some p.stands.start start (sym p.stands.start_at ∙ ap (start_in_office desk.office) mine ∙ starts) in
      subst (λ (s : StepStart). HasWithin desk.layout desk.office.tables.sets s moved.step.writes after) its
      (within-shown (Unit {0}) after desk.layout desk.office.tables.sets p.stands.start moved.step.writes moved.sets tt
      (own-sets desk unit.stands.is_desk before after on moved p.step p.going p.stands (uncoded layout old before after desk turn run on moved (Abend code) unit) (Abend code) (did-so layout old before after desk turn run on moved (Abend code) unit)) ends.shows)

  -- the desk behind the unit is that behind its event
  pub coded-behind : (answer : Answer) (event : Event) → (work_of answer run desk).event ≡ Some event → (work_of answer run desk).desk ≡ behind event None desk
  coded-behind answer event is =
      ap (λ (d : TurnDone). d.desk) (coded-done answer)
      ∙ code-behind answer desk.layout desk.office.tables p.stands.row (initiator_of p.stands.row) true code (running_reached (seen desk.office p.stands.row.number its_progress)) its_progress desk event (sym (ap (λ (d : TurnDone). d.event) (coded-done answer)) ∙ is)
