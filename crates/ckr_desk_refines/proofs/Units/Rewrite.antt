-- A unit that rewrites a record: what the desk tells of it.
use Rattle.std.proofs.Common.{◌≡◌, ◌≤◌, ℕ, suc, ◌+◌, Bool, true, false, List, [], ◌∷◌, length, refl, ap, sym, ◌∙◌, subst, Option, Some, None, arith}
use Rattle.std.specs.Prelude.{option_and_then, slice_get}
use Rattle.std.specs.List.{list_all}
use Rattle.std.specs.Option.{is_some, option_map, option_map_or}
use Rattle.std.proofs.lemmas.Bool.{false≢true}
use Rattle.std.proofs.lemmas.Option.{same_Some}
use Rattle.ckr_points_library.specs.Commit.{output_names}
use Rattle.ckr_base.specs.declared.programs.Finish.{Finish}
use Rattle.ckr_base.specs.declared.programs.Finish.TheVariants as Finishes
use Rattle.ckr_base.specs.declared.programs.Output.{Output}
use Rattle.ckr_base.specs.declared.programs.Output.TheVariants.{InPlace}
use Rattle.ckr_base.specs.declared.programs.Write.{Write}
use Rattle.ckr_points_invariant.specs.RunningSteps.{IsRunning, its_start}
use Rattle.ckr_base.proofs.Options.{some-not-none}
use Rattle.ckr_base.proofs.Sequences.{append-cancel}
use Rattle.ckr_base.specs.Columns.{fitted}
use Rattle.ckr_events.specs.declared.event.Event.TheVariants.{Rewritten as RewrittenEvent}
use Rattle.ckr_jcl.specs.declared.deck.Kind.{Kind}
use Rattle.ckr_desk_memory.specs.Plans.{told_by}
use Rattle.ckr_console.specs.declared.question.Answer.{Answer}
use Rattle.ckr_desk_memory.specs.View.{JobsView, RunningStepView, running_of}
use Rattle.ckr_desk_turn.proofs.RunningSteps.{going-within, map-same}
use Rattle.ckr_desk_turn.proofs.NextEvents.WithinStep.{by-step}
use Rattle.ckr_library.specs.Catalog.{Catalog}
use Rattle.ckr_library.specs.declared.sets.Content.{Content}
use Rattle.ckr_library.specs.declared.sets.Content.TheVariants.{Plain}
use Rattle.ckr_library.specs.NameMaps.{Name, Named, entry_at}
use Rattle.ckr_library.proofs.Named.{name-itself}
use Rattle.ckr_meaning.proofs.WriteSeries.{written_all-append}
use Rattle.ckr_meaning.proofs.Prefixes.{takes_one}
use Rattle.ckr_meaning.specs.EffectiveJob.{Effective, OwnedStep, is_among}
use Rattle.ckr_meaning.specs.LibrarySet.{LibrarySet}
use Rattle.ckr_meaning.specs.Program.{room_after, unit_done as program_unit, upto}
use Rattle.ckr_meaning.specs.StepRun.{StepStart, case_at, input_names, made_at, output_dd, output_name, set_name, within_at, work_at, written_all, written_one}
use Rattle.ckr_points.specs.Tables.{is_updates, name_with_role}
use Rattle.ckr_points.specs.Follows.{is_update}
use Rattle.ckr_points.specs.Payload.{length_by, length_now, lengths_at, records_under}
use Rattle.ckr_points.specs.Office.{Leg}
use Rattle.ckr_points.specs.Restart.{place_of, step_in}
use Rattle.ckr_points.specs.Rows.{RunRow, TableSet, run_of, step_of_run}
use Rattle.ckr_points_invariant.proofs.Steps.Commits.{formed_step, place_so}
use Rattle.ckr_points_invariant.proofs.Rewrite.Invariant.{rewritten-long, updated-name}
use Rattle.ckr_steps.proofs.UnitProgress.{so_far_written, no_rewrite}
use Rattle.ckr_steps.proofs.NextHeads.{IsNamed, among_names, set_found, source_named}
use Rattle.ckr_steps.proofs.NextUnits.{taken_is}
use Rattle.ckr_steps.proofs.Writes.{Kinds, go_behind, rewrites}
use Rattle.ckr_steps.specs.declared.step_run.StepRun.{StepRun}
use Rattle.ckr_steps.specs.declared.step_run.Worked.{Worked}
use Rattle.ckr_steps.specs.declared.step_run.Worked.TheVariants.{Went, Rewrite, Abend}
use Rattle.ckr_steps.specs.declared.files.RecordSource.{RecordSource}
use Rattle.ckr_steps.specs.Files.{files_of, set_of_source}
use Rattle.ckr_steps.specs.Places.{IsPlain, IsToRewrite, ShowsWithin, IsStepPlace, names_at}
use Rattle.ckr_steps.specs.StepUnit.{HasWorked, unit_for, writes_for}
use Rattle.ckr_steps.specs.Units.{state_of, taken_of}
use Rattle.ckr_steps.specs.Writes.{IsShown, is_behind, rewrite_of, room_of, worked_by}
use Rattle.ckr_desk_turn.specs.Desk.{DeskModel, jobs_of, unit_done, with_progress, work_of}
use Rattle.ckr_desk_turn.specs.declared.plan.Plan.{Plan}
use Rattle.ckr_desk_turn.specs.declared.plan.Plan.TheVariants.{Tell}
use Rattle.ckr_points.specs.declared.reply.Reply.TheVariants.{Worked as WorkedReply}
use Rattle.ckr_desk_turn.specs.Turns.{MountedTurn}
use Rattle.ckr_desk_turn.specs.Jobs.{TurnStep, step_name_of}
use Rattle.ckr_desk_turn.specs.Units.{UnitEnd, arrived, finished_by, first_rewrite, unit_end, updated_lrecl, went}
use Rattle.ckr_volumes.specs.declared.layout.Layout.{Layout}
use Rattle.ckr_desk_refines.specs.Unit.{StandsBehindUnit}
use Rattle.ckr_desk_refines.proofs.Units.Desk.{did-so, goes-so, pair, shows-at, stands-at, uncoded, work-is}
use Rattle.ckr_desk_refines.proofs.Units.Contents.{within-content}
use Rattle.ckr_desk_refines.proofs.Units.Outcomes.{answer-is, end-fits, finish-is, kinds, less-so, made-fit, open_at, taken-more}
use Rattle.ckr_desk_refines.proofs.Units.StepLists.{IsPair}
use Rattle.ckr_desk_refines.proofs.Units.OtherSteps.{same-start}
use Rattle.ckr_desk_refines.proofs.Units.OwnStep.{own-sets}
use Rattle.ckr_desk_refines.proofs.Units.Replies.{TellsSo, lengths-behind, moved-plain, plain_of, seen-behind, told-so}

-- ---- what an answer says of the unit

abbrev rewriting : Worked → Bool
rewriting (Went taken) = false
rewriting (Rewrite place image taken) = true
rewriting (Abend code) = false

abbrev taken_in : Worked → ℕ
taken_in (Went taken) = taken
taken_in (Rewrite place image taken) = taken
taken_in (Abend code) = 0

pub by-rewrite : {A : Type 0} (taken now place : ℕ) (bytes : List ℕ) (rewrite : Option (ℕ × List ℕ)) (fits : Bool) (finish : Option Finish) → worked_by taken rewrite fits finish ≡ Rewrite place bytes now
    → ((at : ℕ × List ℕ) → rewrite ≡ Some at → taken ≡ now → A) → A
by-rewrite taken now place bytes (Some at) fits finish e use_it = use_it at refl (ap taken_in e)
by-rewrite taken now place bytes None false finish e use_it = absurd (false≢true (ap rewriting e))
by-rewrite taken now place bytes None true (Some (Finishes.Abend code)) e use_it = absurd (false≢true (ap rewriting e))
by-rewrite taken now place bytes None true (Some (Finishes.Returned rc)) e use_it = absurd (false≢true (ap rewriting e))
by-rewrite taken now place bytes None true None e use_it = absurd (false≢true (ap rewriting e))

first-one : (write : Write) (place : ℕ) → write.output ≡ InPlace place → first_rewrite (write ∷ []) ≡ Some (place, write.image)
first-one write place goes =
    ap (λ (output : Output). let one : Write = record { output = output; image = write.image } in first_rewrite (one ∷ [])) goes

abbrev tail_of : List Write → List Write
tail_of [] = []
tail_of (write ∷ writes) = writes

module _ (before after : List ℕ) (layout : Layout) (start : StepStart) (taken : ℕ) (old new : StepRun) (library library' : Catalog) (place now : ℕ) (bytes : List ℕ)
    (stands : IsStepPlace start taken false old library) (shows : ShowsWithin (Unit {0}) before layout start old.writes library)
    (did : HasWorked (Unit {0}) before after layout old new library library' (Rewrite place bytes now))
    (to : IsToRewrite (Unit {0}) after layout start taken now place bytes old new library') where
  abbrev items : List Write
  items = (program_unit (case_at start) taken).writes.items

  abbrev pub end_rewriting : UnitEnd
  end_rewriting = record { unit = went (Some (place, to.write.image)); progress = arrived now new.writes }

  abbrev end_so : Option (ℕ × List ℕ) → ℕ → ℕ → UnitEnd
  end_so first number count = record { unit = went first; progress = arrived number count }

  none-behind : rewrite_of library old.files (writes_for old did.heads) ≡ None → (at : ℕ × List ℕ) → rewrite_of library old.files (writes_for old did.heads) ≡ Some at → ⊥
  none-behind none at some = some-not-none at (sym some ∙ none)

  behind-none : list_all is_behind (writes_for old did.heads) ≡ true → rewrite_of library old.files (writes_for old did.heads) ≡ None
  unfolding rewrite_of
  behind-none behind = no_rewrite _ (writes_for old did.heads) behind

  goes-on : (at : ℕ × List ℕ) → rewrite_of library old.files (writes_for old did.heads) ≡ Some at → {first : ℕ} → Kinds (case_at start).program (unit_for old did.heads).finish first (writes_for old did.heads) → (unit_for old did.heads).finish ≡ None
  goes-on at some (go_behind behind) = absurd (none-behind (behind-none behind) at some)
  goes-on at some (rewrites q image program none below are) = none

  by-end : (at : ℕ × List ℕ) → rewrite_of library old.files (writes_for old did.heads) ≡ Some at → taken_of (state_of old.parm old.state did.heads) ≡ now → unit_end start (open_at old.state taken old.writes) ≡ end_rewriting
  by-end at some same =
      let none : (unit_for old did.heads).finish ≡ None = goes-on at some (kinds before after layout start taken old new library library' (Rewrite place bytes now) stands shows did) in
      let less = less-so before after layout start taken old new library library' (Rewrite place bytes now) stands shows did none in
      let one_more : taken + 1 ≡ now = sym (taken-more before after layout start taken old new library library' (Rewrite place bytes now) stands shows did none) ∙ same in
      let are : items ≡ to.write ∷ [] =
      append-cancel (upto (case_at start) taken) items (to.write ∷ [])
      (sym (takes_one (case_at start) taken less).more ∙ ap (upto (case_at start)) one_more ∙ to.more) in
      let once : length items ≡ 1 = ap length are in
      let counted : new.writes ≡ old.writes + 1 = to.counted in
      let made : new.writes ≡ old.writes + length items = omega (arith, once, counted) in
      let fit : new.writes ≤ length (work_at start).writes = made-fit start now false new library' to.stands in
      end-fits start (open_at old.state taken old.writes) (subst (λ n. n ≤ length (work_at start).writes) made fit)
      ∙ ap (λ f. finished_by f items (open_at old.state taken old.writes) (old.writes + length items)) (finish-is before after layout start taken old new library library' (Rewrite place bytes now) stands shows did ∙ none)
      ∙ ap (λ o. end_so o (suc taken) (old.writes + length items)) (ap first_rewrite are ∙ first-one to.write place to.goes)
      ∙ ap (λ n. end_so (Some (place, to.write.image)) n (old.writes + length items)) (let e : suc taken ≡ now = omega (arith, one_more) in e)
      ∙ ap (λ n. end_so (Some (place, to.write.image)) now n) (sym made)

  pub end-rewriting : unit_end start (open_at old.state taken old.writes) ≡ end_rewriting
  end-rewriting =
      by-rewrite (taken_of (state_of old.parm old.state did.heads)) now place bytes (rewrite_of library old.files (writes_for old did.heads)) (is_some (room_after (writes_for old did.heads) (room_of library old.files))) (unit_for old did.heads).finish
      (answer-is before after layout start taken old new library library' (Rewrite place bytes now) stands shows did) by-end

  -- ---- the lengths stay

  next-library : within_at start new.writes ≡ written_one start to.write (within_at start old.writes)
  next-library =
      so_far_written start now new library' to.stands
      ∙ ap (λ writes. written_all start writes (made_at start)) to.more
      ∙ written_all-append start (upto (case_at start) taken) (to.write ∷ []) (made_at start)
      ∙ ap (written_one start to.write) (sym (so_far_written start taken old library stands))

  same-long : (name : Name) → length (records_under (within_at start new.writes) name) ≡ length (records_under (within_at start old.writes) name)
  same-long name =
      ap (λ library. length (records_under library name)) next-library
      ∙ ap (λ (output : Output). let one : Write = record { output = output; image = to.write.image } in length (records_under (written_one start one (within_at start old.writes)) name)) to.goes
      ∙ rewritten-long start place to.write.image (within_at start old.writes) name

  pub lengths-stay : (sets : Named TableSet) → lengths_at start sets old.writes ≡ lengths_at start sets new.writes
  lengths-stay sets =
      map-same (length_now (within_at start old.writes) sets) (length_now (within_at start new.writes) sets) (output_names start.root start.owned)
      (λ name among. ap (λ n. option_map_or (λ (table : TableSet). length_by table.set.content table n) (entry_at sets name) 0) (sym (same-long name)))

  -- ---- what is updated

  update-so : is_update start.owned.step.program ≡ true
  update-so = ap is_update to.program

  named : IsNamed start 0 to.name
  unfolding files_of
  named = source_named start 0 to.name to.updates

  input-found : option_and_then (set_name start) (slice_get (input_names start.owned.step.program) 0) ≡ Some to.name
  input-found = set_found start (slice_get (input_names start.owned.step.program) 0) named.dd to.name named.found named.named

  pub updates-name : output_name start (InPlace place) ≡ Some to.name
  unfolding output_name
  updates-name =
      ap (λ (program : Kind). option_and_then (set_name start) (output_dd program (InPlace place))) to.program
      ∙ sym (ap (λ (program : Kind). option_and_then (set_name start) (slice_get (input_names program) 0)) to.program)
      ∙ input-found

  pub among-so : is_among (names_at start) to.name ≡ true
  among-so = among_names start (slice_get (input_names start.owned.step.program) 0) named.dd to.name named.found named.named (name-itself to.name)

  pub plain-so : to.rewritten.content ≡ Plain
  plain-so =
      let plain : IsPlain (made_at start) (Some to.name) = subst (λ (s : RecordSource). IsPlain (made_at start) (set_of_source s)) to.updates stands.may.first in
      same_Some to.rewritten.content Plain
      (sym (ap (option_map (λ (set : LibrarySet). set.content)) to.stood) ∙ within-content start old.writes to.name ∙ ap (option_map (λ (set : LibrarySet). set.content)) plain.1 ∙ ap (λ (c : Content). Some c) plain.2)

module _ (layout : Layout) (old : JobsView) (before after : List ℕ) (desk : DeskModel) (turn : MountedTurn) (run : ℕ) (on moved : RunningStepView) (place now : ℕ) (bytes : List ℕ) (unit : StandsBehindUnit layout old before after desk turn run on moved (Rewrite place bytes now)) where
  abbrev p : IsPair desk.layout desk.office before run on desk.running
  p = pair layout old before after desk turn run on moved (Rewrite place bytes now) unit

  to : IsToRewrite (Unit {0}) after desk.layout p.stands.start p.step.progress.taken now place bytes on.step moved.step moved.sets
  to = goes-so layout old before after desk turn run on moved (Rewrite place bytes now) unit

  did : HasWorked (Unit {0}) before after desk.layout on.step moved.step on.sets moved.sets (Rewrite place bytes now)
  did = did-so layout old before after desk turn run on moved (Rewrite place bytes now) unit

  stands : IsStepPlace p.stands.start p.step.progress.taken false on.step on.sets
  stands = stands-at layout old before after desk turn run on moved (Rewrite place bytes now) unit

  shows : ShowsWithin (Unit {0}) before desk.layout p.stands.start on.step.writes on.sets
  shows = shows-at layout old before after desk turn run on moved (Rewrite place bytes now) unit

  abbrev its_end : UnitEnd
  its_end = record { unit = went (Some (place, to.write.image)); progress = arrived now moved.step.writes }

  rewriting-done : (answer : Answer) → work_of answer run desk ≡ unit_done answer p.stands.row its_end desk
  rewriting-done answer =
      work-is layout old before after desk turn run on moved (Rewrite place bytes now) unit answer its_end
      (end-rewriting before after desk.layout p.stands.start p.step.progress.taken on.step moved.step on.sets moved.sets place now bytes stands shows did to)

  same : p.going.start ≡ p.stands.start
  same = same-start desk.layout desk.office before on p.step p.going p.stands

  -- the step in memory behind the unit, as the desk sees it
  running-so : (plain_of desk.office.tables moved).lengths ≡ lengths_at p.stands.start desk.office.tables.sets moved.step.writes
  running-so =
      lengths-behind layout old before after desk turn run on moved (Rewrite place bytes now) unit p.step.progress.writes p.going.behind p.going.fit p.going.plain
      (subst (λ n. ShowsWithin (Unit {0}) after desk.layout p.stands.start n moved.sets) p.stands.writes to.shows)
      ∙ ap (lengths_at p.stands.start desk.office.tables.sets) (sym p.stands.writes)
      ∙ lengths-stay before after desk.layout p.stands.start p.step.progress.taken on.step moved.step on.sets moved.sets place now bytes stands shows did to desk.office.tables.sets

  taken-so : taken_of moved.step.state ≡ now
  taken-so = taken_is moved.step.state (case_at p.stands.start) now to.stands.state

  -- the record length of what is updated
  shown : IsShown (Unit {0}) after desk.layout to.rewritten moved.sets to.name
  shown =
      to.shows to.name to.rewritten
      (among-so before after desk.layout p.stands.start p.step.progress.taken on.step moved.step on.sets moved.sets place now bytes stands shows did to) to.stood
      (plain-so before after desk.layout p.stands.start p.step.progress.taken on.step moved.step on.sets moved.sets place now bytes stands shows did to)

  abbrev lrecl_in : OwnedStep → ℕ → ℕ
  lrecl_in owned root = option_map_or (λ (table : TableSet). table.set.lrecl) (entry_at desk.office.tables.sets (name_with_role root owned is_updates)) 0

  table-lrecl : option_map_or (λ (table : TableSet). table.set.lrecl) (entry_at desk.office.tables.sets to.name) 0 ≡ to.rewritten.lrecl
  table-lrecl =
      let from = (own-sets desk unit.stands.is_desk before after on moved p.step p.going p.stands (uncoded layout old before after desk turn run on moved (Rewrite place bytes now) unit) (Rewrite place bytes now) did).from to.name shown.set shown.is in
      ap (λ (o : Option TableSet). option_map_or (λ (table : TableSet). table.set.lrecl) o 0) from.1
      ∙ sym from.2.places.lrecl ∙ shown.shows.lrecl

  named-so : (leg : Leg) (owned : OwnedStep) → IsRunning desk.office p.step.run p.going.row leg owned p.going.number p.going.committed → p.going.start ≡ its_start leg owned p.going.number
      → name_with_role leg.job.root owned is_updates ≡ to.name
  named-so leg owned running starts =
      let its : p.stands.start ≡ its_start leg owned p.going.number = sym same ∙ starts in
      same_Some (name_with_role leg.job.root owned is_updates) to.name
      (sym (updated-name (its_start leg owned p.going.number) place
      (formed_step desk.layout desk.office p.step.run p.going.row leg owned p.going.number p.going.committed unit.stands.is_desk.kept.events running)
      (subst (λ (s : StepStart). is_update s.owned.step.program ≡ true) its (ap is_update to.program)))
      ∙ subst (λ (s : StepStart). output_name s (InPlace place) ≡ Some to.name) its
      (updates-name before after desk.layout p.stands.start p.step.progress.taken on.step moved.step on.sets moved.sets place now bytes stands shows did to))

  lrecl-going : option_map_or (λ (owned : OwnedStep). lrecl_in owned p.going.row.job.root) (step_of_run p.going.row (step_in (place_of p.going.row))) 0 ≡ to.rewritten.lrecl
  lrecl-going =
      by-step desk unit.stands.is_desk p.step.run p.going.row p.going.number p.going.committed p.going.start (going-within desk.office p.step p.going)
      (λ leg owned running starts spaced.
      ap (λ n. option_map_or (λ (owned : OwnedStep). lrecl_in owned p.going.row.job.root) (step_of_run p.going.row n) 0) (ap step_in running.stands)
      ∙ ap (λ (o : Option OwnedStep). option_map_or (λ (owned : OwnedStep). lrecl_in owned p.going.row.job.root) o 0) running.found
      ∙ ap (λ (job : Effective). lrecl_in owned job.root) (sym (place_so desk.layout desk.office p.step.run p.going.row leg owned p.going.number p.going.committed unit.stands.is_desk.kept.events running).job)
      ∙ ap (λ (name : Name). option_map_or (λ (table : TableSet). table.set.lrecl) (entry_at desk.office.tables.sets name) 0) (named-so leg owned running starts)
      ∙ table-lrecl)

  lrecl-so : option_map_or (λ (owned : OwnedStep). lrecl_in owned p.stands.row.job.root) (step_of_run p.stands.row (step_in (place_of p.stands.row))) 0 ≡ to.rewritten.lrecl
  lrecl-so =
      subst (λ (row : RunRow). option_map_or (λ (owned : OwnedStep). lrecl_in owned row.job.root) (step_of_run row (step_in (place_of row))) 0 ≡ to.rewritten.lrecl)
      (same_Some p.going.row p.stands.row (sym p.going.row_at ∙ p.stands.row_at)) lrecl-going

  abbrev tell_so : ℕ → ℕ → List ℕ → List ℕ → Plan
  tell_so taken writes lengths image =
      Tell (WorkedReply p.stands.row.number (step_name_of p.stands.row) taken)
      (RewrittenEvent p.stands.row.number taken writes (record { items = lengths }) place image)

  abbrev seen_step : TurnStep → Plan
  seen_step step = tell_so step.taken step.writes step.lengths (fitted (updated_lrecl (jobs_of (with_progress p.stands.row.number its_end.progress desk)) p.stands.row) to.write.image)

  pub told-rewriting : (answer : Answer) (row : RunRow) → run_of desk.office.tables run ≡ Some row → TellsSo answer run desk (told_by layout desk.office.tables row (running_of desk.office.tables moved) (Rewrite place bytes now))
  told-rewriting answer =
      told-so layout old before after desk turn run on moved (Rewrite place bytes now) unit answer its_end (rewriting-done answer)
      (ap (λ (s : TurnStep). tell_so s.taken s.writes s.lengths bytes) (moved-plain layout old before after desk turn run on moved (Rewrite place bytes now) unit)
      ∙ ap (λ n. tell_so n moved.step.writes (plain_of desk.office.tables moved).lengths bytes) taken-so
      ∙ ap (λ lengths. tell_so now moved.step.writes lengths bytes) running-so
      ∙ ap (tell_so now moved.step.writes (lengths_at p.stands.start desk.office.tables.sets moved.step.writes))
      (to.fits ∙ ap (λ (n : ℕ). fitted n to.write.image) (sym lrecl-so))
      ∙ ap seen_step (sym (seen-behind layout old before after desk turn run on moved (Rewrite place bytes now) unit its_end.progress)))
