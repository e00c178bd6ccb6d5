-- What the jobs of a desk see of its running steps, and how far a run with a code has come.
use Rattle.std.proofs.Common.{◌≡◌, ◌≤◌, ℕ, true, cond, not, List, [], ◌∷◌, find, length, map, refl, ap, sym, ◌∙◌, subst, Option, Some, None, arith}
use Rattle.std.specs.Prelude.{◌==◌, ◌-◌, drop, take}
use Rattle.std.specs.List.{AllByRecursion, list_all}
use Rattle.std.specs.Option.{option_map, option_map_or}
use Rattle.std.proofs.lemmas.Bool.{or_left, or_right}
use Rattle.std.proofs.lemmas.Option.{same_Some}
use Rattle.ckr_points_library.specs.Commit.{output_names}
use Rattle.ckr_base.specs.declared.code.Code.{Code}
use Rattle.ckr_base.specs.declared.programs.NextDue.TheVariants.{Unit as OneUnit}
use Rattle.ckr_base.proofs.Bools.{bool-cases}
use Rattle.ckr_base.proofs.Numbers.{equal-true}
use Rattle.ckr_base.proofs.Options.{option-cases, some-not-none}
use Rattle.ckr_base.proofs.Sequences.{find-passes}
use Rattle.ckr_events.specs.declared.event.Event.TheVariants.{Ended as EndedEvent, Held as HeldEvent}
use Rattle.ckr_events.specs.declared.event.Ending.TheVariants.{Coded as CodedEnding}
use Rattle.ckr_library.specs.declared.sets.Content.{Content}
use Rattle.ckr_library.specs.declared.sets.Content.TheVariants.{Plain, Checkpoints}
use Rattle.ckr_library.specs.NameMaps.{Name, Named, same_name, entry_at}
use Rattle.ckr_library.proofs.Named.{name-equivalence}
use Rattle.ckr_meaning.specs.LibrarySet.{Library, LibrarySet}
use Rattle.ckr_meaning.specs.EffectiveJob.{Effective, OwnedStep, is_among}
use Rattle.ckr_meaning.specs.declared.place.Place.{Place}
use Rattle.ckr_meaning.specs.declared.place.Place.TheVariants.{Before}
use Rattle.ckr_meaning.specs.StepRun.{StepStart, within_at, work_at}
use Rattle.ckr_points.specs.Payload.{is_in_place, length_by, length_now, lengths_at, lengths_kept, rewrites_nothing, writes_in, start_in_office}
use Rattle.ckr_points.specs.Office.{Office}
use Rattle.ckr_points.specs.Restart.{place_of, step_in}
use Rattle.ckr_points.specs.Rows.{RunRow, TableSet, run_of, step_of_run}
use Rattle.ckr_rules.specs.RuleTables.{rule_number}
use Rattle.ckr_rules.specs.declared.cases.Rule.{Rule}
use Rattle.ckr_points_invariant.specs.Invariant.{AreAlike, Shape, counted, set_shape, table_shape}
use Rattle.ckr_points_invariant.specs.RunningSteps.{its_start}
use Rattle.ckr_points_invariant.proofs.Steps.Commits.{alike_within, in_reach, place_so, under_way}
use Rattle.ckr_points_invariant.proofs.Holders.Places.{outputs-among}
use Rattle.ckr_desk_turn.specs.Codes.{CodePlaceModel, kept_reached, reached_by, running_reached, verdict_for}
use Rattle.ckr_desk_turn.specs.Desk.{DeskModel, DeskStep, jobs_of, progress_unless, seen, seen_from, seen_step}
use Rattle.ckr_desk_turn.specs.Jobs.{TurnStep, as_stopped, running_in}
use Rattle.ckr_desk_turn.specs.Units.{StepProgress}
use Rattle.ckr_desk_turn.specs.NextEvents.{Comes, IsWithinStep}
use Rattle.ckr_desk_turn.specs.Invariant.{IsDesk, IsGoing}
use Rattle.ckr_desk_turn.proofs.Codes.{may_end}
use Rattle.ckr_desk_turn.proofs.NextEvents.Holders.{HoldsStep, by-holder, coded-comes, held-comes, may_go}

-- ---- a running step as the jobs see it

abbrev pub nothing_seen : ℕ → StepProgress → TurnStep
nothing_seen run progress = record { run = run; taken = progress.taken; writes = progress.writes; due = OneUnit; lengths = []; code = None }

pub seen-so : (office : Office) (run : ℕ) (progress : StepProgress) (row : RunRow) (start : StepStart) → run_of office.tables run ≡ Some row → start_in_office office row ≡ Some start → seen office run progress ≡ seen_from office run progress start
seen-so office run progress row start row_at start_at =
    ap (λ (o : Option StepStart). option_map_or (seen_from office run progress) o (nothing_seen run progress))
    (ap (λ (o : Option RunRow). option_map_or (start_in_office office) o None) row_at ∙ start_at)

-- a running step of this start, which has stopped where its run waits with a code
abbrev pub seen_at : Office → DeskStep → StepStart → TurnStep
seen_at office on start = as_stopped on.code (seen_from office on.run on.progress start)

seen-is : (office : Office) (on : DeskStep) (going : IsGoing office on) → seen_step office on ≡ seen_at office on going.start
seen-is office on going = ap (as_stopped on.code) (seen-so office on.run on.progress going.row going.start going.row_at going.start_at)

pub stopped-run : (code : Option Code) (step : TurnStep) → (as_stopped code step).run ≡ step.run
stopped-run None step = refl
stopped-run (Some code) step = refl

-- it has come as far
pub stopped-reached : (code : Option Code) (step : TurnStep) → running_reached (as_stopped code step) ≡ running_reached step
stopped-reached None step = refl
stopped-reached (Some code) step = refl

-- where it has no code, its run waits with none
pub stopped-code : (code : Option Code) (step : TurnStep) → step.code ≡ None → (as_stopped code step).code ≡ code
stopped-code None step none = none
stopped-code (Some code) step none = refl

pub record FoundStep (office : Office) (running : List DeskStep) (run : ℕ) (step : TurnStep) : Type 0 where
  pub on : DeskStep
  pub at : find (λ (one : DeskStep). one.run == run) running ≡ Some on
  pub going : IsGoing office on
  pub same : on.run ≡ run
  pub is : step ≡ seen_at office on going.start

pub found-step : (office : Office) (run : ℕ) (running : List DeskStep) (step : TurnStep) → AllByRecursion (IsGoing office) running → find (λ (step : TurnStep). step.run == run) (map (seen_step office) running) ≡ Some step → FoundStep office running run step
found-step office run [] step going found = absurd (some-not-none step (sym found))
found-step office run (first ∷ rest) step going found =
    let others : List TurnStep = map (seen_step office) rest in
    let sees : seen_step office first ≡ seen_at office first going.0.start = seen-is office first going.0 in
    let its : (first.run == run) ≡ ((seen_step office first).run == run) = sym (ap (λ (s : TurnStep). s.run == run) sees ∙ ap (λ n. n == run) (stopped-run first.code (seen_from office first.run first.progress going.0.start))) in
    bool-cases ((seen_step office first).run == run)
    (λ does. record {
      on = first;
      at = ap (λ b. cond b (Some first) (find (λ (one : DeskStep). one.run == run) rest)) (its ∙ does);
      going = going.0;
      same = equal-true first.run run (its ∙ does);
      is = sym (same_Some _ _ (sym (ap (λ b. cond b (Some (seen_step office first)) (find (λ (step : TurnStep). step.run == run) others)) does) ∙ found)) ∙ sees;
    })
    (λ isnt.
    let later : FoundStep office rest run step = found-step office run rest step going.1 (sym (ap (λ b. cond b (Some (seen_step office first)) (find (λ (step : TurnStep). step.run == run) others)) isnt) ∙ found) in
    record {
      on = later.on;
      at = ap (λ b. cond b (Some first) (find (λ (one : DeskStep). one.run == run) rest)) (its ∙ isnt) ∙ later.at;
      going = later.going;
      same = later.same;
      is = later.is;
    })

-- the running step of a run that has come so far and waits with no code
abbrev pub plain_step : ℕ → StepProgress → DeskStep
plain_step run progress = record { run = run; progress = progress; code = None }

plain-so : (on : DeskStep) (run : ℕ) (progress : StepProgress) → on.run ≡ run → progress_unless on.code on.progress ≡ Some progress → on ≡ plain_step run progress
plain-so on run progress same its = by on.code refl its
  where
    with_parts : ℕ → StepProgress → Option Code → DeskStep
    with_parts n come code = record { run = n; progress = come; code = code }

    by : (code : Option Code) → on.code ≡ code → progress_unless code on.progress ≡ Some progress → on ≡ plain_step run progress
    by None none come = ap (λ n. with_parts n on.progress on.code) same ∙ ap (λ p. with_parts run p on.code) (same_Some on.progress progress come) ∙ ap (with_parts run progress) none
    by (Some code) some come = absurd (some-not-none progress (sym come))

pub progress-found : (running : List DeskStep) (run : ℕ) (progress : StepProgress) → option_map_or (λ (step : DeskStep). progress_unless step.code step.progress) (find (λ (step : DeskStep). step.run == run) running) None ≡ Some progress → find (λ (step : DeskStep). step.run == run) running ≡ Some (plain_step run progress)
progress-found running run progress known =
    option-cases (find (λ (step : DeskStep). step.run == run) running)
    (λ none. absurd (some-not-none progress (sym known ∙ ap (λ (o : Option DeskStep). option_map_or (λ (step : DeskStep). progress_unless step.code step.progress) o None) none)))
    (λ on at.
    at
    ∙ ap (λ (step : DeskStep). Some step)
    (plain-so on run progress (equal-true on.run run (find-passes (λ (step : DeskStep). step.run == run) running on at))
    (sym (ap (λ (o : Option DeskStep). option_map_or (λ (step : DeskStep). progress_unless step.code step.progress) o None) at) ∙ known)))

-- the run of a running step is within its step
pub going-within : (office : Office) (on : DeskStep) (going : IsGoing office on) → IsWithinStep office on.run going.row going.number going.committed going.start
going-within office on going = record {
  row_at = going.row_at;
  on = going.on;
  place = ap (λ (o : Option Place). option_map_or (λ (place : Place). place) o (Before 1)) going.place;
  start_at = going.start_at;
}

-- ---- the lengths that are committed

pub map-same : (f g : Name → ℕ) (outputs : List Name) → ((name : Name) → is_among outputs name ≡ true → f name ≡ g name) → map f outputs ≡ map g outputs
map-same f g [] each = refl
map-same f g (name ∷ outputs) each =
    ap (λ n. n ∷ map f outputs) (each name (or_left (same_name name name) (is_among outputs name) (name-equivalence.refl name)))
    ∙ ap (λ rest. g name ∷ rest) (map-same f g outputs (λ other among. each other (or_right (same_name other name) (is_among outputs other) among)))

kept_by : (content : Content) (table : TableSet) (now : ℕ) → counted content table.set.length ≡ counted content now → table.set.length ≡ length_by content table now
kept_by Plain table now e = e
kept_by Checkpoints table now e = refl

length-kept : (sets : Named TableSet) (library : Library) (name : Name) → AreAlike sets library name → option_map_or (λ (table : TableSet). table.set.length) (entry_at sets name) 0 ≡ length_now library sets name
length-kept sets library name alike =
    by (entry_at sets name) (entry_at library name) alike
  where
    by : (entry : Option TableSet) (other : Option LibrarySet) → option_map table_shape entry ≡ option_map set_shape other → option_map_or (λ (table : TableSet). table.set.length) entry 0 ≡ option_map_or (λ (table : TableSet). length_by table.set.content table (length (option_map_or (λ (set : LibrarySet). set.records) other []))) entry 0
    by None other alike = refl
    by (Some table) None alike = absurd (some-not-none (table_shape table) alike)
    by (Some table) (Some set) alike =
        let shape : table_shape table ≡ set_shape set = same_Some _ _ alike in
        kept_by table.set.content table (length set.records)
        (ap (λ (s : Shape). s.length) shape ∙ ap (λ (s : Shape). counted s.content (length set.records)) (sym shape))

no_fewer : (n : ℕ) → n - n ≡ 0
no_fewer n = omega arith

pub nothing-between : (start : StepStart) (writes : ℕ) → rewrites_nothing start writes writes ≡ true
nothing-between start writes = ap (λ count. list_all (λ write. not (is_in_place write.output)) (take count (drop writes (work_at start).writes))) (no_fewer writes)

module _ (desk : DeskModel) (is : IsDesk desk) (row : RunRow) (number committed : ℕ) (start : StepStart) (held : HoldsStep desk.office row.number row number committed start) where
  -- a run that isn't running has come as far as is committed
  kept-reached : kept_reached (jobs_of desk) row ≡ record { writes = committed; lengths = lengths_at start desk.office.tables.sets committed }
  kept-reached =
      by-holder desk.layout desk.office row.number row number committed start held is.kept
      (λ leg owned running same.
      let writes : writes_in (place_of row) ≡ committed = ap writes_in held.place in
      let sets : Named TableSet = desk.office.tables.sets in
      let lengths : option_map_or (λ owned. lengths_kept row.job.root owned desk.office.tables.sets) (step_of_run row (step_in (place_of row))) [] ≡ lengths_at start desk.office.tables.sets committed =
      ap (λ place. option_map_or (λ owned. lengths_kept row.job.root owned desk.office.tables.sets) (step_of_run row (step_in place)) []) held.place
      ∙ ap (λ (o : Option OwnedStep). option_map_or (λ owned. lengths_kept row.job.root owned desk.office.tables.sets) o []) running.found
      ∙ ap (λ (job : Effective). lengths_kept job.root owned desk.office.tables.sets) (sym (place_so desk.layout desk.office row.number row leg owned number committed is.kept.events running).job)
      ∙ map-same (λ name. option_map_or (λ (table : TableSet). table.set.length) (entry_at desk.office.tables.sets name) 0) (length_now (within_at (its_start leg owned number) committed) desk.office.tables.sets) (output_names leg.job.root owned)
      (λ name among. length-kept desk.office.tables.sets (within_at (its_start leg owned number) committed) name
      (alike_within desk.layout desk.office row.number row leg owned number committed is.kept.events running name
      (in_reach desk.layout desk.office row.number row leg owned number committed is.kept.events running name (outputs-among leg.job.root owned name among))))
      ∙ ap (λ start. lengths_at start desk.office.tables.sets committed) (sym same) in
      ap (λ w. let reached : CodePlaceModel = record { writes = w; lengths = (kept_reached (jobs_of desk) row).lengths } in reached) writes
      ∙ ap (λ l. let reached : CodePlaceModel = record { writes = committed; lengths = l } in reached) lengths)

  -- what holds wherever its step may have come to, holds of how far it has come
  pub by-reached : (P : CodePlaceModel → Type 0) → ((to : ℕ) → committed ≤ to → to ≤ length (work_at start).writes → rewrites_nothing start committed to ≡ true → P (record { writes = to; lengths = lengths_at start desk.office.tables.sets to })) → P (reached_by (jobs_of desk) row)
  by-reached P each =
      option-cases (running_in (jobs_of desk) row.number)
      (λ none. subst P (sym (ap (λ (o : Option TurnStep). option_map_or running_reached o (kept_reached (jobs_of desk) row)) none ∙ kept-reached))
      (each committed (omega arith)
      (by-holder desk.layout desk.office row.number row number committed start held is.kept
      (λ leg owned running same.
      subst (λ s. committed ≤ length (work_at s).writes) (sym same) (under_way desk.layout desk.office row.number row leg owned number committed is.kept.events running).done))
      (nothing-between start committed)))
      (λ step some.
      let found : FoundStep desk.office desk.running row.number step = found-step desk.office row.number desk.running step is.going some in
      let its : IsWithinStep desk.office found.on.run found.going.row found.going.number found.going.committed found.going.start = going-within desk.office found.on found.going in
      let mine : found.going.row ≡ row = same_Some _ _ (sym found.going.row_at ∙ ap (run_of desk.office.tables) found.same ∙ held.row_at) in
      let begun : found.going.start ≡ start = same_Some _ _ (sym found.going.start_at ∙ ap (start_in_office desk.office) mine ∙ held.start_at) in
      let behind : found.going.committed ≡ committed = ap writes_in (sym its.place ∙ ap place_of mine ∙ held.place) in
      subst P (sym (ap (λ (o : Option TurnStep). option_map_or running_reached o (kept_reached (jobs_of desk) row)) some ∙ ap running_reached found.is ∙ stopped-reached found.on.code (seen_from desk.office found.on.run found.on.progress found.going.start) ∙ ap (λ s. running_reached (seen_from desk.office found.on.run found.on.progress s)) begun))
      (each found.on.progress.writes
      (subst (λ n. n ≤ found.on.progress.writes) behind found.going.behind)
      (subst (λ s. found.on.progress.writes ≤ length (work_at s).writes) begun found.going.fit)
      (subst (λ n. rewrites_nothing start n found.on.progress.writes ≡ true) behind (subst (λ s. rewrites_nothing s found.going.committed found.on.progress.writes ≡ true) begun found.going.plain))))

  -- where it goes: it may end by the rule that denies its restart, or by that of the operator, or be held
  module _ (goes : may_go row ≡ true) (code : Code) where
    pub reached-comes : (rule : Rule) → may_end rule (verdict_for desk.layout row code) ≡ true → Comes desk (EndedEvent row.number (CodedEnding code (rule_number rule) (reached_by (jobs_of desk) row).writes (record { items = (reached_by (jobs_of desk) row).lengths })))
    reached-comes rule first =
        by-reached (λ reached. Comes desk (EndedEvent row.number (CodedEnding code (rule_number rule) reached.writes (record { items = reached.lengths }))))
        (λ to behind fit plain. coded-comes desk is row.number row number committed start held to behind fit plain goes code rule first)

    pub reached-holds : Comes desk (HeldEvent row.number code (reached_by (jobs_of desk) row).writes (record { items = (reached_by (jobs_of desk) row).lengths }))
    reached-holds =
        by-reached (λ reached. Comes desk (HeldEvent row.number code reached.writes (record { items = reached.lengths })))
        (λ to behind fit plain. held-comes desk is row.number row number committed start held to behind fit plain goes code)
