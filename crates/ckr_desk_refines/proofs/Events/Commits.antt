-- What an image has of the running steps and of the committed writes, behind an event.
use Rattle.std.proofs.Common.{◌≡◌, ℕ, List, refl, ap, sym, ◌∙◌, subst, Option, Some, None}
use Rattle.std.specs.Prelude.{◌==◌}
use Rattle.std.specs.Option.{option_map, option_map_or}
use Rattle.std.proofs.lemmas.Option.{same_Some}
use Rattle.ckr_base.specs.declared.code.Code.{Code}
use Rattle.ckr_base.proofs.Options.{option-cases}
use Rattle.ckr_desk_turn.specs.Invariant.{IsDesk}
use Rattle.ckr_desk_turn.proofs.RunningSteps.{FoundStep, found-step}
use Rattle.ckr_desk_turn.proofs.NextEvents.Holders.{HoldsStep, by-holder}
use Rattle.ckr_desk_refines.specs.Commits.{HasCommitted, HasWithin, HasWithinRun}
use Rattle.ckr_desk_refines.proofs.Durable.Start.{none-long}
use Rattle.ckr_desk_refines.proofs.Durable.Stamps.{as-office}
use Rattle.ckr_desk_refines.proofs.Durable.Units.{within-shown}
use Rattle.ckr_library.specs.declared.sets.Content.TheVariants.{Plain}
use Rattle.ckr_library.specs.NameMaps.{Name, entry_at}
use Rattle.ckr_library.proofs.Named.{each-at}
use Rattle.ckr_meaning.specs.Dispositions.{Stock}
use Rattle.ckr_meaning.specs.EffectiveJob.{OwnedStep}
use Rattle.ckr_meaning.specs.LibrarySet.{LibrarySet}
use Rattle.ckr_meaning.specs.JobRun.{at}
use Rattle.ckr_meaning.specs.StepRun.{StepStart, within_at}
use Rattle.ckr_points.specs.Payload.{writes_in, start_in_office}
use Rattle.ckr_points.specs.Office.{Leg, Office}
use Rattle.ckr_points.specs.Restart.{place_of}
use Rattle.ckr_points.specs.Rows.{RunRow, TableSet}
use Rattle.ckr_points_invariant.specs.Invariant.{HasBegun, IsKept, Shape, set_shape, table_shape}
use Rattle.ckr_points_invariant.specs.RunningSteps.{IsRunning, its_start}
use Rattle.ckr_points_invariant.proofs.Steps.Commits.{alike_within, found_leg, in_reach, place_so}
use Rattle.ckr_points_invariant.proofs.Stamps.Tables.{reached-now}
use Rattle.ckr_points_invariant.proofs.Steps.Walks.{at-within}
use Rattle.ckr_desk_refines.specs.Moves.{HasSameRecords}
use Rattle.ckr_desk_refines.specs.Standing.{AllStand, StandsForStep}
use Rattle.ckr_desk_memory.specs.View.{RunningStepView}
use Rattle.ckr_desk_turn.specs.Codes.{kept_reached, reached_by, running_reached}
use Rattle.ckr_desk_turn.specs.Desk.{DeskModel, DeskStep, jobs_of, seen_from}
use Rattle.ckr_desk_turn.specs.Jobs.{TurnStep, as_stopped, running_in}
use Rattle.ckr_volumes.specs.declared.layout.Layout.{Layout}
use Rattle.ckr_volumes.specs.Records.{records_on}
use Rattle.ckr_volumes.specs.Layouts.{StandsIn}
use Rattle.ckr_desk_refines.proofs.Events.OtherSteps.{StandsFor, found-stands}

-- what is committed stands on each image that has the same records
pub committed-moves : (layout : Layout) (office : Office) (before image : List ℕ) → IsKept layout office → HasSameRecords layout before image → HasCommitted layout office before → HasCommitted layout office image
committed-moves layout office before image kept same had name table e plain =
    same table.set table.set.length stands stands.length_fits ∙ had name table e plain
  where
    stands : StandsIn layout table.set
    stands = each-at (λ (table : TableSet). StandsIn layout table.set) office.tables.sets kept.events.extents.stand name table e

-- a data set that a running step has begins what the step of its stamp writes
pub within-begun : (layout : Layout) (office : Office) (number : ℕ) (row : RunRow) (leg : Leg) (owned : OwnedStep) (step writes : ℕ) → IsKept layout office → IsRunning office number row leg owned step writes → (name : Name) (set : LibrarySet) → entry_at (within_at (its_start leg owned step) writes) name ≡ Some set → HasBegun office name set
within-begun layout office number row leg owned step writes kept running name set e =
    kept.stamps.places number leg (place_of row) running.holder.leg_at (reached-now office.tables row leg (place_so layout office number row leg owned step writes kept.events running)) name set
    (ap (λ library. entry_at library name)
    (ap (λ (standing : Stock LibrarySet). standing.sets) (ap (at leg.job leg.start) running.stands) ∙ at-within leg.job leg.start step writes owned (found_leg layout office number row leg owned step writes kept.events running)) ∙ e)

-- a step has written what is committed of it
pub place-within : (desk : DeskModel) (is : IsDesk desk) (run : ℕ) (row : RunRow) (number committed : ℕ) (start : StepStart) → HoldsStep desk.office run row number committed start → (image : List ℕ) → HasCommitted desk.layout desk.office image → HasWithin desk.layout desk.office.tables.sets start committed image
place-within desk is run row number committed start within image had =
    by-holder desk.layout desk.office run row number committed start within is.kept
    (λ leg owned running same.
    subst (λ s. HasWithin desk.layout desk.office.tables.sets s committed image) (sym same)
    (λ name table set among e there plain.
    let alike = alike_within desk.layout desk.office run row leg owned number committed is.kept.events running name (in_reach desk.layout desk.office run row leg owned number committed is.kept.events running name among) in
    let shape : table_shape table ≡ set_shape set = same_Some _ _ (ap (option_map table_shape) (sym e) ∙ alike ∙ ap (option_map set_shape) there) in
    let here : table.set.content ≡ Plain = ap (λ (s : Shape). s.content) shape ∙ plain in
    ap (λ (n : ℕ). records_on image desk.layout table.set n) (sym (none-long table set shape here))
    ∙ had name table e here
    ∙ as-office desk.layout desk.office name table set is.kept e here shape (within-begun desk.layout desk.office run row leg owned number committed is.kept running name set there)))

-- a running step in memory has written what its job has
pub stands-within : (layout : Layout) (office : Office) (image : List ℕ) (on : RunningStepView) (step : DeskStep) → StandsForStep layout office image on step → HasWithinRun layout office step.run step.progress.writes image
stands-within layout office image on step stands row start row_at start_at =
    let mine : stands.row ≡ row = same_Some stands.row row (sym stands.row_at ∙ row_at) in
    subst (λ (s : StepStart). HasWithin layout office.tables.sets s step.progress.writes image) (same_Some stands.start start (sym stands.start_at ∙ ap (start_in_office office) mine ∙ start_at))
    (within-shown (Unit {0}) image layout office.tables.sets stands.start step.progress.writes on.sets tt stands.sets stands.shows)

-- a step that has stopped has made its writes
pub stopped-writes : (code : Option Code) (step : TurnStep) → (as_stopped code step).writes ≡ step.writes
stopped-writes None step = refl
stopped-writes (Some code) step = refl

module _ (desk : DeskModel) (is : IsDesk desk) (image : List ℕ) (seen : List RunningStepView) (all : AllStand desk.layout desk.office image seen desk.running) where
  pub running-written : (run : ℕ) (step : TurnStep) → running_in (jobs_of desk) run ≡ Some step → HasWithinRun desk.layout desk.office run step.writes image
  running-written run step some =
      let found : FoundStep desk.office desk.running run step = found-step desk.office run desk.running step is.going some in
      let its : StandsFor desk.layout desk.office image found.on = found-stands desk.layout desk.office image (λ (one : DeskStep). one.run == run) seen desk.running found.on all found.at in
      subst (λ n. HasWithinRun desk.layout desk.office n step.writes image) found.same
      (subst (λ n. HasWithinRun desk.layout desk.office found.on.run n image) (sym (stopped-writes found.on.code (seen_from desk.office found.on.run found.on.progress found.going.start)) ∙ ap (λ (s : TurnStep). s.writes) (sym found.is))
      (stands-within desk.layout desk.office image its.on found.on its.stands))

  -- a run within a step, on its initiator or off it, has written what it has come to
  pub reached-written : HasCommitted desk.layout desk.office image → (run : ℕ) (row : RunRow) (number committed : ℕ) (start : StepStart) → HoldsStep desk.office run row number committed start → HasWithinRun desk.layout desk.office run (reached_by (jobs_of desk) row).writes image
  reached-written had run row number committed start within =
      option-cases (running_in (jobs_of desk) row.number)
      (λ none.
      subst (λ n. HasWithinRun desk.layout desk.office run n image)
      (sym (ap (λ (o : Option TurnStep). (option_map_or running_reached o (kept_reached (jobs_of desk) row)).writes) none ∙ ap writes_in within.place))
      (λ other its row_at start_at.
      let mine : row ≡ other = same_Some row other (sym within.row_at ∙ row_at) in
      subst (λ (s : StepStart). HasWithin desk.layout desk.office.tables.sets s committed image) (same_Some start its (sym within.start_at ∙ ap (start_in_office desk.office) mine ∙ start_at))
      (place-within desk is run row number committed start within image had)))
      (λ step some.
      subst (λ n. HasWithinRun desk.layout desk.office run n image) (sym (ap (λ (o : Option TurnStep). (option_map_or running_reached o (kept_reached (jobs_of desk) row)).writes) some))
      (subst (λ n. HasWithinRun desk.layout desk.office n step.writes image) (is.kept.events.numbered run row within.row_at) (running-written row.number step some)))
