-- A step that has started stands at its beginning.
use Rattle.std.proofs.Common.{◌≡◌, ◌≤◌, ℕ, Bool, true, false, cond, List, ◌∷◌, refl, ap, sym, ◌∙◌, subst, Option, Some, None, arith}
use Rattle.std.specs.Option.{option_map}
use Rattle.std.proofs.lemmas.Option.{same_Some}
use Rattle.ckr_base.proofs.Options.{option-cases, some-not-none}
use Rattle.arrayvec.specs.ArrayVec.{ArrayVec}
use Rattle.ckr_events.specs.declared.event.Event.TheVariants.{Started}
use Rattle.ckr_events.specs.declared.event.Made.{Made}
use Rattle.ckr_desk_memory.specs.View.{RunningStepView, begun}
use Rattle.ckr_desk_memory.specs.Start.{HasNew, set_in_tables}
use Rattle.ckr_desk_turn.specs.Invariant.{IsDesk, IsGoing}
use Rattle.ckr_desk_turn.proofs.RunningSteps.{going-within}
use Rattle.ckr_desk_turn.proofs.NextEvents.WithinStep.{by-step}
use Rattle.ckr_desk_refines.specs.Commits.{HasCommitted}
use Rattle.ckr_desk_refines.specs.StepSets.{HasSets}
use Rattle.ckr_desk_refines.proofs.Durable.Start.{none-long}
use Rattle.ckr_desk_refines.proofs.Durable.Stamps.{as-office}
use Rattle.ckr_library.specs.declared.sets.Content.TheVariants.{Plain}
use Rattle.ckr_library.specs.declared.sets.DataSet.{DataSet}
use Rattle.ckr_library.specs.Catalog.{set_of}
use Rattle.ckr_library.specs.NameMaps.{Name, Named, entry_at}
use Rattle.ckr_meaning.specs.EffectiveJob.{Effective, OwnedStep, is_among, names_of, placed_in, stamp_of}
use Rattle.ckr_meaning.specs.Allotments.{DdAllotment, opened_all}
use Rattle.ckr_meaning.specs.declared.place.Place.TheVariants.{Within}
use Rattle.ckr_meaning.specs.StepRun.{StepStart, within_at}
use Rattle.ckr_meaning.proofs.WriteSeries.{within_at-none}
use Rattle.ckr_points.specs.Tables.{made_tables, start_point}
use Rattle.ckr_points.specs.Payload.{carries}
use Rattle.ckr_points.specs.Marks.{with_point}
use Rattle.ckr_points.specs.Office.{Leg, Office, office_after}
use Rattle.ckr_points.specs.Restart.{place_of}
use Rattle.ckr_points.specs.Rows.{RunRow, TableSet, run_of, standing_of, step_of_run, table_ways}
use Rattle.ckr_points.specs.Soundness.{may_come}
use Rattle.ckr_points_invariant.specs.Invariant.{AreAlike, IsAgreed, Shape, set_shape, table_shape}
use Rattle.ckr_points_invariant.specs.RunningSteps.{IsRunning, its_start}
use Rattle.ckr_points_invariant.proofs.Steps.Commits.{alike_within, formed_step, in_reach, under_way}
use Rattle.ckr_points_invariant.proofs.Holders.Rows.{run-same}
use Rattle.ckr_points_invariant.proofs.Start.Event.{by-start}
use Rattle.ckr_desk_refines.specs.Standing.{AllStand, StandsForStep}
use Rattle.ckr_steps.specs.declared.files.Files.{Files}
use Rattle.ckr_steps.specs.declared.step_run.StepRun.{StepRun}
use Rattle.ckr_steps.specs.Files.{files_of}
use Rattle.ckr_steps.specs.Places.{HasMade, MayStart, ShowsWithin, IsStepPlace, files_at, names_at}
use Rattle.ckr_steps.specs.Units.{AreServed, first_state}
use Rattle.ckr_steps.proofs.Served.{first-fresh}
use Rattle.ckr_steps.specs.Writes.{Shows}
use Rattle.ckr_steps.proofs.Start.{begins, shows_made}
use Rattle.ckr_desk_turn.specs.Desk.{DeskModel, DeskStep, at_first}
use Rattle.ckr_volumes.specs.declared.layout.Layout.{Layout}
use Rattle.ckr_desk_memory.specs.EventChanges.{without_run}
use Rattle.ckr_desk_refines.proofs.Events.Commits.{within-begun}
use Rattle.ckr_desk_refines.proofs.Events.StartNeeds.{may-start}

-- ---- the place behind its start

pub started-place : (layout : Layout) (now : Office) (job step : ℕ) (items : ArrayVec Made) → IsAgreed layout now → may_come layout now (Started job step items, None) ≡ true → carries layout now (Started job step items) None ≡ true
    → (next : RunRow) → run_of (office_after (Started job step items, None) now).tables job ≡ Some next → place_of next ≡ Within step 0
started-place layout now job step items kept may carried =
    by-start (λ later. (next : RunRow) → run_of later.tables job ≡ Some next → place_of next ≡ Within step 0) layout now job step items None kept may carried
    (λ row leg owned starts next next_at.
    let placed : List DdAllotment = placed_in table_ways (standing_of row now.tables) row.job.root owned in
    let opened : Named TableSet = opened_all table_ways (stamp_of owned step) placed now.tables.sets in
    let put : RunRow = record row { place = Some (Within step 0); points = with_point (start_point row step opened) row.points } in
    ap place_of (sym (same_Some put next
    (sym (run-same (record now.tables { sets = made_tables (stamp_of owned step) items.items placed opened }) put row job starts.holder.row_at (kept.numbered job row starts.holder.row_at)) ∙ next_at))))

-- ---- the step that stands before the others

-- a data set in memory is that of the tables, under a name of the step
record IsInTables (tables : Option TableSet) (among : Bool) (set : DataSet) : Type 0 where
  table : TableSet
  at : tables ≡ Some table
  is : table.set ≡ set
  named : among ≡ true

in-tables : (tables : Option TableSet) (among : Bool) (set : DataSet) → cond among (option_map (λ (table : TableSet). table.set) tables) None ≡ Some set → IsInTables tables among set
in-tables None true set e = absurd (some-not-none set (sym e))
in-tables (Some table) true set e = record { table = table; at = refl; is = same_Some table.set set e; named = refl }
in-tables tables false set e = absurd (some-not-none set (sym e))

module _ (desk : DeskModel) (is : IsDesk desk) (on : DeskStep) (going : IsGoing desk.office on) (image : List ℕ) (committed : HasCommitted desk.layout desk.office image) (old new : List RunningStepView) where
  abbrev run : ℕ
  run = on.run

  abbrev writes : ℕ
  writes = on.progress.writes

  module _ (leg : Leg) (owned : OwnedStep) (running : IsRunning desk.office run going.row leg owned going.number writes) where
    abbrev start : StepStart
    start = its_start leg owned going.number

    root_is : leg.job.root ≡ going.row.job.root
    root_is = ap (λ (job : Effective). job.root) (is.kept.events.places run going.row leg running.holder).job

    named_so : (name : Name) → is_among (names_of going.row.job.root owned) name ≡ is_among (names_of leg.job.root owned) name
    named_so name = ap (λ n. is_among (names_of n owned) name) (sym root_is)

    module _ (same : going.start ≡ its_start leg owned going.number) (place : StepRun) (has : HasNew run going.row.job.root owned place desk.office.tables.sets old new) where
      -- ---- its data sets

      set_there : (name : Name) → is_among (names_of leg.job.root owned) name ≡ true → set_of has.on.sets name ≡ set_in_tables desk.office.tables.sets name
      set_there name among =
          has.sets name ∙ ap (λ b. cond b (set_in_tables desk.office.tables.sets name) None) (named_so name ∙ among)

      table_of : (name : Name) (set : DataSet) → set_of has.on.sets name ≡ Some set → IsInTables (entry_at desk.office.tables.sets name) (is_among (names_of going.row.job.root owned) name) set
      table_of name set own = in-tables (entry_at desk.office.tables.sets name) (is_among (names_of going.row.job.root owned) name) set (sym (has.sets name) ∙ own)

      has_sets : HasSets desk.office.tables.sets (names_of leg.job.root owned) has.on.sets
      has_sets = record {
        from = λ name set own.
            let its : IsInTables (entry_at desk.office.tables.sets name) (is_among (names_of going.row.job.root owned) name) set = table_of name set own in (
              its.table,
              its.at,
              record {
                places = record { parts = ap (λ (s : DataSet). s.parts.items) (sym its.is); lrecl = ap (λ (s : DataSet). s.lrecl) (sym its.is) };
                space = ap (λ (s : DataSet). s.space) (sym its.is);
                longer = subst (λ (s : DataSet). its.table.set.length ≤ s.length) its.is (omega arith);
              },
            );
        each = λ name table among e. (
          table.set,
          set_there name among ∙ ap (option_map (λ (table : TableSet). table.set)) e,
          record { places = record { parts = refl; lrecl = refl }; space = refl; longer = omega arith },
        );
      }

      -- ---- its records

      alike_so : (name : Name) → is_among (names_of leg.job.root owned) name ≡ true → AreAlike desk.office.tables.sets (within_at start writes) name
      alike_so name among =
          alike_within desk.layout desk.office run going.row leg owned going.number writes is.kept.events running name
          (in_reach desk.layout desk.office run going.row leg owned going.number writes is.kept.events running name among)

      pub shows_so : ShowsWithin (Unit {0}) image desk.layout start writes has.on.sets
      shows_so name model among e plain =
          option-cases (entry_at desk.office.tables.sets name)
          (λ none. absurd (some-not-none (set_shape model) (sym (ap (option_map table_shape) (sym none) ∙ alike_so name among ∙ ap (option_map set_shape) e))))
          (λ table at.
          let shape : table_shape table ≡ set_shape model = same_Some _ _ (ap (option_map table_shape) (sym at) ∙ alike_so name among ∙ ap (option_map set_shape) e) in
          let here : table.set.content ≡ Plain = ap (λ (s : Shape). s.content) shape ∙ plain in
          record {
            set = table.set;
            is = set_there name among ∙ ap (option_map (λ (table : TableSet). table.set)) at;
            shows = record {
              lrecl = ap (λ (s : Shape). s.lrecl) shape;
              space = ap (λ (s : Shape). s.space) shape;
              length = none-long table model shape here;
              records = λ told.
                  committed name table at here
                  ∙ as-office desk.layout desk.office name table model is.kept at here shape
                  (within-begun desk.layout desk.office run going.row leg owned going.number writes is.kept running name model e);
            };
          })

      -- ---- its place

      pub files_are : files_at start ≡ files_of going.row.job.root owned.owner owned.step
      files_are = ap (λ n. files_of n owned.owner owned.step) root_is

      pub may-so : MayStart start
      may-so = may-start start (formed_step desk.layout desk.office run going.row leg owned going.number writes is.kept.events running) (under_way desk.layout desk.office run going.row leg owned going.number writes is.kept.events running).flawless

      -- it stands where it is placed
      pub placed-stands : on.code ≡ None → IsStepPlace start on.progress.taken on.progress.closed has.on.step has.on.sets → AreServed on.progress.checkpointed on.progress.cancelled has.on.step.state → on.progress.cancelled ≡ false → has.on.step.writes ≡ writes → StandsForStep desk.layout desk.office image has.on on
      placed-stands uncoded stands served ordered counted = record {
        row = going.row;
        row_at = going.row_at;
        start = start;
        start_at = going.start_at ∙ ap Some same;
        run = has.run;
        code = has.code ∙ sym uncoded;
        stands = λ _. stands;
        served = λ _. served;
        ordered = λ _ due. ordered;
        writes = counted;
        stopped = λ code some. absurd (some-not-none code (sym some ∙ has.code));
        sets = has_sets;
        named = λ name set own. sym (named_so name) ∙ (table_of name set own).named;
        shows = shows_so;
        checked = λ name table set e own content.
            let its : IsInTables (entry_at desk.office.tables.sets name) (is_among (names_of going.row.job.root owned) name) set = table_of name set own in
            ap (λ (s : DataSet). s.length) (sym its.is) ∙ ap (λ (t : TableSet). t.set.length) (same_Some its.table table (sym its.at ∙ e));
      }

-- ---- a step at its beginning

module _ (desk : DeskModel) (is : IsDesk desk) (run : ℕ) (going : IsGoing desk.office (at_first run)) (image : List ℕ) (committed : HasCommitted desk.layout desk.office image) (old new : List RunningStepView) where
  module _ (leg : Leg) (owned : OwnedStep) (running : IsRunning desk.office run going.row leg owned going.number 0) (same : going.start ≡ its_start leg owned going.number)
      (has : HasNew run going.row.job.root owned (begun going.row.job.root owned) desk.office.tables.sets old new) where
    abbrev first : StepStart
    first = its_start leg owned going.number

    made_so : HasMade desk.layout first has.on.sets
    made_so =
        shows_made (Unit {0}) image desk.layout first has.on.sets
        (subst (λ library. Shows (Unit {0}) image desk.layout (names_at first) library has.on.sets) (within_at-none first)
        (shows_so desk is (at_first run) going image committed old new leg owned running same (begun going.row.job.root owned) has))

    stands_so : IsStepPlace first 0 false has.on.step has.on.sets
    stands_so =
        subst (λ (s : StepRun). IsStepPlace first 0 false s has.on.sets)
        (ap (λ (files : Files). (let step : StepRun = record { state = first_state owned.step.program; parm = owned.step.parm; files = files; writes = 0 } in step))
        (files_are desk is (at_first run) going image committed old new leg owned running same (begun going.row.job.root owned) has) ∙ sym has.step)
        (begins desk.layout first (may-so desk is (at_first run) going image committed old new leg owned running same (begun going.row.job.root owned) has) has.on.sets made_so owned.step.parm refl)

    step-stands : StandsForStep desk.layout desk.office image has.on (at_first run)
    step-stands =
        placed-stands desk is (at_first run) going image committed old new leg owned running same (begun going.row.job.root owned) has refl stands_so
        (subst (λ (s : StepRun). AreServed false false s.state) (sym has.step) (first-fresh owned.step.program)) refl
        (ap (λ (s : StepRun). s.writes) has.step)

  -- it stands before the other ones
  pub new-stand : ((owned : OwnedStep) → step_of_run going.row going.number ≡ Some owned → HasNew run going.row.job.root owned (begun going.row.job.root owned) desk.office.tables.sets old new) → (running : List DeskStep) → AllStand desk.layout desk.office image (without_run run old) running → AllStand desk.layout desk.office image new (at_first run ∷ running)
  new-stand starts running rest =
      by-step desk is run going.row going.number going.committed going.start (going-within desk.office (at_first run) going)
      (λ leg owned its same spaced.
      let none : going.committed ≡ 0 = (let low : going.committed ≤ 0 = going.behind in omega (arith, low)) in
      let has : HasNew run going.row.job.root owned (begun going.row.job.root owned) desk.office.tables.sets old new = starts owned its.found in
      subst (λ seen. AllStand desk.layout desk.office image seen (at_first run ∷ running)) (sym has.first)
      (step-stands leg owned (subst (λ n. IsRunning desk.office run going.row leg owned going.number n) none its) same has, rest))
