-- A running step in memory beside its leg: its data sets stand in the layout, apart from each other, and have space for their records.
use Rattle.std.proofs.Common.{◌≡◌, ◌≤◌, ◌+◌, ◌-◌, ℕ, true, false, List, length, refl, ap, sym, ◌∙◌, subst, None, Some, arith}
use Rattle.std.specs.Prelude.{IsTrue, nat_lt, sum_by}
use Rattle.std.specs.List.{list_all}
use Rattle.std.specs.Option.{option_map}
use Rattle.std.proofs.lemmas.Option.{same_Some}
use Rattle.ckr_base.specs.declared.programs.NextDue.TheVariants.{Checkpoint}
use Rattle.ckr_desk_turn.specs.Due.{next_due}
use Rattle.ckr_desk_turn.specs.Invariant.{IsDesk, IsGoing}
use Rattle.ckr_desk_turn.proofs.Units.Outputs.{distinct-job, distinct-step}
use Rattle.ckr_desk_turn.proofs.RunningSteps.{going-within}
use Rattle.ckr_desk_turn.proofs.NextEvents.WithinStep.{by-step}
use Rattle.ckr_desk_refines.specs.StepSets.{HasSets, LiesThere}
use Rattle.ckr_library.specs.declared.sets.Content.{Content}
use Rattle.ckr_library.specs.declared.sets.Content.TheVariants.{Plain, Checkpoints}
use Rattle.ckr_library.specs.declared.sets.DataSet.{DataSet}
use Rattle.ckr_library.specs.declared.sets.Part.{Part}
use Rattle.ckr_library.specs.Catalog.{set_of}
use Rattle.ckr_library.specs.NameMaps.{Name, entry_at}
use Rattle.ckr_library.proofs.Named.{each-at}
use Rattle.ckr_meaning.specs.Dispositions.{Stock}
use Rattle.ckr_meaning.specs.EffectiveJob.{OwnedStep, is_among, names_of}
use Rattle.ckr_meaning.specs.LibrarySet.{AreWithinSpace, IsWithinSpace, LibrarySet}
use Rattle.ckr_meaning.specs.StepRun.{StepStart, within_at, work_at, written_all}
use Rattle.ckr_meaning.specs.declared.place.Place.TheVariants.{Before, Within}
use Rattle.ckr_meaning.proofs.WriteSeries.{within_at-more}
use Rattle.ckr_meaning.proofs.Room.{at-within, within_at-within}
use Rattle.ckr_desk_memory.specs.View.{RunningStepView}
use Rattle.ckr_points.specs.Payload.{rewrites_nothing, writes_between, writes_in, start_in_office}
use Rattle.ckr_points.specs.Office.{Leg}
use Rattle.ckr_points.specs.Restart.{place_of, step_in}
use Rattle.ckr_points.specs.Rows.{RunRow, TableSet, step_of_run}
use Rattle.ckr_points_invariant.specs.Invariant.{Shape, set_shape, step_now, table_shape}
use Rattle.ckr_points_invariant.specs.RunningSteps.{IsRunning, its_start}
use Rattle.ckr_points_invariant.proofs.Steps.Commits.{alike_within, formed_step, in_reach, place_so}
use Rattle.ckr_points_invariant.proofs.Stamps.Tables.{alike_set}
use Rattle.ckr_points_invariant.proofs.Steps.Walks.{at-before}
use Rattle.ckr_points_invariant.proofs.Writes.Likeness.{bare, written_all-bare}
use Rattle.ckr_desk_refines.specs.Standing.{StandsForStep}
use Rattle.ckr_desk_refines.proofs.Durable.Units.{apart-there}
use Rattle.ckr_desk_refines.proofs.Standing.Lengths.{bare-set}
use Rattle.ckr_steps.specs.Inputs.{AreStored}
use Rattle.ckr_steps.specs.Places.{ShowsWithin, IsStepPlace}
use Rattle.ckr_steps.specs.Units.{AreServed}
use Rattle.ckr_steps.specs.Writes.{IsShown}
use Rattle.ckr_desk_turn.specs.Desk.{DeskModel, DeskStep}
use Rattle.ckr_base.specs.declared.code.Code.{Code}
use Rattle.ckr_desk_turn.specs.Units.{arrived}
use Rattle.ckr_volumes.specs.declared.layout.Layout.{Layout}
use Rattle.ckr_volumes.specs.Places.{stretches_of_parts}
use Rattle.ckr_volumes.specs.SamePlaces.{SamePlaces, lie_apart_turned}
use Rattle.ckr_volumes.specs.Layouts.{StandsIn, all_apart, is_inside, lie_apart, sums_up}

-- a running step in memory stands where its job comes to, or has stopped with a code, with its leg
pub record IsLedStep (desk : DeskModel) (image : List ℕ) (on : RunningStepView) (step : DeskStep) : Type 0 where
  pub row : RunRow
  pub leg : Leg
  pub owned : OwnedStep
  pub running : IsRunning desk.office step.run row leg owned (step_now row) (writes_in (place_of row))
  pub spaced : AreWithinSpace leg.start
  pub numbered : row.number ≡ step.run
  pub starts : start_in_office desk.office row ≡ Some (its_start leg owned (step_now row))
  pub behind : writes_in (place_of row) ≤ step.progress.writes
  pub fit : step.progress.writes ≤ length (work_at (its_start leg owned (step_now row))).writes
  pub plain : rewrites_nothing (its_start leg owned (step_now row)) (writes_in (place_of row)) step.progress.writes ≡ true
  pub run : on.run ≡ step.run
  pub code : on.code ≡ step.code
  pub stands : on.code ≡ None → IsStepPlace (its_start leg owned (step_now row)) step.progress.taken step.progress.closed on.step on.sets
  pub served : on.code ≡ None → AreServed step.progress.checkpointed step.progress.cancelled on.step.state
  pub ordered : on.code ≡ None → next_due (its_start leg owned (step_now row)) step.progress ≡ Checkpoint → step.progress.cancelled ≡ false
  pub writes : on.step.writes ≡ step.progress.writes
  pub stopped : (code : Code) → on.code ≡ Some code → step.progress ≡ arrived 0 on.step.writes
  pub sets : HasSets desk.office.tables.sets (names_of leg.job.root owned) on.sets
  pub named : (name : Name) (set : DataSet) → set_of on.sets name ≡ Some set → is_among (names_of leg.job.root owned) name ≡ true
  pub shows : ShowsWithin (Unit {0}) image desk.layout (its_start leg owned (step_now row)) step.progress.writes on.sets
  pub checked : (name : Name) (table : TableSet) (set : DataSet) → entry_at desk.office.tables.sets name ≡ Some table → set_of on.sets name ≡ Some set
      → table.set.content ≡ Checkpoints → set.length ≡ table.set.length

pub led-step : (desk : DeskModel) → IsDesk desk → (image : List ℕ) (on : RunningStepView) (step : DeskStep) → IsGoing desk.office step → StandsForStep desk.layout desk.office image on step → IsLedStep desk image on step
led-step desk is image on step going stands =
    let row : going.row ≡ stands.row = same_Some going.row stands.row (sym going.row_at ∙ stands.row_at) in
    let start : going.start ≡ stands.start = same_Some going.start stands.start (sym going.start_at ∙ ap (start_in_office desk.office) row ∙ stands.start_at) in
    by-step desk is step.run going.row going.number going.committed going.start (going-within desk.office step going)
    (λ leg owned running same spaced.
    let now : step_now going.row ≡ going.number = ap step_in running.stands in
    let from : writes_in (place_of going.row) ≡ going.committed = ap writes_in running.stands in
    let mine : going.start ≡ its_start leg owned (step_now going.row) = same ∙ ap (its_start leg owned) (sym now) in
    let its : stands.start ≡ its_start leg owned (step_now going.row) = sym start ∙ mine in
    record {
      row = going.row;
      leg = leg;
      owned = owned;
      running = record {
        holder = running.holder;
        stands = running.stands ∙ sym (ap (λ place. Within (step_in place) (writes_in place)) running.stands);
        found = ap (step_of_run going.row) now ∙ running.found;
      };
      spaced = spaced;
      numbered = is.kept.events.numbered step.run going.row going.row_at;
      starts = going.start_at ∙ ap Some mine;
      behind = subst (λ n. n ≤ step.progress.writes) (sym from) going.behind;
      fit = subst (λ (s : StepStart). step.progress.writes ≤ length (work_at s).writes) mine going.fit;
      plain = ap (λ n. rewrites_nothing (its_start leg owned (step_now going.row)) n step.progress.writes) from ∙ subst (λ (s : StepStart). rewrites_nothing s going.committed step.progress.writes ≡ true) mine going.plain;
      run = stands.run;
      code = stands.code;
      stands = λ none. subst (λ (s : StepStart). IsStepPlace s step.progress.taken step.progress.closed on.step on.sets) its (stands.stands none);
      served = stands.served;
      ordered = λ none. subst (λ (s : StepStart). next_due s step.progress ≡ Checkpoint → step.progress.cancelled ≡ false) its (stands.ordered none);
      writes = stands.writes;
      stopped = stands.stopped;
      sets = subst (λ (s : StepStart). HasSets desk.office.tables.sets (names_of s.root s.owned) on.sets) its stands.sets;
      named = λ name set e. ap (λ (s : StepStart). is_among (names_of s.root s.owned) name) (sym its) ∙ stands.named name set e;
      shows = subst (λ (s : StepStart). ShowsWithin (Unit {0}) image desk.layout s step.progress.writes on.sets) its stands.shows;
      checked = stands.checked;
    })

-- ---- data sets in the same places

pub stands-there : (layout : Layout) (one two : DataSet) → StandsIn layout one → SamePlaces one two → two.space ≡ one.space → two.length ≤ two.space → StandsIn layout two
stands-there layout one two stands same space fits = record {
  volumes_exist = subst (λ (parts : List Part). IsTrue (list_all (λ part. nat_lt part.volume (length layout.volumes.items)) parts)) (sym same.parts) stands.volumes_exist;
  inside =
      subst (λ (lrecl : ℕ). IsTrue (list_all (is_inside layout.volumes.items lrecl) (stretches_of_parts two.parts.items))) (sym same.lrecl)
      (subst (λ (parts : List Part). IsTrue (list_all (is_inside layout.volumes.items one.lrecl) (stretches_of_parts parts))) (sym same.parts) stands.inside);
  apart =
      subst (λ (lrecl : ℕ). IsTrue (all_apart lrecl (stretches_of_parts two.parts.items))) (sym same.lrecl)
      (subst (λ (parts : List Part). IsTrue (all_apart one.lrecl (stretches_of_parts parts))) (sym same.parts) stands.apart);
  parts = subst (λ (parts : List Part). IsTrue (list_all sums_up parts)) (sym same.parts) stands.parts;
  sum = ap (sum_by (λ (part : Part). part.records)) same.parts ∙ stands.sum ∙ sym space;
  length_fits = fits;
  lrecl_above = subst (λ n. 1 ≤ n) (sym same.lrecl) stands.lrecl_above;
  lrecl_below = subst (λ n. n ≤ 256) (sym same.lrecl) stands.lrecl_below;
  space_above = subst (λ n. 1 ≤ n) (sym space) stands.space_above;
  space_below = subst (λ n. n ≤ 1000000) (sym space) stands.space_below;
}

-- where two data sets lie apart, so do two in the same places
pub both-apart : (one two first second : DataSet) → SamePlaces one first → SamePlaces two second → IsTrue (lie_apart one two) → IsTrue (lie_apart first second)
both-apart one two first second here there apart =
    lie_apart_turned second first (apart-there two second first there (lie_apart_turned first two (apart-there one first two here apart)))

-- ---- the data sets of a step

-- the data set that a step's writes leave under a name, beside that of the tables
pub record HasModel (start : StepStart) (writes : ℕ) (name : Name) (table : TableSet) : Type 0 where
  pub set : LibrarySet
  pub at : entry_at (within_at start writes) name ≡ Some set
  pub content : set.content ≡ table.set.content

module _ (desk : DeskModel) (is : IsDesk desk) (image : List ℕ) (on : RunningStepView) (step : DeskStep) (led : IsLedStep desk image on step) where
  abbrev start : StepStart
  start = its_start led.leg led.owned (step_now led.row)

  abbrev from : ℕ
  from = writes_in (place_of led.row)

  abbrev to : ℕ
  to = step.progress.writes

  pub model-at : (name : Name) (table : TableSet) → is_among (names_of led.leg.job.root led.owned) name ≡ true → entry_at desk.office.tables.sets name ≡ Some table → HasModel start to name table
  model-at name table among e =
      let more : from ≤ to = led.behind in
      let going : within_at start to ≡ written_all start (writes_between start from to) (within_at start from) =
      ap (within_at start) (let e : to ≡ from + (to - from) = omega (arith, more) in e) ∙ within_at-more start from (to - from) in
      let alike = alike_within desk.layout desk.office step.run led.row led.leg led.owned (step_now led.row) from is.kept.events led.running name
      (in_reach desk.layout desk.office step.run led.row led.leg led.owned (step_now led.row) from is.kept.events led.running name among) in
      let was = alike_set table (entry_at (within_at start from) name) (ap (option_map table_shape) (sym e) ∙ alike) in
      let its = bare-set (bare (set_shape was.0)) (entry_at (within_at start to) name)
      (ap (λ library. option_map (λ set. bare (set_shape set)) (entry_at library name)) going ∙ written_all-bare start (writes_between start from to) (within_at start from) name led.plain ∙ ap (option_map (λ set. bare (set_shape set))) was.1) in
      record { set = its.0; at = its.1; content = ap (λ (shape : Shape). shape.content) its.2 ∙ ap (λ (shape : Shape). shape.content) (sym was.2) }

  spaced-then : AreWithinSpace (within_at start to)
  spaced-then =
      within_at-within start (distinct-step led.leg.job.root led.owned (formed_step desk.layout desk.office step.run led.row led.leg led.owned (step_now led.row) from is.kept.events led.running)) to
      (subst (λ (standing : Stock LibrarySet). AreWithinSpace standing.sets) (at-before led.leg.job led.leg.start (step_now led.row))
      (at-within led.leg.job led.leg.start (Before (step_now led.row)) (distinct-job led.leg.job (place_so desk.layout desk.office step.run led.row led.leg led.owned (step_now led.row) from is.kept.events led.running).formed) led.spaced))

  table-stands : (name : Name) (table : TableSet) → entry_at desk.office.tables.sets name ≡ Some table → StandsIn desk.layout table.set
  table-stands name table e = each-at (λ (table : TableSet). StandsIn desk.layout table.set) desk.office.tables.sets is.kept.events.extents.stand name table e

  -- no data set is longer than its space
  pub set-fits : (name : Name) (set : DataSet) → set_of on.sets name ≡ Some set → set.length ≤ set.space
  set-fits name set e =
      let its = led.sets.from name set e in
      by its.0 its.1 its.2 its.0.set.content refl
    where
      by : (table : TableSet) → entry_at desk.office.tables.sets name ≡ Some table → LiesThere table set → (content : Content) → table.set.content ≡ content → set.length ≤ set.space
      by table at lies Plain is_plain =
          let model : HasModel start to name table = model-at name table (led.named name set e) at in
          let shown : IsShown (Unit {0}) image desk.layout model.set on.sets name = led.shows name model.set (led.named name set e) model.at (model.content ∙ is_plain) in
          let same : shown.set ≡ set = same_Some shown.set set (sym shown.is ∙ e) in
          let long : set.length ≡ length model.set.records = ap (λ (s : DataSet). s.length) (sym same) ∙ shown.shows.length in
          let room : set.space ≡ model.set.space = ap (λ (s : DataSet). s.space) (sym same) ∙ shown.shows.space in
          let within : length model.set.records ≤ model.set.space = each-at IsWithinSpace (within_at start to) spaced-then name model.set model.at in
          omega (arith, long, room, within)
      by table at lies Checkpoints checks =
          let long : set.length ≡ table.set.length = led.checked name table set at e checks in
          let room : set.space ≡ table.set.space = lies.space in
          let within : table.set.length ≤ table.set.space = (table-stands name table at).length_fits in
          omega (arith, long, room, within)

  -- each stands in the layout, and they lie apart
  pub are-stored : AreStored desk.layout on.sets
  are-stored = record {
    stands = λ name set e.
        let its = led.sets.from name set e in
        stands-there desk.layout its.0.set set (table-stands name its.0 its.1) its.2.places its.2.space (set-fits name set e);
    apart = λ one other first second apart e f.
        let its = led.sets.from one first e in
        let next = led.sets.from other second f in
        both-apart its.0.set next.0.set first second its.2.places next.2.places (is.kept.events.extents.apart one other its.0 next.0 apart its.1 next.1);
  }
