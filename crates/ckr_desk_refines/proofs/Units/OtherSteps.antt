-- Under a unit of a running step the running step of another run stays.
use Rattle.std.proofs.Common.{◌≡◌, ◌≢◌, ◌≤◌, ℕ, true, List, length, refl, ap, sym, ◌∙◌, subst, Some, arith}
use Rattle.std.proofs.lemmas.Option.{same_Some}
use Rattle.ckr_desk_memory.specs.View.{RunningStepView}
use Rattle.ckr_desk_turn.specs.Invariant.{IsDesk, IsGoing}
use Rattle.ckr_desk_refines.proofs.Durable.SharedSets.{shared-long}
use Rattle.ckr_desk_refines.proofs.Durable.Units.{others-shown}
use Rattle.ckr_desk_refines.specs.SharedSets.{IsShared}
use Rattle.ckr_desk_refines.specs.StepSets.{LiesThere}
use Rattle.ckr_library.specs.Catalog.{set_of}
use Rattle.ckr_library.specs.declared.sets.Content.{Content}
use Rattle.ckr_library.specs.declared.sets.Content.TheVariants.{Plain, Checkpoints}
use Rattle.ckr_library.specs.declared.sets.DataSet.{DataSet}
use Rattle.ckr_library.specs.NameMaps.{Name, entry_at}
use Rattle.ckr_library.proofs.Named.{each-at}
use Rattle.ckr_meaning.specs.EffectiveJob.{is_among, names_of}
use Rattle.ckr_meaning.specs.StepRun.{StepStart, within_at}
use Rattle.ckr_points.specs.Office.{Office}
use Rattle.ckr_points.specs.Rows.{TableSet}
use Rattle.ckr_desk_refines.specs.Standing.{StandsForStep}
use Rattle.ckr_steps.specs.Writes.{IsShown, Keeps}
use Rattle.ckr_desk_turn.specs.Desk.{DeskModel, DeskStep}
use Rattle.ckr_volumes.specs.declared.layout.Layout.{Layout}
use Rattle.ckr_volumes.specs.Layouts.{StandsIn}
use Rattle.ckr_desk_refines.proofs.Units.Contents.{in-its-step, model-at, model-spaced}
use Rattle.ckr_points.specs.Payload.{start_in_office}

-- the step that stands in memory is that of its run
pub same-start : (layout : Layout) (office : Office) (image : List ℕ) (on : RunningStepView) (step : DeskStep) (going : IsGoing office step) (stands : StandsForStep layout office image on step) → going.start ≡ stands.start
same-start layout office image on step going stands =
    let row : going.row ≡ stands.row = same_Some going.row stands.row (sym going.row_at ∙ stands.row_at) in
    same_Some going.start stands.start (sym going.start_at ∙ ap (start_in_office office) row ∙ stands.start_at)

module _ (desk : DeskModel) (is : IsDesk desk) (image : List ℕ) (on : RunningStepView) (step : DeskStep) (going : IsGoing desk.office step) (stands : StandsForStep desk.layout desk.office image on step) where
  -- a name of its data sets is one of its step's names
  pub named-so : (name : Name) (set : DataSet) → set_of on.sets name ≡ Some set → is_among (names_of going.start.root going.start.owned) name ≡ true
  named-so name set e =
      subst (λ (s : StepStart). is_among (names_of s.root s.owned) name ≡ true) (sym (same-start desk.layout desk.office image on step going stands)) (stands.named name set e)

  fits-table : (name : Name) (table : TableSet) → entry_at desk.office.tables.sets name ≡ Some table → table.set.length ≤ table.set.space
  fits-table name table at = (each-at (λ (table : TableSet). StandsIn desk.layout table.set) desk.office.tables.sets is.kept.events.extents.stand name table at).length_fits

  -- its data sets are no longer than their space
  pub fits-so : (name : Name) (set : DataSet) → set_of on.sets name ≡ Some set → set.length ≤ set.space
  fits-so name set e =
      let from = stands.sets.from name set e in
      by from.0 from.1 from.2 from.0.set.content refl
    where
      by : (table : TableSet) → entry_at desk.office.tables.sets name ≡ Some table → LiesThere table set → (content : Content) → table.set.content ≡ content → set.length ≤ set.space
      by table at lies Plain plain =
          let named : is_among (names_of going.start.root going.start.owned) name ≡ true = named-so name set e in
          let model = model-at desk is step going step.progress.writes name table named at in
          let shown : IsShown (Unit {0}) image desk.layout model.0 on.sets name =
          stands.shows name model.0 (stands.named name set e)
          (subst (λ (s : StepStart). entry_at (within_at s step.progress.writes) name ≡ Some model.0) (same-start desk.layout desk.office image on step going stands) model.1) (model.2 ∙ plain) in
          let same : shown.set ≡ set = same_Some shown.set set (sym shown.is ∙ e) in
          let most : length model.0.records ≤ model.0.space = model-spaced desk is step going step.progress.writes name model.0 model.1 in
          let long : shown.set.length ≡ length model.0.records = shown.shows.length in
          let wide : shown.set.space ≡ model.0.space = shown.shows.space in
          subst (λ (s : DataSet). s.length ≤ s.space) same (omega (arith, most, long, wide))
      by table at lies Checkpoints checks =
          let long : set.length ≡ table.set.length = stands.checked name table set at e checks in
          let wide : set.space ≡ table.set.space = lies.space in
          let most : table.set.length ≤ table.set.space = fits-table name table at in
          omega (arith, long, wide, most)

-- ---- two running steps

module _ (desk : DeskModel) (is : IsDesk desk) (image : List ℕ) (on other : RunningStepView) (step its : DeskStep)
    (going : IsGoing desk.office step) (goes : IsGoing desk.office its)
    (stands : StandsForStep desk.layout desk.office image on step) (keeps_on : StandsForStep desk.layout desk.office image other its) (apart : its.run ≢ step.run) where
  -- a name of both
  shared : (name : Name) (set mine : DataSet) → set_of other.sets name ≡ Some set → set_of on.sets name ≡ Some mine → IsShared desk.office goes.start goes.committed name
  shared name set mine theirs here =
      let runs = in-its-step desk is its goes in
      let fellow = in-its-step desk is step going in
      record {
        number = its.run;
        row = goes.row;
        leg = runs.0;
        runs = runs.1;
        has = named-so desk is image other its goes keeps_on name set theirs;
        other = step.run;
        next = going.row;
        fellow = fellow.0;
        its = going.start;
        done = going.committed;
        goes = fellow.1;
        shares = named-so desk is image on step going stands name mine here;
        apart = apart;
      }

  -- is no longer there than here
  pub no-longer : (name : Name) (set mine : DataSet) → set_of other.sets name ≡ Some set → set_of on.sets name ≡ Some mine → set.length ≤ mine.length
  no-longer name set mine theirs here =
      let from = keeps_on.sets.from name set theirs in
      let mine_from = stands.sets.from name mine here in
      let same : mine_from.0 ≡ from.0 = same_Some mine_from.0 from.0 (sym mine_from.1 ∙ from.1) in
      let long : set.length ≡ from.0.set.length = by from.0 from.1 from.0.set.content refl in
      let least : from.0.set.length ≤ mine.length = subst (λ (t : TableSet). t.set.length ≤ mine.length) same mine_from.2.longer in
      omega (arith, long, least)
    where
      by : (table : TableSet) → entry_at desk.office.tables.sets name ≡ Some table → (content : Content) → table.set.content ≡ content → set.length ≡ table.set.length
      by table at Plain plain =
          let named : is_among (names_of goes.start.root goes.start.owned) name ≡ true = named-so desk is image other its goes keeps_on name set theirs in
          let model = model-at desk is its goes its.progress.writes name table named at in
          let shown : IsShown (Unit {0}) image desk.layout model.0 other.sets name =
          keeps_on.shows name model.0 (keeps_on.named name set theirs)
          (subst (λ (s : StepStart). entry_at (within_at s its.progress.writes) name ≡ Some model.0) (same-start desk.layout desk.office image other its goes keeps_on) model.1) (model.2 ∙ plain) in
          let same : shown.set ≡ set = same_Some shown.set set (sym shown.is ∙ theirs) in
          ap (λ (s : DataSet). s.length) (sym same) ∙ shown.shows.length
          ∙ shared-long desk.layout desk.office goes.start goes.committed its.progress.writes name table model.0 is.kept (shared name set mine theirs here) at plain model.1
      by table at Checkpoints checks = keeps_on.checked name table set at theirs checks

  -- so the other one stays
  pub other-stays : (after : List ℕ) → Keeps desk.layout on.sets image after → StandsForStep desk.layout desk.office after other its
  other-stays after keeps = record {
    row = keeps_on.row;
    row_at = keeps_on.row_at;
    start = keeps_on.start;
    start_at = keeps_on.start_at;
    run = keeps_on.run;
    code = keeps_on.code;
    stands = keeps_on.stands;
    served = keeps_on.served;
    ordered = keeps_on.ordered;
    writes = keeps_on.writes;
    stopped = keeps_on.stopped;
    sets = keeps_on.sets;
    named = keeps_on.named;
    shows =
        others-shown desk.layout desk.office.tables.sets (names_of stands.start.root stands.start.owned) on.sets is.kept.events.extents stands.sets image after keeps
        (Unit {0}) (names_of keeps_on.start.root keeps_on.start.owned) (within_at keeps_on.start its.progress.writes) other.sets keeps_on.sets
        no-longer (fits-so desk is image other its goes keeps_on) keeps_on.shows;
    checked = keeps_on.checked;
  }
