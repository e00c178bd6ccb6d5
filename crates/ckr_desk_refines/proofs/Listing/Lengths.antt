-- The lengths that running steps in memory have under a name are those of their jobs.
use Rattle.std.proofs.Common.{◌≡◌, ◌≤◌, ℕ, max, Bool, true, false, cond, List, [], ◌∷◌, length, refl, ap, sym, ◌∙◌, subst, arith, Option, Some, None, ◌+◌, ◌-◌}
use Rattle.std.specs.List.{AllByRecursion}
use Rattle.std.specs.Option.{option_map, option_map_or}
use Rattle.std.proofs.lemmas.Bool.{false≢true}
use Rattle.std.proofs.lemmas.Option.{same_Some}
use Rattle.ckr_desk_memory.specs.View.{RunningStepView, length_in}
use Rattle.ckr_desk_turn.specs.Invariant.{IsDesk, IsGoing}
use Rattle.ckr_desk_turn.proofs.RunningSteps.{going-within}
use Rattle.ckr_desk_turn.proofs.NextEvents.WithinStep.{by-step}
use Rattle.ckr_library.specs.declared.sets.Content.TheVariants.{Plain}
use Rattle.ckr_library.specs.declared.sets.DataSet.{DataSet}
use Rattle.ckr_library.specs.Catalog.{Catalog, Holding, set_of}
use Rattle.ckr_library.specs.NameMaps.{Name, entry_at}
use Rattle.ckr_meaning.specs.EffectiveJob.{OwnedStep, is_among, names_of}
use Rattle.ckr_meaning.specs.LibrarySet.{LibrarySet}
use Rattle.ckr_meaning.specs.StepRun.{StepStart, set_records, within_at, written_all}
use Rattle.ckr_meaning.proofs.WriteSeries.{within_at-more}
use Rattle.ckr_points.specs.Payload.{rewrites_nothing, writes_between, start_in_office}
use Rattle.ckr_points.specs.Office.{Leg, Office}
use Rattle.ckr_points.specs.Rows.{RunRow, TableSet}
use Rattle.ckr_points_invariant.specs.Invariant.{Shape, set_shape, table_shape}
use Rattle.ckr_points_invariant.specs.RunningSteps.{IsRunning, its_start}
use Rattle.ckr_points_invariant.proofs.Steps.Commits.{alike_within, in_reach}
use Rattle.ckr_points_invariant.proofs.Stamps.Tables.{alike_set}
use Rattle.ckr_points_invariant.proofs.Writes.Likeness.{bare, written_all-bare}
use Rattle.ckr_desk_refines.specs.Standing.{AllStand, StandsForStep}
use Rattle.ckr_steps.specs.Writes.{IsShown}
use Rattle.ckr_desk_turn.specs.Desk.{DeskModel, DeskStep}
use Rattle.ckr_desk_refines.specs.Lengths.{longest_seen}
use Rattle.ckr_desk_refines.specs.Listing.{length_at, length_in_step, longest}
use Rattle.ckr_desk_refines.proofs.Standing.Lengths.{bare-set, in-sets}

-- ---- the data sets in memory

-- there is none
not-in-sets : (catalog : Catalog) (name : Name) → ((set : DataSet) → set_of catalog name ≡ Some set → ⊥) → length_in catalog.sets name ≡ 0
not-in-sets catalog name none = by (entry_at catalog.sets name) none
  where
    by : (entry : Option Holding) → ((set : DataSet) → option_map (λ (h : Holding). h.set) entry ≡ Some set → ⊥) → option_map_or (λ (holding : Holding). holding.set.length) entry 0 ≡ 0
    by None none = refl
    by (Some held) none = absurd (none held.set refl)

-- ---- the data sets of the job

-- a step has there a data set for records of programs
abbrev HasPlain : StepStart → ℕ → Name → Type 0
HasPlain start writes name = (its : LibrarySet) × (entry_at (within_at start writes) name ≡ Some its) × (its.content ≡ Plain)

module _ (desk : DeskModel) (is : IsDesk desk) (name : Name) (table : TableSet) (found : entry_at desk.office.tables.sets name ≡ Some table) (content : table.set.content ≡ Plain) where
  abbrev office : Office
  office = desk.office

  has-plain : (number : ℕ) (row : RunRow) (leg : Leg) (owned : OwnedStep) (step from to : ℕ) → IsRunning office number row leg owned step from → from ≤ to
      → is_among (names_of leg.job.root owned) name ≡ true → rewrites_nothing (its_start leg owned step) from to ≡ true → HasPlain (its_start leg owned step) to name
  has-plain number row leg owned step from to running behind among plain =
      let start : StepStart = its_start leg owned step in
      let alike = alike_within desk.layout office number row leg owned step from is.kept.events running name (in_reach desk.layout office number row leg owned step from is.kept.events running name among) in
      let was = alike_set table (entry_at (within_at start from) name) (ap (option_map table_shape) (sym found) ∙ alike) in
      let going : within_at start to ≡ written_all start (writes_between start from to) (within_at start from) =
      ap (within_at start) (let e : to ≡ from + (to - from) = omega (arith, behind) in e) ∙ within_at-more start from (to - from) in
      let its = bare-set (bare (set_shape was.0)) (entry_at (within_at start to) name)
      (ap (λ library. option_map (λ set. bare (set_shape set)) (entry_at library name)) going ∙ written_all-bare start (writes_between start from to) (within_at start from) name plain ∙ ap (option_map (λ set. bare (set_shape set))) was.1) in
      (its.0, its.1, ap (λ (shape : Shape). shape.content) its.2 ∙ ap (λ (shape : Shape). shape.content) (sym was.2) ∙ content)

  its-plain : (step : DeskStep) (going : IsGoing office step) → is_among (names_of going.start.root going.start.owned) name ≡ true → HasPlain going.start step.progress.writes name
  its-plain step going among =
      by-step desk is step.run going.row going.number going.committed going.start (going-within office step going)
      (λ leg owned running same spaced.
      subst (λ (s : StepStart). is_among (names_of s.root s.owned) name ≡ true → rewrites_nothing s going.committed step.progress.writes ≡ true → HasPlain s step.progress.writes name) (sym same)
      (λ among plain. has-plain step.run going.row leg owned going.number going.committed step.progress.writes running going.behind among plain) among going.plain)

  -- ---- step by step

  same-length : (image : List ℕ) (on : RunningStepView) (step : DeskStep) → IsGoing office step → StandsForStep desk.layout office image on step → length_in on.sets.sets name ≡ length_in_step office name step
  same-length image on step going stands = by (is_among (names_of stands.start.root stands.start.owned) name) refl ∙ sym started
    where
      started : length_in_step office name step ≡ length_at name step stands.start
      started = ap (λ (o : Option StepStart). option_map_or (length_at name step) o 0) (ap (λ (o : Option RunRow). option_map_or (start_in_office office) o None) stands.row_at ∙ stands.start_at)

      same-row : going.row ≡ stands.row
      same-row = same_Some going.row stands.row (sym going.row_at ∙ stands.row_at)

      same-start : going.start ≡ stands.start
      same-start = same_Some going.start stands.start (sym going.start_at ∙ ap (start_in_office office) same-row ∙ stands.start_at)

      by : (among : Bool) → is_among (names_of stands.start.root stands.start.owned) name ≡ among
          → length_in on.sets.sets name ≡ (cond among (option_map_or (λ set. length (set_records set)) (entry_at (within_at stands.start step.progress.writes) name) 0) 0)
      by false out = not-in-sets on.sets name (λ set there. false≢true (sym out ∙ stands.named name set there))
      by true among =
          let own = stands.sets.each name table among found in
          let its : HasPlain stands.start step.progress.writes name = subst (λ (s : StepStart). is_among (names_of s.root s.owned) name ≡ true → HasPlain s step.progress.writes name) same-start (its-plain step going) among in
          let shown : IsShown (Unit {0}) image desk.layout its.0 on.sets name = stands.shows name its.0 among its.1 its.2 in
          in-sets on.sets name shown.set shown.is ∙ shown.shows.length
          ∙ sym (ap (λ (o : Option LibrarySet). option_map_or (λ set. length (set_records set)) o 0) its.1)

  longest-more : (running : List DeskStep) (most more : ℕ) → longest office name running (max most more) ≡ max (longest office name running most) more
  longest-more [] most more = refl
  longest-more (step ∷ running) most more =
      ap (λ n. max n (length_in_step office name step)) (longest-more running most more)
      ∙ swapped (longest office name running most) more (length_in_step office name step)
    where
      swapped : (a b c : ℕ) → max (max a b) c ≡ max (max a c) b
      swapped a b c = omega arith

  pub longest-so : (image : List ℕ) (seen : List RunningStepView) (running : List DeskStep) → AllByRecursion (IsGoing office) running → AllStand desk.layout office image seen running
      → (most : ℕ) → longest_seen name seen most ≡ longest office name running most
  longest-so image [] [] going all most = refl
  longest-so image [] (step ∷ running) going all most = absurd all
  longest-so image (on ∷ seen) [] going all most = absurd all
  longest-so image (on ∷ seen) (step ∷ running) going all most =
      longest-so image seen running going.1 all.1 (max most (length_in on.sets.sets name))
      ∙ longest-more running most (length_in on.sets.sets name)
      ∙ ap (max (longest office name running most)) (same-length image on step going.0 all.0)
