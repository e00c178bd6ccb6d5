-- What the running step of a desk has under its names, behind any of its writes.
use Rattle.std.proofs.Common.{◌≡◌, ◌≤◌, ℕ, Bool, true, false, List, [], ◌∷◌, length, take, cond, refl, ap, sym, ◌∙◌, subst, Option, Some, None}
use Rattle.std.specs.Option.{option_map}
use Rattle.std.proofs.lemmas.Option.{same_Some}
use Rattle.ckr_base.specs.declared.programs.Output.{Output}
use Rattle.ckr_base.specs.declared.programs.Output.TheVariants.{Main, Rejects, InPlace}
use Rattle.ckr_base.specs.declared.programs.Write.{Write}
use Rattle.ckr_base.proofs.Options.{option_map-cond, some-not-none}
use Rattle.ckr_desk_turn.proofs.Units.Outputs.{distinct-job, distinct-step, within_at-parts}
use Rattle.ckr_desk_turn.proofs.RunningSteps.{going-within}
use Rattle.ckr_desk_turn.proofs.NextEvents.WithinStep.{by-step}
use Rattle.ckr_desk_turn.specs.Invariant.{IsDesk, IsGoing}
use Rattle.ckr_desk_refines.proofs.Durable.SharedSets.{in-step}
use Rattle.ckr_desk_refines.specs.SharedSets.{IsInStep}
use Rattle.ckr_library.specs.declared.sets.Content.{Content}
use Rattle.ckr_library.specs.NameMaps.{Name, same_name, entry_at}
use Rattle.ckr_library.proofs.Named.{at-with_changed, each-at}
use Rattle.ckr_meaning.proofs.Room.{at-within, within_at-within}
use Rattle.ckr_meaning.specs.declared.place.Place.TheVariants.{Before}
use Rattle.ckr_meaning.specs.Dispositions.{Stock}
use Rattle.ckr_meaning.specs.EffectiveJob.{OwnedStep, is_among, names_of}
use Rattle.ckr_meaning.specs.LibrarySet.{AreWithinSpace, IsWithinSpace, Library, LibrarySet}
use Rattle.ckr_meaning.specs.StepRun.{StepStart, changed_in, made_at, output_name, within_at, work_at, written_all, written_one, written_set}
use Rattle.ckr_points.specs.Office.{Leg}
use Rattle.ckr_points.specs.Rows.{TableSet}
use Rattle.ckr_points_invariant.proofs.Steps.Commits.{alike_within, formed_step, in_reach, place_so}
use Rattle.ckr_points_invariant.proofs.Stamps.Tables.{alike_set}
use Rattle.ckr_points_invariant.proofs.Steps.Walks.{at-before}
use Rattle.ckr_points_invariant.specs.Invariant.{Shape, table_shape}
use Rattle.ckr_points_invariant.specs.RunningSteps.{IsRunning, its_start}
use Rattle.ckr_desk_turn.specs.Desk.{DeskModel, DeskStep}

-- ---- no write changes what a data set is for

abbrev pub content_at : Library → Name → Option Content
content_at library name = option_map (λ (set : LibrarySet). set.content) (entry_at library name)

chosen : (b : Bool) (content : Option Content) → cond b content content ≡ content
chosen true content = refl
chosen false content = refl

unchanged : (change : LibrarySet → LibrarySet) → ((set : LibrarySet) → (change set).content ≡ set.content) → (entry : Option LibrarySet) → option_map (λ (set : LibrarySet). set.content) (option_map change entry) ≡ option_map (λ (set : LibrarySet). set.content) entry
unchanged change same None = refl
unchanged change same (Some set) = ap Some (same set)

changed-content : (name : Name) (to : Option Name) (change : LibrarySet → LibrarySet) → ((set : LibrarySet) → (change set).content ≡ set.content) → (library : Library) → content_at (changed_in to change library) name ≡ content_at library name
changed-content name None change same library = refl
changed-content name (Some to) change same library =
    ap (option_map (λ (set : LibrarySet). set.content)) (at-with_changed to name change library)
    ∙ option_map-cond (λ (set : LibrarySet). set.content) (same_name name to) _ _
    ∙ ap (λ entry. cond (same_name name to) entry (content_at library name)) (unchanged change same (entry_at library name))
    ∙ chosen (same_name name to) (content_at library name)

set-content : (start : StepStart) (output : Output) (image : List ℕ) (set : LibrarySet) → (written_set start output image set).content ≡ set.content
set-content start Main image set = refl
set-content start Rejects image set = refl
set-content start (InPlace place) image set = refl

written-content : (start : StepStart) (write : Write) (library : Library) (name : Name) → content_at (written_one start write library) name ≡ content_at library name
unfolding written_one
written-content start write library name = changed-content name (output_name start write.output) (written_set start write.output write.image) (set-content start write.output write.image) library

all-content : (start : StepStart) (writes : List Write) (library : Library) (name : Name) → content_at (written_all start writes library) name ≡ content_at library name
all-content start [] library name = refl
all-content start (write ∷ writes) library name = all-content start writes (written_one start write library) name ∙ written-content start write library name

pub within-content : (start : StepStart) (writes : ℕ) (name : Name) → content_at (within_at start writes) name ≡ content_at (made_at start) name
within-content start writes name =
    ap (λ library. content_at library name) (within_at-parts start writes) ∙ all-content start (take writes (work_at start).writes) (made_at start) name

content-set : (entry : Option LibrarySet) (content : Content) → option_map (λ (set : LibrarySet). set.content) entry ≡ Some content → (set : LibrarySet) × (entry ≡ Some set) × (set.content ≡ content)
content-set None content e = absurd (some-not-none content (sym e))
content-set (Some set) content e = (set, refl, same_Some set.content content e)

-- ---- a running step

module _ (desk : DeskModel) (is : IsDesk desk) (step : DeskStep) (going : IsGoing desk.office step) where
  pub in-its-step : (leg : Leg) × IsInStep desk.office step.run going.row leg going.start going.committed
  in-its-step =
      by-step desk is step.run going.row going.number going.committed going.start (going-within desk.office step going)
      (λ leg owned running same spaced.
      (leg, subst (λ (s : StepStart). IsInStep desk.office step.run going.row leg s going.committed) (sym same) (in-step desk.layout desk.office step.run going.row leg owned going.number going.committed is.kept running)))

  -- what a data set is for, as the step's data sets are made, is what the tables have
  pub made-content : (name : Name) (table : TableSet) → is_among (names_of going.start.root going.start.owned) name ≡ true → entry_at desk.office.tables.sets name ≡ Some table → content_at (made_at going.start) name ≡ Some table.set.content
  made-content name table among e =
      by-step desk is step.run going.row going.number going.committed going.start (going-within desk.office step going)
      (λ leg owned running same spaced.
      subst (λ (s : StepStart). content_at (made_at s) name ≡ Some table.set.content) (sym same)
      (its leg owned running (subst (λ (s : StepStart). is_among (names_of s.root s.owned) name ≡ true) same among)))
    where
      its : (leg : Leg) (owned : OwnedStep) → IsRunning desk.office step.run going.row leg owned going.number going.committed → is_among (names_of leg.job.root owned) name ≡ true → content_at (made_at (its_start leg owned going.number)) name ≡ Some table.set.content
      its leg owned running named =
          let alike = alike_within desk.layout desk.office step.run going.row leg owned going.number going.committed is.kept.events running name (in_reach desk.layout desk.office step.run going.row leg owned going.number going.committed is.kept.events running name named) in
          let was = alike_set table (entry_at (within_at (its_start leg owned going.number) going.committed) name) (ap (option_map table_shape) (sym e) ∙ alike) in
          sym (within-content (its_start leg owned going.number) going.committed name)
          ∙ ap (option_map (λ (set : LibrarySet). set.content)) was.1
          ∙ ap (λ (shape : Shape). Some shape.content) (sym was.2)

  -- the data set behind some writes
  pub model-at : (writes : ℕ) (name : Name) (table : TableSet) → is_among (names_of going.start.root going.start.owned) name ≡ true → entry_at desk.office.tables.sets name ≡ Some table
      → (set : LibrarySet) × (entry_at (within_at going.start writes) name ≡ Some set) × (set.content ≡ table.set.content)
  model-at writes name table among e =
      content-set (entry_at (within_at going.start writes) name) table.set.content (within-content going.start writes name ∙ made-content name table among e)

  -- its records have space
  pub model-spaced : (writes : ℕ) (name : Name) (set : LibrarySet) → entry_at (within_at going.start writes) name ≡ Some set → length set.records ≤ set.space
  model-spaced writes name set e =
      by-step desk is step.run going.row going.number going.committed going.start (going-within desk.office step going)
      (λ leg owned running same spaced.
      each-at IsWithinSpace (within_at (its_start leg owned going.number) writes)
      (within_at-within (its_start leg owned going.number) (distinct-step leg.job.root owned (formed_step desk.layout desk.office step.run going.row leg owned going.number going.committed is.kept.events running)) writes
      (subst (λ (standing : Stock LibrarySet). AreWithinSpace standing.sets) (at-before leg.job leg.start going.number)
      (at-within leg.job leg.start (Before going.number) (distinct-job leg.job (place_so desk.layout desk.office step.run going.row leg owned going.number going.committed is.kept.events running).formed) spaced)))
      name set (subst (λ (s : StepStart). entry_at (within_at s writes) name ≡ Some set) same e))
