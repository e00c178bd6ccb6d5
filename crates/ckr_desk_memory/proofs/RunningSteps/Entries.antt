-- A running step behind the entry of its checkpoint goes on as before: its data sets stand where they stood.
use Rattle.std.proofs.Common.{◌≡◌, ◌≤◌, ℕ, Bool, true, false, cond, IsTrue, List, ◌∷◌, find, refl, ap, sym, ◌∙◌, subst, Option, None, Some}
use Rattle.std.specs.Prelude.{if◌then◌else◌, nat_le, nat_lt, IsSomeAnd}
use Rattle.std.specs.List.{AllByRecursion}
use Rattle.std.specs.Option.{option_map, option_map_or}
use Rattle.std.proofs.lemmas.Option.{same_Some}
use Rattle.ckr_base.proofs.Numbers.{nat_le-true, nat_lt-true}
use Rattle.ckr_base.proofs.Options.{some-not-none}
use Rattle.ckr_base.proofs.Sequences.{find-holds}
use Rattle.ckr_library.proofs.Named.{at-with_changed, name-same}
use Rattle.ckr_library.specs.Catalog.{Catalog, Holding, set_of, with_length}
use Rattle.ckr_library.specs.NameMaps.{Name, Named, entry_at, same_name, with_changed}
use Rattle.ckr_library.specs.declared.sets.DataSet.{DataSet}
use Rattle.ckr_points_invariant.proofs.Library.Extents.{stands_as}
use Rattle.ckr_desk_plans.proofs.Counts.{served_counted}
use Rattle.ckr_desk_plans.proofs.Rooms.{there_kept}
use Rattle.ckr_desk_plans.specs.Model.Inputs.{AreStored, AreThere}
use Rattle.ckr_desk_plans.specs.Model.StepUnit.{AreCounted}
use Rattle.ckr_desk_plans.specs.Model.Units.{entries_of}
use Rattle.ckr_desk_plans.specs.StepTypes.StepRun.{StepRun}
use Rattle.ckr_volumes.specs.Layouts.{StandsIn, lie_apart}
use Rattle.ckr_volumes.specs.declared.layout.Layout.{Layout}
use Rattle.ckr_desk_memory.specs.EventChanges.{FirstEnters, HasEntered, IsEntered, has_space, is_of_run, with_entry_end, without_first}
use Rattle.ckr_desk_memory.specs.Plans.{IsAnyCode}
use Rattle.ckr_desk_memory.specs.Invariant.{IsRunnable}
use Rattle.ckr_desk_memory.specs.View.{RunningStepView}
use Rattle.ckr_desk_memory.proofs.RunningSteps.First.{all-without}

abbrev the_set : Holding → DataSet
the_set held = held.set

-- what a data set is behind the entry: it is as before, or has another length within its space
module _ (most : ℕ) (Q : DataSet → Type 0) (owns : Named Holding) (name : Name) (set : DataSet) (as_is : (one : DataSet) → option_map the_set (entry_at owns name) ≡ Some one → Q one)
    (longer : (one : DataSet) → option_map the_set (entry_at owns name) ≡ Some one → most ≤ one.space → Q (record one { length = most })) where
  lengthened_held : (entry : Option Holding) → entry_at owns name ≡ entry → option_map_or (λ (held : Holding). nat_le most held.set.space) entry false ≡ true → option_map the_set (option_map (with_length most) entry) ≡ Some set → Q set
  lengthened_held None at fits is = absurd (some-not-none set (sym is))
  lengthened_held (Some held) at fits is = subst Q (same_Some (with_length most held).set set is) (longer held.set (ap (option_map the_set) at) (nat_le-true most held.set.space fits))

  lengthened_in : (other : Name) → has_space most other owns ≡ true → (among : Bool) → same_name name other ≡ among → option_map the_set (cond among (option_map (with_length most) (entry_at owns name)) (entry_at owns name)) ≡ Some set → Q set
  lengthened_in other fits true same is = lengthened_held (entry_at owns name) refl (ap (λ n. has_space most n owns) (name-same name other same) ∙ fits) is
  lengthened_in other fits false apart is = as_is set is

  by-own : (check : Option Name) → option_map the_set (entry_at (with_entry_end check most owns) name) ≡ Some set → Q set
  by-own None is = as_is set is
  by-own (Some other) is = by (has_space most other owns) refl is
    where
      by : (b : Bool) → has_space most other owns ≡ b → option_map the_set (entry_at (if b then with_changed other (with_length most) owns else owns) name) ≡ Some set → Q set
      by true fits is = lengthened_in other fits (same_name name other) refl (ap (option_map the_set) (sym (at-with_changed other name (with_length most) owns)) ∙ is)
      by false beyond is = as_is set is

-- a data set that was there is there
has_lengthened : (most : ℕ) (among : Bool) (entry : Option Holding) → IsSomeAnd (option_map the_set entry) (λ _. Unit {0}) → IsSomeAnd (option_map the_set (cond among (option_map (with_length most) entry) entry)) (λ _. Unit {0})
has_lengthened most true None has = has
has_lengthened most true (Some held) has = tt
has_lengthened most false entry has = has

has_behind : (check : Option Name) (most : ℕ) (owns : Named Holding) (name : Name) → IsSomeAnd (option_map the_set (entry_at owns name)) (λ _. Unit {0}) → IsSomeAnd (option_map the_set (entry_at (with_entry_end check most owns) name)) (λ _. Unit {0})
has_behind None most owns name has = has
has_behind (Some other) most owns name has = by (has_space most other owns)
  where
    by : (b : Bool) → IsSomeAnd (option_map the_set (entry_at (if b then with_changed other (with_length most) owns else owns) name)) (λ _. Unit {0})
    by true = subst (λ held. IsSomeAnd (option_map the_set held) (λ _. Unit {0})) (sym (at-with_changed other name (with_length most) owns)) (has_lengthened most (same_name name other) (entry_at owns name) has)
    by false = has

module _ (layout : Layout) (check : Option Name) (most : ℕ) (on new : RunningStepView) (entered : IsEntered check most on new) where
  by-set : (Q : DataSet → Type 0) (name : Name) (set : DataSet) → ((one : DataSet) → set_of on.sets name ≡ Some one → Q one) → ((one : DataSet) → set_of on.sets name ≡ Some one → most ≤ one.space → Q (record one { length = most }))
      → set_of new.sets name ≡ Some set → Q set
  by-set Q name set as_is longer is =
      by-own most Q on.sets.sets name set as_is longer check (ap (λ (owns : Named Holding). option_map the_set (entry_at owns name)) (sym entered.sets) ∙ is)

  stored_behind : AreStored layout on.sets → AreStored layout new.sets
  stored_behind stored = record {
    stands = λ name set at.
        by-set (StandsIn layout) name set (stored.stands name) (λ one was fits. stands_as layout (record one { length = most }) one refl refl refl fits (stored.stands name one was)) at;
    apart = λ one other first second different here there.
        by-set (λ set. IsTrue (lie_apart set second)) one first
        (λ mine was. by-set (λ set. IsTrue (lie_apart mine set)) other second (λ next later. stored.apart one other mine next different was later) (λ next later fits. stored.apart one other mine next different was later) there)
        (λ mine was fits. by-set (λ set. IsTrue (lie_apart mine set)) other second (λ next later. stored.apart one other mine next different was later) (λ next later fits. stored.apart one other mine next different was later) there) here;
  }

  pub entered-runnable : IsRunnable layout on → IsRunnable layout new
  entered-runnable runs = record {
    coded = subst IsAnyCode (sym entered.code) runs.coded;
    stored = stored_behind runs.stored;
    there =
        subst (λ (step : StepRun). AreThere step.files new.sets) (sym entered.step)
        (there_kept on.step.files on.sets new.sets
        (λ name has. subst (λ (owns : Named Holding). IsSomeAnd (option_map the_set (entry_at owns name)) (λ _. Unit {0})) (sym entered.sets) (has_behind check most on.sets.sets name has)) runs.there);
    counted =
        subst AreCounted (sym entered.step)
        (served_counted on.step.parm on.step.state on.step.writes (nat_lt (entries_of on.step.state) 1000000) runs.counted (λ few. nat_lt-true (entries_of on.step.state) 1000000 few));
  }

pub entered-all : (layout : Layout) (run : ℕ) (check : Option Name) (most : ℕ) (old new : List RunningStepView) → HasEntered run check most old new → AllByRecursion (IsRunnable layout) old → AllByRecursion (IsRunnable layout) new
entered-all layout run check most old new goes all = by (find (is_of_run run) old) refl goes
  where
    by : (found : Option RunningStepView) → find (is_of_run run) old ≡ found → FirstEnters found run check most old new → AllByRecursion (IsRunnable layout) new
    by None e goes = subst (AllByRecursion (IsRunnable layout)) (sym goes) all
    by (Some on) e goes =
        subst (AllByRecursion (IsRunnable layout)) (sym goes.1)
        (entered-runnable layout check most on goes.0 goes.2 (find-holds (IsRunnable layout) (is_of_run run) old on all e), all-without (IsRunnable layout) run old all)

-- ---- as it is done

-- a data set that is there, and has the space or not
pub space-none : (most : ℕ) (name : Name) (owns : Catalog) → None ≡ set_of owns name → owns.sets ≡ with_entry_end (Some name) most owns.sets
space-none most name owns is = by (entry_at owns.sets name) refl is
  where
    by : (entry : Option Holding) → entry_at owns.sets name ≡ entry → None ≡ option_map the_set entry → owns.sets ≡ with_entry_end (Some name) most owns.sets
    by None at is = ap (λ (o : Option Holding). if option_map_or (λ (held : Holding). nat_le most held.set.space) o false then with_changed name (with_length most) owns.sets else owns.sets) (sym at)
    by (Some held) at is = absurd (some-not-none held.set (sym is))

has-space : (most : ℕ) (name : Name) (owns : Catalog) (set : DataSet) → Some set ≡ set_of owns name → has_space most name owns.sets ≡ nat_le most set.space
has-space most name owns set is = by (entry_at owns.sets name) refl is
  where
    by : (entry : Option Holding) → entry_at owns.sets name ≡ entry → Some set ≡ option_map the_set entry → has_space most name owns.sets ≡ nat_le most set.space
    by None at is = absurd (some-not-none set is)
    by (Some held) at is =
        ap (λ (o : Option Holding). option_map_or (λ (held : Holding). nat_le most held.set.space) o false) at
        ∙ ap (λ (s : DataSet). nat_le most s.space) (sym (same_Some set held.set is))

pub space-beyond : (most : ℕ) (name : Name) (owns : Catalog) (set : DataSet) → Some set ≡ set_of owns name → nat_le most set.space ≡ false → owns.sets ≡ with_entry_end (Some name) most owns.sets
space-beyond most name owns set is beyond = ap (λ b. if b then with_changed name (with_length most) owns.sets else owns.sets) (sym (has-space most name owns set is ∙ beyond))

pub space-within : (most : ℕ) (name : Name) (owns : Catalog) (set : DataSet) → Some set ≡ set_of owns name → nat_le most set.space ≡ true → with_changed name (with_length most) owns.sets ≡ with_entry_end (Some name) most owns.sets
space-within most name owns set is fits = ap (λ b. if b then with_changed name (with_length most) owns.sets else owns.sets) (sym (has-space most name owns set is ∙ fits))

-- the first step of the run, or none
pub entered-some : (run : ℕ) (check : Option Name) (most : ℕ) (old new : List RunningStepView) (on behind : RunningStepView) → find (is_of_run run) old ≡ Some on → new ≡ behind ∷ without_first run old → IsEntered check most on behind → HasEntered run check most old new
entered-some run check most old new on behind found is entered = subst (λ first. FirstEnters first run check most old new) (sym found) (behind, is, entered)

pub entered-none : (run : ℕ) (check : Option Name) (most : ℕ) (old new : List RunningStepView) → find (is_of_run run) old ≡ None → new ≡ old → HasEntered run check most old new
entered-none run check most old new none same = subst (λ first. FirstEnters first run check most old new) (sym none) same
