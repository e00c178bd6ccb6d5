-- What is opened once more is as it was opened, and allocation sees it as before.
use Rattle.std.proofs.Common.{◌≡◌, Bool, true, false, cond, ◌&&◌, List, [], ◌∷◌, refl, ap, sym, ◌∙◌, Option, Some, None, if◌then◌else◌}
use Rattle.std.specs.Option.{option_map, is_none}
use Rattle.ckr_base.proofs.Options.{option_map-cond}
use Rattle.ckr_jcl.specs.declared.deck.Status.{Status}
use Rattle.ckr_jcl.specs.declared.deck.Status.TheVariants.{New, Old, Shr, Mod}
use Rattle.ckr_library.specs.declared.sets.Stamp.{Stamp}
use Rattle.ckr_library.specs.NameMaps.{Name, same_name, entry_at}
use Rattle.ckr_library.proofs.Named.{at-with_changed}
use Rattle.ckr_meaning.specs.LibrarySet.{LibrarySet, Library, record_ways}
use Rattle.ckr_meaning.specs.Allotments.{AllotmentModel, found, made, refused, DdAllotment, is_output, opened_all, opened_by, opened_one}
use Rattle.ckr_meaning.specs.StepRun.{StepStart, opened_at, placed_at, stamp_at}
use Rattle.ckr_points_invariant.specs.Invariant.{Shape, counted, set_shape}
use Rattle.ckr_points_invariant.proofs.StepEnd.Disposals.{none_known}

-- ---- what opening does to a shape

is_old : Status → Bool
is_old New = false
is_old Old = true
is_old Shr = false
is_old Mod = false

opened_shape : Stamp → Bool → Shape → Shape
opened_shape stamp empties shape = record shape { stamp = stamp; length = if empties then counted shape.content 0 else shape.length }

again : (stamp : Stamp) (one other : Bool) (shape : Shape) → opened_shape stamp one (opened_shape stamp other shape) ≡ opened_shape stamp other (opened_shape stamp one shape)
unfolding opened_shape
again stamp true true shape = refl
again stamp true false shape = refl
again stamp false true shape = refl
again stamp false false shape = refl

twice : (stamp : Stamp) (one : Bool) (shape : Shape) → opened_shape stamp one (opened_shape stamp one shape) ≡ opened_shape stamp one shape
unfolding opened_shape
twice stamp true shape = refl
twice stamp false shape = refl

by_status : (stamp : Stamp) (status : Status) (set : LibrarySet) → set_shape (opened_by record_ways stamp status set) ≡ opened_shape stamp (is_old status) (set_shape set)
unfolding is_old opened_shape
by_status stamp New set = refl
by_status stamp Old set = refl
by_status stamp Shr set = refl
by_status stamp Mod set = refl

-- the placed DD opens the name
opens : Name → DdAllotment → AllotmentModel → Bool → Bool
opens name placed found output = output && same_name name placed.name
opens name placed made output = false
opens name placed (refused flaw) output = false

abbrev step_shape : Stamp → Bool → Bool → Option Shape → Option Shape
step_shape stamp opens empties shape = cond opens (option_map (opened_shape stamp empties) shape) shape

mapped : (stamp : Stamp) (status : Status) (entry : Option LibrarySet) → option_map set_shape (option_map (opened_by record_ways stamp status) entry) ≡ option_map (opened_shape stamp (is_old status)) (option_map set_shape entry)
mapped stamp status None = refl
mapped stamp status (Some set) = ap Some (by_status stamp status set)

opened_one-shape : (stamp : Stamp) (placed : DdAllotment) (allotment : AllotmentModel) (output : Bool) (library : Library) (name : Name) → option_map set_shape (entry_at (opened_one record_ways stamp placed allotment output library) name) ≡ step_shape stamp (opens name placed allotment output) (is_old placed.dd.disp.status) (option_map set_shape (entry_at library name))
unfolding opens
opened_one-shape stamp placed found true library name =
    ap (option_map set_shape) (at-with_changed placed.name name (opened_by record_ways stamp placed.dd.disp.status) library)
    ∙ option_map-cond set_shape (same_name name placed.name) _ _
    ∙ ap (λ shape. cond (same_name name placed.name) shape (option_map set_shape (entry_at library name))) (mapped stamp placed.dd.disp.status (entry_at library name))
opened_one-shape stamp placed found false library name = refl
opened_one-shape stamp placed made output library name = refl
opened_one-shape stamp placed (refused flaw) output library name = refl

all_shape : Name → Stamp → List DdAllotment → Option Shape → Option Shape
all_shape name stamp [] shape = shape
all_shape name stamp (placed ∷ rest) shape =
    all_shape name stamp rest (step_shape stamp (opens name placed placed.allotment (is_output placed.dd.role)) (is_old placed.dd.disp.status) shape)

opened_all-shape : (stamp : Stamp) (all : List DdAllotment) (library : Library) (name : Name) → option_map set_shape (entry_at (opened_all record_ways stamp all library) name) ≡ all_shape name stamp all (option_map set_shape (entry_at library name))
unfolding all_shape
opened_all-shape stamp [] library name = refl
opened_all-shape stamp (placed ∷ rest) library name =
    opened_all-shape stamp rest (opened_one record_ways stamp placed placed.allotment (is_output placed.dd.role) library) name
    ∙ ap (all_shape name stamp rest) (opened_one-shape stamp placed placed.allotment (is_output placed.dd.role) library name)

step_again : (stamp : Stamp) (a b one other : Bool) (shape : Option Shape) → step_shape stamp a one (step_shape stamp b other shape) ≡ step_shape stamp b other (step_shape stamp a one shape)
step_again stamp true true one other None = refl
step_again stamp true true one other (Some shape) = ap Some (again stamp one other shape)
step_again stamp true false one other shape = refl
step_again stamp false true one other shape = refl
step_again stamp false false one other shape = refl

step_twice : (stamp : Stamp) (a one : Bool) (shape : Option Shape) → step_shape stamp a one (step_shape stamp a one shape) ≡ step_shape stamp a one shape
step_twice stamp true one None = refl
step_twice stamp true one (Some shape) = ap Some (twice stamp one shape)
step_twice stamp false one shape = refl

all_behind : (name : Name) (stamp : Stamp) (all : List DdAllotment) (a one : Bool) (shape : Option Shape) → all_shape name stamp all (step_shape stamp a one shape) ≡ step_shape stamp a one (all_shape name stamp all shape)
unfolding all_shape
all_behind name stamp [] a one shape = refl
all_behind name stamp (placed ∷ rest) a one shape =
    ap (all_shape name stamp rest) (step_again stamp (opens name placed placed.allotment (is_output placed.dd.role)) a (is_old placed.dd.disp.status) one shape)
    ∙ all_behind name stamp rest a one _

all_twice : (name : Name) (stamp : Stamp) (all : List DdAllotment) (shape : Option Shape) → all_shape name stamp all (all_shape name stamp all shape) ≡ all_shape name stamp all shape
unfolding all_shape
all_twice name stamp [] shape = refl
all_twice name stamp (placed ∷ rest) shape =
    ap (all_shape name stamp rest) (sym (all_behind name stamp rest here old (step_shape stamp here old shape)) ∙ ap (all_shape name stamp rest) (step_twice stamp here old shape))
    ∙ all_twice name stamp rest (step_shape stamp here old shape)
  where
    here : Bool
    here = opens name placed placed.allotment (is_output placed.dd.role)

    old : Bool
    old = is_old placed.dd.disp.status

-- what is opened once more
pub opened-twice : (start : StepStart) (name : Name) → option_map set_shape (entry_at (opened_all record_ways (stamp_at start) (placed_at start) (opened_at start)) name) ≡ option_map set_shape (entry_at (opened_at start) name)
unfolding opened_at
opened-twice start name =
    opened_all-shape (stamp_at start) (placed_at start) (opened_all record_ways (stamp_at start) (placed_at start) start.standing.sets) name
    ∙ ap (all_shape name (stamp_at start) (placed_at start)) (opened_all-shape (stamp_at start) (placed_at start) start.standing.sets name)
    ∙ all_twice name (stamp_at start) (placed_at start) (option_map set_shape (entry_at start.standing.sets name))
    ∙ sym (opened_all-shape (stamp_at start) (placed_at start) start.standing.sets name)

-- ---- what allocation sees

known_by : (stamp : Stamp) (status : Status) (set : LibrarySet) → record_ways.known (opened_by record_ways stamp status set) ≡ record_ways.known set
known_by stamp New set = refl
known_by stamp Old set = refl
known_by stamp Shr set = refl
known_by stamp Mod set = refl

chosen : {A : Type 0} (b : Bool) (one other : A) → one ≡ other → cond b one other ≡ other
chosen true one other same = same
chosen false one other same = refl

known_mapped : (stamp : Stamp) (status : Status) (entry : Option LibrarySet) → option_map record_ways.known (option_map (opened_by record_ways stamp status) entry) ≡ option_map record_ways.known entry
known_mapped stamp status None = refl
known_mapped stamp status (Some set) = ap Some (known_by stamp status set)

opened_one-known : (stamp : Stamp) (placed : DdAllotment) (allotment : AllotmentModel) (output : Bool) (library : Library) (name : Name) → option_map record_ways.known (entry_at (opened_one record_ways stamp placed allotment output library) name) ≡ option_map record_ways.known (entry_at library name)
opened_one-known stamp placed found true library name =
    ap (option_map record_ways.known) (at-with_changed placed.name name (opened_by record_ways stamp placed.dd.disp.status) library)
    ∙ option_map-cond record_ways.known (same_name name placed.name) _ _
    ∙ chosen (same_name name placed.name) _ _ (known_mapped stamp placed.dd.disp.status (entry_at library name))
opened_one-known stamp placed found false library name = refl
opened_one-known stamp placed made output library name = refl
opened_one-known stamp placed (refused flaw) output library name = refl

opened_all-known : (stamp : Stamp) (all : List DdAllotment) (library : Library) (name : Name) → option_map record_ways.known (entry_at (opened_all record_ways stamp all library) name) ≡ option_map record_ways.known (entry_at library name)
opened_all-known stamp [] library name = refl
opened_all-known stamp (placed ∷ rest) library name =
    opened_all-known stamp rest (opened_one record_ways stamp placed placed.allotment (is_output placed.dd.role) library) name
    ∙ opened_one-known stamp placed placed.allotment (is_output placed.dd.role) library name

pub opened-known : (start : StepStart) (name : Name) → option_map record_ways.known (entry_at (opened_at start) name) ≡ option_map record_ways.known (entry_at start.standing.sets name)
unfolding opened_at
opened-known start name = opened_all-known (stamp_at start) (placed_at start) start.standing.sets name

pub opened-none : (start : StepStart) (name : Name) → is_none (entry_at (opened_at start) name) ≡ is_none (entry_at start.standing.sets name)
opened-none start name =
    sym (none_known (entry_at (opened_at start) name)) ∙ ap is_none (opened-known start name) ∙ none_known (entry_at start.standing.sets name)
