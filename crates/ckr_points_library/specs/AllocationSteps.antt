-- The allocation of DDs one after the other, each by what stands there by then.
use Rattle.std.specs.Prelude.{◌≡◌, ℕ, ◌+◌, Bool, true, List, [], ◌∷◌, ◌++◌, Option, None, Some, Result, Ok, Err}
use Rattle.std.specs.Option.{option_map, option_map_or}
use Rattle.ckr_events.specs.declared.event.Made.{Made}
use Rattle.ckr_jcl.specs.declared.deck.Dd.{Dd}
use Rattle.ckr_library.specs.declared.sets.Part.{Part}
use Rattle.ckr_library.specs.declared.sets.Stamp.{Stamp}
use Rattle.ckr_library.specs.Catalog.{Holding}
use Rattle.ckr_library.specs.NameMaps.{EachEntry, Name, Named, entry_at}
use Rattle.ckr_entry.specs.declared.point.Passed.{Passed}
use Rattle.ckr_volumes.specs.declared.layout.Layout.{Layout}
use Rattle.ckr_volumes.specs.Layouts.{StandsIn}
use Rattle.ckr_meaning.specs.Allotments.{allotment_of, is_passed}
use Rattle.ckr_points_library.specs.declared.cause.Cause.{Cause}
use Rattle.ckr_points_library.specs.declared.cause.Refusal.{Refusal}
use Rattle.ckr_points_library.specs.Allocation.{Allocation, allocated_dd, fits_dd, then_more, with_new}
use Rattle.ckr_points_library.specs.FreeSpace.{AllApart}
use Rattle.ckr_points_library.specs.Holdings.{holding_ways}

-- a DD that has a data set is such as a deck gives
abbrev pub fits_named : (Dd → Option Name) → Dd → Bool
fits_named named dd = option_map_or (λ (name : Name). fits_dd dd) (named dd) true

-- the new parts of a DD
abbrev pub new_parts : Layout → List Passed → Dd → Name → Named Holding → Result (List Part) Cause
new_parts layout passed dd name sets =
    allocated_dd layout sets dd name (allotment_of dd (is_passed passed name) (option_map holding_ways.known (entry_at sets name)))

abbrev pub allocated_in_turn : Layout → List Passed → Stamp → (Dd → Option Name) → ℕ → List Dd → Named Holding → Result Allocation Refusal
allocated_in_turn layout passed stamp named number [] sets = Ok (record { items = []; sets = sets })
allocated_in_turn layout passed stamp named number (dd ∷ dds) sets =
    option_map_or
    (λ name. then_more number (new_parts layout passed dd name sets) (λ parts. allocated_in_turn layout passed stamp named (number + 1) dds (with_new stamp dd name parts sets)))
    (named dd)
    (allocated_in_turn layout passed stamp named (number + 1) dds sets)

abbrev pub listed : Result (Option Part) Cause → Result (List Part) Cause
listed (Ok None) = Ok []
listed (Ok (Some part)) = Ok (part ∷ [])
listed (Err cause) = Err cause

-- What was allocated is in the list behind what was there before. With it, each data set stands in the layout, and all lie apart where they did.
pub record IsAllocated (layout : Layout) (sets : Named Holding) (before after : List Made) (done : Allocation) : Type 0 where
  pub items : after ≡ before ++ done.items
  pub stand : EachEntry (λ (h : Holding). StandsIn layout h.set) done.sets
  pub apart : AllApart sets → AllApart done.sets
