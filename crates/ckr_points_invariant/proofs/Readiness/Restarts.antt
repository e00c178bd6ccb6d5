-- A run is ready still where it has gone back to its checkpoint.
use Rattle.std.proofs.Common.{◌≡◌, ℕ, Bool, true, false, if◌then◌else◌, List, refl, ap, sym, ◌∙◌, subst, Option, Some, None, arith}
use Rattle.std.specs.Prelude.{nat_le}
use Rattle.std.specs.List.{find}
use Rattle.std.specs.Option.{option_map}
use Rattle.std.proofs.lemmas.Bool.{false≢true}
use Rattle.std.proofs.lemmas.Option.{same_Some}
use Rattle.ckr_base.proofs.Sequences.{find-filter}
use Rattle.ckr_entry.specs.declared.point.Mark.{Mark}
use Rattle.ckr_entry.specs.declared.point.Passed.{Passed}
use Rattle.ckr_entry.specs.declared.point.Present.{Present}
use Rattle.ckr_library.specs.Catalog.{ends_within}
use Rattle.ckr_library.specs.NameMaps.{Name, Named, same_name, entry_at}
use Rattle.ckr_meaning.specs.EffectiveJob.{is_among, names_of}
use Rattle.ckr_meaning.specs.declared.place.Place.TheVariants.{Within}
use Rattle.ckr_points_library.specs.Commit.{output_names}
use Rattle.ckr_points.specs.Follows.{is_within}
use Rattle.ckr_points.specs.Marks.{point_at, present_at, put_back}
use Rattle.ckr_points.specs.Office.{Leg}
use Rattle.ckr_points.specs.Payload.{writes_in}
use Rattle.ckr_points.specs.Restart.{effect_restarted, place_of, row_on}
use Rattle.ckr_points.specs.Rows.{EffectPoint, KeptEntry, RunRow, StartPoint, TableSet, cut_set}
use Rattle.ckr_points_invariant.specs.Invariant.{step_now}
use Rattle.ckr_points_invariant.specs.Readiness.{IsCheck, IsReady, KeepsEntry}
use Rattle.ckr_points_invariant.specs.Restorability.{IsRestorable}
use Rattle.ckr_points_invariant.proofs.Readiness.Writes.{unwritten-less, unwritten-none}
use Rattle.ckr_points_invariant.proofs.PutBack.Sets.{back_to, changed_if, put_back-marked, put_back-none, to_catalog, to_length}

-- ---- the entry

length-keeps : (most : ℕ) (entry : KeptEntry) (id : Name) (table : TableSet) → ends_within most entry.kept ≡ true → find (λ (one : KeptEntry). same_name one.kept.id id) table.entries ≡ Some entry → ends_within table.set.length entry.kept ≡ true
    → (find (λ (one : KeptEntry). same_name one.kept.id id) (if nat_le most table.set.length then cut_set most table else table).entries ≡ Some entry) × (ends_within (if nat_le most table.set.length then cut_set most table else table).set.length entry.kept ≡ true)
length-keeps most entry id table back found ends = by (nat_le most table.set.length)
  where
    by : (b : Bool) → (find (λ (one : KeptEntry). same_name one.kept.id id) (if b then cut_set most table else table).entries ≡ Some entry) × (ends_within (if b then cut_set most table else table).set.length entry.kept ≡ true)
    by true = (find-filter (λ (one : KeptEntry). same_name one.kept.id id) (λ (one : KeptEntry). ends_within most one.kept) table.entries entry found back, back)
    by false = (found, ends)

catalog-keeps : (needed : Bool) (present : Present) (entry : KeptEntry) (id : Name) (table : TableSet) → (find (λ (one : KeptEntry). same_name one.kept.id id) table.entries ≡ Some entry) × (ends_within table.set.length entry.kept ≡ true) → (find (λ (one : KeptEntry). same_name one.kept.id id) (changed_if needed (to_catalog present) table).entries ≡ Some entry) × (ends_within (changed_if needed (to_catalog present) table).set.length entry.kept ≡ true)
catalog-keeps true present entry id table its = its
catalog-keeps false present entry id table its = its

-- an entry stays that ends within the mark to which its data set is put back
pub back-keeps : (marks : List Mark) (outputs needed : List Name) (sets : Named TableSet) (set id : Name) (entry : KeptEntry) → is_among outputs set ≡ true → ((present : Present) → present_at marks set ≡ Some present → ends_within present.length entry.kept ≡ true) → KeepsEntry sets set id entry → KeepsEntry (put_back marks outputs needed sets) set id entry
back-keeps marks outputs needed sets set id entry among back keeps = by (present_at marks set) refl
  where
    by : (present : Option Present) → present_at marks set ≡ present → KeepsEntry (put_back marks outputs needed sets) set id entry
    by None has = record { table = keeps.table; at = put_back-none marks outputs needed sets set has ∙ keeps.at; found = keeps.found; ends = keeps.ends }
    by (Some present) has =
        let its = catalog-keeps (is_among needed set) present entry id (to_length present keeps.table) (length-keeps present.length entry id keeps.table (back present has) keeps.found keeps.ends) in
        record {
          table = changed_if (is_among needed set) (to_catalog present) (to_length present keeps.table);
          at =
              put_back-marked marks outputs needed sets present set has
              ∙ ap (λ b. option_map (back_to b (is_among needed set) present) (entry_at sets set)) among
              ∙ ap (option_map (back_to true (is_among needed set) present)) keeps.at;
          found = its.0;
          ends = its.1;
        }

-- ---- the run

module _ (row : RunRow) (leg : Leg) (effect : EffectPoint) (sets : Named TableSet) (within : is_within (place_of row) ≡ true) (unwritten : effect.rewritten ≡ false) (ready : IsReady sets row leg) (its : IsCheck sets row leg effect) where
  abbrev outputs : List Name
  outputs = output_names row.job.root its.owned

  abbrev needed : List Name
  needed = names_of row.job.root its.owned

  abbrev pub restarted_sets : Named TableSet
  restarted_sets = put_back its.entry.point.marks outputs needed sets

  can : IsRestorable row leg its.entry.point.writes
  can = its.since unwritten

  module _ (initiator count : ℕ) (passed : List Passed) where
    abbrev pub restarted_row : RunRow
    restarted_row = record (row_on initiator row) { in_effect = Some (effect_restarted effect); place = Some (Within (step_now row) its.entry.point.writes); count = count; passed = passed }

    step_since : (point : StartPoint) → point_at row.points (step_now row) ≡ Some point → point.rewritten ≡ false → IsRestorable restarted_row leg 0
    step_since point got told = record {
      behind = omega arith;
      unwritten = λ start at_step. unwritten-less start 0 its.entry.point.writes (writes_in (place_of row)) can.behind ((ready.steps point within got told).unwritten start at_step);
    }

    entry_since : IsRestorable restarted_row leg its.entry.point.writes
    entry_since = record {
      behind = omega arith;
      unwritten = λ start at_step. unwritten-none start its.entry.point.writes;
    }

    check_so : IsCheck restarted_sets restarted_row leg (effect_restarted effect)
    check_so = record {
      owned = its.owned;
      found_step = its.found_step;
      among = its.among;
      entry = its.entry;
      keeps = back-keeps its.entry.point.marks outputs needed sets effect.set effect.kept.id its.entry its.among its.back its.keeps;
      back = its.back;
      point = its.point;
      taken = its.taken;
      since = λ told. entry_since;
    }

    pub restarted-ready : IsReady restarted_sets restarted_row leg
    restarted-ready = record {
      begun = λ inside. ready.begun within;
      steps = λ point inside got told. step_since point got told;
      check = λ other inside got. subst (IsCheck restarted_sets restarted_row leg) (same_Some (effect_restarted effect) other got) check_so;
      none = λ out. absurd (false≢true (sym out));
    }
