-- The entry at which a run goes on: where it is kept, and the point that was found there.
use Rattle.std.proofs.Common.{◌≡◌, ℕ, List, Option, Some, None, Result, Ok, Err, refl, ap, sym, ◌∙◌, subst}
use Rattle.std.proofs.lemmas.Option.{same_Some}
use Rattle.std.specs.Prelude.{option_and_then}
use Rattle.std.specs.Option.{option_map, option_map_or}
use Rattle.ckr_base.proofs.Numbers.{equal-true}
use Rattle.ckr_base.proofs.Options.{some-not-none}
use Rattle.ckr_jcl.specs.declared.deck.Kind.{Kind}
use Rattle.ckr_library.specs.NameMaps.{EachEntry, Name, entry_at}
use Rattle.ckr_library.specs.declared.sets.DataSet.{DataSet}
use Rattle.ckr_library.proofs.Named.{each-at}
use Rattle.ckr_desk_refines.specs.DiskEntries.Continuation.{EntryThere, IsStateFound, is_of_program, judged_there}
use Rattle.ckr_desk_refines.specs.DiskEntries.StepState.{StepState}
use Rattle.ckr_desk_refines.specs.Memory.Parts.{IsPointCounted}
use Rattle.ckr_desk_refines.specs.Memory.View.{PointView}
use Rattle.ckr_points.specs.Restart.{kept_at, syschk_name}
use Rattle.ckr_points.specs.Rows.{KeptEntry, RunRow, TableSet, TablesModel, run_of}
use Rattle.ckr_points.specs.Statements.{kind_number}
use Rattle.ckr_rules.specs.declared.cases.Rule.{Rule}
use Rattle.ckr_rules.specs.declared.cases.Rule.TheVariants.{D3}
use Rattle.ckr_steps.specs.Units.{program_of}
use Rattle.ckr_volumes.specs.declared.layout.Layout.{Layout}
use Rattle.ckr_desk.proofs.Openings.Points.{counted-in, kind-same}
use Rattle.ckr_desk.specs.Continuation.{IsEntryPoint, IsPointFound, entry_there, judged_point, point_by, program_in, there_under}
use Rattle.ckr_desk.specs.Points.{point_at}
use Rattle.ckr_desk.specs.declared.continuation.Continuation.{Continuation}

-- an entry of a data set
abbrev pub there_in : DataSet → KeptEntry → EntryThere
there_in set entry = record { set = set; entry = entry }

-- ---- where it is kept

module _ (tables : TablesModel) (name id : Name) where
  abbrev in_table : TableSet → Option EntryThere
  in_table table = option_map (there_in table.set) (kept_at tables.sets name id)

  -- there is no data set of the name
  pub there-none : None ≡ option_map (λ (table : TableSet). table.set) (entry_at tables.sets name) → None ≡ there_under tables id name
  there-none none = by (entry_at tables.sets name) none
    where
      by : (held : Option TableSet) → None ≡ option_map (λ (table : TableSet). table.set) held → None ≡ option_and_then in_table held
      by None e = refl
      by (Some table) e = absurd (some-not-none table.set (sym e))

  -- there is this one
  pub there-some : (set : DataSet) (entry : Option KeptEntry) → Some set ≡ option_map (λ (table : TableSet). table.set) (entry_at tables.sets name) → entry ≡ kept_at tables.sets name id
      → option_map (there_in set) entry ≡ there_under tables id name
  there-some set entry found at = ap (option_map (there_in set)) at ∙ by (entry_at tables.sets name) found
    where
      by : (held : Option TableSet) → Some set ≡ option_map (λ (table : TableSet). table.set) held → option_map (there_in set) (kept_at tables.sets name id) ≡ option_and_then in_table held
      by None e = absurd (some-not-none set e)
      by (Some table) e = ap (λ (its : DataSet). option_map (there_in its) (kept_at tables.sets name id)) (same_Some set table.set e)

-- ---- what was found

-- where a step was found to stand, the point of its run is that of an entry
pub found-by : (run : ℕ) (program : Option Kind) (found : Result StepState Rule) → IsStateFound program found → IsPointFound run program (point_by run found)
found-by run program (Ok state) its = record { entry = its.entry; form = its.form; is = ap (point_at run) its.is; right = its.right }
found-by run program (Err rule) its = its

-- a point's numbers are in their ranges
pub point-counted : (run : ℕ) (program : Option Kind) (point : PointView) → IsEntryPoint run program point → IsPointCounted point
point-counted run program point its = subst IsPointCounted (sym its.is) (counted-in run its.entry its.form)

-- its state is of this program
pub point-program : (run : ℕ) (kind : Kind) (program : Option Kind) (point : PointView) → program ≡ Some kind → IsEntryPoint run program point → program_of point.state ≡ kind
point-program run kind program point is its =
    ap (λ (p : PointView). program_of p.state) its.is
    ∙ kind-same (program_of its.entry.state) kind
    (equal-true (kind_number (program_of its.entry.state)) (kind_number kind) (sym (ap (λ (o : Option Kind). is_of_program o its.entry) is) ∙ its.right))

-- ---- by the bytes of an image

module _ (layout : Layout) (tables : TablesModel) (image : List ℕ) (at : Continuation) where
  abbrev by_there : Option EntryThere → Result PointView Rule
  by_there found = option_map_or (λ (there : EntryThere). point_by at.job (judged_there layout image (program_in tables at.earlier at.step) there)) found (Err D3)

  -- no entry is kept
  pub none-judged : None ≡ entry_there tables at → Err D3 ≡ judged_point layout tables image at
  none-judged none = ap by_there none

  -- this one is
  pub some-judged : (there : EntryThere) (found : Result StepState Rule) → Some there ≡ entry_there tables at → found ≡ judged_there layout image (program_in tables at.earlier at.step) there
      → point_by at.job found ≡ judged_point layout tables image at
  some-judged there found is judged = ap (point_by at.job) judged ∙ ap by_there is

  -- it is kept by a data set of the tables
  pub there-stands : (P : DataSet → Type 0) (there : EntryThere) → EachEntry (λ (table : TableSet). P table.set) tables.sets → Some there ≡ entry_there tables at → P there.set
  there-stands P there each is = by-row (run_of tables at.job) (sym is)
    where
      by-kept : (name : Name) (table : TableSet) → entry_at tables.sets name ≡ Some table → (kept : Option KeptEntry) → option_map (there_in table.set) kept ≡ Some there → P there.set
      by-kept name table at_name None e = absurd (some-not-none there (sym e))
      by-kept name table at_name (Some entry) e =
          subst (λ (one : EntryThere). P one.set) (same_Some (there_in table.set entry) there e) (each-at (λ (table : TableSet). P table.set) tables.sets each name table at_name)

      by-table : (name : Name) (found : Option TableSet) → entry_at tables.sets name ≡ found → option_and_then (λ (table : TableSet). option_map (there_in table.set) (kept_at tables.sets name at.id)) found ≡ Some there → P there.set
      by-table name None at_name e = absurd (some-not-none there (sym e))
      by-table name (Some table) at_name e = by-kept name table at_name (kept_at tables.sets name at.id) e

      by-row : (row : Option RunRow) → option_and_then (λ (row : RunRow). there_under tables at.id (syschk_name row.deck)) row ≡ Some there → P there.set
      by-row None e = absurd (some-not-none there (sym e))
      by-row (Some row) e = by-table (syschk_name row.deck) (entry_at tables.sets (syschk_name row.deck)) refl e
