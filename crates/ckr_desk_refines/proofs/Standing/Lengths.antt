-- The lengths of a running step in memory are those of its job.
use Rattle.std.proofs.Common.{◌≡◌, ◌≤◌, ℕ, true, List, [], length, refl, ap, sym, ◌∙◌, Option, Some, None}
use Rattle.std.specs.Option.{option_map, option_map_or}
use Rattle.ckr_points_library.specs.Commit.{output_names}
use Rattle.ckr_desk_memory.specs.View.{length_in, lengths_in, lengths_of_row}
use Rattle.ckr_library.specs.declared.sets.Content.{Content}
use Rattle.ckr_library.specs.declared.sets.Content.TheVariants.{Plain, Checkpoints}
use Rattle.ckr_library.specs.declared.sets.DataSet.{DataSet}
use Rattle.ckr_library.specs.Catalog.{Catalog, Holding, set_of}
use Rattle.ckr_library.specs.NameMaps.{Name, entry_at}
use Rattle.ckr_meaning.specs.EffectiveJob.{Effective, OwnedStep, is_among, names_of}
use Rattle.ckr_meaning.specs.LibrarySet.{AreWithinSpace, LibrarySet}
use Rattle.ckr_meaning.specs.StepRun.{StepStart, set_records, within_at, work_at, written_all}
use Rattle.ckr_desk_turn.proofs.Units.Outputs.{IsOutput, each_output}
use Rattle.ckr_desk_turn.proofs.RunningSteps.{map-same}
use Rattle.ckr_desk_refines.specs.StepSets.{HasSets}
use Rattle.ckr_points.specs.Payload.{length_by, length_now, lengths_at, records_under, rewrites_nothing, writes_between}
use Rattle.ckr_points.specs.Office.{Office, Leg}
use Rattle.ckr_points.specs.Restart.{step_in}
use Rattle.ckr_points.specs.Rows.{RunRow, TableSet, step_of_run}
use Rattle.ckr_points_invariant.specs.Invariant.{IsAgreed, Shape, set_shape, table_shape}
use Rattle.ckr_points_invariant.specs.RunningSteps.{IsRunning, its_start}
use Rattle.ckr_points_invariant.proofs.Steps.Commits.{alike_within, in_reach, place_so}
use Rattle.ckr_points_invariant.proofs.Holders.Places.{outputs-among}
use Rattle.ckr_points_invariant.proofs.Stamps.Tables.{alike_set}
use Rattle.ckr_points_invariant.proofs.Writes.Likeness.{bare, written_all-bare}
use Rattle.ckr_steps.specs.Places.{ShowsWithin}
use Rattle.ckr_steps.specs.Writes.{IsShown}
use Rattle.ckr_volumes.specs.declared.layout.Layout.{Layout}
use Rattle.ckr_meaning.proofs.WriteSeries.{within_at-more}
use Rattle.std.proofs.Common.{◌+◌, ◌-◌, arith}
use Rattle.std.proofs.lemmas.Option.{same_Some}
use Rattle.ckr_base.proofs.Options.{some-not-none}

-- the length of a data set that is there
pub in-sets : (catalog : Catalog) (name : Name) (set : DataSet) → set_of catalog name ≡ Some set → length_in catalog.sets name ≡ set.length
in-sets catalog name set is = by (entry_at catalog.sets name) is
  where
    by : (entry : Option Holding) → option_map (λ (h : Holding). h.set) entry ≡ Some set → option_map_or (λ (holding : Holding). holding.set.length) entry 0 ≡ set.length
    by None e = absurd (some-not-none set (sym e))
    by (Some held) e = ap (λ (s : DataSet). s.length) (same_Some held.set set e)

pub bare-set : (shape : Shape) (entry : Option LibrarySet) → option_map (λ set. bare (set_shape set)) entry ≡ Some shape → (its : LibrarySet) × (entry ≡ Some its) × (bare (set_shape its) ≡ shape)
bare-set shape None e = absurd (some-not-none shape (sym e))
bare-set shape (Some set) e = (set, refl, same_Some (bare (set_shape set)) shape e)

module _ (layout : Layout) (office : Office) (number : ℕ) (row : RunRow) (leg : Leg) (owned : OwnedStep) (step from to : ℕ)
    (kept : IsAgreed layout office) (running : IsRunning office number row leg owned step from) (spaced : AreWithinSpace leg.start)
    (behind : from ≤ to) (fit : to ≤ length (work_at (its_start leg owned step)).writes) (plain : rewrites_nothing (its_start leg owned step) from to ≡ true)
    (image : List ℕ) (sets : Catalog) (has : HasSets office.tables.sets (names_of leg.job.root owned) sets)
    (shows : ShowsWithin (Unit {0}) image layout (its_start leg owned step) to sets)
    (checked : (name : Name) (table : TableSet) (set : DataSet) → entry_at office.tables.sets name ≡ Some table → set_of sets name ≡ Some set → table.set.content ≡ Checkpoints → set.length ≡ table.set.length) where
  abbrev start : StepStart
  start = its_start leg owned step

  going : within_at start to ≡ written_all start (writes_between start from to) (within_at start from)
  going = ap (within_at start) (let e : to ≡ from + (to - from) = omega (arith, behind) in e) ∙ within_at-more start from (to - from)

  pub each-length : (name : Name) → is_among (output_names leg.job.root owned) name ≡ true → length_in sets.sets name ≡ length_now (within_at start to) office.tables.sets name
  each-length name among =
      let named : is_among (names_of leg.job.root owned) name ≡ true = outputs-among leg.job.root owned name among in
      let output : IsOutput office.tables.sets (within_at start to) name = each_output layout office number row leg owned step from to kept running spaced behind fit plain name among in
      let own = has.each name output.table named output.found in
      in-sets sets name own.0 own.1
      ∙ by named output own.0 own.1 output.table.set.content refl
      ∙ sym (ap (λ (o : Option TableSet). option_map_or (λ table. length_by table.set.content table (length (records_under (within_at start to) name))) o 0) output.found)
    where
      model : is_among (names_of leg.job.root owned) name ≡ true → (output : IsOutput office.tables.sets (within_at start to) name) → (its : LibrarySet) × (entry_at (within_at start to) name ≡ Some its) × (its.content ≡ output.table.set.content)
      model named output =
          let alike = alike_within layout office number row leg owned step from kept running name (in_reach layout office number row leg owned step from kept running name named) in
          let was = alike_set output.table (entry_at (within_at start from) name) (ap (option_map table_shape) (sym output.found) ∙ alike) in
          let its = bare-set (bare (set_shape was.0)) (entry_at (within_at start to) name)
          (ap (λ library. option_map (λ set. bare (set_shape set)) (entry_at library name)) going ∙ written_all-bare start (writes_between start from to) (within_at start from) name plain ∙ ap (option_map (λ set. bare (set_shape set))) was.1) in
          (its.0, its.1, ap (λ (shape : Shape). shape.content) its.2 ∙ ap (λ (shape : Shape). shape.content) (sym was.2))

      by : is_among (names_of leg.job.root owned) name ≡ true → (output : IsOutput office.tables.sets (within_at start to) name) (set : DataSet) → set_of sets name ≡ Some set → (content : Content) → output.table.set.content ≡ content → set.length ≡ length_by content output.table (length (records_under (within_at start to) name))
      by named output set own Plain is =
          let its = model named output in
          let shown : IsShown (Unit {0}) image layout its.0 sets name = shows name its.0 named its.1 (its.2 ∙ is) in
          let same : set ≡ shown.set = same_Some set shown.set (sym own ∙ shown.is) in
          ap (λ (s : DataSet). s.length) same ∙ shown.shows.length
          ∙ sym (ap (λ (o : Option LibrarySet). length (option_map_or set_records o [])) its.1)
      by named output set own Checkpoints is = checked name output.table set output.found own is

  pub lengths-so : lengths_of_row sets.sets row ≡ lengths_at start office.tables.sets to
  lengths-so =
      ap (λ n. option_map_or (lengths_in sets.sets row.job.root) (step_of n) []) (ap step_in running.stands)
      ∙ ap (λ (o : Option OwnedStep). option_map_or (lengths_in sets.sets row.job.root) o []) running.found
      ∙ ap (λ (job : Effective). lengths_in sets.sets job.root owned) (sym (place_so layout office number row leg owned step from kept running).job)
      ∙ map-same (length_in sets.sets) (length_now (within_at start to) office.tables.sets) (output_names leg.job.root owned) each-length
    where
      step_of : ℕ → Option OwnedStep
      step_of n = step_of_run row n
