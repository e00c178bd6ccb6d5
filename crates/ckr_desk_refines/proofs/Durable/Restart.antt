-- What an image has of the data sets goes on where a run is restarted: what goes back to a point begins as it did, and the rest of the data sets stays.
use Rattle.std.proofs.Common.{◌≡◌, ℕ, Bool, true, false, if◌then◌else◌, List, [], ◌∷◌, refl, Option, Some, None}
use Rattle.std.specs.Prelude.{nat_le}
use Rattle.std.specs.Option.{option_map_or}
use Rattle.ckr_base.specs.declared.code.Code.{Code}
use Rattle.ckr_base.proofs.Numbers.{nat_le-true}
use Rattle.ckr_entry.specs.declared.point.Mark.{Mark}
use Rattle.ckr_entry.specs.declared.point.Present.{Present}
use Rattle.ckr_events.specs.declared.event.Event.TheVariants.{Restarted}
use Rattle.ckr_jcl.specs.declared.deck.Job.{Job}
use Rattle.ckr_library.specs.NameMaps.{Name, Named, entry_at, with_changed, without_entry}
use Rattle.ckr_meaning.specs.EffectiveJob.{OwnedStep}
use Rattle.ckr_points.specs.Marks.{point_at, present_at, put_back_catalogs, put_back_length, put_back_lengths, removed_all, with_point}
use Rattle.ckr_points.specs.Office.{Office, office_after}
use Rattle.ckr_points.specs.Payload.{carries}
use Rattle.ckr_points.specs.Restart.{Back, after_put_back, after_restarted, back_to_entry, back_to_start, effect_restarted, kept_at, place_of, point_restarted, row_on, step_in}
use Rattle.ckr_points.specs.Rows.{RunRow, TableSet, TablesModel, cut_set, run_of, step_of_run, table_ways}
use Rattle.ckr_points.specs.Soundness.{may_come}
use Rattle.ckr_points_library.specs.Commit.{output_names}
use Rattle.ckr_points_invariant.specs.Invariant.{IsKept}
use Rattle.ckr_points_invariant.specs.Points.{ArePointed}
use Rattle.ckr_points_invariant.specs.Readiness.{AreReady}
use Rattle.ckr_points_invariant.proofs.Readiness.Office.{entries-restorable, steps-restorable}
use Rattle.ckr_points_invariant.proofs.Restart.Event.{entry-leaves, start-leaves}
use Rattle.ckr_volumes.specs.declared.layout.Layout.{Layout}
use Rattle.ckr_desk_refines.specs.Commits.{HasCommitted}
use Rattle.ckr_desk_refines.specs.Origins.{IsPartOf}
use Rattle.ckr_desk_refines.specs.SharedSets.{LeavesOthers}
use Rattle.ckr_desk_refines.proofs.Durable.Events.{all-stay}
use Rattle.ckr_desk_refines.proofs.Durable.StepEnd.{StaysFrom, changed-from, marked-from, part-itself, part-twice, without-from}

-- ---- what is put back

-- from data sets that come from others
twice-from : (sets later : Named TableSet) (name : Name) (table : TableSet) → StaysFrom later name table → ((one : TableSet) → entry_at later name ≡ Some one → StaysFrom sets name one) → StaysFrom sets name table
twice-from sets later name table last first =
    let its = first last.0 last.1 in
    (its.0, its.1, part-twice table last.0 its.0 last.2 its.2)

removed-from : (name : Name) (gone : List Name) (sets : Named TableSet) (table : TableSet) → entry_at (removed_all gone sets) name ≡ Some table → StaysFrom sets name table
removed-from name [] sets table e = (table, e, part-itself table)
removed-from name (other ∷ gone) sets table e =
    twice-from sets (without_entry other sets) name table (removed-from name gone (without_entry other sets) table e) (without-from name other sets)

cut-part : (most : ℕ) (table : TableSet) → IsPartOf (put_back_length most table).set table.set
cut-part most table = by (nat_le most table.set.length) refl
  where
    by : (b : Bool) → nat_le most table.set.length ≡ b → IsPartOf (if b then cut_set most table else table).set table.set
    by true fits = record { parts = refl; lrecl = refl; stamp = refl; content = refl; shorter = nat_le-true most table.set.length fits }
    by false fits = part-itself table

-- the data sets as a change has them where a point has something of the name
by-present : (o : Option Present) (change : Present → Named TableSet) (sets : Named TableSet) (name : Name) (table : TableSet) → ((present : Present) → entry_at (change present) name ≡ Some table → StaysFrom sets name table) → entry_at (option_map_or change o sets) name ≡ Some table → StaysFrom sets name table
by-present None change sets name table each e = (table, e, part-itself table)
by-present (Some present) change sets name table each e = each present e

lengths-from : (marks : List Mark) (names : List Name) (sets : Named TableSet) (name : Name) (table : TableSet) → entry_at (put_back_lengths marks names sets) name ≡ Some table → StaysFrom sets name table
lengths-from marks [] sets name table e = (table, e, part-itself table)
lengths-from marks (other ∷ names) sets name table e =
    let change : Present → Named TableSet = λ present. with_changed other (put_back_length present.length) sets in
    twice-from sets (option_map_or change (present_at marks other) sets) name table (lengths-from marks names (option_map_or change (present_at marks other) sets) name table e)
    (λ one. by-present (present_at marks other) change sets name one (λ present. changed-from name other (put_back_length present.length) (cut-part present.length) sets one))

catalogs-from : (marks : List Mark) (names : List Name) (sets : Named TableSet) (name : Name) (table : TableSet) → entry_at (put_back_catalogs marks names sets) name ≡ Some table → StaysFrom sets name table
catalogs-from marks [] sets name table e = (table, e, part-itself table)
catalogs-from marks (other ∷ names) sets name table e =
    let change : Present → Named TableSet = λ present. with_changed other (table_ways.marked present.cataloged) sets in
    twice-from sets (option_map_or change (present_at marks other) sets) name table (catalogs-from marks names (option_map_or change (present_at marks other) sets) name table e)
    (λ one. by-present (present_at marks other) change sets name one (λ present. marked-from name other present.cataloged sets one))

pub back-from : (row : RunRow) (owned : OwnedStep) (back : Back) (tables : TablesModel) (name : Name) (table : TableSet) → entry_at (after_put_back row owned back tables).sets name ≡ Some table → StaysFrom tables.sets name table
back-from row owned back tables name table e =
    twice-from tables.sets lengths name table (catalogs-from back.marks back.needed lengths name table e)
    (λ one there.
    twice-from tables.sets left name one (lengths-from back.marks (output_names row.job.root owned) left name one there) (removed-from name back.removed tables.sets))
  where
    left : Named TableSet
    left = removed_all back.removed tables.sets

    lengths : Named TableSet
    lengths = put_back_lengths back.marks (output_names row.job.root owned) left

-- ---- a run is restarted

-- by what is found, or the tables stay
by-found : {X : Type 0} (o : Option X) (change : X → TablesModel) (tables : TablesModel) (name : Name) (table : TableSet) → ((x : X) → entry_at (change x).sets name ≡ Some table → StaysFrom tables.sets name table) → entry_at (option_map_or change o tables).sets name ≡ Some table → StaysFrom tables.sets name table
by-found None change tables name table each e = (table, e, part-itself table)
by-found (Some x) change tables name table each e = each x e

restarted-from : (row : RunRow) (owned : OwnedStep) (step initiator : ℕ) (checkpoint : Bool) (tables : TablesModel) (name : Name) (table : TableSet) → entry_at (after_restarted row owned step initiator checkpoint tables).sets name ≡ Some table → StaysFrom tables.sets name table
restarted-from row owned step initiator false tables name table e =
    by-found (point_at row.points step) _ tables name table
    (λ point.
    back-from (record (row_on initiator row) { points = with_point (point_restarted point) row.points; in_effect = None }) owned (back_to_start row owned step point) tables name table) e
restarted-from row owned step initiator true tables name table e =
    by-found row.in_effect _ tables name table
    (λ effect.
    by-found (kept_at tables.sets effect.set effect.kept.id) _ tables name table
    (λ entry. back-from (record (row_on initiator row) { in_effect = Some (effect_restarted effect) }) owned (back_to_entry row owned step entry.point) tables name table)) e

pub restarted-stays : (layout : Layout) (office : Office) (image : List ℕ) (job initiator : ℕ) (code : Code) (checkpoint : Bool) (deck : Option Job) → IsKept layout office → IsKept layout (office_after (Restarted job initiator code checkpoint, deck) office) → HasCommitted layout office image → HasCommitted layout (office_after (Restarted job initiator code checkpoint, deck) office) image
restarted-stays layout office image job initiator code checkpoint deck kept next had =
    all-stay layout office (office_after (Restarted job initiator code checkpoint, deck) office) image kept next (λ run led. refl) had
    (λ name table.
    by-found (run_of office.tables job) _ office.tables name table
    (λ row.
    by-found (step_of_run row (step_in (place_of row))) _ office.tables name table
    (λ owned. restarted-from row owned (step_in (place_of row)) initiator checkpoint office.tables name table)))

-- it leaves what its fellows reach
pub others-restarted : (layout : Layout) (now : Office) (job initiator : ℕ) (code : Code) (checkpoint : Bool) (deck : Option Job) → IsKept layout now → ArePointed now → AreReady now → may_come layout now (Restarted job initiator code checkpoint, deck) ≡ true → carries layout now (Restarted job initiator code checkpoint) deck ≡ true → LeavesOthers now job (office_after (Restarted job initiator code checkpoint, deck) now)
others-restarted layout now job initiator code false deck kept pointed ready may carried =
    (start-leaves layout now job initiator code deck kept pointed (steps-restorable now ready) may carried).shared
others-restarted layout now job initiator code true deck kept pointed ready may carried =
    (entry-leaves layout now job initiator code deck kept pointed (entries-restorable now ready) may carried).shared
