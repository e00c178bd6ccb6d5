-- The record of a rewrite has its place behind the event that tells it.
use Rattle.std.proofs.Common.{◌≡◌, ◌<◌, ◌≤◌, ◌&&◌, ℕ, true, false, cond, List, [], ◌∷◌, length, nat_lt, refl, ap, sym, ◌∙◌, subst, Option, None, Some, arith}
use Rattle.std.specs.Prelude.{◌==◌}
use Rattle.std.specs.List.{AllByRecursion}
use Rattle.std.specs.Option.{option_map, option_map_or}
use Rattle.std.proofs.lemmas.Bool.{false≢true}
use Rattle.arrayvec.specs.ArrayVec.{ArrayVec}
use Rattle.ckr_base.proofs.Bools.{and-first, and-second, bool-cases}
use Rattle.ckr_base.proofs.Numbers.{equal-true, nat_lt-true}
use Rattle.ckr_events.specs.declared.event.Event.{Event}
use Rattle.ckr_events.specs.declared.event.Event.TheVariants.{Rewritten}
use Rattle.ckr_jcl.specs.declared.deck.Job.{Job}
use Rattle.ckr_jcl.specs.declared.deck.Kind.TheVariants.{Update}
use Rattle.ckr_library.specs.NameMaps.{Name, Named, entry_at, same_name, with_changed}
use Rattle.ckr_library.proofs.Named.{at-with_changed, each-at}
use Rattle.ckr_meaning.specs.EffectiveJob.{OwnedStep}
use Rattle.ckr_meaning.specs.StepRun.{StepStart}
use Rattle.ckr_meaning.specs.declared.place.Place.TheVariants.{Within}
use Rattle.ckr_volumes.specs.declared.layout.Layout.{Layout}
use Rattle.ckr_volumes.specs.Layouts.{StandsIn}
use Rattle.ckr_desk_plans.specs.Model.Commit.{output_names}
use Rattle.ckr_points.specs.Follows.{follows, is_rewrite, is_update, own_step}
use Rattle.ckr_points.specs.Payload.{is_formed_step}
use Rattle.ckr_points.specs.Restart.{after_event, by_step, place_of, step_in}
use Rattle.ckr_points.specs.Rows.{RunRow, TableSet, TablesModel, cut_set, run_of}
use Rattle.ckr_points.specs.Soundness.{AreLaidOut}
use Rattle.ckr_points.specs.Tables.{after_rewritten, committed, is_updates, name_with_role, row_rewritten, table_rewritten}
use Rattle.ckr_points_invariant.proofs.Holders.Rows.{run-same}
use Rattle.ckr_points_invariant.proofs.Rewrite.Invariant.{updated-name}
use Rattle.ckr_desk_turn.specs.Queue.{AreNumbered}
use Rattle.ckr_desk_turn.proofs.Queue.Events.{run_number}
use Rattle.ckr_desk_turn.proofs.Rewrite.UnitWrites.{by_update}
use Rattle.ckr_desk_memory.proofs.Holders.Names.{step-formed}
use Rattle.ckr_desk_memory.specs.Invariant.{IsAcceptedRow}
use Rattle.ckr_desk_memory.specs.Rewrite.{HasPlaceFor, HasRecordPlace, updated_by, updated_in}
use Rattle.ckr_desk_memory.proofs.Masters.{by-role}
use Rattle.ckr_desk_memory.proofs.Starts.Steps.{row-among}
use Rattle.ckr_desk_memory.proofs.EventRows.{by-rewritten}

-- ---- a data set keeps its space and its record length

-- there is one of this space and this record length
record IsSized (sets : Named TableSet) (name : Name) (space lrecl : ℕ) : Type 0 where
  table : TableSet
  at : entry_at sets name ≡ Some table
  space_is : table.set.space ≡ space
  lrecl_is : table.set.lrecl ≡ lrecl

sized-changed : (other name : Name) (change : TableSet → TableSet) (sets : Named TableSet) (space lrecl : ℕ) → ((table : TableSet) → (change table).set.space ≡ table.set.space) → ((table : TableSet) → (change table).set.lrecl ≡ table.set.lrecl)
    → IsSized sets name space lrecl → IsSized (with_changed other change sets) name space lrecl
sized-changed other name change sets space lrecl spaces lrecls sized =
    bool-cases (same_name name other)
    (λ same. record {
      table = change sized.table;
      at = at-with_changed other name change sets ∙ ap (λ b. cond b (option_map change (entry_at sets name)) (entry_at sets name)) same ∙ ap (option_map change) sized.at;
      space_is = spaces sized.table ∙ sized.space_is;
      lrecl_is = lrecls sized.table ∙ sized.lrecl_is;
    })
    (λ apart. record {
      table = sized.table;
      at = at-with_changed other name change sets ∙ ap (λ b. cond b (option_map change (entry_at sets name)) (entry_at sets name)) apart ∙ sized.at;
      space_is = sized.space_is;
      lrecl_is = sized.lrecl_is;
    })

sized-committed : (names : List Name) (lengths : List ℕ) (sets : Named TableSet) (name : Name) (space lrecl : ℕ) → IsSized sets name space lrecl → IsSized (committed names lengths sets) name space lrecl
sized-committed [] lengths sets name space lrecl sized = sized
sized-committed (first ∷ names) [] sets name space lrecl sized = sized
sized-committed (first ∷ names) (most ∷ lengths) sets name space lrecl sized =
    sized-committed names lengths (with_changed first (cut_set most) sets) name space lrecl (sized-changed first name (cut_set most) sets space lrecl (λ table. refl) (λ table. refl) sized)

-- ---- the record is one of those of the data set

-- the data set has a record of this number, as long as this one
record HasRecord (sets : Named TableSet) (name : Name) (place : ℕ) (image : List ℕ) : Type 0 where
  table : TableSet
  at : entry_at sets name ≡ Some table
  below : place < table.set.length
  long : length image ≡ table.set.lrecl

has-record : (sets : Named TableSet) (name : Name) (place : ℕ) (image : List ℕ) → option_map_or (λ (table : TableSet). nat_lt place table.set.length && length image == table.set.lrecl) (entry_at sets name) false ≡ true → HasRecord sets name place image
has-record sets name place image e = by (entry_at sets name) refl e
  where
    by : (entry : Option TableSet) → entry_at sets name ≡ entry → option_map_or (λ (table : TableSet). nat_lt place table.set.length && length image == table.set.lrecl) entry false ≡ true → HasRecord sets name place image
    by None at e = absurd (false≢true e)
    by (Some table) at e = record {
      table = table;
      at = at;
      below = nat_lt-true place table.set.length (and-first (nat_lt place table.set.length) _ e);
      long = equal-true (length image) table.set.lrecl (and-second (nat_lt place table.set.length) _ e);
    }

-- ---- behind the event

module _ (layout : Layout) (tables : TablesModel) (numbered : AreNumbered 1 tables.runs) (rows : AllByRecursion IsAcceptedRow tables.runs) (laid : AreLaidOut layout tables.sets)
    (job taken writes place : ℕ) (lengths : ArrayVec ℕ) (image : List ℕ) (deck : Option Job) (row : RunRow) (owned : OwnedStep)
    (at : run_of tables job ≡ Some row) (found : own_step row ≡ Some owned) (rewrites : is_rewrite tables place image row owned ≡ true) where
  abbrev step : ℕ
  step = step_in (place_of row)

  abbrev name : Name
  name = name_with_role row.job.root owned is_updates

  abbrev next : RunRow
  next = record (row_rewritten step row) { place = Some (Within step writes) }

  abbrev after : TablesModel
  after = after_rewritten row owned step writes lengths.items tables

  abbrev start : StepStart
  start = record { root = row.job.root; owned = owned; number = step; standing = record { sets = []; passed = [] }; earlier = [] }

  after-is : after_event (Rewritten job taken writes lengths place image) deck tables ≡ after
  after-is =
      ap (λ (o : Option RunRow). option_map_or (λ row. by_step (λ owned step. after_rewritten row owned step writes lengths.items tables) row tables) o tables) at
      ∙ ap (λ (o : Option OwnedStep). option_map_or (λ owned. after_rewritten row owned step writes lengths.items tables) o tables) found

  next-at : run_of after job ≡ Some next
  next-at = run-same (record tables { sets = after.sets }) next row job at (run_number tables job row numbered at)

  formed : is_formed_step row.job.root owned ≡ true
  formed =
      let accepted = row-among IsAcceptedRow tables job row rows at in
      step-formed row step owned accepted found

  is_it : is_update owned.step.program ≡ true
  is_it = and-first (is_update owned.step.program) _ rewrites

  updates : updated_by next ≡ Some name
  updates =
      ap (λ (o : Option OwnedStep). option_map_or (updated_in next) o None) found
      ∙ by-role start place name formed (by_update (λ program. program ≡ Update) owned.step.program is_it refl) (updated-name start place formed is_it)

  was : HasRecord tables.sets name place image
  was = has-record tables.sets name place image (and-second (is_update owned.step.program) _ rewrites)

  sized : IsSized after.sets name was.table.set.space was.table.set.lrecl
  sized =
      sized-changed name name (table_rewritten owned.owner step) (committed (output_names row.job.root owned) lengths.items tables.sets) was.table.set.space was.table.set.lrecl (λ table. refl) (λ table. refl)
      (sized-committed (output_names row.job.root owned) lengths.items tables.sets name was.table.set.space was.table.set.lrecl
      (record { table = was.table; at = was.at; space_is = refl; lrecl_is = refl }))

  inside : place < sized.table.set.space
  inside =
      let below : place < was.table.set.length = was.below in
      let fits : was.table.set.length ≤ was.table.set.space = (each-at (λ (table : TableSet). StandsIn layout table.set) tables.sets laid.stand name was.table was.at).length_fits in
      let same : sized.table.set.space ≡ was.table.set.space = sized.space_is in
      omega (arith, below, fits, same)

  rewritten-place : HasPlaceFor (after_event (Rewritten job taken writes lengths place image) deck tables) job place image
  rewritten-place =
      subst (λ (t : TablesModel). HasPlaceFor t job place image) (sym after-is)
      (record {
        row = next;
        found = next-at;
        name = name;
        updates = updates;
        table = sized.table;
        there = sized.at;
        within = inside;
        long = was.long ∙ sym sized.lrecl_is;
      })

-- an event that follows tells a record that has its place behind it, if it tells one
pub place-behind : (layout : Layout) (tables : TablesModel) → AreNumbered 1 tables.runs → AllByRecursion IsAcceptedRow tables.runs → AreLaidOut layout tables.sets → (event : Event) (deck : Option Job) → follows layout tables event deck ≡ true
    → HasRecordPlace event (after_event event deck tables)
place-behind layout tables numbered rows laid (Rewritten job taken writes lengths place image) deck follow =
    by-rewritten (λ after. HasRecordPlace (Rewritten job taken writes lengths place image) (after_event (Rewritten job taken writes lengths place image) deck tables)) layout tables job deck taken writes place lengths image follow
    (λ row owned its. rewritten-place layout tables numbered rows laid job taken writes place lengths image deck row owned its.at.row_at its.at.found its.rewrite)
place-behind layout tables numbered rows laid _ deck follow = tt
