-- What is committed behind a rewrite: the office has the record, and an image has what is committed but for it.
use Rattle.std.proofs.Common.{◌≡◌, ◌≤◌, ◌<◌, ℕ, zero, suc, Bool, true, false, cond, List, [], ◌∷◌, length, refl, ap, sym, ◌∙◌, subst, Some, slice_get, slice_set, arith}
use Rattle.std.specs.Prelude.{IsTrue}
use Rattle.std.specs.Option.{option_map}
use Rattle.std.proofs.lemmas.Bool.{false≢true}
use Rattle.std.proofs.lemmas.List.{length-set}
use Rattle.std.proofs.lemmas.Option.{same_Some}
use Rattle.ckr_base.proofs.Bools.{bool-cases}
use Rattle.ckr_points_library.specs.Commit.{output_names}
use Rattle.ckr_base.specs.Columns.{fitted}
use Rattle.ckr_desk_memory.specs.View.{RunningStepView}
use Rattle.ckr_desk_turn.specs.Invariant.{IsDesk}
use Rattle.ckr_desk_refines.specs.Commits.{HasCommitted, HasWithin}
use Rattle.ckr_desk_refines.specs.SharedSets.{LieStill}
use Rattle.ckr_desk_refines.specs.StepSets.{LiesThere}
use Rattle.ckr_desk_refines.proofs.Durable.Stamps.{as-office, counted-plain, records-stamped}
use Rattle.ckr_desk_refines.proofs.Durable.Units.{table-kept, within-shown, apart-there}
use Rattle.ckr_library.specs.declared.sets.Content.TheVariants.{Plain}
use Rattle.ckr_library.specs.declared.sets.DataSet.{DataSet}
use Rattle.ckr_library.specs.Catalog.{set_of}
use Rattle.ckr_library.specs.NameMaps.{Name, Named, entry_at, same_name}
use Rattle.ckr_library.proofs.Named.{at-with_changed, each-at, name-equivalence, name-same}
use Rattle.ckr_meaning.specs.EffectiveJob.{Effective, is_among, names_of}
use Rattle.ckr_meaning.specs.LibrarySet.{LibrarySet}
use Rattle.ckr_meaning.specs.StepRun.{StepStart, rewritten, within_at}
use Rattle.ckr_meaning.specs.declared.place.Place.TheVariants.{Within}
use Rattle.ckr_points.specs.Tables.{committed, is_updates, name_with_role, table_rewritten}
use Rattle.ckr_points.specs.Office.{Office, model_records}
use Rattle.ckr_points.specs.Rows.{TableSet}
use Rattle.ckr_points_invariant.specs.Invariant.{HasBegun, IsKept, Shape, step_now, table_shape}
use Rattle.ckr_points_invariant.specs.RunningSteps.{its_start}
use Rattle.ckr_points_invariant.proofs.Steps.Commits.{alike_within, found_leg, in_reach}
use Rattle.ckr_points_invariant.proofs.Holders.Places.{outputs-among}
use Rattle.ckr_points_invariant.proofs.Stamps.Tables.{alike_set, reached-now}
use Rattle.ckr_points_invariant.proofs.Steps.Walks.{at-within}
use Rattle.ckr_points_invariant.proofs.Writes.Likeness.{committed-other}
use Rattle.ckr_desk_refines.specs.Moves.{HasSameRecords, IsWritten}
use Rattle.ckr_steps.specs.Places.{IsToRewrite, IsStepPlace}
use Rattle.ckr_steps.specs.Writes.{Keeps}
use Rattle.ckr_desk_turn.specs.Desk.{DeskModel, DeskStep}
use Rattle.ckr_volumes.specs.Records.{records_on}
use Rattle.ckr_volumes.specs.SamePlaces.{same_places}
use Rattle.ckr_volumes.specs.Layouts.{StandsIn, lie_apart}
use Rattle.ckr_desk_refines.proofs.Rewrites.Office.{behind, lengths_now, next, own-sets, own-table, running-then}
use Rattle.ckr_desk_refines.proofs.Rewrites.Legs.{IsLedStep}
use Rattle.ckr_desk_refines.proofs.Rewrites.OwnStep.{same-job, told-so, updated-among, updated-is, updated-plain}
use Rattle.ckr_desk_refines.proofs.Rewrites.Unit.{one-more}

get_set : (records : List (List ℕ)) (place : ℕ) (bytes : List ℕ) → place < length records → slice_get (slice_set records place bytes) place ≡ Some bytes
get_set [] place bytes low = absurd (omega (arith, low))
get_set (first ∷ rest) zero bytes low = refl
get_set (first ∷ rest) (suc place) bytes low = get_set rest place bytes (omega (arith, low))

module _ (desk : DeskModel) (is : IsDesk desk) (before : List ℕ) (on : RunningStepView) (step : DeskStep) (led : IsLedStep desk before on step)
    (after : List ℕ) (moved : RunningStepView) (taken place : ℕ) (bytes : List ℕ)
    (rewrite : IsToRewrite (Unit {0}) after desk.layout (its_start led.leg led.owned (step_now led.row)) step.progress.taken taken place bytes on.step moved.step moved.sets)
    (same : (name : Name) → set_of moved.sets name ≡ set_of on.sets name)
    (stood : IsStepPlace (its_start led.leg led.owned (step_now led.row)) step.progress.taken false on.step on.sets)
    (kept : IsKept desk.layout (behind desk before on step led moved.step.writes moved.sets same)) where
  abbrev start : StepStart
  start = its_start led.leg led.owned (step_now led.row)

  abbrev then : Office
  then = behind desk before on step led moved.step.writes moved.sets same

  abbrev names_now : List Name
  names_now = names_of led.leg.job.root led.owned

  -- ---- the office's records

  -- those of a name of the step are what it has written
  record HasOwn (name : Name) (table : TableSet) : Type 0 where
    set : LibrarySet
    at : entry_at (within_at start moved.step.writes) name ≡ Some set
    content : set.content ≡ table.set.content
    long : table.set.content ≡ Plain → table.set.length ≡ length set.records
    records : table.set.content ≡ Plain → model_records then name ≡ set.records

  own-records : (name : Name) (table : TableSet) → is_among names_now name ≡ true → entry_at then.tables.sets name ≡ Some table → HasOwn name table
  own-records name table among e =
      let running = running-then desk before on step led moved.step.writes moved.sets same in
      let mine = next desk before on step led moved.step.writes moved.sets same in
      let reach = in_reach desk.layout then step.run mine led.leg led.owned (step_now led.row) moved.step.writes kept.events running name among in
      let found = found_leg desk.layout then step.run mine led.leg led.owned (step_now led.row) moved.step.writes kept.events running in
      let its = alike_set table (entry_at (within_at start moved.step.writes) name)
      (ap (option_map table_shape) (sym e) ∙ alike_within desk.layout then step.run mine led.leg led.owned (step_now led.row) moved.step.writes kept.events running name reach) in
      let set : LibrarySet = its.0 in
      let content : set.content ≡ table.set.content = ap (λ (shape : Shape). shape.content) (sym its.2) in
      let begun : HasBegun then name set =
      kept.stamps.places step.run led.leg (Within (step_now led.row) moved.step.writes) led.running.holder.leg_at (reached-now then.tables mine led.leg (kept.events.places step.run mine led.leg running.holder)) name set
      (ap (λ library. entry_at library name) (at-within led.leg.job led.leg.start (step_now led.row) moved.step.writes led.owned found) ∙ its.1) in
      record {
        set = set;
        at = its.1;
        content = content;
        long = λ plain. sym (counted-plain table.set.content table.set.length plain) ∙ ap (λ (shape : Shape). shape.length) its.2 ∙ counted-plain set.content (length set.records) (content ∙ plain);
        records = λ plain. as-office desk.layout then name table set kept e plain its.2 begun;
      }

  -- a name that the step hasn't is as it was
  out-same : (name : Name) → is_among names_now name ≡ false → entry_at then.tables.sets name ≡ entry_at desk.office.tables.sets name
  out-same name out =
      at-with_changed updated name change done
      ∙ ap (λ b. cond b (option_map change (entry_at done name)) (entry_at done name))
      (bool-cases (same_name name updated)
      (λ one. absurd (false≢true (sym out ∙ ap (is_among names_now) (name-same name updated one ∙ sym its_updated) ∙ updated-among desk is before on step led after moved taken place bytes rewrite same stood)))
      (λ apart. apart))
      ∙ committed-other (output_names led.row.job.root led.owned) (lengths_now desk before on step led moved.step.writes moved.sets same) desk.office.tables.sets name
      (bool-cases (is_among (output_names led.row.job.root led.owned) name)
      (λ among.
      absurd (false≢true (sym out ∙ outputs-among led.leg.job.root led.owned name
      (ap (λ (job : Effective). is_among (output_names job.root led.owned) name) (same-job desk is before on step led after moved taken place bytes rewrite same stood) ∙ among))))
      (λ e. e))
    where
      updated : Name
      updated = name_with_role led.row.job.root led.owned is_updates

      its_updated : rewrite.name ≡ updated
      its_updated = updated-is desk is before on step led after moved taken place bytes rewrite same stood

      change : TableSet → TableSet
      change = table_rewritten led.owned.owner (step_now led.row)

      done : Named TableSet
      done = committed (output_names led.row.job.root led.owned) (lengths_now desk before on step led moved.step.writes moved.sets same) desk.office.tables.sets

  out-records : (name : Name) (table : TableSet) → is_among names_now name ≡ false → entry_at then.tables.sets name ≡ Some table → table.set.content ≡ Plain → model_records then name ≡ model_records desk.office name
  out-records name table out e plain =
      records-stamped desk.layout then name table kept e plain
      ∙ sym (records-stamped desk.layout desk.office name table is.kept (sym (out-same name out) ∙ e) plain)

  -- the library behind the rewrite, under what is updated and under another name
  library_so : (name : Name) → entry_at (within_at start moved.step.writes) name ≡ cond (same_name name rewrite.name) (option_map (rewritten led.owned.owner (step_now led.row) place rewrite.write.image) (entry_at (within_at start on.step.writes) name)) (entry_at (within_at start on.step.writes) name)
  library_so name =
      ap (λ library. entry_at library name) (one-more (Unit {0}) after desk.layout start step.progress.taken taken place bytes on.step moved.step moved.sets rewrite)
      ∙ at-with_changed rewrite.name name (rewritten led.owned.owner (step_now led.row) place rewrite.write.image) (within_at start on.step.writes)

  abbrev made : LibrarySet
  made = rewritten led.owned.owner (step_now led.row) place rewrite.write.image rewrite.rewritten

  updated_so : entry_at (within_at start moved.step.writes) rewrite.name ≡ Some made
  updated_so =
      library_so rewrite.name
      ∙ ap (λ b. cond b (option_map (rewritten led.owned.owner (step_now led.row) place rewrite.write.image) (entry_at (within_at start on.step.writes) rewrite.name)) (entry_at (within_at start on.step.writes) rewrite.name)) (name-equivalence.refl rewrite.name)
      ∙ ap (option_map (rewritten led.owned.owner (step_now led.row) place rewrite.write.image)) rewrite.stood

  -- ---- what is updated

  record HasUpdated (table : TableSet) : Type 0 where
    plain : table.set.content ≡ Plain
    long : table.set.length ≡ length rewrite.rewritten.records
    records : model_records then rewrite.name ≡ slice_set rewrite.rewritten.records place bytes

  updated-records : (table : TableSet) → entry_at then.tables.sets rewrite.name ≡ Some table → HasUpdated table
  updated-records table e =
      let own : HasOwn rewrite.name table = own-records rewrite.name table (updated-among desk is before on step led after moved taken place bytes rewrite same stood) e in
      let set : own.set ≡ made = same_Some own.set made (sym own.at ∙ updated_so) in
      let plain : table.set.content ≡ Plain = sym own.content ∙ ap (λ (s : LibrarySet). s.content) set ∙ updated-plain desk is before on step led after moved taken place bytes rewrite same stood in
      record {
        plain = plain;
        long = own.long plain ∙ ap (λ (s : LibrarySet). length s.records) set ∙ length-set rewrite.rewritten.records place (fitted rewrite.rewritten.lrecl rewrite.write.image);
        records = own.records plain ∙ ap (λ (s : LibrarySet). s.records) set ∙ ap (slice_set rewrite.rewritten.records place) (sym rewrite.fits);
      }

  -- the office has the record
  pub has-record : (set : DataSet) → set_of moved.sets rewrite.name ≡ Some set → slice_get (model_records then rewrite.name) place ≡ Some bytes
  has-record set found =
      let there = own-table desk before on step led moved.step.writes moved.sets same rewrite.name set found in
      ap (λ records. slice_get records place) (updated-records there.0 there.1).records ∙ get_set rewrite.rewritten.records place bytes rewrite.below

  -- ---- an image with the event, and without the record

  module _ (still : LieStill desk.office.tables.sets then.tables.sets) (keeps : Keeps desk.layout on.sets before after) (had : HasCommitted desk.layout desk.office before)
      (told : List ℕ) (as_told : HasSameRecords desk.layout after told) (set : DataSet) (found : set_of moved.sets rewrite.name ≡ Some set) where
    within : HasWithin desk.layout then.tables.sets start on.step.writes told
    within =
        within-shown (Unit {0}) told desk.layout then.tables.sets start on.step.writes moved.sets tt (own-sets desk before on step led moved.step.writes moved.sets same still)
        (told-so desk is before on step led after moved taken place bytes rewrite same stood told as_told).shows

    stands_then : (name : Name) (table : TableSet) → entry_at then.tables.sets name ≡ Some table → StandsIn desk.layout table.set
    stands_then name table e = each-at (λ (table : TableSet). StandsIn desk.layout table.set) then.tables.sets kept.events.extents.stand name table e

    -- under any name but that of what is updated
    told-committed : (name : Name) (table : TableSet) → same_name name rewrite.name ≡ false → entry_at then.tables.sets name ≡ Some table → table.set.content ≡ Plain → records_on told desk.layout table.set table.set.length ≡ model_records then name
    told-committed name table apart e plain =
        bool-cases (is_among names_now name)
        (λ among.
        let own : HasOwn name table = own-records name table among e in
        let was : entry_at (within_at start on.step.writes) name ≡ Some own.set =
        sym (ap (λ b. cond b (option_map (rewritten led.owned.owner (step_now led.row) place rewrite.write.image) (entry_at (within_at start on.step.writes) name)) (entry_at (within_at start on.step.writes) name)) apart)
        ∙ sym (library_so name) ∙ own.at in
        ap (λ (n : ℕ). records_on told desk.layout table.set n) (own.long plain) ∙ within name table own.set among e was (own.content ∙ plain) ∙ sym (own.records plain))
        (λ out.
        let was : entry_at desk.office.tables.sets name ≡ Some table = sym (out-same name out) ∙ e in
        let stands = stands_then name table e in
        as_told table.set table.set.length stands stands.length_fits
        ∙ table-kept desk.layout desk.office.tables.sets names_now on.sets is.kept.events.extents led.sets before after keeps name table table.set.length was (omega arith)
        ∙ had name table was plain
        ∙ sym (out-records name table out e plain))

    -- the records of what is updated, with the record
    told-updated : (table : TableSet) → entry_at then.tables.sets rewrite.name ≡ Some table → slice_set (records_on told desk.layout table.set table.set.length) place bytes ≡ model_records then rewrite.name
    told-updated table e =
        let its : HasUpdated table = updated-records table e in
        ap (λ records. slice_set records place bytes)
        (ap (λ (n : ℕ). records_on told desk.layout table.set n) its.long
        ∙ within rewrite.name table rewrite.rewritten (updated-among desk is before on step led after moved taken place bytes rewrite same stood) e rewrite.stood (updated-plain desk is before on step led after moved taken place bytes rewrite same stood))
        ∙ sym its.records

    -- another data set of the tables lies apart from it
    lies-apart : (name : Name) (table : TableSet) → same_name name rewrite.name ≡ false → entry_at then.tables.sets name ≡ Some table → IsTrue (lie_apart set table.set)
    lies-apart name table apart e =
        let mine = own-table desk before on step led moved.step.writes moved.sets same rewrite.name set found in
        apart-there mine.0.set set table.set mine.2.lies.places (kept.events.extents.apart rewrite.name name mine.0 table (name-equivalence.symm rewrite.name name ∙ apart) mine.1 e)

    -- an image that has the other records, by what it has of what is updated
    module _ (image : List ℕ) (others : (other : DataSet) → StandsIn desk.layout other → IsTrue (lie_apart set other) → (n : ℕ) → n ≤ other.space → records_on image desk.layout other n ≡ records_on told desk.layout other n) where
      apart-committed : (name : Name) (table : TableSet) → same_name name rewrite.name ≡ false → entry_at then.tables.sets name ≡ Some table → table.set.content ≡ Plain → records_on image desk.layout table.set table.set.length ≡ model_records then name
      apart-committed name table apart e plain =
          let stands = stands_then name table e in
          others table.set stands (lies-apart name table apart e) table.set.length stands.length_fits ∙ told-committed name table apart e plain

      -- what it has of what is updated, of the data set in memory and of that of the tables
      in-memory : (change : List (List ℕ) → List (List ℕ)) → ((n : ℕ) → n ≤ set.space → change (records_on image desk.layout set n) ≡ slice_set (records_on told desk.layout set n) place bytes)
          → (table : TableSet) → entry_at then.tables.sets rewrite.name ≡ Some table → change (records_on image desk.layout table.set table.set.length) ≡ model_records then rewrite.name
      in-memory change is_so table e =
          let there = own-table desk before on step led moved.step.writes moved.sets same rewrite.name set found in
          let lies : LiesThere table set = subst (λ (t : TableSet). LiesThere t set) (same_Some there.0 table (sym there.1 ∙ e)) there.2.lies in
          let within_space : table.set.length ≤ set.space = let fits : table.set.length ≤ table.set.space = (stands_then rewrite.name table e).length_fits in omega (arith, fits, lies.space) in
          ap change (sym (same_places image desk.layout table.set set lies.places table.set.length))
          ∙ is_so table.set.length within_space
          ∙ ap (λ records. slice_set records place bytes) (same_places told desk.layout table.set set lies.places table.set.length)
          ∙ told-updated table e

      -- it has what is committed once what is updated is changed so
      pub changed-committed : (change : List (List ℕ) → List (List ℕ)) → ((n : ℕ) → n ≤ set.space → change (records_on image desk.layout set n) ≡ slice_set (records_on told desk.layout set n) place bytes)
          → (name : Name) (table : TableSet) → entry_at then.tables.sets name ≡ Some table → table.set.content ≡ Plain
          → cond (same_name name rewrite.name) (change (records_on image desk.layout table.set table.set.length)) (records_on image desk.layout table.set table.set.length) ≡ model_records then name
      changed-committed change is_so name table e plain =
          bool-cases (same_name name rewrite.name)
          (λ one.
          let it : name ≡ rewrite.name = name-same name rewrite.name one in
          ap (λ b. cond b (change (records_on image desk.layout table.set table.set.length)) (records_on image desk.layout table.set table.set.length)) one
          ∙ in-memory change is_so table (ap (entry_at then.tables.sets) (sym it) ∙ e) ∙ ap (model_records then) (sym it))
          (λ apart.
          ap (λ b. cond b (change (records_on image desk.layout table.set table.set.length)) (records_on image desk.layout table.set table.set.length)) apart
          ∙ apart-committed name table apart e plain)

    -- once the record is written, the image has what is committed
    pub written-committed : (written : List ℕ) → IsWritten desk.layout set place bytes told written → HasCommitted desk.layout then written
    written-committed written wrote name table e plain =
        sym (by (same_name name rewrite.name))
        ∙ changed-committed written (λ other stands apart n le. wrote.others other stands apart n le) (λ records. records) (λ n le. wrote.written n le) name table e plain
      where
        by : (b : Bool) → cond b (records_on written desk.layout table.set table.set.length) (records_on written desk.layout table.set table.set.length) ≡ records_on written desk.layout table.set table.set.length
        by true = refl
        by false = refl
