-- The record that the last event tells, written again at opening.
use Rattle.std.proofs.Common.{◌≡◌, ◌≤◌, ◌<◌, ◌==◌, ◌&&◌, ℕ, Bool, true, false, cond, IsTrue, List, length, Option, Some, None, refl, sym, ap, ◌∙◌, subst, slice_set, nat_lt, arith}
use Rattle.std.specs.Option.{option_map_or}
use Rattle.std.proofs.lemmas.Bool.{and_from, false≢true}
use Rattle.std.proofs.lemmas.Bool.Decides.{nat_tests}
use Rattle.std.proofs.lemmas.Option.{same_Some}
use Rattle.ckr_base.proofs.Bools.{and-first}
use Rattle.ckr_base.proofs.Numbers.{equal-itself}
use Rattle.ckr_base.proofs.Options.{some-not-none}
use Rattle.ckr_base.proofs.Sequences.{set-again}
use Rattle.arrayvec.specs.ArrayVec.{ArrayVec}
use Rattle.ckr_events.specs.declared.event.Event.{Event}
use Rattle.ckr_events.specs.declared.event.Event.TheVariants.{Rewritten}
use Rattle.ckr_desk_refines.specs.Memory.Rewrite.{updated_by}
use Rattle.ckr_desk_refines.specs.Commits.{HasCommitted}
use Rattle.ckr_library.specs.declared.sets.Content.{Content}
use Rattle.ckr_library.specs.declared.sets.Content.TheVariants.{Checkpoints, Plain}
use Rattle.ckr_library.specs.declared.sets.DataSet.{DataSet}
use Rattle.ckr_library.specs.NameMaps.{Name, entry_at, same_name}
use Rattle.ckr_library.proofs.Named.{each-at, name-equivalence, name-same}
use Rattle.ckr_points.specs.Office.{Office, model_records}
use Rattle.ckr_points.specs.RuleCases.{is_plain}
use Rattle.ckr_points.specs.Rows.{RunRow, TableSet, TablesModel, run_of}
use Rattle.ckr_points_invariant.specs.Invariant.{IsKept}
use Rattle.ckr_desk_refines.specs.RewriteRecord.{HasCommittedAgain, HasLast, RewriteRecord, again, any_rewrite, rewrite_of}
use Rattle.ckr_desk_refines.specs.Moves.{DiffersAt, IsWritten}
use Rattle.ckr_volumes.specs.declared.layout.Layout.{Layout}
use Rattle.ckr_volumes.specs.Lists.{one_record}
use Rattle.ckr_volumes.specs.Records.{record_at, records_on}
use Rattle.ckr_volumes.specs.Layouts.{StandsIn, lie_apart}
use Rattle.ckr_desk.proofs.Openings.Lengths.{HaveLengths, record-fits}
use Rattle.ckr_desk.specs.Replay.{fits_name, fits_row, fits_set, has_record}
use Rattle.ckr_desk.specs.Rewrite.{IsWrittenBy, LacksAtMost}

plain-from : (content : Content) → is_plain content ≡ true → content ≡ Plain
plain-from Plain is = refl
plain-from Checkpoints is = absurd (false≢true is)

-- a record that the tables have, in a data set that holds records
pub record IsDue (tables : TablesModel) (event : Event) : Type 0 where
  pub its : RewriteRecord
  pub told : rewrite_of tables event ≡ Some its
  pub table : TableSet
  pub at : entry_at tables.sets its.name ≡ Some table
  pub plain : table.set.content ≡ Plain
  pub written : (layout : Layout) (before after : List ℕ) → IsWrittenBy layout tables event before after → IsWritten layout table.set its.place its.image before after
  pub lacks : (layout : Layout) (before image : List ℕ) → LacksAtMost layout tables event before image → DiffersAt layout table.set its.place before image

module _ (tables : TablesModel) (job taken writes : ℕ) (lengths : ArrayVec ℕ) (place : ℕ) (image : List ℕ) where
  abbrev its_event : Event
  its_event = Rewritten job taken writes lengths place image

  -- by its run, and by the data set that the run's step updates
  pub due-so : (row : RunRow) (name : Name) (table : TableSet) → run_of tables job ≡ Some row → updated_by row ≡ Some name → entry_at tables.sets name ≡ Some table → table.set.content ≡ Plain → IsDue tables its_event
  due-so row name table run updated at plain = record {
    its = record { name = name; place = place; image = image };
    told = ap (λ o. option_map_or (λ row. option_map_or (λ name. Some (record { name = name; place = place; image = image })) (updated_by row) None) o None) run
        ∙ ap (λ o. option_map_or (λ name. Some (record { name = name; place = place; image = image })) o None) updated;
    table = table;
    at = at;
    plain = plain;
    written = λ layout before after by. by row name table run updated at;
    lacks = λ layout before after by. by row name table run updated at;
  }

  due-table : (row : RunRow) (name : Name) → run_of tables job ≡ Some row → updated_by row ≡ Some name → (entry : Option TableSet) → entry_at tables.sets name ≡ entry
      → option_map_or (fits_set place image) entry false ≡ true → IsDue tables its_event
  due-table row name run updated None at fits = absurd (false≢true fits)
  due-table row name run updated (Some table) at fits =
      due-so row name table run updated at (plain-from table.set.content (and-first (is_plain table.set.content) (nat_lt place table.set.space && (length image == table.set.lrecl)) fits))

  due-name : (row : RunRow) → run_of tables job ≡ Some row → (name : Option Name) → updated_by row ≡ name → option_map_or (fits_name tables place image) name false ≡ true → IsDue tables its_event
  due-name row run None updated fits = absurd (false≢true fits)
  due-name row run (Some name) updated fits = due-table row name run updated (entry_at tables.sets name) refl fits

  due-row : (row : Option RunRow) → run_of tables job ≡ row → option_map_or (fits_row tables place image) row false ≡ true → IsDue tables its_event
  due-row None run fits = absurd (false≢true fits)
  due-row (Some row) run fits = due-name row run (updated_by row) refl fits

  told-name : (its : RewriteRecord) (table : TableSet) → entry_at tables.sets its.name ≡ Some table → (name : Option Name)
      → option_map_or (λ name. Some (record { name = name; place = place; image = image })) name None ≡ Some its → fits_set its.place its.image table ≡ option_map_or (fits_name tables place image) name false
  told-name its table at None is = absurd (some-not-none its (sym is))
  told-name its table at (Some name) is =
      let same : record { name = name; place = place; image = image } ≡ its = same_Some (record { name = name; place = place; image = image }) its is in
      ap (λ (r : RewriteRecord). fits_set r.place r.image table) (sym same)
      ∙ ap (λ o. option_map_or (fits_set place image) o false) (sym at ∙ ap (λ (r : RewriteRecord). entry_at tables.sets r.name) (sym same))

  told-row : (its : RewriteRecord) (table : TableSet) → entry_at tables.sets its.name ≡ Some table → (row : Option RunRow)
      → option_map_or (λ row. option_map_or (λ name. Some (record { name = name; place = place; image = image })) (updated_by row) None) row None ≡ Some its
      → fits_set its.place its.image table ≡ option_map_or (fits_row tables place image) row false
  told-row its table at None is = absurd (some-not-none its (sym is))
  told-row its table at (Some row) is = told-name its table at (updated_by row) is

pub due : (tables : TablesModel) (event : Event) → has_record tables event ≡ true → IsDue tables event
due tables (Rewritten job taken writes lengths place image) has = due-row tables job taken writes lengths place image (run_of tables job) refl has
due tables _ has = absurd (false≢true has)

told-fits : (tables : TablesModel) (event : Event) (its : RewriteRecord) (table : TableSet) → rewrite_of tables event ≡ Some its → entry_at tables.sets its.name ≡ Some table
    → fits_set its.place its.image table ≡ has_record tables event
told-fits tables (Rewritten job taken writes lengths place image) its table is at = told-row tables job taken writes lengths place image its table at (run_of tables job) is
told-fits tables _ its table is at = absurd (some-not-none its (sym is))

fits-so : (place : ℕ) (image : List ℕ) (table : TableSet) → table.set.content ≡ Plain → place < table.set.space → length image ≡ table.set.lrecl → fits_set place image table ≡ true
fits-so place image table plain within long =
    and_from (is_plain table.set.content) _ (ap is_plain plain)
    (ap (λ b. b && (length image == table.set.lrecl)) (below place table.set.space within) ∙ ap (λ n. n == table.set.lrecl) long ∙ equal-itself table.set.lrecl)
  where
    below : (one other : ℕ) → one < other → nat_lt one other ≡ true
    below one other less = grind (arith, nat_tests, less)

-- records that differ at one place alone are the same once that one is written
same-but : (old new : List ℕ) (layout : Layout) (set : DataSet) (n place : ℕ) (bytes : List ℕ)
    → ((at : ℕ) → at < n → (at ≡ place → ⊥) → record_at new layout set at ≡ record_at old layout set at)
    → slice_set (records_on new layout set n) place bytes ≡ slice_set (records_on old layout set n) place bytes
same-but old new layout set n place bytes same =
    ap (λ records. slice_set records place bytes) (one_record old new layout set place (record_at new layout set place) n same refl)
    ∙ set-again (records_on old layout set n) place (record_at new layout set place) bytes

module _ (layout : Layout) (office : Office) (content : List ℕ) (kept : IsKept layout office) where
  stands-at : (name : Name) (table : TableSet) → entry_at office.tables.sets name ≡ Some table → StandsIn layout table.set
  stands-at name table at = each-at (λ (table : TableSet). StandsIn layout table.set) office.tables.sets kept.events.extents.stand name table at

  module _ (event : Event) (is : IsDue office.tables event) (committed : HasCommittedAgain layout office (Some event) content) where
    its-again : (name : Name) (table : TableSet) → entry_at office.tables.sets name ≡ Some table → table.set.content ≡ Plain
        → again (Some is.its) name (records_on content layout table.set table.set.length) ≡ model_records office name
    its-again name table at plain = ap (λ r. again r name (records_on content layout table.set table.set.length)) (sym is.told) ∙ committed name table at plain

    same-table : (name : Name) (table : TableSet) → entry_at office.tables.sets name ≡ Some table → same_name name is.its.name ≡ true → is.table ≡ table
    same-table name table at same = same_Some is.table table (sym is.at ∙ ap (entry_at office.tables.sets) (sym (name-same name is.its.name same)) ∙ at)

    apart-so : (name : Name) (table : TableSet) → entry_at office.tables.sets name ≡ Some table → same_name name is.its.name ≡ false → IsTrue (lie_apart is.table.set table.set)
    apart-so name table at other = kept.events.extents.apart is.its.name name is.table table (name-equivalence.symm is.its.name name ∙ other) is.at at

    -- behind the write
    pub committed-written : (after : List ℕ) → IsWritten layout is.table.set is.its.place is.its.image content after → HasCommitted layout office after
    committed-written after written = λ (name : Name) (table : TableSet) at plain.
        by name table at (stands-at name table at) (its-again name table at plain) (same_name name is.its.name) refl
      where
        by : (name : Name) (table : TableSet) → entry_at office.tables.sets name ≡ Some table → StandsIn layout table.set
            → again (Some is.its) name (records_on content layout table.set table.set.length) ≡ model_records office name
            → (b : Bool) → same_name name is.its.name ≡ b → records_on after layout table.set table.set.length ≡ model_records office name
        by name table at stands has true same =
            subst (λ (t : TableSet). t.set.length ≤ t.set.space → records_on after layout t.set t.set.length ≡ slice_set (records_on content layout t.set t.set.length) is.its.place is.its.image)
            (same-table name table at same) (λ fits. written.written is.table.set.length fits) stands.length_fits
            ∙ ap (λ b. cond b (slice_set (records_on content layout table.set table.set.length) is.its.place is.its.image) (records_on content layout table.set table.set.length)) (sym same)
            ∙ has
        by name table at stands has false other =
            written.others table.set stands (apart-so name table at other) table.set.length stands.length_fits
            ∙ ap (λ b. cond b (slice_set (records_on content layout table.set table.set.length) is.its.place is.its.image) (records_on content layout table.set table.set.length)) (sym other)
            ∙ has

    -- meanwhile
    pub again-lacking : (image : List ℕ) → DiffersAt layout is.table.set is.its.place content image → HasCommittedAgain layout office (Some event) image
    again-lacking image differs = λ (name : Name) (table : TableSet) at plain.
        ap (λ r. again r name (records_on image layout table.set table.set.length)) is.told
        ∙ by name table at (stands-at name table at) (same_name name is.its.name) refl
        ∙ its-again name table at plain
      where
        by : (name : Name) (table : TableSet) → entry_at office.tables.sets name ≡ Some table → StandsIn layout table.set → (b : Bool) → same_name name is.its.name ≡ b
            → cond b (slice_set (records_on image layout table.set table.set.length) is.its.place is.its.image) (records_on image layout table.set table.set.length)
            ≡ cond b (slice_set (records_on content layout table.set table.set.length) is.its.place is.its.image) (records_on content layout table.set table.set.length)
        by name table at stands true same =
            let here : DiffersAt layout table.set is.its.place content image = subst (λ (t : TableSet). DiffersAt layout t.set is.its.place content image) (same-table name table at same) differs in
            same-but content image layout table.set table.set.length is.its.place is.its.image (λ at less other. here.records at (omega (arith, less, stands.length_fits)) other)
        by name table at stands false other = differs.others table.set stands (apart-so name table at other) table.set.length stands.length_fits

  -- with nothing to write
  pub committed-already : (last : Option Event) → HaveLengths office → HasLast office last → HasCommittedAgain layout office last content
      → ((event : Event) → last ≡ Some event → has_record office.tables event ≡ false) → HasCommitted layout office content
  committed-already last have there committed none = λ (name : Name) (table : TableSet) at plain.
      by name table at plain (any_rewrite office.tables last) refl (committed name table at plain)
    where
      at-none : (its : RewriteRecord) (table : TableSet) → (last' : Option Event) → last ≡ last' → any_rewrite office.tables last' ≡ Some its → entry_at office.tables.sets its.name ≡ Some table
          → fits_set its.place its.image table ≡ false
      at-none its table None same told at = absurd (some-not-none its (sym told))
      at-none its table (Some event) same told at = told-fits office.tables event its table told at ∙ none event same

      not-there : (name : Name) (table : TableSet) → entry_at office.tables.sets name ≡ Some table → table.set.content ≡ Plain → (its : RewriteRecord) → any_rewrite office.tables last ≡ Some its
          → same_name name its.name ≡ true → ⊥
      not-there name table at plain its told same =
          let here : entry_at office.tables.sets its.name ≡ Some table = ap (entry_at office.tables.sets) (sym (name-same name its.name same)) ∙ at in
          let fits = record-fits layout office its.name table its.place its.image kept have here plain (there its told) in
          false≢true (sym (at-none its table last refl told here) ∙ fits-so its.place its.image table plain fits.0 fits.1)

      by : (name : Name) (table : TableSet) → entry_at office.tables.sets name ≡ Some table → table.set.content ≡ Plain → (rewrite : Option RewriteRecord) → any_rewrite office.tables last ≡ rewrite
          → again (any_rewrite office.tables last) name (records_on content layout table.set table.set.length) ≡ model_records office name
          → records_on content layout table.set table.set.length ≡ model_records office name
      by name table at plain None told has = ap (λ r. again r name (records_on content layout table.set table.set.length)) (sym told) ∙ has
      by name table at plain (Some its) told has = under (same_name name its.name) refl
        where
          under : (b : Bool) → same_name name its.name ≡ b → records_on content layout table.set table.set.length ≡ model_records office name
          under true same = absurd (not-there name table at plain its told same)
          under false other =
              ap (λ b. cond b (slice_set (records_on content layout table.set table.set.length) its.place its.image) (records_on content layout table.set table.set.length)) (sym other)
              ∙ ap (λ r. again r name (records_on content layout table.set table.set.length)) (sym told)
              ∙ has
