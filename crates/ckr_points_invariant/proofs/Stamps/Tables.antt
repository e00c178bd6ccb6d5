-- Stamps: what kept events say of the records of the tables, and of an office with other tables.
use Rattle.std.proofs.Common.{◌≡◌, ◌≤◌, ℕ, true, false, if◌then◌else◌, List, [], ◌∷◌, flat_map, take, length, refl, ap, sym, ◌∙◌, subst, Option, Some, None, arith}
use Rattle.std.specs.List.{AllByRecursion}
use Rattle.std.specs.Option.{option_map, option_map_or, is_some}
use Rattle.std.proofs.lemmas.Bool.{false≢true}
use Rattle.std.proofs.lemmas.Option.{same_Some}
use Rattle.ckr_base.proofs.Options.{option-cases, some-not-none}
use Rattle.ckr_base.proofs.Sequences.{each-append, each-implies, find-holds, take-short}
use Rattle.ckr_entry.specs.declared.point.Mark.{Mark}
use Rattle.ckr_entry.specs.declared.point.Present.{Present}
use Rattle.ckr_library.specs.declared.sets.Content.{Content}
use Rattle.ckr_library.specs.declared.sets.Content.TheVariants.{Plain}
use Rattle.ckr_library.specs.declared.sets.Stamp.{Stamp}
use Rattle.ckr_library.specs.NameMaps.{EachEntry, Name, Named, entry_at, same_name}
use Rattle.ckr_meaning.specs.LibrarySet.{LibrarySet, Library}
use Rattle.ckr_meaning.specs.Dispositions.{Stock}
use Rattle.ckr_meaning.specs.EffectiveJob.{flaws_in, is_among, names_of_job}
use Rattle.ckr_meaning.specs.declared.place.Place.{Place}
use Rattle.ckr_meaning.specs.declared.place.Place.TheVariants.{Before, Opened, Within}
use Rattle.ckr_meaning.specs.StepRun.{StepStart, placed_at, within_at, work_at}
use Rattle.ckr_meaning.specs.JobRun.{start_at}
use Rattle.ckr_volumes.specs.declared.layout.Layout.{Layout}
use Rattle.ckr_points.specs.Payload.{writes_in}
use Rattle.ckr_points_invariant.specs.Invariant.{AreAlike, AreBegun, AreStamped, IsAtPlace, HasBegun, IsHolder, IsKept, IsMarkedShort, IsReached, IsShortMark, IsWithinStep, MarksHold, Shape, counted, is_before, library_at_stamp, set_shape, table_shape}
use Rattle.ckr_points.specs.Marks.{carried_marks, mark_at, mark_now, marks_now, own_names, point_at, present_of}
use Rattle.ckr_points.specs.Office.{Leg, Office, holder_of, leg_of, library_for, model_records, standing_at}
use Rattle.ckr_points.specs.Restart.{place_of, step_in}
use Rattle.ckr_points.specs.Rows.{RunRow, StartPoint, TableSet, TablesModel}
use Rattle.ckr_points.specs.Soundness.{IsPrefix, IsShortEnough, StampedAt, marks_of_entries, marks_of_row, records_at_stamp, stamped_writes}
use Rattle.ckr_points_invariant.proofs.Marks.Changes.{marks-hold, point-holds}
use Rattle.ckr_points_invariant.proofs.Holders.Moves.{standing-is}
use Rattle.ckr_points_invariant.proofs.Select.Holders.{free-of, holder-of}

-- the records of a name when the step of a stamp has made its rewrites
records_at : (office : Office) (stamp : Stamp) (name : Name) → records_at_stamp office stamp name ≡ option_map_or (λ set. set.records) (entry_at (library_at_stamp office stamp) name) []
records_at office stamp name = by (leg_of office stamp.run)
  where
    by_start : (start : Option StepStart) → option_map_or (λ start. option_map_or (λ (set : LibrarySet). set.records) (entry_at (within_at start (stamped_writes (work_at start).writes stamp.rewrites)) name) []) start [] ≡ option_map_or (λ (set : LibrarySet). set.records) (entry_at (option_map_or (λ start. within_at start (stamped_writes (work_at start).writes stamp.rewrites)) start []) name) []
    by_start None = refl
    by_start (Some start) = refl

    by : (leg : Option Leg) → option_map_or (λ (leg : Leg). option_map_or (λ start. option_map_or (λ (set : LibrarySet). set.records) (entry_at (within_at start (stamped_writes (work_at start).writes stamp.rewrites)) name) []) (start_at leg.job leg.start stamp.step) []) leg [] ≡ option_map_or (λ (set : LibrarySet). set.records) (entry_at (option_map_or (λ (leg : Leg). option_map_or (λ start. within_at start (stamped_writes (work_at start).writes stamp.rewrites)) (start_at leg.job leg.start stamp.step) []) leg []) name) []
    by None = refl
    by (Some leg) = by_start (start_at leg.job leg.start stamp.step)

-- ---- another office with the same legs

pub same-library : (office other : Office) (stamp : Stamp) → leg_of other stamp.run ≡ leg_of office stamp.run → library_at_stamp other stamp ≡ library_at_stamp office stamp
same-library office other stamp same =
    ap (λ (o : Option Leg). option_map_or (λ leg. option_map_or (λ start. within_at start (stamped_writes (work_at start).writes stamp.rewrites)) (start_at leg.job leg.start stamp.step) []) o []) same

pub begun-legs : (office other : Office) (name : Name) (set : LibrarySet) → leg_of other set.stamp.run ≡ leg_of office set.stamp.run → HasBegun office name set → HasBegun other name set
begun-legs office other name set same begun = record {
  last = begun.last;
  found = ap (λ library. entry_at library name) (same-library office other set.stamp same) ∙ begun.found;
  content = begun.content;
  lrecl = begun.lrecl;
  space = begun.space;
  begins = begun.begins;
}

pub short-legs : (office other : Office) (name : Name) (present : Present) → leg_of other present.stamp.run ≡ leg_of office present.stamp.run → IsShortMark office name present → IsShortMark other name present
short-legs office other name present same short = record {
  led = ap is_some same ∙ short.led;
  short = λ last found plain. short.short last (ap (λ library. entry_at library name) (sym (same-library office other present.stamp same)) ∙ found) plain;
}

pub each-weaker : {X : Type 0} (P Q : X → Type 0) (named : Named X) → ((x : X) → P x → Q x) → EachEntry P named → EachEntry Q named
each-weaker P Q [] weaker each = tt
each-weaker P Q (entry ∷ rest) weaker each = (weaker entry.1 each.0, each-weaker P Q rest weaker each.1)

pub marks-weaker : (P Q : Mark → Type 0) (tables : TablesModel) → ((mark : Mark) → P mark → Q mark) → MarksHold P tables → MarksHold Q tables
marks-weaker P Q tables weaker holds = record {
  rows = each-implies (λ row. AllByRecursion P (marks_of_row row)) (λ row. AllByRecursion Q (marks_of_row row)) tables.runs (λ row. each-implies P Q (marks_of_row row) weaker) holds.rows;
  entries = each-weaker (λ (table : TableSet). AllByRecursion P (marks_of_entries table)) (λ (table : TableSet). AllByRecursion Q (marks_of_entries table)) tables.sets (λ table. each-implies P Q (marks_of_entries table) weaker) holds.entries;
}

-- other tables, and another library
pub stamped-on : (office : Office) (tables : TablesModel) (library : Library) → AreStamped office → AreBegun office library → MarksHold (IsMarkedShort office) tables → AreStamped (record office { tables = tables; library = library })
stamped-on office tables library stamps begun marks =
    let other : Office = record office { tables = tables; library = library } in
    record {
      begun = λ name set e. begun-legs office other name set refl (begun name set e);
      places = λ number leg place led reached name set e. begun-legs office other name set refl (stamps.places number leg place led reached name set e);
      marks = marks-weaker (IsMarkedShort office) (IsMarkedShort other) tables (λ mark short present e. short-legs office other mark.name present refl (short present e)) marks;
    }

-- ---- the data sets of the tables

-- a holder stands at a place to which its job comes
pub reached-now : (tables : TablesModel) (row : RunRow) (leg : Leg) → IsAtPlace tables row leg → IsReached leg (place_of row)
reached-now tables row leg place = record {
  begun = place.begun;
  goes_on = place.goes_on;
  flawless = λ start. flaws (place_of row) place.within start;
  some = λ start. some (place_of row) place.within start;
}
  where
    flaws : (its : Place) → IsWithinStep row leg its → (start : StepStart) → is_before its ≡ false → start_at leg.job leg.start (step_in its) ≡ Some start → flaws_in (placed_at start) ≡ []
    flaws (Before step) within start behind e = absurd (false≢true (sym behind))
    flaws (Opened step) within start behind e = within start e
    flaws (Within step writes) within start behind e = (within start e).flawless

    some : (its : Place) → IsWithinStep row leg its → (start : StepStart) → start_at leg.job leg.start (step_in its) ≡ Some start → writes_in its ≤ length (work_at start).writes
    some (Before step) within start e = omega arith
    some (Opened step) within start e = omega arith
    some (Within step writes) within start e = (within start e).done

-- what the tables stand for at a name
pub library-begun : (layout : Layout) (office : Office) (name : Name) → IsKept layout office → AreAlike office.tables.sets (library_for office name) name × ((set : LibrarySet) → entry_at (library_for office name) name ≡ Some set → HasBegun office name set)
library-begun layout office name kept =
    option-cases (holder_of office name)
    (λ none.
    subst Stands (sym none) (kept.events.free name (free-of layout office name kept.events none), λ set e. kept.stamps.begun name set e))
    (λ leg found.
    let its = holder-of layout office name leg kept.events found in
    let holder : IsHolder office leg.number its.0 leg = its.1.holder in
    subst Stands (sym found) (
      kept.events.held leg.number its.0 leg name holder its.1.among,
      λ set e.
          kept.stamps.places leg.number leg (place_of its.0) holder.leg_at (reached-now office.tables its.0 leg (kept.events.places leg.number its.0 leg holder)) name set
          (ap (λ (standing : Stock LibrarySet). entry_at standing.sets name) (sym (standing-is office leg.number its.0 leg holder.row_at holder.leg_at)) ∙ e),
    ))
  where
    Stands : Option Leg → Type 0
    Stands leg =
        let library : Library = option_map_or (λ leg. (standing_at office leg).sets) leg office.library in
        AreAlike office.tables.sets library name × ((set : LibrarySet) → entry_at library name ≡ Some set → HasBegun office name set)

pub prefix_length : {A : Type 0} (first second : List A) → IsPrefix first second → length first ≤ length second
prefix_length first second begins = let e : length (take (length first) second) ≤ length second = take-short (length first) second in let same : length (take (length first) second) ≡ length first = ap length begins in omega (arith, e, same)

-- a leg that a stamp has
pub led-by-begun : (office : Office) (name : Name) (set : LibrarySet) → HasBegun office name set → is_some (leg_of office set.stamp.run) ≡ true
led-by-begun office name set begun =
    option-cases (leg_of office set.stamp.run)
    (λ none. absurd (some-not-none begun.last (sym begun.found ∙ ap (λ (o : Option Leg). entry_at (option_map_or (λ leg. option_map_or (λ start. within_at start (stamped_writes (work_at start).writes set.stamp.rewrites)) (start_at leg.job leg.start set.stamp.step) []) o []) name) none)))
    (λ leg e. ap is_some e)

plain_length : (content : Content) (table set : ℕ) → counted content table ≡ counted content set → content ≡ Plain → table ≡ set
plain_length content table set e plain = sym (ap (λ c. counted c table) plain) ∙ e ∙ ap (λ c. counted c set) plain

-- what is said of a data set that is alike is short enough
pub short-of : (office : Office) (name : Name) (table : TableSet) (set : LibrarySet) → table_shape table ≡ set_shape set → HasBegun office name set → IsShortMark office name (present_of table)
short-of office name table set same begun =
    let stamp : table.set.stamp ≡ set.stamp = ap (λ (shape : Shape). shape.stamp) same in
    record {
      led = ap (λ (stamp : Stamp). is_some (leg_of office stamp.run)) stamp ∙ led-by-begun office name set begun;
      short = λ last found plain.
          let it : begun.last ≡ last = same_Some begun.last last (sym begun.found ∙ ap (λ stamp. entry_at (library_at_stamp office stamp) name) (sym stamp) ∙ found) in
          let content : set.content ≡ Plain = sym begun.content ∙ ap (λ (s : LibrarySet). s.content) it ∙ plain in
          let long : table.set.length ≡ length set.records =
          plain_length set.content table.set.length (length set.records)
          (ap (λ content. counted content table.set.length) (sym (ap (λ (shape : Shape). shape.content) same)) ∙ ap (λ (shape : Shape). shape.length) same) content
          in
          let begins : length set.records ≤ length begun.last.records = prefix_length set.records begun.last.records begun.begins in
          let same_last : length begun.last.records ≡ length last.records = ap (λ (s : LibrarySet). length s.records) it in
          omega (arith, long, begins, same_last);
    }

pub alike_set : (table : TableSet) (set : Option LibrarySet) → Some (table_shape table) ≡ option_map set_shape set → (its : LibrarySet) × (set ≡ Some its) × (table_shape table ≡ set_shape its)
alike_set table None e = absurd (some-not-none (table_shape table) e)
alike_set table (Some set) e = (set, refl, same_Some (table_shape table) (set_shape set) e)

-- each data set of the tables is
pub table-short : (layout : Layout) (office : Office) (name : Name) (table : TableSet) → IsKept layout office → entry_at office.tables.sets name ≡ Some table → IsShortMark office name (present_of table)
table-short layout office name table kept e =
    let stands = library-begun layout office name kept in
    let its = alike_set table (entry_at (library_for office name) name) (ap (option_map table_shape) (sym e) ∙ stands.0) in
    short-of office name table its.0 its.2 (stands.1 its.0 its.1)

-- ---- so kept events are sound by their stamps

flat_all : {X : Type 0} (P : Mark → Type 0) (f : X → List Mark) (xs : List X) → AllByRecursion (λ x. AllByRecursion P (f x)) xs → AllByRecursion P (flat_map f xs)
flat_all P f [] each = tt
flat_all P f (x ∷ xs) each = each-append P (f x) (flat_map f xs) each.0 (flat_all P f xs each.1)

entries_all : (P : Mark → Type 0) (sets : Named TableSet) → EachEntry (λ (table : TableSet). AllByRecursion P (marks_of_entries table)) sets → AllByRecursion P (flat_map (λ entry. marks_of_entries entry.1) sets)
entries_all P [] each = tt
entries_all P (entry ∷ rest) each = each-append P (marks_of_entries entry.1) _ each.0 (entries_all P rest each.1)

pub kept-stamped : (layout : Layout) (office : Office) → IsKept layout office → (name : Name) (table : TableSet) → entry_at office.tables.sets name ≡ Some table → table.set.content ≡ Plain → StampedAt office name table
kept-stamped layout office kept name table e plain =
    let stands = library-begun layout office name kept in
    let its = alike_set table (entry_at (library_for office name) name) (ap (option_map table_shape) (sym e) ∙ stands.0) in
    let begun : HasBegun office name its.0 = stands.1 its.0 its.1 in
    let stamp : table.set.stamp ≡ its.0.stamp = ap (λ (shape : Shape). shape.stamp) its.2 in
    let found : entry_at (library_at_stamp office table.set.stamp) name ≡ Some begun.last = ap (λ stamp. entry_at (library_at_stamp office stamp) name) stamp ∙ begun.found in
    let last : records_at_stamp office table.set.stamp name ≡ begun.last.records = records_at office table.set.stamp name ∙ ap (λ (o : Option LibrarySet). option_map_or (λ (set : LibrarySet). set.records) o []) found in
    let now : model_records office name ≡ its.0.records = ap (λ (o : Option LibrarySet). option_map_or (λ (set : LibrarySet). set.records) o []) its.1 in
    record {
      begins =
          ap (λ records. take (length records) (records_at_stamp office table.set.stamp name)) now
          ∙ ap (take (length its.0.records)) last ∙ begun.begins ∙ sym now;
      marked =
          each-append (IsShortEnough name table.set.stamp (length (records_at_stamp office table.set.stamp name))) _ _
          (flat_all (IsShortEnough name table.set.stamp (length (records_at_stamp office table.set.stamp name))) marks_of_row office.tables.runs
          (marks-weaker (IsMarkedShort office) (IsShortEnough name table.set.stamp (length (records_at_stamp office table.set.stamp name))) office.tables (short_enough begun.last found last (begun.content ∙ sym (ap (λ (shape : Shape). shape.content) its.2) ∙ plain)) kept.stamps.marks).rows)
          (entries_all (IsShortEnough name table.set.stamp (length (records_at_stamp office table.set.stamp name))) office.tables.sets
          (marks-weaker (IsMarkedShort office) (IsShortEnough name table.set.stamp (length (records_at_stamp office table.set.stamp name))) office.tables (short_enough begun.last found last (begun.content ∙ sym (ap (λ (shape : Shape). shape.content) its.2) ∙ plain)) kept.stamps.marks).entries);
    }
  where
    short_enough : (last : LibrarySet) → entry_at (library_at_stamp office table.set.stamp) name ≡ Some last → records_at_stamp office table.set.stamp name ≡ last.records → last.content ≡ Plain → (mark : Mark) → IsMarkedShort office mark → IsShortEnough name table.set.stamp (length (records_at_stamp office table.set.stamp name)) mark
    short_enough last found records content mark short named present e same =
        subst (λ (n : ℕ). present.length ≤ n) (sym (ap length records))
        ((short present e).short last (ap (λ n. entry_at (library_at_stamp office present.stamp) n) named ∙ ap (λ stamp. entry_at (library_at_stamp office stamp) name) same ∙ found) content)

-- ---- the marks of a point

-- the marks of a point that is taken now are short
pub marks-short : (office : Office) (row : RunRow) (sets : Named TableSet) → ((name : Name) (table : TableSet) → entry_at sets name ≡ Some table → IsShortMark office name (present_of table)) → AllByRecursion (IsMarkedShort office) (marks_of_row row) → AllByRecursion (IsMarkedShort office) (marks_now row sets)
marks-short office row sets each mine =
    marks-hold (IsMarkedShort office) (λ name. if is_among (own_names row) name then mark_now sets name else option_map_or (λ mark. mark) (mark_at (carried_marks row) name) (mark_now sets name)) (names_of_job row.job) one
  where
    now : (name : Name) → IsMarkedShort office (mark_now sets name)
    now name present e = by (entry_at sets name) refl e
      where
        by : (entry : Option TableSet) → entry_at sets name ≡ entry → option_map present_of entry ≡ Some present → IsShortMark office name present
        by None is e = absurd (some-not-none present (sym e))
        by (Some table) is e = subst (IsShortMark office name) (same_Some (present_of table) present e) (each name table is)

    carried : AllByRecursion (IsMarkedShort office) (carried_marks row)
    carried =
        option-cases (point_at row.points row.earlier_step)
        (λ none. subst (λ (o : Option StartPoint). AllByRecursion (IsMarkedShort office) (option_map_or (λ point. point.marks) o [])) (sym none) tt)
        (λ point e. subst (λ (o : Option StartPoint). AllByRecursion (IsMarkedShort office) (option_map_or (λ point. point.marks) o [])) (sym e) (point-holds (IsMarkedShort office) row.points row.earlier_step point mine e))

    one : (name : Name) → IsMarkedShort office (if is_among (own_names row) name then mark_now sets name else option_map_or (λ mark. mark) (mark_at (carried_marks row) name) (mark_now sets name))
    one name =
        elim (is_among (own_names row) name) as (λ b. IsMarkedShort office (if b then mark_now sets name else option_map_or (λ mark. mark) (mark_at (carried_marks row) name) (mark_now sets name))) [
          | true ↦ now name
          | false ↦
              option-cases (mark_at (carried_marks row) name)
              (λ none. subst (λ (o : Option Mark). IsMarkedShort office (option_map_or (λ mark. mark) o (mark_now sets name))) (sym none) (now name))
              (λ mark e. subst (λ (o : Option Mark). IsMarkedShort office (option_map_or (λ mark. mark) o (mark_now sets name))) (sym e) (find-holds (IsMarkedShort office) (λ one. same_name name one.name) (carried_marks row) mark carried e))
        ]
