-- Kept events are sound: names agree, and passed lists.
use Rattle.std.proofs.Common.{◌≡◌, ℕ, List, [], length, refl, ap, sym, ◌∙◌, subst, Option, Some, None}
use Rattle.std.specs.List.{AllByRecursion}
use Rattle.std.specs.Option.{option_map, option_map_or}
use Rattle.std.proofs.lemmas.Option.{same_Some}
use Rattle.ckr_base.proofs.Options.{option-cases, some-not-none}
use Rattle.ckr_base.proofs.Sequences.{each-implies}
use Rattle.ckr_library.specs.declared.sets.Content.{Content}
use Rattle.ckr_library.specs.declared.sets.Content.TheVariants.{Plain, Checkpoints}
use Rattle.ckr_library.specs.NameMaps.{Name, entry_at}
use Rattle.ckr_meaning.specs.declared.place.Place.{Place}
use Rattle.ckr_meaning.specs.declared.place.Place.TheVariants.{Before, Opened, Within}
use Rattle.ckr_meaning.specs.LibrarySet.{Library, LibrarySet}
use Rattle.ckr_meaning.specs.Dispositions.{Stock}
use Rattle.ckr_meaning.specs.EffectiveJob.{Effective, OwnedStep, step_at}
use Rattle.ckr_meaning.specs.StepRun.{StepStart, opened_at, within_at}
use Rattle.ckr_meaning.specs.JobRun.{at, start_at, start_in, walk_before, with_sets}
use Rattle.ckr_volumes.specs.declared.layout.Layout.{Layout}
use Rattle.ckr_points_invariant.specs.Invariant.{AreAlike, IsHolder, IsAgreed, IsKnownLeg, Shape, counted, set_shape, table_shape}
use Rattle.ckr_points.specs.Marks.{without_passed}
use Rattle.ckr_points.specs.Office.{Leg, Office, holder_of, library_for, standing_at}
use Rattle.ckr_points.specs.Restart.{place_of, step_in}
use Rattle.ckr_points.specs.Rows.{TableSet}
use Rattle.ckr_points.specs.Soundness.{AgreesAt, HasLength, PassedAgrees, as_compared, as_set}
use Rattle.ckr_points_invariant.proofs.Holders.Moves.{standing-is}
use Rattle.ckr_points_invariant.proofs.Select.Holders.{free-of, holder-of}

-- ---- names

records_by : Content → List (List ℕ) → List (List ℕ)
records_by Plain records = records
records_by Checkpoints records = []

rebuilt : Shape → List (List ℕ) → LibrarySet
rebuilt shape records = record {
  cataloged = shape.cataloged;
  lrecl = shape.lrecl;
  space = shape.space;
  content = shape.content;
  stamp = shape.stamp;
  records = records;
}

table_rebuilt : (content : Content) (table : TableSet) (records : List (List ℕ)) → as_set content table.set records ≡ rebuilt (table_shape table) (records_by content records)
unfolding rebuilt records_by
table_rebuilt Plain table records = refl
table_rebuilt Checkpoints table records = refl

set_rebuilt : (content : Content) (set : LibrarySet) → as_compared content set ≡ rebuilt (set_shape set) (records_by content set.records)
unfolding rebuilt records_by
set_rebuilt Plain set = refl
set_rebuilt Checkpoints set = refl

abbrev records_at : Option LibrarySet → List (List ℕ)
records_at set = option_map_or (λ (set : LibrarySet). set.records) set []

seen-compared : (table : Option TableSet) (set : Option LibrarySet) → option_map table_shape table ≡ option_map set_shape set → option_map (λ table. as_set table.set.content table.set (records_at set)) table ≡ option_map (λ set. as_compared set.content set) set
seen-compared None None e = refl
seen-compared None (Some set) e = absurd (some-not-none (set_shape set) (sym e))
seen-compared (Some table) None e = absurd (some-not-none (table_shape table) e)
seen-compared (Some table) (Some set) e =
    let same : table_shape table ≡ set_shape set = same_Some _ _ e in
    ap Some (
    table_rebuilt table.set.content table set.records
    ∙ ap (λ (shape : Shape). rebuilt shape (records_by shape.content set.records)) same
    ∙ sym (set_rebuilt set.content set))

long_by : (content : Content) (now most : ℕ) → counted content most ≡ counted content now → HasLength content now most
long_by Plain now most e = sym e
long_by Checkpoints now most e = tt

long-enough : (table : TableSet) (set : Option LibrarySet) → option_map table_shape (Some table) ≡ option_map set_shape set → HasLength table.set.content (length (records_at set)) table.set.length
long-enough table None e = absurd (some-not-none (table_shape table) e)
long-enough table (Some set) e =
    let same : table_shape table ≡ set_shape set = same_Some _ _ e in
    long_by table.set.content (length set.records) table.set.length
    (ap (λ (shape : Shape). shape.length) same ∙ ap (λ content. counted content (length set.records)) (ap (λ (shape : Shape). shape.content) (sym same)))

agrees-by : (office : Office) (name : Name) → AreAlike office.tables.sets (library_for office name) name → AgreesAt office name
agrees-by office name alike = record {
  agrees = seen-compared (entry_at office.tables.sets name) (entry_at (library_for office name) name) alike;
  long = λ table found. long-enough table (entry_at (library_for office name) name) (ap (option_map table_shape) (sym found) ∙ alike);
}

abbrev library_by : Office → Option Leg → Library
library_by office leg = option_map_or (λ leg. (standing_at office leg).sets) leg office.library

pub kept-agrees : (layout : Layout) (office : Office) → IsAgreed layout office → (name : Name) → AgreesAt office name
kept-agrees layout office kept name =
    agrees-by office name
    (option-cases (holder_of office name)
    (λ none. subst (λ leg. AreAlike office.tables.sets (library_by office leg) name) (sym none) (kept.free name (free-of layout office name kept none)))
    (λ leg found.
    let its = holder-of layout office name leg kept found in
    subst (λ leg. AreAlike office.tables.sets (library_by office leg) name) (sym found) (kept.held leg.number its.0 leg name its.1.holder its.1.among)))

-- ---- passed lists

pub at-passed : (job : Effective) (library : Library) (place : Place) → (at job library place).passed ≡ (walk_before job library (step_in place)).standing.passed
unfolding at start_at
at-passed job library (Before number) = refl
at-passed job library (Opened number) = by (step_at job number)
  where
    by : (step : Option OwnedStep) → (option_map_or (λ (start : StepStart). with_sets (opened_at start) start.standing) (option_map (λ owned. start_in job.root number owned (walk_before job library number)) step) (walk_before job library number).standing).passed ≡ (walk_before job library number).standing.passed
    by None = refl
    by (Some owned) = refl
at-passed job library (Within number writes) = by (step_at job number)
  where
    by : (step : Option OwnedStep) → (option_map_or (λ (start : StepStart). with_sets (within_at start writes) start.standing) (option_map (λ owned. start_in job.root number owned (walk_before job library number)) step) (walk_before job library number).standing).passed ≡ (walk_before job library number).standing.passed
    by None = refl
    by (Some owned) = refl

pub kept-passed : (layout : Layout) (office : Office) → IsAgreed layout office → AllByRecursion (PassedAgrees office) office.legs
kept-passed layout office kept =
    each-implies (IsKnownLeg office) (PassedAgrees office) office.legs
    (λ leg is row row_at holds.
    let holder : IsHolder office leg.number row leg = record { row_at = row_at; holds = holds; leg_at = is.found } in
    ap (without_passed row.lost) (
    (kept.places leg.number row leg holder).passed
    ∙ sym (ap (λ (standing : Stock LibrarySet). standing.passed) (standing-is office leg.number row leg row_at is.found) ∙ at-passed leg.job leg.start (place_of row))))
    kept.legs
