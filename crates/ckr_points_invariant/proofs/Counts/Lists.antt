-- What is counted by some events, and by one more.
use Rattle.std.proofs.Common.{◌≡◌, ◌≢◌, ℕ, zero, suc, Bool, true, false, cond, List, [], ◌∷◌, ◌++◌, filter, length, slice_get, refl, ap, sym, ◌∙◌, append_assoc, Some}
use Rattle.std.specs.Prelude.{slice_set}
use Rattle.std.specs.List.{AllByRecursion}
use Rattle.ckr_base.proofs.Sequences.{each-implies}
use Rattle.ckr_events.specs.declared.event.Event.{Event}
use Rattle.ckr_points.specs.Restart.{Decked}
use Rattle.ckr_points.specs.Rows.{KeptEntry, RunRow, StartPoint, TableSet, TablesModel}
use Rattle.ckr_points_invariant.specs.Counts.{AreEntriesCounted, ArePointsCounted, AreStepsCounted, ComesBehind, IsEntryCounted, entries_by, is_entry_of}
use Rattle.ckr_points_invariant.proofs.Stamps.Tables.{each-weaker}

-- ---- one event more

abbrev added : ℕ → Bool → ℕ
added count true = suc count
added count false = count

entries-more : (run : ℕ) (events : List Decked) (event : Decked) → entries_by run (events ++ event ∷ []) ≡ added (entries_by run events) (is_entry_of run event.0)
entries-more run [] event = by (is_entry_of run event.0)
  where
    by : (is : Bool) → length (cond is (event ∷ []) []) ≡ added 0 is
    by true = refl
    by false = refl
entries-more run (first ∷ rest) event = by (is_entry_of run first.0) (entries-more run rest event)
  where
    more : (is : Bool) (n : ℕ) → suc (added n is) ≡ added (suc n) is
    more true n = refl
    more false n = refl

    by : (is : Bool) → entries_by run (rest ++ event ∷ []) ≡ added (entries_by run rest) (is_entry_of run event.0) → length (cond is (first ∷ filter (λ event. is_entry_of run event.0) (rest ++ event ∷ [])) (filter (λ event. is_entry_of run event.0) (rest ++ event ∷ [])))
        ≡ added (length (cond is (first ∷ filter (λ event. is_entry_of run event.0) rest) (filter (λ event. is_entry_of run event.0) rest))) (is_entry_of run event.0)
    by true others = ap suc others ∙ more (is_entry_of run event.0) (entries_by run rest)
    by false others = others

-- another one writes no entry of the run
pub entries-other : (run : ℕ) (events : List Decked) (event : Decked) → is_entry_of run event.0 ≡ false → entries_by run (events ++ event ∷ []) ≡ entries_by run events
entries-other run events event isnt = entries-more run events event ∙ ap (added (entries_by run events)) isnt

-- one that does is counted
pub entries-one : (run : ℕ) (events : List Decked) (event : Decked) → is_entry_of run event.0 ≡ true → entries_by run (events ++ event ∷ []) ≡ suc (entries_by run events)
entries-one run events event is = entries-more run events event ∙ ap (added (entries_by run events)) is

-- what came stays
pub comes-more : (events : List Decked) (event : Decked) (run : ℕ) (IsSuch : Event → Type 0) (count : ℕ) → ComesBehind events run IsSuch count → ComesBehind (events ++ event ∷ []) run IsSuch count
comes-more events event run IsSuch count its = record {
  before = its.before;
  event = its.event;
  later = its.later ++ event ∷ [];
  split = ap (λ all. all ++ event ∷ []) its.split ∙ append_assoc its.before (its.event ∷ its.later) (event ∷ []);
  such = its.such;
  counts = its.counts;
}

-- the event itself comes behind those before
pub comes-last : (events : List Decked) (event : Decked) (run : ℕ) (IsSuch : Event → Type 0) (count : ℕ) → IsSuch event.0 → count ≡ entries_by run events → ComesBehind (events ++ event ∷ []) run IsSuch count
comes-last events event run IsSuch count such counts = record { before = events; event = event; later = []; split = refl; such = such; counts = counts }

pub steps-more : (events : List Decked) (event : Decked) (run : ℕ) (points : List StartPoint) → AreStepsCounted events run points → AreStepsCounted (events ++ event ∷ []) run points
steps-more events event run points all =
    each-implies _ _ points (λ point its. comes-more events event run _ point.count its) all

pub entries_kept-more : (events : List Decked) (event : Decked) (entries : List KeptEntry) → AreEntriesCounted events entries → AreEntriesCounted (events ++ event ∷ []) entries
entries_kept-more events event entries all =
    each-implies (IsEntryCounted events) (IsEntryCounted (events ++ event ∷ [])) entries
    (λ entry its. record { before = its.before; counts = its.counts; comes = comes-more events event entry.point.run _ its.before its.comes }) all

pub fewer : (events : List Decked) (kept : KeptEntry → Bool) (entries : List KeptEntry) → AreEntriesCounted events entries → AreEntriesCounted events (filter kept entries)
fewer events kept [] each = tt
fewer events kept (first ∷ rest) each =
    elim (kept first) as (λ b. AreEntriesCounted events (cond b (first ∷ filter kept rest) (filter kept rest))) [
      | true ↦ (each.0, fewer events kept rest each.1)
      | false ↦ fewer events kept rest each.1
    ]

-- the same tables, behind an event that writes no entry
pub counted-more : (events : List Decked) (event : Decked) (tables : TablesModel) → ((run : ℕ) → is_entry_of run event.0 ≡ false) → ArePointsCounted events tables → ArePointsCounted (events ++ event ∷ []) tables
counted-more events event tables isnt are = record {
  rows = each-implies _ _ tables.runs
      (λ row its. record { counts = its.counts ∙ sym (entries-other row.number events event (isnt row.number)); steps = steps-more events event row.number row.points its.steps }) are.rows;
  entries = each-weaker (λ (table : TableSet). AreEntriesCounted events table.entries) (λ (table : TableSet). AreEntriesCounted (events ++ event ∷ []) table.entries) tables.sets
      (λ table. entries_kept-more events event table.entries) are.entries;
}

-- ---- all rows but one

shifted : (place : ℕ) → suc place ≢ zero
shifted place e = cc

all-at : (P Q : RunRow → Type 0) (runs : List RunRow) → ((place : ℕ) (row : RunRow) → slice_get runs place ≡ Some row → P row → Q row) → AllByRecursion P runs → AllByRecursion Q runs
all-at P Q [] each all = tt
all-at P Q (row ∷ runs) each all = (each 0 row refl all.0, all-at P Q runs (λ place other at its. each (suc place) other at its) all.1)

-- one row is put in the place of another, and of the others something else holds
pub all-except : (P Q : RunRow → Type 0) (runs : List RunRow) (place : ℕ) (new : RunRow) → Q new
    → ((at : ℕ) (row : RunRow) → slice_get runs at ≡ Some row → at ≢ place → P row → Q row) → AllByRecursion P runs → AllByRecursion Q (slice_set runs place new)
all-except P Q [] place new its each all = tt
all-except P Q (row ∷ runs) zero new its each all = (its, all-at P Q runs (λ at other got was. each (suc at) other got (shifted at) was) all.1)
all-except P Q (row ∷ runs) (suc place) new its each all = (
  each 0 row refl (λ e. shifted place (sym e)) all.0,
  all-except P Q runs place new its (λ at other got apart was. each (suc at) other got (λ e. apart (unshifted at place e)) was) all.1,
)
  where
    unshifted : (one other : ℕ) → suc one ≡ suc other → one ≡ other
    unshifted one other e = cc
