-- What the rows of the tables have, where one of them is renewed.
use Rattle.std.proofs.Common.{◌≡◌, ◌≢◌, ℕ, zero, suc, true, slice_get, ap, sym, ◌∙◌, subst, Some}
use Rattle.std.specs.List.{AllByRecursion, list_all}
use Rattle.std.proofs.lemmas.Option.{same_Some}
use Rattle.ckr_base.proofs.Numbers.{number-cases}
use Rattle.ckr_base.proofs.Options.{some-not-none}
use Rattle.ckr_base.proofs.Sequences.{all-get, each-by_place, each-get}
use Rattle.ckr_library.specs.NameMaps.{Named}
use Rattle.ckr_meaning.specs.LibrarySet.{AreWithinSpace}
use Rattle.ckr_points.specs.Office.{Leg, Office}
use Rattle.ckr_points.specs.Rows.{RunRow, TableSet, TablesModel, run_of, with_run}
use Rattle.ckr_points_invariant.proofs.Holders.Rows.{run-other, run-same}
use Rattle.ckr_volumes.specs.declared.layout.Layout.{Layout}
use Rattle.ckr_points_invariant.specs.Invariant.{IsKept}
use Rattle.ckr_points_invariant.specs.KeptEvents.{AreKept}
use Rattle.ckr_desk_turn.specs.Invariant.{HasRuns, IsAdmitted, has_its_step, is_in_its_state}
use Rattle.ckr_desk_turn.proofs.OtherRuns.{all-by}

-- what the events of a desk have brought about, its points aside
pub record HasRows (office : Office) : Type 0 where
  pub states : list_all is_in_its_state office.tables.runs ≡ true
  pub admitted : AllByRecursion IsAdmitted office.tables.runs
  pub stepped : list_all has_its_step office.tables.runs ≡ true
  pub spaced : AreWithinSpace office.library
  pub spaced_legs : AllByRecursion (λ (leg : Leg). AreWithinSpace leg.start) office.legs

pub rows-of : (office : Office) → HasRuns office → HasRows office
rows-of office has = record { states = has.states; admitted = has.admitted; stepped = has.stepped; spaced = has.spaced; spaced_legs = has.spaced_legs }

pub runs-of : (office : Office) → HasRows office → (layout : Layout) → AreKept layout office → HasRuns office
runs-of office has layout are = record {
  states = has.states;
  admitted = has.admitted;
  stepped = has.stepped;
  spaced = has.spaced;
  spaced_legs = has.spaced_legs;
  pointed = are.pointed;
  ready = are.ready;
  begun = are.begun;
  written = are.written;
}

-- all that is kept from event to event
pub runs-kept : (layout : Layout) (office : Office) → IsKept layout office → HasRuns office → AreKept layout office
runs-kept layout office kept has = record { kept = kept; pointed = has.pointed; ready = has.ready; begun = has.begun; written = has.written }

-- what each row of the desk has
pub record HasRow (row : RunRow) : Type 0 where
  pub in_state : is_in_its_state row ≡ true
  pub admitted : IsAdmitted row
  pub stepped : has_its_step row ≡ true

pub has-row : (office : Office) → HasRows office → (run : ℕ) (row : RunRow) → run_of office.tables run ≡ Some row → HasRow row
has-row office has zero row at = absurd (some-not-none row (sym at))
has-row office has (suc place) row at = record {
  in_state = all-get is_in_its_state office.tables.runs place row has.states at;
  admitted = each-get IsAdmitted office.tables.runs place row has.admitted at;
  stepped = all-get has_its_step office.tables.runs place row has.stepped at;
}

-- a run has another row, and the others are as they were
pub record Stands (tables after : TablesModel) (job : ℕ) (row : RunRow) : Type 0 where
  pub mine : run_of after job ≡ Some row
  pub others : (other : ℕ) → other ≢ job → run_of after other ≡ run_of tables other

-- so with one that has what each row has
pub record Renewed (tables after : TablesModel) (job : ℕ) : Type 0 where
  pub next : RunRow
  pub stands : Stands tables after job next
  pub has : HasRow next

pub stands-one : (tables : TablesModel) (sets : Named TableSet) (job : ℕ) (row next : RunRow) → run_of tables job ≡ Some row → next.number ≡ job → Stands tables (with_run next (record tables { sets = sets })) job next
stands-one tables sets job row next at its = record {
  mine = run-same (record tables { sets = sets }) next row job at its;
  others = λ other apart. run-other (record tables { sets = sets }) next other (λ e. apart (e ∙ its));
}

-- a row that is put in behind another one
pub stands-more : (tables after : TablesModel) (sets : Named TableSet) (job : ℕ) (row next : RunRow) → Stands tables after job row → next.number ≡ job → Stands tables (with_run next (record after { sets = sets })) job next
stands-more tables after sets job row next stands its = record {
  mine = run-same (record after { sets = sets }) next row job stands.mine its;
  others = λ other apart. run-other (record after { sets = sets }) next other (λ e. apart (e ∙ its)) ∙ stands.others other apart;
}

-- the rows with one that is renewed
pub runs-renewed : (office after : Office) (job : ℕ) → HasRows office → Renewed office.tables after.tables job → AreWithinSpace after.library → AllByRecursion (λ (leg : Leg). AreWithinSpace leg.start) after.legs → HasRows after
runs-renewed office after job has renewed spaced spaced_legs = record {
  states = all-by is_in_its_state after.tables.runs (λ place row at. (each place row at).in_state);
  admitted = each-by_place IsAdmitted after.tables.runs (λ place row at. (each place row at).admitted);
  stepped = all-by has_its_step after.tables.runs (λ place row at. (each place row at).stepped);
  spaced = spaced;
  spaced_legs = spaced_legs;
}
  where
    each : (place : ℕ) (row : RunRow) → slice_get after.tables.runs place ≡ Some row → HasRow row
    each place row at =
        number-cases (suc place) job
        (λ same. subst HasRow (same_Some renewed.next row (sym renewed.stands.mine ∙ ap (run_of after.tables) (sym same) ∙ at)) renewed.has)
        (λ apart. has-row office has (suc place) row (sym (renewed.stands.others (suc place) apart) ∙ at))
