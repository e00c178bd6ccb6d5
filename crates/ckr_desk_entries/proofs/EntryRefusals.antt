-- Where the entry of a run's checkpoint in effect is refused, by what the tables in code have of the run.
use Rattle.std.proofs.Common.{◌≡◌, ℕ, Bool, true, false, cond, IsTrue, List, refl, ap, sym, ◌∙◌, subst, Option, None, Some, Result, Ok, Err, IfOk, option_and_then}
use Rattle.std.specs.Option.{option_map, option_map_or}
use Rattle.std.proofs.lemmas.Option.{same_Some}
use Rattle.ckr_base.proofs.Bools.{bool-cases}
use Rattle.ckr_base.proofs.Options.{some-not-none, some-one}
use Rattle.ckr_entry.specs.Entry.{IsEntry, entry_in}
use Rattle.ckr_entry.specs.Parts.{Entry}
use Rattle.ckr_library.specs.Catalog.{Catalog, Holding, ends_within, set_of}
use Rattle.ckr_library.specs.NameMaps.{Name, Named, entry_at}
use Rattle.ckr_library.specs.declared.sets.DataSet.{DataSet}
use Rattle.ckr_library.proofs.Named.{at-viewed}
use Rattle.ckr_points.specs.Office.{is_holder}
use Rattle.ckr_points.specs.Rows.{EffectPoint, RunRow, TableSet, TablesModel, holding_of, run_of}
use Rattle.ckr_points.specs.declared.run.Run.{Run}
use Rattle.ckr_points_tables.specs.RunRows.{IsRunRow}
use Rattle.ckr_points_tables.specs.RunJobs.{IsFitting, effective}
use Rattle.ckr_points_tables.specs.View.{RunTableView, effect_of, facts_in, facts_of, job_in, line_of, row_of, row_with, seen_by}
use Rattle.ckr_points_tables.specs.Model.InEffect.{InEffect}
use Rattle.ckr_points_tables.specs.Model.RunTable.{RunTable}
use Rattle.ckr_steps.specs.EntryRecords.{bytes_on}
use Rattle.ckr_volumes.specs.declared.layout.Layout.{Layout}
use Rattle.ckr_desk_entries.proofs.LibrarySets.{IsInTables, in-tables}
use Rattle.ckr_desk_entries.specs.EntryRefusal.{fault_in, is_of_run}
use Rattle.ckr_desk_entries.specs.Entries.{IsFoundAt, IsFoundOf, effect_refusal, has_places, refused_at, run_refusal, state_in, state_read}
use Rattle.ckr_desk_entries.specs.declared.step_state.StepState.{StepState}

-- ---- an entry

-- where it is refused
refused-read : (is_right : Entry → Bool) (read : Result Entry ℕ) → refused_at (state_read is_right read) ≡ fault_in is_right read
refused-read is_right (Ok entry) = by (is_right entry)
  where
    by : (b : Bool) → refused_at (cond b (Ok (state_in entry)) (Err 0)) ≡ cond b None (Some 0)
    by true = refl
    by false = refl
refused-read is_right (Err offset) = refl

-- one where a step stands is one of the step
pub record IsRightEntry (is_right : Entry → Bool) (read : Result Entry ℕ) (state : StepState) : Type 0 where
  pub entry : Entry
  pub is : read ≡ Ok entry
  pub right : is_right entry ≡ true
  pub state_is : state ≡ state_in entry

right-read : (is_right : Entry → Bool) (read : Result Entry ℕ) (state : StepState) → Ok state ≡ state_read is_right read → IsRightEntry is_right read state
right-read is_right (Err offset) state is = absurd (let no : ⊥ = cc in no)
right-read is_right (Ok entry) state is =
    by (is_right entry) refl is
  where
    by : (b : Bool) → is_right entry ≡ b → ◌≡◌ {A = Result StepState ℕ} (Ok state) (cond b (Ok (state_in entry)) (Err 0)) → IsRightEntry is_right (Ok entry) state
    by true right same = record { entry = entry; is = refl; right = right; state_is = (let e : state ≡ state_in entry = cc in e) }
    by false right same = absurd (let no : ⊥ = cc in no)

-- what is judged by a test that answers the same
fault-same : (one other : Entry → Bool) → ((entry : Entry) → one entry ≡ other entry) → (read : Result Entry ℕ) → fault_in one read ≡ fault_in other read
fault-same one other same (Ok entry) = ap (λ (b : Bool). cond {A = Option ℕ} b None (Some 0)) (same entry)
fault-same one other same (Err offset) = refl

-- a name that the library hasn't, the tables haven't
pub none-in-tables : (catalog : Catalog) (sets : Named TableSet) (name : Name) → catalog.sets ≡ seen_by holding_of sets → set_of catalog name ≡ None → entry_at sets name ≡ None
none-in-tables catalog sets name seen is = by (entry_at sets name) refl
  where
    by : (entry : Option TableSet) → entry_at sets name ≡ entry → entry_at sets name ≡ None
    by None at = at
    by (Some table) at =
        absurd (some-not-none table.set
        (sym
        (sym is
        ∙ ap (λ all. option_map (λ (held : Holding). held.set) (entry_at all name)) seen
        ∙ ap (option_map (λ (held : Holding). held.set)) (at-viewed holding_of sets name ∙ ap (option_map holding_of) at))))

-- what the tables in code have of a run is that of its row
pub none-known : (found : Option RunTable) (rows : Option RunRow) (row : RunRow) → option_map facts_of found ≡ option_map facts_in rows → rows ≡ Some row → found ≡ None → ⊥
none-known found rows row same is none = some-not-none (facts_in row) (sym (ap (option_map facts_in) is) ∙ sym same ∙ ap (option_map facts_of) none)

pub facts-known : (found : Option RunTable) (rows : Option RunRow) (row : RunRow) (table : RunTable) → option_map facts_of found ≡ option_map facts_in rows → rows ≡ Some row → found ≡ Some table → facts_of table ≡ facts_in row
facts-known found rows row table same is some = same_Some (facts_of table) (facts_in row) (sym (ap (option_map facts_of) some) ∙ same ∙ ap (option_map facts_in) is)

-- and its job is within the limits
pub job-fits : (tables : TablesModel) (number : ℕ) (found : Option RunTable) (table : RunTable) → option_map facts_of found ≡ option_map facts_in (run_of tables number) → found ≡ Some table
    → ((job : ℕ) (row : RunRow) → run_of tables job ≡ Some row → IsRunRow job row) → IsFitting (effective number table.job)
job-fits tables number found table same is plain = by (run_of tables number) refl
  where
    by : (rows : Option RunRow) → run_of tables number ≡ rows → IsFitting (effective number table.job)
    by None at = absurd (some-not-none (facts_of table) (sym (ap (option_map facts_of) is) ∙ same ∙ ap (option_map facts_in) at))
    by (Some row) at =
        let its = plain number row at in
        let kept = facts-known found (run_of tables number) row table same at is in
        subst IsFitting
        (ap (λ (r : RunRow). r.job) its.told ∙ ap (λ n. effective n (job_in row)) its.numbered ∙ ap (λ (f : RunTableView). effective number f.job) (sym kept))
        its.fits

module _ (layout : Layout) (tables : TablesModel) (image : List ℕ) (row : RunRow) where
  -- a run that doesn't hold its names isn't judged
  pub not-held : is_holder row.state ≡ false → None ≡ run_refusal layout tables image row
  not-held held = sym (ap (λ (b : Bool). cond b (option_and_then (effect_refusal layout tables image row) row.in_effect) None) held)

  module _ (table : RunTable) (plain : IsRunRow row.number row) (facts : facts_of table ≡ facts_in row) (holds : is_holder row.state ≡ true) where
    same-run : (entry : Entry) → is_of_run (row_of (line_of row) table) entry ≡ is_of_run row entry
    same-run entry = ap (λ (f : RunTableView). is_of_run (row_with (line_of row) f) entry) facts ∙ ap (λ (r : RunRow). is_of_run r entry) (sym plain.told)

    judged : (effect : Option EffectPoint) → row.in_effect ≡ effect → option_and_then (effect_refusal layout tables image row) effect ≡ run_refusal layout tables image row
    judged effect is =
        ap (option_and_then (effect_refusal layout tables image row)) (sym is)
        ∙ sym (ap (λ (b : Bool). cond b (option_and_then (effect_refusal layout tables image row) row.in_effect) None) holds)

    effect-is : row.in_effect ≡ option_map effect_of table.in_effect
    effect-is = sym (ap (λ (f : RunTableView). f.in_effect) facts)

    pub no-effect : table.in_effect ≡ None → None ≡ run_refusal layout tables image row
    no-effect none = judged None (effect-is ∙ ap (option_map effect_of) none)

    module _ (effect : InEffect) (is : table.in_effect ≡ Some effect) (catalog : Catalog) (seen : catalog.sets ≡ seen_by holding_of tables.sets) where
      abbrev its : EffectPoint
      its = effect_of effect

      judged-so : effect_refusal layout tables image row its ≡ run_refusal layout tables image row
      judged-so = judged (Some its) (effect-is ∙ ap (option_map effect_of) is)

      -- with this data set, or none
      refused-by : (entry : Option TableSet) → entry_at tables.sets effect.set ≡ entry
          → cond (option_map_or (has_places effect.kept) entry true)
          (option_map_or (λ (t : TableSet). fault_in (is_of_run row) (entry_in (bytes_on image layout t.set effect.kept.place effect.kept.bytes))) entry (Some 0)) (Some 0)
          ≡ run_refusal layout tables image row
      refused-by entry at =
          sym (ap (λ (e : Option TableSet). cond (option_map_or (has_places effect.kept) e true)
          (option_map_or (λ (t : TableSet). fault_in (is_of_run row) (entry_in (bytes_on image layout t.set effect.kept.place effect.kept.bytes))) e (Some 0)) (Some 0)) at)
          ∙ judged-so

      pub no-set : set_of catalog effect.set ≡ None → Some 0 ≡ run_refusal layout tables image row
      no-set none = refused-by None (none-in-tables catalog tables.sets effect.set seen none)

      module _ (set : DataSet) (found : set_of catalog effect.set ≡ Some set) where
        there : IsInTables tables.sets effect.set set
        there = in-tables catalog tables.sets effect.set set seen found

        abbrev read : DataSet → Option ℕ
        read s = fault_in (is_of_run row) (entry_in (bytes_on image layout s effect.kept.place effect.kept.bytes))

        by-places : cond (ends_within set.space effect.kept) (read set) (Some 0) ≡ run_refusal layout tables image row
        by-places = ap (λ (s : DataSet). cond (ends_within s.space effect.kept) (read s) (Some 0)) there.same ∙ refused-by (Some there.table) there.at

        pub unplaced : ends_within set.space effect.kept ≡ false → Some 0 ≡ run_refusal layout tables image row
        unplaced beyond = sym (ap (λ (b : Bool). cond b (read set) (Some 0)) beyond) ∙ by-places

        pub placed : IsTrue (ends_within set.space effect.kept)
            → fault_in (is_of_run (row_of (line_of row) table)) (entry_in (bytes_on image layout set effect.kept.place effect.kept.bytes)) ≡ run_refusal layout tables image row
        placed within =
            fault-same (is_of_run (row_of (line_of row) table)) (is_of_run row) same-run (entry_in (bytes_on image layout set effect.kept.place effect.kept.bytes))
            ∙ sym (ap (λ (b : Bool). cond b (read set) (Some 0)) within)
            ∙ by-places

-- ---- by a line of the runs

-- what the tables in code have of a run of this line, whose checkpoint in effect this is
pub record IsJudged (tables : TablesModel) (line : Run) (table : RunTable) (effect : InEffect) (catalog : Catalog) : Type 0 where
  pub facts : option_map facts_of (Some table) ≡ option_map facts_in (run_of tables line.number)
  pub plain : (job : ℕ) (row : RunRow) → run_of tables job ≡ Some row → IsRunRow job row
  pub holds : is_holder line.state ≡ true
  pub effect_is : table.in_effect ≡ Some effect
  pub seen : catalog.sets ≡ seen_by holding_of tables.sets

module _ (layout : Layout) (tables : TablesModel) (image : List ℕ) (line : Run) (table : RunTable) (effect : InEffect) (catalog : Catalog) (is : IsJudged tables line table effect catalog)
    (row : RunRow) (at : run_of tables row.number ≡ Some row) (line_is : line ≡ line_of row) where
  facts-row : facts_of table ≡ facts_in row
  facts-row = facts-known (Some table) (run_of tables line.number) row table is.facts (ap (λ (l : Run). run_of tables l.number) line_is ∙ at) refl

  holds-row : is_holder row.state ≡ true
  holds-row = ap (λ (l : Run). is_holder l.state) (sym line_is) ∙ is.holds

  pub refused-without : set_of catalog effect.set ≡ None → Some 0 ≡ run_refusal layout tables image row
  refused-without none = no-set layout tables image row table (is.plain row.number row at) facts-row holds-row effect is.effect_is catalog is.seen none

  refused-beyond : (set : DataSet) → set_of catalog effect.set ≡ Some set → ends_within set.space effect.kept ≡ false → (found : Option ℕ) → found ≡ Some 0 → found ≡ run_refusal layout tables image row
  refused-beyond set there beyond found same = same ∙ unplaced layout tables image row table (is.plain row.number row at) facts-row holds-row effect is.effect_is catalog is.seen set there beyond

  refused-within : (set : DataSet) → set_of catalog effect.set ≡ Some set → IsTrue (ends_within set.space effect.kept) → (found : Option ℕ)
      → found ≡ fault_in (is_of_run (row_of line table)) (entry_in (bytes_on image layout set effect.kept.place effect.kept.bytes)) → found ≡ run_refusal layout tables image row
  refused-within set there within found same =
      subst (λ (l : Run). found ≡ fault_in (is_of_run (row_of l table)) (entry_in (bytes_on image layout set effect.kept.place effect.kept.bytes))) line_is same
      ∙ placed layout tables image row table (is.plain row.number row at) facts-row holds-row effect is.effect_is catalog is.seen set there within

module _ (told : Type 0) (layout : Layout) (tables : TablesModel) (image : List ℕ) (line : Run) (table : RunTable) (effect : InEffect) (catalog : Catalog) (is : IsJudged tables line table effect catalog)
    (set : DataSet) (held : set_of catalog effect.set ≡ Some set) (found : Result StepState ℕ)
    (within : IsTrue (ends_within set.space effect.kept) → IsFoundAt told (is_of_run (row_of line table)) (entry_in (bytes_on image layout set effect.kept.place effect.kept.bytes)) found)
    (beyond : ends_within set.space effect.kept ≡ false → found ≡ Err 0) where
  pub refused-so : told → (row : RunRow) → run_of tables row.number ≡ Some row → line ≡ line_of row → refused_at found ≡ run_refusal layout tables image row
  refused-so tells row at line_is =
      bool-cases (ends_within set.space effect.kept)
      (λ fits.
      let its = within fits in
      refused-within layout tables image line table effect catalog is row at line_is set held fits (refused_at found)
      (ap refused_at its.is ∙ refused-read (is_of_run (row_of line table)) its.read ∙ ap (fault_in (is_of_run (row_of line table))) (its.same tells)))
      (λ past. refused-beyond layout tables image line table effect catalog is row at line_is set held past (refused_at found) (ap refused_at (beyond past)))

  -- where a step was found to stand, the run's step stands at its checkpoint in effect
  pub found-so : (row : RunRow) → run_of tables row.number ≡ Some row → line ≡ line_of row → IsFoundOf told layout tables image row (Some found)
  found-so row at line_is = by found refl
    where
      same_row : (entry : Entry) → is_of_run (row_of line table) entry ≡ is_of_run row entry
      same_row entry =
          ap (λ (l : Run). is_of_run (row_of l table) entry) line_is
          ∙ same-run layout tables image row table (is.plain row.number row at) (facts-row layout tables image line table effect catalog is row at line_is) (holds-row layout tables image line table effect catalog is row at line_is) entry

      in_effect : row.in_effect ≡ Some (effect_of effect)
      in_effect =
          sym (ap (λ (f : RunTableView). f.in_effect) (facts-row layout tables image line table effect catalog is row at line_is)) ∙ ap (option_map effect_of) is.effect_is

      there : IsInTables tables.sets effect.set set
      there = in-tables catalog tables.sets effect.set set is.seen held

      its-state : (state : StepState) → IsFoundAt told (is_of_run (row_of line table)) (entry_in (bytes_on image layout set effect.kept.place effect.kept.bytes)) (Ok state) → IsFoundOf told layout tables image row (Some (Ok state))
      its-state state its =
          let right = right-read (is_of_run (row_of line table)) its.read state its.is in (
            effect_of effect,
            in_effect,
            record {
              entry = right.entry;
              form = subst (λ (r : Result Entry ℕ). IfOk r IsEntry) right.is its.form;
              its = sym (same_row right.entry) ∙ right.right;
              is = right.state_is;
              read = λ tells other at_other.
                  ap (λ (s : DataSet). entry_in (bytes_on image layout s effect.kept.place effect.kept.bytes))
                  (ap (λ (t : TableSet). t.set) (some-one other there.table (entry_at tables.sets effect.set) at_other there.at) ∙ sym there.same)
                  ∙ sym (its.same tells) ∙ right.is;
            },
          )

      by : (its : Result StepState ℕ) → found ≡ its → IsFoundOf told layout tables image row (Some its)
      by (Err offset) same = tt
      by (Ok state) same =
          bool-cases (ends_within set.space effect.kept)
          (λ fits.
          its-state state
          (subst (IsFoundAt told (is_of_run (row_of line table)) (entry_in (bytes_on image layout set effect.kept.place effect.kept.bytes))) same (within fits)))
          (λ past. let none : found ≡ Err 0 = beyond past in absurd (let no : ⊥ = cc in no))

-- where the tables in code have no checkpoint in effect of a run, it has none
pub none-in-effect : (found : Option RunTable) (table : RunTable) (rows : Option RunRow) (row : RunRow) → option_map facts_of found ≡ option_map facts_in rows → rows ≡ Some row → found ≡ Some table → table.in_effect ≡ None → row.in_effect ≡ None
none-in-effect found table rows row same is some none =
    sym (ap (λ (f : RunTableView). f.in_effect) (facts-known found rows row table same is some)) ∙ ap (option_map effect_of) none
