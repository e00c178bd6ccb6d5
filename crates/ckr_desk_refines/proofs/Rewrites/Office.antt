-- The office behind the event of a rewrite: its rows, and where the data sets of the step lie.
use Rattle.std.proofs.Common.{◌≡◌, ◌≢◌, ℕ, true, cond, List, [], ◌∷◌, map, refl, ap, sym, ◌∙◌, subst, Option, None, Some, arith}
use Rattle.std.specs.Option.{option_map, option_map_or}
use Rattle.std.proofs.lemmas.Option.{same_Some}
use Rattle.ckr_base.proofs.Bools.{bool-cases}
use Rattle.ckr_base.proofs.Options.{some-not-none}
use Rattle.ckr_points_library.specs.Commit.{output_names}
use Rattle.ckr_desk_memory.specs.View.{RunningStepView, length_in, lengths_in}
use Rattle.ckr_desk_refines.specs.SharedSets.{LieStill}
use Rattle.ckr_desk_refines.specs.StepSets.{HasSets, LiesThere}
use Rattle.ckr_library.specs.declared.sets.Content.TheVariants.{Checkpoints}
use Rattle.ckr_library.specs.declared.sets.DataSet.{DataSet}
use Rattle.ckr_library.specs.Catalog.{Catalog, Holding, set_of}
use Rattle.ckr_library.specs.NameMaps.{Name, Named, entry_at, same_name, with_changed}
use Rattle.ckr_library.proofs.Named.{at-with_changed, name-same}
use Rattle.ckr_meaning.specs.EffectiveJob.{OwnedStep, names_of}
use Rattle.ckr_meaning.specs.declared.place.Place.TheVariants.{Within}
use Rattle.ckr_points.specs.Tables.{after_rewritten, committed, is_updates, name_with_role, row_rewritten, table_rewritten}
use Rattle.ckr_points.specs.Office.{Office, office_after}
use Rattle.ckr_points.specs.Restart.{by_step}
use Rattle.ckr_points.specs.Rows.{RunRow, TableSet, cut_set, run_of, step_of_run}
use Rattle.ckr_points_invariant.specs.Invariant.{step_now}
use Rattle.ckr_points_invariant.specs.RunningSteps.{IsRunning}
use Rattle.ckr_points_invariant.proofs.Holders.Rows.{run-other, run-same}
use Rattle.ckr_desk_turn.specs.Desk.{DeskModel, DeskStep}
use Rattle.ckr_desk_refines.proofs.Rewrites.Legs.{IsLedStep}
use Rattle.ckr_desk_refines.proofs.Rewrites.Replies.{rewritten_event}

-- the office behind a rewrite of the step that a run is in
abbrev pub office_behind : Office → RunRow → OwnedStep → ℕ → List ℕ → Office
office_behind office row owned writes lengths = record office { tables = after_rewritten row owned (step_now row) writes lengths office.tables }

pub behind-is : (office : Office) (run : ℕ) (row : RunRow) (owned : OwnedStep) (taken writes place : ℕ) (lengths bytes : List ℕ) → run_of office.tables run ≡ Some row → step_of_run row (step_now row) ≡ Some owned
    → office_after (rewritten_event run taken writes lengths place bytes, None) office ≡ office_behind office row owned writes lengths
behind-is office run row owned taken writes place lengths bytes e found =
    ap (λ (o : Option RunRow). (let its : Office = record office { tables = option_map_or (λ row. by_step (λ owned step. after_rewritten row owned step writes lengths office.tables) row office.tables) o office.tables } in its)) e
    ∙ ap (λ (o : Option OwnedStep). (let its : Office = record office { tables = option_map_or (λ owned. after_rewritten row owned (step_now row) writes lengths office.tables) o office.tables } in its)) found

-- ---- a data set of the tables behind a commit and a rewrite

-- there is a data set under the name of which this holds
abbrev pub IsThere : (TableSet → Type 0) → Named TableSet → Name → Type 0
IsThere P sets name = (table : TableSet) × (entry_at sets name ≡ Some table) × P table

changed-there : (P : TableSet → Type 0) (other name : Name) (change : TableSet → TableSet) (sets : Named TableSet) → (same_name name other ≡ true → (table : TableSet) → P table → P (change table)) → IsThere P sets name → IsThere P (with_changed other change sets) name
changed-there P other name change sets keeps there =
    bool-cases (same_name name other)
    (λ same.
    (change there.0, at-with_changed other name change sets ∙ ap (λ b. cond b (option_map change (entry_at sets name)) (entry_at sets name)) same ∙ ap (option_map change) there.1, keeps same there.0 there.2))
    (λ apart. (there.0, at-with_changed other name change sets ∙ ap (λ b. cond b (option_map change (entry_at sets name)) (entry_at sets name)) apart ∙ there.1, there.2))

committed-there : (P : TableSet → Type 0) (length_of : Name → ℕ) (name : Name) → ((table : TableSet) → P table → P (cut_set (length_of name) table)) → (outputs : List Name) (sets : Named TableSet) → IsThere P sets name → IsThere P (committed outputs (map length_of outputs) sets) name
committed-there P length_of name cuts [] sets there = there
committed-there P length_of name cuts (output ∷ outputs) sets there =
    committed-there P length_of name cuts outputs (with_changed output (cut_set (length_of output)) sets)
    (changed-there P output name (cut_set (length_of output)) sets
    (λ same table holds. subst (λ (n : Name). P (cut_set (length_of n) table)) (name-same name output same) (cuts table holds)) there)

-- a data set in memory is that of the tables; one for checkpoint entries is as long as theirs
pub record IsTheirs (set : DataSet) (table : TableSet) : Type 0 where
  pub lies : LiesThere table set
  pub checked : table.set.content ≡ Checkpoints → set.length ≡ table.set.length

length-of : (sets : Catalog) (name : Name) (set : DataSet) → set_of sets name ≡ Some set → length_in sets.sets name ≡ set.length
length-of sets name set e = by (entry_at sets.sets name) e
  where
    by : (entry : Option Holding) → option_map (λ (h : Holding). h.set) entry ≡ Some set → option_map_or (λ (holding : Holding). holding.set.length) entry 0 ≡ set.length
    by None e = absurd (some-not-none set (sym e))
    by (Some held) e = ap (λ (s : DataSet). s.length) (same_Some held.set set e)

module _ (desk : DeskModel) (before : List ℕ) (on : RunningStepView) (step : DeskStep) (led : IsLedStep desk before on step) (writes : ℕ) (sets : Catalog) (same : (name : Name) → set_of sets name ≡ set_of on.sets name) where
  abbrev pub lengths_now : List ℕ
  lengths_now = lengths_in sets.sets led.row.job.root led.owned

  abbrev pub behind : Office
  behind = office_behind desk.office led.row led.owned writes lengths_now

  abbrev pub next : RunRow
  next = record (row_rewritten (step_now led.row) led.row) { place = Some (Within (step_now led.row) writes) }

  pub next-at : run_of behind.tables step.run ≡ Some next
  next-at = run-same (record desk.office.tables { sets = behind.tables.sets }) next led.row step.run led.running.holder.row_at led.numbered

  pub other-at : (other : ℕ) → other ≢ step.run → run_of behind.tables other ≡ run_of desk.office.tables other
  other-at other apart = run-other (record desk.office.tables { sets = behind.tables.sets }) next other (λ e. apart (e ∙ led.numbered))

  pub running-then : IsRunning behind step.run next led.leg led.owned (step_now led.row) writes
  running-then = record {
    holder = record { row_at = next-at; holds = led.running.holder.holds; leg_at = led.running.holder.leg_at };
    stands = refl;
    found = led.running.found;
  }

  -- the data sets in memory are those of the tables behind it
  pub own-table : (name : Name) (set : DataSet) → set_of sets name ≡ Some set → IsThere (IsTheirs set) behind.tables.sets name
  own-table name set e =
      let its = led.sets.from name set (sym (same name) ∙ e) in
      changed-there (IsTheirs set) (name_with_role led.row.job.root led.owned is_updates) name (table_rewritten led.owned.owner (step_now led.row)) (committed (output_names led.row.job.root led.owned) lengths_now desk.office.tables.sets)
      (λ same_one table theirs. record { lies = record { places = record { parts = theirs.lies.places.parts; lrecl = theirs.lies.places.lrecl }; space = theirs.lies.space; longer = theirs.lies.longer }; checked = theirs.checked })
      (committed-there (IsTheirs set) (length_in sets.sets) name
      (λ table theirs.
      let long : length_in sets.sets name ≡ set.length = length-of sets name set e in
      record {
        lies = record { places = record { parts = theirs.lies.places.parts; lrecl = theirs.lies.places.lrecl }; space = theirs.lies.space; longer = omega (arith, long) };
        checked = λ checks. sym long;
      })
      (output_names led.row.job.root led.owned) desk.office.tables.sets
      (its.0, its.1, record { lies = its.2; checked = led.checked name its.0 set its.1 (sym (same name) ∙ e) }))

  pub own-sets : LieStill desk.office.tables.sets behind.tables.sets → HasSets behind.tables.sets (names_of led.leg.job.root led.owned) sets
  own-sets still = record {
    from = λ name set e. let its = own-table name set e in (its.0, its.1, its.2.lies);
    each = λ name table among e.
        let old = still.from name table e in
        let own = led.sets.each name old.0 among old.1 in
        let here : set_of sets name ≡ Some own.0 = same name ∙ own.1 in
        let its = own-table name own.0 here in
        (own.0, here, subst (λ (t : TableSet). LiesThere t own.0) (same_Some its.0 table (sym its.1 ∙ e)) its.2.lies);
  }
