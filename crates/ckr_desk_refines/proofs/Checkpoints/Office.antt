-- The office behind the event of a checkpoint: the rows and data sets of other runs, the row of its run, and the lengths that it commits.
use Rattle.std.proofs.Common.{◌≡◌, ◌≢◌, ℕ, Bool, true, false, ◌||◌, List, [], ◌∷◌, map, refl, ap, sym, ◌∙◌, subst, Some, None}
use Rattle.std.specs.Prelude.{◌==◌, if◌then◌else◌}
use Rattle.std.proofs.lemmas.Bool.{false≢true}
use Rattle.std.proofs.lemmas.Option.{same_Some}
use Rattle.ckr_base.proofs.Bools.{bool-cases}
use Rattle.ckr_base.proofs.Numbers.{equal-itself}
use Rattle.ckr_library.specs.declared.sets.DataSet.{DataSet}
use Rattle.ckr_library.specs.NameMaps.{Name, Named, entry_at, same_name}
use Rattle.ckr_library.proofs.Named.{name-same, name-turned}
use Rattle.ckr_meaning.specs.EffectiveJob.{Effective, OwnedStep, is_among, names_of}
use Rattle.ckr_meaning.specs.StepRun.{StepStart, within_at}
use Rattle.ckr_points_library.specs.Commit.{output_names}
use Rattle.ckr_points.specs.Follows.{is_length_of}
use Rattle.ckr_points.specs.Office.{Office}
use Rattle.ckr_points.specs.Payload.{length_now, start_in_office}
use Rattle.ckr_points.specs.Rows.{RunRow, TableSet, run_of}
use Rattle.ckr_points.specs.Tables.{committed, is_checkpoints, name_with_role}
use Rattle.ckr_points_invariant.proofs.Holders.Rows.{run-other}
use Rattle.ckr_points_invariant.proofs.Writes.Likeness.{committed-other}
use Rattle.ckr_uses.specs.Uses.{are_distinct}
use Rattle.ckr_desk_memory.specs.EventChanges.{check_name}
use Rattle.ckr_desk_turn.proofs.Checkpoints.Events.{behind-by, committed_now, may-come, next_row, row-now}
use Rattle.ckr_desk_turn.specs.Checkpoints.{MayCheckpoint, checkpoint_fits, entry_bytes, entry_end, entry_place, is_check_set, lengths_with, next_id, office_behind}
use Rattle.ckr_desk_turn.specs.Desk.{DeskModel, DeskStep}
use Rattle.ckr_desk_turn.specs.Invariant.{IsDesk, IsGoing}
use Rattle.ckr_desk_refines.specs.SharedSets.{LeavesOthers, LieStill}
use Rattle.ckr_desk_refines.proofs.Durable.Checkpoint.{entered-set}
use Rattle.ckr_desk_refines.proofs.Durable.Extents.{checkpointed-lie}
use Rattle.ckr_desk_refines.proofs.Entries.Checkpoint.{committed-length, outputs_distinct}
use Rattle.ckr_desk_refines.proofs.Entries.RunningStep.{others-checkpointed}
use Rattle.ckr_desk_refines.proofs.Events.OtherRows.{LeavesRuns}

-- the length that is given for each of these names
length-mapped : (length : Name → ℕ) (names : List Name) (name : Name) → is_among names name ≡ true → is_length_of name (length name) names (map length names) ≡ true
length-mapped length [] name among = absurd (false≢true among)
length-mapped length (first ∷ names) name among =
    bool-cases (same_name first name)
    (λ same.
    ap (λ (b : Bool). if b then length first == length name else is_length_of name (length name) names (map length names)) same
    ∙ ap (λ n. length n == length name) (name-same first name same) ∙ equal-itself (length name))
    (λ apart.
    ap (λ (b : Bool). if b then length first == length name else is_length_of name (length name) names (map length names)) apart
    ∙ length-mapped length names name (sym (ap (λ b. b || is_among names name) (name-turned name first ∙ apart)) ∙ among))

module _ (desk : DeskModel) (is : IsDesk desk) (step : DeskStep) (going : IsGoing desk.office step) (uncoded : step.code ≡ None) (unclosed : step.progress.closed ≡ false) (fits : checkpoint_fits desk.office.tables.sets going.row going.start step.progress ≡ true) where
  abbrev pub may : MayCheckpoint desk.layout desk.office step
  may = record { kept = is.kept; spaced = is.spaced_legs; going = going; uncoded = uncoded; unclosed = unclosed; fits = fits }

  abbrev pub office_then : Office
  office_then = office_behind desk.layout desk.office step may

  abbrev sets : Named TableSet
  sets = desk.office.tables.sets

  abbrev pub end : ℕ
  end = entry_end sets going.row going.start step.progress

  abbrev told : List ℕ
  told = lengths_with sets going.start step.progress.writes end

  numbered : going.row.number ≡ step.run
  numbered = is.kept.events.numbered step.run going.row going.row_at

  -- ---- other runs

  pub leaves : LeavesRuns desk.office office_then step.run
  leaves = record {
    rows =
        behind-by desk.layout desk.office step may (λ tables. (other : ℕ) → other ≢ step.run → run_of tables other ≡ run_of desk.office.tables other)
        (λ leg owned same job other apart. run-other (committed_now desk.layout desk.office step may owned) (next_row desk.layout desk.office step may owned) other (λ e. apart (e ∙ numbered)));
    legs = λ other apart. refl;
  }

  pub leaves-others : LeavesOthers desk.office step.run office_then
  leaves-others =
      subst (λ n. LeavesOthers desk.office n office_then) numbered
      (others-checkpointed desk.layout desk.office is.kept.events going.row.number step.progress.taken step.progress.writes (entry_place sets going.start) (entry_bytes sets going.row going.start step.progress)
      (next_id going.row going.start) (record { items = told }) None (may-come desk.layout desk.office step may).may)

  -- ---- its run

  pub row-then : (row : RunRow) × (run_of office_then.tables step.run ≡ Some row) × (start_in_office desk.office row ≡ Some going.start) × (check_name row ≡ check_name going.row)
  row-then =
      behind-by desk.layout desk.office step may (λ tables. (row : RunRow) × (run_of tables step.run ≡ Some row) × (start_in_office desk.office row ≡ Some going.start) × (check_name row ≡ check_name going.row))
      (λ leg owned same job. (next_row desk.layout desk.office step may owned, row-now desk.layout desk.office step may owned, going.start_at, refl))

  -- ---- data sets

  pub lie-still : LieStill sets office_then.tables.sets
  lie-still =
      let comes = may-come desk.layout desk.office step may in
      checkpointed-lie desk.layout desk.office going.row.number step.progress.taken step.progress.writes (entry_place sets going.start) (entry_bytes sets going.row going.start step.progress)
      (next_id going.row going.start) (record { items = told }) None is.kept comes.may comes.carried

  abbrev pub outputs : List Name
  outputs = output_names going.start.root going.start.owned

  abbrev pub length_then : Name → ℕ
  length_then name = if is_check_set going.start name then end else length_now (within_at going.start step.progress.writes) sets name

  -- the length of a data set behind the event
  pub record HasLength (name : Name) (table : TableSet) : Type 0 where
    pub output : is_among outputs name ≡ true → table.set.length ≡ length_then name
    pub other : is_among outputs name ≡ false → (was : TableSet) → entry_at sets name ≡ Some was → table.set.length ≡ was.set.length

  module _ (distinct : are_distinct (names_of going.start.root going.start.owned) ≡ true) where
    its-length : (root : ℕ) (owned : OwnedStep) → output_names root owned ≡ outputs → (name : Name) (table : TableSet) → entry_at (committed (output_names root owned) told sets) name ≡ Some table → HasLength name table
    its-length root owned same name table e =
        let here : entry_at (committed outputs told sets) name ≡ Some table = ap (λ names. entry_at (committed names told sets) name) (sym same) ∙ e in
        record {
          output = λ among.
              committed-length outputs told sets name (length_then name) table (outputs_distinct going.start.root going.start.owned going.start.owned.step.dds distinct)
              (length-mapped length_then outputs name among) here;
          other = λ out was at. ap (λ (t : TableSet). t.set.length) (same_Some table was (sym here ∙ committed-other outputs told sets name out ∙ at));
        }

    pub lengths-then : (name : Name) (table : TableSet) → entry_at office_then.tables.sets name ≡ Some table → HasLength name table
    lengths-then =
        behind-by desk.layout desk.office step may (λ tables. (name : Name) (table : TableSet) → entry_at tables.sets name ≡ Some table → HasLength name table)
        (λ leg owned same job name table e.
        let from = entered-set name (name_with_role going.row.job.root owned is_checkpoints) _ (committed (output_names going.row.job.root owned) told sets) table e in
        let its = its-length going.row.job.root owned
        (ap (λ (j : Effective). output_names j.root owned) (sym job) ∙ ap (λ (s : StepStart). output_names s.root s.owned) (sym same)) name from.0 from.1 in
        record {
          output = λ among. ap (λ (s : DataSet). s.length) from.2 ∙ its.output among;
          other = λ out was at. ap (λ (s : DataSet). s.length) from.2 ∙ its.other out was at;
        })
