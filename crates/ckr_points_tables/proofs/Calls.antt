-- A call on the tables that goes on by an event: what it needs, and what it leaves.
use Rattle.std.proofs.Common.{◌≡◌, ℕ, suc, ◌-◌, ◌<◌, ◌≤◌, true, IsTrue, List, [], length, map, slice_get, slice_set, slice_index_or, vec_len, vec_capacity, Bool, ap, sym, ◌∙◌, subst, arith, Some, None, Option}
use Rattle.std.proofs.lemmas.Option.{same_Some}
use Rattle.std.proofs.lemmas.List.{get_or-set_same}
use Rattle.ckr_base.proofs.Sequences.{get-from, get-there}
use Rattle.ckr_events.specs.Jobs.{job_of}
use Rattle.ckr_events.specs.declared.event.Event.{Event}
use Rattle.ckr_entry.specs.declared.point.Mark.{Mark}
use Rattle.ckr_jcl.specs.declared.deck.Job.{Job}
use Rattle.ckr_library.specs.Catalog.{Holding}
use Rattle.ckr_base.specs.RoomyLists.{Roomy}
use Rattle.ckr_library.specs.NameMaps.{Named, are_named_in_order}
use Rattle.ckr_points_runs.specs.declared.run_table.WrittenEntry.{WrittenEntry}
use Rattle.ckr_points.specs.declared.run.Run.{Run}
use Rattle.ckr_points_runs.specs.declared.run_table.RunTable.{RunTable}
use Rattle.ckr_points_tables.specs.declared.tables.Tables.TheInside.{Inside}
use Rattle.ckr_points_runs.specs.RunChange.{HasFlagsFor, going, changed, earlier_for, holding_kit, written_after}
use Rattle.ckr_points_runs.specs.MadeNames.{points_in}
use Rattle.ckr_points_tables.specs.Parts.{tables_seen, IsKept}
use Rattle.ckr_points_tables.specs.Invariant.{AreKept, HasRoom, MayCount, MayFollow, is_run_change, put_at}
use Rattle.ckr_points_runs.specs.Needs.{MayChange}
use Rattle.ckr_points.specs.Restart.{after_event}
use Rattle.ckr_points.specs.Rows.{TablesModel}
use Rattle.ckr_points_runs.specs.RunJobs.{IsFitting, effective}
use Rattle.ckr_points_tables.specs.View.{RoomyTables, rows_of, seen_under, table_in}
use Rattle.ckr_points_runs.specs.View.{facts_of, written_of}
use Rattle.ckr_points_tables.proofs.Events.{placed_at, run_fits, may_change, desk_after, kept_after}
use Rattle.ckr_points_tables.proofs.MadeNames.{has-flags}
use Rattle.ckr_points_tables.proofs.Runs.{length-rows, runs-at}

-- what is read twice at a place is the same
pub read-twice : {A : Type 0} (items : List A) (place : ℕ) (one other : A) → place < length items → one ≡ slice_index_or items place one → other ≡ slice_index_or items place other → one ≡ other
read-twice items place one other inside is also = same_Some one other (sym (get-from items place one inside is) ∙ get-from items place other inside also)

-- what was written at a place is read there
pub read-back : {A : Type 0} (items : List A) (place : ℕ) (new other : A) → place < length items → other ≡ slice_index_or (slice_set items place new) place other → other ≡ new
read-back items place new other inside is = is ∙ get_or-set_same items place new other inside

module _ (a : Inside) (self : RoomyTables) (view : tables_seen a ≡ self) (kept : IsKept a) (event : Event) (change : is_run_change event ≡ true) (may : (deck : Option Job) → MayFollow self.desk event deck) (number : ℕ) (numbered : number ≡ job_of event) where
  may_in : (deck : Option Job) → MayFollow (tables_seen a).desk event deck
  may_in deck = subst (λ v. MayFollow v.desk event deck) (sym view) (may deck)

  lengths : (length a.lines.items ≡ length a.tables.items) × (length (rows_of a.lines.items a.tables.items) ≡ length a.tables.items)
  lengths = length-rows 1 a.lines.items a.tables.items kept.runs

  at : (0 < job_of event) × (job_of event ≤ length (rows_of a.lines.items a.tables.items))
  at = placed_at (tables_seen a).desk event None change (may_in None)

  pub from_1 : 1 ≤ number
  from_1 = omega (arith, at.0, numbered)

  is_next : job_of event ≡ suc (number - 1)
  is_next = omega (arith, numbered, from_1)

  pub inside_lines : number - 1 < length a.lines.items
  inside_lines = omega (arith, at.1, lengths.0, lengths.1, is_next)

  pub inside_tables : number - 1 < length a.tables.items
  inside_tables = omega (arith, at.1, lengths.1, is_next)

  pub inside_writings : number - 1 < length a.writings.items
  inside_writings = omega (arith, inside_tables, kept.written)

  -- the job of the run is within the limits
  pub job_ok : (table : RunTable) → table ≡ slice_index_or a.tables.items (number - 1) table → IsFitting (effective number table.job)
  job_ok table read =
      let tabled = get-from a.tables.items (number - 1) table inside_tables read in
      let lined = get-there a.lines.items (number - 1) inside_lines in
      subst (λ n. IsFitting (effective n table.job)) (omega (arith, from_1)) (runs-at 1 a.lines.items a.tables.items kept.runs (number - 1) lined.0 table lined.1 tabled).fits

  module _ (line : Run) (table : RunTable) (entries : Roomy WrittenEntry) (line_read : line ≡ slice_index_or a.lines.items (number - 1) line) (table_read : table ≡ slice_index_or a.tables.items (number - 1) table) (entries_read : entries ≡ slice_index_or a.writings.items (number - 1) entries) where
    lined : slice_get a.lines.items (number - 1) ≡ Some line
    lined = get-from a.lines.items (number - 1) line inside_lines line_read

    tabled : slice_get a.tables.items (number - 1) ≡ Some table
    tabled = get-from a.tables.items (number - 1) table inside_tables table_read

    entered : slice_get a.writings.items (number - 1) ≡ Some entries
    entered = get-from a.writings.items (number - 1) entries inside_writings entries_read

    pub fits_ok : IsFitting (effective line.number table.job)
    fits_ok = run_fits a.library a.lines.items a.tables.items a.index a.spare a.writings.items kept event None change (may_in None) (number - 1) line table entries is_next lined tabled entered

    pub number_ok : number ≡ line.number
    number_ok = omega (arith, from_1, (runs-at 1 a.lines.items a.tables.items kept.runs (number - 1) line table lined tabled).numbered)

    -- which names the steps before its step made, as the tables tell it
    pub flags_told : (flags : List Bool) (one : RunTable) → one ≡ slice_index_or a.tables.items (number - 1) one → flags ≡ earlier_for event (points_in a.tables.items) number (facts_of one)
        → flags ≡ earlier_for event (points_in a.tables.items) line.number (facts_of table)
    flags_told flags one read is =
        is
        ∙ ap (λ (t : RunTable). earlier_for event (points_in a.tables.items) number (facts_of t)) (read-twice a.tables.items (number - 1) one table inside_tables read table_read)
        ∙ ap (λ n. earlier_for event (points_in a.tables.items) n (facts_of table)) number_ok

    pub flags_ok : (flags : List Bool) → flags ≡ earlier_for event (points_in a.tables.items) line.number (facts_of table) → HasFlagsFor event flags line.number (facts_of table)
    flags_ok flags is = subst (λ all. HasFlagsFor event all line.number (facts_of table)) (sym is) (has-flags event (points_in a.tables.items) line.number (facts_of table))

    pub may_ok : MayCount event self.desk.sets → HasRoom self event → MayChange event line.number table entries a.library a.spare
    may_ok count has =
        may_change a.library a.lines.items a.tables.items a.index a.spare a.writings.items kept event None change (may_in None) (number - 1) line table entries is_next lined tabled entered
        (vec_capacity a.tables - vec_len a.tables) (vec_capacity a.lines - vec_len a.lines) (vec_capacity a.writings - vec_len a.writings) (subst (λ v. MayCount event v.desk.sets) (sym view) count) (subst (λ v. HasRoom v event) (sym view) has)

    module _ (new : Run) (after : RunTable) (sets : Named Holding) (goes : going new (facts_of after) sets ≡ changed holding_kit (earlier_for event (points_in a.tables.items) line.number (facts_of table)) event (going line (facts_of table) a.library.sets)) where
      pub desk_ok : IsTrue (are_named_in_order a.library.sets) → (more : Roomy WrittenEntry) → written_of more ≡ written_after holding_kit event (going line (facts_of table) a.library.sets) (written_of entries) → (deck : Option Job)
          → (let all : TablesModel = record { sets = seen_under (table_in (map written_of (slice_set a.writings.items (number - 1) more))) sets; runs = rows_of (slice_set a.lines.items (number - 1) new) (slice_set a.tables.items (number - 1) after) } in all) ≡ after_event event deck self.desk
      desk_ok ordered more wrote deck =
          desk_after a.library a.lines.items a.tables.items a.index a.spare a.writings.items kept event deck change (may_in deck) (number - 1) line table entries is_next lined tabled entered new after sets goes ordered more wrote
          ∙ ap (λ v. after_event event deck v.desk) view

      pub kept_ok : (more : Roomy WrittenEntry) (marks : List Mark) → marks ≡ [] → ((i : ℕ) → new.initiator ≡ Some i → i < 256) → (index : List ℕ) → index ≡ put_at new.initiator number (put_at line.initiator 0 a.index)
          → AreKept sets (slice_set a.lines.items (number - 1) new) (slice_set a.tables.items (number - 1) after) index marks (slice_set a.writings.items (number - 1) more)
      kept_ok more marks spared fits index is =
          subst (λ all. AreKept sets (slice_set a.lines.items (number - 1) new) (slice_set a.tables.items (number - 1) after) all marks (slice_set a.writings.items (number - 1) more))
          (ap (λ n. put_at new.initiator n (put_at line.initiator 0 a.index)) (sym is_next ∙ sym numbered) ∙ sym is)
          (kept_after a.library a.lines.items a.tables.items a.index a.spare a.writings.items kept event None change (may_in None) (number - 1) line table entries is_next lined tabled entered new after sets goes more marks spared fits)
