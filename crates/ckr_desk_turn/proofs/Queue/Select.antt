-- The queue of the tables' runs selects the run that comes next.
use Rattle.std.proofs.Common.{◌≡◌, Bool, true, false, not, ◌&&◌, ◌||◌, List, [], ◌∷◌, refl, ap, ◌∙◌, cond, Some, find}
use Rattle.std.specs.List.{list_all, list_any, filter_map}
use Rattle.ckr_uses.specs.Uses.{uses_of, holds}
use Rattle.ckr_queue.specs.declared.entry.QueueEntry.{QueueEntry}
use Rattle.ckr_queue.specs.declared.entry.QueueState.{QueueState}
use Rattle.ckr_queue.specs.declared.entry.QueueState.TheVariants as InQueue
use Rattle.ckr_queue.specs.declared.entry.Selection.{Selection}
use Rattle.ckr_queue.specs.Queue.{keeps_out, may_start, selection_with, selection_of}
use Rattle.ckr_points.specs.declared.run.RunState.TheVariants.{Queued, On, Held, Released, Ended, Denied, Purged}
use Rattle.ckr_points.specs.Follows.{may_hold}
use Rattle.ckr_points.specs.Office.{is_holder}
use Rattle.ckr_points.specs.Rows.{RunRow, TablesModel}
use Rattle.ckr_desk_turn.specs.Select.{may_select, next_run}
use Rattle.ckr_desk_turn.specs.Queue.{entry_with, entry_of, queue_of, selection_for}

-- whether a run isn't kept out by any of these
abbrev pub is_let_in : RunRow → List RunRow → Bool
is_let_in row others =
    list_all (λ other. not (is_holder other.state && holds (uses_of row.number row.deck) (uses_of other.number other.deck))) others

join : (kept out rest : Bool) → not out ≡ rest → not (kept || out) ≡ (not kept && rest)
join true out rest e = refl
join false out rest e = e

-- a queued run is kept out by an entry exactly where one of the runs keeps it out
pub let_in : (row : RunRow) (state : QueueState) (others : List RunRow)
    → not (list_any (keeps_out (entry_with row state)) (filter_map entry_of others)) ≡ is_let_in row others
let_in row state [] = refl
let_in row state (other ∷ others) =
    elim other.state as (λ s. not (list_any (keeps_out (entry_with row state)) (filter_map entry_of (record other { state = s } ∷ others)))
    ≡ is_let_in row (record other { state = s } ∷ others)) [
      | Queued ↦ let_in row state others
      | On ↦ join (holds (uses_of row.number row.deck) (uses_of other.number other.deck)) _ _ (let_in row state others)
      | Held ↦ join (holds (uses_of row.number row.deck) (uses_of other.number other.deck)) _ _ (let_in row state others)
      | Released ↦ join (holds (uses_of row.number row.deck) (uses_of other.number other.deck)) _ _ (let_in row state others)
      | Ended ↦ let_in row state others
      | Denied ↦ let_in row state others
      | Purged ↦ let_in row state others
    ]

abbrev selected_in : TablesModel → List RunRow → Selection
selected_in tables rows = selection_for (find (λ row. may_select tables row.state row) rows)

abbrev selected_among : TablesModel → List QueueEntry → Selection
selected_among tables entries = selection_with (find (may_start (queue_of tables)) entries)

-- the first entry that may start is that of the first run that may come
first_of : (tables : TablesModel) (rows : List RunRow) → selected_among tables (filter_map entry_of rows) ≡ selected_in tables rows
first_of tables [] = refl
first_of tables (row ∷ rows) =
    elim row.state as (λ s. selected_among tables (filter_map entry_of (record row { state = s } ∷ rows)) ≡ selected_in tables (record row { state = s } ∷ rows)) [
      | Queued ↦
          ap (λ b. selection_with (cond b (Some (entry_with row InQueue.Queued)) (find (may_start (queue_of tables)) (filter_map entry_of rows)))) (let_in row InQueue.Queued tables.runs)
          ∙ elim (may_hold tables row) as (λ b. selection_with (cond b (Some (entry_with row InQueue.Queued)) (find (may_start (queue_of tables)) (filter_map entry_of rows)))
          ≡ selection_for (cond b (Some (record row { state = Queued })) (find (λ row. may_select tables row.state row) rows))) [
            | true ↦ refl
            | false ↦ first_of tables rows
          ]
      | On ↦ first_of tables rows
      | Held ↦ first_of tables rows
      | Released ↦ refl
      | Ended ↦ first_of tables rows
      | Denied ↦ first_of tables rows
      | Purged ↦ first_of tables rows
    ]

pub selection_is_next : (tables : TablesModel) → selection_of (queue_of tables) ≡ selection_for (next_run tables)
unfolding selection_of
selection_is_next tables = first_of tables tables.runs
