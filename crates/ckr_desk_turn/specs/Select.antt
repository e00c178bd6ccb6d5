-- Which run an initiator has, and which comes to one that has none.
use Rattle.std.specs.Prelude.{ℕ, ◌==◌, Bool, true, false, find, Option, None, Some}
use Rattle.ckr_points.specs.declared.run.RunState.{RunState}
use Rattle.ckr_points.specs.declared.run.RunState.TheVariants.{Queued, On, Held, Released, Ended, Denied, Purged}
use Rattle.ckr_points.specs.Follows.{may_hold}
use Rattle.ckr_points.specs.Rows.{RunRow, TablesModel}

-- whether a run may come to an initiator: it was released, or is queued and its uses don't hold against those of a selected one
abbrev pub may_select : TablesModel → RunState → RunRow → Bool
may_select tables Queued row = may_hold tables row
may_select tables On row = false
may_select tables Held row = false
may_select tables Released row = true
may_select tables Ended row = false
may_select tables Denied row = false
may_select tables Purged row = false

-- the lowest run that may come to an initiator
abbrev pub next_run : TablesModel → Option RunRow
next_run tables = find (λ row. may_select tables row.state row) tables.runs

abbrev pub is_on : ℕ → Option ℕ → Bool
is_on initiator None = false
is_on initiator (Some other) = initiator == other

-- the run on an initiator
abbrev pub run_on_initiator : TablesModel → ℕ → Option RunRow
run_on_initiator tables initiator = find (λ row. is_on initiator row.initiator) tables.runs
