-- An entry that a data set keeps, as the tables in code have it.
use Rattle.std.specs.Option.{option_copied}
use Rattle.ckr_points.specs.Rows.{KeptEntry}
use Rattle.ckr_points.specs.Tables.{kept_entry}
use Rattle.ckr_points_tables.specs.Restart.{point_written}
use Rattle.ckr_points_tables.specs.declared.entry_now.EntryNow.{EntryNow}

-- the entry with its point
abbrev pub entry_in : EntryNow → KeptEntry
entry_in entry = kept_entry entry.kept.now (point_written (option_copied entry.written))
