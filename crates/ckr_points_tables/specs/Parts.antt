-- How the parts of the tables in code are seen.
use Rattle.std.specs.Prelude.{◌-◌, map, vec_len, vec_capacity}
use Rattle.std.specs.Option.{option_map}
use Rattle.ckr_base.specs.RoomyLists.{Roomy}
use Rattle.ckr_points_runs.specs.declared.run_table.WrittenEntry.{WrittenEntry}
use Rattle.ckr_points_tables.specs.declared.tables.Tables.TheInside.{Inside}
use Rattle.ckr_points_tables.specs.BegunRuns.{AreEnded, AreWaiting}
use Rattle.ckr_points_tables.specs.Invariant.{AreKept}
use Rattle.ckr_points_tables.specs.View.{RoomyTables, next_of, room_of, rows_of, seen_under, table_in}
use Rattle.ckr_points_runs.specs.View.{written_of}

abbrev pub tables_seen : Inside → RoomyTables
tables_seen a = record {
  desk = record { sets = seen_under (table_in (map written_of a.writings.items)) a.library.sets; runs = rows_of a.lines.items a.tables.items };
  room = record {
    sets = a.library.room;
    kept = a.library.entry_rooms;
    runs = vec_capacity a.tables - vec_len a.tables;
    lines = vec_capacity a.lines - vec_len a.lines;
    sorted = a.spare.sorted.room;
    marks = a.spare.marks.room;
    passed = a.spare.passed.room;
    each = map room_of a.tables.items;
    writings = vec_capacity a.writings - vec_len a.writings;
    entries = map (λ (entries : Roomy WrittenEntry). entries.room) a.writings.items;
    next = option_map next_of a.spare.next;
  };
}

abbrev pub IsKept : Inside → Type 0
IsKept a = AreKept a.library.sets a.lines.items a.tables.items a.index a.spare.marks.items a.writings.items

-- what is kept, and the marks of ended runs and of those that wait, which no view has
pub record IsSound (a : Inside) : Type 0 where
  pub kept : IsKept a
  pub ended : AreEnded a.ended a.lines.items
  pub waits : AreWaiting a.changed a.lines.items
