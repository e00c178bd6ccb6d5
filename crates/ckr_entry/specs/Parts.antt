-- An entry as its parts, one behind the other.
use Rattle.std.specs.Prelude.{ℕ, List, unwrap_or, []}
use Rattle.ckr_library.specs.NameMaps.{Name}
use Rattle.ckr_fields.specs.Readers.{Reading}
use Rattle.ckr_fields.specs.Fields.{Field, depending, ◌&◌, seen_at}
use Rattle.ckr_entry.specs.declared.head.Head.{Head}
use Rattle.ckr_entry.specs.declared.point.Mark.{Mark}
use Rattle.ckr_entry.specs.declared.point.Passed.{Passed}
use Rattle.ckr_entry.specs.declared.point.Point.{Point}
use Rattle.ckr_entry.specs.declared.point.State.{State}
use Rattle.ckr_entry.specs.Heads.{head}
use Rattle.ckr_entry.specs.States.{state}
use Rattle.ckr_entry.specs.Sets.{marks, passed}

-- what an entry tells of a point: all of it, but for the spare places of its lists
pub record Entry : Type 0 where
  pub id : Name
  pub job : Name
  pub run : ℕ
  pub owner : ℕ
  pub step : ℕ
  pub step_name : Name
  pub count : ℕ
  pub taken : ℕ
  pub writes : ℕ
  pub state : State
  pub marks : List Mark
  pub passed : List Passed

-- a point as an entry; one that has no identifier is told with the empty one, which no entry has
abbrev pub entry_of : Point → Entry
entry_of point = record {
  id = unwrap_or point.id [];
  job = point.job;
  run = point.run;
  owner = point.owner;
  step = point.step;
  step_name = point.step_name;
  count = point.count;
  taken = point.taken;
  writes = point.writes;
  state = point.state;
  marks = point.marks.items;
  passed = point.passed.items;
}

abbrev pub EntryParts : Type 0
EntryParts = Head × (State × (List Mark × List Passed))

abbrev pub parts_of_entry : Entry → EntryParts
parts_of_entry e = (
  record {
    id = e.id;
    job = e.job;
    run = e.run;
    owner = e.owner;
    step = e.step;
    step_name = e.step_name;
    count = e.count;
    taken = e.taken;
    writes = e.writes;
  },
  (e.state, (e.marks, e.passed)),
)

abbrev pub entry_of_parts : EntryParts → Entry
entry_of_parts x = record {
  id = x.0.id;
  job = x.0.job;
  run = x.0.run;
  owner = x.0.owner;
  step = x.0.step;
  step_name = x.0.step_name;
  count = x.0.count;
  taken = x.0.taken;
  writes = x.0.writes;
  state = x.1.0;
  marks = x.1.1.0;
  passed = x.1.1.1;
}

-- the records taken decide which counts the state may have
abbrev pub entry_parts : Field EntryParts
entry_parts = depending head (λ h. state h.taken & marks & passed)

unfoldable pub entry_at : List ℕ → Reading Entry
entry_at = seen_at entry_of_parts entry_parts.read

abbrev pub entry : Field Entry
entry = record {
  fits = λ e. entry_parts.fits (parts_of_entry e);
  spell = λ e. entry_parts.spell (parts_of_entry e);
  read = entry_at;
}
