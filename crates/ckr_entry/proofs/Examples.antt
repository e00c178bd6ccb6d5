-- An entry by its definitions: the first checkpoint of a COPY of 60 records that has taken and written 20.
use Rattle.std.specs.Prelude.{◌≡◌, ℕ, List, [], ◌∷◌, Bool, true, false, Some, codes, refl}
use Rattle.ckr_programs.specs.Kinds.Kind.TheVariants.{Copy}
use Rattle.ckr_library.specs.NameMaps.{Name}
use Rattle.ckr_entry.specs.declared.point.Mark.{Mark}
use Rattle.ckr_entry.specs.declared.point.State.TheVariants.{Plain}
use Rattle.ckr_entry.specs.States.{plain_state}
use Rattle.ckr_entry.specs.Parts.{Entry}
use Rattle.ckr_entry.specs.Entry.{spelling}

abbrev marked : Name → ℕ → ℕ → ℕ → Bool → ℕ → Mark
marked named size room used on maker = record {
  name = named;
  present = Some (record {
    volume = 0;
    lrecl = size;
    space = room;
    length = used;
    cataloged = on;
    stamp = record { run = maker; step = 1; rewrites = 0 };
  });
}

abbrev worked : Entry
worked = record {
  id = codes "C0000001";
  job = codes "K";
  run = 2;
  owner = 2;
  step = 1;
  step_name = codes "S1";
  count = 1;
  taken = 20;
  writes = 20;
  state = Plain (plain_state Copy (record { first = 20; second = 0; rejects = 0; entries = 1 }) 0);
  marks = marked (codes "CHK.K") 256 20 1 false 2 ∷ marked (codes "IN.A") 80 100 60 true 1 ∷ marked (codes "OUT.K") 80 100 20 false 2 ∷ [];
  passed = [];
}

abbrev worked_bytes : List ℕ
worked_bytes =
    67 ∷ 75 ∷ 80 ∷ 84 ∷
    8 ∷ 67 ∷ 48 ∷ 48 ∷ 48 ∷ 48 ∷ 48 ∷ 48 ∷ 49 ∷ 1 ∷ 75 ∷ 0 ∷ 0 ∷ 0 ∷ 2 ∷ 0 ∷ 0 ∷ 0 ∷ 2 ∷ 1 ∷ 2 ∷ 83 ∷ 49 ∷ 0 ∷ 0 ∷ 0 ∷ 1 ∷
    0 ∷ 0 ∷ 0 ∷ 20 ∷ 0 ∷ 0 ∷ 0 ∷ 20 ∷ 1 ∷ 0 ∷ 0 ∷ 0 ∷ 20 ∷ 0 ∷ 0 ∷ 0 ∷ 0 ∷
    0 ∷ 0 ∷
    0 ∷ 0 ∷ 0 ∷ 0 ∷ 0 ∷ 1 ∷ 0 ∷ 3 ∷ 5 ∷ 67 ∷ 72 ∷ 75 ∷ 46 ∷ 75 ∷ 1 ∷ 0 ∷ 1 ∷ 0 ∷ 0 ∷ 0 ∷ 0 ∷ 20 ∷ 0 ∷ 0 ∷ 0 ∷ 1 ∷ 0 ∷ 0 ∷
    0 ∷ 0 ∷ 2 ∷ 1 ∷ 0 ∷ 0 ∷ 0 ∷ 0 ∷ 4 ∷ 73 ∷ 78 ∷ 46 ∷ 65 ∷ 1 ∷ 0 ∷ 0 ∷ 80 ∷ 0 ∷ 0 ∷ 0 ∷ 100 ∷ 0 ∷ 0 ∷ 0 ∷ 60 ∷ 1 ∷ 0 ∷
    0 ∷ 0 ∷ 1 ∷ 1 ∷ 0 ∷ 0 ∷ 0 ∷ 0 ∷ 5 ∷ 79 ∷ 85 ∷ 84 ∷ 46 ∷ 75 ∷ 1 ∷ 0 ∷ 0 ∷ 80 ∷ 0 ∷ 0 ∷ 0 ∷ 100 ∷ 0 ∷ 0 ∷ 0 ∷ 20 ∷ 0 ∷ 0 ∷
    0 ∷ 0 ∷ 2 ∷ 1 ∷ 0 ∷ 0 ∷ 0 ∷ 0 ∷ 0 ∷ 0 ∷ []

pub worked_spelling : spelling worked ≡ worked_bytes
worked_spelling = refl
