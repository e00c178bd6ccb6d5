-- What an entry has of data sets: the marks of the names of the job, and what was passed on.
use Rattle.std.specs.Prelude.{◌<◌, ◌^◌, ℕ, zero, suc, Bool, true, List, [], ◌∷◌, ◌++◌, length, Option, Some, None, Ok}
use Rattle.std.specs.Int.{w16, to_be_bytes}
use Rattle.std.specs.Ordering.{is_lt}
use Rattle.ckr_library.specs.NameMaps.{Name, name_cmp}
use Rattle.ckr_fields.specs.Readers.{Reading, ◌>>=◌}
use Rattle.ckr_fields.specs.Fields.{Field, byte, two_bytes, four_bytes, number_at, judged, ◌&◌, ds_name, flag, items, seen_at, spell_each}
use Rattle.ckr_library.specs.declared.sets.Stamp.{Stamp}
use Rattle.ckr_entry.specs.declared.point.Present.{Present}
use Rattle.ckr_entry.specs.declared.point.Mark.{Mark}
use Rattle.ckr_entry.specs.declared.point.Passed.{Passed}
use Rattle.ckr_entry.specs.Numbers.{given}

-- ---- a data set that was there: its volume, record length, space and length, whether it was in the catalog, and its stamp

abbrev pub stamp_parts : Field (ℕ × (ℕ × ℕ))
stamp_parts = four_bytes & byte & four_bytes

unfoldable pub stamp_at : List ℕ → Reading Stamp
stamp_at = seen_at (λ x. record { run = x.0; step = x.1.0; rewrites = x.1.1 }) stamp_parts.read

abbrev pub stamp : Field Stamp
stamp = record {
  fits = λ s. stamp_parts.fits (s.run, (s.step, s.rewrites));
  spell = λ s. stamp_parts.spell (s.run, (s.step, s.rewrites));
  read = stamp_at;
}

abbrev pub PresentParts : Type 0
PresentParts = ℕ × (ℕ × (ℕ × (ℕ × (Bool × Stamp))))

abbrev pub present_parts : Field PresentParts
present_parts = byte & two_bytes & four_bytes & four_bytes & flag & stamp

abbrev pub parts_of_present : Present → PresentParts
parts_of_present p = (p.volume, (p.lrecl, (p.space, (p.length, (p.cataloged, p.stamp)))))

abbrev pub present_of_parts : PresentParts → Present
present_of_parts x = record {
  volume = x.0;
  lrecl = x.1.0;
  space = x.1.1.0;
  length = x.1.1.1.0;
  cataloged = x.1.1.1.1.0;
  stamp = x.1.1.1.1.1;
}

unfoldable pub present_at : List ℕ → Reading Present
present_at = seen_at present_of_parts present_parts.read

abbrev pub present : Field Present
present = record {
  fits = λ p. present_parts.fits (parts_of_present p);
  spell = λ p. present_parts.spell (parts_of_present p);
  read = present_at;
}

-- ---- a mark, whose name comes behind that of the mark before it

abbrev pub is_behind : Option Name → Name → Bool
is_behind None name = true
is_behind (Some before) name = is_lt (name_cmp before name)

abbrev pub mark_parts : Option Name → Field (Name × Option Present)
mark_parts before = judged (is_behind before) ds_name & given present

unfoldable pub mark_at : Option Name → List ℕ → Reading Mark
mark_at before = seen_at (λ x. record { name = x.0; present = x.1 }) (mark_parts before).read

abbrev pub mark : Option Name → Field Mark
mark before = record {
  fits = λ m. (mark_parts before).fits (m.name, m.present);
  spell = λ m. (mark_parts before).spell (m.name, m.present);
  read = mark_at before;
}

-- so many marks in ascending order of the names
unfoldable pub rising_at : Option Name → ℕ → List ℕ → Reading (List Mark)
rising_at before zero bytes = Ok ([], bytes)
rising_at before (suc n) bytes =
    mark_at before bytes >>= λ first. rising_at (Some first.0.name) n first.1 >>= λ others. Ok (first.0 ∷ others.0, others.1)

abbrev pub rising_fits : Option Name → List Mark → Type 0
rising_fits before [] = Unit {0}
rising_fits before (one ∷ others) = (mark before).fits one × rising_fits (Some one.name) others

unfoldable pub marks_at : List ℕ → Reading (List Mark)
marks_at bytes = number_at w16 bytes >>= λ n. rising_at None n.0 n.1

-- the marks behind their count of two bytes
abbrev pub marks : Field (List Mark)
marks = record {
  fits = λ xs. (length xs < 2 ^ 16) × rising_fits None xs;
  spell = λ xs. to_be_bytes w16 (length xs) ++ spell_each (mark None).spell xs;
  read = marks_at;
}

-- ---- what was passed on, behind its count of two bytes

abbrev pub passed_parts : Field (Name × Bool)
passed_parts = ds_name & flag

unfoldable pub passed_one_at : List ℕ → Reading Passed
passed_one_at = seen_at (λ x. record { name = x.0; made = x.1 }) passed_parts.read

abbrev pub passed_one : Field Passed
passed_one = record {
  fits = λ p. passed_parts.fits (p.name, p.made);
  spell = λ p. passed_parts.spell (p.name, p.made);
  read = passed_one_at;
}

unfoldable pub passed_at : List ℕ → Reading (List Passed)
passed_at = (items two_bytes passed_one).read

abbrev pub passed : Field (List Passed)
passed = record { fits = (items two_bytes passed_one).fits; spell = (items two_bytes passed_one).spell; read = passed_at }
