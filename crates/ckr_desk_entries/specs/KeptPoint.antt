-- What of an entry is compared with what the tables keep of it.
use Rattle.std.specs.Prelude.{◌==◌, Bool, ◌&&◌}
use Rattle.std.specs.Cmp.Lexicographic.{pointwise}
use Rattle.std.specs.Option.{option_eq}
use Rattle.ckr_entry.specs.Parts.{Entry}
use Rattle.ckr_entry.specs.declared.point.Mark.{Mark}
use Rattle.ckr_entry.specs.declared.point.Passed.{Passed}
use Rattle.ckr_entry.specs.declared.point.Present.{Present}
use Rattle.ckr_library.specs.NameMaps.{same_name}
use Rattle.ckr_points.specs.Marks.{same_mark, same_stamp}
use Rattle.ckr_points.specs.Rows.{EntryPoint, KeptEntry}

abbrev pub same_present : Present → Present → Bool
same_present one other =
    one.volume == other.volume && one.lrecl == other.lrecl && one.space == other.space && one.length == other.length
    && same_mark one.cataloged other.cataloged && same_stamp one.stamp other.stamp

abbrev pub same_marks : Mark → Mark → Bool
same_marks one other = same_name one.name other.name && option_eq same_present one.present other.present

abbrev pub same_passed : Passed → Passed → Bool
same_passed one other = same_name one.name other.name && same_mark one.made other.made

-- the step and its numbers
abbrev pub same_step : EntryPoint → Entry → Bool
same_step point entry =
    entry.run == point.run && entry.owner == point.owner && entry.step == point.step && same_name entry.step_name point.step_name

abbrev pub same_counts : EntryPoint → Entry → Bool
same_counts point entry = entry.count == point.count && entry.taken == point.taken && entry.writes == point.writes

abbrev pub same_lists : EntryPoint → Entry → Bool
same_lists point entry = pointwise same_marks entry.marks point.marks && pointwise same_passed entry.passed point.passed

-- the point, the state of its program aside
abbrev pub same_point : EntryPoint → Entry → Bool
same_point point entry = same_name entry.job point.job && same_step point entry && same_counts point entry && same_lists point entry

-- an entry tells what the tables keep of it, the state of its program aside
abbrev pub is_as_kept : KeptEntry → Entry → Bool
is_as_kept kept entry = same_name entry.id kept.kept.id && same_point kept.point entry
