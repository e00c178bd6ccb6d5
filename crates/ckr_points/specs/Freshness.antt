-- Whether a point is fresh on the needed names: the rules D8, D9 and D10.
use Rattle.std.specs.Prelude.{ℕ, ◌==◌, Bool, false, ◌&&◌, not, nat_le, if◌then◌else◌, List, [], ◌∷◌, filter, find, Option, None, Some}
use Rattle.std.specs.Option.{option_map_or, option_or}
use Rattle.ckr_jcl.specs.declared.deck.Dd.{Dd}
use Rattle.ckr_library.specs.NameMaps.{Name, Named, same_name, entry_at}
use Rattle.ckr_meaning.specs.Allotments.{is_wrong_kind}
use Rattle.ckr_meaning.specs.EffectiveJob.{OwnedStep, name_of, is_among}
use Rattle.ckr_entry.specs.declared.point.Mark.{Mark}
use Rattle.ckr_entry.specs.declared.point.Present.{Present}
use Rattle.ckr_rules.specs.declared.cases.Rule.{Rule}
use Rattle.ckr_rules.specs.declared.cases.Rule.TheVariants.{D8, D9, D10}
use Rattle.ckr_points.specs.declared.denial.Denial.{Denial}
use Rattle.ckr_points.specs.declared.denial.Seen.{Seen}
use Rattle.ckr_points.specs.Rows.{TableSet}
use Rattle.ckr_points_library.specs.Commit.{output_names}
use Rattle.ckr_points.specs.Marks.{same_stamp}

-- a denial that names no data set
abbrev pub plain_denial : Rule → Denial
plain_denial rule = record { rule = rule; name = None; had = None; now = None }

abbrev pub named_denial : Rule → Name → Denial
named_denial rule name = record { rule = rule; name = Some name; had = None; now = None }

abbrev pub seen_at : Present → Seen
seen_at present = record { stamp = present.stamp; length = present.length }

abbrev pub seen_now : TableSet → Seen
seen_now table = record { stamp = table.set.stamp; length = table.set.length }

abbrev pub changed_denial : Name → Present → TableSet → Denial
changed_denial name present table = record { rule = D10; name = Some name; had = Some (seen_at present); now = Some (seen_now table) }

-- whether a length is that of the point; an output may be longer
abbrev pub is_long_enough : Bool → ℕ → ℕ → Bool
is_long_enough output had now = if output then nat_le had now else now == had

-- the DD of a step that has this name
abbrev pub dd_under : ℕ → OwnedStep → Name → Option Dd
dd_under root owned name =
    find (λ dd. option_map_or (same_name name) (name_of root owned dd) false) owned.step.dds

abbrev pub is_of_wrong_kind : ℕ → OwnedStep → Name → TableSet → Bool
is_of_wrong_kind root owned name table =
    option_map_or (λ dd. is_wrong_kind dd.role table.set.content) (dd_under root owned name) false

abbrev pub stale_present : ℕ → OwnedStep → Name → Present → Option TableSet → Option Denial
stale_present root owned name present None = Some (named_denial D8 name)
stale_present root owned name present (Some table) =
    if same_stamp table.set.stamp present.stamp
    && is_long_enough (is_among (output_names root owned) name) present.length table.set.length
    && not (is_of_wrong_kind root owned name table)
    then None
    else Some (changed_denial name present table)

abbrev pub stale_by : ℕ → OwnedStep → Name → Option Present → Option TableSet → Option Denial
stale_by root owned name (Some present) table = stale_present root owned name present table
stale_by root owned name None None = None
stale_by root owned name None (Some table) = Some (named_denial D9 name)

-- the first of the rules D8 to D10 that a marked name meets
abbrev pub stale_at : ℕ → OwnedStep → Named TableSet → Mark → Option Denial
stale_at root owned sets mark = stale_by root owned mark.name mark.present (entry_at sets mark.name)

abbrev pub first_stale : ℕ → OwnedStep → Named TableSet → List Mark → Option Denial
first_stale root owned sets [] = None
first_stale root owned sets (mark ∷ marks) = option_or (stale_at root owned sets mark) (first_stale root owned sets marks)

-- none where the point is fresh on the needed names, else the denial of the least one that isn't; marks ascend by name
abbrev pub fresh : ℕ → OwnedStep → List Mark → List Name → Named TableSet → Option Denial
fresh root owned marks needed sets = first_stale root owned sets (filter (λ mark. is_among needed mark.name) marks)
