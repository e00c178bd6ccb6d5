-- What a step makes, by what the code tests.
use Rattle.std.proofs.Common.{◌≡◌, ◌&&◌, Bool, true, false, nat_eq, List, [], map, refl, sym}
use Rattle.std.specs.List.{list_all}
use Rattle.std.specs.Cmp.Lexicographic.{pointwise}
use Rattle.ckr_events.specs.declared.event.Made.{Made}
use Rattle.ckr_library.specs.declared.sets.Stamp.{Stamp}
use Rattle.ckr_library.specs.NameMaps.{Named}
use Rattle.ckr_meaning.specs.Allotments.{DdAllotment}
use Rattle.ckr_meaning.specs.EffectiveJob.{OwnedStep, flaws_in, names_of}
use Rattle.ckr_meaning.specs.SetUses.Uses.{are_distinct}
use Rattle.ckr_points.specs.Follows.{are_made_clear, is_empty, is_part_whole, made_dds}
use Rattle.ckr_points.specs.Rows.{TableSet, TablesModel}
use Rattle.ckr_points_tables.specs.Model.RunTable.{RunTable}
use Rattle.ckr_volumes.specs.declared.layout.Layout.{Layout}
use Rattle.ckr_points_clearance.specs.Placements.{are_clear_beside}
use Rattle.ckr_points_clearance.specs.Start.{makes_items, placed_for, standing_now}
use Rattle.ckr_points_clearance.proofs.Starts.Clearance.{step-clear}

-- what the code tests
abbrev pub items_form : Layout → List Made → Named TableSet → List DdAllotment → Bool
items_form layout items sets placed =
    is_empty (flaws_in placed) && pointwise nat_eq (made_dds placed) (map (λ (item : Made). item.dd) items) && list_all (is_part_whole placed) items
    && are_clear_beside layout items sets [] placed

shape : (f n w c d : Bool) → c ≡ d → (((f && n) && w) && d) ≡ (f && ((n && w) && c))
shape false n w c d same = refl
shape true false w c d same = refl
shape true true false c d same = refl
shape true true true c d same = sym same

pub items-by : (layout : Layout) (items : List Made) (tables : TablesModel) (table : RunTable) (own : OwnedStep) (stamp : Stamp) → are_distinct (names_of table.job.root own) ≡ true
    → items_form layout items tables.sets (placed_for tables table own) ≡ makes_items layout stamp tables table own items
items-by layout items tables table own stamp distinct =
    let placed = placed_for tables table own in
    shape (is_empty (flaws_in placed)) (pointwise nat_eq (made_dds placed) (map (λ (item : Made). item.dd) items)) (list_all (is_part_whole placed) items)
    (are_made_clear layout stamp items placed tables.sets) (are_clear_beside layout items tables.sets [] placed)
    (step-clear layout stamp items (standing_now tables table) table.job.root own distinct)
