-- The DDs of a step, one after another.
use Rattle.std.proofs.Common.{◌≡◌, ℕ, ◌+◌, ◌<◌, ◌&&◌, true, List, [], ◌∷◌, ◌++◌, length, take, drop, get_or, append-nil, ap, sym, ◌∙◌, Some, None, Option}
use Rattle.std.specs.Option.{option_map, option_map_or, option_to_list}
use Rattle.std.specs.List.{cons_option}
use Rattle.ckr_base.proofs.Sequences.{drop-at, filter_map-more}
use Rattle.ckr_events.specs.declared.event.Made.{Made}
use Rattle.ckr_library.specs.NameMaps.{Named}
use Rattle.ckr_meaning.specs.Allotments.{DdAllotment}
use Rattle.ckr_points.specs.Rows.{TableSet}
use Rattle.ckr_volumes.specs.declared.layout.Layout.{Layout}
use Rattle.ckr_points_clearance.specs.Placements.{are_clear_beside, is_clear_beside, placed_list, placed_now}
use Rattle.ckr_points_clearance.specs.declared.placements.PlacedNow.{PlacedNow}

module _ (layout : Layout) (items : List Made) (sets : Named TableSet) where
  one-more : (before : List DdAllotment) (found : Option DdAllotment) (rest : List DdAllotment) → option_map_or (is_clear_beside layout items sets before) found true ≡ true
      → are_clear_beside layout items sets (before ++ option_to_list found) rest ≡ are_clear_beside layout items sets before (cons_option found rest)
  one-more before None rest clear = ap (λ all. are_clear_beside layout items sets all rest) (append-nil before)
  one-more before (Some one) rest clear = sym (ap (λ b. b && are_clear_beside layout items sets (before ++ one ∷ []) rest) clear)

  -- behind a DD that is clear
  pub beside-next : (placed : List (Option PlacedNow)) (place : ℕ) (one : Option PlacedNow) → place < length placed → one ≡ get_or placed place one
      → option_map_or (is_clear_beside layout items sets (placed_list (take place placed))) (option_map placed_now one) true ≡ true
      → are_clear_beside layout items sets (placed_list (take (place + 1) placed)) (placed_list (drop (place + 1) placed))
      ≡ are_clear_beside layout items sets (placed_list (take place placed)) (placed_list (drop place placed))
  beside-next placed place one inside is clear =
      ap (λ before. are_clear_beside layout items sets before (placed_list (drop (place + 1) placed))) (filter_map-more (λ (o : Option PlacedNow). option_map placed_now o) placed place one inside is)
      ∙ one-more (placed_list (take place placed)) (option_map placed_now one) (placed_list (drop (place + 1) placed)) clear
      ∙ ap (λ rest. are_clear_beside layout items sets (placed_list (take place placed)) (placed_list rest)) (sym (drop-at placed place one inside is))
