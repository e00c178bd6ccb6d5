-- The DDs of a step, with those that have no data set.
use Rattle.std.proofs.Common.{◌≡◌, ℕ, suc, ◌+◌, ◌&&◌, true, false, not, List, [], ◌∷◌, ◌++◌, drop, append_assoc, arith, refl, ap, sym, ◌∙◌, Some, None, Option}
use Rattle.std.proofs.lemmas.List.Elements.{filter_map-append}
use Rattle.std.specs.Option.{is_some, option_map, option_map_or}
use Rattle.std.specs.List.{cons_option, list_all}
use Rattle.ckr_base.proofs.Sequences.{all-same}
use Rattle.ckr_meaning.specs.Allotments.{FlawModel, DdAllotment}
use Rattle.ckr_jcl.specs.declared.deck.Dd.{Dd}
use Rattle.ckr_library.specs.Catalog.{Holding}
use Rattle.ckr_library.specs.NameMaps.{Name, Named, entry_at}
use Rattle.ckr_library.proofs.Named.{at-viewed}
use Rattle.ckr_meaning.specs.Dispositions.{Stock}
use Rattle.ckr_meaning.specs.EffectiveJob.{OwnedStep, flaw_in, flaws_in, name_of, placed_from, placed_one}
use Rattle.ckr_points.specs.Rows.{TableSet, holding_of, table_ways}
use Rattle.ckr_points.specs.Follows.{is_empty}
use Rattle.ckr_points_tables.specs.View.{seen_by}
use Rattle.ckr_points_clearance.specs.Placements.{placed_list, placed_now}
use Rattle.ckr_points_clearance.specs.declared.placements.PlacedNow.{PlacedNow}
use Rattle.ckr_points_clearance.proofs.Lists.{all-filter_mapped}

unrefused : (placed : List DdAllotment) → is_empty (flaws_in placed) ≡ list_all (λ (one : DdAllotment). not (is_some (flaw_in one.allotment))) placed
unrefused [] = refl
unrefused (one ∷ placed) = by (flaw_in one.allotment) (unrefused placed)
  where
    by : (flaw : Option FlawModel) → is_empty (flaws_in placed) ≡ list_all (λ (p : DdAllotment). not (is_some (flaw_in p.allotment))) placed
        → is_empty (cons_option (option_map (λ f. (one.number, f)) flaw) (flaws_in placed)) ≡ (not (is_some flaw) && list_all (λ (p : DdAllotment). not (is_some (flaw_in p.allotment))) placed)
    by None rest = rest
    by (Some flaw) rest = refl

pub no-flaws : (placed : List (Option PlacedNow)) → list_all (λ (one : Option PlacedNow). not (option_map_or (λ (p : DdAllotment). is_some (flaw_in p.allotment)) (option_map placed_now one) false)) placed ≡ is_empty (flaws_in (placed_list placed))
no-flaws placed =
    all-same (λ (one : Option PlacedNow). not (option_map_or (λ (p : DdAllotment). is_some (flaw_in p.allotment)) (option_map placed_now one) false))
    (λ (one : Option PlacedNow). option_map_or (λ (p : DdAllotment). not (is_some (flaw_in p.allotment))) (option_map placed_now one) true) each placed
    ∙ sym (all-filter_mapped (λ (one : Option PlacedNow). option_map placed_now one) (λ (p : DdAllotment). not (is_some (flaw_in p.allotment))) placed)
    ∙ sym (unrefused (placed_list placed))
  where
    each : (one : Option PlacedNow) → not (option_map_or (λ (p : DdAllotment). is_some (flaw_in p.allotment)) (option_map placed_now one) false) ≡ option_map_or (λ (p : DdAllotment). not (is_some (flaw_in p.allotment))) (option_map placed_now one) true
    each None = refl
    each (Some one) = refl

-- the data set of a name, as the tables see it
pub set-seen : (sets : Named Holding) (tables : Named TableSet) → sets ≡ seen_by holding_of tables → (name : Name) → option_map (λ (holding : Holding). holding.set) (entry_at sets name) ≡ option_map (λ (table : TableSet). table.set) (entry_at tables name)
set-seen sets tables is name = ap (λ all. option_map (λ (holding : Holding). holding.set) (entry_at all name)) is ∙ ap (option_map (λ (holding : Holding). holding.set)) (at-viewed holding_of tables name) ∙ by (entry_at tables name)
  where
    by : (found : Option TableSet) → option_map (λ (holding : Holding). holding.set) (option_map holding_of found) ≡ option_map (λ (table : TableSet). table.set) found
    by None = refl
    by (Some table) = refl

-- ---- DD by DD

-- the list with one more DD
pub placed-next : (before : Stock TableSet) (root : ℕ) (own : OwnedStep) (number : ℕ) (dds : List Dd) (place : ℕ) (dd : Dd) → drop place dds ≡ dd ∷ drop (place + 1) dds
    → (done : List (Option PlacedNow)) (one : Option PlacedNow) (new : List (Option PlacedNow)) → option_map placed_now one ≡ option_map (placed_one table_ways before (number + 1) dd) (name_of root own dd) → new ≡ done ++ one ∷ []
    → (all : List DdAllotment) → placed_list done ++ placed_from table_ways before root own (number + 1) (drop place dds) ≡ all
    → placed_list new ++ placed_from table_ways before root own (number + 1 + 1) (drop (place + 1) dds) ≡ all
placed-next before root own number dds place dd next done one new is more all so_far =
    ap (λ items. placed_list items ++ rest) more
    ∙ ap (λ items. items ++ rest) (filter_map-append (λ (o : Option PlacedNow). option_map placed_now o) done (one ∷ []))
    ∙ append_assoc (placed_list done) (placed_list (one ∷ [])) rest
    ∙ ap (λ items. placed_list done ++ items) (last (option_map placed_now one) ∙ ap (λ found. cons_option found rest) is)
    ∙ ap (λ n. placed_list done ++ cons_option (option_map (placed_one table_ways before (number + 1) dd) (name_of root own dd)) (placed_from table_ways before root own n (drop (place + 1) dds))) (step number)
    ∙ ap (λ some. placed_list done ++ placed_from table_ways before root own (number + 1) some) (sym next)
    ∙ so_far
  where
    rest : List DdAllotment
    rest = placed_from table_ways before root own (number + 1 + 1) (drop (place + 1) dds)

    last : (found : Option DdAllotment) → cons_option found [] ++ rest ≡ cons_option found rest
    last None = refl
    last (Some placed) = refl

    step : (n : ℕ) → n + 1 + 1 ≡ suc (n + 1)
    step n = omega arith
