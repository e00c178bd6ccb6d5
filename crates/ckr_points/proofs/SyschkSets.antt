-- SYSCHK's data set.
-- volume-beyond          no serial where there is no volume
-- syschk-found           whether it is found, by the name that SYSCHK has
use Rattle.std.proofs.Common.{◌≡◌, ℕ, false, refl, ap, sym, ◌∙◌, List, [], ◌∷◌, ◌≤◌, length, IsTrue, Option, Some, None}
use Rattle.std.specs.Option.{option_map, option_map_or}
use Rattle.std.proofs.lemmas.Option.{slice_get-map, slice_get_past}
use Rattle.ckr_base.proofs.Bools.{false-not-true}
use Rattle.ckr_base.proofs.Options.{some-not-none}
use Rattle.ckr_base.specs.Grammar.{is_serial}
use Rattle.ckr_jcl.specs.declared.deck.Dd.{Dd}
use Rattle.ckr_jcl.specs.declared.deck.Origin.{Origin}
use Rattle.ckr_jcl.specs.declared.deck.Origin.TheVariants.{InStream, Named as NamedOrigin, Temporary, Unnamed, Sysout, Dummy}
use Rattle.ckr_library.specs.Catalog.{Holding}
use Rattle.ckr_library.specs.NameMaps.{Name, Named, entry_at, same_name}
use Rattle.ckr_library.proofs.Named.{at-viewed}
use Rattle.ckr_library.specs.declared.sets.DataSet.{DataSet}
use Rattle.ckr_meaning.specs.SetUses.SetNames.{library_name, origin_name, run_name}
use Rattle.ckr_meaning.specs.SetUses.Uses.{written_name}
use Rattle.ckr_volumes.specs.declared.layout.Layout.{Layout}
use Rattle.ckr_points.specs.Restart.{syschk_name}
use Rattle.ckr_points.specs.RuleCases.{is_syschk_found, serial_at, syschk_found}
use Rattle.ckr_points.specs.Rows.{RunRow, TableSet, holding_of}
use Rattle.ckr_points.specs.Soundness.{serials}
use Rattle.ckr_points.specs.Staleness.{bare_set, held_sets}

-- a serial isn't empty
serial-some : (serial : Name) → IsTrue (is_serial serial) → same_name serial [] ≡ false
serial-some [] is = false-not-true is
serial-some (first ∷ rest) is = refl

pub volume-beyond : (layout : Layout) (serial : Name) (volume : ℕ) → IsTrue (is_serial serial) → length layout.volumes.items ≤ volume → same_name serial (serial_at (serials layout) volume) ≡ false
volume-beyond layout serial volume is beyond =
    ap (λ at. same_name serial (option_map_or (λ (one : Name). one) at [])) (slice_get-map (λ one. one.serial) layout.volumes.items volume ∙ ap (option_map (λ one. one.serial)) (slice_get_past layout.volumes.items volume beyond))
    ∙ serial-some serial is

-- ---- the name that SYSCHK has

written-named : (origin : Origin) (name root owner step dd : Name) → written_name origin ≡ Some name → origin_name origin root owner step dd ≡ Some name
written-named (InStream cards) name root owner step dd is = absurd (some-not-none name (sym is))
written-named (NamedOrigin text) name root owner step dd is = is
written-named (Temporary text) name root owner step dd is = absurd (some-not-none name (sym is))
written-named Unnamed name root owner step dd is = absurd (some-not-none name (sym is))
written-named Sysout name root owner step dd is = absurd (some-not-none name (sym is))
written-named Dummy name root owner step dd is = absurd (some-not-none name (sym is))

name-written : (row : RunRow) (dd : Dd) (name : Name) → row.deck.syschk ≡ Some dd → written_name dd.origin ≡ Some name → syschk_name row.deck ≡ name
name-written row dd name has named =
    ap (λ syschk. option_map_or (λ one. option_map_or (λ (text : Name). text) (library_name one 0 0 []) []) syschk []) has
    ∙ ap (λ text. option_map_or (λ (one : Name). one) text []) (written-named dd.origin name (run_name 0) (run_name 0) [] dd.name named)

-- what the library has under that name decides
pub syschk-found : (serials : List Name) (row : RunRow) (sets : Named TableSet) (dd : Dd) (name : Name) → row.deck.syschk ≡ Some dd → written_name dd.origin ≡ Some name → option_map_or (λ (set : DataSet). syschk_found serials dd (bare_set set)) (option_map (λ (holding : Holding). holding.set) (entry_at (held_sets sets) name)) false ≡ is_syschk_found serials row sets
syschk-found serials row sets dd name has named =
    ap (λ table. option_map_or (λ (set : DataSet). syschk_found serials dd (bare_set set)) (option_map (λ (holding : Holding). holding.set) table) false) (at-viewed holding_of sets name)
    ∙ by (entry_at sets name)
    ∙ ap (λ text. option_map_or (syschk_found serials dd) (entry_at sets text) false) (sym (name-written row dd name has named))
    ∙ ap (λ syschk. option_map_or (λ one. option_map_or (syschk_found serials one) (entry_at sets (syschk_name row.deck)) false) syschk false) (sym has)
  where
    by : (table : Option TableSet) → option_map_or (λ (set : DataSet). syschk_found serials dd (bare_set set)) (option_map (λ (holding : Holding). holding.set) (option_map holding_of table)) false ≡ option_map_or (syschk_found serials dd) table false
    by None = refl
    by (Some table) = refl
