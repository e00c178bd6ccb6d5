use Rattle.std.proofs.Common.{rules, ◌≡◌, ap, ◌∙◌, false, Some}
use Rattle.std.specs.Option.{option_map, option_map_or}
use Rattle.ckr_library.specs.Catalog.{Holding}
use Rattle.ckr_library.specs.NameMaps.{entry_at}
use Rattle.ckr_library.specs.declared.sets.DataSet.{DataSet}
use Rattle.ckr_points.specs.RuleCases.{syschk_found}
use Rattle.ckr_points.specs.Soundness.{serials}
use Rattle.ckr_points.specs.Staleness.{bare_set}
use Rattle.ckr_meaning.specs.SetUses.Uses.{written_name}
use Rattle.ckr_points.proofs.SyschkSets.{syschk-found}
use Rattle.ckr_points.proofs.syschk.is_syschk_found.Goals as goal

pub returns : goal.returns
returns c row sets has seen =
    let dd = c.in-Some.dd.now in
    let name = c.in-Some-syschk_name.name.now in
    let named : written_name dd.origin ≡ Some name = search rules in
    let given : row.deck.syschk ≡ Some dd = search rules in
    c.is_found_under.ensures
    ∙ ap (λ held. option_map_or (λ (set : DataSet). syschk_found (serials c.args.layout.now) dd (bare_set set)) (option_map (λ (holding : Holding). holding.set) (entry_at held name)) false) seen
    ∙ syschk-found (serials c.args.layout.now) row sets dd name given named
