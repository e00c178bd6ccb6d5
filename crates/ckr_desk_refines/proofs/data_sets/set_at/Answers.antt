use Rattle.std.proofs.Common.{Some, ap, ◌∙◌}
use Rattle.std.specs.Option.{option_map}
use Rattle.ckr_library.specs.declared.sets.DataSet.{DataSet}
use Rattle.ckr_library.specs.NameMaps.{Name}
use Rattle.ckr_desk_refines.specs.declared.data_sets.Listed.{Listed}
use Rattle.ckr_desk_refines.proofs.Listing.Lines.{line-there, no-line, no-set}
use Rattle.ckr_desk_refines.proofs.data_sets.set_at.Goals as goal

pub returns-in_err-name : goal.returns-in_err-name
returns-in_err-name c = λ layout image desk stands.
    ap (option_map {T = Listed} {U = Name × DataSet} (λ line. (line.name, line.set))) c.from_residual.ensures
    ∙ no-line layout c.args.jobs.now image desk stands c.library-library.result.now.sets c.library-library.ensures.sets (c.in_err-name.ensures {u = tt}).order c.args.place (c.in_err-name.ensures {u = tt}).name

pub returns-in_err-set : goal.returns-in_err-set
returns-in_err-set c = λ layout image desk stands.
    absurd (no-set layout c.args.jobs.now image desk stands c.library-library.result.now.sets c.library-library.ensures.sets c.in_ok-name.ensures.order c.args.place c.in_ok-name.name.now
    c.in_ok-name.ensures.name (c.in_err-set.ensures {u = tt}))

pub returns : goal.returns
returns c = λ layout image desk stands.
    ap Some c.line_of.ensures
    ∙ line-there layout c.args.jobs.now image desk stands c.library-library.result.now.sets c.library-library.ensures.sets c.in_ok-name.ensures.order c.args.place c.in_ok-name.name.now c.in_ok-set.set.now
    c.in_ok-name.ensures.name c.in_ok-set.ensures
