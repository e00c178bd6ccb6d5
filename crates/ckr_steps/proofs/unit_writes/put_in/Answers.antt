use Rattle.std.proofs.Common.{Bool, Option, Some, sym, subst}
use Rattle.std.specs.Prelude.{if◌then◌else◌}
use Rattle.std.proofs.lemmas.Result.{IfOk-weaker}
use Rattle.ckr_library.specs.NameMaps.{Name}
use Rattle.ckr_meaning.specs.StepRun.{extended, changed_in}
use Rattle.ckr_steps.specs.Writes.{Shows}
use Rattle.ckr_steps.proofs.unit_writes.put_in.Goals as goal

pub returns-in-Some-clause-shows : goal.returns-in-Some-clause-shows
returns-in-Some-clause-shows g c names model shows =
    let d = g.D.Disk in
    let Shown = λ (name : Option Name) (fits : Bool). Shows d.told (d.content c.append.new.disk) c.args.layout.now names (if fits then changed_in name (extended c.args.image.now) model else model) c.append.new.library in
    IfOk-weaker c.append.result (Shown (Some c.in-Some.name)) (Shown c.args.name.now)
    (λ fits shown. subst (λ name. Shown name fits) (sym c.in-Some.is) shown)
    (c.append.ensures.shows names model shows)
