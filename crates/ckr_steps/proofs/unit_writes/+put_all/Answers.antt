use Rattle.std.proofs.Common.{Bool, List, OnOk, sym, subst}
use Rattle.ckr_base.specs.declared.programs.Write.{Write}
use Rattle.ckr_meaning.specs.Program.{room_behind, fitting}
use Rattle.ckr_steps.specs.Writes.{Shows, room_of, put_one, put_all}
use Rattle.ckr_steps.proofs.Growth.{keeping_twice}
use Rattle.ckr_steps.proofs.UnitWrites.{nothing_fits, first_fits, shows_nothing, shows_first, grown_first, left_first}
use Rattle.ckr_steps.proofs.unit_writes.+put_all.Goals as goal

pub returns-then-not-branch-clause-shows : goal.returns-then-not-branch-clause-shows
returns-then-not-branch-clause-shows g t c names model shows =
    let d = g.D.Disk in
    let fits : Bool = c.in_ok-put_one.field-0 in
    shows_nothing d.told (d.content c.put_one.new.disk) c.args.layout.now names c.args.files.now c.put_one.new.library model c.in-Some.first.now fits (c.in_ok-put_one.ensures.shows names model shows)
    (fitting c.args.writes.now (room_of c.args.library.now c.args.files.now)) c.if-not-branch.true (nothing_fits c.args.writes.now c.in-Some.first.now c.in-Some.rest.now (room_of c.args.library.now c.args.files.now) fits c.in-Some.ensures.cases.0 c.in_ok-put_one.ensures.fits c.if-not-branch.true)

pub returns-clause-keeps : goal.returns-clause-keeps
returns-clause-keeps g t c =
    let d = g.D.Disk in
    let laws = g.met.D.Disk g.world.𝓛 g.world.𝓜 g.world.𝓡 ((λ s x. x), (λ x. x), (λ x. x), λ x. x) in
    keeping_twice d.told d.content d.may_leave d.moment d.left_since c.args.layout.now c.args.library.now c.put_one.new.library c.args.disk.now c.put_one.new.disk c.put_all.new.disk
    (grown_first c.args.files.now c.args.library.now c.put_one.new.library c.in-Some.first.now c.in_ok-put_one.field-0 c.requires.there c.if-not-branch.false c.in_ok-put_one.ensures.sets)
    (laws.counts_now c.put_one.new.disk) c.put_one.ensures.keeps c.put_all.ensures.keeps

pub returns-clause-shows : goal.returns-clause-shows
returns-clause-shows g t c names model shows =
    let d = g.D.Disk in
    let files = c.args.files.now in
    let first : Write = c.in-Some.first.now in
    let rest : List Write = c.in-Some.rest.now in
    let room = room_of c.args.library.now files in
    let left = room_of c.put_one.new.library files in
    let fits : Bool = c.in_ok-put_one.field-0 in
    let front = shows_first d.told (d.content c.put_one.new.disk) c.args.layout.now names files c.put_one.new.library model first fits (c.in_ok-put_one.ensures.shows names model shows) c.if-not-branch.false in
    subst (λ (w : List Write). OnOk c.put_all.result (Shows d.told (d.content c.put_all.new.disk) c.args.layout.now names (put_all files w model) c.put_all.new.library))
    (sym (first_fits c.args.writes.now first rest room left c.in-Some.ensures.cases.0 (left_first fits (room_behind first.output room) left c.if-not-branch.false c.in_ok-put_one.ensures.left)))
    (c.put_all.ensures.shows names (put_one files first model) front)
