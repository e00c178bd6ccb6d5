use Rattle.std.proofs.Common.{◌≡◌, Bool, Some, sym, subst}
use Rattle.std.specs.Prelude.{IsTrue, if◌then◌else◌, nat_lt}
use Rattle.std.specs.Option.{is_some}
use Rattle.std.proofs.lemmas.Result.{IfOk-weaker}
use Rattle.ckr_base.specs.declared.programs.Output.{Output}
use Rattle.ckr_base.specs.declared.programs.Output.TheVariants.{Main, Rejects}
use Rattle.ckr_meaning.specs.Program.{room_behind}
use Rattle.ckr_meaning.specs.StepRun.{extended, changed_in}
use Rattle.ckr_steps.specs.Writes.{Shows, end_set, room_at, room_of, grown_in}
use Rattle.ckr_steps.proofs.Rooms.{if_both, there_kept, main_fits, main_left, rejects_fit, rejects_left}
use Rattle.ckr_steps.proofs.unit_writes.put_one.Goals as goal

pub returns-in-Main-clause-fits : goal.returns-in-Main-clause-fits
returns-in-Main-clause-fits g c =
    let files = c.args.files.now in
    let old = c.args.library.now in
    IfOk-weaker c.put_in.result (λ (fits : Bool). fits ≡ nat_lt 0 (room_at old files.main)) (λ (fits : Bool). fits ≡ is_some (room_behind c.args.write.now.output (room_of old files)))
    (λ fits is. main_fits files old c.put_in.new.library c.requires.there c.args.write.now.output fits c.in-Main.is is) c.put_in.ensures.fits

pub returns-in-Main-clause-left : goal.returns-in-Main-clause-left
returns-in-Main-clause-left g c =
    let files = c.args.files.now in
    let old = c.args.library.now in
    let new = c.put_in.new.library in
    if_both c.put_in.result (λ (fits : Bool). fits ≡ nat_lt 0 (room_at old files.main)) (λ (fits : Bool). new.sets ≡ (if fits then grown_in files.main old.sets else old.sets))
    (λ (fits : Bool). IsTrue fits → room_behind c.args.write.now.output (room_of old files) ≡ Some (room_of new files))
    (λ fits is sets. main_left files old new c.requires.there c.args.write.now.output fits c.in-Main.is is sets) c.put_in.ensures.fits c.put_in.ensures.sets

pub returns-in-Main-clause-shows : goal.returns-in-Main-clause-shows
returns-in-Main-clause-shows g c names model shows =
    let d = g.D.Disk in
    let files = c.args.files.now in
    let Shown = λ (output : Output) (fits : Bool). Shows d.told (d.content c.put_in.new.disk) c.args.layout.now names (if fits then changed_in (end_set files output) (extended c.args.write.now.image) model else model) c.put_in.new.library in
    IfOk-weaker c.put_in.result (Shown Main) (Shown c.args.write.now.output) (λ fits shown. subst (λ output. Shown output fits) (sym c.in-Main.is) shown) (c.put_in.ensures.shows names model shows)

pub returns-in-Main-clause-there : goal.returns-in-Main-clause-there
returns-in-Main-clause-there g c = there_kept c.args.files.now c.args.library.now c.put_in.new.library c.put_in.ensures.there c.requires.there

pub returns-in-Rejects-clause-fits : goal.returns-in-Rejects-clause-fits
returns-in-Rejects-clause-fits g c =
    let files = c.args.files.now in
    let old = c.args.library.now in
    IfOk-weaker c.put_in-in-Rejects.result (λ (fits : Bool). fits ≡ nat_lt 0 (room_at old files.rejects)) (λ (fits : Bool). fits ≡ is_some (room_behind c.args.write.now.output (room_of old files)))
    (λ fits is. rejects_fit files old c.put_in-in-Rejects.new.library c.requires.there c.args.write.now.output fits c.in-Rejects.is is) c.put_in-in-Rejects.ensures.fits

pub returns-in-Rejects-clause-left : goal.returns-in-Rejects-clause-left
returns-in-Rejects-clause-left g c =
    let files = c.args.files.now in
    let old = c.args.library.now in
    let new = c.put_in-in-Rejects.new.library in
    if_both c.put_in-in-Rejects.result (λ (fits : Bool). fits ≡ nat_lt 0 (room_at old files.rejects)) (λ (fits : Bool). new.sets ≡ (if fits then grown_in files.rejects old.sets else old.sets))
    (λ (fits : Bool). IsTrue fits → room_behind c.args.write.now.output (room_of old files) ≡ Some (room_of new files))
    (λ fits is sets. rejects_left files old new c.requires.there c.args.write.now.output fits c.in-Rejects.is is sets) c.put_in-in-Rejects.ensures.fits c.put_in-in-Rejects.ensures.sets

pub returns-in-Rejects-clause-shows : goal.returns-in-Rejects-clause-shows
returns-in-Rejects-clause-shows g c names model shows =
    let d = g.D.Disk in
    let files = c.args.files.now in
    let Shown = λ (output : Output) (fits : Bool). Shows d.told (d.content c.put_in-in-Rejects.new.disk) c.args.layout.now names (if fits then changed_in (end_set files output) (extended c.args.write.now.image) model else model) c.put_in-in-Rejects.new.library in
    IfOk-weaker c.put_in-in-Rejects.result (Shown Rejects) (Shown c.args.write.now.output) (λ fits shown. subst (λ output. Shown output fits) (sym c.in-Rejects.is) shown) (c.put_in-in-Rejects.ensures.shows names model shows)

pub returns-in-Rejects-clause-there : goal.returns-in-Rejects-clause-there
returns-in-Rejects-clause-there g c = there_kept c.args.files.now c.args.library.now c.put_in-in-Rejects.new.library c.put_in-in-Rejects.ensures.there c.requires.there
