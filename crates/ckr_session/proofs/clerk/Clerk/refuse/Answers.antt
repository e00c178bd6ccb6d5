use Rattle.std.proofs.Common.{◌∷◌, [], sym, append-nil}
use Rattle.ckr_cards.specs.Session.Handed.{Refusal}
use Rattle.ckr_desk.specs.State.{disk_of}
use Rattle.ckr_session.specs.Service.{HaltsSo, staffed_of}
use Rattle.ckr_session.proofs.Calls.Halts.{memory_here}
use Rattle.ckr_session.proofs.Calls.Stops.{goes_on_to, goes_still}
use Rattle.ckr_session.proofs.Service.Answers.{comes_none}
use Rattle.ckr_session.proofs.clerk.Clerk.refuse.Goals as goal

pub returns-clause-goes : goal.returns-clause-goes
returns-clause-goes g c holds =
    let d = g.D.Disk in
    let laws = g.met.D.Disk g.world.𝓛 g.world.𝓜 g.world.𝓡 ((λ s x. x), (λ x. x), (λ x. x), λ x. x) in
    let old = c.args.self.now.desk in
    goes_on_to d.content d.moment d.left_since d.size c.refuse_line.result old old _ c.refuse_line.ensures.desk (goes_still d.content d.moment d.left_since d.size d.told d.may_leave old holds (laws.only_now (disk_of old)) (laws.sized (disk_of old) (d.moment (disk_of old))))

pub returns-clause-halt : goal.returns-clause-halt
returns-clause-halt g c holds =
    let d = g.D.Disk in
    let laws = g.met.D.Disk g.world.𝓛 g.world.𝓜 g.world.𝓡 ((λ s x. x), (λ x. x), (λ x. x), λ x. x) in
    let old = c.args.self.now.desk in
    let request = Refusal c.args.number in
    memory_here d.content d.moment d.left_since d.size c.refuse_line.result old old _ [] (λ halt. HaltsSo halt (staffed_of d.content c.args.self.now) (request ∷ []) c.args.out.now c.refuse_line.new.out) c.refuse_line.ensures.desk
    (goes_still d.content d.moment d.left_since d.size d.told d.may_leave old holds (laws.only_now (disk_of old)) (laws.sized (disk_of old) (d.moment (disk_of old)))) (sym (append-nil _)) (comes_none _) c.refuse_line.ensures.halt
