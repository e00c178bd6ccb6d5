use Rattle.std.proofs.Common.{◌≡◌, ◌+◌, ◌-◌, ◌++◌, List, ℕ, ap, sym, ◌∙◌, subst, arith}
use Rattle.ckr_outside.specs.RangeCalls.{within_wider, within_twice}
use Rattle.ckr_book.specs.Book.{OpenBook, IsOpenOn, records_of}
use Rattle.ckr_book.proofs.Steps.{staged_since, either_since, the_list, the_gate, now_listed, now_open}
use Rattle.ckr_book.proofs.book.Book.append_parts.Goals as goal

pub returns-in_err-stage-clause-any_moment : goal.returns-in_err-stage-clause-any_moment
returns-in_err-stage-clause-any_moment g c =
    let d = g.D.Disk in
    let laws = g.met.D.Disk g.world.𝓛 g.world.𝓜 g.world.𝓡 ((λ s x. x), (λ x. x), (λ x. x), λ x. x) in
    let disk = c.args.disk.now in
    let book = c.args.self.now in
    let sized = λ (image : List ℕ) (is : d.may_leave disk image). laws.sized disk (d.moment disk) image (laws.counts_now disk (d.moment disk) image (omega arith) is) in
    the_list d.told d.content d.may_leave d.size book disk (c.args.front.now ++ c.args.rest.now) c.requires.inside (omega arith) (omega arith) c.requires.stands sized
    d.moment d.left_since c.gate-gate.result c.gate-gate.ensures.place c.stage.new.disk
    (staged_since d.told d.content d.may_leave d.size book disk (c.args.front.now ++ c.args.rest.now) c.requires.inside (omega arith) (omega arith) c.requires.stands sized
    d.moment d.left_since c.gate-gate.result c.gate-gate.ensures.place c.stage.new.disk c.stage.ensures.changes.since)

pub returns-in_err-stage-clause-opens_again : goal.returns-in_err-stage-clause-opens_again
returns-in_err-stage-clause-opens_again g c =
    let d = g.D.Disk in
    let laws = g.met.D.Disk g.world.𝓛 g.world.𝓜 g.world.𝓡 ((λ s x. x), (λ x. x), (λ x. x), λ x. x) in
    let disk = c.args.disk.now in
    let book = c.args.self.now in
    let sized = λ (image : List ℕ) (is : d.may_leave disk image). laws.sized disk (d.moment disk) image (laws.counts_now disk (d.moment disk) image (omega arith) is) in
    the_gate d.told d.content d.may_leave d.size book disk (c.args.front.now ++ c.args.rest.now) c.requires.inside (omega arith) (omega arith) c.requires.stands sized
    d.moment d.left_since c.gate-gate.result c.gate-gate.ensures.place c.stage.new.disk
    (staged_since d.told d.content d.may_leave d.size book disk (c.args.front.now ++ c.args.rest.now) c.requires.inside (omega arith) (omega arith) c.requires.stands sized
    d.moment d.left_since c.gate-gate.result c.gate-gate.ensures.place c.stage.new.disk c.stage.ensures.changes.since)

pub returns-in_err-stage-clause-changes : goal.returns-in_err-stage-clause-changes
returns-in_err-stage-clause-changes g c =
    let d = g.D.Disk in
    let book = c.args.self.now in
    within_wider d.told d.content d.may_leave d.moment d.left_since _ _ book.start book.size _ _ (omega arith) (omega arith) c.stage.ensures.changes

pub returns-in_err-open_gate-clause-any_moment : goal.returns-in_err-open_gate-clause-any_moment
returns-in_err-open_gate-clause-any_moment g c =
    let d = g.D.Disk in
    let laws = g.met.D.Disk g.world.𝓛 g.world.𝓜 g.world.𝓡 ((λ s x. x), (λ x. x), (λ x. x), λ x. x) in
    let disk = c.args.disk.now in
    let book = c.args.self.now in
    let sized = λ (image : List ℕ) (is : d.may_leave disk image). laws.sized disk (d.moment disk) image (laws.counts_now disk (d.moment disk) image (omega arith) is) in
    the_list d.told d.content d.may_leave d.size book disk (c.args.front.now ++ c.args.rest.now) c.requires.inside (omega arith) (omega arith) c.requires.stands sized
    d.moment d.left_since c.gate-gate.result c.gate-gate.ensures.place c.open_gate.new.disk
    (either_since d.told d.content d.may_leave d.size book disk (c.args.front.now ++ c.args.rest.now) c.requires.inside (omega arith) (omega arith) c.requires.stands sized
    d.moment d.left_since c.gate-gate.result c.gate-gate.ensures.place c.stage.new.disk c.stage.ensures.changes.since c.in_ok-stage.ensures.written c.in_ok-stage.ensures.durable
    (laws.reads_an_image disk) (laws.tells c.stage.new.disk) c.open_gate.new.disk c.open_gate.ensures.changes.since)

pub returns-in_err-open_gate-clause-opens_again : goal.returns-in_err-open_gate-clause-opens_again
returns-in_err-open_gate-clause-opens_again g c =
    let d = g.D.Disk in
    let laws = g.met.D.Disk g.world.𝓛 g.world.𝓜 g.world.𝓡 ((λ s x. x), (λ x. x), (λ x. x), λ x. x) in
    let disk = c.args.disk.now in
    let book = c.args.self.now in
    let sized = λ (image : List ℕ) (is : d.may_leave disk image). laws.sized disk (d.moment disk) image (laws.counts_now disk (d.moment disk) image (omega arith) is) in
    the_gate d.told d.content d.may_leave d.size book disk (c.args.front.now ++ c.args.rest.now) c.requires.inside (omega arith) (omega arith) c.requires.stands sized
    d.moment d.left_since c.gate-gate.result c.gate-gate.ensures.place c.open_gate.new.disk
    (either_since d.told d.content d.may_leave d.size book disk (c.args.front.now ++ c.args.rest.now) c.requires.inside (omega arith) (omega arith) c.requires.stands sized
    d.moment d.left_since c.gate-gate.result c.gate-gate.ensures.place c.stage.new.disk c.stage.ensures.changes.since c.in_ok-stage.ensures.written c.in_ok-stage.ensures.durable
    (laws.reads_an_image disk) (laws.tells c.stage.new.disk) c.open_gate.new.disk c.open_gate.ensures.changes.since)

pub returns-in_err-open_gate-clause-changes : goal.returns-in_err-open_gate-clause-changes
returns-in_err-open_gate-clause-changes g c =
    let d = g.D.Disk in
    let laws = g.met.D.Disk g.world.𝓛 g.world.𝓜 g.world.𝓡 ((λ s x. x), (λ x. x), (λ x. x), λ x. x) in
    let book = c.args.self.now in
    within_twice d.told d.content d.may_leave d.moment d.left_since book.start book.size _ _ _ (laws.counts_now c.stage.new.disk)
    (within_wider d.told d.content d.may_leave d.moment d.left_since _ _ book.start book.size _ _ (omega arith) (omega arith) c.stage.ensures.changes)
    (within_wider d.told d.content d.may_leave d.moment d.left_since _ _ book.start book.size _ _ (omega arith) (omega arith) c.open_gate.ensures.changes)

pub returns-clause-any_moment : goal.returns-clause-any_moment
returns-clause-any_moment g c =
    let d = g.D.Disk in
    let laws = g.met.D.Disk g.world.𝓛 g.world.𝓜 g.world.𝓡 ((λ s x. x), (λ x. x), (λ x. x), λ x. x) in
    let disk = c.args.disk.now in
    let book = c.args.self.now in
    let sized = λ (image : List ℕ) (is : d.may_leave disk image). laws.sized disk (d.moment disk) image (laws.counts_now disk (d.moment disk) image (omega arith) is) in
    the_list d.told d.content d.may_leave d.size book disk (c.args.front.now ++ c.args.rest.now) c.requires.inside (omega arith) (omega arith) c.requires.stands sized
    d.moment d.left_since c.gate-gate.result c.gate-gate.ensures.place c.open_gate.new.disk
    (either_since d.told d.content d.may_leave d.size book disk (c.args.front.now ++ c.args.rest.now) c.requires.inside (omega arith) (omega arith) c.requires.stands sized
    d.moment d.left_since c.gate-gate.result c.gate-gate.ensures.place c.stage.new.disk c.stage.ensures.changes.since c.in_ok-stage.ensures.written c.in_ok-stage.ensures.durable
    (laws.reads_an_image disk) (laws.tells c.stage.new.disk) c.open_gate.new.disk c.open_gate.ensures.changes.since)

pub returns-clause-opens_again : goal.returns-clause-opens_again
returns-clause-opens_again g c =
    let d = g.D.Disk in
    let laws = g.met.D.Disk g.world.𝓛 g.world.𝓜 g.world.𝓡 ((λ s x. x), (λ x. x), (λ x. x), λ x. x) in
    let disk = c.args.disk.now in
    let book = c.args.self.now in
    let sized = λ (image : List ℕ) (is : d.may_leave disk image). laws.sized disk (d.moment disk) image (laws.counts_now disk (d.moment disk) image (omega arith) is) in
    the_gate d.told d.content d.may_leave d.size book disk (c.args.front.now ++ c.args.rest.now) c.requires.inside (omega arith) (omega arith) c.requires.stands sized
    d.moment d.left_since c.gate-gate.result c.gate-gate.ensures.place c.open_gate.new.disk
    (either_since d.told d.content d.may_leave d.size book disk (c.args.front.now ++ c.args.rest.now) c.requires.inside (omega arith) (omega arith) c.requires.stands sized
    d.moment d.left_since c.gate-gate.result c.gate-gate.ensures.place c.stage.new.disk c.stage.ensures.changes.since c.in_ok-stage.ensures.written c.in_ok-stage.ensures.durable
    (laws.reads_an_image disk) (laws.tells c.stage.new.disk) c.open_gate.new.disk c.open_gate.ensures.changes.since)

pub returns-clause-changes : goal.returns-clause-changes
returns-clause-changes g c =
    let d = g.D.Disk in
    let laws = g.met.D.Disk g.world.𝓛 g.world.𝓜 g.world.𝓡 ((λ s x. x), (λ x. x), (λ x. x), λ x. x) in
    let book = c.args.self.now in
    within_twice d.told d.content d.may_leave d.moment d.left_since book.start book.size _ _ _ (laws.counts_now c.stage.new.disk)
    (within_wider d.told d.content d.may_leave d.moment d.left_since _ _ book.start book.size _ _ (omega arith) (omega arith) c.stage.ensures.changes)
    (within_wider d.told d.content d.may_leave d.moment d.left_since _ _ book.start book.size _ _ (omega arith) (omega arith) c.open_gate.ensures.changes)

pub returns-clause-appended : goal.returns-clause-appended
returns-clause-appended g c told =
    let d = g.D.Disk in
    let laws = g.met.D.Disk g.world.𝓛 g.world.𝓜 g.world.𝓡 ((λ s x. x), (λ x. x), (λ x. x), λ x. x) in
    let disk = c.args.disk.now in
    let book = c.args.self.now in
    let sized = λ (image : List ℕ) (is : d.may_leave disk image). laws.sized disk (d.moment disk) image (laws.counts_now disk (d.moment disk) image (omega arith) is) in
    ap (λ (b : OpenBook). records_of b (d.content c.open_gate.new.disk)) c.go_on.ensures
    ∙ now_listed d.told d.content d.may_leave d.size book disk (c.args.front.now ++ c.args.rest.now) c.requires.inside (omega arith) (omega arith) c.requires.stands sized
    d.moment d.left_since c.gate-gate.result c.gate-gate.ensures.place c.stage.new.disk c.stage.ensures.changes.since c.in_ok-stage.ensures.written c.in_ok-stage.ensures.durable (laws.reads_an_image disk)
    c.open_gate.new.disk told (c.open_gate.ensures.changes.reads told) (c.in_ok-open_gate.ensures.written told)

pub returns-clause-stands : goal.returns-clause-stands
returns-clause-stands g c =
    let d = g.D.Disk in
    let laws = g.met.D.Disk g.world.𝓛 g.world.𝓜 g.world.𝓡 ((λ s x. x), (λ x. x), (λ x. x), λ x. x) in
    let disk = c.args.disk.now in
    let book = c.args.self.now in
    let sized = λ (image : List ℕ) (is : d.may_leave disk image). laws.sized disk (d.moment disk) image (laws.counts_now disk (d.moment disk) image (omega arith) is) in
    let new = c.open_gate.new.disk in
    let later = c.go_on.new.self in
    let size : later.size ≡ book.size = ap (λ (b : OpenBook). b.size) c.go_on.ensures in
    let start : later.start ≡ book.start = ap (λ (b : OpenBook). b.start) c.go_on.ensures in
    let end : later.end ≡ book.end + (c.length_of-need.result + 6 - 1) = ap (λ (b : OpenBook). b.end) c.go_on.ensures in
    record {
      open_on = λ image now.
          let told = laws.tells new image now in
          subst (λ (l : List ℕ). IsOpenOn later l) (sym (c.in_ok-open_gate.ensures.durable image now))
          (now_open d.told d.content d.may_leave d.size book disk (c.args.front.now ++ c.args.rest.now) c.requires.inside (omega arith) (omega arith) c.requires.stands sized
          d.moment d.left_since c.gate-gate.result c.gate-gate.ensures.place c.stage.new.disk c.stage.ensures.changes.since c.in_ok-stage.ensures.written c.in_ok-stage.ensures.durable (laws.reads_an_image disk)
          new told (c.open_gate.ensures.changes.reads told) (c.in_ok-open_gate.ensures.written told) later start size (omega arith));
      list = λ image now. ap (λ (l : List ℕ). records_of later l) (c.in_ok-open_gate.ensures.durable image now);
    }
