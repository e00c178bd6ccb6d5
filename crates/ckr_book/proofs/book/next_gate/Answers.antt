use Rattle.std.proofs.Common.{◌≡◌, ◌+◌, ℕ, List, drop, refl, ◌∙◌, ap, arith}
use Rattle.ckr_book.specs.Records.{body_length}
use Rattle.ckr_book.proofs.Gates.{closed_gate, no_room, too_long, next_gate, leads}
use Rattle.ckr_book.proofs.book.next_gate.Goals as goal

pub returns-then-gate-ne-OPEN-clause-next : goal.returns-then-gate-ne-OPEN-clause-next
returns-then-gate-ne-OPEN-clause-next g c told =
    let laws = g.met.D.Disk g.world.𝓛 g.world.𝓜 g.world.𝓡 ((λ s x. x), (λ x. x), (λ x. x), λ x. x) in
    let content = g.D.Disk.content c.args.disk.now in
    closed_gate c.args.at c.args.length c.args.place content c.in_ok-gate.gate (omega (arith, laws.as_long c.args.disk.now told)) (omega arith) (c.in_ok-gate.ensures.read told) (omega arith)

pub returns-then-left-lt6-clause-cause : goal.returns-then-left-lt6-clause-cause
returns-then-left-lt6-clause-cause g c = (
  refl,
  λ told.
      let laws = g.met.D.Disk g.world.𝓛 g.world.𝓜 g.world.𝓡 ((λ s x. x), (λ x. x), (λ x. x), λ x. x) in
      let content = g.D.Disk.content c.args.disk.now in
      no_room c.args.at c.args.length c.args.place content c.in_ok-gate.gate (omega (arith, laws.as_long c.args.disk.now told)) (omega arith) (c.in_ok-gate.ensures.read told) (omega arith) (omega arith),
)

pub returns-then-size-left-clause-cause : goal.returns-then-size-left-clause-cause
returns-then-size-left-clause-cause g c = (
  refl,
  λ told.
      let laws = g.met.D.Disk g.world.𝓛 g.world.𝓜 g.world.𝓡 ((λ s x. x), (λ x. x), (λ x. x), λ x. x) in
      let content = g.D.Disk.content c.args.disk.now in
      let sized : c.in_ok-size.size ≡ body_length (drop (c.args.at + c.args.place + 1) content) =
      c.in_ok-size.ensures.read told ∙ ap (λ (l : List ℕ). body_length (drop (c.args.at + c.args.place + 1) l)) c.read_byte.ensures.only_reads.same in
      too_long c.args.at c.args.length c.args.place content c.in_ok-gate.gate (omega (arith, laws.as_long c.args.disk.now told)) (omega arith) (c.in_ok-gate.ensures.read told)
      c.in_ok-size.size sized (omega arith) (omega arith) (omega arith),
)

pub returns-clause-next : goal.returns-clause-next
returns-clause-next g c told =
    let laws = g.met.D.Disk g.world.𝓛 g.world.𝓜 g.world.𝓡 ((λ s x. x), (λ x. x), (λ x. x), λ x. x) in
    let content = g.D.Disk.content c.args.disk.now in
    let sized : c.in_ok-size.size ≡ body_length (drop (c.args.at + c.args.place + 1) content) =
    c.in_ok-size.ensures.read told ∙ ap (λ (l : List ℕ). body_length (drop (c.args.at + c.args.place + 1) l)) c.read_byte.ensures.only_reads.same in
    next_gate c.args.at c.args.length c.args.place content c.in_ok-gate.gate (omega (arith, laws.as_long c.args.disk.now told)) (omega arith) (c.in_ok-gate.ensures.read told)
    c.in_ok-size.size sized (omega arith) (omega arith) (omega arith)

pub returns-clause-stands : goal.returns-clause-stands
returns-clause-stands g c told =
    let laws = g.met.D.Disk g.world.𝓛 g.world.𝓜 g.world.𝓡 ((λ s x. x), (λ x. x), (λ x. x), λ x. x) in
    let content = g.D.Disk.content c.args.disk.now in
    let sized : c.in_ok-size.size ≡ body_length (drop (c.args.at + c.args.place + 1) content) =
    c.in_ok-size.ensures.read told ∙ ap (λ (l : List ℕ). body_length (drop (c.args.at + c.args.place + 1) l)) c.read_byte.ensures.only_reads.same in
    leads c.args.at c.args.length c.args.place content c.in_ok-gate.gate (omega (arith, laws.as_long c.args.disk.now told)) (omega arith) (c.in_ok-gate.ensures.read told)
    c.in_ok-size.size sized (omega arith) (omega arith) (omega arith) _ (omega arith)
