use Rattle.std.proofs.Common.{◌≡◌, [], ◌∷◌, ◌++◌, ℕ, List, drop, ◌∙◌, ap, subst, arith}
use Rattle.ckr_outside.specs.Disk.{Overwrites}
use Rattle.ckr_outside.specs.RangeCalls.{within_wider, within_twice}
use Rattle.ckr_journal.proofs.FreshDisks.{fields_of, HeaderSays, header_says, opened}
use Rattle.ckr_journal.proofs.FormatStages.{not_begun, closing, filling, opening}
use Rattle.ckr_journal.proofs.fresh_disk.format.Goals as goal

pub returns-in_err-put_gate-clause-changes : goal.returns-in_err-put_gate-clause-changes
returns-in_err-put_gate-clause-changes g c =
    let d = g.D.Disk in
    within_wider d.told d.content d.may_leave d.moment d.left_since 0 1 0 513 _ _ (omega arith) (omega arith) c.put_gate.ensures.changes

pub returns-in_err-stage-clause-changes : goal.returns-in_err-stage-clause-changes
returns-in_err-stage-clause-changes g c =
    let d = g.D.Disk in
    let laws = g.met.D.Disk g.world.𝓛 g.world.𝓜 g.world.𝓡 ((λ s x. x), (λ x. x), (λ x. x), λ x. x) in
    within_twice d.told d.content d.may_leave d.moment d.left_since 0 513 _ _ _ (laws.counts_now c.put_gate.new.disk)
    (within_wider d.told d.content d.may_leave d.moment d.left_since 0 1 0 513 _ _ (omega arith) (omega arith) c.put_gate.ensures.changes)
    (within_wider d.told d.content d.may_leave d.moment d.left_since 1 512 0 513 _ _ (omega arith) (omega arith) c.stage.ensures.changes)

pub returns-in_err-put_gate-2-clause-changes : goal.returns-in_err-put_gate-2-clause-changes
returns-in_err-put_gate-2-clause-changes g c =
    let d = g.D.Disk in
    let laws = g.met.D.Disk g.world.𝓛 g.world.𝓜 g.world.𝓡 ((λ s x. x), (λ x. x), (λ x. x), λ x. x) in
    within_twice d.told d.content d.may_leave d.moment d.left_since 0 513 _ _ _ (laws.counts_now c.stage.new.disk)
    (within_twice d.told d.content d.may_leave d.moment d.left_since 0 513 _ _ _ (laws.counts_now c.put_gate.new.disk)
    (within_wider d.told d.content d.may_leave d.moment d.left_since 0 1 0 513 _ _ (omega arith) (omega arith) c.put_gate.ensures.changes)
    (within_wider d.told d.content d.may_leave d.moment d.left_since 1 512 0 513 _ _ (omega arith) (omega arith) c.stage.ensures.changes))
    (within_wider d.told d.content d.may_leave d.moment d.left_since 0 1 0 513 _ _ (omega arith) (omega arith) c.put_gate-2.ensures.changes)

pub returns-clause-changes : goal.returns-clause-changes
returns-clause-changes g c =
    let d = g.D.Disk in
    let laws = g.met.D.Disk g.world.𝓛 g.world.𝓜 g.world.𝓡 ((λ s x. x), (λ x. x), (λ x. x), λ x. x) in
    within_twice d.told d.content d.may_leave d.moment d.left_since 0 513 _ _ _ (laws.counts_now c.stage.new.disk)
    (within_twice d.told d.content d.may_leave d.moment d.left_since 0 513 _ _ _ (laws.counts_now c.put_gate.new.disk)
    (within_wider d.told d.content d.may_leave d.moment d.left_since 0 1 0 513 _ _ (omega arith) (omega arith) c.put_gate.ensures.changes)
    (within_wider d.told d.content d.may_leave d.moment d.left_since 1 512 0 513 _ _ (omega arith) (omega arith) c.stage.ensures.changes))
    (within_wider d.told d.content d.may_leave d.moment d.left_since 0 1 0 513 _ _ (omega arith) (omega arith) c.put_gate-2.ensures.changes)

pub returns-then-size-need-clause-any_moment : goal.returns-then-size-need-clause-any_moment
returns-then-size-need-clause-any_moment g c =
    let d = g.D.Disk in
    let laws = g.met.D.Disk g.world.𝓛 g.world.𝓜 g.world.𝓡 ((λ s x. x), (λ x. x), (λ x. x), λ x. x) in
    not_begun d.told d.content d.may_leave d.moment d.left_since (d.size c.args.disk.now) c.args.layout.now c.args.disk.now (laws.only_now c.args.disk.now)

pub returns-in_err-put_gate-clause-any_moment : goal.returns-in_err-put_gate-clause-any_moment
returns-in_err-put_gate-clause-any_moment g c =
    let d = g.D.Disk in
    closing d.told d.content d.may_leave d.moment d.left_since (d.size c.args.disk.now) c.args.layout.now c.args.disk.now c.put_gate.new.disk c.put_gate.ensures.changes.since

pub returns-in_err-stage-clause-any_moment : goal.returns-in_err-stage-clause-any_moment
returns-in_err-stage-clause-any_moment g c =
    let d = g.D.Disk in
    let laws = g.met.D.Disk g.world.𝓛 g.world.𝓜 g.world.𝓡 ((λ s x. x), (λ x. x), (λ x. x), λ x. x) in
    filling d.told d.content d.may_leave d.moment d.left_since (d.size c.args.disk.now) c.args.layout.now c.args.disk.now c.put_gate.new.disk c.put_gate.ensures.changes.since
    laws.tells c.in_ok-put_gate.ensures.durable c.in_ok-put_gate.ensures.written c.stage.new.disk c.stage.ensures.changes.since

pub returns-in_err-put_gate-2-clause-any_moment : goal.returns-in_err-put_gate-2-clause-any_moment
returns-in_err-put_gate-2-clause-any_moment g c =
    let d = g.D.Disk in
    let laws = g.met.D.Disk g.world.𝓛 g.world.𝓜 g.world.𝓡 ((λ s x. x), (λ x. x), (λ x. x), λ x. x) in
    let layout = c.args.layout.now in
    let size = d.size c.args.disk.now in
    let header = c.header_of-header.ensures in
    let tail : c.behind_gate.result.now ≡ fields_of layout = c.behind_gate.ensures ∙ ap (λ (l : List ℕ). drop 1 l) (c.as_slice.ensures.value ∙ header.bytes) in
    let says : HeaderSays layout size = header_says layout size _ header.bytes header.long header.reads c.requires (omega arith) in
    opening d.told d.content d.may_leave d.moment d.left_since size layout c.args.disk.now c.put_gate.new.disk c.put_gate.ensures.changes.since
    laws.tells c.in_ok-put_gate.ensures.durable c.in_ok-put_gate.ensures.written c.stage.new.disk c.stage.ensures.changes.since
    c.in_ok-stage.ensures.durable says
    (λ told. subst (λ (l : List ℕ). Overwrites 1 (l ++ 0 ∷ []) (d.content c.put_gate.new.disk) (d.content c.stage.new.disk)) tail (c.in_ok-stage.ensures.written told))
    c.put_gate-2.new.disk c.put_gate-2.ensures.changes.since

pub returns-clause-any_moment : goal.returns-clause-any_moment
returns-clause-any_moment g c =
    let d = g.D.Disk in
    let laws = g.met.D.Disk g.world.𝓛 g.world.𝓜 g.world.𝓡 ((λ s x. x), (λ x. x), (λ x. x), λ x. x) in
    let layout = c.args.layout.now in
    let size = d.size c.args.disk.now in
    let header = c.header_of-header.ensures in
    let tail : c.behind_gate.result.now ≡ fields_of layout = c.behind_gate.ensures ∙ ap (λ (l : List ℕ). drop 1 l) (c.as_slice.ensures.value ∙ header.bytes) in
    let says : HeaderSays layout size = header_says layout size _ header.bytes header.long header.reads c.requires (omega arith) in
    opening d.told d.content d.may_leave d.moment d.left_since size layout c.args.disk.now c.put_gate.new.disk c.put_gate.ensures.changes.since
    laws.tells c.in_ok-put_gate.ensures.durable c.in_ok-put_gate.ensures.written c.stage.new.disk c.stage.ensures.changes.since
    c.in_ok-stage.ensures.durable says
    (λ told. subst (λ (l : List ℕ). Overwrites 1 (l ++ 0 ∷ []) (d.content c.put_gate.new.disk) (d.content c.stage.new.disk)) tail (c.in_ok-stage.ensures.written told))
    c.put_gate-2.new.disk c.put_gate-2.ensures.changes.since

pub returns-clause-header : goal.returns-clause-header
returns-clause-header g c told =
    let d = g.D.Disk in
    let layout = c.args.layout.now in
    let size = d.size c.put_gate-2.new.disk in
    let header = c.header_of-header.ensures in
    let tail : c.behind_gate.result.now ≡ fields_of layout = c.behind_gate.ensures ∙ ap (λ (l : List ℕ). drop 1 l) (c.as_slice.ensures.value ∙ header.bytes) in
    let says : HeaderSays layout size = header_says layout size _ header.bytes header.long header.reads c.requires (omega arith) in
    (opened layout size says (d.content c.args.disk.now) (d.content c.put_gate.new.disk) (d.content c.stage.new.disk) (c.in_ok-put_gate.ensures.written told)
    (subst (λ (l : List ℕ). Overwrites 1 (l ++ 0 ∷ []) (d.content c.put_gate.new.disk) (d.content c.stage.new.disk)) tail (c.in_ok-stage.ensures.written told))
    (d.content c.put_gate-2.new.disk) (c.in_ok-put_gate-2.ensures.written told)).header

pub returns-clause-empty : goal.returns-clause-empty
returns-clause-empty g c told =
    let d = g.D.Disk in
    let layout = c.args.layout.now in
    let size = d.size c.args.disk.now in
    let header = c.header_of-header.ensures in
    let tail : c.behind_gate.result.now ≡ fields_of layout = c.behind_gate.ensures ∙ ap (λ (l : List ℕ). drop 1 l) (c.as_slice.ensures.value ∙ header.bytes) in
    let says : HeaderSays layout size = header_says layout size _ header.bytes header.long header.reads c.requires (omega arith) in
    (opened layout size says (d.content c.args.disk.now) (d.content c.put_gate.new.disk) (d.content c.stage.new.disk) (c.in_ok-put_gate.ensures.written told)
    (subst (λ (l : List ℕ). Overwrites 1 (l ++ 0 ∷ []) (d.content c.put_gate.new.disk) (d.content c.stage.new.disk)) tail (c.in_ok-stage.ensures.written told))
    (d.content c.put_gate-2.new.disk) (c.in_ok-put_gate-2.ensures.written told)).empty
