use Rattle.std.proofs.Common.{None}
use Rattle.std.proofs.lemmas.Result.{err_from_is_err_and}
use Rattle.ckr_base.specs.RoomyLists.{Roomy}
use Rattle.ckr_entry.specs.declared.point.Mark.{Mark}
use Rattle.ckr_entry.specs.Sets.{rising_at}
use Rattle.ckr_entry.proofs.Loops.{rises_on, breaks, rose}
use Rattle.ckr_entry.proofs.set_reader.some_marks.Goals as goal

pub returns-in_err-item : goal.returns-in_err-item
returns-in_err-item c =
    let p = err_from_is_err_and c.from_residual.result c.from_residual.ensures.1 in
    rw (p.1, p.2) (breaks c.loop.list.items c.loop.before c.args.count c.loop.counter c.loop.fields (rising_at None c.args.count c.args.fields.now) (λ (v : Roomy Mark). v.items) c.in_err-item.field-0.0 _ _ c.loop-test.true c.in_err-item.ensures c.loop.invariant)

pub loop-preserved : goal.loop-preserved
loop-preserved c =
    rw (c.in_ok-push.ensures.ok, c.copied.ensures)
    (rises_on c.loop.list.items c.loop.before c.args.count c.loop.counter c.loop.fields (rising_at None c.args.count c.args.fields.now) c.in_ok-item.item c.mark.new.fields c.loop-test.true c.in_ok-item.ensures c.loop.invariant)

pub returns : goal.returns
returns c = rose c.loop.list.items c.loop.before c.args.count c.loop.counter c.loop.fields (rising_at None c.args.count c.args.fields.now) c.loop-test.false c.loop.invariant
