use Rattle.std.proofs.lemmas.Result.{err_from_is_err_and}
use Rattle.ckr_base.specs.RoomyLists.{Roomy}
use Rattle.ckr_fields.specs.Fields.{times_at}
use Rattle.ckr_fields.proofs.Loops.{goes_on, ends, is_done}
use Rattle.ckr_entry.specs.declared.point.Passed.{Passed}
use Rattle.ckr_entry.specs.Sets.{passed_one_at}
use Rattle.ckr_entry.proofs.set_reader.some_passed.Goals as goal

pub returns-in_err-item : goal.returns-in_err-item
returns-in_err-item c =
    let p = err_from_is_err_and c.from_residual.result c.from_residual.ensures.1 in
    rw (p.1, p.2) (ends passed_one_at c.loop.list.items c.args.count c.loop.counter c.loop.fields (times_at passed_one_at c.args.count c.args.fields.now) (λ (x : Passed). x) (λ (v : Roomy Passed). v.items) c.in_err-item.field-0.0 _ _ c.loop-test.true c.in_err-item.ensures c.loop.invariant)

pub loop-preserved : goal.loop-preserved
loop-preserved c =
    rw c.in_ok-push.ensures.ok (goes_on passed_one_at c.loop.list.items c.args.count c.loop.counter c.loop.fields (times_at passed_one_at c.args.count c.args.fields.now) c.in_ok-item.item c.passed_one.new.fields c.loop-test.true c.in_ok-item.ensures c.loop.invariant)

pub returns : goal.returns
returns c = is_done passed_one_at c.loop.list.items c.args.count c.loop.counter c.loop.fields (times_at passed_one_at c.args.count c.args.fields.now) c.loop-test.false c.loop.invariant
