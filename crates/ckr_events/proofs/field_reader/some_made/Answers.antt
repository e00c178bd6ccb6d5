use Rattle.std.proofs.Common.{arith}
use Rattle.std.proofs.lemmas.Result.{err_from_is_err_and}
use Rattle.arrayvec.specs.ArrayVec.{ArrayVec}
use Rattle.ckr_fields.specs.Fields.{times_at}
use Rattle.ckr_fields.proofs.Loops.{goes_on, ends, is_done}
use Rattle.ckr_events.specs.Format.{made_at}
use Rattle.ckr_events.specs.declared.event.Made.{Made}
use Rattle.ckr_events.proofs.field_reader.some_made.Goals as goal

pub returns-in_err-item : goal.returns-in_err-item
returns-in_err-item c =
    let p = err_from_is_err_and c.from_residual.result c.from_residual.ensures.1 in
    rw (p.1, p.2) (ends made_at c.loop.list.items c.args.count c.loop.counter c.loop.fields (times_at made_at c.args.count c.args.fields.now) (λ (x : Made). x) (λ (v : ArrayVec Made). v.items) c.in_err-item.field-0.0 _ _ c.loop-test.true c.in_err-item.ensures c.loop.invariant.so_far)

pub loop-preserved : goal.loop-preserved
loop-preserved c = record {
  so_far = rw c.in_ok-push.ensures.ok (goes_on made_at c.loop.list.items c.args.count c.loop.counter c.loop.fields (times_at made_at c.args.count c.args.fields.now) c.in_ok-item.item c.made.new.fields c.loop-test.true c.in_ok-item.ensures c.loop.invariant.so_far);
  many = omega (arith, c.in_ok-push.ensures.len, c.loop.invariant.many);
}

pub returns : goal.returns
returns c = is_done made_at c.loop.list.items c.args.count c.loop.counter c.loop.fields (times_at made_at c.args.count c.args.fields.now) c.loop-test.false c.loop.invariant.so_far
