use Rattle.std.specs.Int.{w32}
use Rattle.std.proofs.Common.{ℕ, arith}
use Rattle.std.proofs.lemmas.Result.{err_from_is_err_and}
use Rattle.arrayvec.specs.ArrayVec.{ArrayVec}
use Rattle.ckr_fields.specs.Fields.{number_at, times_at}
use Rattle.ckr_fields.proofs.Loops.{goes_on, ends, is_done}
use Rattle.ckr_events.proofs.field_reader.some_lengths.Goals as goal

pub returns-in_err-length : goal.returns-in_err-length
returns-in_err-length c =
    let p = err_from_is_err_and c.from_residual.result c.from_residual.ensures.1 in
    rw (p.1, p.2) (ends (number_at w32) c.loop.list.items c.args.count c.loop.counter c.loop.fields (times_at (number_at w32) c.args.count c.args.fields.now) (λ (x : ℕ). x) (λ (v : ArrayVec ℕ). v.items) c.in_err-length.field-0.0 _ _ c.loop-test.true c.in_err-length.ensures c.loop.invariant.so_far)

pub loop-preserved : goal.loop-preserved
loop-preserved c = record {
  so_far = rw c.push.ensures.items (goes_on (number_at w32) c.loop.list.items c.args.count c.loop.counter c.loop.fields (times_at (number_at w32) c.args.count c.args.fields.now) c.in_ok-length.length c.four_bytes.new.self c.loop-test.true c.in_ok-length.ensures c.loop.invariant.so_far);
  many = omega (arith, c.push.ensures.len, c.loop.invariant.many);
}

pub returns : goal.returns
returns c = is_done (number_at w32) c.loop.list.items c.args.count c.loop.counter c.loop.fields (times_at (number_at w32) c.args.count c.args.fields.now) c.loop-test.false c.loop.invariant.so_far
