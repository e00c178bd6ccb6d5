use Rattle.std.proofs.Common.{◌+◌, sym, append-nil, arith}
use Rattle.ckr_service.proofs.MadeStreams.{records_more}
use Rattle.ckr_service.proofs.made_stream.push_records.Goals as goal

pub loop-number-init : goal.loop-number-init
loop-number-init c = sym (append-nil c.args.out.now)

pub loop-number-preserved : goal.loop-number-preserved
loop-number-preserved c =
    records_more c.args.job c.loop-number.number (c.loop-number.number + 1) c.args.out.now c.loop-number.out c.push_numbered.new.out (omega arith) c.loop-number.invariant c.in_ok-push_numbered.ensures
