use Rattle.std.proofs.Common.{◌+◌, arith}
use Rattle.ckr_service.proofs.MadeStreams.{stream_more}
use Rattle.ckr_service.proofs.made_stream.stream_of.Goals as goal

pub loop-made-preserved : goal.loop-made-preserved
loop-made-preserved c =
    stream_more c.loop-made.made (c.loop-made.made + 1) c.loop-made.text c.push_deck.new.out c.push_commands.new.out (omega arith) c.loop-made.invariant c.in_ok-push_deck.ensures c.in_ok-push_commands.ensures
