use Rattle.std.proofs.Common.{arith}
use Rattle.ckr_report.proofs.Digits.{few-padded, room-padded}
use Rattle.ckr_report.proofs.text_line.job.Goals as goal

pub padded-requires : goal.padded-requires
padded-requires c = record { room = room-padded _ 27 20 _ _ (omega arith) (omega arith) (omega arith) (omega arith) (omega arith) }

pub returns-clause-few : goal.returns-clause-few
returns-clause-few c =
    let few = few-padded _ _ 27 20 _ _ c.padded.ensures (omega arith) (omega arith) (omega arith) (omega arith) in
    omega arith
