use Rattle.std.proofs.Common.{arith}
use Rattle.ckr_events.proofs.Events.{whole_takes, nothing_else}
use Rattle.ckr_events.proofs.decoder.decode.Goals as goal

pub returns-in-Ok-clause-found : goal.returns-in-Ok-clause-found
returns-in-Ok-clause-found c = whole_takes c.args.bytes.now c.in-Ok.event (λ i. omega (arith, c.type_inv.bytes i)) c.in-Ok.ensures

pub returns-in-Err-Wrong-clause-bad : goal.returns-in-Err-Wrong-clause-bad
returns-in-Err-Wrong-clause-bad c event fits is = nothing_else c.args.bytes.now c.in-Err-Wrong.left event (rw c.in-Err-Wrong.field-0-is at c.in-Err-Wrong.ensures) fits is
