use Rattle.std.proofs.Common.{arith}
use Rattle.ckr_entry.specs.Parts.{entry_of}
use Rattle.ckr_entry.proofs.Entries.{whole_takes, nothing_else}
use Rattle.ckr_entry.proofs.decoder.decode_entry.Goals as goal

pub returns-in-Ok-clause-found : goal.returns-in-Ok-clause-found
returns-in-Ok-clause-found c = whole_takes c.args.bytes.now (entry_of c.in-Ok.point) (λ i. omega (arith, c.type_inv.bytes i)) c.in-Ok.ensures.read

pub returns-in-Err-Wrong-clause-bad : goal.returns-in-Err-Wrong-clause-bad
returns-in-Err-Wrong-clause-bad c e fits is = nothing_else c.args.bytes.now c.in-Err-Wrong.left e (rw c.in-Err-Wrong.field-0-is at c.in-Err-Wrong.ensures.read) fits is
