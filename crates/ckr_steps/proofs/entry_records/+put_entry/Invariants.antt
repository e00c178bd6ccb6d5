use Rattle.std.proofs.Common.{length}
use Rattle.ckr_steps.proofs.entry_records.+put_entry.Given as goal

abbrev pub decreases-put_entry : goal.decreases-put_entry
decreases-put_entry g l = length l.entry.now
