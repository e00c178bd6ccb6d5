use Rattle.ckr_steps.proofs.EntryRecords.{entry-kept}
use Rattle.ckr_steps.proofs.laws.entries_stay.Goals as goal

pub returns : goal.returns
returns c = λ layout library name set old new place entry was within keeps has. entry-kept layout name set library old new place entry was within keeps has
