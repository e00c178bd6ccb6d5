use Rattle.ckr_desk_refines.proofs.Entries.Images.{read-back}
use Rattle.ckr_desk_refines.proofs.entry_laws.kept_entries_are_read.Goals as goal

pub returns : goal.returns
returns c = read-back
