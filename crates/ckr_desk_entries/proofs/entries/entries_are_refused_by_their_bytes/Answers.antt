use Rattle.ckr_desk_entries.proofs.PlacedEntries.{placed-same}
use Rattle.ckr_desk_entries.proofs.entries.entries_are_refused_by_their_bytes.Goals as goal

pub returns : goal.returns
returns c = placed-same
