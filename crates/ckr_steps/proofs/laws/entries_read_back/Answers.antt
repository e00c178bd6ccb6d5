use Rattle.std.proofs.Common.{ap, ◌∙◌}
use Rattle.ckr_entry.specs.Entry.{entry_in, spelling}
use Rattle.ckr_entry.proofs.Entries.{entry_again}
use Rattle.ckr_steps.proofs.EntryRecords.{bytes-back}
use Rattle.ckr_steps.proofs.laws.entries_read_back.Goals as goal

pub returns : goal.returns
returns c = record {
  bytes = bytes-back;
  entry = λ image layout set place e is has. ap entry_in (bytes-back image layout set place (spelling e) has) ∙ entry_again e is;
}
