use Rattle.ckr_desk_refines.proofs.Entries.Events.{has-next, plain-next, within-next}
use Rattle.ckr_desk_refines.proofs.Entries.Owners.{owned-next}
use Rattle.ckr_desk_refines.proofs.entry_laws.events_leave_entries.Goals as goal

pub returns : goal.returns
returns c = record {
  there = λ layout now image event deck plain kept may has. has-next layout now kept.events image has event deck plain may;
  within = λ layout now event deck plain kept within. within-next now.tables kept.events.numbered within event deck plain;
  plain = λ layout now event deck plain kept only. plain-next now.tables kept.events.numbered only event deck plain;
  owners = λ layout now event deck kept may owned. owned-next layout now kept.events owned event deck may;
}
