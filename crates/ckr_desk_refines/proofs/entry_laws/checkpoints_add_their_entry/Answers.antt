use Rattle.std.proofs.Common.{refl}
use Rattle.ckr_desk_refines.proofs.Entries.Checkpoint.{has-taken, plain-taken, within-taken}
use Rattle.ckr_desk_refines.proofs.Entries.NewEntry.{new-written}
use Rattle.ckr_desk_refines.proofs.entry_laws.checkpoints_add_their_entry.Goals as goal

pub returns : goal.returns
returns c = record {
  written = λ layout now image kept taken writes lengths row owned table agreed e found at its. new-written layout now agreed.events.numbered image kept taken writes lengths row owned table e found at its;
  there = λ layout now image job taken writes place bytes id lengths deck kept has new. has-taken layout now kept.events.numbered id job taken writes place bytes lengths deck image has new;
  within = λ layout now job taken writes place bytes id lengths deck kept may within. within-taken now.tables kept.events.numbered id job taken writes place bytes lengths deck layout now refl kept.events may within;
  plain = λ layout now job taken writes place bytes id lengths deck kept checks only. plain-taken now.tables kept.events.numbered id job taken writes place bytes lengths deck checks only;
}
