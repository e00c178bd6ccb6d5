use Rattle.std.proofs.Common.{sym}
use Rattle.ckr_base.proofs.Options.{some-not-none}
use Rattle.ckr_desk_refines.proofs.Entries.Effects.{no-effects}
use Rattle.ckr_desk_refines.proofs.entry_laws.no_events_keep_no_entry.Goals as goal

pub returns : goal.returns
returns c = record {
  there = λ layout image name table e. absurd (some-not-none table (sym e));
  within = λ name table e. absurd (some-not-none table (sym e));
  plain = λ name table e. absurd (some-not-none table (sym e));
  owners = λ name table e. absurd (some-not-none table (sym e));
  effect = no-effects;
}
