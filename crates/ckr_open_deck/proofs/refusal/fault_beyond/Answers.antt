use Rattle.std.proofs.Common.{sym, ◌∙◌}
use Rattle.ckr_open_deck.proofs.TooManyCards.{some-fault}
use Rattle.ckr_open_deck.proofs.refusal.fault_beyond.Goals as goal

pub unreachable-requires : goal.unreachable-requires
unreachable-requires c = some-fault c.args.cards c.args.job.now c.requires (sym c.in_ok-fault.ensures ∙ c.in-None.is)
