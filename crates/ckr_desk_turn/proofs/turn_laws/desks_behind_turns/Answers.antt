use Rattle.ckr_desk_turn.proofs.Turns.Series.{next-keeps, turns-keep, turns-kept}
use Rattle.std.proofs.Common.{[], ◌∷◌}
use Rattle.ckr_desk_turn.proofs.turn_laws.desks_behind_turns.Goals as goal

pub returns : goal.returns
returns c = record {
  behind = λ turns desk is each. turns-keep turns desk is each;
  kept = λ turns desk is each. turns-kept turns desk is each;
  next = λ turns one answer desk is each next. (next-keeps turns one answer desk is each next).comes;
  one = λ desk one answer is of. ((next-keeps [] one answer desk is tt of).comes, turns-kept (record { turn = one; answer = answer } ∷ []) desk is (of, tt));
}
