-- What a computation of turns opens beside jobs and decks.
use Rattle.ckr_uses.specs.Uses.{uses_of}
use Rattle.ckr_programs.specs.Units as plain_units
use Rattle.ckr_match.specs.Units as matched_units
use Rattle.ckr_desk_turn.specs.Mounts.{plan_by}
use Rattle.ckr_desk_turn.specs.Plans.{plan_of}
use Rattle.ckr_desk_turn.specs.Turns.{turn_of}

-- a proof that computes names this one
unfoldable pub turns_open : Unit {0}
unfolding uses_of plain_units.unit_done matched_units.unit_done plan_by plan_of turn_of
turns_open = tt
