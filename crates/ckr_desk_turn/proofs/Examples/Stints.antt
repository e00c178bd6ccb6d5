-- Worked stints of runs: the turns that they take, and what lies ahead where they begin, and later on.
use Rattle.std.specs.Prelude.{◌≡◌, ◌+◌, ◌*◌, ℕ, [], ◌∷◌, codes, Option, None, Some, refl}
use Rattle.std.specs.Option.{option_map_or}
use Rattle.ckr_jcl_decks.proofs.Definitions.{decks_open}
use Rattle.ckr_jcl_decks.proofs.Examples.Rows.{payroll}
use Rattle.ckr_meaning.proofs.Definitions.{jobs_open}
use Rattle.ckr_points.specs.Office.{leg_of}
use Rattle.ckr_points.specs.Rows.{run_of}
use Rattle.ckr_desk_turn.specs.Desk.{DeskModel}
use Rattle.ckr_desk_turn.specs.Stints.{checkpoints_ahead, inputs_ahead, stint_turns, records_ahead, steps_ahead}
use Rattle.ckr_desk_turn.proofs.Definitions.{turns_open}
use Rattle.ckr_desk_turn.proofs.Examples.Decks.{copy, counting, deck, old_masters, spilling}
use Rattle.ckr_desk_turn.proofs.Examples.Desks.{behind, fresh, turns_by, with_deck}

-- what lies ahead of a run: records of the inputs, records that are taken, checkpoints and steps
record Ahead : Type 0 where
  inputs : ℕ
  records : ℕ
  checkpoints : ℕ
  steps : ℕ

abbrev ahead_of : ℕ → DeskModel → Option Ahead
ahead_of run desk =
    option_map_or
    (λ row.
    option_map_or (λ leg. Some (record { inputs = inputs_ahead desk leg row; records = records_ahead desk leg row; checkpoints = checkpoints_ahead desk leg row; steps = steps_ahead desk leg row }))
    (leg_of desk.office run) None)
    (run_of desk.office.tables run) None

-- the turns of a stint, where its initiator has more of them
abbrev leg_of_first : DeskModel → ℕ
leg_of_first desk = stint_turns 1 (turns_by 1 22) desk

-- two cards are copied: a start, a unit for each, the closing one, the end of the step and that of the job
abbrev copying : DeskModel
copying = with_deck (deck (copy (codes "ALPHA" ∷ codes "BETA" ∷ []) (codes "(80,10)"))) fresh

copied_ahead : ahead_of 1 (behind 1 copying) ≡ Some (record { inputs = 2; records = 2; checkpoints = 0; steps = 1 })
unfolding decks_open jobs_open turns_open
copied_ahead = refl

copied_turns : leg_of_first (behind 1 copying) ≡ 6
unfolding decks_open jobs_open turns_open
copied_turns = refl

-- the payroll job, of two steps, behind the old masters
abbrev paying : DeskModel
paying = with_deck (deck payroll) (behind 9 (with_deck (deck old_masters) fresh))

paid_ahead : ahead_of 2 (behind 1 paying) ≡ Some (record { inputs = 10; records = 10; checkpoints = 0; steps = 2 })
unfolding decks_open jobs_open turns_open
paid_ahead = refl

paid_turns : leg_of_first (behind 1 paying) ≡ 17
unfolding decks_open jobs_open turns_open
paid_turns = refl

-- four records with a checkpoint at each second one
abbrev checking : DeskModel
checking = with_deck (deck (counting (codes "RNC") (codes "CHK=2"))) fresh

checked_ahead : ahead_of 1 (behind 1 checking) ≡ Some (record { inputs = 4; records = 4; checkpoints = 2; steps = 1 })
unfolding decks_open jobs_open turns_open
checked_ahead = refl

checked_turns : leg_of_first (behind 1 checking) ≡ 10
unfolding decks_open jobs_open turns_open
checked_turns = refl

-- behind three of them and the first checkpoint
within_ahead : ahead_of 1 (behind 6 checking) ≡ Some (record { inputs = 1; records = 1; checkpoints = 1; steps = 1 })
unfolding decks_open jobs_open turns_open
within_ahead = refl

within_turns : leg_of_first (behind 6 checking) ≡ 5
unfolding decks_open jobs_open turns_open
within_turns = refl

-- with a cancel of restarts too: the stint takes as many turns as these records, checkpoints and steps allow
abbrev cancelling : DeskModel
cancelling = with_deck (deck (counting (codes "RNC") (codes "CHK=2,CANCEL=3"))) fresh

cancelled_turns : leg_of_first (behind 1 cancelling) ≡ 4 + 2 + 4 * 1 + 1
unfolding decks_open jobs_open turns_open
cancelled_turns = refl

-- the stint of a run whose unit comes to a code ends with its restart
abbrev spilling_r : DeskModel
spilling_r = with_deck (deck (spilling (codes "R"))) fresh

spilled_turns : leg_of_first (behind 1 spilling_r) ≡ 5
unfolding decks_open jobs_open turns_open
spilled_turns = refl
