-- Turns one after another, and the lines that are told of them.
use Rattle.std.specs.Prelude.{◌≡◌, ℕ, true, false, if◌then◌else◌, List, [], ◌++◌, length, Option, None, Some}
use Rattle.std.specs.List.{flat_map}
use Rattle.ckr_desk.specs.Model.Plans.{IsToldReply}
use Rattle.ckr_desk.specs.Model.Reply.{Reply}
use Rattle.ckr_desk.specs.Model.Turn.{Turn}
use Rattle.ckr_desk.specs.Model.Layout.{Layout}
use Rattle.ckr_session.specs.declared.stop.Halt.{Halt}
use Rattle.ckr_session.specs.declared.stop.Halt.TheVariants as Halts
use Rattle.ckr_session.specs.Calls.{BrokenOff, Turned, turns, turns_fit, after_turns}
use Rattle.ckr_session.specs.Events.{behind_turns, turn_event, turns_events}
use Rattle.ckr_session.specs.Lines.{HaltsTold, Telling}
use Rattle.ckr_session.specs.Staff.{AttendedDesk, attended_event, attended_fits}
use Rattle.ckr_session.specs.Service.{ComesTo}
use Rattle.ckr_session.specs.Texts.{answer_text, run_text, before_runs, is_work, runs_of, told_runs, with_waiting}

-- the replies that wait are work, and have texts
abbrev pub IsToldWaiting : Option (Reply × ℕ) → Type 0
IsToldWaiting None = Unit {0}
IsToldWaiting (Some run) = (is_work run.0 ≡ true) × IsToldReply run.0

module _ (layout : Layout) (initiator : ℕ) where
  -- a reply comes behind those that wait: these runs have ended then, and their lines are written
  pub record Adds (waiting : Option (Reply × ℕ)) (reply : Reply) (now_waiting : Option (Reply × ℕ)) (before now : List ℕ) : Type 0 where
    pub ended : List (Reply × ℕ)
    pub written : now ≡ before ++ flat_map (run_text layout initiator) ended
    pub joins : (runs : List (Reply × ℕ)) → with_waiting waiting (before_runs reply 1 runs) ≡ ended ++ with_waiting now_waiting runs
    -- where none waits, some have ended, and no other reply goes on the last of them
    pub some : now_waiting ≡ None → ended ≡ [] → ⊥
    pub none : now_waiting ≡ None → told_runs ended ≡ ended

module _ (layout : Layout) (turn : Turn) where
  -- From one state to another, with so many turns left, some were made: the replies to them, the runs that have ended, and their events.
  pub record Turns (n m : ℕ) (first state : AttendedDesk) (waiting : Option (Reply × ℕ)) (before now : List ℕ) (had have : List (List ℕ)) : Type 0 where
    pub made : List Reply
    pub ended : List (Reply × ℕ)
    pub replies : turns turn n first ≡ made ++ turns turn m state
    pub after : after_turns turn n first ≡ after_turns turn m state
    pub fit : turns_fit turn n first ≡ turns_fit turn m state
    pub joins : (rest : List Reply) → runs_of (made ++ rest) ≡ ended ++ with_waiting waiting (runs_of rest)
    pub written : now ≡ before ++ flat_map (run_text layout turn.initiator) ended
    pub none : waiting ≡ None → told_runs ended ≡ ended
    pub behind : state ≡ behind_turns turn (length made) first
    pub events : have ≡ had ++ turns_events turn (length made) first

  -- Of so many turns the first ones were made, and their replies are told. `came` are their events and the one of the next, and theirs were kept
  -- for sure.
  pub record FirstTurns (count : ℕ) (state : AttendedDesk) (before now : List ℕ) (came kept : List (List ℕ)) : Type 0 where
    pub replies : List Reply
    pub later : List Reply
    pub given : turns turn count state ≡ replies ++ later
    pub told : now ≡ before ++ answer_text (BrokenOff layout turn.initiator replies)
    pub came_is : came ≡ turns_events turn (length replies) state ++ turn_event turn (length replies) state
    pub kept_is : kept ≡ turns_events turn (length replies) state

  -- what is told where not all of so many turns were made, and which events came and were kept
  abbrev pub TurnsHalt : Halt → ℕ → AttendedDesk → List ℕ → List ℕ → List (List ℕ) → List (List ℕ) → Type 0
  TurnsHalt Halts.Memory count state before now came kept = ComesTo (turns_events turn (length (turns turn count state)) state) came kept
  TurnsHalt Halts.Book count state before now came kept =
      (turns_fit turn count state ≡ false) × (now ≡ before ++ answer_text (BrokenOff layout turn.initiator (turns turn count state)))
      × (came ≡ turns_events turn (length (turns turn count state)) state) × (kept ≡ came)
  TurnsHalt Halts.Disk count state before now came kept = FirstTurns count state before now came kept

  -- what is told of so many turns, or of those that the book has room for
  abbrev pub turns_text : ℕ → AttendedDesk → List ℕ
  turns_text count state = answer_text (if turns_fit turn count state then Turned layout turn.initiator (turns turn count state) else BrokenOff layout turn.initiator (turns turn count state))

  -- the same where lines go out meanwhile
  abbrev pub TurnsHaltTelling : Halt → ℕ → AttendedDesk → Telling → Telling → List (List ℕ) → List (List ℕ) → Type 0
  TurnsHaltTelling halt count state from to came kept = HaltsTold halt (TurnsHalt halt count state from.waits) (from.waits ++ turns_text count state) from to came kept

-- a turn that wasn't made: whether the book has room for its event, and whether that came
abbrev pub TurnHalt : Halt → Turn → AttendedDesk → List (List ℕ) → List (List ℕ) → Type 0
TurnHalt Halts.Memory turn state came kept = (came ≡ []) × (kept ≡ [])
TurnHalt Halts.Book turn state came kept = (attended_fits state turn ≡ false) × (came ≡ []) × (kept ≡ [])
TurnHalt Halts.Disk turn state came kept = (came ≡ attended_event state turn) × (kept ≡ [])
