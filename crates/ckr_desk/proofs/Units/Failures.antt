-- A unit that wasn't worked out: the disk failed.
use Rattle.std.proofs.Common.{ℕ, Bool, Option, Result, Err}
use Rattle.ckr_events.specs.declared.event.Event.{Event}
use Rattle.ckr_points.specs.declared.reply.Reply.{Reply}
use Rattle.ckr_desk.specs.declared.error.DeskError.{DeskError}
use Rattle.ckr_desk.specs.declared.error.DeskError.TheVariants.{NoMemory, DiskFault, BookFull, Stopped}
use Rattle.ckr_desk.specs.Preparation.{NotWorkedOut}
use Rattle.ckr_desk.specs.Requests.{FailsBy, TellsNumbers}
use Rattle.ckr_desk.specs.State.{DeskView}
use Rattle.ckr_desk.specs.Turn.{AnswerStands}
use Rattle.ckr_desk.specs.Units.{TakesBy}

abbrev failed : DeskError → Result Reply DeskError
failed error = Err error

module _ {D : Type 0} (faults : D → ℕ) (old new : DeskView D) where
  pub unworked-cause : (room : ℕ) (event : Option Event) (error : DeskError) → NotWorkedOut faults old new error → FailsBy room event error
  unworked-cause room event NoMemory not = absurd not
  unworked-cause room event DiskFault not = tt
  unworked-cause room event (BookFull need left) not = absurd not
  unworked-cause room event (Stopped fault) not = absurd not

  pub unworked-takes : (reply : Reply) (event : Option Event) (asks : Bool) (error : DeskError) → NotWorkedOut faults old new error → TakesBy reply event asks error
  unworked-takes reply event asks NoMemory not = absurd not
  unworked-takes reply event asks DiskFault not = tt
  unworked-takes reply event asks (BookFull need left) not = absurd not
  unworked-takes reply event asks (Stopped fault) not = absurd not

  pub unworked-numbers : (room : ℕ) (error : DeskError) → NotWorkedOut faults old new error → TellsNumbers room error
  unworked-numbers room NoMemory not = absurd not
  unworked-numbers room DiskFault not = tt
  unworked-numbers room (BookFull need left) not = absurd not
  unworked-numbers room (Stopped fault) not = absurd not

  pub unworked-stands : (asks : Bool) (error : DeskError) → NotWorkedOut faults old new error → AnswerStands asks old.machine_room new.machine_room (failed error)
  unworked-stands asks NoMemory not = absurd not
  unworked-stands asks DiskFault not = tt
  unworked-stands asks (BookFull need left) not = absurd not
  unworked-stands asks (Stopped fault) not = absurd not
