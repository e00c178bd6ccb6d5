-- Runs that are restarted: what the rules say, the desk behind the restart, and the replies of the turns behind it.
use Rattle.std.specs.Prelude.{◌≡◌, ℕ, zero, suc, Bool, true, false, ◌&&◌, List, [], ◌∷◌, ◌++◌, map, codes, Option, None, Some, refl}
use Rattle.std.specs.Option.{option_map, option_map_or}
use Rattle.ckr_base.specs.Columns.{fitted}
use Rattle.ckr_base.specs.declared.code.Code.{Code}
use Rattle.ckr_base.specs.declared.code.Code.TheVariants.{System, User}
use Rattle.ckr_events.specs.declared.event.Event.TheVariants.{Checkpointed, Restarted}
use Rattle.ckr_jcl_decks.proofs.Definitions.{decks_open}
use Rattle.ckr_library.specs.NameMaps.{Name}
use Rattle.ckr_meaning.proofs.Definitions.{jobs_open}
use Rattle.ckr_meaning.specs.declared.place.Place.{Place}
use Rattle.ckr_meaning.specs.declared.place.Place.TheVariants.{Opened, Within}
use Rattle.ckr_points.specs.Office.{model_records}
use Rattle.ckr_points.specs.Payload.{carries}
use Rattle.ckr_points.specs.Restart.{Decked}
use Rattle.ckr_points.specs.Rows.{run_of}
use Rattle.ckr_points.specs.Soundness.{may_come}
use Rattle.ckr_rules.specs.declared.cases.Rule.TheVariants.{A1, A2, A3, A5}
use Rattle.ckr_rules.specs.declared.cases.Verdict.{Verdict}
use Rattle.ckr_rules.specs.declared.cases.Verdict.TheVariants.{Step, Checkpoint, Denied}
use Rattle.ckr_points.specs.declared.reply.Chkpt.TheVariants.{Done, Suppressed}
use Rattle.ckr_points.specs.declared.reply.How.TheVariants.{Completed, Abended}
use Rattle.ckr_points.specs.declared.reply.Reply.{Reply}
use Rattle.ckr_points.specs.declared.reply.Reply.TheVariants.{Idle, Selected, Started, Worked, Checkpointed as CheckpointedReply, Cancelled, StepEnded, Restarted as RestartedReply, JobEnded}
use Rattle.ckr_desk_turn.specs.Codes.{verdict_for}
use Rattle.ckr_desk_turn.specs.Desk.{DeskModel, behind as behind_event}
use Rattle.ckr_desk_turn.specs.EntryStates.{checkpoint_state}
use Rattle.ckr_desk_turn.specs.Turns.{AnsweredTurn, desk_after, replies_of}
use Rattle.ckr_desk_turn.specs.Units.{StepProgress}
use Rattle.ckr_desk_turn.proofs.Definitions.{turns_open}
use Rattle.ckr_desk_turn.proofs.Examples.Decks.{cards_from, counting, deck, six_cards, sixty, spilling, under}
use Rattle.ckr_desk_turn.proofs.Examples.Desks.{Listed, all_come as turns_come, behind, done_of, failing, fresh, line, listing, reopened, replies, turn_by, turns_by, with_deck}
use Rattle.ckr_desk_turn.proofs.Examples.Tables.{ended, in_one, selected, started, step_ended, submitted}

-- ---- the desk behind events

abbrev behind_all : List Decked → DeskModel → DeskModel
behind_all [] desk = desk
behind_all (event ∷ events) desk = behind_all events (behind_event event.0 event.1 desk)

abbrev pub comes : Decked → DeskModel → Bool
comes event desk = may_come desk.layout desk.office event && carries desk.layout desk.office event.0 event.1

abbrev all_come : List Decked → DeskModel → Bool
all_come [] desk = true
all_come (event ∷ events) desk = comes event desk && all_come events (behind_event event.0 event.1 desk)

-- what the rules say of a run after a code
abbrev judged : ℕ → Code → DeskModel → Option Verdict
judged job code desk = option_map (λ row. verdict_for desk.layout row code) (run_of desk.office.tables job)

abbrev place_now : ℕ → DeskModel → Option Place
place_now job desk = option_map_or (λ row. row.place) (run_of desk.office.tables job) None

-- a run on the first initiator is restarted
abbrev restart : ℕ → Code → Bool → Decked
restart job code checkpoint = (Restarted job 1 code checkpoint, None)

abbrev restarted : ℕ → Code → Bool → DeskModel → DeskModel
restarted job code checkpoint desk = behind_all (restart job code checkpoint ∷ []) desk

-- an abend with S001, and the system failure
abbrev pub abended : Code
abended = System 1

abbrev pub failed : Code
failed = System 755

abbrev pub on_s1 : ℕ → Reply
on_s1 taken = Worked 1 (codes "S1") taken

-- ---- RD=RNC: at the start of the step

-- its checkpoints are suppressed
abbrev pub suppressing : DeskModel
suppressing = with_deck (deck (counting (codes "RNC") (codes "CHK=2"))) fresh

abbrev suppressed : Reply
suppressed = CheckpointedReply 1 (codes "S1") Suppressed None

suppressing_replies : replies 6 suppressing ≡ Selected 1 ∷ Started 1 (codes "S1") ∷ on_s1 1 ∷ on_s1 2 ∷ suppressed ∷ on_s1 3 ∷ []
unfolding decks_open jobs_open turns_open
suppressing_replies = refl

suppressing_judged : judged 1 abended (behind 6 suppressing) ≡ Some Step
unfolding decks_open jobs_open turns_open
suppressing_judged = refl

suppressing_comes : comes (restart 1 abended false) (behind 6 suppressing) ≡ true
unfolding decks_open jobs_open turns_open
suppressing_comes = refl

-- what the step has made doesn't exist then, and no step is running
abbrev from_start : DeskModel
from_start = restarted 1 abended false (behind 6 suppressing)

start_listed : listing from_start ≡ []
unfolding decks_open jobs_open turns_open
start_listed = refl

start_running : from_start.running ≡ []
unfolding decks_open jobs_open turns_open
start_running = refl

start_place : place_now 1 from_start ≡ Some (Opened 1)
unfolding decks_open jobs_open turns_open
start_place = refl

-- it starts again, and ends as it does with no failure
started_again : replies 10 from_start
    ≡ Started 1 (codes "S1") ∷ on_s1 1 ∷ on_s1 2 ∷ suppressed ∷ on_s1 3 ∷ on_s1 4 ∷ suppressed ∷ on_s1 4 ∷ StepEnded 1 (codes "S1") 0 ∷ JobEnded 1 Completed ∷ []
unfolding decks_open jobs_open turns_open
started_again = refl

again_listed : listing (behind 10 from_start)
    ≡ line (codes "CHK.A") 0 true 256 0 4 (1, 1, 0) ∷ line (codes "OUT.A") 0 true 80 4 10 (1, 1, 0) ∷ []
unfolding decks_open jobs_open turns_open
again_listed = refl

-- ---- the turns that restart it

abbrev pub on_start : Reply
on_start = Started 1 (codes "S1")

abbrev pub restarted_on_s1 : Reply
restarted_on_s1 = RestartedReply 1 (codes "S1") None 0

-- the code is given: its turn tells the restart, and the step starts again by the next one
given_event : (done_of (behind 6 suppressing) (failing abended)).event ≡ Some (Restarted 1 1 abended false)
unfolding decks_open jobs_open turns_open
given_event = refl

given_replies : replies_of (failing abended ∷ turns_by 1 2) (behind 6 suppressing) ≡ restarted_on_s1 ∷ on_start ∷ on_s1 1 ∷ []
unfolding decks_open jobs_open turns_open
given_replies = refl

-- the system has failed: the run is restarted by the first turn of its initiator, and isn't marked any more
failed_replies : replies_of (turns_by 1 3) (reopened (behind 6 suppressing)) ≡ restarted_on_s1 ∷ on_start ∷ on_s1 1 ∷ []
unfolding decks_open jobs_open turns_open
failed_replies = refl

-- a code that isn't eligible ends it
ineligible : replies_of (failing (User 7) ∷ []) (behind 6 suppressing) ≡ JobEnded 1 (Abended (User 7) A3) ∷ []
unfolding decks_open jobs_open turns_open
ineligible = refl

-- its own code comes again at each start: it is restarted three times, and ended then
abbrev spilling_r : DeskModel
spilling_r = with_deck (deck (spilling (codes "R"))) fresh

abbrev one_start : List Reply
one_start = on_start ∷ on_s1 1 ∷ on_s1 2 ∷ on_s1 3 ∷ []

spilling_replies : replies 22 spilling_r
    ≡ Selected 1 ∷ one_start ++ restarted_on_s1 ∷ one_start ++ restarted_on_s1 ∷ one_start ++ restarted_on_s1 ∷ one_start ++ JobEnded 1 (Abended (System 2871) A5) ∷ Idle ∷ []
unfolding decks_open jobs_open turns_open
spilling_replies = refl

spilling_comes : turns_come (turns_by 1 22) spilling_r ≡ true
unfolding decks_open jobs_open turns_open
spilling_comes = refl

spilling_listed : listing (behind 22 spilling_r) ≡ line (codes "OUT.A") 0 true 80 3 3 (1, 1, 0) ∷ []
unfolding decks_open jobs_open turns_open
spilling_listed = refl

-- ---- RD=R, behind the cancel of restarts: at the start of the step

abbrev cancelling : DeskModel
cancelling = with_deck (deck (counting (codes "R") (codes "CHK=2,CANCEL=3"))) fresh

abbrev pub written : List ℕ → Reply
written id = CheckpointedReply 1 (codes "S1") Done (Some id)

cancelling_replies : replies 7 cancelling
    ≡ Selected 1 ∷ Started 1 (codes "S1") ∷ on_s1 1 ∷ on_s1 2 ∷ written (codes "C0000001") ∷ on_s1 3 ∷ Cancelled 1 (codes "S1") ∷ []
unfolding decks_open jobs_open turns_open checkpoint_state
cancelling_replies = refl

cancelling_judged : judged 1 abended (behind 7 cancelling) ≡ Some Step
unfolding decks_open jobs_open turns_open checkpoint_state
cancelling_judged = refl

-- neither data set exists then
cancelling_listed : listing (restarted 1 abended false (behind 7 cancelling)) ≡ []
unfolding decks_open jobs_open turns_open checkpoint_state
cancelling_listed = refl

-- the entries count from the start of the step
cancelling_again : replies 4 (restarted 1 abended false (behind 7 cancelling)) ≡ Started 1 (codes "S1") ∷ on_s1 1 ∷ on_s1 2 ∷ written (codes "C0000001") ∷ []
unfolding decks_open jobs_open turns_open checkpoint_state
cancelling_again = refl

-- the code is given: it starts its step again
cancelling_given : replies_of (failing abended ∷ turns_by 1 2) (behind 7 cancelling) ≡ restarted_on_s1 ∷ on_start ∷ on_s1 1 ∷ []
unfolding decks_open jobs_open turns_open checkpoint_state
cancelling_given = refl

-- with no RD it isn't restarted there
abbrev cancelling_alone : DeskModel
cancelling_alone = with_deck (deck (six_cards (codes "CHK=2,CANCEL=3") (codes "(80,10)"))) fresh

alone_ends : replies_of (turns_by 1 7 ++ failing abended ∷ turn_by 1 ∷ []) cancelling_alone
    ≡ Selected 1 ∷ on_start ∷ on_s1 1 ∷ on_s1 2 ∷ written (codes "C0000001") ∷ on_s1 3 ∷ Cancelled 1 (codes "S1") ∷ JobEnded 1 (Abended abended A2) ∷ Idle ∷ []
unfolding decks_open jobs_open turns_open checkpoint_state
alone_ends = refl

-- ---- no RD: the turns that restart a run at the second of three checkpoints

abbrev pub checking : DeskModel
checking = with_deck (deck (six_cards (codes "CHK=2") (codes "(80,10)"))) fresh

abbrev pub back_at : Name → ℕ → Reply
back_at id taken = RestartedReply 1 (codes "S1") (Some id) taken

abbrev pub to_end : List Reply
to_end = on_s1 5 ∷ on_s1 6 ∷ written (codes "C0000003") ∷ on_s1 6 ∷ StepEnded 1 (codes "S1") 0 ∷ JobEnded 1 Completed ∷ []

checking_replies : replies 14 checking
    ≡ Selected 1 ∷ on_start ∷ on_s1 1 ∷ on_s1 2 ∷ written (codes "C0000001") ∷ on_s1 3 ∷ on_s1 4 ∷ written (codes "C0000002") ∷ to_end
unfolding decks_open jobs_open turns_open checkpoint_state
checking_replies = refl

-- behind the fifth record a code is given: the run goes back behind the fourth, and on to its end
back_event : (done_of (behind 9 checking) (failing abended)).event ≡ Some (Restarted 1 1 abended true)
unfolding decks_open jobs_open turns_open checkpoint_state
back_event = refl

abbrev pub given_to_end : List AnsweredTurn
given_to_end = failing abended ∷ turns_by 1 6

back_replies : replies_of given_to_end (behind 9 checking) ≡ back_at (codes "C0000002") 4 ∷ to_end
unfolding decks_open jobs_open turns_open checkpoint_state
back_replies = refl

back_comes : turns_come given_to_end (behind 9 checking) ≡ true
unfolding decks_open jobs_open turns_open checkpoint_state
back_comes = refl

-- so it does where the system fails there
back_reopened : replies 7 (reopened (behind 9 checking)) ≡ back_at (codes "C0000002") 4 ∷ to_end
unfolding decks_open jobs_open turns_open checkpoint_state
back_reopened = refl

reopened_comes : turns_come (turns_by 1 7) (reopened (behind 9 checking)) ≡ true
unfolding decks_open jobs_open turns_open checkpoint_state
reopened_comes = refl

-- the listing is that with no failure, and the records are all there
abbrev pub all_copied : List Listed
all_copied = line (codes "CHK.A") 0 true 256 3 4 (1, 1, 0) ∷ line (codes "OUT.A") 0 true 80 6 10 (1, 1, 0) ∷ []

checking_listed : listing (behind 14 checking) ≡ all_copied
unfolding decks_open jobs_open turns_open checkpoint_state
checking_listed = refl

back_listed : listing (desk_after given_to_end (behind 9 checking)) ≡ all_copied
unfolding decks_open jobs_open turns_open checkpoint_state
back_listed = refl

reopened_listed : listing (behind 7 (reopened (behind 9 checking))) ≡ all_copied
unfolding decks_open jobs_open turns_open checkpoint_state
reopened_listed = refl

back_records : model_records (desk_after given_to_end (behind 9 checking)).office (codes "OUT.A") ≡ map (fitted 80) (cards_from 1 6)
unfolding decks_open jobs_open turns_open checkpoint_state
back_records = refl

-- the fourth restart at one checkpoint is denied
abbrev given_once : List AnsweredTurn
given_once = failing abended ∷ turn_by 1 ∷ []

abbrev back_once : List Reply
back_once = back_at (codes "C0000002") 4 ∷ on_s1 5 ∷ []

fourth_denied : replies_of (given_once ++ given_once ++ given_once ++ given_once) (behind 9 checking)
    ≡ back_once ++ back_once ++ back_once ++ JobEnded 1 (Abended abended A5) ∷ Idle ∷ []
unfolding decks_open jobs_open turns_open checkpoint_state
fourth_denied = refl

-- at the next one they are counted anew
counted_anew : replies_of (given_once ++ given_once ++ given_once ++ turns_by 1 2 ++ failing abended ∷ []) (behind 9 checking)
    ≡ back_once ++ back_once ++ back_once ++ on_s1 6 ∷ written (codes "C0000003") ∷ back_at (codes "C0000003") 6 ∷ []
unfolding decks_open jobs_open turns_open checkpoint_state
counted_anew = refl

-- a unit's own code comes again behind each restart
abbrev pub filling : DeskModel
filling = with_deck (deck (six_cards (codes "CHK=2") (codes "(80,3)"))) fresh

abbrev filled_once : List Reply
filled_once = back_at (codes "C0000001") 2 ∷ on_s1 3 ∷ []

filling_replies : replies 14 filling
    ≡ Selected 1 ∷ on_start ∷ on_s1 1 ∷ on_s1 2 ∷ written (codes "C0000001") ∷ on_s1 3
    ∷ filled_once ++ filled_once ++ filled_once ++ JobEnded 1 (Abended (System 2871) A5) ∷ Idle ∷ []
unfolding decks_open jobs_open turns_open checkpoint_state
filling_replies = refl

filling_comes : turns_come (turns_by 1 14) filling ≡ true
unfolding decks_open jobs_open turns_open checkpoint_state
filling_comes = refl

filling_listed : listing (behind 14 filling)
    ≡ line (codes "CHK.A") 0 true 256 1 4 (1, 1, 0) ∷ line (codes "OUT.A") 0 true 80 3 3 (1, 1, 0) ∷ []
unfolding decks_open jobs_open turns_open checkpoint_state
filling_listed = refl

-- ---- RD=R: at the second of three checkpoints

abbrev entry_written : Name → ℕ → ℕ → ℕ → Decked
entry_written id taken entries place = (Checkpointed 2 id taken taken (record { items = taken ∷ entries ∷ [] }) place 143, None)

-- COPY of 60 records under this RD, behind the entries at 20 and at 40
abbrev to_second : List ℕ → List Decked
to_second rd =
    submitted 1 (deck sixty) ∷ selected 1 ∷ started 1 1 (in_one 2 0 0 100 ∷ []) ∷ step_ended 1 1 0 60 (60 ∷ []) ∷ ended 1
    ∷ submitted 2 (deck (under rd)) ∷ selected 2 ∷ started 2 1 (in_one 2 0 8000 100 ∷ in_one 3 0 16000 20 ∷ [])
    ∷ entry_written (codes "C0000001") 20 1 0 ∷ entry_written (codes "C0000002") 40 2 1 ∷ []

abbrev at_second : List ℕ → DeskModel
at_second rd = behind_all (to_second rd) fresh

second_comes : all_come (to_second (codes "R")) fresh ≡ true
unfolding decks_open jobs_open turns_open
second_comes = refl

second_judged : judged 2 abended (at_second (codes "R")) ≡ Some Checkpoint
unfolding decks_open jobs_open turns_open
second_judged = refl

second_restarts : comes (restart 2 abended true) (at_second (codes "R")) ≡ true
unfolding decks_open jobs_open turns_open
second_restarts = refl

-- the step goes on behind 40 records, with its checkpoint done
abbrev at_forty : StepProgress
at_forty = record { taken = 40; writes = 40; checkpointed = true; cancelled = false; closed = false }

abbrev from_second : DeskModel
from_second = restarted 2 abended true (at_second (codes "R"))

second_running : from_second.running ≡ record { run = 2; progress = at_forty; code = None } ∷ []
unfolding decks_open jobs_open turns_open
second_running = refl

second_place : place_now 2 from_second ≡ Some (Within 1 40)
unfolding decks_open jobs_open turns_open
second_place = refl

second_listed : listing from_second
    ≡ line (codes "CHK.K") 0 false 256 2 20 (2, 1, 0) ∷ line (codes "IN.A") 0 true 80 60 100 (1, 1, 0) ∷ line (codes "OUT.K") 0 false 80 40 100 (2, 1, 0) ∷ []
unfolding decks_open jobs_open turns_open
second_listed = refl

-- the next record is the forty-first, and the third entry is written at the sixtieth
abbrev worked_from : ℕ → ℕ → List Reply
worked_from taken zero = []
worked_from taken (suc count) = Worked 2 (codes "S1") (suc taken) ∷ worked_from (suc taken) count

second_replies : replies 25 from_second
    ≡ worked_from 40 20 ++ CheckpointedReply 2 (codes "S1") Done (Some (codes "C0000003")) ∷ Worked 2 (codes "S1") 60 ∷ StepEnded 2 (codes "S1") 0 ∷ JobEnded 2 Completed ∷ Idle ∷ []
unfolding decks_open jobs_open turns_open checkpoint_state
second_replies = refl

-- all is there then as without the restart
second_left : listing (behind 25 from_second)
    ≡ line (codes "CHK.K") 0 true 256 3 20 (2, 1, 0) ∷ line (codes "IN.A") 0 true 80 60 100 (1, 1, 0) ∷ line (codes "OUT.K") 0 true 80 60 100 (2, 1, 0) ∷ []
unfolding decks_open jobs_open turns_open checkpoint_state
second_left = refl

-- so it is where the system fails: the run is marked, and isn't any more behind its restart
marked : (reopened (at_second (codes "R"))).failed ≡ record { run = 2; asked = false } ∷ []
unfolding decks_open jobs_open turns_open
marked = refl

unmarked : (restarted 2 failed true (reopened (at_second (codes "R")))).failed ≡ []
unfolding decks_open jobs_open turns_open
unmarked = refl

unmarked_running : (restarted 2 failed true (reopened (at_second (codes "R")))).running ≡ record { run = 2; progress = at_forty; code = None } ∷ []
unfolding decks_open jobs_open turns_open
unmarked_running = refl

-- the fourth restart at a checkpoint is denied
restarted_thrice : judged 2 abended (behind_all (restart 2 abended true ∷ restart 2 abended true ∷ restart 2 abended true ∷ []) (at_second (codes "R"))) ≡ Some (Denied A5)
unfolding decks_open jobs_open turns_open
restarted_thrice = refl

-- RD=NR forbids it
not_restarted : judged 2 abended (at_second (codes "NR")) ≡ Some (Denied A1)
unfolding decks_open jobs_open turns_open
not_restarted = refl
