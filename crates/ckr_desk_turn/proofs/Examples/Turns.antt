-- Worked decks on the desk: the replies to their turns, and what the desk has then.
use Rattle.std.specs.Prelude.{◌≡◌, ℕ, true, false, List, [], ◌∷◌, map, codes, None, Some, refl}
use Rattle.ckr_base.specs.declared.code.Code.TheVariants.{System, User}
use Rattle.ckr_jcl_decks.proofs.Definitions.{decks_open}
use Rattle.ckr_jcl_decks.proofs.Examples.Rows.{payroll}
use Rattle.ckr_meaning.proofs.Definitions.{jobs_open}
use Rattle.ckr_desk_turn.proofs.Examples.Decks.{deck, copy, old_masters, merge, allocating, three_masters, passing, counting}
use Rattle.ckr_base.specs.Columns.{fitted}
use Rattle.ckr_points.specs.Office.{model_records}
use Rattle.ckr_rules.specs.declared.cases.Rule.TheVariants.{A2}
use Rattle.ckr_points_library.specs.declared.cause.Cause.TheVariants.{Exists}
use Rattle.ckr_points.specs.declared.reply.Chkpt.TheVariants.{Done, Suppressed}
use Rattle.ckr_points.specs.declared.reply.How.TheVariants.{Completed, Abended, Allocation}
use Rattle.ckr_points.specs.declared.reply.Reply.{Reply}
use Rattle.ckr_points.specs.declared.reply.Reply.TheVariants.{Idle, Selected, Started, Worked, Checkpointed, Cancelled, StepEnded, JobEnded}
use Rattle.ckr_desk_turn.specs.Desk.{DeskModel}
use Rattle.ckr_desk_turn.specs.EntryStates.{checkpoint_state}
use Rattle.ckr_desk_turn.specs.Turns.{replies_of}
use Rattle.ckr_desk_turn.proofs.Definitions.{turns_open}
use Rattle.ckr_desk_turn.proofs.Examples.Desks.{fresh, with_deck, replies, behind, reopened, turn_by, turns_by, listing, line, all_come}

-- no card is copied
none_copied : replies 6 (with_deck (deck (copy [] (codes "(80,10)"))) fresh)
    ≡ Selected 1 ∷ Started 1 (codes "S1") ∷ Worked 1 (codes "S1") 0 ∷ StepEnded 1 (codes "S1") 0 ∷ JobEnded 1 Completed ∷ Idle ∷ []
unfolding decks_open jobs_open turns_open
none_copied = refl

none_listed : listing (behind 6 (with_deck (deck (copy [] (codes "(80,10)"))) fresh)) ≡ line (codes "OUT.A") 0 true 80 0 10 (1, 1, 0) ∷ []
unfolding decks_open jobs_open turns_open
none_listed = refl

-- four cards into a space of three
abbrev four_into_three : DeskModel
four_into_three = with_deck (deck (copy (codes "A" ∷ codes "B" ∷ codes "C" ∷ codes "D" ∷ []) (codes "(80,3)"))) fresh

out_of_space : replies 7 four_into_three
    ≡ Selected 1 ∷ Started 1 (codes "S1") ∷ Worked 1 (codes "S1") 1 ∷ Worked 1 (codes "S1") 2 ∷ Worked 1 (codes "S1") 3
    ∷ JobEnded 1 (Abended (System 2871) A2) ∷ Idle ∷ []
unfolding decks_open jobs_open turns_open
out_of_space = refl

out_of_space_listed : listing (behind 7 four_into_three) ≡ line (codes "OUT.A") 0 true 80 3 3 (1, 1, 0) ∷ []
unfolding decks_open jobs_open turns_open
out_of_space_listed = refl

-- the system fails while the step is running: the run has lost what wasn't committed
failed_system : replies_of (turns_by 1 2) (reopened (behind 4 four_into_three)) ≡ JobEnded 1 (Abended (System 755) A2) ∷ Idle ∷ []
unfolding decks_open jobs_open turns_open
failed_system = refl

-- two jobs that use one data set: with OLD one of them waits, with SHR neither does
exclusive : replies_of (turn_by 1 ∷ turn_by 2 ∷ []) (with_deck (deck (allocating (codes "DSN=X.A,DISP=OLD"))) (with_deck (deck (allocating (codes "DSN=X.A,DISP=OLD"))) fresh))
    ≡ Selected 1 ∷ Idle ∷ []
unfolding decks_open jobs_open turns_open
exclusive = refl

shared : replies_of (turn_by 1 ∷ turn_by 2 ∷ []) (with_deck (deck (allocating (codes "DSN=X.A,DISP=SHR"))) (with_deck (deck (allocating (codes "DSN=X.A,DISP=SHR"))) fresh))
    ≡ Selected 1 ∷ Selected 2 ∷ []
unfolding decks_open jobs_open turns_open
shared = refl

-- two decks that make the same data set
abbrev made_twice : DeskModel
made_twice = with_deck (deck (allocating (codes "DSN=X.A,DISP=(NEW,CATLG),SPACE=(80,1)"))) (with_deck (deck (allocating (codes "DSN=X.A,DISP=(NEW,CATLG),SPACE=(80,1)"))) fresh)

exists_then : replies 8 made_twice
    ≡ Selected 1 ∷ Started 1 (codes "S1") ∷ Worked 1 (codes "S1") 0 ∷ StepEnded 1 (codes "S1") 0 ∷ JobEnded 1 Completed
    ∷ Selected 2 ∷ JobEnded 2 (Allocation (codes "S1") (codes "A") Exists) ∷ Idle ∷ []
unfolding decks_open jobs_open turns_open
exists_then = refl

-- the payroll job behind the old masters
abbrev paying : DeskModel
paying = with_deck (deck payroll) (behind 9 (with_deck (deck old_masters) fresh))

abbrev worked : List ℕ → ℕ → Reply
worked step taken = Worked 2 step taken

paid : replies 19 paying
    ≡ Selected 2 ∷ Started 2 (codes "UPD")
    ∷ worked (codes "UPD") 1 ∷ worked (codes "UPD") 2 ∷ worked (codes "UPD") 3 ∷ worked (codes "UPD") 4 ∷ worked (codes "UPD") 5 ∷ worked (codes "UPD") 6 ∷ worked (codes "UPD") 6
    ∷ StepEnded 2 (codes "UPD") 4 ∷ Started 2 (codes "LIST")
    ∷ worked (codes "LIST") 1 ∷ worked (codes "LIST") 2 ∷ worked (codes "LIST") 3 ∷ worked (codes "LIST") 4 ∷ worked (codes "LIST") 4
    ∷ StepEnded 2 (codes "LIST") 0 ∷ JobEnded 2 Completed ∷ Idle ∷ []
unfolding decks_open jobs_open turns_open
paid = refl

paid_listed : listing (behind 19 paying)
    ≡ line (codes "PAY.MASTER.NEW") 1 true 80 4 100 (2, 1, 0)
    ∷ line (codes "PAY.MASTER.OLD") 0 true 80 3 10 (1, 1, 0)
    ∷ line (codes "SYSOUT.J0000002.LIST.SYSPRINT") 0 false 133 6 500 (2, 2, 0)
    ∷ line (codes "SYSOUT.J0000002.UPD.REJECTS") 0 false 133 1 500 (2, 1, 0)
    ∷ []
unfolding decks_open jobs_open turns_open
paid_listed = refl

paid_comes : all_come (turns_by 1 19) paying ≡ true
unfolding decks_open jobs_open turns_open
paid_comes = refl

-- two inputs in order, and the first comes first where their keys are the same
abbrev merging : DeskModel
merging = with_deck (deck (merge (codes "A1" ∷ codes "C1" ∷ []) (codes "A2" ∷ codes "B2" ∷ []))) fresh

merged : replies 9 merging
    ≡ Selected 1 ∷ Started 1 (codes "S1") ∷ Worked 1 (codes "S1") 1 ∷ Worked 1 (codes "S1") 2 ∷ Worked 1 (codes "S1") 3 ∷ Worked 1 (codes "S1") 4
    ∷ Worked 1 (codes "S1") 4 ∷ StepEnded 1 (codes "S1") 0 ∷ JobEnded 1 Completed ∷ []
unfolding decks_open jobs_open turns_open
merged = refl

merged_records : model_records (behind 9 merging).office (codes "OUT.M") ≡ map (fitted 80) (codes "A1" ∷ codes "A2" ∷ codes "B2" ∷ codes "C1" ∷ [])
unfolding decks_open jobs_open turns_open
merged_records = refl

-- the second input of MERGE isn't in order
disordered : replies 6 (with_deck (deck (merge (codes "A1" ∷ codes "C1" ∷ []) (codes "B2" ∷ codes "A2" ∷ []))) fresh)
    ≡ Selected 1 ∷ Started 1 (codes "S1") ∷ Worked 1 (codes "S1") 1 ∷ Worked 1 (codes "S1") 2 ∷ JobEnded 1 (Abended (User 101) A2) ∷ Idle ∷ []
unfolding decks_open jobs_open turns_open
disordered = refl

-- a record is rewritten in place: its event tells the place and the records taken, and the stamp the rewrite
abbrev updating : List (List ℕ)
updating =
    codes "//U JOB" ∷
    codes "//S1 EXEC PGM=UPDATE,PARM='KEY=1:4'" ∷
    codes "//MASTER DD DSN=M.A,DISP=OLD" ∷
    codes "//TRANS DD *" ∷
    codes "C0003NEW" ∷
    codes "C0007NONE" ∷
    codes "/*" ∷
    codes "//REJECTS DD SYSOUT=A" ∷
    []

abbrev with_masters : DeskModel
with_masters = with_deck (deck updating) (behind 9 (with_deck (deck three_masters) fresh))

updated : replies 10 with_masters
    ≡ Selected 2 ∷ Started 2 (codes "S1") ∷ worked (codes "S1") 1 ∷ worked (codes "S1") 2 ∷ worked (codes "S1") 3 ∷ worked (codes "S1") 4
    ∷ worked (codes "S1") 5 ∷ worked (codes "S1") 5 ∷ StepEnded 2 (codes "S1") 4 ∷ JobEnded 2 Completed ∷ []
unfolding decks_open jobs_open turns_open
updated = refl

updated_listed : listing (behind 10 with_masters)
    ≡ line (codes "M.A") 0 true 80 3 10 (2, 1, 1) ∷ line (codes "SYSOUT.J0000002.S1.REJECTS") 0 false 133 1 500 (2, 1, 0) ∷ []
unfolding decks_open jobs_open turns_open
updated_listed = refl

updated_comes : all_come (turns_by 1 10) with_masters ≡ true
unfolding decks_open jobs_open turns_open
updated_comes = refl

-- under RD=NC the checkpoints are suppressed that are due at each second record, and the cancel comes behind the third, before the next
-- unit: neither takes a record, and the checkpoints go on
abbrev cancelled : DeskModel
cancelled = with_deck (deck (counting (codes "NC") (codes "CHK=2,CANCEL=3"))) fresh

abbrev on_s1 : ℕ → Reply
on_s1 taken = Worked 1 (codes "S1") taken

abbrev suppressed : Reply
suppressed = Checkpointed 1 (codes "S1") Suppressed None

cancelled_replies : replies 13 cancelled
    ≡ Selected 1 ∷ Started 1 (codes "S1") ∷ on_s1 1 ∷ on_s1 2 ∷ suppressed ∷ on_s1 3 ∷ Cancelled 1 (codes "S1") ∷ on_s1 4 ∷ suppressed ∷ on_s1 4
    ∷ StepEnded 1 (codes "S1") 0 ∷ JobEnded 1 Completed ∷ Idle ∷ []
unfolding decks_open jobs_open turns_open
cancelled_replies = refl

cancelled_comes : all_come (turns_by 1 13) cancelled ≡ true
unfolding decks_open jobs_open turns_open
cancelled_comes = refl

-- nothing is written to the data set for checkpoints
cancelled_listed : listing (behind 13 cancelled)
    ≡ line (codes "CHK.A") 0 true 256 0 4 (1, 1, 0) ∷ line (codes "OUT.A") 0 true 80 4 10 (1, 1, 0) ∷ []
unfolding decks_open jobs_open turns_open
cancelled_listed = refl

-- where both are due at one count the checkpoint comes first
both_due : replies 8 (with_deck (deck (counting (codes "NC") (codes "CHK=3,CANCEL=3"))) fresh)
    ≡ Selected 1 ∷ Started 1 (codes "S1") ∷ on_s1 1 ∷ on_s1 2 ∷ on_s1 3 ∷ suppressed ∷ Cancelled 1 (codes "S1") ∷ on_s1 4 ∷ []
unfolding decks_open jobs_open turns_open
both_due = refl

-- under RD=NR entries are written at the same counts, of a record each, also behind the cancel
abbrev entered : DeskModel
entered = with_deck (deck (counting (codes "NR") (codes "CHK=2,CANCEL=3"))) fresh

abbrev written : List ℕ → Reply
written id = Checkpointed 1 (codes "S1") Done (Some id)

entered_replies : replies 13 entered
    ≡ Selected 1 ∷ Started 1 (codes "S1") ∷ on_s1 1 ∷ on_s1 2 ∷ written (codes "C0000001") ∷ on_s1 3 ∷ Cancelled 1 (codes "S1") ∷ on_s1 4 ∷ written (codes "C0000002")
    ∷ on_s1 4 ∷ StepEnded 1 (codes "S1") 0 ∷ JobEnded 1 Completed ∷ Idle ∷ []
unfolding decks_open jobs_open turns_open checkpoint_state
entered_replies = refl

entered_comes : all_come (turns_by 1 13) entered ≡ true
unfolding decks_open jobs_open turns_open checkpoint_state
entered_comes = refl

-- what was written at the last one is committed, also where the system fails behind it
entered_listed : listing (behind 2 (reopened (behind 9 entered)))
    ≡ line (codes "CHK.A") 0 true 256 2 4 (1, 1, 0) ∷ line (codes "OUT.A") 0 true 80 4 10 (1, 1, 0) ∷ []
unfolding decks_open jobs_open turns_open checkpoint_state
entered_listed = refl

-- four data sets are passed on: what the job made and nobody received goes at its end, and what a later step received is kept
passed_on : listing (behind 12 (with_deck (deck passing) (behind 6 (with_deck (deck (allocating (codes "DSN=X.D,DISP=(NEW,CATLG),SPACE=(80,1)"))) fresh))))
    ≡ line (codes "X.B") 0 false 80 0 1 (2, 1, 0) ∷ line (codes "X.D") 0 true 80 0 1 (1, 1, 0) ∷ []
unfolding decks_open jobs_open turns_open
passed_on = refl
