-- What worked decks leave.
use Rattle.std.specs.Prelude.{◌≡◌, ℕ, true, false, List, [], ◌∷◌, map, codes, Some, None, refl}
use Rattle.ckr_base.specs.Columns.{fitted}
use Rattle.ckr_base.specs.declared.code.Code.TheVariants.{System, User}
use Rattle.ckr_base.specs.declared.programs.Finish.TheVariants.{Returned, Abend}
use Rattle.ckr_jcl.specs.declared.deck.Cond.{Cond}
use Rattle.ckr_jcl.specs.declared.deck.CondOp.{CondOp}
use Rattle.ckr_jcl.specs.declared.deck.CondOp.TheVariants.{Le, Lt}
use Rattle.ckr_jcl_decks.proofs.Definitions.{decks_open}
use Rattle.ckr_jcl_decks.proofs.Examples.Rows.{payroll}
use Rattle.ckr_meaning.specs.declared.place.Place.TheVariants.{Before, Within}
use Rattle.ckr_meaning.specs.LibrarySet.{Library}
use Rattle.ckr_meaning.proofs.Definitions.{jobs_open}
use Rattle.ckr_desk_turn.proofs.Examples.Decks.{Listed, deck, left_by, end_by, listed, line, records_of, finish_at, on_volumes, extending, copy, old_masters, three_masters, update, merge, printing, allocating, passing, cards_from, sixty, checkpointed, left_at, with_tests}

-- two cards are copied
copied : records_of (left_by 1 [] (deck (copy (codes "ALPHA" ∷ codes "BETA" ∷ []) (codes "(80,10)")))) (codes "OUT.A") ≡ Some (map (fitted 80) (codes "ALPHA" ∷ codes "BETA" ∷ []))
unfolding decks_open jobs_open
copied = refl

-- no card is copied
copied_none : listed (left_by 1 [] (deck (copy [] (codes "(80,10)")))) ≡ line (codes "OUT.A") true 80 0 10 (1, 1, 0) ∷ []
unfolding decks_open jobs_open
copied_none = refl

-- four cards into a space of three: the fourth doesn't fit, and the job ends in the step, behind three writes
cut_by_space : end_by 1 [] (deck (copy (codes "A" ∷ codes "B" ∷ codes "C" ∷ codes "D" ∷ []) (codes "(80,3)"))) ≡ Some (Within 1 3)
unfolding decks_open jobs_open
cut_by_space = refl

left_by_space : listed (left_by 1 [] (deck (copy (codes "A" ∷ codes "B" ∷ codes "C" ∷ codes "D" ∷ []) (codes "(80,3)")))) ≡ line (codes "OUT.A") true 80 3 3 (1, 1, 0) ∷ []
unfolding decks_open jobs_open
left_by_space = refl

-- three cards fit, and the job ends behind its last step
fits_exactly : end_by 1 [] (deck (copy (codes "A" ∷ codes "B" ∷ codes "C" ∷ []) (codes "(80,3)"))) ≡ Some (Before 2)
unfolding decks_open jobs_open
fits_exactly = refl

-- the payroll job, which passes the new masters from one step to the next
masters : Library
masters = left_by 1 [] (deck old_masters)

paid : records_of (left_by 2 masters (deck payroll)) (codes "SYSOUT.J0000002.LIST.SYSPRINT")
    ≡ Some (map (fitted 133) (
    codes "1PAYROLL PAGE 000001" ∷
    codes " 0001ADAMS     00100" ∷
    codes " 0002BROWN     00150" ∷
    codes " 0003CLARK     00130" ∷
    codes " 0004DAVIS     00200" ∷
    codes "0TOTAL 580" ∷ []))
unfolding decks_open jobs_open masters
paid = refl

abbrev after_payroll : List Listed
after_payroll =
    line (codes "PAY.MASTER.NEW") true 80 4 100 (2, 1, 0)
    ∷ line (codes "PAY.MASTER.OLD") true 80 3 10 (1, 1, 0)
    ∷ line (codes "SYSOUT.J0000002.LIST.SYSPRINT") false 133 6 500 (2, 2, 0)
    ∷ line (codes "SYSOUT.J0000002.UPD.REJECTS") false 133 1 500 (2, 1, 0)
    ∷ []

payroll_listed : listed (left_by 2 masters (deck payroll)) ≡ after_payroll
unfolding decks_open jobs_open masters
payroll_listed = refl

-- the second step of the payroll job is bypassed where 4 is at most a return code: nothing receives the new masters
abbrev four : CondOp → List Cond
four op = record { code = 4; op = op; step = None } ∷ []

bypassed : listed (left_by 2 masters (with_tests (four Le) (deck payroll)))
    ≡ line (codes "PAY.MASTER.OLD") true 80 3 10 (1, 1, 0)
    ∷ line (codes "SYSOUT.J0000002.UPD.REJECTS") false 133 1 500 (2, 1, 0)
    ∷ []
unfolding decks_open jobs_open masters
bypassed = refl

not_bypassed : listed (left_by 2 masters (with_tests (four Lt) (deck payroll))) ≡ after_payroll
unfolding decks_open jobs_open masters
not_bypassed = refl

-- a name that is there can't be made again
one_set : Library
one_set = left_by 1 [] (deck (allocating (codes "DSN=X.A,DISP=(NEW,CATLG),SPACE=(80,1)")))

exists_already : end_by 2 one_set (deck (allocating (codes "DSN=X.A,DISP=(NEW,CATLG),SPACE=(80,1)"))) ≡ Some (Before 1)
unfolding decks_open jobs_open one_set
exists_already = refl

-- a data set that is deleted
deleted : listed (left_by 2 one_set (deck (allocating (codes "DSN=X.A,DISP=(OLD,DELETE)")))) ≡ []
unfolding decks_open jobs_open one_set
deleted = refl

-- MERGE in the order of the keys, and up to a record that is out of order
merged : records_of (left_by 1 [] (deck (merge (codes "A1" ∷ codes "C1" ∷ []) (codes "A2" ∷ codes "B2" ∷ [])))) (codes "OUT.M")
    ≡ Some (map (fitted 80) (codes "A1" ∷ codes "A2" ∷ codes "B2" ∷ codes "C1" ∷ []))
unfolding decks_open jobs_open
merged = refl

out_of_order : end_by 1 [] (deck (merge (codes "A1" ∷ codes "C1" ∷ []) (codes "B2" ∷ codes "A2" ∷ []))) ≡ Some (Within 1 2)
unfolding decks_open jobs_open
out_of_order = refl

-- PRINT up to a field with no number: the heading and one record, kept uncataloged at an abnormal end
printed : listed (left_by 1 [] (deck printing)) ≡ line (codes "LIST.A") false 133 2 10 (1, 1, 0) ∷ []
unfolding decks_open jobs_open
printed = refl

-- UPDATE rewrites the third master, which gives the data set the stamp of the rewrite
updated : records_of (left_by 2 (left_by 1 [] (deck three_masters)) (deck update)) (codes "M.A")
    ≡ Some (map (fitted 80) (codes "0001" ∷ codes "0002" ∷ codes "0003NEW" ∷ []))
unfolding decks_open jobs_open
updated = refl

updated_listed : listed (left_by 2 (left_by 1 [] (deck three_masters)) (deck update))
    ≡ line (codes "CHK.K") true 256 0 4 (2, 1, 0)
    ∷ line (codes "M.A") true 80 3 10 (2, 1, 1)
    ∷ line (codes "SYSOUT.J0000002.S1.REJECTS") false 133 0 500 (2, 1, 0)
    ∷ []
unfolding decks_open jobs_open
updated_listed = refl

-- of the passed data sets that no step receives, those go that the job made
kept_one : Library
kept_one = left_by 1 [] (deck (allocating (codes "DSN=X.D,DISP=(NEW,CATLG),SPACE=(80,1)")))

passed_on : listed (left_by 2 kept_one (deck passing))
    ≡ line (codes "X.B") false 80 0 1 (2, 1, 0)
    ∷ line (codes "X.D") true 80 0 1 (1, 1, 0)
    ∷ []
unfolding decks_open jobs_open kept_one
passed_on = refl

-- sixty records are copied, or as many as were written when the job was given up
input : Library
input = left_by 1 [] (deck sixty)

sixty_copied : listed (left_by 2 input (deck checkpointed))
    ≡ line (codes "CHK.K") true 256 0 20 (2, 1, 0)
    ∷ line (codes "IN.A") true 80 60 100 (1, 1, 0)
    ∷ line (codes "OUT.K") true 80 60 100 (2, 1, 0)
    ∷ []
unfolding decks_open jobs_open input
sixty_copied = refl

given_up : listed (left_at (Within 1 3) 2 input (deck checkpointed))
    ≡ line (codes "CHK.K") true 256 0 20 (2, 1, 0)
    ∷ line (codes "IN.A") true 80 60 100 (1, 1, 0)
    ∷ line (codes "OUT.K") true 80 3 100 (2, 1, 0)
    ∷ []
unfolding decks_open jobs_open input
given_up = refl

-- how the programs end: SB37 where there is no more space, S0C7 at a field that isn't a number, U0101 at a record out of order, and 4
-- where a record is rejected
no_more_space : finish_at 1 1 [] (deck (copy (codes "A" ∷ codes "B" ∷ codes "C" ∷ codes "D" ∷ []) (codes "(80,3)"))) ≡ Some (Abend (System 2871))
unfolding decks_open jobs_open
no_more_space = refl

data_exception : finish_at 1 1 [] (deck printing) ≡ Some (Abend (System 199))
unfolding decks_open jobs_open
data_exception = refl

sequence_error : finish_at 1 1 [] (deck (merge (codes "A1" ∷ codes "C1" ∷ []) (codes "B2" ∷ codes "A2" ∷ []))) ≡ Some (Abend (User 101))
unfolding decks_open jobs_open
sequence_error = refl

rejected : finish_at 1 2 masters (deck payroll) ≡ Some (Returned 4)
unfolding decks_open jobs_open masters
rejected = refl

listed_well : finish_at 2 2 masters (deck payroll) ≡ Some (Returned 0)
unfolding decks_open jobs_open masters
listed_well = refl

-- a card behind sixty, which gives the data set the stamp of the step
extended_by_one : listed (left_by 3 input (deck extending)) ≡ line (codes "IN.A") true 80 61 100 (3, 1, 0) ∷ []
unfolding decks_open jobs_open input
extended_by_one = refl

-- two parts of four records each
abbrev two_volumes : List (List ℕ)
two_volumes = codes "VOL001" ∷ codes "VOL002" ∷ []

in_two_parts : listed (left_by 1 [] (on_volumes two_volumes (deck (copy (cards_from 1 6) (codes "(80,4)"))))) ≡ line (codes "OUT.A") true 80 6 8 (1, 1, 0) ∷ []
unfolding decks_open jobs_open
in_two_parts = refl

both_parts_full : end_by 1 [] (on_volumes two_volumes (deck (copy (cards_from 1 9) (codes "(80,4)")))) ≡ Some (Within 1 8)
unfolding decks_open jobs_open
both_parts_full = refl
