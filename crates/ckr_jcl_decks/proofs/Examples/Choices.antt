-- A small deck for each choice of a reading.
use Rattle.ckr_jcl_decks.proofs.Definitions.{decks_open}
use Rattle.std.specs.Prelude.{◌≡◌, [], ◌∷◌, codes, refl, None, Some}
use Rattle.ckr_jcl_decks.proofs.Examples.Rows.{refused}

-- a comment card behind a comma: the continuation is missing, so the card that calls for it
comment_between : refused (codes "//J JOB" ∷ codes "//S EXEC PGM=IEFBR14" ∷ codes "//A DD DSN=X.A," ∷ codes "//* HELLO" ∷ codes "// DISP=OLD" ∷ []) ≡ Some (6, 3)
unfolding decks_open
comment_between = refl

-- another statement behind a comma: missing
statement_behind_comma : refused (codes "//J JOB" ∷ codes "//S EXEC PGM=IEFBR14" ∷ codes "//A DD DSN=X.A," ∷ codes "//B DD DUMMY" ∷ []) ≡ Some (6, 3)
unfolding decks_open
statement_behind_comma = refl

-- the null card behind a comma is no continuation card: missing, and J04 at card 4 comes later
null_behind_comma : refused (codes "//J JOB" ∷ codes "//S EXEC PGM=IEFBR14" ∷ codes "//A DD DSN=X.A," ∷ codes "//" ∷ []) ≡ Some (6, 3)
unfolding decks_open
null_behind_comma = refl

-- an operand that a wrong continuation card cuts isn't judged (no J10 at card 3, no J07)
wrong_card_unread : refused (codes "//J JOB" ∷ codes "//S EXEC PGM=IEFBR14" ∷ codes "//A DD DISP=(OLD," ∷ codes "//              FOO)" ∷ []) ≡ Some (6, 4)
unfolding decks_open
wrong_card_unread = refl

-- an operand that is complete before a wrong continuation card is judged
operand_before_wrong_card : refused (codes "//J JOB" ∷ codes "//S EXEC PGM=IEFBR14" ∷ codes "//A DD DISP=FOO," ∷ codes "//              DSN=X.A" ∷ []) ≡ Some (10, 3)
unfolding decks_open
operand_before_wrong_card = refl

-- an operand that doesn't close isn't judged by J08 to J11
open_operand_unjudged : refused (codes "//J JOB" ∷ codes "//S EXEC PGM=IEFBR14" ∷ codes "//A DD DISP=(FOO," ∷ codes "// KEEP" ∷ []) ≡ Some (7, 4)
unfolding decks_open
open_operand_unjudged = refl

-- an operand with text behind a closing parenthesis isn't judged by J08 to J11
closed_operand_unjudged : refused (codes "//J JOB" ∷ codes "//S EXEC PGM=IEFBR14" ∷ codes "//A DD DISP=(OLD)X," ∷ codes "// DSN=X.A" ∷ []) ≡ Some (7, 4)
unfolding decks_open
closed_operand_unjudged = refl

-- an empty operand is J07 alone, at the last card of the field
empty_operand_unjudged : refused (codes "//J JOB" ∷ codes "//S EXEC PGM=IEFBR14" ∷ codes "//A DD DSN=X.A,," ∷ codes "// DISP=OLD" ∷ []) ≡ Some (7, 4)
unfolding decks_open
empty_operand_unjudged = refl

-- an empty accounting field is an empty operand
empty_accounting : refused (codes "//J JOB ,SMITH" ∷ codes "//S EXEC PGM=IEFBR14" ∷ []) ≡ Some (7, 1)
unfolding decks_open
empty_accounting = refl

-- a comment card is a statement card
comment_bytes : refused (codes "//J JOB" ∷ (47 ∷ 47 ∷ 42 ∷ 32 ∷ 99 ∷ 97 ∷ 102 ∷ 233 ∷ []) ∷ codes "//S EXEC PGM=IEFBR14" ∷ []) ≡ Some (2, 2)
unfolding decks_open
comment_bytes = refl

-- so is a delimiter
delimiter_bytes : refused (codes "//J JOB" ∷ codes "//S EXEC PGM=IEFBR14" ∷ (47 ∷ 42 ∷ 233 ∷ []) ∷ []) ≡ Some (2, 3)
unfolding decks_open
delimiter_bytes = refl

-- a tab is a blank, and no byte of a statement
tab_is_blank : refused (codes "//J JOB" ∷ (47 ∷ 47 ∷ 83 ∷ 9 ∷ 69 ∷ 88 ∷ 69 ∷ 67 ∷ 32 ∷ 80 ∷ 71 ∷ 77 ∷ 61 ∷ 73 ∷ 69 ∷ 70 ∷ 66 ∷ 82 ∷ 49 ∷ 52 ∷ []) ∷ []) ≡ Some (2, 2)
unfolding decks_open
tab_is_blank = refl

-- of two SYSCHK the second is J05
second_syschk : refused (codes "//J JOB RESTART=(S,A)" ∷ codes "//SYSCHK DD DSN=C.K,DISP=OLD" ∷ codes "//SYSCHK DD DSN=C.K,DISP=OLD" ∷ codes "//S EXEC PGM=IEFBR14" ∷ []) ≡ Some (5, 3)
unfolding decks_open
second_syschk = refl

-- JOBLIB before the first EXEC is J05, and J17 in a step
joblib_early : refused (codes "//J JOB" ∷ codes "//JOBLIB DD DSN=X.A,DISP=OLD" ∷ codes "//S EXEC PGM=IEFBR14" ∷ []) ≡ Some (5, 2)
unfolding decks_open
joblib_early = refl

-- a positional operand behind a keyword is J08
late_positional : refused (codes "//J JOB" ∷ codes "//S EXEC PGM=IEFBR14" ∷ codes "//A DD DSN=X.A,DISP=OLD,DUMMY" ∷ []) ≡ Some (8, 3)
unfolding decks_open
late_positional = refl

-- a DD has one positional operand
two_positionals : refused (codes "//J JOB" ∷ codes "//S EXEC PGM=IEFBR14" ∷ codes "//A DD DUMMY,*" ∷ []) ≡ Some (8, 3)
unfolding decks_open
two_positionals = refl

-- an empty value of a keyword without effect is J10
empty_without_effect : refused (codes "//J JOB" ∷ codes "//S EXEC PGM=IEFBR14" ∷ codes "//A DD DUMMY,UNIT=" ∷ []) ≡ Some (10, 3)
unfolding decks_open
empty_without_effect = refl

-- a keyword without effect may stand once
twice_without_effect : refused (codes "//J JOB" ∷ codes "//S EXEC PGM=IEFBR14" ∷ codes "//A DD DUMMY,UNIT=A,UNIT=A" ∷ []) ≡ Some (11, 3)
unfolding decks_open
twice_without_effect = refl

-- DISP= has an empty status, which is NEW
empty_disp : refused (codes "//J JOB" ∷ codes "//S EXEC PGM=IEFBR14" ∷ codes "//A DD DSN=&&T,DISP=,SPACE=(80,1)" ∷ []) ≡ None
unfolding decks_open
empty_disp = refl

-- a part of DCB that stands twice is J10
dcb_part_twice : refused (codes "//J JOB" ∷ codes "//S EXEC PGM=IEFBR14" ∷ codes "//A DD DUMMY,DCB=(LRECL=80,LRECL=80)" ∷ []) ≡ Some (10, 3)
unfolding decks_open
dcb_part_twice = refl

-- PARM= is no word
empty_parm : refused (codes "//J JOB" ∷ codes "//S EXEC PGM=COPY,PARM=" ∷ codes "//SYSUT1 DD *" ∷ codes "//SYSUT2 DD DSN=X.B,DISP=(NEW,CATLG),SPACE=(80,5)" ∷ []) ≡ Some (10, 2)
unfolding decks_open
empty_parm = refl

-- an empty text in apostrophes is a PARM
empty_quoted_parm : refused (codes "//J JOB" ∷ codes "//S EXEC PGM=COPY,PARM=''" ∷ codes "//SYSUT1 DD *" ∷ codes "//SYSUT2 DD DSN=X.B,DISP=(NEW,CATLG),SPACE=(80,5)" ∷ []) ≡ None
unfolding decks_open
empty_quoted_parm = refl

-- a word may have an equals sign: CHK is read, and CHKDD is missing
parm_with_equals : refused (codes "//J JOB" ∷ codes "//S EXEC PGM=COPY,PARM=CHK=5" ∷ codes "//SYSUT1 DD *" ∷ codes "//SYSUT2 DD DSN=X.B,DISP=(NEW,CATLG),SPACE=(80,5)" ∷ []) ≡ Some (16, 2)
unfolding decks_open
parm_with_equals = refl

-- a list is joined by commas
parm_list : refused (codes "//J JOB" ∷ codes "//S EXEC PGM=COPY,PARM=(CHK=5,'IDS=A')" ∷ codes "//SYSUT1 DD *" ∷ codes "//SYSUT2 DD DSN=X.B,DISP=(NEW,CATLG),SPACE=(80,5)" ∷ []) ≡ Some (16, 2)
unfolding decks_open
parm_list = refl

-- only a name that begins with an apostrophe is J17
dsn_inner_apostrophe : refused (codes "//J JOB" ∷ codes "//S EXEC PGM=IEFBR14" ∷ codes "//A DD DSN=X'A',DISP=OLD" ∷ []) ≡ Some (18, 3)
unfolding decks_open
dsn_inner_apostrophe = refl

-- any name with a parenthesis is J17
dsn_inner_parenthesis : refused (codes "//J JOB" ∷ codes "//S EXEC PGM=IEFBR14" ∷ codes "//A DD DSN=1(A),DISP=OLD" ∷ []) ≡ Some (17, 3)
unfolding decks_open
dsn_inner_parenthesis = refl

-- J20 speaks of DUMMY too: no DSN, and a status other than NEW
dummy_old : refused (codes "//J JOB" ∷ codes "//S EXEC PGM=IEFBR14" ∷ codes "//A DD DUMMY,DISP=OLD" ∷ []) ≡ Some (20, 3)
unfolding decks_open
dummy_old = refl

-- the DSN of a DUMMY counts for J19
dummy_name_twice : refused (codes "//J JOB" ∷ codes "//S EXEC PGM=IEFBR14" ∷ codes "//A DD DUMMY,DSN=X.A" ∷ codes "//B DD DSN=X.A,DISP=OLD" ∷ []) ≡ Some (19, 4)
unfolding decks_open
dummy_name_twice = refl

-- a temporary name counts for J19
temporary_twice : refused (codes "//J JOB" ∷ codes "//S EXEC PGM=IEFBR14" ∷ codes "//A DD DSN=&&T,SPACE=(80,1)" ∷ codes "//B DD DSN=&&T,DISP=OLD" ∷ []) ≡ Some (19, 4)
unfolding decks_open
temporary_twice = refl

-- space and length of SYSCHK aren't looked at (J21, J22), so its Dd has none and 256
syschk_numbers : refused (codes "//J JOB RESTART=(S,A)" ∷ codes "//SYSCHK DD DSN=C.K,DISP=OLD,SPACE=(CYL,999999999),DCB=LRECL=70000" ∷ codes "//S EXEC PGM=IEFBR14" ∷ []) ≡ None
unfolding decks_open
syschk_numbers = refl

-- SYSCHK with DUMMY has no DSN
syschk_dummy : refused (codes "//J JOB RESTART=(S,A)" ∷ codes "//SYSCHK DD DUMMY,DISP=OLD" ∷ codes "//S EXEC PGM=IEFBR14" ∷ []) ≡ Some (13, 2)
unfolding decks_open
syschk_dummy = refl

-- RESTART=* in a deck without a step names none; its card is less than J23's
restart_star_no_step : refused (codes "//J JOB RESTART=*" ∷ []) ≡ Some (12, 1)
unfolding decks_open
restart_star_no_step = refl

-- J22 looks at the written length, though in-stream records have 80
instream_long_length : refused (codes "//J JOB" ∷ codes "//S EXEC PGM=COPY" ∷ codes "//SYSUT1 DD *,DCB=LRECL=257" ∷ codes "//SYSUT2 DD DSN=X.B,DISP=(NEW,CATLG),SPACE=(80,5)" ∷ []) ≡ Some (22, 3)
unfolding decks_open
instream_long_length = refl

-- CHKDD of IEFBR14 counts for J24
br14_chkdd : refused (codes "//J JOB" ∷ codes "//S EXEC PGM=IEFBR14" ∷ codes "//CHKDD DD DSN=C.K,DISP=OLD" ∷ codes "//T EXEC PGM=COPY" ∷ codes "//SYSUT1 DD *" ∷ codes "//SYSUT2 DD DSN=C.K,DISP=OLD" ∷ []) ≡ Some (24, 6)
unfolding decks_open
br14_chkdd = refl

-- numbers of a deck may have leading zeros
zero_number : refused (codes "//J JOB" ∷ codes "//S EXEC PGM=IEFBR14" ∷ codes "//A DD DSN=X.A,DISP=OLD,DCB=LRECL=080" ∷ []) ≡ None
unfolding decks_open
zero_number = refl

-- columns 72 to 80 aren't read
sequence_numbers : refused (codes "//J JOB                                                                 00000010" ∷ codes "//S EXEC PGM=IEFBR14                                                    00000020" ∷ []) ≡ None
unfolding decks_open
sequence_numbers = refl

-- nor are they on the null card
rest_of_null_card : refused (codes "//J JOB" ∷ codes "//S EXEC PGM=IEFBR14" ∷ codes "//                                                                      00000030" ∷ []) ≡ Some (4, 3)
unfolding decks_open
rest_of_null_card = refl
