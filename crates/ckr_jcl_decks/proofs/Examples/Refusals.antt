-- A deck for each refusal, with its number and its card.
use Rattle.ckr_jcl_decks.proofs.Definitions.{decks_open}
use Rattle.std.specs.Prelude.{◌≡◌, [], ◌∷◌, codes, refl, None, Some}
use Rattle.ckr_jcl_decks.proofs.Examples.Rows.{refused}

-- a record longer than 80 bytes
j01_record : refused (codes "//J JOB" ∷ codes "//S EXEC PGM=COPY" ∷ codes "//SYSUT1 DD *" ∷ codes "A                                                                               X" ∷ codes "/*" ∷ codes "//SYSUT2 DD DSN=X.B,DISP=(NEW,CATLG),SPACE=(80,5)" ∷ []) ≡ Some (1, 4)
unfolding decks_open
j01_record = refl

j01_before_j04 : refused (codes "FOO                                                                             X" ∷ []) ≡ Some (1, 1)
unfolding decks_open
j01_before_j04 = refl

-- a byte outside 20 to 7E hex in a comment field
j02_byte : refused (codes "//J JOB" ∷ codes "//S EXEC PGM=IEFBR14" ∷ (47 ∷ 47 ∷ 65 ∷ 32 ∷ 68 ∷ 68 ∷ 32 ∷ 68 ∷ 85 ∷ 77 ∷ 77 ∷ 89 ∷ 32 ∷ 32 ∷ 99 ∷ 97 ∷ 102 ∷ 233 ∷ []) ∷ []) ≡ Some (2, 3)
unfolding decks_open
j02_byte = refl

-- column 72 isn't read
j02_column_72 : refused (codes "//J JOB" ∷ (47 ∷ 47 ∷ 83 ∷ 32 ∷ 69 ∷ 88 ∷ 69 ∷ 67 ∷ 32 ∷ 80 ∷ 71 ∷ 77 ∷ 61 ∷ 73 ∷ 69 ∷ 70 ∷ 66 ∷ 82 ∷ 49 ∷ 52 ∷ 32 ∷ 32 ∷ 32 ∷ 32 ∷ 32 ∷ 32 ∷ 32 ∷ 32 ∷ 32 ∷ 32 ∷ 32 ∷ 32 ∷ 32 ∷ 32 ∷ 32 ∷ 32 ∷ 32 ∷ 32 ∷ 32 ∷ 32 ∷ 32 ∷ 32 ∷ 32 ∷ 32 ∷ 32 ∷ 32 ∷ 32 ∷ 32 ∷ 32 ∷ 32 ∷ 32 ∷ 32 ∷ 32 ∷ 32 ∷ 32 ∷ 32 ∷ 32 ∷ 32 ∷ 32 ∷ 32 ∷ 32 ∷ 32 ∷ 32 ∷ 32 ∷ 32 ∷ 32 ∷ 32 ∷ 32 ∷ 32 ∷ 32 ∷ 32 ∷ 233 ∷ []) ∷ []) ≡ None
unfolding decks_open
j02_column_72 = refl

j03_exec_without_name : refused (codes "//J JOB" ∷ codes "// EXEC PGM=IEFBR14" ∷ []) ≡ Some (3, 2)
unfolding decks_open
j03_exec_without_name = refl

j03_ill_formed : refused (codes "//J JOB" ∷ codes "//1S EXEC PGM=IEFBR14" ∷ []) ≡ Some (3, 2)
unfolding decks_open
j03_ill_formed = refl

j04_no_slashes : refused (codes "//J JOB" ∷ codes "//S EXEC PGM=IEFBR14" ∷ codes "HELLO" ∷ []) ≡ Some (4, 3)
unfolding decks_open
j04_no_slashes = refl

j04_proc : refused (codes "//J JOB" ∷ codes "//P PROC" ∷ []) ≡ Some (4, 2)
unfolding decks_open
j04_proc = refl

j04_comment_first : refused (codes "//* HELLO" ∷ codes "//J JOB" ∷ codes "//S EXEC PGM=IEFBR14" ∷ []) ≡ Some (4, 1)
unfolding decks_open
j04_comment_first = refl

j04_null : refused (codes "//J JOB" ∷ codes "//S EXEC PGM=IEFBR14" ∷ codes "//" ∷ []) ≡ Some (4, 3)
unfolding decks_open
j04_null = refl

j04_second_job : refused (codes "//J JOB" ∷ codes "//S EXEC PGM=IEFBR14" ∷ codes "//J JOB" ∷ []) ≡ Some (4, 3)
unfolding decks_open
j04_second_job = refl

j05_dd_before_exec : refused (codes "//J JOB" ∷ codes "//A DD DUMMY" ∷ codes "//S EXEC PGM=IEFBR14" ∷ []) ≡ Some (5, 2)
unfolding decks_open
j05_dd_before_exec = refl

j05_second_syschk : refused (codes "//J JOB RESTART=(S,A)" ∷ codes "//SYSCHK DD DSN=C.K,DISP=OLD" ∷ codes "//SYSCHK DD DSN=C.K,DISP=OLD" ∷ codes "//S EXEC PGM=IEFBR14" ∷ []) ≡ Some (5, 3)
unfolding decks_open
j05_second_syschk = refl

-- no card behind
j06_missing_at_end : refused (codes "//J JOB" ∷ codes "//S EXEC PGM=IEFBR14" ∷ codes "//A DD DSN=X.A," ∷ []) ≡ Some (6, 3)
unfolding decks_open
j06_missing_at_end = refl

-- a comment between: the continuation is missing
j06_missing_before_comment : refused (codes "//J JOB" ∷ codes "//S EXEC PGM=IEFBR14" ∷ codes "//A DD DSN=X.A," ∷ codes "//* HELLO" ∷ codes "// DISP=OLD" ∷ []) ≡ Some (6, 3)
unfolding decks_open
j06_missing_before_comment = refl

j06_missing_before_dd : refused (codes "//J JOB" ∷ codes "//S EXEC PGM=IEFBR14" ∷ codes "//A DD DSN=X.A," ∷ codes "//B DD DUMMY" ∷ []) ≡ Some (6, 3)
unfolding decks_open
j06_missing_before_dd = refl

-- the open parenthesis isn't J07
j06_wrong_column : refused (codes "//J JOB" ∷ codes "//S EXEC PGM=IEFBR14" ∷ codes "//A DD DISP=(OLD," ∷ codes "//              KEEP),DSN=X.A" ∷ []) ≡ Some (6, 4)
unfolding decks_open
j06_wrong_column = refl

j07_unclosed : refused (codes "//J JOB" ∷ codes "//S EXEC PGM=IEFBR14" ∷ codes "//A DD DSN=X.A,DISP=(OLD" ∷ []) ≡ Some (7, 3)
unfolding decks_open
j07_unclosed = refl

j07_second_card : refused (codes "//J JOB" ∷ codes "//S EXEC PGM=IEFBR14" ∷ codes "//A DD DSN=X.A," ∷ codes "// DISP=(OLD" ∷ []) ≡ Some (7, 4)
unfolding decks_open
j07_second_card = refl

j07_apostrophe : refused (codes "//J JOB" ∷ codes "//S EXEC PGM=IEFBR14,PARM='A" ∷ []) ≡ Some (7, 2)
unfolding decks_open
j07_apostrophe = refl

j07_empty : refused (codes "//J JOB" ∷ codes "//S EXEC PGM=IEFBR14" ∷ codes "//A DD DSN=X.A,,DISP=OLD" ∷ []) ≡ Some (7, 3)
unfolding decks_open
j07_empty = refl

j07_text_behind : refused (codes "//J JOB" ∷ codes "//S EXEC PGM=IEFBR14" ∷ codes "//A DD DSN=X.A,DISP=(OLD)X" ∷ []) ≡ Some (7, 3)
unfolding decks_open
j07_text_behind = refl

j08_keyword : refused (codes "//J JOB" ∷ codes "//S EXEC PGM=IEFBR14" ∷ codes "//A DD DSN=X.A," ∷ codes "//  DISP=OLD,FOO=1" ∷ []) ≡ Some (8, 4)
unfolding decks_open
j08_keyword = refl

j08_positional : refused (codes "//J JOB" ∷ codes "//S EXEC PROC1" ∷ []) ≡ Some (8, 2)
unfolding decks_open
j08_positional = refl

j08_third_positional : refused (codes "//J JOB A,B,C" ∷ codes "//S EXEC PGM=IEFBR14" ∷ []) ≡ Some (8, 1)
unfolding decks_open
j08_third_positional = refl

j09_cond : refused (codes "//J JOB COND=(4,LT)" ∷ codes "//S EXEC PGM=IEFBR14" ∷ []) ≡ Some (9, 1)
unfolding decks_open
j09_cond = refl

j09_ddname : refused (codes "//J JOB" ∷ codes "//S EXEC PGM=IEFBR14" ∷ codes "//A DD DDNAME=B" ∷ []) ≡ Some (9, 3)
unfolding decks_open
j09_ddname = refl

j10_rd : refused (codes "//J JOB RD=X" ∷ codes "//S EXEC PGM=IEFBR14" ∷ []) ≡ Some (10, 1)
unfolding decks_open
j10_rd = refl

j10_disp : refused (codes "//J JOB" ∷ codes "//S EXEC PGM=IEFBR14" ∷ codes "//A DD DSN=X.A,DISP=(OLD,KEEP,PASS)" ∷ []) ≡ Some (10, 3)
unfolding decks_open
j10_disp = refl

j10_space : refused (codes "//J JOB" ∷ codes "//S EXEC PGM=IEFBR14" ∷ codes "//A DD DSN=X.A,SPACE=(TRK,A)" ∷ []) ≡ Some (10, 3)
unfolding decks_open
j10_space = refl

j11_twice : refused (codes "//J JOB" ∷ codes "//S EXEC PGM=IEFBR14" ∷ codes "//A DD DSN=X.A," ∷ codes "// DISP=OLD," ∷ codes "// DSNAME=X.B" ∷ []) ≡ Some (11, 5)
unfolding decks_open
j11_twice = refl

j11_star_dsn : refused (codes "//J JOB" ∷ codes "//S EXEC PGM=IEFBR14" ∷ codes "//A DD *,DSN=X.A" ∷ []) ≡ Some (11, 3)
unfolding decks_open
j11_star_dsn = refl

j11_sysout_disp : refused (codes "//J JOB" ∷ codes "//S EXEC PGM=IEFBR14" ∷ codes "//A DD DISP=OLD,SYSOUT=A" ∷ []) ≡ Some (11, 3)
unfolding decks_open
j11_sysout_disp = refl

j12_no_step : refused (codes "//J JOB RESTART=T" ∷ codes "//S EXEC PGM=IEFBR14" ∷ []) ≡ Some (12, 1)
unfolding decks_open
j12_no_step = refl

j13_no_syschk : refused (codes "//J JOB RESTART=(S,A)" ∷ codes "//S EXEC PGM=IEFBR14" ∷ []) ≡ Some (13, 1)
unfolding decks_open
j13_no_syschk = refl

j13_no_checkid : refused (codes "//J JOB RESTART=S" ∷ codes "//SYSCHK DD DSN=C.K,DISP=OLD" ∷ codes "//S EXEC PGM=IEFBR14" ∷ []) ≡ Some (13, 2)
unfolding decks_open
j13_no_checkid = refl

j13_new : refused (codes "//J JOB RESTART=(S,A)" ∷ codes "//SYSCHK DD DSN=C.K" ∷ codes "//S EXEC PGM=IEFBR14" ∷ []) ≡ Some (13, 2)
unfolding decks_open
j13_new = refl

j14_no_pgm : refused (codes "//J JOB" ∷ codes "//S EXEC" ∷ []) ≡ Some (14, 2)
unfolding decks_open
j14_no_pgm = refl

j14_other : refused (codes "//J JOB" ∷ codes "//S EXEC PGM=SORT" ∷ []) ≡ Some (14, 2)
unfolding decks_open
j14_other = refl

j15_parm : refused (codes "//J JOB" ∷ codes "//S EXEC PGM=COPY,PARM='CHK=0'" ∷ codes "//SYSUT1 DD *" ∷ codes "//SYSUT2 DD DSN=X.B,DISP=(NEW,CATLG),SPACE=(80,5)" ∷ []) ≡ Some (15, 2)
unfolding decks_open
j15_parm = refl

j16_missing : refused (codes "//J JOB" ∷ codes "//S EXEC PGM=COPY" ∷ codes "//SYSUT1 DD *" ∷ []) ≡ Some (16, 2)
unfolding decks_open
j16_missing = refl

j16_chkdd : refused (codes "//J JOB" ∷ codes "//S EXEC PGM=COPY,PARM='CHK=5'" ∷ codes "//SYSUT1 DD *" ∷ codes "//SYSUT2 DD DSN=X.B,DISP=(NEW,CATLG),SPACE=(80,5)" ∷ []) ≡ Some (16, 2)
unfolding decks_open
j16_chkdd = refl

j17_member : refused (codes "//J JOB" ∷ codes "//S EXEC PGM=IEFBR14" ∷ codes "//A DD DSN=X.A(M),DISP=OLD" ∷ []) ≡ Some (17, 3)
unfolding decks_open
j17_member = refl

j17_dcb : refused (codes "//J JOB" ∷ codes "//S EXEC PGM=IEFBR14" ∷ codes "//A DD DSN=X.A,DISP=OLD,DCB=X.B" ∷ []) ≡ Some (17, 3)
unfolding decks_open
j17_dcb = refl

j17_vol : refused (codes "//J JOB" ∷ codes "//S EXEC PGM=IEFBR14" ∷ codes "//A DD DSN=X.A,DISP=OLD,VOL=SER=(A,B)" ∷ []) ≡ Some (17, 3)
unfolding decks_open
j17_vol = refl

j17_joblib : refused (codes "//J JOB" ∷ codes "//S EXEC PGM=IEFBR14" ∷ codes "//JOBLIB DD DSN=X.A,DISP=OLD" ∷ []) ≡ Some (17, 3)
unfolding decks_open
j17_joblib = refl

j17_dummy : refused (codes "//J JOB" ∷ codes "//S EXEC PGM=COPY" ∷ codes "//SYSUT1 DD DUMMY" ∷ codes "//SYSUT2 DD DSN=X.B,DISP=(NEW,CATLG),SPACE=(80,5)" ∷ []) ≡ Some (17, 3)
unfolding decks_open
j17_dummy = refl

j18_name : refused (codes "//J JOB" ∷ codes "//S EXEC PGM=IEFBR14" ∷ codes "//A DD DSN=X..A,DISP=OLD" ∷ []) ≡ Some (18, 3)
unfolding decks_open
j18_name = refl

j18_sysout : refused (codes "//J JOB" ∷ codes "//S EXEC PGM=IEFBR14" ∷ codes "//A DD DSN=SYSOUT.A,DISP=OLD" ∷ []) ≡ Some (18, 3)
unfolding decks_open
j18_sysout = refl

j19_step : refused (codes "//J JOB" ∷ codes "//S EXEC PGM=IEFBR14" ∷ codes "//S EXEC PGM=IEFBR14" ∷ []) ≡ Some (19, 3)
unfolding decks_open
j19_step = refl

j19_dd : refused (codes "//J JOB" ∷ codes "//S EXEC PGM=IEFBR14" ∷ codes "//A DD DUMMY" ∷ codes "//A DD DUMMY" ∷ []) ≡ Some (19, 4)
unfolding decks_open
j19_dd = refl

j19_data_set : refused (codes "//J JOB" ∷ codes "//S EXEC PGM=IEFBR14" ∷ codes "//A DD DSN=X.A,DISP=OLD" ∷ codes "//B DD DSN=X.A,DISP=OLD" ∷ []) ≡ Some (19, 4)
unfolding decks_open
j19_data_set = refl

j20_reads_new : refused (codes "//J JOB" ∷ codes "//S EXEC PGM=COPY" ∷ codes "//SYSUT1 DD DSN=X.A,SPACE=(80,5)" ∷ codes "//SYSUT2 DD DSN=X.B,DISP=(NEW,CATLG),SPACE=(80,5)" ∷ []) ≡ Some (20, 3)
unfolding decks_open
j20_reads_new = refl

j20_temporary_kept : refused (codes "//J JOB" ∷ codes "//S EXEC PGM=IEFBR14" ∷ codes "//A DD DSN=&&T,DISP=(NEW,KEEP),SPACE=(80,5)" ∷ []) ≡ Some (20, 3)
unfolding decks_open
j20_temporary_kept = refl

j20_no_dsn : refused (codes "//J JOB" ∷ codes "//S EXEC PGM=IEFBR14" ∷ codes "//A DD DISP=OLD" ∷ []) ≡ Some (20, 3)
unfolding decks_open
j20_no_dsn = refl

j21_no_space : refused (codes "//J JOB" ∷ codes "//S EXEC PGM=IEFBR14" ∷ codes "//A DD DSN=X.A" ∷ []) ≡ Some (21, 3)
unfolding decks_open
j21_no_space = refl

j21_too_much : refused (codes "//J JOB" ∷ codes "//S EXEC PGM=IEFBR14" ∷ codes "//A DD DSN=X.A,SPACE=(CYL,501)" ∷ []) ≡ Some (21, 3)
unfolding decks_open
j21_too_much = refl

j22_format : refused (codes "//J JOB" ∷ codes "//S EXEC PGM=IEFBR14" ∷ codes "//A DD DSN=X.A,DISP=OLD,DCB=RECFM=VB" ∷ []) ≡ Some (22, 3)
unfolding decks_open
j22_format = refl

j22_length : refused (codes "//J JOB" ∷ codes "//S EXEC PGM=IEFBR14" ∷ codes "//A DD DSN=X.A,DISP=OLD,DCB=(LRECL=257,BLKSIZE=800)" ∷ []) ≡ Some (22, 3)
unfolding decks_open
j22_length = refl

j23_no_step : refused (codes "//J JOB" ∷ codes "//* HELLO" ∷ []) ≡ Some (23, 2)
unfolding decks_open
j23_no_step = refl

j23_dd_17 : refused (codes "//J JOB" ∷ codes "//S EXEC PGM=IEFBR14" ∷ codes "//A1 DD DUMMY" ∷ codes "//A2 DD DUMMY" ∷ codes "//A3 DD DUMMY" ∷ codes "//A4 DD DUMMY" ∷ codes "//A5 DD DUMMY" ∷ codes "//A6 DD DUMMY" ∷ codes "//A7 DD DUMMY" ∷ codes "//A8 DD DUMMY" ∷ codes "//A9 DD DUMMY" ∷ codes "//A10 DD DUMMY" ∷ codes "//A11 DD DUMMY" ∷ codes "//A12 DD DUMMY" ∷ codes "//A13 DD DUMMY" ∷ codes "//A14 DD DUMMY" ∷ codes "//A15 DD DUMMY" ∷ codes "//A16 DD DUMMY" ∷ codes "//A17 DD DUMMY" ∷ []) ≡ Some (23, 19)
unfolding decks_open
j23_dd_17 = refl

j24_checkpoints : refused (codes "//J JOB" ∷ codes "//S EXEC PGM=COPY,PARM='CHK=5'" ∷ codes "//SYSUT1 DD *" ∷ codes "//SYSUT2 DD DSN=C.K,DISP=OLD" ∷ codes "//CHKDD DD DSN=C.L,DISP=OLD" ∷ codes "//T EXEC PGM=COPY" ∷ codes "//SYSUT1 DD *" ∷ codes "//SYSUT2 DD DSN=C.L,DISP=OLD" ∷ []) ≡ Some (24, 8)
unfolding decks_open
j24_checkpoints = refl

-- of the first faulty statement the least number
first_statement : refused (codes "//J JOB" ∷ codes "//1S EXEC FOO=1" ∷ codes "HELLO" ∷ []) ≡ Some (3, 2)
unfolding decks_open
first_statement = refl

-- the least card of that statement
least_card : refused (codes "//J JOB" ∷ codes "//S EXEC PGM=IEFBR14" ∷ codes "//A DD FOO=1," ∷ codes "// DISP=(OLD" ∷ []) ≡ Some (8, 3)
unfolding decks_open
least_card = refl

-- a statement's fault comes before the deck's
statements_first : refused (codes "//J JOB" ∷ codes "//S EXEC" ∷ codes "//A DD RD=R" ∷ []) ≡ Some (8, 3)
unfolding decks_open
statements_first = refl

-- the 65th step
j23_step_65 : refused (codes "//J JOB" ∷ codes "//S1 EXEC PGM=IEFBR14" ∷ codes "//S2 EXEC PGM=IEFBR14" ∷ codes "//S3 EXEC PGM=IEFBR14" ∷ codes "//S4 EXEC PGM=IEFBR14" ∷ codes "//S5 EXEC PGM=IEFBR14" ∷ codes "//S6 EXEC PGM=IEFBR14" ∷ codes "//S7 EXEC PGM=IEFBR14" ∷ codes "//S8 EXEC PGM=IEFBR14" ∷ codes "//S9 EXEC PGM=IEFBR14" ∷ codes "//S10 EXEC PGM=IEFBR14" ∷ codes "//S11 EXEC PGM=IEFBR14" ∷ codes "//S12 EXEC PGM=IEFBR14" ∷ codes "//S13 EXEC PGM=IEFBR14" ∷ codes "//S14 EXEC PGM=IEFBR14" ∷ codes "//S15 EXEC PGM=IEFBR14" ∷ codes "//S16 EXEC PGM=IEFBR14" ∷ codes "//S17 EXEC PGM=IEFBR14" ∷ codes "//S18 EXEC PGM=IEFBR14" ∷ codes "//S19 EXEC PGM=IEFBR14" ∷ codes "//S20 EXEC PGM=IEFBR14" ∷ codes "//S21 EXEC PGM=IEFBR14" ∷ codes "//S22 EXEC PGM=IEFBR14" ∷ codes "//S23 EXEC PGM=IEFBR14" ∷ codes "//S24 EXEC PGM=IEFBR14" ∷ codes "//S25 EXEC PGM=IEFBR14" ∷ codes "//S26 EXEC PGM=IEFBR14" ∷ codes "//S27 EXEC PGM=IEFBR14" ∷ codes "//S28 EXEC PGM=IEFBR14" ∷ codes "//S29 EXEC PGM=IEFBR14" ∷ codes "//S30 EXEC PGM=IEFBR14" ∷ codes "//S31 EXEC PGM=IEFBR14" ∷ codes "//S32 EXEC PGM=IEFBR14" ∷ codes "//S33 EXEC PGM=IEFBR14" ∷ codes "//S34 EXEC PGM=IEFBR14" ∷ codes "//S35 EXEC PGM=IEFBR14" ∷ codes "//S36 EXEC PGM=IEFBR14" ∷ codes "//S37 EXEC PGM=IEFBR14" ∷ codes "//S38 EXEC PGM=IEFBR14" ∷ codes "//S39 EXEC PGM=IEFBR14" ∷ codes "//S40 EXEC PGM=IEFBR14" ∷ codes "//S41 EXEC PGM=IEFBR14" ∷ codes "//S42 EXEC PGM=IEFBR14" ∷ codes "//S43 EXEC PGM=IEFBR14" ∷ codes "//S44 EXEC PGM=IEFBR14" ∷ codes "//S45 EXEC PGM=IEFBR14" ∷ codes "//S46 EXEC PGM=IEFBR14" ∷ codes "//S47 EXEC PGM=IEFBR14" ∷ codes "//S48 EXEC PGM=IEFBR14" ∷ codes "//S49 EXEC PGM=IEFBR14" ∷ codes "//S50 EXEC PGM=IEFBR14" ∷ codes "//S51 EXEC PGM=IEFBR14" ∷ codes "//S52 EXEC PGM=IEFBR14" ∷ codes "//S53 EXEC PGM=IEFBR14" ∷ codes "//S54 EXEC PGM=IEFBR14" ∷ codes "//S55 EXEC PGM=IEFBR14" ∷ codes "//S56 EXEC PGM=IEFBR14" ∷ codes "//S57 EXEC PGM=IEFBR14" ∷ codes "//S58 EXEC PGM=IEFBR14" ∷ codes "//S59 EXEC PGM=IEFBR14" ∷ codes "//S60 EXEC PGM=IEFBR14" ∷ codes "//S61 EXEC PGM=IEFBR14" ∷ codes "//S62 EXEC PGM=IEFBR14" ∷ codes "//S63 EXEC PGM=IEFBR14" ∷ codes "//S64 EXEC PGM=IEFBR14" ∷ codes "//S65 EXEC PGM=IEFBR14" ∷ []) ≡ Some (23, 66)
unfolding decks_open
j23_step_65 = refl
