-- Small decks: what each form of an operand means, and a deck at the border of each refusal.
use Rattle.ckr_jcl_decks.proofs.Definitions.{decks_open}
use Rattle.std.specs.Prelude.{◌≡◌, [], ◌∷◌, codes, refl, None, Some}
use Rattle.ckr_jcl_decks.proofs.Examples.Rows.{refused}

-- DYNAM stands alone, and is left out by name
dynam_alone : refused (codes "//J JOB" ∷ codes "//S EXEC PGM=IEFBR14" ∷ codes "//A DD DYNAM" ∷ []) ≡ Some (9, 3)
unfolding decks_open
dynam_alone = refl

dynam_with_dcb : refused (codes "//J JOB" ∷ codes "//S EXEC PGM=IEFBR14" ∷ codes "//A DD DYNAM,DCB=(FOO" ∷ []) ≡ Some (7, 3)
unfolding decks_open
dynam_with_dcb = refl

-- a parenthesis anywhere in a name
closing_in_name : refused (codes "//J JOB" ∷ codes "//S EXEC PGM=IEFBR14" ∷ codes "//A DD DSN=A')'" ∷ []) ≡ Some (17, 3)
unfolding decks_open
closing_in_name = refl

-- a member
member : refused (codes "//J JOB" ∷ codes "//S EXEC PGM=IEFBR14" ∷ codes "//A DD DSN=A.B(C),DISP=OLD" ∷ []) ≡ Some (17, 3)
unfolding decks_open
member = refl

generation : refused (codes "//J JOB" ∷ codes "//S EXEC PGM=IEFBR14" ∷ codes "//A DD DSN=A.B(0),DISP=OLD" ∷ []) ≡ Some (17, 3)
unfolding decks_open
generation = refl

backward_name : refused (codes "//J JOB" ∷ codes "//S EXEC PGM=IEFBR14" ∷ codes "//A DD DSN=*.S.A,DISP=OLD" ∷ []) ≡ Some (17, 3)
unfolding decks_open
backward_name = refl

quoted_name : refused (codes "//J JOB" ∷ codes "//S EXEC PGM=IEFBR14" ∷ codes "//A DD DSN='A.B',DISP=OLD" ∷ []) ≡ Some (17, 3)
unfolding decks_open
quoted_name = refl

ill_formed_name : refused (codes "//J JOB" ∷ codes "//S EXEC PGM=IEFBR14" ∷ codes "//A DD DSN=A..B,DISP=OLD" ∷ []) ≡ Some (18, 3)
unfolding decks_open
ill_formed_name = refl

well_formed_name : refused (codes "//J JOB" ∷ codes "//S EXEC PGM=IEFBR14" ∷ codes "//A DD DSN=A.B,DISP=OLD" ∷ []) ≡ None
unfolding decks_open
well_formed_name = refl

empty_name : refused (codes "//J JOB" ∷ codes "//S EXEC PGM=IEFBR14" ∷ codes "//A DD DSN=,DISP=OLD" ∷ []) ≡ Some (18, 3)
unfolding decks_open
empty_name = refl

kept_name : refused (codes "//J JOB" ∷ codes "//S EXEC PGM=IEFBR14" ∷ codes "//A DD DSN=SYSOUT.A,DISP=OLD" ∷ []) ≡ Some (18, 3)
unfolding decks_open
kept_name = refl

almost_kept_name : refused (codes "//J JOB" ∷ codes "//S EXEC PGM=IEFBR14" ∷ codes "//A DD DSN=SYSOUTS.A,DISP=OLD" ∷ []) ≡ None
unfolding decks_open
almost_kept_name = refl

-- SYSCHK with DUMMY or with records in the deck has no DSN
syschk_dummy : refused (codes "//J JOB RESTART=(S,A)" ∷ codes "//SYSCHK DD DUMMY,DSN=C.K,DISP=OLD" ∷ codes "//S EXEC PGM=IEFBR14" ∷ []) ≡ Some (13, 2)
unfolding decks_open
syschk_dummy = refl

syschk_star : refused (codes "//J JOB RESTART=(S,A)" ∷ codes "//SYSCHK DD *" ∷ codes "//S EXEC PGM=IEFBR14" ∷ []) ≡ Some (13, 2)
unfolding decks_open
syschk_star = refl

syschk_right : refused (codes "//J JOB RESTART=(S,A)" ∷ codes "//SYSCHK DD DSN=C.K,DISP=OLD" ∷ codes "//S EXEC PGM=IEFBR14" ∷ []) ≡ None
unfolding decks_open
syschk_right = refl

syschk_new : refused (codes "//J JOB RESTART=(S,A)" ∷ codes "//SYSCHK DD DSN=C.K" ∷ codes "//S EXEC PGM=IEFBR14" ∷ []) ≡ Some (13, 2)
unfolding decks_open
syschk_new = refl

syschk_temporary : refused (codes "//J JOB RESTART=(S,A)" ∷ codes "//SYSCHK DD DSN=&&K,DISP=OLD" ∷ codes "//S EXEC PGM=IEFBR14" ∷ []) ≡ Some (13, 2)
unfolding decks_open
syschk_temporary = refl

syschk_without_checkpoint : refused (codes "//J JOB RESTART=S" ∷ codes "//SYSCHK DD DSN=C.K,DISP=OLD" ∷ codes "//S EXEC PGM=IEFBR14" ∷ []) ≡ Some (13, 2)
unfolding decks_open
syschk_without_checkpoint = refl

checkpoint_without_syschk : refused (codes "//J JOB RESTART=(S,A)" ∷ codes "//S EXEC PGM=IEFBR14" ∷ []) ≡ Some (13, 1)
unfolding decks_open
checkpoint_without_syschk = refl

-- a list of VOL has two or three parts
volume_in_list : refused (codes "//J JOB" ∷ codes "//S EXEC PGM=IEFBR14" ∷ codes "//A DD DSN=X.A,DISP=OLD,VOL=(SER=A)" ∷ []) ≡ Some (10, 3)
unfolding decks_open
volume_in_list = refl

volume_behind_private : refused (codes "//J JOB" ∷ codes "//S EXEC PGM=IEFBR14" ∷ codes "//A DD DSN=X.A,DISP=OLD,VOL=(PRIVATE,SER=A)" ∷ []) ≡ None
unfolding decks_open
volume_behind_private = refl

volume_behind_retain : refused (codes "//J JOB" ∷ codes "//S EXEC PGM=IEFBR14" ∷ codes "//A DD DSN=X.A,DISP=OLD,VOL=(,RETAIN,SER=(A-1))" ∷ []) ≡ None
unfolding decks_open
volume_behind_retain = refl

-- several serials are left out
several_serials : refused (codes "//J JOB" ∷ codes "//S EXEC PGM=IEFBR14" ∷ codes "//A DD DSN=X.A,DISP=OLD,VOL=SER=(A,B)" ∷ []) ≡ Some (17, 3)
unfolding decks_open
several_serials = refl

same_serials : refused (codes "//J JOB" ∷ codes "//S EXEC PGM=IEFBR14" ∷ codes "//A DD DSN=X.A,DISP=OLD,VOL=SER=(A,A)" ∷ []) ≡ Some (17, 3)
unfolding decks_open
same_serials = refl

wrong_serial : refused (codes "//J JOB" ∷ codes "//S EXEC PGM=IEFBR14" ∷ codes "//A DD DSN=X.A,DISP=OLD,VOL=SER=(A,B_)" ∷ []) ≡ Some (10, 3)
unfolding decks_open
wrong_serial = refl

volume_by_reference : refused (codes "//J JOB" ∷ codes "//S EXEC PGM=IEFBR14" ∷ codes "//A DD DSN=X.A,DISP=OLD,VOL=REF=X.B" ∷ []) ≡ Some (17, 3)
unfolding decks_open
volume_by_reference = refl

private_volume : refused (codes "//J JOB" ∷ codes "//S EXEC PGM=IEFBR14" ∷ codes "//A DD DSN=X.A,DISP=OLD,VOL=PRIVATE" ∷ []) ≡ None
unfolding decks_open
private_volume = refl

-- a DCB that begins with a backward reference is one, whatever follows
backward_dcb : refused (codes "//J JOB" ∷ codes "//S EXEC PGM=IEFBR14" ∷ codes "//A DD DSN=X.A,DISP=OLD,DCB=*.S.A" ∷ []) ≡ Some (17, 3)
unfolding decks_open
backward_dcb = refl

backward_dcb_list : refused (codes "//J JOB" ∷ codes "//S EXEC PGM=IEFBR14" ∷ codes "//A DD DSN=X.A,DISP=OLD,DCB=(*.S.A,FOO)" ∷ []) ≡ Some (17, 3)
unfolding decks_open
backward_dcb_list = refl

model_dcb : refused (codes "//J JOB" ∷ codes "//S EXEC PGM=IEFBR14" ∷ codes "//A DD DSN=X.A,DISP=OLD,DCB=(X.M,LRECL=80)" ∷ []) ≡ Some (17, 3)
unfolding decks_open
model_dcb = refl

model_dcb_wrong : refused (codes "//J JOB" ∷ codes "//S EXEC PGM=IEFBR14" ∷ codes "//A DD DSN=X.A,DISP=OLD,DCB=(X.M,FOO=80)" ∷ []) ≡ Some (10, 3)
unfolding decks_open
model_dcb_wrong = refl

model_dcb_later : refused (codes "//J JOB" ∷ codes "//S EXEC PGM=IEFBR14" ∷ codes "//A DD DSN=X.A,DISP=OLD,DCB=(LRECL=80,X.M)" ∷ []) ≡ Some (10, 3)
unfolding decks_open
model_dcb_later = refl

dcb_parts : refused (codes "//J JOB" ∷ codes "//S EXEC PGM=IEFBR14" ∷ codes "//A DD DSN=X.A,DISP=OLD,DCB=(RECFM=FBSAM,LRECL=256," ∷ codes "// BLKSIZE=1,DSORG=PS,BUFNO=2,DEN=3)" ∷ []) ≡ None
unfolding decks_open
dcb_parts = refl

dcb_variable : refused (codes "//J JOB" ∷ codes "//S EXEC PGM=IEFBR14" ∷ codes "//A DD DSN=X.A,DISP=OLD,DCB=RECFM=VB" ∷ []) ≡ Some (22, 3)
unfolding decks_open
dcb_variable = refl

dcb_long : refused (codes "//J JOB" ∷ codes "//S EXEC PGM=IEFBR14" ∷ codes "//A DD DSN=X.A,DISP=OLD,DCB=LRECL=257" ∷ []) ≡ Some (22, 3)
unfolding decks_open
dcb_long = refl

dcb_twice : refused (codes "//J JOB" ∷ codes "//S EXEC PGM=IEFBR14" ∷ codes "//A DD DSN=X.A,DISP=OLD,DCB=(LRECL=80,LRECL=80)" ∷ []) ≡ Some (10, 3)
unfolding decks_open
dcb_twice = refl

-- an empty disposition is NEW
empty_disp : refused (codes "//J JOB" ∷ codes "//S EXEC PGM=IEFBR14" ∷ codes "//A DD DSN=X.A,DISP=,SPACE=(80,1)" ∷ []) ≡ None
unfolding decks_open
empty_disp = refl

empty_disp_list : refused (codes "//J JOB" ∷ codes "//S EXEC PGM=IEFBR14" ∷ codes "//A DD DSN=X.A,DISP=(),SPACE=(80,1)" ∷ []) ≡ None
unfolding decks_open
empty_disp_list = refl

disp_parts : refused (codes "//J JOB" ∷ codes "//S EXEC PGM=IEFBR14" ∷ codes "//A DD DSN=X.A,DISP=(,,KEEP),SPACE=(80,1)" ∷ []) ≡ None
unfolding decks_open
disp_parts = refl

-- PASS is no abnormal disposition
disp_abnormal_pass : refused (codes "//J JOB" ∷ codes "//S EXEC PGM=IEFBR14" ∷ codes "//A DD DSN=X.A,DISP=(OLD,,PASS)" ∷ []) ≡ Some (10, 3)
unfolding decks_open
disp_abnormal_pass = refl

disp_four : refused (codes "//J JOB" ∷ codes "//S EXEC PGM=IEFBR14" ∷ codes "//A DD DSN=X.A,DISP=(OLD,,,)" ∷ []) ≡ Some (10, 3)
unfolding decks_open
disp_four = refl

-- DUMMY without a DSN may be NEW alone
dummy_shared : refused (codes "//J JOB" ∷ codes "//S EXEC PGM=IEFBR14" ∷ codes "//A DD DUMMY,DISP=SHR" ∷ []) ≡ Some (20, 3)
unfolding decks_open
dummy_shared = refl

dummy_new : refused (codes "//J JOB" ∷ codes "//S EXEC PGM=IEFBR14" ∷ codes "//A DD DUMMY" ∷ []) ≡ None
unfolding decks_open
dummy_new = refl

-- DUMMY on a role
dummy_input : refused (codes "//J JOB" ∷ codes "//S EXEC PGM=COPY" ∷ codes "//SYSUT1 DD DUMMY" ∷ codes "//SYSUT2 DD SYSOUT=A" ∷ []) ≡ Some (17, 3)
unfolding decks_open
dummy_input = refl

space_units : refused (codes "//J JOB" ∷ codes "//S EXEC PGM=IEFBR14" ∷ codes "//A DD DSN=X.A,SPACE=(CYL,(500,9),RLSE,CONTIG)" ∷ []) ≡ None
unfolding decks_open
space_units = refl

space_release : refused (codes "//J JOB" ∷ codes "//S EXEC PGM=IEFBR14" ∷ codes "//A DD DSN=X.A,SPACE=(TRK,(1),RLSE)" ∷ []) ≡ None
unfolding decks_open
space_release = refl

space_contiguous : refused (codes "//J JOB" ∷ codes "//S EXEC PGM=IEFBR14" ∷ codes "//A DD DSN=X.A,SPACE=(80,1,,CONTIG)" ∷ []) ≡ None
unfolding decks_open
space_contiguous = refl

space_beyond : refused (codes "//J JOB" ∷ codes "//S EXEC PGM=IEFBR14" ∷ codes "//A DD DSN=X.A,SPACE=(CYL,501)" ∷ []) ≡ Some (21, 3)
unfolding decks_open
space_beyond = refl

space_zero : refused (codes "//J JOB" ∷ codes "//S EXEC PGM=IEFBR14" ∷ codes "//A DD DSN=X.A,SPACE=(80,0)" ∷ []) ≡ Some (21, 3)
unfolding decks_open
space_zero = refl

-- numbers of a deck may have leading zeros
space_leading_zero : refused (codes "//J JOB" ∷ codes "//S EXEC PGM=IEFBR14" ∷ codes "//A DD DSN=X.A,SPACE=(080,001)" ∷ []) ≡ None
unfolding decks_open
space_leading_zero = refl

space_trailing_comma : refused (codes "//J JOB" ∷ codes "//S EXEC PGM=IEFBR14" ∷ codes "//A DD DSN=X.A,SPACE=(80,1,)" ∷ []) ≡ Some (10, 3)
unfolding decks_open
space_trailing_comma = refl

-- the bounds of a space hold for each DD
space_old_beyond : refused (codes "//J JOB" ∷ codes "//S EXEC PGM=IEFBR14" ∷ codes "//A DD DSN=X.A,DISP=OLD,SPACE=(80,1000001)" ∷ []) ≡ Some (21, 3)
unfolding decks_open
space_old_beyond = refl

sysout_list : refused (codes "//J JOB" ∷ codes "//S EXEC PGM=IEFBR14" ∷ codes "//A DD SYSOUT=(A,,FORM)" ∷ []) ≡ None
unfolding decks_open
sysout_list = refl

sysout_word : refused (codes "//J JOB" ∷ codes "//S EXEC PGM=IEFBR14" ∷ codes "//A DD SYSOUT=AB" ∷ []) ≡ Some (10, 3)
unfolding decks_open
sysout_word = refl

sysout_star : refused (codes "//J JOB" ∷ codes "//S EXEC PGM=IEFBR14" ∷ codes "//A DD SYSOUT=*" ∷ []) ≡ None
unfolding decks_open
sysout_star = refl

class_empty : refused (codes "//J JOB CLASS=" ∷ codes "//S EXEC PGM=IEFBR14" ∷ []) ≡ Some (10, 1)
unfolding decks_open
class_empty = refl

parm_empty : refused (codes "//J JOB" ∷ codes "//S EXEC PGM=IEFBR14,PARM=" ∷ []) ≡ Some (10, 2)
unfolding decks_open
parm_empty = refl

parm_list_empty : refused (codes "//J JOB" ∷ codes "//S EXEC PGM=IEFBR14,PARM=()" ∷ []) ≡ Some (10, 2)
unfolding decks_open
parm_list_empty = refl

parm_quoted_empty : refused (codes "//J JOB" ∷ codes "//S EXEC PGM=IEFBR14,PARM=''" ∷ []) ≡ None
unfolding decks_open
parm_quoted_empty = refl

-- a list of PARM is joined by commas
parm_list : refused (codes "//J JOB" ∷ codes "//S EXEC PGM=PRINT,PARM=('TITLE=IT''S',SUM=1:5)" ∷ codes "//SYSUT1 DD *" ∷ codes "//SYSPRINT DD SYSOUT=A" ∷ []) ≡ None
unfolding decks_open
parm_list = refl

parm_text : refused (codes "//J JOB" ∷ codes "//S EXEC PGM=IEFBR14,PARM='AAAAAAAAAAAAAAAAAAAAAAAAAAAAAAAAAAAAAAA'," ∷ codes "// REGION=1K" ∷ []) ≡ None
unfolding decks_open
parm_text = refl

-- RESTART names no step of a deck without one
restart_star_without_step : refused (codes "//J JOB RESTART=*" ∷ []) ≡ Some (12, 1)
unfolding decks_open
restart_star_without_step = refl

restart_quoted : refused (codes "//J JOB RESTART=(S,'A')" ∷ codes "//SYSCHK DD DSN=C.K,DISP=SHR" ∷ codes "//S EXEC PGM=IEFBR14" ∷ []) ≡ None
unfolding decks_open
restart_quoted = refl

restart_list : refused (codes "//J JOB RESTART=(S)" ∷ codes "//S EXEC PGM=IEFBR14" ∷ []) ≡ None
unfolding decks_open
restart_list = refl

restart_unknown : refused (codes "//J JOB RESTART=T" ∷ codes "//S EXEC PGM=IEFBR14" ∷ []) ≡ Some (12, 1)
unfolding decks_open
restart_unknown = refl

restart_empty : refused (codes "//J JOB RESTART=" ∷ codes "//S EXEC PGM=IEFBR14" ∷ []) ≡ Some (10, 1)
unfolding decks_open
restart_empty = refl

no_step : refused (codes "//J JOB" ∷ []) ≡ Some (23, 1)
unfolding decks_open
no_step = refl

no_program : refused (codes "//J JOB" ∷ codes "//S EXEC" ∷ []) ≡ Some (14, 2)
unfolding decks_open
no_program = refl

unknown_program : refused (codes "//J JOB" ∷ codes "//S EXEC PGM=FOO" ∷ []) ≡ Some (14, 2)
unfolding decks_open
unknown_program = refl

wrong_parm : refused (codes "//J JOB" ∷ codes "//S EXEC PGM=COPY,PARM=FOO" ∷ codes "//SYSUT1 DD *" ∷ codes "//SYSUT2 DD SYSOUT=A" ∷ []) ≡ Some (15, 2)
unfolding decks_open
wrong_parm = refl

missing_output : refused (codes "//J JOB" ∷ codes "//S EXEC PGM=COPY" ∷ codes "//SYSUT1 DD *" ∷ []) ≡ Some (16, 2)
unfolding decks_open
missing_output = refl

missing_checkpoint_dd : refused (codes "//J JOB" ∷ codes "//S EXEC PGM=COPY,PARM='CHK=1'" ∷ codes "//SYSUT1 DD *" ∷ codes "//SYSUT2 DD SYSOUT=A" ∷ []) ≡ Some (16, 2)
unfolding decks_open
missing_checkpoint_dd = refl

sysprint_twice : refused (codes "//J JOB" ∷ codes "//S EXEC PGM=IEFBR14" ∷ codes "//A DD DUMMY" ∷ codes "//A DD DUMMY" ∷ []) ≡ Some (19, 4)
unfolding decks_open
sysprint_twice = refl

data_set_twice : refused (codes "//J JOB" ∷ codes "//S EXEC PGM=IEFBR14" ∷ codes "//A DD DSN=X.A,DISP=OLD" ∷ codes "//B DD DSN=X.A,DISP=OLD" ∷ []) ≡ Some (19, 4)
unfolding decks_open
data_set_twice = refl

temporary_twice : refused (codes "//J JOB" ∷ codes "//S EXEC PGM=IEFBR14" ∷ codes "//A DD DSN=&&X,DISP=OLD" ∷ codes "//B DD DSN=&&X,DISP=OLD" ∷ []) ≡ Some (19, 4)
unfolding decks_open
temporary_twice = refl

step_twice : refused (codes "//J JOB" ∷ codes "//S EXEC PGM=IEFBR14" ∷ codes "//S EXEC PGM=IEFBR14" ∷ []) ≡ Some (19, 3)
unfolding decks_open
step_twice = refl

steps_share_names : refused (codes "//J JOB" ∷ codes "//S EXEC PGM=IEFBR14" ∷ codes "//A DD DSN=X.A,DISP=OLD" ∷ codes "//T EXEC PGM=IEFBR14" ∷ codes "//A DD DSN=X.A,DISP=OLD" ∷ []) ≡ None
unfolding decks_open
steps_share_names = refl

-- a name on CHKDD, on IEFBR14 too
checkpoint_name_read : refused (codes "//J JOB" ∷ codes "//S EXEC PGM=IEFBR14" ∷ codes "//CHKDD DD DSN=X.A,DISP=OLD" ∷ codes "//T EXEC PGM=COPY" ∷ codes "//SYSUT1 DD DSN=X.A,DISP=OLD" ∷ codes "//SYSUT2 DD SYSOUT=A" ∷ []) ≡ Some (24, 5)
unfolding decks_open
checkpoint_name_read = refl

checkpoint_name_unused : refused (codes "//J JOB" ∷ codes "//S EXEC PGM=IEFBR14" ∷ codes "//CHKDD DD DSN=X.A,DISP=OLD" ∷ codes "//T EXEC PGM=IEFBR14" ∷ codes "//SYSUT1 DD DSN=X.A,DISP=OLD" ∷ []) ≡ None
unfolding decks_open
checkpoint_name_unused = refl

-- a DD whose continuation is missing begins no records
star_continued_wrongly : refused (codes "//J JOB" ∷ codes "//S EXEC PGM=IEFBR14" ∷ codes "//A DD *," ∷ codes "A" ∷ []) ≡ Some (6, 3)
unfolding decks_open
star_continued_wrongly = refl

joblib_in_step : refused (codes "//J JOB" ∷ codes "//S EXEC PGM=IEFBR14" ∷ codes "//JOBLIB DD DSN=X.A,DISP=OLD" ∷ []) ≡ Some (17, 3)
unfolding decks_open
joblib_in_step = refl

sysout_with_name : refused (codes "//J JOB" ∷ codes "//S EXEC PGM=IEFBR14" ∷ codes "//A DD DSN=X.A,SYSOUT=A" ∷ []) ≡ Some (11, 3)
unfolding decks_open
sysout_with_name = refl

star_with_disp : refused (codes "//J JOB" ∷ codes "//S EXEC PGM=IEFBR14" ∷ codes "//A DD *,DISP=OLD" ∷ []) ≡ Some (11, 3)
unfolding decks_open
star_with_disp = refl

star_with_dcb : refused (codes "//J JOB" ∷ codes "//S EXEC PGM=IEFBR14" ∷ codes "//A DD *,DCB=LRECL=80" ∷ []) ≡ None
unfolding decks_open
star_with_dcb = refl

-- a written record length is looked at with records in the deck too
instream_long : refused (codes "//J JOB" ∷ codes "//S EXEC PGM=IEFBR14" ∷ codes "//A DD *,DCB=LRECL=257" ∷ []) ≡ Some (22, 3)
unfolding decks_open
instream_long = refl

second_job : refused (codes "//J JOB" ∷ codes "//S EXEC PGM=IEFBR14" ∷ codes "//K JOB" ∷ []) ≡ Some (4, 3)
unfolding decks_open
second_job = refl

early_dd : refused (codes "//J JOB" ∷ codes "//A DD DUMMY" ∷ codes "//S EXEC PGM=IEFBR14" ∷ []) ≡ Some (5, 2)
unfolding decks_open
early_dd = refl

ill_name : refused (codes "//J JOB" ∷ codes "//1S EXEC PGM=IEFBR14" ∷ []) ≡ Some (3, 2)
unfolding decks_open
ill_name = refl

cond_left_out : refused (codes "//J JOB" ∷ codes "//S EXEC PGM=IEFBR14,COND=(1,LT)" ∷ []) ≡ Some (9, 2)
unfolding decks_open
cond_left_out = refl

unknown_keyword : refused (codes "//J JOB" ∷ codes "//S EXEC PGM=IEFBR14,FOO=1" ∷ []) ≡ Some (8, 2)
unfolding decks_open
unknown_keyword = refl

open_parenthesis : refused (codes "//J JOB" ∷ codes "//S EXEC PGM=IEFBR14" ∷ codes "//A DD UNIT=(A" ∷ []) ≡ Some (7, 3)
unfolding decks_open
open_parenthesis = refl

temporary_kept : refused (codes "//J JOB" ∷ codes "//S EXEC PGM=IEFBR14" ∷ codes "//A DD DSN=&&X,DISP=(NEW,KEEP),SPACE=(80,1)" ∷ []) ≡ Some (20, 3)
unfolding decks_open
temporary_kept = refl

temporary_passed : refused (codes "//J JOB" ∷ codes "//S EXEC PGM=IEFBR14" ∷ codes "//A DD DSN=&&X,DISP=(NEW,PASS),SPACE=(80,1)" ∷ []) ≡ None
unfolding decks_open
temporary_passed = refl
