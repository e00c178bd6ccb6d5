-- Worked decks that are accepted.
use Rattle.ckr_jcl_decks.proofs.Definitions.{decks_open}
use Rattle.std.specs.Prelude.{◌≡◌, ℕ, List, [], ◌∷◌, map, codes, refl, None, Some, Option, Result, Ok, Err}
use Rattle.ckr_jcl.specs.declared.deck.Kind.TheVariants.{Copy, Master, Print}
use Rattle.ckr_jcl.specs.declared.deck.Role.TheVariants.{Reads, Writes}
use Rattle.ckr_jcl.specs.declared.deck.Origin.TheVariants.{InStream, Named, Sysout}
use Rattle.ckr_jcl.specs.declared.deck.Status.TheVariants.{New, Old, Shr}
use Rattle.ckr_jcl.specs.declared.deck.After.TheVariants.{Delete, Keep, Pass, Catlg}
use Rattle.ckr_jcl.specs.declared.deck.Job.{Job}
use Rattle.ckr_cards.specs.Card.{cards_of_lines, filled}
use Rattle.ckr_cards.specs.Statement.{statements_of, number_in}
use Rattle.ckr_jcl_faults.specs.declared.faults.Fault.{Fault}
use Rattle.ckr_jcl.specs.ParmGrammar.{no_parm}
use Rattle.ckr_jcl_decks.specs.Deck.{deck_of}

-- the number and the card of a refusal
abbrev pub refusal : Result Job Fault → Option (ℕ × ℕ)
refusal (Ok job) = None
refusal (Err fault) = Some (fault.number, fault.card)

abbrev pub refused : List (List ℕ) → Option (ℕ × ℕ)
refused lines = refusal (deck_of (cards_of_lines 1 lines))

abbrev pub copy : List (List ℕ)
copy =
    codes "//COPY1 JOB" ∷
    codes "//S1 EXEC PGM=COPY" ∷
    codes "//SYSUT1 DD *" ∷
    codes "ALPHA" ∷
    codes "BETA" ∷
    codes "/*" ∷
    codes "//SYSUT2 DD DSN=OUT.A,DISP=(NEW,CATLG),SPACE=(80,10)" ∷
    []

copy_statements : map number_in (statements_of (cards_of_lines 1 copy)) ≡ 1 ∷ 2 ∷ 3 ∷ 6 ∷ 7 ∷ []
unfolding decks_open
copy_statements = refl

abbrev copy_job : Job
copy_job = record {
  name = codes "COPY1";
  rd = None;
  cond = [];
  restart = None;
  syschk = None;
  steps =
      record {
        name = codes "S1";
        program = Copy;
        parm = no_parm;
        rd = None;
        cond = [];
        dds =
            record {
              name = codes "SYSUT1";
              role = Reads;
              origin = InStream (filled (codes "ALPHA") ∷ filled (codes "BETA") ∷ []);
              disp = record { status = New; normal = None; abnormal = None };
              volumes = record { items = [] };
              space = None;
              lrecl = 80;
            } ∷
            record {
              name = codes "SYSUT2";
              role = Writes;
              origin = Named (codes "OUT.A");
              disp = record { status = New; normal = Some Catlg; abnormal = None };
              volumes = record { items = [] };
              space = Some 10;
              lrecl = 80;
            } ∷ [];
      } ∷ [];
}

copy_deck : deck_of (cards_of_lines 1 copy) ≡ Ok copy_job
unfolding decks_open
copy_deck = refl

-- a payroll deck
abbrev pub payroll : List (List ℕ)
payroll =
    codes "//PAYROLL  JOB (4711,'DEPT 9'),'J. SMITH',MSGLEVEL=(1,1),CLASS=A" ∷
    codes "//* WEEKLY MASTER RUN" ∷
    codes "//UPD      EXEC PGM=MASTER,PARM='KEY=1:4',REGION=100K" ∷
    codes "//OLDMAST  DD DSN=PAY.MASTER.OLD,DISP=SHR" ∷
    codes "//TRANS    DD *" ∷
    codes "C0002BROWN     00150" ∷
    codes "A0004DAVIS     00200" ∷
    codes "D0009NOBODY" ∷
    codes "/*" ∷
    codes "//NEWMAST  DD DSN=PAY.MASTER.NEW,DISP=(NEW,PASS,DELETE),UNIT=2314," ∷
    codes "//             VOL=SER=VOL002,SPACE=(TRK,(1,1)),DCB=(RECFM=FB,LRECL=80," ∷
    codes "//             BLKSIZE=800)" ∷
    codes "//REJECTS  DD SYSOUT=A" ∷
    codes "//LIST     EXEC PGM=PRINT,PARM='TITLE=PAYROLL,SUM=15:5'" ∷
    codes "//SYSUT1   DD DSN=PAY.MASTER.NEW,DISP=(OLD,CATLG)" ∷
    codes "//SYSPRINT DD SYSOUT=A" ∷
    []

abbrev payroll_job : Job
payroll_job = record {
  name = codes "PAYROLL";
  rd = None;
  cond = [];
  restart = None;
  syschk = None;
  steps =
      record {
        name = codes "UPD";
        program = Master;
        parm = record no_parm { key = (1, 4) };
        rd = None;
        cond = [];
        dds =
            record {
              name = codes "OLDMAST";
              role = Reads;
              origin = Named (codes "PAY.MASTER.OLD");
              disp = record { status = Shr; normal = None; abnormal = None };
              volumes = record { items = [] };
              space = None;
              lrecl = 80;
            } ∷
            record {
              name = codes "TRANS";
              role = Reads;
              origin = InStream (map filled (codes "C0002BROWN     00150" ∷ codes "A0004DAVIS     00200" ∷ codes "D0009NOBODY" ∷ []));
              disp = record { status = New; normal = None; abnormal = None };
              volumes = record { items = [] };
              space = None;
              lrecl = 80;
            } ∷
            record {
              name = codes "NEWMAST";
              role = Writes;
              origin = Named (codes "PAY.MASTER.NEW");
              disp = record { status = New; normal = Some Pass; abnormal = Some Delete };
              volumes = record { items = codes "VOL002" ∷ [] };
              space = Some 100;
              lrecl = 80;
            } ∷
            record {
              name = codes "REJECTS";
              role = Writes;
              origin = Sysout;
              disp = record { status = New; normal = Some Keep; abnormal = Some Keep };
              volumes = record { items = [] };
              space = Some 500;
              lrecl = 133;
            } ∷ [];
      } ∷
      record {
        name = codes "LIST";
        program = Print;
        parm = record no_parm { title = record { items = codes "PAYROLL" }; sum = (15, 5) };
        rd = None;
        cond = [];
        dds =
            record {
              name = codes "SYSUT1";
              role = Reads;
              origin = Named (codes "PAY.MASTER.NEW");
              disp = record { status = Old; normal = Some Catlg; abnormal = None };
              volumes = record { items = [] };
              space = None;
              lrecl = 80;
            } ∷
            record {
              name = codes "SYSPRINT";
              role = Writes;
              origin = Sysout;
              disp = record { status = New; normal = Some Keep; abnormal = Some Keep };
              volumes = record { items = [] };
              space = Some 500;
              lrecl = 133;
            } ∷ [];
      } ∷ [];
}

payroll_deck : deck_of (cards_of_lines 1 payroll) ≡ Ok payroll_job
unfolding decks_open
payroll_deck = refl

-- an operand that begins in column 17, and in column 16
abbrev pub in_column_17 : List (List ℕ)
in_column_17 =
    codes "//J JOB" ∷
    codes "//S EXEC PGM=IEFBR14" ∷
    codes "//A DD DSN=X.A," ∷
    codes "//              DISP=OLD" ∷
    []

abbrev pub in_column_16 : List (List ℕ)
in_column_16 =
    codes "//J JOB" ∷
    codes "//S EXEC PGM=IEFBR14" ∷
    codes "//A DD DSN=X.A," ∷
    codes "//             DISP=OLD" ∷
    []

continued_column_17 : refusal (deck_of (cards_of_lines 1 in_column_17)) ≡ Some (6, 4)
unfolding decks_open
continued_column_17 = refl

continued_column_16 : refusal (deck_of (cards_of_lines 1 in_column_16)) ≡ None
unfolding decks_open
continued_column_16 = refl
