-- Decks, as their lines, and what they leave.
use Rattle.std.specs.Prelude.{ℕ, suc, zero, List, [], ◌∷◌, ◌++◌, codes, map, length, Option, Some, None, Result, Ok, Err, Bool}
use Rattle.std.specs.Option.{option_map}
use Rattle.ckr_cards.specs.Card.{cards_of_lines}
use Rattle.ckr_base.specs.Digits.{last_digits}
use Rattle.ckr_base.specs.declared.programs.Finish.{Finish}
use Rattle.ckr_jcl.specs.declared.deck.Cond.{Cond}
use Rattle.ckr_jcl.specs.declared.deck.Dd.{Dd}
use Rattle.ckr_jcl.specs.declared.deck.Job.{Job}
use Rattle.ckr_jcl.specs.declared.deck.Step.{Step}
use Rattle.ckr_jcl_decks.specs.Parts.Fault.{Fault}
use Rattle.ckr_jcl_decks.specs.Deck.{deck_of}
use Rattle.ckr_library.specs.NameMaps.{Name, entry_at}
use Rattle.ckr_meaning.specs.declared.place.Place.{Place}
use Rattle.ckr_meaning.specs.LibrarySet.{LibrarySet, Library}
use Rattle.ckr_meaning.specs.EffectiveJob.{plain_job}
use Rattle.ckr_meaning.specs.StepRun.{work_at}
use Rattle.ckr_meaning.specs.JobRun.{start_at, job_run, end_of_job}

-- the job of a deck; a deck that is refused has none
abbrev pub job_in : Result Job Fault → Option Job
job_in (Ok job) = Some job
job_in (Err fault) = None

abbrev pub deck : List (List ℕ) → Option Job
deck lines = job_in (deck_of (cards_of_lines 1 lines))

-- what the job of this number leaves of a library
abbrev pub left_by : ℕ → Library → Option Job → Library
left_by run library None = []
left_by run library (Some job) = job_run (plain_job run job) library None

-- what it leaves if it is cut at a place
abbrev pub left_at : Place → ℕ → Library → Option Job → Library
left_at place run library None = []
left_at place run library (Some job) = job_run (plain_job run job) library (Some place)

-- where it ends
abbrev pub end_by : ℕ → Library → Option Job → Option Place
end_by run library None = None
end_by run library (Some job) = Some (end_of_job (plain_job run job) library)

-- how the program of a step ends
abbrev pub finish_at : ℕ → ℕ → Library → Option Job → Option Finish
finish_at number run library None = None
finish_at number run library (Some job) = option_map (λ start. (work_at start).finish) (start_at (plain_job run job) library number)

-- a job with these volumes at the second DD of its first step
abbrev pub placed_dds : List Name → List Dd → List Dd
placed_dds serials (first ∷ second ∷ dds) = first ∷ record second { volumes = record { items = serials } } ∷ dds
placed_dds serials dds = dds

abbrev pub placed_steps : List Name → List Step → List Step
placed_steps serials [] = []
placed_steps serials (first ∷ steps) = record first { dds = placed_dds serials first.dds } ∷ steps

abbrev pub on_volumes : List Name → Option Job → Option Job
on_volumes serials None = None
on_volumes serials (Some job) = Some (record job { steps = placed_steps serials job.steps })

abbrev pub tested : List Cond → List Step → List Step
tested tests (first ∷ second ∷ steps) = first ∷ record second { cond = tests } ∷ steps
tested tests steps = steps

-- a job with these tests at its second step
abbrev pub with_tests : List Cond → Option Job → Option Job
with_tests tests None = None
with_tests tests (Some job) = Some (record job { steps = tested tests job.steps })

-- a line of the listing of a library: the name, the catalog mark, the record length, the length, the space and the stamp
pub record Listed : Type 0 where
  pub name : Name
  pub cataloged : Bool
  pub lrecl : ℕ
  pub length : ℕ
  pub space : ℕ
  pub stamp : ℕ × ℕ × ℕ

abbrev pub listed_one : Name × LibrarySet → Listed
listed_one entry = record {
  name = entry.0;
  cataloged = entry.1.cataloged;
  lrecl = entry.1.lrecl;
  length = length entry.1.records;
  space = entry.1.space;
  stamp = (entry.1.stamp.run, entry.1.stamp.step, entry.1.stamp.rewrites);
}

abbrev pub listed : Library → List Listed
listed library = map listed_one library

abbrev pub line : Name → Bool → ℕ → ℕ → ℕ → ℕ × ℕ × ℕ → Listed
line name cataloged lrecl length space stamp =
    record { name = name; cataloged = cataloged; lrecl = lrecl; length = length; space = space; stamp = stamp }

-- the records of a name
abbrev pub records_of : Library → Name → Option (List (List ℕ))
records_of library name = option_map (λ set. set.records) (entry_at library name)

-- COPY of cards into OUT.A, with this SPACE
abbrev pub copy : List (List ℕ) → List ℕ → List (List ℕ)
copy cards space =
    codes "//COPY1 JOB" ∷
    codes "//S1 EXEC PGM=COPY" ∷
    codes "//SYSUT1 DD *" ∷
    cards ++
    codes "/*" ∷
    (codes "//SYSUT2 DD DSN=OUT.A,DISP=(NEW,CATLG),SPACE=" ++ space) ∷
    []

-- the old masters
abbrev pub old_masters : List (List ℕ)
old_masters =
    codes "//OLD JOB" ∷
    codes "//S1 EXEC PGM=COPY" ∷
    codes "//SYSUT1 DD *" ∷
    codes "0001ADAMS     00100" ∷
    codes "0002BROWN     00120" ∷
    codes "0003CLARK     00130" ∷
    codes "/*" ∷
    codes "//SYSUT2 DD DSN=PAY.MASTER.OLD,DISP=(NEW,CATLG),VOL=SER=VOL001," ∷
    codes "//             SPACE=(80,10)" ∷
    []

-- three masters of one key each, and a transaction for the third
abbrev pub three_masters : List (List ℕ)
three_masters =
    codes "//M JOB" ∷
    codes "//S1 EXEC PGM=COPY" ∷
    codes "//SYSUT1 DD *" ∷
    codes "0001" ∷
    codes "0002" ∷
    codes "0003" ∷
    codes "/*" ∷
    codes "//SYSUT2 DD DSN=M.A,DISP=(NEW,CATLG),SPACE=(80,10)" ∷
    []

abbrev pub update : List (List ℕ)
update =
    codes "//U JOB" ∷
    codes "//S1 EXEC PGM=UPDATE,PARM='KEY=1:4,CHK=2'" ∷
    codes "//MASTER DD DSN=M.A,DISP=OLD" ∷
    codes "//TRANS DD *" ∷
    codes "C0003NEW" ∷
    codes "/*" ∷
    codes "//REJECTS DD SYSOUT=A" ∷
    codes "//CHKDD DD DSN=CHK.K,DISP=(NEW,CATLG,CATLG),SPACE=(256,4)" ∷
    []

-- MERGE of two inputs
abbrev pub merge : List (List ℕ) → List (List ℕ) → List (List ℕ)
merge first second =
    codes "//MG JOB" ∷
    codes "//S1 EXEC PGM=MERGE,PARM='KEY=1:1'" ∷
    codes "//IN1 DD *" ∷
    first ++
    codes "//IN2 DD *" ∷
    second ++
    codes "//OUT DD DSN=OUT.M,DISP=(NEW,CATLG),SPACE=(80,10)" ∷
    []

-- PRINT of two records, the second with no number
abbrev pub printing : List (List ℕ)
printing =
    codes "//P JOB" ∷
    codes "//S1 EXEC PGM=PRINT,RD=R,PARM='SUM=1:5'" ∷
    codes "//SYSUT1 DD *" ∷
    codes "00001" ∷
    codes "0000X" ∷
    codes "/*" ∷
    codes "//SYSPRINT DD DSN=LIST.A,DISP=(NEW,DELETE,KEEP),SPACE=(80,10)" ∷
    []

-- IEFBR14 with one DD
abbrev pub allocating : List ℕ → List (List ℕ)
allocating operands =
    codes "//J JOB" ∷
    codes "//S1 EXEC PGM=IEFBR14" ∷
    (codes "//A DD " ++ operands) ∷
    []

-- three data sets are passed on, and a later step receives one of them
abbrev pub passing : List (List ℕ)
passing =
    codes "//T JOB" ∷
    codes "//S1 EXEC PGM=IEFBR14" ∷
    codes "//A DD DSN=&&TMP,DISP=(NEW,PASS),SPACE=(80,1)" ∷
    codes "//B DD DSN=X.B,DISP=(NEW,PASS),SPACE=(80,1)" ∷
    codes "//C DD DSN=X.C,DISP=(NEW,PASS),SPACE=(80,1)" ∷
    codes "//D DD DSN=X.D,DISP=(OLD,PASS)" ∷
    codes "//S2 EXEC PGM=IEFBR14" ∷
    codes "//B DD DSN=X.B,DISP=OLD" ∷
    []

-- COPY of four cards under this RD, with these counts for checkpoints and their cancel
abbrev pub counting : List ℕ → List ℕ → List (List ℕ)
counting rd counts =
    codes "//N JOB" ∷
    (codes "//S1 EXEC PGM=COPY,RD=" ++ (rd ++ (codes ",PARM='" ++ (counts ++ codes "'")))) ∷
    codes "//SYSUT1 DD *" ∷
    codes "A" ∷
    codes "B" ∷
    codes "C" ∷
    codes "D" ∷
    codes "/*" ∷
    codes "//SYSUT2 DD DSN=OUT.A,DISP=(NEW,CATLG),SPACE=(80,10)" ∷
    codes "//CHKDD DD DSN=CHK.A,DISP=(NEW,CATLG),SPACE=(256,4)" ∷
    []

-- COPY of four cards under this RD into a space of three
abbrev pub spilling : List ℕ → List (List ℕ)
spilling rd =
    codes "//F JOB" ∷
    (codes "//S1 EXEC PGM=COPY,RD=" ++ rd) ∷
    codes "//SYSUT1 DD *" ∷
    codes "A" ∷
    codes "B" ∷
    codes "C" ∷
    codes "D" ∷
    codes "/*" ∷
    codes "//SYSUT2 DD DSN=OUT.A,DISP=(NEW,CATLG),SPACE=(80,3)" ∷
    []

-- the cards `R` and two digits, from a number on
abbrev pub cards_from : ℕ → ℕ → List (List ℕ)
cards_from from zero = []
cards_from from (suc count) = (82 ∷ last_digits 2 from) ∷ cards_from (suc from) count

-- COPY of six cards into this space, with these counts for checkpoints and their cancel, and no RD
abbrev pub six_cards : List ℕ → List ℕ → List (List ℕ)
six_cards counts space =
    codes "//X JOB" ∷
    (codes "//S1 EXEC PGM=COPY,PARM='" ++ (counts ++ codes "'")) ∷
    codes "//SYSUT1 DD *" ∷
    cards_from 1 6 ++
    codes "/*" ∷
    (codes "//SYSUT2 DD DSN=OUT.A,DISP=(NEW,CATLG),SPACE=" ++ space) ∷
    codes "//CHKDD DD DSN=CHK.A,DISP=(NEW,CATLG),SPACE=(256,4)" ∷
    []

-- COPY of a card behind the records of IN.A
abbrev pub extending : List (List ℕ)
extending =
    codes "//E JOB" ∷
    codes "//S1 EXEC PGM=COPY" ∷
    codes "//SYSUT1 DD *" ∷
    codes "R61" ∷
    codes "/*" ∷
    codes "//SYSUT2 DD DSN=IN.A,DISP=MOD" ∷
    []

-- COPY of 60 cards into IN.A, and of IN.A into OUT.K with checkpoints
abbrev pub sixty : List (List ℕ)
sixty =
    codes "//M JOB" ∷
    codes "//S1 EXEC PGM=COPY" ∷
    codes "//SYSUT1 DD *" ∷
    cards_from 1 60 ++
    codes "/*" ∷
    codes "//SYSUT2 DD DSN=IN.A,DISP=(NEW,CATLG),SPACE=(80,100)" ∷
    []

abbrev pub checkpointed : List (List ℕ)
checkpointed =
    codes "//K JOB" ∷
    codes "//S1 EXEC PGM=COPY,PARM='CHK=20'" ∷
    codes "//SYSUT1 DD DSN=IN.A,DISP=SHR" ∷
    codes "//SYSUT2 DD DSN=OUT.K,DISP=(NEW,CATLG,CATLG),SPACE=(80,100)" ∷
    codes "//CHKDD DD DSN=CHK.K,DISP=(NEW,CATLG,CATLG),SPACE=(256,20)" ∷
    []

-- the same under this RD
abbrev pub under : List ℕ → List (List ℕ)
under rd =
    codes "//K JOB" ∷
    (codes "//S1 EXEC PGM=COPY,RD=" ++ (rd ++ codes ",PARM='CHK=20'")) ∷
    codes "//SYSUT1 DD DSN=IN.A,DISP=SHR" ∷
    codes "//SYSUT2 DD DSN=OUT.K,DISP=(NEW,CATLG,CATLG),SPACE=(80,100)" ∷
    codes "//CHKDD DD DSN=CHK.K,DISP=(NEW,CATLG,CATLG),SPACE=(256,20)" ∷
    []
