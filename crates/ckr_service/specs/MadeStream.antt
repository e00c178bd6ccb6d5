-- The stream that `make` serves, and the cards of its installation.
use Rattle.std.specs.Prelude.{ℕ, zero, suc, ◌+◌, ◌%◌, ◌==◌, if◌then◌else◌, List, [], ◌∷◌, ◌++◌, codes}
use Rattle.ckr_base.specs.Digits.{last_digits}

abbrev pub line : List ℕ → List ℕ
line text = text ++ 10 ∷ []

-- ---- the cards

abbrev pub made_cards : List ℕ
made_cards = line (codes "INITIATORS 2") ++ line (codes "UNITS 1") ++ line (codes "BOOK 33554432") ++ line (codes "VOLUME GEN001 16777216")

-- the bytes of a disk that these need: the header, the book and the volume
abbrev pub made_size : ℕ
made_size = 50332160

-- ---- the stream

-- a line that has the five digits of a job's number in it
abbrev pub numbered : List ℕ → ℕ → List ℕ → List ℕ
numbered before job after = line (before ++ last_digits 5 job ++ after)

-- so many records of a job, from 1 on: its number, a hyphen and theirs
abbrev pub made_records : ℕ → ℕ → List ℕ
made_records job zero = []
made_records job (suc count) = made_records job count ++ numbered [] job (45 ∷ (48 + suc count) ∷ [])

-- the cards before the records
abbrev pub made_head : ℕ → List ℕ
made_head job = numbered (codes "//G") job (codes " JOB RD=R") ++ line (codes "//S1 EXEC PGM=COPY,PARM='CHK=3'") ++ line (codes "//SYSUT1 DD *")

-- and behind them
abbrev pub made_tail : ℕ → List ℕ
made_tail job =
    line (codes "/*") ++ numbered (codes "//SYSUT2 DD DSN=GEN.D") job (codes ",DISP=(NEW,CATLG),SPACE=(80,8)") ++ line (codes "//CHKDD DD DSN=&&CHK,SPACE=(256,4)")
    ++ line (codes "//")

-- a deck copies from one to seven records, with a checkpoint behind every third, into a new data set
abbrev pub made_deck : ℕ → List ℕ
made_deck job = made_head job ++ made_records job (1 + job % 7) ++ made_tail job

-- every fifth job fails once, behind four turns
abbrev pub made_commands : ℕ → List ℕ
made_commands job = line (codes "$T 1 4") ++ (if job % 5 == 0 then line (codes "$F 1 S001") else []) ++ line (codes "$T 1 99")

-- the jobs from 1 on, that many
abbrev pub made_stream : ℕ → List ℕ
made_stream zero = []
made_stream (suc jobs) = made_stream jobs ++ (made_deck (suc jobs) ++ made_commands (suc jobs))
