-- What a program takes of its input, what it writes for it, and how it ends.
use Rattle.std.specs.Prelude.{ℕ, Bool, true, false, if◌then◌else◌, List, [], ◌∷◌, ◌++◌, map, filter, take, drop, length, sum_by, take_while}
use Rattle.std.specs.List.{list_all}
use Rattle.ckr_base.specs.declared.code.Code.TheVariants.{System}
use Rattle.ckr_base.specs.declared.programs.Finish.{Finish}
use Rattle.ckr_base.specs.declared.programs.Finish.TheVariants.{Returned, Abend}
use Rattle.ckr_base.specs.declared.programs.Output.TheVariants.{Main}
use Rattle.ckr_base.specs.declared.programs.Write.{Write}
use Rattle.ckr_jcl.specs.declared.deck.Kind.{Kind}
use Rattle.ckr_jcl.specs.declared.deck.Kind.TheVariants.{Copy, Select, Print, Br14}
use Rattle.ckr_jcl.specs.declared.deck.Parm.{Parm}
use Rattle.ckr_programs.specs.Records.{is_selected, is_summing, can_take, amount_of}
use Rattle.ckr_programs.specs.Pages.{pages_from, total_line}

-- a program with its PARM and its input
pub record ProgCase : Type 0 where
  pub program : Kind
  pub parm : Parm
  pub input : List (List ℕ)

-- what a program writes, and how it ends
pub record Work : Type 0 where
  pub writes : List Write
  pub finish : Finish

-- IEFBR14 reads nothing
abbrev pub read_by : Kind → List (List ℕ) → List (List ℕ)
read_by Br14 input = []
read_by _ input = input

abbrev pub input_of : ProgCase → List (List ℕ)
input_of case = read_by case.program case.input

-- the records that the program takes: all, or those before the first one that it can't take
unfoldable pub taken_records : ProgCase → List (List ℕ)
taken_records case = take_while (can_take case.program case.parm) (input_of case)

-- whether it takes all
unfoldable pub is_whole : ProgCase → Bool
is_whole case = list_all (can_take case.program case.parm) (input_of case)

-- a record that goes to the output
abbrev pub to_main : List ℕ → Write
to_main image = record { output = Main; image = image }

-- what is written for records taken
abbrev pub images_for : Kind → Parm → List (List ℕ) → List (List ℕ)
images_for Copy parm taken = taken
images_for Select parm taken = filter (is_selected parm) taken
images_for Print parm taken = pages_from parm 0 taken
images_for _ parm taken = []

-- the sum of the SUM fields
abbrev pub sum_of : Kind → Parm → List (List ℕ) → ℕ
sum_of program parm taken = sum_by (amount_of program parm) taken

-- what is written in closing
abbrev pub closing_images : Kind → Parm → ℕ → List (List ℕ)
closing_images program parm sum = if is_summing program parm then total_line sum ∷ [] else []

-- what the program writes for the records taken, and where it is closed behind them
unfoldable pub prog_writes : Kind → Parm → List (List ℕ) → Bool → List Write
prog_writes program parm taken false = map to_main (images_for program parm taken)
prog_writes program parm taken true =
    map to_main (images_for program parm taken) ++ map to_main (closing_images program parm (sum_of program parm taken))

-- S0C7 where a record can't be taken
abbrev pub prog_finish : Bool → Finish
prog_finish true = Returned 0
prog_finish false = Abend (System 199)

-- the work of the program
abbrev pub work : ProgCase → Work
work case = record {
  writes = prog_writes case.program case.parm (taken_records case) (is_whole case);
  finish = prog_finish (is_whole case);
}

-- the writes for the first records taken
abbrev pub upto : ProgCase → ℕ → List Write
upto case count = prog_writes case.program case.parm (take count (taken_records case)) false

-- the work without the writes for the first records taken
abbrev pub rest : ProgCase → ℕ → List Write
rest case count = drop (length (upto case count)) (work case).writes
