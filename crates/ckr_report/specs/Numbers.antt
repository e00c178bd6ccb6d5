-- The numbers of a line: jobs, initiators, stamps.
use Rattle.std.specs.Prelude.{ℕ, ◌+◌, ◌-◌, ◌/◌, ◌%◌, List, [], ◌∷◌, ◌++◌, length, replicate}
use Rattle.std.specs.Fmt.{decimal}
use Rattle.ckr_library.specs.declared.sets.Stamp.{Stamp}

-- a number in decimal, with zeros before it up to so many digits
abbrev pub padded : ℕ → ℕ → List ℕ
padded width number = replicate (width - length (decimal number)) 48 ++ decimal number

-- a number below 100 in two digits
abbrev pub two_digits : ℕ → List ℕ
two_digits number = (48 + number / 10) ∷ (48 + number % 10) ∷ []

-- `J` and seven digits
abbrev pub job_text : ℕ → List ℕ
job_text job = 74 ∷ padded 7 job

-- `I` and the initiator's number
abbrev pub initiator_text : ℕ → List ℕ
initiator_text initiator = 73 ∷ decimal initiator

-- the run, the step and the rewrites
abbrev pub stamp_text : Stamp → List ℕ
stamp_text stamp = decimal stamp.run ++ 46 ∷ (decimal stamp.step ++ 46 ∷ decimal stamp.rewrites)
