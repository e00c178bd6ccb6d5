-- Examples of the grammar, computed.
use Rattle.std.proofs.Common.{◌≡◌, refl, [], ◌∷◌, Some, None, codes}
use Rattle.ckr_console.specs.Scripts.{scripts_of}
use Rattle.ckr_words.specs.Words.{command_of, disk_place_of, given_from, jobs_of}
use Rattle.ckr_words.specs.declared.words.Command.TheVariants.{Format, Make, Run}
use Rattle.ckr_console.specs.declared.question.Answer.TheVariants.{Hold, Yes}
use Rattle.ckr_console.specs.declared.scripts.Script.TheVariants.{Answers, Cautious, Standing}

leading_zero : command_of (codes "make" ∷ codes "007" ∷ codes "X" ∷ []) ≡ None
unfolding given_from jobs_of
leading_zero = refl

too_many_jobs : command_of (codes "make" ∷ codes "1001" ∷ codes "X" ∷ []) ≡ None
unfolding given_from jobs_of
too_many_jobs = refl

most_jobs : command_of (codes "make" ∷ codes "1000" ∷ codes "X" ∷ []) ≡ Some (Make 1000)
unfolding given_from jobs_of
most_jobs = refl

two_disks : command_of (codes "run" ∷ codes "X" ∷ codes "Y" ∷ []) ≡ None
unfolding given_from
two_disks = refl

two_replies : command_of (codes "run" ∷ codes "--reply" ∷ codes "Y" ∷ codes "--reply" ∷ codes "Y" ∷ codes "X" ∷ []) ≡ None
unfolding given_from
two_replies = refl

behind_dashes : command_of (codes "run" ∷ codes "--" ∷ codes "-X" ∷ []) ≡ Some (Run (Standing ∷ []))
unfolding given_from
behind_dashes = refl

its_place : disk_place_of (codes "run" ∷ codes "--" ∷ codes "-X" ∷ []) ≡ Some 2
unfolding given_from
its_place = refl

reply_behind : command_of (codes "run" ∷ codes "X" ∷ codes "--reply=YH/*" ∷ []) ≡ Some (Run (Answers (Yes ∷ Hold ∷ []) ∷ Cautious ∷ []))
unfolding given_from scripts_of
reply_behind = refl

reply_in_front : disk_place_of (codes "run" ∷ codes "--reply" ∷ codes "+" ∷ codes "X" ∷ []) ≡ Some 3
unfolding given_from scripts_of
reply_in_front = refl

reply_with_format : command_of (codes "format" ∷ codes "--reply" ∷ codes "Y" ∷ codes "X" ∷ []) ≡ None
unfolding given_from
reply_with_format = refl

-- no option may stand in front of the command, and its name is taken exactly
dashes_first : command_of (codes "--" ∷ codes "format" ∷ codes "X" ∷ []) ≡ None
unfolding given_from
dashes_first = refl

part_of_a_name : command_of (codes "for" ∷ codes "X" ∷ []) ≡ None
unfolding given_from
part_of_a_name = refl

no_help : command_of (codes "run" ∷ codes "--help" ∷ []) ≡ None
unfolding given_from
no_help = refl

jobs_behind_dashes : disk_place_of (codes "make" ∷ codes "12" ∷ codes "--" ∷ codes "--reply" ∷ []) ≡ Some 3
unfolding given_from jobs_of
jobs_behind_dashes = refl

-- a word `-` is a name of a disk; `--reply` takes the next word, whatever it is
one_dash : command_of (codes "format" ∷ codes "-" ∷ []) ≡ Some Format
unfolding given_from
one_dash = refl

dashes_are_no_reply : command_of (codes "run" ∷ codes "--reply" ∷ codes "--" ∷ codes "X" ∷ []) ≡ None
unfolding given_from scripts_of
dashes_are_no_reply = refl
