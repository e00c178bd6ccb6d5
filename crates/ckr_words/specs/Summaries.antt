-- What tells of the words behind a command whether they are in its grammar, and where DISK stands.
use Rattle.std.specs.Prelude.{ℕ, ◌+◌, ◌==◌, ◌&&◌, ◌||◌, nat_lt, Bool, false, if◌then◌else◌, List, [], ◌∷◌, bytes_eq, codes, Option, None, Some, is_some, option_map}
use Rattle.ckr_console.specs.Scripts.{scripts_of}
use Rattle.ckr_words.specs.Words.{Given, Text, jobs_of}
use Rattle.ckr_words.specs.declared.summary.Found.{Found}
use Rattle.ckr_words.specs.declared.summary.Summary.{Summary}
use Rattle.ckr_words.specs.declared.words.Kind.{Kind}
use Rattle.ckr_words.specs.declared.words.Kind.TheVariants.{Format, Run, Make}

-- how many there are, of three or more three
abbrev pub up_to_three : {X : Type 0} → List X → ℕ
up_to_three [] = 0
up_to_three (x ∷ []) = 1
up_to_three (x ∷ y ∷ []) = 2
up_to_three (x ∷ y ∷ z ∷ rest) = 3

-- how many there are, of two or more two
abbrev pub up_to_two : {X : Type 0} → List X → ℕ
up_to_two [] = 0
up_to_two (x ∷ []) = 1
up_to_two (x ∷ y ∷ rest) = 2

-- the place of the last of at most two
abbrev pub last_of_two : List (ℕ × Text) → ℕ
last_of_two [] = 0
last_of_two (p ∷ []) = p.0
last_of_two (p ∷ q ∷ []) = q.0
last_of_two (p ∷ q ∷ r ∷ rest) = 0

-- the N that the first is
abbrev pub first_jobs : List (ℕ × Text) → Option ℕ
first_jobs [] = None
first_jobs (p ∷ rest) = jobs_of p.1

abbrev pub begins_with_scripts : List Text → Bool
begins_with_scripts [] = false
begins_with_scripts (reply ∷ rest) = is_some (scripts_of reply)

abbrev pub summary_of : Given → Summary
summary_of given = record {
  positionals = up_to_three given.positionals;
  last = last_of_two given.positionals;
  jobs = first_jobs given.positionals;
  replies = up_to_two given.replies;
  scripted = begins_with_scripts given.replies;
}

-- the same with one more positional word in front
abbrev pub with_positional_in : ℕ → Text → Summary → Summary
with_positional_in place word behind = record {
  positionals = if nat_lt behind.positionals 3 then behind.positionals + 1 else 3;
  last = if behind.positionals == 0 then place else if behind.positionals == 1 then behind.last else 0;
  jobs = jobs_of word;
  replies = behind.replies;
  scripted = behind.scripted;
}

-- the same with one more T in front
abbrev pub with_reply_in : Text → Summary → Summary
with_reply_in reply behind = record {
  positionals = behind.positionals;
  last = behind.last;
  jobs = behind.jobs;
  replies = if nat_lt behind.replies 2 then behind.replies + 1 else 2;
  scripted = is_some (scripts_of reply);
}

-- what the command of this name does with the words
abbrev pub kind_by : Text → Summary → Option Kind
kind_by name s =
    if bytes_eq name (codes "format") then (if s.positionals == 1 && s.replies == 0 then Some Format else None)
    else if bytes_eq name (codes "run") then
    (if s.positionals == 1 && (s.replies == 0 || (s.replies == 1 && s.scripted)) then Some Run else None)
    else if bytes_eq name (codes "make") then (if s.positionals == 2 && s.replies == 0 then option_map Make s.jobs else None)
    else None

-- that, and the place of DISK
abbrev pub found_by : Text → Summary → Option Found
found_by name s = option_map (λ kind. record { kind = kind; disk = s.last }) (kind_by name s)
