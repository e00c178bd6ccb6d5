-- The grammar of the program's words, those behind its own name.
use Rattle.std.specs.Prelude.{ℕ, ◌+◌, ◌==◌, nat_le, Bool, true, false, nat_eq, if◌then◌else◌, List, [], ◌∷◌, map, drop, bytes_eq, codes, Option, None, Some, option_map, option_and_then}
use Rattle.std.specs.List.{enumerate_from, starts_with}
use Rattle.ckr_base.specs.Words.{plain_number}
use Rattle.ckr_console.specs.Scripts.{scripts_of}
use Rattle.ckr_console.specs.declared.scripts.Script.{Script}
use Rattle.ckr_console.specs.declared.scripts.Script.TheVariants.{Standing}
use Rattle.ckr_words.specs.declared.words.Command.{Command}
use Rattle.ckr_words.specs.declared.words.Command.TheVariants.{Format, Run, Make}
use Rattle.ckr_words.specs.declared.words.Kind.{Kind}
use Rattle.ckr_words.specs.declared.words.Kind.TheVariants as Kinds

abbrev pub Text : Type 0
Text = List ℕ

-- ---- one word

-- what a word is, in front of the first word `--`
pub data Word : Type 0 where
  -- `--`: no word behind it is an option
  ends : Word
  -- `--reply`: the next word is T
  asks : Word
  -- `--reply=T`
  gives : List ℕ → Word
  -- any other word that begins with `-` and has more than one byte
  stray : Word
  positional : Word

abbrev pub is_option : Text → Bool
is_option [] = false
is_option (first ∷ []) = false
is_option (first ∷ second ∷ rest) = first == 45

abbrev pub word_of : Text → Word
word_of word =
    if bytes_eq word (codes "--") then ends
    else if bytes_eq word (codes "--reply") then asks
    else if starts_with nat_eq word (codes "--reply=") then gives (drop 8 word)
    else if is_option word then stray else positional

-- ---- the words behind the command

-- the positional words, each with its place among all words, and the words T
pub record Given : Type 0 where
  pub positionals : List (ℕ × Text)
  pub replies : List Text

abbrev pub with_positional : ℕ → Text → Given → Given
with_positional place word given = record given { positionals = (place, word) ∷ given.positionals }

abbrev pub with_reply : Text → Given → Given
with_reply word given = record given { replies = word ∷ given.replies }

-- words that are positional, from this place on
abbrev pub all_positional : ℕ → List Text → Given
all_positional place words = record { positionals = enumerate_from place words; replies = [] }

abbrev pub given_by : Word → ℕ → Text → List Text → (Bool → Option Given) → Option Given
given_by ends place word rest next = Some (all_positional (place + 1) rest)
given_by asks place word rest next = next true
given_by (gives reply) place word rest next = option_map (with_reply reply) (next false)
given_by stray place word rest next = None
given_by positional place word rest next = option_map (with_positional place word) (next false)

-- what the words from this place on give; `asked` says that the word in front of them is `--reply`. None where they are in
-- no command's grammar
unfoldable pub given_from : Bool → ℕ → List Text → Option Given
given_from false place [] = Some (all_positional place [])
given_from true place [] = None
given_from false place (word ∷ rest) = given_by (word_of word) place word rest (λ asked. given_from asked (place + 1) rest)
given_from true place (word ∷ rest) = option_map (with_reply word) (given_from false (place + 1) rest)

-- ---- the commands

-- the one of them
abbrev pub single : {X : Type 0} → List X → Option X
single [] = None
single (x ∷ []) = Some x
single (x ∷ y ∷ rest) = None

-- the two of them
abbrev pub pair_of : {X : Type 0} → List X → Option (X × X)
pair_of [] = None
pair_of (x ∷ []) = None
pair_of (x ∷ y ∷ []) = Some (x, y)
pair_of (x ∷ y ∷ z ∷ rest) = None

-- N: a number from 1 to 1000, without a leading zero
unfoldable pub jobs_of : Text → Option ℕ
jobs_of text = option_and_then (λ number. if nat_le number 1000 then Some number else None) (plain_number text)

-- no word T at all
abbrev pub only_without : {X : Type 0} → List Text → Option X → Option X
only_without [] x = x
only_without (reply ∷ rest) x = None

-- the operators that at most one word T asks for: without it, one that always says Yes
abbrev pub operators_of : List Text → Option (List Script)
operators_of [] = Some (Standing ∷ [])
operators_of (reply ∷ []) = scripts_of reply
operators_of (reply ∷ second ∷ rest) = None

abbrev pub texts_of : List (ℕ × Text) → List Text
texts_of = map (λ p. p.1)

-- `format DISK`
abbrev pub format_of : List Text → List Text → Option Command
format_of positionals replies = only_without replies (option_map (λ disk. Format) (single positionals))

-- `run DISK`, with at most one T
abbrev pub run_of : List Text → List Text → Option Command
run_of positionals replies =
    option_and_then (λ operators. option_map (λ disk. Run operators) (single positionals)) (operators_of replies)

-- `make N DISK`
abbrev pub make_of : List Text → List Text → Option Command
make_of positionals replies = only_without replies
    (option_and_then (λ two. option_map (λ jobs. Make jobs) (jobs_of two.0)) (pair_of positionals))

-- the command of this name
abbrev pub command_by : Text → List Text → List Text → Option Command
command_by name positionals replies =
    if bytes_eq name (codes "format") then format_of positionals replies
    else if bytes_eq name (codes "run") then run_of positionals replies
    else if bytes_eq name (codes "make") then make_of positionals replies
    else None

abbrev pub command_in : Text → Given → Option Command
command_in name given = command_by name (texts_of given.positionals) given.replies

-- the command that the words are, if they are in a command's grammar
abbrev pub command_of : List Text → Option Command
command_of [] = None
command_of (name ∷ rest) = option_and_then (command_in name) (given_from false 1 rest)

-- what a command does
abbrev pub kind_of : Command → Kind
kind_of Format = Kinds.Format
kind_of (Run operators) = Kinds.Run
kind_of (Make jobs) = Kinds.Make jobs

abbrev pub kind_of_words : List Text → Option Kind
kind_of_words words = option_map kind_of (command_of words)

-- ---- the place of DISK

abbrev pub positionals_in : Option Given → List (ℕ × Text)
positionals_in None = []
positionals_in (Some given) = given.positionals

-- the positional words behind the first word, each with its place among all words
abbrev pub positionals_of : List Text → List (ℕ × Text)
positionals_of [] = []
positionals_of (name ∷ rest) = positionals_in (given_from false 1 rest)

-- the last place of those
abbrev pub last_place : List (ℕ × Text) → ℕ
last_place [] = 0
last_place (p ∷ []) = p.0
last_place (p ∷ q ∷ rest) = last_place (q ∷ rest)

-- the place of DISK among the words of a command, counted from 0: DISK is the last positional word of each command
abbrev pub disk_place_of : List Text → Option ℕ
disk_place_of words = option_map (λ command. last_place (positionals_of words)) (command_of words)
