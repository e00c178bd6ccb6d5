-- The words behind `run`, as clap walks over them and as the grammar reads them.
use Rattle.std.proofs.Common.{◌≡◌, ◌∙◌, ℕ, ◌+◌, Bool, true, false, if◌then◌else◌, refl, sym, ap, List, [], ◌∷◌, ◌++◌, Option, Some, None, true≢false}
use Rattle.std.specs.Prelude.{bytes_eq, codes, option_map, option_and_then, slice_get}
use Rattle.std.specs.Str.{chars}
use Rattle.clap.specs.Walk.{Held, Row, Text, Waiting, Walk, idle, nothing_held, option, walk_from, walked}
use Rattle.clap.specs.Simple.{Shape}
use Rattle.clap.specs.Faults.{defaults_fault, walk_fault}
use Rattle.ckr_words.specs.Line.{run_shape}
use Rattle.ckr_words.specs.Words.{Given, Word, ends, asks, gives, stray, positional, word_of, all_positional, given_by, given_from, operators_of, run_of, single, texts_of, with_positional, with_reply}
use Rattle.ckr_console.specs.Scripts.{scripts_of}
use Rattle.ckr_words.specs.declared.words.Command.{Command}
use Rattle.ckr_console.specs.declared.scripts.Script.{Script}
use Rattle.ckr_words.specs.declared.words.Command.TheVariants.{Run}
use Rattle.clap.specs.declared.error.kind.ErrorKind.TheVariants.{ArgumentConflict, InvalidValue, UnknownArgument}
use Rattle.ckr_words.proofs.Steps.{Looks, letters_refused, open_walk, read_from, refuses, takes}
use Rattle.ckr_words.proofs.Views.{View, is_asking, is_end, is_giving, is_long, is_plain, is_short, EachUtf8, view}
use Rattle.ckr_words.proofs.Leaves.{closed_walk, held, leaf, row}
use Rattle.ckr_words.specs.Matches.{run_read}

abbrev run : Shape
run = leaf run_shape

abbrev disk_id : Text
disk_id = codes "disk"

abbrev reply_id : Text
reply_id = codes "reply"

-- where the words so far leave clap: which of DISK and T it has, and which of them it still holds back
data State : Type 0 where
  empty : State
  disk : Text → State
  asked : State
  reply_held : Text → State
  reply : Text → State
  reply_disk : Text → Text → State
  disk_asked : Text → State
  disk_reply_held : Text → Text → State
  disk_reply : Text → Text → State

abbrev rows_of_state : State → List Row
rows_of_state empty = []
rows_of_state (disk d) = []
rows_of_state asked = []
rows_of_state (reply_held t) = []
rows_of_state (reply t) = row reply_id t ∷ []
rows_of_state (reply_disk t d) = row reply_id t ∷ []
rows_of_state (disk_asked d) = row disk_id d ∷ []
rows_of_state (disk_reply_held d t) = row disk_id d ∷ []
rows_of_state (disk_reply d t) = row disk_id d ∷ row reply_id t ∷ []

abbrev pending_in : State → Option (Text × List Text)
pending_in empty = None
pending_in (disk d) = Some (disk_id, d ∷ [])
pending_in asked = Some (reply_id, [])
pending_in (reply_held t) = Some (reply_id, t ∷ [])
pending_in (reply t) = None
pending_in (reply_disk t d) = Some (disk_id, d ∷ [])
pending_in (disk_asked d) = Some (reply_id, [])
pending_in (disk_reply_held d t) = Some (reply_id, t ∷ [])
pending_in (disk_reply d t) = None

abbrev position_in : State → ℕ
position_in empty = 1
position_in (disk d) = 2
position_in asked = 1
position_in (reply_held t) = 1
position_in (reply t) = 1
position_in (reply_disk t d) = 2
position_in (disk_asked d) = 2
position_in (disk_reply_held d t) = 2
position_in (disk_reply d t) = 2

abbrev is_asked : State → Bool
is_asked asked = true
is_asked (disk_asked d) = true
is_asked _ = false

abbrev waiting_in : Bool → Waiting
waiting_in true = option reply_id
waiting_in false = idle

abbrev disks : State → List Text
disks empty = []
disks (disk d) = d ∷ []
disks asked = []
disks (reply_held t) = []
disks (reply t) = []
disks (reply_disk t d) = d ∷ []
disks (disk_asked d) = d ∷ []
disks (disk_reply_held d t) = d ∷ []
disks (disk_reply d t) = d ∷ []

abbrev replies : State → List Text
replies empty = []
replies (disk d) = []
replies asked = []
replies (reply_held t) = t ∷ []
replies (reply t) = t ∷ []
replies (reply_disk t d) = t ∷ []
replies (disk_asked d) = []
replies (disk_reply_held d t) = t ∷ []
replies (disk_reply d t) = t ∷ []

abbrev held_in : State → Held
held_in s = held (rows_of_state s) (pending_in s)

abbrev walk_in : State → Walk
walk_in s = open_walk (held_in s) (waiting_in (is_asked s)) (position_in s)

abbrev clap_reads : Walk → List Text → Option Command
clap_reads = read_from run_read run

-- what the grammar reads, behind these words
abbrev reads : List Text → List Text → Option Given → Option Command
reads ds ts given = option_and_then (λ (g : Given). run_of (ds ++ texts_of g.positionals) (ts ++ g.replies)) given

-- ---- the grammar, word by word

abbrev never : List Script → Option Command
never operators = None

no_operators : (o : Option (List Script)) → option_and_then never o ≡ None
no_operators None = refl
no_operators (Some operators) = refl

no_disk : (ts : List Text) → run_of [] ts ≡ None
no_disk ts = no_operators (operators_of ts)

one_more : (ts : List Text) (place : ℕ) (word : Text) (o : Option Given) → reads [] ts (option_map (with_positional place word) o) ≡ reads (word ∷ []) ts o
one_more ts place word None = refl
one_more ts place word (Some g) = refl

too_many : (d : Text) (ts : List Text) (place : ℕ) (word : Text) (o : Option Given) → reads (d ∷ []) ts (option_map (with_positional place word) o) ≡ None
too_many d ts place word None = refl
too_many d ts place word (Some g) = no_operators (operators_of (ts ++ g.replies))

one_reply : (ds : List Text) (t : Text) (o : Option Given) → reads ds [] (option_map (with_reply t) o) ≡ reads ds (t ∷ []) o
one_reply ds t None = refl
one_reply ds t (Some g) = refl

two_replies : (ds : List Text) (t u : Text) (o : Option Given) → reads ds (t ∷ []) (option_map (with_reply u) o) ≡ None
two_replies ds t u None = refl
two_replies ds t u (Some g) = refl

asks_again : (ds : List Text) (t : Text) (place : ℕ) (words : List Text) → reads ds (t ∷ []) (given_from true place words) ≡ None
unfolding given_from
asks_again ds t place [] = refl
asks_again ds t place (word ∷ rest) = two_replies ds t word (given_from false (place + 1) rest)

bad_operators : (t : Text) (ts : List Text) → scripts_of t ≡ None → operators_of (t ∷ ts) ≡ None
bad_operators t [] bad = bad
bad_operators t (u ∷ rest) bad = refl

bad_reply : (ds : List Text) (t : Text) (o : Option Given) → scripts_of t ≡ None → reads ds [] (option_map (with_reply t) o) ≡ None
bad_reply ds t None bad = refl
bad_reply ds t (Some g) bad = ap (option_and_then (λ operators. option_map (λ disk. Run operators) (single (ds ++ texts_of g.positionals)))) (bad_operators t g.replies bad)

by_word : (k : Word) (place : ℕ) (word : Text) (rest : List Text) → word_of word ≡ k
    → given_from false place (word ∷ rest) ≡ given_by k place word rest (λ asked. given_from asked (place + 1) rest)
unfolding given_from
by_word k place word rest is = ap (λ w. given_by w place word rest (λ asked. given_from asked (place + 1) rest)) is

behind_reply : (place : ℕ) (word : Text) (rest : List Text) → given_from true place (word ∷ rest) ≡ option_map (with_reply word) (given_from false (place + 1) rest)
unfolding given_from
behind_reply place word rest = refl

-- ---- behind `--`

-- T is still wanted
wants_none : (rows : List Row) (first : Bool) (words : List Text) → clap_reads (closed_walk (held rows (Some (reply_id, []))) (option reply_id) (if first then 1 else 2)) words ≡ None
unfolding walk_fault walked defaults_fault
wants_none rows true [] = refl
wants_none rows false [] = refl
wants_none rows true (word ∷ rest) = refl
wants_none rows false (word ∷ rest) = refl

-- T stands twice
data Twice : Type 0 where
  alone : Text → Twice
  behind_disk : Text → Text → Twice
  before_disk : Text → Text → Twice

abbrev rows_twice : Twice → List Row
rows_twice (alone t) = row reply_id t ∷ []
rows_twice (behind_disk d t) = row disk_id d ∷ row reply_id t ∷ []
rows_twice (before_disk t d) = row reply_id t ∷ row disk_id d ∷ []

abbrev place_twice : Twice → ℕ
place_twice (alone t) = 1
place_twice (behind_disk d t) = 2
place_twice (before_disk t d) = 2

abbrev held_twice : Twice → List Text → Held
held_twice two ts = held (rows_twice two) (Some (reply_id, ts))

twice_closed : (two : Twice) (u : Text) (words : List Text) → clap_reads (closed_walk (held_twice two (u ∷ [])) idle (place_twice two)) words ≡ None
unfolding walk_fault walked defaults_fault
twice_closed (alone t) u [] = refl
twice_closed (behind_disk d t) u [] = refl
twice_closed (before_disk t d) u [] = refl
twice_closed (alone t) u (word ∷ rest) = refl
twice_closed (behind_disk d t) u (word ∷ rest) = refl
twice_closed (before_disk t d) u (word ∷ rest) = refl

abbrev closed_in : State → Walk
closed_in s = closed_walk (held_in s) idle (position_in s)

-- no T is wanted: each word is positional
closed : (words : List Text) (s : State) (place : ℕ) → is_asked s ≡ false → clap_reads (closed_in s) words ≡ reads (disks s) (replies s) (Some (all_positional place words))
unfolding walk_fault walked defaults_fault
closed [] empty place e = refl
closed [] (disk d) place e = refl
closed [] asked place e = absurd (true≢false e)
closed [] (reply_held t) place e = sym (no_disk (t ∷ []))
closed [] (reply t) place e = sym (no_disk (t ∷ []))
closed [] (reply_disk t d) place e = refl
closed [] (disk_asked d) place e = absurd (true≢false e)
closed [] (disk_reply_held d t) place e = refl
closed [] (disk_reply d t) place e = refl
closed (word ∷ rest) empty place e = closed rest (disk word) (place + 1) refl
closed (word ∷ rest) (disk d) place e = refl
closed (word ∷ rest) asked place e = absurd (true≢false e)
closed (word ∷ rest) (reply_held t) place e = closed rest (reply_disk t word) (place + 1) refl
closed (word ∷ rest) (reply t) place e = closed rest (reply_disk t word) (place + 1) refl
closed (word ∷ rest) (reply_disk t d) place e = sym (no_operators (operators_of (t ∷ [])))
closed (word ∷ rest) (disk_asked d) place e = absurd (true≢false e)
closed (word ∷ rest) (disk_reply_held d t) place e = sym (no_operators (operators_of (t ∷ [])))
closed (word ∷ rest) (disk_reply d t) place e = sym (no_operators (operators_of (t ∷ [])))

-- ---- in front of `--`

-- a refused word, by what it looks like
module _ (waiting : Waiting) (position : ℕ) (word : Text) (rest : List Text) (h : Held) (skip : h.skip ≡ 0) where
  refuses_long : (name : Text) (value : Option Text) → Looks word false (Some (name, value)) None → bytes_eq (codes "reply") name ≡ false
      → clap_reads (open_walk h waiting position) (word ∷ rest) ≡ None
  refuses_long name value looks other = refuses run_read run waiting position word rest h false (Some (name, value)) None looks UnknownArgument [] (rw other refl)

  refuses_short : (x : ℕ) (xs : Text) (c : ℕ) → Looks word false None (Some (x ∷ xs)) → slice_get (chars (x ∷ xs)) 0 ≡ Some c
      → clap_reads (open_walk h waiting position) (word ∷ rest) ≡ None
  refuses_short x xs c looks first = refuses run_read run waiting position word rest h false None (Some (x ∷ xs)) looks UnknownArgument []
      (letters_refused run waiting position word h x xs c (λ y. refl) skip first)

-- T stands twice: nothing that follows mends it
twice_held : (two : Twice) (u word : Text) (rest : List Text) → View word → clap_reads (open_walk (held_twice two (u ∷ [])) idle (place_twice two)) (word ∷ rest) ≡ None
twice_held two u word rest (is_end _ looks _) = at two
  where
    at : (two : Twice) → clap_reads (open_walk (held_twice two (u ∷ [])) idle (place_twice two)) (word ∷ rest) ≡ None
    at (alone t) = takes run_read run idle 1 word rest _ true None None looks (closed_walk (held_twice (alone t) (u ∷ [])) idle 1) refl refl ∙ twice_closed (alone t) u rest
    at (behind_disk d t) = takes run_read run idle 2 word rest _ true None None looks (closed_walk (held_twice (behind_disk d t) (u ∷ [])) idle 2) refl refl ∙ twice_closed (behind_disk d t) u rest
    at (before_disk t d) = takes run_read run idle 2 word rest _ true None None looks (closed_walk (held_twice (before_disk t d) (u ∷ [])) idle 2) refl refl ∙ twice_closed (before_disk t d) u rest
twice_held two u word rest (is_asking _ looks _) = at two
  where
    at : (two : Twice) → clap_reads (open_walk (held_twice two (u ∷ [])) idle (place_twice two)) (word ∷ rest) ≡ None
    at (alone t) = refuses run_read run idle 1 word rest _ false _ None looks ArgumentConflict [] refl
    at (behind_disk d t) = refuses run_read run idle 2 word rest _ false _ None looks ArgumentConflict [] refl
    at (before_disk t d) = refuses run_read run idle 2 word rest _ false _ None looks ArgumentConflict [] refl
twice_held two u word rest (is_giving given _ looks _) = at two
  where
    at : (two : Twice) → clap_reads (open_walk (held_twice two (u ∷ [])) idle (place_twice two)) (word ∷ rest) ≡ None
    at (alone t) = refuses run_read run idle 1 word rest _ false _ None looks ArgumentConflict [] refl
    at (behind_disk d t) = refuses run_read run idle 2 word rest _ false _ None looks ArgumentConflict [] refl
    at (before_disk t d) = refuses run_read run idle 2 word rest _ false _ None looks ArgumentConflict [] refl
twice_held two u word rest (is_long name value _ looks other _) = refuses_long idle (place_twice two) word rest (held_twice two (u ∷ [])) refl name value looks other
twice_held two u word rest (is_short x xs c _ looks first _) = refuses_short idle (place_twice two) word rest (held_twice two (u ∷ [])) refl x xs c looks first
twice_held two u word rest (is_plain _ looks) = at two
  where
    at : (two : Twice) → clap_reads (open_walk (held_twice two (u ∷ [])) idle (place_twice two)) (word ∷ rest) ≡ None
    at (alone t) = refuses run_read run idle 1 word rest _ false None None looks ArgumentConflict [] refl
    at (behind_disk d t) = refuses run_read run idle 2 word rest _ false None None looks UnknownArgument [] refl
    at (before_disk t d) = refuses run_read run idle 2 word rest _ false None None looks UnknownArgument [] refl

twice : (words : List Text) → EachUtf8 words → (two : Twice) (u : Text) → clap_reads (open_walk (held_twice two (u ∷ [])) idle (place_twice two)) words ≡ None
unfolding walk_fault walked defaults_fault
twice [] utf8 (alone t) u = refl
twice [] utf8 (behind_disk d t) u = refl
twice [] utf8 (before_disk t d) u = refl
twice (word ∷ rest) utf8 two u = twice_held two u word rest (view word utf8.0)

-- T is wanted a second time
abbrev wanted_walk : Twice → Walk
wanted_walk two = open_walk (held_twice two []) (option reply_id) (place_twice two)

twice_asked : (two : Twice) (word : Text) (rest : List Text) → EachUtf8 rest → View word → clap_reads (wanted_walk two) (word ∷ rest) ≡ None
twice_asked (alone t) word rest utf8 (is_end _ looks _) = takes run_read run (option reply_id) 1 word rest _ true None None looks (closed_walk (held_twice (alone t) []) (option reply_id) 1) refl refl ∙ wants_none (row reply_id t ∷ []) true rest
twice_asked (alone t) word rest utf8 (is_asking _ looks _) = refuses run_read run (option reply_id) 1 word rest _ false _ None looks InvalidValue [] refl
twice_asked (alone t) word rest utf8 (is_giving given _ looks _) = refuses run_read run (option reply_id) 1 word rest _ false _ None looks InvalidValue [] refl
twice_asked (alone t) word rest utf8 (is_long name value _ looks other _) = refuses_long (option reply_id) 1 word rest (held_twice (alone t) []) refl name value looks other
twice_asked (alone t) word rest utf8 (is_short x xs c _ looks first _) = refuses_short (option reply_id) 1 word rest (held_twice (alone t) []) refl x xs c looks first
twice_asked (alone t) word rest utf8 (is_plain _ looks) = takes run_read run (option reply_id) 1 word rest _ false None None looks (open_walk (held_twice (alone t) (word ∷ [])) idle 1) refl refl ∙ twice rest utf8 (alone t) word
twice_asked (behind_disk d t) word rest utf8 (is_end _ looks _) = takes run_read run (option reply_id) 2 word rest _ true None None looks (closed_walk (held_twice (behind_disk d t) []) (option reply_id) 2) refl refl ∙ wants_none (row disk_id d ∷ row reply_id t ∷ []) false rest
twice_asked (behind_disk d t) word rest utf8 (is_asking _ looks _) = refuses run_read run (option reply_id) 2 word rest _ false _ None looks InvalidValue [] refl
twice_asked (behind_disk d t) word rest utf8 (is_giving given _ looks _) = refuses run_read run (option reply_id) 2 word rest _ false _ None looks InvalidValue [] refl
twice_asked (behind_disk d t) word rest utf8 (is_long name value _ looks other _) = refuses_long (option reply_id) 2 word rest (held_twice (behind_disk d t) []) refl name value looks other
twice_asked (behind_disk d t) word rest utf8 (is_short x xs c _ looks first _) = refuses_short (option reply_id) 2 word rest (held_twice (behind_disk d t) []) refl x xs c looks first
twice_asked (behind_disk d t) word rest utf8 (is_plain _ looks) = takes run_read run (option reply_id) 2 word rest _ false None None looks (open_walk (held_twice (behind_disk d t) (word ∷ [])) idle 2) refl refl ∙ twice rest utf8 (behind_disk d t) word
twice_asked (before_disk t d) word rest utf8 (is_end _ looks _) = takes run_read run (option reply_id) 2 word rest _ true None None looks (closed_walk (held_twice (before_disk t d) []) (option reply_id) 2) refl refl ∙ wants_none (row reply_id t ∷ row disk_id d ∷ []) false rest
twice_asked (before_disk t d) word rest utf8 (is_asking _ looks _) = refuses run_read run (option reply_id) 2 word rest _ false _ None looks InvalidValue [] refl
twice_asked (before_disk t d) word rest utf8 (is_giving given _ looks _) = refuses run_read run (option reply_id) 2 word rest _ false _ None looks InvalidValue [] refl
twice_asked (before_disk t d) word rest utf8 (is_long name value _ looks other _) = refuses_long (option reply_id) 2 word rest (held_twice (before_disk t d) []) refl name value looks other
twice_asked (before_disk t d) word rest utf8 (is_short x xs c _ looks first _) = refuses_short (option reply_id) 2 word rest (held_twice (before_disk t d) []) refl x xs c looks first
twice_asked (before_disk t d) word rest utf8 (is_plain _ looks) = takes run_read run (option reply_id) 2 word rest _ false None None looks (open_walk (held_twice (before_disk t d) (word ∷ [])) idle 2) refl refl ∙ twice rest utf8 (before_disk t d) word

twice_wanted : (words : List Text) → EachUtf8 words → (two : Twice) → clap_reads (wanted_walk two) words ≡ None
unfolding walk_fault walked defaults_fault
twice_wanted [] utf8 (alone t) = refl
twice_wanted [] utf8 (behind_disk d t) = refl
twice_wanted [] utf8 (before_disk t d) = refl
twice_wanted (word ∷ rest) utf8 two = twice_asked two word rest utf8.1 (view word utf8.0)

-- one word more, where the words behind it are read alike
abbrev ReadsAlike : State → ℕ → List Text → Type 0
ReadsAlike s place words = clap_reads (walk_in s) words ≡ reads (disks s) (replies s) (given_from (is_asked s) place words)

step : (s : State) (place : ℕ) (word : Text) (rest : List Text) → EachUtf8 rest → ((after : State) → ReadsAlike after (place + 1) rest) → View word → ReadsAlike s place (word ∷ rest)
step empty place word rest utf8 ih (is_end is looks _) = takes run_read run (idle) 1 word rest _ true None None looks (closed_in empty) refl refl ∙ closed rest empty (place + 1) refl ∙ sym (ap (reads [] []) (by_word ends place word rest is))
step empty place word rest utf8 ih (is_asking is looks _) = takes run_read run (idle) 1 word rest _ false _ None looks (walk_in asked) refl refl ∙ ih asked ∙ sym (ap (reads [] []) (by_word asks place word rest is))
step empty place word rest utf8 ih (is_giving given is looks _) = takes run_read run (idle) 1 word rest _ false _ None looks (walk_in (reply given)) refl refl ∙ ih (reply given) ∙ sym (one_reply [] given (given_from false (place + 1) rest)) ∙ sym (ap (reads [] []) (by_word (gives given) place word rest is))
step empty place word rest utf8 ih (is_long name value is looks other _) = refuses_long idle 1 word rest (held_in empty) refl name value looks other ∙ sym (ap (reads [] []) (by_word stray place word rest is))
step empty place word rest utf8 ih (is_short x xs c is looks first _) = refuses_short idle 1 word rest (held_in empty) refl x xs c looks first ∙ sym (ap (reads [] []) (by_word stray place word rest is))
step empty place word rest utf8 ih (is_plain is looks) = takes run_read run (idle) 1 word rest _ false None None looks (walk_in (disk word)) refl refl ∙ ih (disk word) ∙ sym (one_more [] place word (given_from false (place + 1) rest)) ∙ sym (ap (reads [] []) (by_word positional place word rest is))
step (disk d) place word rest utf8 ih (is_end is looks _) = takes run_read run (idle) 2 word rest _ true None None looks (closed_in (disk d)) refl refl ∙ closed rest (disk d) (place + 1) refl ∙ sym (ap (reads (d ∷ []) []) (by_word ends place word rest is))
step (disk d) place word rest utf8 ih (is_asking is looks _) = takes run_read run (idle) 2 word rest _ false _ None looks (walk_in (disk_asked d)) refl refl ∙ ih (disk_asked d) ∙ sym (ap (reads (d ∷ []) []) (by_word asks place word rest is))
step (disk d) place word rest utf8 ih (is_giving given is looks _) = takes run_read run (idle) 2 word rest _ false _ None looks (walk_in (disk_reply d given)) refl refl ∙ ih (disk_reply d given) ∙ sym (one_reply (d ∷ []) given (given_from false (place + 1) rest)) ∙ sym (ap (reads (d ∷ []) []) (by_word (gives given) place word rest is))
step (disk d) place word rest utf8 ih (is_long name value is looks other _) = refuses_long idle 2 word rest (held_in (disk d)) refl name value looks other ∙ sym (ap (reads (d ∷ []) []) (by_word stray place word rest is))
step (disk d) place word rest utf8 ih (is_short x xs c is looks first _) = refuses_short idle 2 word rest (held_in (disk d)) refl x xs c looks first ∙ sym (ap (reads (d ∷ []) []) (by_word stray place word rest is))
step (disk d) place word rest utf8 ih (is_plain is looks) = refuses run_read run (idle) 2 word rest _ false None None looks UnknownArgument [] refl ∙ sym (too_many d [] place word (given_from false (place + 1) rest)) ∙ sym (ap (reads (d ∷ []) []) (by_word positional place word rest is))
step (reply_held t) place word rest utf8 ih (is_end is looks _) = takes run_read run (idle) 1 word rest _ true None None looks (closed_in (reply_held t)) refl refl ∙ closed rest (reply_held t) (place + 1) refl ∙ sym (ap (reads [] (t ∷ [])) (by_word ends place word rest is))
step (reply_held t) place word rest utf8 ih (is_asking is looks _) = takes run_read run (idle) 1 word rest _ false _ None looks (wanted_walk (alone t)) refl refl ∙ twice_wanted rest utf8 (alone t) ∙ sym (asks_again [] t (place + 1) rest) ∙ sym (ap (reads [] (t ∷ [])) (by_word asks place word rest is))
step (reply_held t) place word rest utf8 ih (is_giving given is looks _) = refuses run_read run (idle) 1 word rest _ false _ None looks ArgumentConflict [] refl ∙ sym (two_replies [] t given (given_from false (place + 1) rest)) ∙ sym (ap (reads [] (t ∷ [])) (by_word (gives given) place word rest is))
step (reply_held t) place word rest utf8 ih (is_long name value is looks other _) = refuses_long idle 1 word rest (held_in (reply_held t)) refl name value looks other ∙ sym (ap (reads [] (t ∷ [])) (by_word stray place word rest is))
step (reply_held t) place word rest utf8 ih (is_short x xs c is looks first _) = refuses_short idle 1 word rest (held_in (reply_held t)) refl x xs c looks first ∙ sym (ap (reads [] (t ∷ [])) (by_word stray place word rest is))
step (reply_held t) place word rest utf8 ih (is_plain is looks) = takes run_read run (idle) 1 word rest _ false None None looks (walk_in (reply_disk t word)) refl refl ∙ ih (reply_disk t word) ∙ sym (one_more (t ∷ []) place word (given_from false (place + 1) rest)) ∙ sym (ap (reads [] (t ∷ [])) (by_word positional place word rest is))
step (reply t) place word rest utf8 ih (is_end is looks _) = takes run_read run (idle) 1 word rest _ true None None looks (closed_in (reply t)) refl refl ∙ closed rest (reply t) (place + 1) refl ∙ sym (ap (reads [] (t ∷ [])) (by_word ends place word rest is))
step (reply t) place word rest utf8 ih (is_asking is looks _) = takes run_read run (idle) 1 word rest _ false _ None looks (wanted_walk (alone t)) refl refl ∙ twice_wanted rest utf8 (alone t) ∙ sym (asks_again [] t (place + 1) rest) ∙ sym (ap (reads [] (t ∷ [])) (by_word asks place word rest is))
step (reply t) place word rest utf8 ih (is_giving given is looks _) = refuses run_read run (idle) 1 word rest _ false _ None looks ArgumentConflict [] refl ∙ sym (two_replies [] t given (given_from false (place + 1) rest)) ∙ sym (ap (reads [] (t ∷ [])) (by_word (gives given) place word rest is))
step (reply t) place word rest utf8 ih (is_long name value is looks other _) = refuses_long idle 1 word rest (held_in (reply t)) refl name value looks other ∙ sym (ap (reads [] (t ∷ [])) (by_word stray place word rest is))
step (reply t) place word rest utf8 ih (is_short x xs c is looks first _) = refuses_short idle 1 word rest (held_in (reply t)) refl x xs c looks first ∙ sym (ap (reads [] (t ∷ [])) (by_word stray place word rest is))
step (reply t) place word rest utf8 ih (is_plain is looks) = takes run_read run (idle) 1 word rest _ false None None looks (walk_in (reply_disk t word)) refl refl ∙ ih (reply_disk t word) ∙ sym (one_more (t ∷ []) place word (given_from false (place + 1) rest)) ∙ sym (ap (reads [] (t ∷ [])) (by_word positional place word rest is))
step (reply_disk t d) place word rest utf8 ih (is_end is looks _) = takes run_read run (idle) 2 word rest _ true None None looks (closed_in (reply_disk t d)) refl refl ∙ closed rest (reply_disk t d) (place + 1) refl ∙ sym (ap (reads (d ∷ []) (t ∷ [])) (by_word ends place word rest is))
step (reply_disk t d) place word rest utf8 ih (is_asking is looks _) = takes run_read run (idle) 2 word rest _ false _ None looks (wanted_walk (before_disk t d)) refl refl ∙ twice_wanted rest utf8 (before_disk t d) ∙ sym (asks_again (d ∷ []) t (place + 1) rest) ∙ sym (ap (reads (d ∷ []) (t ∷ [])) (by_word asks place word rest is))
step (reply_disk t d) place word rest utf8 ih (is_giving given is looks _) = refuses run_read run (idle) 2 word rest _ false _ None looks ArgumentConflict [] refl ∙ sym (two_replies (d ∷ []) t given (given_from false (place + 1) rest)) ∙ sym (ap (reads (d ∷ []) (t ∷ [])) (by_word (gives given) place word rest is))
step (reply_disk t d) place word rest utf8 ih (is_long name value is looks other _) = refuses_long idle 2 word rest (held_in (reply_disk t d)) refl name value looks other ∙ sym (ap (reads (d ∷ []) (t ∷ [])) (by_word stray place word rest is))
step (reply_disk t d) place word rest utf8 ih (is_short x xs c is looks first _) = refuses_short idle 2 word rest (held_in (reply_disk t d)) refl x xs c looks first ∙ sym (ap (reads (d ∷ []) (t ∷ [])) (by_word stray place word rest is))
step (reply_disk t d) place word rest utf8 ih (is_plain is looks) = refuses run_read run (idle) 2 word rest _ false None None looks UnknownArgument [] refl ∙ sym (too_many d (t ∷ []) place word (given_from false (place + 1) rest)) ∙ sym (ap (reads (d ∷ []) (t ∷ [])) (by_word positional place word rest is))
step (disk_reply_held d t) place word rest utf8 ih (is_end is looks _) = takes run_read run (idle) 2 word rest _ true None None looks (closed_in (disk_reply_held d t)) refl refl ∙ closed rest (disk_reply_held d t) (place + 1) refl ∙ sym (ap (reads (d ∷ []) (t ∷ [])) (by_word ends place word rest is))
step (disk_reply_held d t) place word rest utf8 ih (is_asking is looks _) = takes run_read run (idle) 2 word rest _ false _ None looks (wanted_walk (behind_disk d t)) refl refl ∙ twice_wanted rest utf8 (behind_disk d t) ∙ sym (asks_again (d ∷ []) t (place + 1) rest) ∙ sym (ap (reads (d ∷ []) (t ∷ [])) (by_word asks place word rest is))
step (disk_reply_held d t) place word rest utf8 ih (is_giving given is looks _) = refuses run_read run (idle) 2 word rest _ false _ None looks ArgumentConflict [] refl ∙ sym (two_replies (d ∷ []) t given (given_from false (place + 1) rest)) ∙ sym (ap (reads (d ∷ []) (t ∷ [])) (by_word (gives given) place word rest is))
step (disk_reply_held d t) place word rest utf8 ih (is_long name value is looks other _) = refuses_long idle 2 word rest (held_in (disk_reply_held d t)) refl name value looks other ∙ sym (ap (reads (d ∷ []) (t ∷ [])) (by_word stray place word rest is))
step (disk_reply_held d t) place word rest utf8 ih (is_short x xs c is looks first _) = refuses_short idle 2 word rest (held_in (disk_reply_held d t)) refl x xs c looks first ∙ sym (ap (reads (d ∷ []) (t ∷ [])) (by_word stray place word rest is))
step (disk_reply_held d t) place word rest utf8 ih (is_plain is looks) = refuses run_read run (idle) 2 word rest _ false None None looks UnknownArgument [] refl ∙ sym (too_many d (t ∷ []) place word (given_from false (place + 1) rest)) ∙ sym (ap (reads (d ∷ []) (t ∷ [])) (by_word positional place word rest is))
step (disk_reply d t) place word rest utf8 ih (is_end is looks _) = takes run_read run (idle) 2 word rest _ true None None looks (closed_in (disk_reply d t)) refl refl ∙ closed rest (disk_reply d t) (place + 1) refl ∙ sym (ap (reads (d ∷ []) (t ∷ [])) (by_word ends place word rest is))
step (disk_reply d t) place word rest utf8 ih (is_asking is looks _) = takes run_read run (idle) 2 word rest _ false _ None looks (wanted_walk (behind_disk d t)) refl refl ∙ twice_wanted rest utf8 (behind_disk d t) ∙ sym (asks_again (d ∷ []) t (place + 1) rest) ∙ sym (ap (reads (d ∷ []) (t ∷ [])) (by_word asks place word rest is))
step (disk_reply d t) place word rest utf8 ih (is_giving given is looks _) = refuses run_read run (idle) 2 word rest _ false _ None looks ArgumentConflict [] refl ∙ sym (two_replies (d ∷ []) t given (given_from false (place + 1) rest)) ∙ sym (ap (reads (d ∷ []) (t ∷ [])) (by_word (gives given) place word rest is))
step (disk_reply d t) place word rest utf8 ih (is_long name value is looks other _) = refuses_long idle 2 word rest (held_in (disk_reply d t)) refl name value looks other ∙ sym (ap (reads (d ∷ []) (t ∷ [])) (by_word stray place word rest is))
step (disk_reply d t) place word rest utf8 ih (is_short x xs c is looks first _) = refuses_short idle 2 word rest (held_in (disk_reply d t)) refl x xs c looks first ∙ sym (ap (reads (d ∷ []) (t ∷ [])) (by_word stray place word rest is))
step (disk_reply d t) place word rest utf8 ih (is_plain is looks) = refuses run_read run (idle) 2 word rest _ false None None looks UnknownArgument [] refl ∙ sym (too_many d (t ∷ []) place word (given_from false (place + 1) rest)) ∙ sym (ap (reads (d ∷ []) (t ∷ [])) (by_word positional place word rest is))
step asked place word rest utf8 ih (is_end is looks no_t) = takes run_read run (option reply_id) 1 word rest _ true None None looks (closed_walk (held_in asked) (option reply_id) 1) refl refl ∙ wants_none [] true rest ∙ sym (bad_reply [] word (given_from false (place + 1) rest) no_t) ∙ sym (ap (reads [] []) (behind_reply place word rest))
step asked place word rest utf8 ih (is_asking is looks no_t) = refuses run_read run (option reply_id) 1 word rest _ false _ None looks InvalidValue [] refl ∙ sym (bad_reply [] word (given_from false (place + 1) rest) no_t) ∙ sym (ap (reads [] []) (behind_reply place word rest))
step asked place word rest utf8 ih (is_giving given is looks no_t) = refuses run_read run (option reply_id) 1 word rest _ false _ None looks InvalidValue [] refl ∙ sym (bad_reply [] word (given_from false (place + 1) rest) no_t) ∙ sym (ap (reads [] []) (behind_reply place word rest))
step asked place word rest utf8 ih (is_long name value is looks other no_t) = refuses_long (option reply_id) 1 word rest (held_in asked) refl name value looks other ∙ sym (bad_reply [] word (given_from false (place + 1) rest) no_t) ∙ sym (ap (reads [] []) (behind_reply place word rest))
step asked place word rest utf8 ih (is_short x xs c is looks first no_t) = refuses_short (option reply_id) 1 word rest (held_in asked) refl x xs c looks first ∙ sym (bad_reply [] word (given_from false (place + 1) rest) no_t) ∙ sym (ap (reads [] []) (behind_reply place word rest))
step asked place word rest utf8 ih (is_plain is looks) = takes run_read run (option reply_id) 1 word rest _ false None None looks (walk_in (reply_held word)) refl refl ∙ ih (reply_held word) ∙ sym (one_reply [] word (given_from false (place + 1) rest)) ∙ sym (ap (reads [] []) (behind_reply place word rest))
step (disk_asked d) place word rest utf8 ih (is_end is looks no_t) = takes run_read run (option reply_id) 2 word rest _ true None None looks (closed_walk (held_in (disk_asked d)) (option reply_id) 2) refl refl ∙ wants_none (row disk_id d ∷ []) false rest ∙ sym (bad_reply (d ∷ []) word (given_from false (place + 1) rest) no_t) ∙ sym (ap (reads (d ∷ []) []) (behind_reply place word rest))
step (disk_asked d) place word rest utf8 ih (is_asking is looks no_t) = refuses run_read run (option reply_id) 2 word rest _ false _ None looks InvalidValue [] refl ∙ sym (bad_reply (d ∷ []) word (given_from false (place + 1) rest) no_t) ∙ sym (ap (reads (d ∷ []) []) (behind_reply place word rest))
step (disk_asked d) place word rest utf8 ih (is_giving given is looks no_t) = refuses run_read run (option reply_id) 2 word rest _ false _ None looks InvalidValue [] refl ∙ sym (bad_reply (d ∷ []) word (given_from false (place + 1) rest) no_t) ∙ sym (ap (reads (d ∷ []) []) (behind_reply place word rest))
step (disk_asked d) place word rest utf8 ih (is_long name value is looks other no_t) = refuses_long (option reply_id) 2 word rest (held_in (disk_asked d)) refl name value looks other ∙ sym (bad_reply (d ∷ []) word (given_from false (place + 1) rest) no_t) ∙ sym (ap (reads (d ∷ []) []) (behind_reply place word rest))
step (disk_asked d) place word rest utf8 ih (is_short x xs c is looks first no_t) = refuses_short (option reply_id) 2 word rest (held_in (disk_asked d)) refl x xs c looks first ∙ sym (bad_reply (d ∷ []) word (given_from false (place + 1) rest) no_t) ∙ sym (ap (reads (d ∷ []) []) (behind_reply place word rest))
step (disk_asked d) place word rest utf8 ih (is_plain is looks) = takes run_read run (option reply_id) 2 word rest _ false None None looks (walk_in (disk_reply_held d word)) refl refl ∙ ih (disk_reply_held d word) ∙ sym (one_reply (d ∷ []) word (given_from false (place + 1) rest)) ∙ sym (ap (reads (d ∷ []) []) (behind_reply place word rest))

-- the words from a state on
reads_alike : (words : List Text) → EachUtf8 words → (s : State) (place : ℕ) → ReadsAlike s place words
unfolding walk_fault walked defaults_fault given_from
reads_alike [] utf8 empty place = refl
reads_alike [] utf8 (disk d) place = refl
reads_alike [] utf8 asked place = refl
reads_alike [] utf8 (reply_held t) place = sym (no_disk (t ∷ []))
reads_alike [] utf8 (reply t) place = sym (no_disk (t ∷ []))
reads_alike [] utf8 (reply_disk t d) place = refl
reads_alike [] utf8 (disk_asked d) place = refl
reads_alike [] utf8 (disk_reply_held d t) place = refl
reads_alike [] utf8 (disk_reply d t) place = refl
reads_alike (word ∷ rest) utf8 s place = step s place word rest utf8.1 (λ after. reads_alike rest utf8.1 after (place + 1)) (view word utf8.0)

-- clap reads the words behind `run` as the grammar does
pub run_words : (words : List Text) → EachUtf8 words → read_from run_read (leaf run_shape) (walk_from nothing_held) words
    ≡ option_and_then (λ (g : Given). run_of (texts_of g.positionals) g.replies) (given_from false 1 words)
run_words words utf8 = reads_alike words utf8 empty 1
