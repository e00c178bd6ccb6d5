-- The words behind `format`, as clap walks over them and as the grammar reads them.
use Rattle.std.proofs.Common.{◌≡◌, ◌∙◌, ℕ, ◌+◌, true, false, refl, sym, ap, List, [], ◌∷◌, ◌++◌, Option, Some, None}
use Rattle.std.specs.Prelude.{codes, option_map, option_and_then}
use Rattle.clap.specs.Walk.{Held, Text, Walk, idle, nothing_held, walk_from, walked}
use Rattle.clap.specs.Simple.{Shape}
use Rattle.clap.specs.Faults.{defaults_fault, walk_fault}
use Rattle.ckr_words.specs.Line.{format_shape}
use Rattle.ckr_words.specs.Words.{Given, Word, ends, asks, gives, stray, positional, word_of, all_positional, given_by, given_from, format_of, only_without, texts_of, with_positional, with_reply}
use Rattle.ckr_words.specs.declared.words.Command.{Command}
use Rattle.clap.specs.declared.error.kind.ErrorKind.TheVariants.{UnknownArgument}
use Rattle.ckr_words.proofs.Steps.{letters_refused, open_walk, read_from, refuses, takes}
use Rattle.ckr_words.proofs.Views.{View, is_asking, is_end, is_giving, is_long, is_plain, is_short, EachUtf8, view}
use Rattle.ckr_words.proofs.Leaves.{closed_walk, held, leaf}
use Rattle.ckr_words.specs.Matches.{format_read}

abbrev format : Shape
format = leaf format_shape

-- where the words so far leave clap
data State : Type 0 where
  empty : State
  disk : Text → State

abbrev held_in : State → Held
held_in empty = held [] None
held_in (disk d) = held [] (Some (codes "disk", d ∷ []))

abbrev position_in : State → ℕ
position_in empty = 1
position_in (disk d) = 2

abbrev given_so_far : State → List Text
given_so_far empty = []
given_so_far (disk d) = (d ∷ [])

abbrev walk_in : State → Walk
walk_in s = open_walk (held_in s) idle (position_in s)

abbrev closed_in : State → Walk
closed_in s = closed_walk (held_in s) idle (position_in s)

abbrev clap_reads : Walk → List Text → Option Command
clap_reads = read_from format_read format

-- what the grammar reads, behind these words
abbrev reads : List Text → Option Given → Option Command
reads front given = option_and_then (λ (g : Given). format_of (front ++ texts_of g.positionals) g.replies) given

-- ---- the grammar, word by word

a_reply : (front : List Text) (u : Text) (o : Option Given) → reads front (option_map (with_reply u) o) ≡ None
a_reply front u None = refl
a_reply front u (Some g) = refl

asks_one : (front : List Text) (place : ℕ) (words : List Text) → reads front (given_from true place words) ≡ None
unfolding given_from
asks_one front place [] = refl
asks_one front place (word ∷ rest) = a_reply front word (given_from false (place + 1) rest)

nothing : (replies : List Text) → only_without {X = Command} replies None ≡ None
nothing [] = refl
nothing (u ∷ rest) = refl

by_word : (k : Word) (place : ℕ) (word : Text) (rest : List Text) → word_of word ≡ k
    → given_from false place (word ∷ rest) ≡ given_by k place word rest (λ asked. given_from asked (place + 1) rest)
unfolding given_from
by_word k place word rest is = ap (λ w. given_by w place word rest (λ asked. given_from asked (place + 1) rest)) is

more_empty : (place : ℕ) (word : Text) (o : Option Given) → reads [] (option_map (with_positional place word) o) ≡ reads (word ∷ []) o
more_empty place word None = refl
more_empty place word (Some g) = refl

too_many : (d : Text) (place : ℕ) (word : Text) (o : Option Given) → reads (d ∷ []) (option_map (with_positional place word) o) ≡ None
too_many d place word None = refl
too_many d place word (Some g) = nothing g.replies

-- ---- behind `--`

closed : (words : List Text) (s : State) (place : ℕ) → clap_reads (closed_in s) words ≡ reads (given_so_far s) (Some (all_positional place words))
unfolding walk_fault walked defaults_fault
closed [] empty place = refl
closed [] (disk d) place = refl
closed (word ∷ rest) empty place = closed rest (disk word) (place + 1)
closed (word ∷ rest) (disk d) place = refl

-- ---- in front of `--`

abbrev ReadsAlike : State → ℕ → List Text → Type 0
ReadsAlike s place words = clap_reads (walk_in s) words ≡ reads (given_so_far s) (given_from false place words)

step : (s : State) (place : ℕ) (word : Text) (rest : List Text) → ((after : State) → ReadsAlike after (place + 1) rest) → View word → ReadsAlike s place (word ∷ rest)
step empty place word rest ih (is_end is looks _) = takes format_read format idle 1 word rest _ true None None looks (closed_in empty) refl refl ∙ closed rest empty (place + 1) ∙ sym (ap (reads []) (by_word ends place word rest is))
step empty place word rest ih (is_asking is looks _) = refuses format_read format idle 1 word rest _ false _ None looks UnknownArgument [] refl ∙ sym (asks_one [] (place + 1) rest) ∙ sym (ap (reads []) (by_word asks place word rest is))
step empty place word rest ih (is_giving given is looks _) = refuses format_read format idle 1 word rest _ false _ None looks UnknownArgument [] refl ∙ sym (a_reply [] given (given_from false (place + 1) rest)) ∙ sym (ap (reads []) (by_word (gives given) place word rest is))
step empty place word rest ih (is_long name value is looks other _) = refuses format_read format idle 1 word rest _ false _ None looks UnknownArgument [] refl ∙ sym (ap (reads []) (by_word stray place word rest is))
step empty place word rest ih (is_short x xs c is looks first _) = refuses format_read format idle 1 word rest (held_in empty) false None (Some (x ∷ xs)) looks UnknownArgument [] (letters_refused format idle 1 word (held_in empty) x xs c (λ y. refl) refl first) ∙ sym (ap (reads []) (by_word stray place word rest is))
step empty place word rest ih (is_plain is looks) = takes format_read format idle 1 word rest _ false None None looks (walk_in (disk word)) refl refl ∙ ih (disk word) ∙ sym (more_empty place word (given_from false (place + 1) rest)) ∙ sym (ap (reads []) (by_word positional place word rest is))
step (disk d) place word rest ih (is_end is looks _) = takes format_read format idle 2 word rest _ true None None looks (closed_in (disk d)) refl refl ∙ closed rest (disk d) (place + 1) ∙ sym (ap (reads (d ∷ [])) (by_word ends place word rest is))
step (disk d) place word rest ih (is_asking is looks _) = refuses format_read format idle 2 word rest _ false _ None looks UnknownArgument [] refl ∙ sym (asks_one (d ∷ []) (place + 1) rest) ∙ sym (ap (reads (d ∷ [])) (by_word asks place word rest is))
step (disk d) place word rest ih (is_giving given is looks _) = refuses format_read format idle 2 word rest _ false _ None looks UnknownArgument [] refl ∙ sym (a_reply (d ∷ []) given (given_from false (place + 1) rest)) ∙ sym (ap (reads (d ∷ [])) (by_word (gives given) place word rest is))
step (disk d) place word rest ih (is_long name value is looks other _) = refuses format_read format idle 2 word rest _ false _ None looks UnknownArgument [] refl ∙ sym (ap (reads (d ∷ [])) (by_word stray place word rest is))
step (disk d) place word rest ih (is_short x xs c is looks first _) = refuses format_read format idle 2 word rest (held_in (disk d)) false None (Some (x ∷ xs)) looks UnknownArgument [] (letters_refused format idle 2 word (held_in (disk d)) x xs c (λ y. refl) refl first) ∙ sym (ap (reads (d ∷ [])) (by_word stray place word rest is))
step (disk d) place word rest ih (is_plain is looks) = refuses format_read format idle 2 word rest _ false None None looks UnknownArgument [] refl ∙ sym (too_many d place word (given_from false (place + 1) rest)) ∙ sym (ap (reads (d ∷ [])) (by_word positional place word rest is))

reads_alike : (words : List Text) → EachUtf8 words → (s : State) (place : ℕ) → ReadsAlike s place words
unfolding walk_fault walked defaults_fault given_from
reads_alike [] utf8 empty place = refl
reads_alike [] utf8 (disk d) place = refl
reads_alike (word ∷ rest) utf8 s place = step s place word rest (λ after. reads_alike rest utf8.1 after (place + 1)) (view word utf8.0)

-- clap reads the words behind `format` as the grammar does
pub format_words : (words : List Text) → EachUtf8 words → read_from format_read (leaf format_shape) (walk_from nothing_held) words
    ≡ option_and_then (λ (g : Given). format_of (texts_of g.positionals) g.replies) (given_from false 1 words)
format_words words utf8 = reads_alike words utf8 empty 1
