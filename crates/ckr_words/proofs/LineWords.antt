-- What clap makes of the whole line is what the grammar reads.
use Rattle.std.proofs.Common.{◌≡◌, ◌∙◌, Bool, true, false, refl, sym, ap, List, [], ◌∷◌, ◌++◌, Option, Some, None, fold, append_assoc, append-nil, if◌then◌else◌}
use Rattle.std.specs.Prelude.{bytes_eq, codes, is_some, option_and_then}
use Rattle.std.specs.Str.{IsUtf8}
use Rattle.std.proofs.lemmas.Slice.Eq.{bytes_eq-Decides}
use Rattle.clap.specs.Walk.{finished, settled, Names, Row, Text, Walk, nothing_held, rows_after, walk_from, walked}
use Rattle.clap.specs.Simple.{Shape, built, entered, names_of, subcommand_of}
use Rattle.clap.specs.Kinds.{Kinds, or_else}
use Rattle.clap.specs.Faults.{check_fault, entered_fault, settle_fault, defaults_fault, fault_of, flags_fault, level_fault, turn_fault, walk_fault}
use Rattle.clap.proofs.FaultLemmas.{stopped_fault}
use Rattle.clap.specs.declared.error.kind.ErrorKind.{ErrorKind}
use Rattle.clap.specs.declared.error.kind.ErrorKind.TheVariants.{InvalidSubcommand, UnknownArgument}
use Rattle.ckr_words.specs.Line.{format_shape, line_app, make_shape, run_shape}
use Rattle.ckr_words.specs.Words.{Given, command_of, format_of, given_from, make_of, run_of, texts_of}
use Rattle.ckr_words.specs.declared.words.Command.{Command}
use Rattle.ckr_words.proofs.Steps.{read_from, read_where}
use Rattle.ckr_words.proofs.Views.{EachUtf8, View, is_asking, is_end, is_giving, is_long, is_plain, is_short, view}
use Rattle.ckr_words.specs.Matches.{format_read, line_reads, make_read, run_read, sub_read}
use Rattle.ckr_words.proofs.Leaves.{leaf}
use Rattle.ckr_words.proofs.FormatWords.{format_words}
use Rattle.ckr_words.proofs.MakeWords.{make_words}
use Rattle.ckr_words.proofs.RunWords.{run_words}

abbrev top : Shape
top = (built line_app).top

abbrev names : Names
names = names_of (built line_app)

abbrev stopped_walk : Text × List Text → Walk
stopped_walk p = record (walk_from nothing_held) { stopped = Some p }

-- behind a subcommand the words are only gathered
stays_stopped : (words : List Text) (name : Text) (front : List Text) → fold (walked top.rules names) (stopped_walk (name, front)) words ≡ stopped_walk (name, front ++ words)
unfolding walked
stays_stopped [] name front = ap (λ ws. stopped_walk (name, ws)) (sym (append-nil front))
stays_stopped (word ∷ rest) name front =
    stays_stopped rest name (front ++ word ∷ []) ∙ ap (λ ws. stopped_walk (name, ws)) (append_assoc front (word ∷ []) rest)

-- what comes of the walk over the whole line
abbrev whole : Kinds → Walk → Option Command
whole fault end = line_reads
    (or_else fault (or_else (entered_fault (built line_app) end.stopped) (or_else (settle_fault top.rules top.args_override_self end.held)
    (or_else (defaults_fault (settled top.rules end.held).rows top.rules) (check_fault top (finished top.rules end.held) (is_some (entered (built line_app) end.stopped)))))))
    (entered (built line_app) end.stopped)

abbrev clap_line : List Text → Option Command
clap_line words = line_reads (fault_of line_app words) (subcommand_of line_app words)

nothing_behind : (name : Text) (read : List Row → Option Command) (fault : Kinds) (rows : List Row) → sub_read (Some (name, rows)) ≡ read rows
    → line_reads (or_else fault []) (Some (name, rows)) ≡ read_where read fault rows
nothing_behind name read [] rows is = is
nothing_behind name read (k ∷ ks) rows is = refl

by_format : (rest : List Text) → clap_line (codes "format" ∷ rest) ≡ read_from format_read (leaf format_shape) (walk_from nothing_held) rest
unfolding walk_fault walked defaults_fault
by_format rest = (λ i. whole (stopped_fault top names (walk_from nothing_held) (codes "format", []) rest i) (stays_stopped rest (codes "format") [] i))
    ∙ nothing_behind (codes "format") format_read (level_fault (leaf format_shape) [] nothing_held rest false []) (rows_after (leaf format_shape).rules [] rest) refl

by_run : (rest : List Text) → clap_line (codes "run" ∷ rest) ≡ read_from run_read (leaf run_shape) (walk_from nothing_held) rest
unfolding walk_fault walked defaults_fault
by_run rest = (λ i. whole (stopped_fault top names (walk_from nothing_held) (codes "run", []) rest i) (stays_stopped rest (codes "run") [] i))
    ∙ nothing_behind (codes "run") run_read (level_fault (leaf run_shape) [] nothing_held rest false []) (rows_after (leaf run_shape).rules [] rest) refl

by_make : (rest : List Text) → clap_line (codes "make" ∷ rest) ≡ read_from make_read (leaf make_shape) (walk_from nothing_held) rest
unfolding walk_fault walked defaults_fault
by_make rest = (λ i. whole (stopped_fault top names (walk_from nothing_held) (codes "make", []) rest i) (stays_stopped rest (codes "make") [] i))
    ∙ nothing_behind (codes "make") make_read (level_fault (leaf make_shape) [] nothing_held rest false []) (rows_after (leaf make_shape).rules [] rest) refl

-- a first word that is refused
first_refused : (word : Text) (rest : List Text) (k : ErrorKind) (ks : Kinds) → turn_fault top names (walk_from nothing_held) word ≡ k ∷ ks → clap_line (word ∷ rest) ≡ None
unfolding walk_fault
first_refused word rest k ks is =
    ap (λ turn. whole (or_else turn (walk_fault top names (walked top.rules names (walk_from nothing_held) word) rest))
    (fold (walked top.rules names) (walked top.rules names (walk_from nothing_held) word) rest)) is

dashes_first : (rest : List Text) → clap_line (codes "--" ∷ rest) ≡ None
unfolding walk_fault walked defaults_fault
dashes_first [] = refl
dashes_first (word ∷ rest) = refl

module _ (word : Text) (rest : List Text) (no_format : bytes_eq (codes "format") word ≡ false) (no_run : bytes_eq (codes "run") word ≡ false)
    (no_make : bytes_eq (codes "make") word ≡ false) where
  no_command : View word → clap_line (word ∷ rest) ≡ None
  unfolding flags_fault
  no_command (is_end _ looks _) =
      let is : word ≡ codes "--" = (bytes_eq-Decides _ _).0 looks.is_end in
      ap (λ w. clap_line (w ∷ rest)) is ∙ dashes_first rest
  no_command (is_asking _ looks _) = first_refused word rest UnknownArgument [] (rw (no_format, no_run, no_make, looks.is_end, looks.is_long) refl)
  no_command (is_giving given _ looks _) = first_refused word rest UnknownArgument [] (rw (no_format, no_run, no_make, looks.is_end, looks.is_long) refl)
  no_command (is_long name value _ looks _ _) = first_refused word rest UnknownArgument [] (rw (no_format, no_run, no_make, looks.is_end, looks.is_long) refl)
  no_command (is_short x xs c _ looks first _) =
      first_refused word rest UnknownArgument [] (rw (no_format, no_run, no_make, looks.is_end, looks.is_long, looks.is_short, first) refl)
  no_command (is_plain _ looks) =
      first_refused word rest UnknownArgument (InvalidSubcommand ∷ []) (rw (no_format, no_run, no_make, looks.is_end, looks.is_long, looks.is_short) refl)

-- ---- the grammar, by the first word

turned : (xs ys : Text) (b : Bool) → bytes_eq xs ys ≡ b → bytes_eq ys xs ≡ b
turned xs ys true is = (bytes_eq-Decides ys xs).1 (sym ((bytes_eq-Decides xs ys).0 is))
turned xs ys false is = go (bytes_eq ys xs) refl
  where
    go : (b : Bool) → bytes_eq ys xs ≡ b → b ≡ false
    go false e = refl
    go true e = sym ((bytes_eq-Decides xs ys).1 (sym ((bytes_eq-Decides ys xs).0 e))) ∙ is

abbrev chosen : Bool → Bool → Bool → Given → Option Command
chosen is_format is_run is_make given =
    if is_format then format_of (texts_of given.positionals) given.replies
    else if is_run then run_of (texts_of given.positionals) given.replies
    else if is_make then make_of (texts_of given.positionals) given.replies
    else None

abbrev never : Given → Option Command
never given = None

never_given : (o : Option Given) → option_and_then never o ≡ None
never_given None = refl
never_given (Some given) = refl

line_from : (word : Text) (rest : List Text) → IsUtf8 word → EachUtf8 rest → (is_format is_run is_make : Bool)
    → bytes_eq (codes "format") word ≡ is_format → bytes_eq (codes "run") word ≡ is_run → bytes_eq (codes "make") word ≡ is_make
    → clap_line (word ∷ rest) ≡ command_of (word ∷ rest)
line_from word rest this utf8 true is_run is_make f r m =
    let is : word ≡ codes "format" = sym ((bytes_eq-Decides _ _).0 f) in
    ap (λ w. clap_line (w ∷ rest)) is ∙ by_format rest ∙ format_words rest utf8 ∙ sym (ap (λ w. command_of (w ∷ rest)) is)
line_from word rest this utf8 false true is_make f r m =
    let is : word ≡ codes "run" = sym ((bytes_eq-Decides _ _).0 r) in
    ap (λ w. clap_line (w ∷ rest)) is ∙ by_run rest ∙ run_words rest utf8 ∙ sym (ap (λ w. command_of (w ∷ rest)) is)
line_from word rest this utf8 false false true f r m =
    let is : word ≡ codes "make" = sym ((bytes_eq-Decides _ _).0 m) in
    ap (λ w. clap_line (w ∷ rest)) is ∙ by_make rest ∙ make_words rest utf8 ∙ sym (ap (λ w. command_of (w ∷ rest)) is)
line_from word rest this utf8 false false false f r m =
    let no_format : bytes_eq word (codes "format") ≡ false = turned (codes "format") word false f in
    let no_run : bytes_eq word (codes "run") ≡ false = turned (codes "run") word false r in
    let no_make : bytes_eq word (codes "make") ≡ false = turned (codes "make") word false m in
    let unknown : command_of (word ∷ rest) ≡ None =
    (λ i. option_and_then (chosen (no_format i) (no_run i) (no_make i)) (given_from false 1 rest)) ∙ never_given (given_from false 1 rest) in
    no_command word rest f r m (view word this) ∙ sym unknown

-- clap's reading of the line is the grammar's
pub line_words : (words : List Text) → EachUtf8 words → clap_line words ≡ command_of words
unfolding walk_fault walked defaults_fault
line_words [] utf8 = refl
line_words (word ∷ rest) utf8 = line_from word rest utf8.0 utf8.1 _ _ _ refl refl refl
