-- The summary of the words tells where DISK stands.
use Rattle.std.proofs.Common.{◌≡◌, ◌∙◌, ◌≤◌, ◌<◌, ◌+◌, ◌-◌, ◌*◌, take, length-drop, ℕ, ◌==◌, ◌&&◌, ◌||◌, Bool, true, false, refl, sym, ap, arith, List, [], ◌∷◌, map, length, Option, Some, None, if◌then◌else◌, true≢false}
use Rattle.std.specs.Prelude.{bytes_eq, codes, drop, is_some, nat_eq, option_map, option_and_then}
use Rattle.std.specs.List.{enumerate_from, starts_with}
use Rattle.std.proofs.lemmas.List.{take_all}
use Rattle.ckr_words.specs.Summaries.{found_by, kind_by, summary_of, up_to_three, up_to_two, with_positional_in, with_reply_in, first_jobs, begins_with_scripts, last_of_two}
use Rattle.ckr_console.specs.Scripts.{scripts_of}
use Rattle.ckr_words.specs.Words.{Given, Text, Word, ends, asks, gives, stray, positional, all_positional, command_in, command_of, disk_place_of, format_of, given_by, given_from, is_option, jobs_of, kind_of, kind_of_words, last_place, make_of, positionals_in, run_of, texts_of, with_positional, with_reply, word_of}
use Rattle.ckr_console.specs.declared.scripts.Script.{Script}
use Rattle.ckr_words.specs.declared.words.Command.{Command}
use Rattle.ckr_words.specs.declared.words.Command.TheVariants.{Make, Run}
use Rattle.ckr_words.specs.declared.words.Kind.{Kind}
use Rattle.ckr_words.specs.declared.words.Kind.TheVariants as Kinds
use Rattle.ckr_words.specs.declared.summary.Found.{Found}
use Rattle.ckr_words.specs.declared.summary.Summary.{Summary}

-- what is found of a command, where DISK stands at this place
abbrev told : ℕ → Option Command → Option Found
told place command = option_map (λ c. record { kind = kind_of c; disk = place }) command

abbrev found_at : ℕ → Option Kind → Option Found
found_at place kind = option_map (λ k. record { kind = k; disk = place }) kind

format_told : (positionals : List (ℕ × Text)) (replies : List Text) → told (last_place positionals) (format_of (texts_of positionals) replies)
    ≡ found_at (last_of_two positionals) (if up_to_three positionals == 1 && up_to_two replies == 0 then Some Kinds.Format else None)
format_told [] [] = refl
format_told [] (t ∷ []) = refl
format_told [] (t ∷ u ∷ more) = refl
format_told (p ∷ []) [] = refl
format_told (p ∷ []) (t ∷ []) = refl
format_told (p ∷ []) (t ∷ u ∷ more) = refl
format_told (p ∷ q ∷ []) [] = refl
format_told (p ∷ q ∷ []) (t ∷ []) = refl
format_told (p ∷ q ∷ []) (t ∷ u ∷ more) = refl
format_told (p ∷ q ∷ r ∷ rest) [] = refl
format_told (p ∷ q ∷ r ∷ rest) (t ∷ []) = refl
format_told (p ∷ q ∷ r ∷ rest) (t ∷ u ∷ more) = refl

-- an answer that hangs on T alone
by_scripts : {X : Type 0} (x : X) (o : Option (List Script)) (place : ℕ)
    → told place (option_and_then (λ operators. option_map (λ d. Run operators) (Some x)) o) ≡ found_at place (if is_some o then Some Kinds.Run else None)
by_scripts x None place = refl
by_scripts x (Some operators) place = refl

abbrev never : List Script → Option Command
never operators = None

nothing_by_scripts : (o : Option (List Script)) (place : ℕ) → told place (option_and_then never o) ≡ None
nothing_by_scripts None place = refl
nothing_by_scripts (Some operators) place = refl

run_told : (positionals : List (ℕ × Text)) (replies : List Text) → told (last_place positionals) (run_of (texts_of positionals) replies)
    ≡ found_at (last_of_two positionals)
    (if up_to_three positionals == 1 && (up_to_two replies == 0 || (up_to_two replies == 1 && begins_with_scripts replies)) then Some Kinds.Run else None)
run_told [] [] = refl
run_told [] (t ∷ []) = nothing_by_scripts (scripts_of t) 0
run_told [] (t ∷ u ∷ more) = refl
run_told (p ∷ []) [] = refl
run_told (p ∷ []) (t ∷ []) = by_scripts p.1 (scripts_of t) p.0
run_told (p ∷ []) (t ∷ u ∷ more) = refl
run_told (p ∷ q ∷ []) [] = refl
run_told (p ∷ q ∷ []) (t ∷ []) = nothing_by_scripts (scripts_of t) q.0
run_told (p ∷ q ∷ []) (t ∷ u ∷ more) = refl
run_told (p ∷ q ∷ r ∷ rest) [] = refl
run_told (p ∷ q ∷ r ∷ rest) (t ∷ []) = nothing_by_scripts (scripts_of t) (last_place (p ∷ q ∷ r ∷ rest))
run_told (p ∷ q ∷ r ∷ rest) (t ∷ u ∷ more) = refl

by_jobs : (o : Option ℕ) (place : ℕ) → told place (option_map Make o) ≡ found_at place (option_map Kinds.Make o)
by_jobs None place = refl
by_jobs (Some jobs) place = refl

make_told : (positionals : List (ℕ × Text)) (replies : List Text) → told (last_place positionals) (make_of (texts_of positionals) replies)
    ≡ found_at (last_of_two positionals)
    (if up_to_three positionals == 2 && up_to_two replies == 0 then option_map Kinds.Make (first_jobs positionals) else None)
make_told [] [] = refl
make_told [] (t ∷ []) = refl
make_told [] (t ∷ u ∷ more) = refl
make_told (p ∷ []) [] = refl
make_told (p ∷ []) (t ∷ []) = refl
make_told (p ∷ []) (t ∷ u ∷ more) = refl
make_told (p ∷ q ∷ []) [] = by_jobs (jobs_of p.1) q.0
make_told (p ∷ q ∷ []) (t ∷ []) = refl
make_told (p ∷ q ∷ []) (t ∷ u ∷ more) = refl
make_told (p ∷ q ∷ r ∷ rest) [] = refl
make_told (p ∷ q ∷ r ∷ rest) (t ∷ []) = refl
make_told (p ∷ q ∷ r ∷ rest) (t ∷ u ∷ more) = refl

by_names : (is_format is_run is_make : Bool) (place last : ℕ) (a b c : Option Command) (x y z : Option Kind)
    → told place a ≡ found_at last x → told place b ≡ found_at last y → told place c ≡ found_at last z
    → told place (if is_format then a else if is_run then b else if is_make then c else None)
    ≡ found_at last (if is_format then x else if is_run then y else if is_make then z else None)
by_names true is_run is_make place last a b c x y z e f g = e
by_names false true is_make place last a b c x y z e f g = f
by_names false false true place last a b c x y z e f g = g
by_names false false false place last a b c x y z e f g = refl

told_is : (name : Text) (given : Given) → told (last_place given.positionals) (command_in name given) ≡ found_by name (summary_of given)
told_is name given = by_names (bytes_eq name (codes "format")) (bytes_eq name (codes "run")) (bytes_eq name (codes "make")) _ _ _ _ _ _ _ _
    (format_told given.positionals given.replies) (run_told given.positionals given.replies) (make_told given.positionals given.replies)

-- what is told of a command has its kind and its place
kind_told : (place : ℕ) (o : Option Command) → option_map (λ (f : Found). f.kind) (told place o) ≡ option_map kind_of o
kind_told place None = refl
kind_told place (Some command) = refl

disk_told : (place : ℕ) (o : Option Command) → option_map (λ (f : Found). f.disk) (told place o) ≡ option_map (λ (c : Command). place) o
disk_told place None = refl
disk_told place (Some command) = refl

untold : (place : ℕ) (o : Option Command) → told place o ≡ None → o ≡ None
untold place None none = refl
untold place (Some command) none = absurd (cc none)

-- ---- one word more

one_positional : (positionals : List (ℕ × Text)) (replies : List Text) (place : ℕ) (word : Text)
    → summary_of (with_positional place word (record { positionals = positionals; replies = replies })) ≡ with_positional_in place word (summary_of (record { positionals = positionals; replies = replies }))
one_positional [] replies place word = refl
one_positional (p ∷ []) replies place word = refl
one_positional (p ∷ q ∷ []) replies place word = refl
one_positional (p ∷ q ∷ r ∷ rest) replies place word = refl

one_reply : (positionals : List (ℕ × Text)) (replies : List Text) (reply : Text)
    → summary_of (with_reply reply (record { positionals = positionals; replies = replies })) ≡ with_reply_in reply (summary_of (record { positionals = positionals; replies = replies }))
one_reply positionals [] reply = refl
one_reply positionals (t ∷ []) reply = refl
one_reply positionals (t ∷ u ∷ more) reply = refl

pub placed_more : (place : ℕ) (word : Text) (words : List Text) → summary_of (all_positional place (word ∷ words)) ≡ with_positional_in place word (summary_of (all_positional (place + 1) words))
placed_more place word words = one_positional (enumerate_from (place + 1) words) [] place word

pub positionals_more : (place : ℕ) (word : Text) (o : Option Given) → option_map summary_of (option_map (with_positional place word) o) ≡ option_map (with_positional_in place word) (option_map summary_of o)
positionals_more place word None = refl
positionals_more place word (Some given) = ap Some (one_positional given.positionals given.replies place word)

pub replies_more : (reply : Text) (o : Option Given) → option_map summary_of (option_map (with_reply reply) o) ≡ option_map (with_reply_in reply) (option_map summary_of o)
replies_more reply None = refl
replies_more reply (Some given) = ap Some (one_reply given.positionals given.replies reply)

abbrev pub summed : Bool → ℕ → List Text → Option Summary
summed asked place words = option_map summary_of (given_from asked place words)

pub behind_reply : (place : ℕ) (word : Text) (rest : List Text) → summed true place (word ∷ rest) ≡ option_map (with_reply_in word) (summed false (place + 1) rest)
unfolding given_from
behind_reply place word rest = replies_more word (given_from false (place + 1) rest)

abbrev pub summed_by : Word → ℕ → Text → List Text → Option Summary
summed_by ends place word rest = Some (summary_of (all_positional (place + 1) rest))
summed_by asks place word rest = summed true (place + 1) rest
summed_by (gives reply) place word rest = option_map (with_reply_in reply) (summed false (place + 1) rest)
summed_by stray place word rest = None
summed_by positional place word rest = option_map (with_positional_in place word) (summed false (place + 1) rest)

each_word : (k : Word) (place : ℕ) (word : Text) (rest : List Text)
    → option_map summary_of (given_by k place word rest (λ asked. given_from asked (place + 1) rest)) ≡ summed_by k place word rest
each_word ends place word rest = refl
each_word asks place word rest = refl
each_word (gives reply) place word rest = replies_more reply (given_from false (place + 1) rest)
each_word stray place word rest = refl
each_word positional place word rest = positionals_more place word (given_from false (place + 1) rest)

pub by_word : (k : Word) (place : ℕ) (word : Text) (rest : List Text) → word_of word ≡ k → summed false place (word ∷ rest) ≡ summed_by k place word rest
unfolding given_from
by_word k place word rest is = each_word (word_of word) place word rest ∙ ap (λ w. summed_by w place word rest) is

pub none_in : {A : Type 0} (f : A → Text) (xs : List A) → length xs ≡ 0 → map f xs ≡ []
none_in f [] none = refl
none_in f (x ∷ xs) none = absurd (omega arith)

-- a slice from a place on is what is left there
pub slice_is : (n : ℕ) (bytes : Text) → take (length bytes - n) (drop n bytes) ≡ drop n bytes
slice_is n bytes = take_all (length bytes - n) (drop n bytes) (omega (arith, length-drop n bytes))

pub ended : (ws : List Text) (asked : Bool) (place : ℕ) (o : Option Summary) → ws ≡ [] → o ≡ summed asked place [] → o ≡ summed asked place ws
ended ws asked place o none is = is ∙ sym (ap (summed asked place) none)

pub asked_end : (place : ℕ) (asked : Bool) → asked ≡ true → None ≡ summed asked place []
unfolding given_from
asked_end place true e = refl
asked_end place false e = absurd (true≢false (sym e))

pub open_end : (place : ℕ) (asked : Bool) → asked ≡ false → Some (summary_of (all_positional place [])) ≡ summed asked place []
unfolding given_from
open_end place true e = absurd (true≢false e)
open_end place false e = refl

module _ (ws rest : List Text) (word : Text) (place : ℕ) (asked : Bool) (are : ws ≡ word ∷ rest) where
  pub asked_is : asked ≡ true → (o : Option Summary) → o ≡ summed false (place + 1) rest → option_map (with_reply_in word) o ≡ summed asked place ws
  asked_is given o is = ap (option_map (with_reply_in word)) is ∙ sym (behind_reply place word rest) ∙ sym (λ i. summed (given i) place (are i))

  pub word_is : asked ≡ false → (k : Word) → word_of word ≡ k → summed_by k place word rest ≡ summed asked place ws
  word_is open_word k is = sym (by_word k place word rest is) ∙ sym (λ i. summed (open_word i) place (are i))

module _ (word : Text) where
  pub is_ends : bytes_eq word (codes "--") ≡ true → word_of word ≡ ends
  is_ends e = rw e refl

  pub is_asks : bytes_eq word (codes "--") ≡ false → bytes_eq word (codes "--reply") ≡ true → word_of word ≡ asks
  is_asks e f = rw (e, f) refl

  pub is_gives : bytes_eq word (codes "--") ≡ false → bytes_eq word (codes "--reply") ≡ false → starts_with nat_eq word (codes "--reply=") ≡ true → word_of word ≡ gives (drop 8 word)
  is_gives e f g = rw (e, f, g) refl

  pub is_stray : bytes_eq word (codes "--") ≡ false → bytes_eq word (codes "--reply") ≡ false → starts_with nat_eq word (codes "--reply=") ≡ false → is_option word ≡ true
      → word_of word ≡ stray
  is_stray e f g h = rw (e, f, g, h) refl

  pub is_positional : bytes_eq word (codes "--") ≡ false → bytes_eq word (codes "--reply") ≡ false → starts_with nat_eq word (codes "--reply=") ≡ false → is_option word ≡ false
      → word_of word ≡ positional
  is_positional e f g h = rw (e, f, g, h) refl

-- the words give this summary, if any: what is found by it is what they are
module _ (name : Text) (rest : List Text) (o : Option Summary) (is : summed false 1 rest ≡ o) where
  pub kind_from : option_map (λ (f : Found). f.kind) (option_and_then (found_by name) o) ≡ kind_of_words (name ∷ rest)
  kind_from = ap (λ s. option_map (λ (f : Found). f.kind) (option_and_then (found_by name) s)) (sym is) ∙ go (given_from false 1 rest)
    where
      go : (given : Option Given) → option_map (λ (f : Found). f.kind) (option_and_then (found_by name) (option_map summary_of given))
          ≡ option_map kind_of (option_and_then (command_in name) given)
      go None = refl
      go (Some given) = ap (option_map (λ (f : Found). f.kind)) (sym (told_is name given)) ∙ kind_told (last_place given.positionals) (command_in name given)

  pub disk_from : option_map (λ (f : Found). f.disk) (option_and_then (found_by name) o) ≡ disk_place_of (name ∷ rest)
  disk_from = ap (λ s. option_map (λ (f : Found). f.disk) (option_and_then (found_by name) s)) (sym is) ∙ go (given_from false 1 rest)
    where
      go : (given : Option Given) → option_map (λ (f : Found). f.disk) (option_and_then (found_by name) (option_map summary_of given))
          ≡ option_map (λ (c : Command). last_place (positionals_in given)) (option_and_then (command_in name) given)
      go None = refl
      go (Some given) = ap (option_map (λ (f : Found). f.disk)) (sym (told_is name given)) ∙ disk_told (last_place given.positionals) (command_in name given)

-- ---- long lines

abbrev Short : Bool → List Text → Option Given → Type 0
Short asked words None = Unit {0}
Short asked words (Some given) = length words + (if asked then 1 else 0) ≤ length given.positionals + 2 * length given.replies + 1

length_placed : (place : ℕ) (words : List Text) → length (enumerate_from place words) ≡ length words
length_placed place [] = refl
length_placed place (word ∷ rest) = let same = length_placed (place + 1) rest in omega arith

short_reply : (word : Text) (rest : List Text) (reply : Text) (asked : Bool) (o : Option Given) → Short false rest o → Short asked (word ∷ rest) (option_map (with_reply reply) o)
short_reply word rest reply asked None short = tt
short_reply word rest reply true (Some given) short = omega (arith, short)
short_reply word rest reply false (Some given) short = omega (arith, short)

short_positional : (word : Text) (rest : List Text) (place : ℕ) (o : Option Given) → Short false rest o → Short false (word ∷ rest) (option_map (with_positional place word) o)
short_positional word rest place None short = tt
short_positional word rest place (Some given) short = omega (arith, short)

short_asked : (word : Text) (rest : List Text) (o : Option Given) → Short true rest o → Short false (word ∷ rest) o
short_asked word rest None short = tt
short_asked word rest (Some given) short = omega (arith, short)

short_word : (k : Word) (place : ℕ) (word : Text) (rest : List Text) → ((asked : Bool) → Short asked rest (given_from asked (place + 1) rest))
    → Short false (word ∷ rest) (given_by k place word rest (λ asked. given_from asked (place + 1) rest))
short_word ends place word rest short = let same = length_placed (place + 1) rest in omega arith
short_word asks place word rest short = short_asked word rest (given_from true (place + 1) rest) (short true)
short_word (gives reply) place word rest short = short_reply word rest reply false (given_from false (place + 1) rest) (short false)
short_word stray place word rest short = tt
short_word positional place word rest short = short_positional word rest place (given_from false (place + 1) rest) (short false)

short_line : (words : List Text) (asked : Bool) (place : ℕ) → Short asked words (given_from asked place words)
unfolding given_from
short_line [] true place = tt
short_line [] false place = omega arith
short_line (word ∷ rest) false place = short_word (word_of word) place word rest (λ asked. short_line rest asked (place + 1))
short_line (word ∷ rest) true place = short_reply word rest word true (given_from false (place + 1) rest) (short_line rest false (place + 1))

only_few : (positionals : List (ℕ × Text)) (replies : List Text) → 4 ≤ length positionals + 2 * length replies
    → ((up_to_three positionals == 1 && up_to_two replies == 0) ≡ false)
    × ((up_to_three positionals == 1 && (up_to_two replies == 0 || (up_to_two replies == 1 && begins_with_scripts replies))) ≡ false)
    × ((up_to_three positionals == 2 && up_to_two replies == 0) ≡ false)
only_few [] [] many = absurd (omega arith)
only_few [] (t ∷ []) many = absurd (omega arith)
only_few [] (t ∷ u ∷ more) many = (refl, refl, refl)
only_few (p ∷ []) [] many = absurd (omega arith)
only_few (p ∷ []) (t ∷ []) many = absurd (omega arith)
only_few (p ∷ []) (t ∷ u ∷ more) many = (refl, refl, refl)
only_few (p ∷ q ∷ []) [] many = absurd (omega arith)
only_few (p ∷ q ∷ []) (t ∷ []) many = (refl, refl, refl)
only_few (p ∷ q ∷ []) (t ∷ u ∷ more) many = (refl, refl, refl)
only_few (p ∷ q ∷ r ∷ rest) [] many = (refl, refl, refl)
only_few (p ∷ q ∷ r ∷ rest) (t ∷ []) many = (refl, refl, refl)
only_few (p ∷ q ∷ r ∷ rest) (t ∷ u ∷ more) many = (refl, refl, refl)

abbrev no_kind : Option Kind
no_kind = None

by_no_name : (is_format is_run is_make : Bool) → (if is_format then no_kind else if is_run then no_kind else if is_make then no_kind else no_kind) ≡ None
by_no_name true is_run is_make = refl
by_no_name false true is_make = refl
by_no_name false false true = refl
by_no_name false false false = refl

none_by : (name : Text) (given : Given) → 4 ≤ length given.positionals + 2 * length given.replies → kind_by name (summary_of given) ≡ None
none_by name given many =
    let few = only_few given.positionals given.replies many in
    rw (few.0, few.1, few.2) (by_no_name (bytes_eq name (codes "format")) (bytes_eq name (codes "run")) (bytes_eq name (codes "make")))

-- no command has more than five words
pub long_line : (words : List Text) → 5 < length words → command_of words ≡ None
long_line [] long = absurd (omega arith)
long_line (name ∷ rest) long = go (given_from false 1 rest) (short_line rest false 1)
  where
    go : (o : Option Given) → Short false rest o → option_and_then (command_in name) o ≡ None
    go None short = refl
    go (Some given) short =
        let none : kind_by name (summary_of given) ≡ None = none_by name given (omega (arith, short)) in
        untold (last_place given.positionals) (command_in name given) (told_is name given ∙ ap (found_at (last_of_two given.positionals)) none)
