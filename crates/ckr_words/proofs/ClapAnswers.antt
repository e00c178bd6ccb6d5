-- From what clap answers to what the reading answers.
use Rattle.std.proofs.Common.{◌≡◌, ◌⊎◌, ◌∙◌, inl, inr, sym, ap, ap₂, subst, true, false, map, List, [], ◌∷◌, ◌++◌, Option, Some, None, Err, codes, string_bytes, Global}
use mathlib.Core.Logic.{∥∥₁_elim}
use Rattle.std.proofs.Math.Bool.{Bool-set}
use Rattle.std.specs.Prelude.{bytes_eq, option_map, unwrap_or, Box, String}
use Rattle.std.specs.Box.{box_value}
use Rattle.std.specs.Str.{IsUtf8}
use Rattle.std.proofs.lemmas.Str.{IsUtf8-from_is_utf8, is_utf8-from_IsUtf8}
use Rattle.clap.specs.Walk.{Row, Text, first_of, rows_of}
use Rattle.clap.specs.Matches.{first_value}
use Rattle.clap.specs.Simple.{App, is_simple, subcommand_of, subcommand_rows}
use Rattle.clap.specs.Kinds.{IsAmong, Kinds}
use Rattle.clap.specs.Faults.{fault_of, is_simple_and_free}
use Rattle.clap.specs.declared.error.kind.ErrorKind.{ErrorKind}
use Rattle.clap.specs.declared.error.kind.ErrorKind.TheVariants.{OutOfMemory}
use Rattle.clap.specs.declared.parser.matches.Found.{Found}
use Rattle.clap.specs.declared.parser.matches.SubCommand.{SubCommand}
use Rattle.clap.specs.declared.parser.matches.ArgMatches.TheViews.{out-SubCommand}
use Rattle.clap.proofs.WalkLemmas.{first_value-rows}
use Rattle.ckr_words.specs.Line.{line_app}
use Rattle.ckr_words.specs.Matches.{line_reads, listed, refusal_of, sub_read}
use Rattle.ckr_words.specs.Answers.{Reads}
use Rattle.ckr_words.specs.Words.{command_of, format_of, make_of, run_of}
use Rattle.ckr_words.specs.declared.error.WordsError.{WordsError}
use Rattle.ckr_words.specs.declared.error.WordsError.TheVariants.{NoMemory, Refused}
use Rattle.ckr_words.proofs.Leaves.{simple, simple_and_free}
use Rattle.ckr_words.proofs.LineWords.{line_words}
use Rattle.ckr_words.proofs.Views.{EachUtf8}

one_text : (s : String Global) → IsUtf8 (string_bytes s)
one_text s = IsUtf8-from_is_utf8 _ (∥∥₁_elim s.ok (Bool-set _ _) (λ spelled. is_utf8-from_IsUtf8 (string_bytes s) spelled))

-- words are texts
pub texts_spelled : (words : List (String Global)) → EachUtf8 (map string_bytes words)
texts_spelled [] = tt
texts_spelled (word ∷ rest) = (one_text word, texts_spelled rest)

module _ (app : App) (is : app ≡ line_app) (words : List Text) (utf8 : EachUtf8 words) where
  pub ok_reads : (P : Type 0) (sub : Option (Text × List Row)) → (is_simple app ≡ true → P × (sub ≡ subcommand_of app words))
      → (is_simple_and_free app ≡ true → fault_of app words ≡ []) → sub_read sub ≡ command_of words
  ok_reads P sub found none =
      let sub_is : sub ≡ subcommand_of line_app words = (found (ap is_simple is ∙ simple)).1 ∙ ap (λ a. subcommand_of a words) is in
      let no_fault : fault_of line_app words ≡ [] = sym (ap (λ a. fault_of a words) is) ∙ none (ap is_simple_and_free is ∙ simple_and_free) in
      ap sub_read sub_is ∙ ap (λ kinds. line_reads kinds (subcommand_of line_app words)) (sym no_fault) ∙ line_words words utf8

  refused_reads : (e : WordsError) → command_of words ≡ None → Reads (command_of words) (Err e)
  refused_reads NoMemory none = tt
  refused_reads Refused none = none

  by_kinds : (kinds : Kinds) (k : ErrorKind) → fault_of line_app words ≡ kinds → IsAmong k kinds → command_of words ≡ None
  by_kinds [] k same among = absurd among
  by_kinds (first ∷ rest) k same among = sym (line_words words utf8) ∙ ap (λ kinds. line_reads kinds (subcommand_of line_app words)) same

  pub err_reads : (k : ErrorKind) → (is_simple_and_free app ≡ true → (k ≡ OutOfMemory) ⊎ IsAmong k (fault_of app words)) → Reads (command_of words) (Err (refusal_of k))
  err_reads k kinds = go (kinds (ap is_simple_and_free is ∙ simple_and_free))
    where
      go : (k ≡ OutOfMemory) ⊎ IsAmong k (fault_of app words) → Reads (command_of words) (Err (refusal_of k))
      go (inl memory) = subst (λ x. Reads (command_of words) (Err (refusal_of x))) (sym memory) tt
      go (inr among) = refused_reads (refusal_of k) (by_kinds (fault_of app words) k (sym (ap (λ a. fault_of a words) is)) among)

module _ {Z : Type 0} where
  -- the subcommand that clap met, from its name and its rows
  pub sub_is : (o : Option (Box SubCommand Z)) (name : Text) (rows : List Row) → Some name ≡ option_map (λ b. (out-SubCommand (box_value b)).name.now) o
      → Some rows ≡ option_map (λ (p : Text × List Row). p.1) (subcommand_rows o) → subcommand_rows o ≡ Some (name, rows)
  sub_is None name rows is_name is_rows = cc is_name
  sub_is (Some b) name rows is_name is_rows =
      ap₂ (λ (n : Text) (r : List Row). Some (n, r)) (sym (ap (λ o. unwrap_or o name) is_name)) (sym (ap (λ o. unwrap_or o rows) is_rows))

module _ (sub : Option (Text × List Row)) (name : Text) (f : Found) (d : Option Text) (is_sub : sub ≡ Some (name, rows_of f)) (is_d : d ≡ first_value f (codes "disk")) where
  disk_is : first_of (codes "disk") (rows_of f) ≡ d
  disk_is = sym (is_d ∙ first_value-rows f (codes "disk"))

  pub format_is : bytes_eq name (codes "format") ≡ true → sub_read sub ≡ format_of (listed d) []
  format_is format = ap sub_read is_sub ∙ rw format (ap (λ o. format_of (listed o) []) disk_is)

  pub run_is : (t : Option Text) → t ≡ first_value f (codes "reply") → bytes_eq name (codes "format") ≡ false → bytes_eq name (codes "run") ≡ true
      → sub_read sub ≡ run_of (listed d) (listed t)
  run_is t is_t no_format run = ap sub_read is_sub ∙ rw (no_format, run) (ap₂ (λ o p. run_of (listed o) (listed p)) disk_is (sym (is_t ∙ first_value-rows f (codes "reply"))))

  pub make_is : (n : Option Text) → n ≡ first_value f (codes "jobs") → bytes_eq name (codes "format") ≡ false → bytes_eq name (codes "run") ≡ false
      → bytes_eq name (codes "make") ≡ true → sub_read sub ≡ make_of (listed n ++ listed d) []
  make_is n is_n no_format no_run make = ap sub_read is_sub
      ∙ rw (no_format, no_run, make) (ap₂ (λ o p. make_of (listed o ++ listed p) []) (sym (is_n ∙ first_value-rows f (codes "jobs"))) disk_is)
