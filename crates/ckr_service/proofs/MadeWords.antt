-- The words of `make` name at most 1000 jobs.
use Rattle.std.proofs.Common.{◌≡◌, ◌≤◌, ℕ, Bool, true, false, cond, nat_le, bytes_eq, codes, List, [], ◌∷◌, Option, None, Some, refl, ap, sym, arith}
use Rattle.std.specs.Prelude.{option_and_then, option_map, unwrap_or}
use Rattle.std.proofs.lemmas.Option.{none-some}
use Rattle.ckr_base.specs.Words.{plain_number}
use Rattle.ckr_console.specs.declared.scripts.Script.{Script}
use Rattle.ckr_words.specs.declared.words.Command.{Command}
use Rattle.ckr_words.specs.declared.words.Command.TheVariants as Commands
use Rattle.ckr_words.specs.declared.words.Kind.{Kind}
use Rattle.ckr_words.specs.declared.words.Kind.TheVariants as Kinds
use Rattle.ckr_words.specs.Words.{Given, command_in, command_of, format_of, given_from, jobs_of, kind_of, kind_of_words, make_of, operators_of, pair_of, run_of, single, texts_of}

few_jobs : (text : List ℕ) (jobs : ℕ) → jobs_of text ≡ Some jobs → jobs ≤ 1000
unfolding jobs_of
few_jobs text jobs is = by_number (plain_number text) is
  where
    by_limit : (number : ℕ) (b : Bool) → nat_le number 1000 ≡ b → cond b (Some number) None ≡ Some jobs → jobs ≤ 1000
    by_limit number true small is = (let same : number ≡ jobs = ap (λ (o : Option ℕ). unwrap_or o 0) is in grind (arith, small, same))
    by_limit number false large is = absurd (none-some jobs is)

    by_number : (found : Option ℕ) → option_and_then (λ (number : ℕ). cond (nat_le number 1000) (Some number) None) found ≡ Some jobs → jobs ≤ 1000
    by_number None is = absurd (none-some jobs is)
    by_number (Some number) is = by_limit number (nat_le number 1000) refl is

abbrev jobs_in : Option Command → ℕ
jobs_in None = 0
jobs_in (Some (Commands.Make jobs)) = jobs
jobs_in (Some _) = 0

module _ (jobs : ℕ) where
  few_make : (positionals replies : List (List ℕ)) → make_of positionals replies ≡ Some (Commands.Make jobs) → jobs ≤ 1000
  few_make positionals (reply ∷ replies) is = absurd (none-some (Commands.Make jobs) is)
  few_make positionals [] is = by_pair (pair_of positionals) is
    where
      by_jobs : (text : List ℕ) (found : Option ℕ) → jobs_of text ≡ found → option_map (λ (n : ℕ). Commands.Make n) found ≡ Some (Commands.Make jobs) → jobs ≤ 1000
      by_jobs text None read is = absurd (none-some (Commands.Make jobs) is)
      by_jobs text (Some n) read is = (let same : n ≡ jobs = made_same n is in omega (arith, few_jobs text n read, same))
        where
          made_same : (n : ℕ) → Some (Commands.Make n) ≡ Some (Commands.Make jobs) → n ≡ jobs
          made_same n is = ap jobs_in is

      by_pair : (two : Option (List ℕ × List ℕ)) → option_and_then (λ (p : List ℕ × List ℕ). option_map (λ (n : ℕ). Commands.Make n) (jobs_of p.0)) two ≡ Some (Commands.Make jobs) → jobs ≤ 1000
      by_pair None is = absurd (none-some (Commands.Make jobs) is)
      by_pair (Some p) is = by_jobs p.0 (jobs_of p.0) refl is

  no_format : (positionals replies : List (List ℕ)) → format_of positionals replies ≡ Some (Commands.Make jobs) → ⊥
  no_format positionals (reply ∷ replies) is = none-some (Commands.Make jobs) is
  no_format positionals [] is = by_disk (single positionals) is
    where
      by_disk : (disk : Option (List ℕ)) → option_map (λ (d : List ℕ). Commands.Format) disk ≡ Some (Commands.Make jobs) → ⊥
      by_disk None is = none-some (Commands.Make jobs) is
      by_disk (Some d) is = cc

  no_run : (positionals replies : List (List ℕ)) → run_of positionals replies ≡ Some (Commands.Make jobs) → ⊥
  no_run positionals replies is = by_operators (operators_of replies) is
    where
      by_disk : (operators : List Script) (disk : Option (List ℕ)) → option_map (λ (d : List ℕ). Commands.Run operators) disk ≡ Some (Commands.Make jobs) → ⊥
      by_disk operators None is = none-some (Commands.Make jobs) is
      by_disk operators (Some d) is = cc

      by_operators : (found : Option (List Script)) → option_and_then (λ (operators : List Script). option_map (λ (d : List ℕ). Commands.Run operators) (single positionals)) found ≡ Some (Commands.Make jobs) → ⊥
      by_operators None is = none-some (Commands.Make jobs) is
      by_operators (Some operators) is = by_disk operators (single positionals) is

  by_name : (positionals replies : List (List ℕ)) (is_format is_run is_make : Bool)
      → cond is_format (format_of positionals replies) (cond is_run (run_of positionals replies) (cond is_make (make_of positionals replies) None)) ≡ Some (Commands.Make jobs) → jobs ≤ 1000
  by_name positionals replies true is_run is_make is = absurd (no_format positionals replies is)
  by_name positionals replies false true is_make is = absurd (no_run positionals replies is)
  by_name positionals replies false false true is = few_make positionals replies is
  by_name positionals replies false false false is = absurd (none-some (Commands.Make jobs) is)

  few_made : (words : List (List ℕ)) → command_of words ≡ Some (Commands.Make jobs) → jobs ≤ 1000
  few_made [] is = absurd (none-some (Commands.Make jobs) is)
  few_made (name ∷ rest) is = by_given (given_from false 1 rest) is
    where
      by_given : (given : Option Given) → option_and_then (command_in name) given ≡ Some (Commands.Make jobs) → jobs ≤ 1000
      by_given None is = absurd (none-some (Commands.Make jobs) is)
      by_given (Some given) is =
          by_name (texts_of given.positionals) given.replies (bytes_eq name (codes "format")) (bytes_eq name (codes "run")) (bytes_eq name (codes "make")) is

  pub few_of_kind : (words : List (List ℕ)) → Some (Kinds.Make jobs) ≡ kind_of_words words → jobs ≤ 1000
  few_of_kind words is = by_command (command_of words) refl is
    where
      kind_jobs : Option Kind → ℕ
      kind_jobs (Some (Kinds.Make n)) = n
      kind_jobs _ = 0

      by_command : (found : Option Command) → command_of words ≡ found → Some (Kinds.Make jobs) ≡ option_map kind_of found → jobs ≤ 1000
      by_command None read is = absurd (none-some (Kinds.Make jobs) (sym is))
      by_command (Some Commands.Format) read is = cc
      by_command (Some (Commands.Run operators)) read is = cc
      by_command (Some (Commands.Make n)) read is = (let same : n ≡ jobs = sym (kind_same n is) in few_made words (read' n same read))
        where
          kind_same : (n : ℕ) → Some (Kinds.Make jobs) ≡ Some (Kinds.Make n) → jobs ≡ n
          kind_same n is = cc

          read' : (n : ℕ) → n ≡ jobs → command_of words ≡ Some (Commands.Make n) → command_of words ≡ Some (Commands.Make jobs)
          read' n same read = rw same at read
