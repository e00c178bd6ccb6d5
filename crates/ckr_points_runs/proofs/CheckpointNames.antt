-- The name of the checkpoint data set of a step.
use Rattle.std.proofs.Common.{◌≡◌, ℕ, ◌==◌, Bool, true, false, cond, IsSome, List, [], ◌∷◌, refl, ap, sym, ◌∙◌, Option, Some, None}
use Rattle.std.specs.Option.{option_and_then, option_map_or}
use Rattle.std.specs.List.{list_all}
use Rattle.std.proofs.lemmas.Bool.{false≢true}
use Rattle.ckr_base.proofs.Bools.{and-first, and-second}
use Rattle.ckr_jcl.specs.declared.deck.Dd.{Dd}
use Rattle.ckr_library.specs.NameMaps.{Name, same_name}
use Rattle.ckr_library.proofs.Named.{name-same}
use Rattle.ckr_meaning.specs.EffectiveJob.{OwnedStep, name_of}
use Rattle.ckr_points.specs.Follows.{is_length_of}
use Rattle.ckr_points.specs.Tables.{is_checkpoints, name_with_role}
use Rattle.ckr_points_library.specs.Commit.{is_named, output_names}
use Rattle.ckr_points_runs.specs.Checkpoint.{checkpoint_dd, checkpoint_name}

role-name : (run : ℕ) (own : OwnedStep) → option_map_or (λ name. name) (checkpoint_name run own) [] ≡ name_with_role run own is_checkpoints
role-name run own = by (checkpoint_dd own.step)
  where
    by : (found : Option Dd) → option_map_or (λ name. name) (option_and_then (name_of run own) found) [] ≡ option_map_or (λ dd. option_map_or (λ name. name) (name_of run own dd) []) found []
    by None = refl
    by (Some dd) = refl

pub role-named : (run : ℕ) (own : OwnedStep) (name : Name) → checkpoint_name run own ≡ Some name → name_with_role run own is_checkpoints ≡ name
role-named run own name is = sym (role-name run own) ∙ ap (λ found. option_map_or (λ one. one) found []) is

length-named : (name : Name) (most : ℕ) (names : List Name) (lengths : List ℕ) → is_length_of name most names lengths ≡ true → list_all is_named names ≡ true → is_named name ≡ true
length-named name most [] lengths e named = absurd (false≢true e)
length-named name most (first ∷ names) [] e named = absurd (false≢true e)
length-named name most (first ∷ names) (now ∷ lengths) e named =
    by (same_name first name) refl e (λ later. length-named name most names lengths later (and-second (is_named first) _ named))
  where
    by : (same : Bool) → same_name first name ≡ same → cond same (now == most) (is_length_of name most names lengths) ≡ true → (is_length_of name most names lengths ≡ true → is_named name ≡ true) → is_named name ≡ true
    by true same e later = ap is_named (sym (name-same first name same)) ∙ and-first (is_named first) _ named
    by false same e later = later e

-- a checkpoint data set that is among the outputs has a name
pub checkpoint-named : (run : ℕ) (own : OwnedStep) (most : ℕ) (lengths : List ℕ) → is_length_of (name_with_role run own is_checkpoints) most (output_names run own) lengths ≡ true → list_all is_named (output_names run own) ≡ true → IsSome (checkpoint_name run own)
checkpoint-named run own most lengths e named = by (checkpoint_name run own) refl
  where
    by : (found : Option Name) → checkpoint_name run own ≡ found → IsSome found
    by None is =
        absurd (false≢true (
        ap is_named (sym (ap (λ one. option_map_or (λ name. name) one []) is) ∙ role-name run own)
        ∙ length-named (name_with_role run own is_checkpoints) most (output_names run own) lengths e named
        ))
    by (Some name) is = refl
