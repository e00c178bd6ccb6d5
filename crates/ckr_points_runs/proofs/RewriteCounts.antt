-- A commit leaves the counts of rewrites.
use Rattle.std.proofs.Common.{◌≡◌, ℕ, ◌<◌, List, [], ◌∷◌, refl, ap, sym, ◌∙◌, subst, Some, None, Option}
use Rattle.std.specs.Option.{option_map, option_map_or}
use Rattle.std.proofs.lemmas.Option.{same_Some}
use Rattle.ckr_base.proofs.Options.{some-not-none}
use Rattle.ckr_points_library.specs.Commit.{committed, output_names}
use Rattle.ckr_library.specs.Catalog.{Holding, with_length}
use Rattle.ckr_library.specs.NameMaps.{Name, Named, entry_at, with_changed}
use Rattle.ckr_library.proofs.Named.{at-with_changed-keeps}
use Rattle.ckr_meaning.specs.EffectiveJob.{OwnedStep}
use Rattle.ckr_points_runs.specs.StepEnd.{MayRewriteIn}
use Rattle.ckr_points_runs.specs.Rewrite.{MayRestamp}

abbrev rewrites_of : Holding → ℕ
rewrites_of holding = holding.set.stamp.rewrites

kept-count : (names : List Name) (lengths : List ℕ) (sets : Named Holding) (name : Name) → option_map rewrites_of (entry_at (committed with_length names lengths sets) name) ≡ option_map rewrites_of (entry_at sets name)
kept-count [] lengths sets name = refl
kept-count (one ∷ names) [] sets name = refl
kept-count (one ∷ names) (most ∷ lengths) sets name =
    kept-count names lengths (with_changed one (with_length most) sets) name ∙ at-with_changed-keeps rewrites_of one name (with_length most) sets (λ x. refl)

still-counts : (one other : Option Holding) → option_map rewrites_of one ≡ option_map rewrites_of other → MayRestamp other → MayRestamp one
still-counts None other same may = tt
still-counts (Some holding) None same may = absurd (some-not-none _ same)
still-counts (Some holding) (Some other) same may = subst (λ n. n < 4294967295) (sym (same_Some (rewrites_of holding) (rewrites_of other) same)) may

-- MASTER is as it was
pub may_still : (run : ℕ) (lengths : List ℕ) (sets after : Named Holding) (found : Option OwnedStep) → after ≡ option_map_or (λ own. committed with_length (output_names run own) lengths sets) found sets → MayRewriteIn run sets found → MayRewriteIn run after found
may_still run lengths sets after None is may = tt
may_still run lengths sets after (Some own) is may =
    (may.0, may.1, λ name. still-counts (entry_at after name) (entry_at sets name) (ap (λ all. option_map rewrites_of (entry_at all name)) is ∙ kept-count (output_names run own) lengths sets name) (may.2 name))
