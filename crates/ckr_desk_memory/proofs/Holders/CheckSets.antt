-- The data set for checkpoints of a step is one of its outputs, and has the name of its role.
use Rattle.std.proofs.Common.{◌≡◌, ℕ, true, false, ◌&&◌, List, [], filter, find, ap, sym, ◌∙◌, Option, Some}
use Rattle.std.specs.Prelude.{option_and_then}
use Rattle.std.specs.Option.{option_map_or}
use Rattle.std.proofs.lemmas.Bool.{and_from, false≢true}
use Rattle.ckr_base.proofs.Bools.{bool-cases}
use Rattle.ckr_base.proofs.Options.{option-cases, some-not-none}
use Rattle.ckr_base.proofs.Sequences.{any-filter, find-any, find-passes}
use Rattle.ckr_jcl.specs.declared.deck.Dd.{Dd}
use Rattle.ckr_library.proofs.Named.{name-itself, name-same}
use Rattle.ckr_library.specs.NameMaps.{Name, same_name}
use Rattle.ckr_meaning.specs.Allotments.{is_output}
use Rattle.ckr_meaning.specs.EffectiveJob.{OwnedStep, is_among, name_of}
use Rattle.ckr_points.specs.Tables.{is_checkpoints, name_with_role}
use Rattle.ckr_points_invariant.proofs.Library.Entries.{among-filter_map, is_name}
use Rattle.ckr_desk_plans.specs.Model.Commit.{output_names}
use Rattle.ckr_points_tables.specs.Checkpoint.{checkpoint_name}
use Rattle.ckr_desk_turn.proofs.Checkpoints.Events.{checks-output}

-- what isn't among names is none of them
pub not-among : (names : List Name) (one other : Name) → is_among names one ≡ false → is_among names other ≡ true → same_name one other ≡ false
not-among names one other out among =
    bool-cases (same_name one other) (λ same. absurd (false≢true (sym out ∙ ap (is_among names) (name-same one other same) ∙ among))) (λ apart. apart)

module _ (root : ℕ) (owned : OwnedStep) (name : Name) (is : checkpoint_name root owned ≡ Some name) where
  by-dd : {A : Type 0} → ((dd : Dd) → find (λ (dd : Dd). is_checkpoints dd.role) owned.step.dds ≡ Some dd → name_of root owned dd ≡ Some name → A) → A
  by-dd use_it =
      option-cases (find (λ (dd : Dd). is_checkpoints dd.role) owned.step.dds)
      (λ none. absurd (some-not-none name (sym is ∙ ap (option_and_then (name_of root owned)) none)))
      (λ dd at. use_it dd at (sym (ap (option_and_then (name_of root owned)) at) ∙ is))

  -- its name by its role
  pub check-named : name_with_role root owned is_checkpoints ≡ name
  check-named =
      by-dd
      (λ dd at has.
      ap (λ (o : Option Dd). option_map_or (λ dd. option_map_or (λ name. name) (name_of root owned dd) []) o []) at
      ∙ ap (λ (o : Option Name). option_map_or (λ name. name) o []) has)

  -- it is an output
  pub check-among : is_among (output_names root owned) name ≡ true
  check-among =
      by-dd
      (λ dd at has.
      among-filter_map (name_of root owned) (filter (λ dd. is_output dd.role) owned.step.dds) name
      ∙ any-filter (λ dd. is_output dd.role) (λ dd. is_name name (name_of root owned dd)) owned.step.dds
      ∙ find-any (λ (dd : Dd). is_checkpoints dd.role) (λ dd. is_output dd.role && is_name name (name_of root owned dd)) owned.step.dds dd at
      (and_from (is_output dd.role) (is_name name (name_of root owned dd))
      (checks-output dd.role (find-passes (λ (dd : Dd). is_checkpoints dd.role) owned.step.dds dd at))
      (ap (is_name name) has ∙ name-itself name)))
