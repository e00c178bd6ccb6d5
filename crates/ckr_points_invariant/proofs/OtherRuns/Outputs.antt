-- What a step leaves as it was is none of its outputs.
use Rattle.std.proofs.Common.{◌≡◌, ℕ, Bool, true, false, cond, List, [], ◌∷◌, filter, refl, sym, ◌∙◌, Option, Some, None}
use Rattle.std.specs.List.{cons_option, filter_map, list_all}
use Rattle.std.proofs.lemmas.Bool.{false≢true, or_from}
use Rattle.ckr_base.proofs.Bools.{and-first, and-second, bool-cases, if-then}
use Rattle.ckr_jcl.specs.declared.deck.Dd.{Dd}
use Rattle.ckr_library.specs.NameMaps.{Name, same_name}
use Rattle.ckr_meaning.specs.Allotments.{is_output}
use Rattle.ckr_meaning.specs.EffectiveJob.{OwnedStep, is_among, name_of}
use Rattle.ckr_uses.specs.Uses.{is_shared, leaves}
use Rattle.ckr_points_library.specs.Commit.{output_names}
use Rattle.ckr_points.specs.Payload.{has_role}
use Rattle.ckr_points_invariant.specs.Invariant.{leaves_dd}
use Rattle.ckr_points_invariant.proofs.Holders.SharedSets.{LeavesStep, no_output, shared_role}
use Rattle.ckr_points_invariant.proofs.Writes.Roles.{formed-roles}

-- what a step leaves is none of its outputs
pub dds_output : (root : ℕ) (owned : OwnedStep) (dds : List Dd) (name : Name) → list_all (has_role owned.step.program) dds ≡ true → list_all (leaves_dd root owned name) dds ≡ true → is_among (filter_map (name_of root owned) (filter (λ dd. is_output dd.role) dds)) name ≡ false
dds_output root owned [] name has left = refl
dds_output root owned (dd ∷ dds) name has left =
    chosen_names (is_output dd.role)
    ∙ by (is_output dd.role) refl (name_of root owned dd) (and-first (leaves_dd root owned name dd) _ left)
    (dds_output root owned dds name (and-second (has_role owned.step.program dd) _ has) (and-second (leaves_dd root owned name dd) _ left))
  where
    chosen_names : (output : Bool) → is_among (filter_map (name_of root owned) (cond output (dd ∷ filter (λ dd. is_output dd.role) dds) (filter (λ dd. is_output dd.role) dds))) name ≡ is_among (cond output (cons_option (name_of root owned dd) (filter_map (name_of root owned) (filter (λ dd. is_output dd.role) dds))) (filter_map (name_of root owned) (filter (λ dd. is_output dd.role) dds))) name
    chosen_names true = refl
    chosen_names false = refl

    by : (output : Bool) → is_output dd.role ≡ output → (other : Option Name) → leaves name other (is_shared dd) ≡ true → is_among (filter_map (name_of root owned) (filter (λ dd. is_output dd.role) dds)) name ≡ false
        → is_among (cond output (cons_option other (filter_map (name_of root owned) (filter (λ dd. is_output dd.role) dds))) (filter_map (name_of root owned) (filter (λ dd. is_output dd.role) dds))) name ≡ false
    by true output None leaves others = others
    by true output (Some other) leaves others =
        or_from (same_name name other) _
        (bool-cases (same_name name other)
        (λ same.
        absurd (false≢true (
        sym (no_output dd.role (shared_role owned.step.program dd (and-first (has_role owned.step.program dd) _ has) (if-then (same_name name other) (is_shared dd) leaves same)))
        ∙ output)))
        (λ e. e))
        others
    by false output other leaves others = others

pub not-output : (root : ℕ) (owned : OwnedStep) (name : Name) → LeavesStep name root owned → is_among (output_names root owned) name ≡ false
not-output root owned name left = dds_output root owned owned.step.dds name (formed-roles root owned left.formed) left.leaves
