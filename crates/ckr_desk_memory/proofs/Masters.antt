-- The record of a rewrite is told under the name of what the step updates.
use Rattle.std.proofs.Common.{◌≡◌, ℕ, true, false, ◌||◌, refl, ap, sym, ◌∙◌, subst, Some}
use Rattle.std.specs.Prelude.{codes, find, option_and_then, slice_get}
use Rattle.std.specs.Cmp.Lexicographic.{texts_ties}
use Rattle.std.proofs.lemmas.Option.{same_Some}
use Rattle.ckr_base.specs.declared.programs.Output.TheVariants.{InPlace}
use Rattle.ckr_base.proofs.Bools.{bool-cases}
use Rattle.ckr_base.proofs.Sequences.{find-same}
use Rattle.ckr_jcl.specs.declared.deck.Dd.{Dd}
use Rattle.ckr_jcl.specs.declared.deck.Kind.TheVariants.{Update}
use Rattle.ckr_jcl.specs.declared.deck.Role.TheVariants.{Updates}
use Rattle.ckr_jcl.specs.Programs.{is_updated_by, names_updated, role_of}
use Rattle.ckr_desk_turn.proofs.Rewrite.Masters.{role-updates}
use Rattle.ckr_library.specs.NameMaps.{Name, same_name}
use Rattle.ckr_library.proofs.Named.{name-equivalence, name-same}
use Rattle.ckr_meaning.specs.EffectiveJob.{name_of}
use Rattle.ckr_meaning.specs.StepRun.{StepStart, output_name}
use Rattle.ckr_points.specs.Tables.{is_updates}
use Rattle.ckr_points.specs.Payload.{has_role, is_formed_step}
use Rattle.ckr_points_invariant.proofs.Writes.Roles.{IsTarget, dd_role, formed-roles, target}
use Rattle.ckr_points_invariant.proofs.Rewrite.Invariant.{other_role}

abbrev master : Name
master = codes "MASTER"

other_updated : (dd name : Name) → slice_get (names_updated Update) 0 ≡ Some dd → same_name dd name ≡ false → is_updated_by Update name ≡ false
unfolding is_updated_by
other_updated dd name named apart = ap (λ b. b || false) (texts_ties name master ∙ ap (same_name name) (same_Some master dd named) ∙ name-equivalence.symm name dd ∙ apart)

-- a DD of another name than that of what UPDATE updates updates nothing
role-apart : (dd name : Name) → slice_get (names_updated Update) 0 ≡ Some dd → same_name dd name ≡ false → is_updates (role_of Update name) ≡ false
role-apart dd name named apart = other_role name (other_updated dd name named apart)

-- the data set that the step updates, by the role of its DD
pub by-role : (start : StepStart) (place : ℕ) (name : Name) → is_formed_step start.root start.owned ≡ true → start.owned.step.program ≡ Update → output_name start (InPlace place) ≡ Some name
    → option_and_then (name_of start.root start.owned) (find (λ dd. is_updates dd.role) start.owned.step.dds) ≡ Some name
by-role start place name formed program goes =
    let t : (dd : Dd) × IsTarget start (InPlace place) name dd = target start (InPlace place) name goes in
    let named : slice_get (names_updated Update) 0 ≡ Some t.1.dd_name = subst (λ p. slice_get (names_updated p) 0 ≡ Some t.1.dd_name) program t.1.named in
    let role : role_of Update t.1.dd_name ≡ Updates = role-updates Update place t.1.dd_name refl named in
    ap (option_and_then (name_of start.root start.owned))
    (find-same (has_role start.owned.step.program) (λ dd. is_updates dd.role) (λ dd. same_name t.1.dd_name dd.name) start.owned.step.dds (formed-roles start.root start.owned formed)
    (λ dd has.
    ap is_updates (dd_role start.owned.step.program dd has)
    ∙ ap (λ p. is_updates (role_of p dd.name)) program
    ∙ bool-cases (same_name t.1.dd_name dd.name)
    (λ same. ap (λ n. is_updates (role_of Update n)) (sym (name-same t.1.dd_name dd.name same)) ∙ ap is_updates role ∙ sym same)
    (λ apart. role-apart t.1.dd_name dd.name named apart ∙ sym apart))
    ∙ t.1.found)
    ∙ t.1.has
