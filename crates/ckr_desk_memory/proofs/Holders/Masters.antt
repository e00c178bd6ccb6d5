-- What UPDATE updates: it is among the names of its step, it may be changed, and it is no output.
use Rattle.std.proofs.Common.{◌≡◌, ℕ, true, false, ◌&&◌, [], filter, refl, ap, sym, ◌∙◌, subst, Some}
use Rattle.std.proofs.lemmas.Bool.{and_from, or_right}
use Rattle.std.proofs.lemmas.Option.{same_Some}
use Rattle.ckr_base.proofs.Options.{some-not-none}
use Rattle.ckr_base.proofs.Sequences.{any-filter, find-all, find-any, find-passes}
use Rattle.ckr_base.specs.declared.programs.Output.TheVariants.{InPlace}
use Rattle.ckr_jcl.specs.Programs.{is_checkpointed_by, is_read_by, is_updated_by, is_written_by, role_of}
use Rattle.ckr_jcl.specs.declared.deck.Dd.{Dd}
use Rattle.ckr_jcl.specs.declared.deck.Kind.{Kind}
use Rattle.ckr_jcl.specs.declared.deck.Kind.TheVariants.{Br14, Copy, Master, Merge, Print, Select, Update}
use Rattle.ckr_jcl.specs.declared.deck.Role.TheVariants.{Updates}
use Rattle.ckr_library.proofs.Named.{name-itself, name-same}
use Rattle.ckr_library.specs.NameMaps.{Name, same_name}
use Rattle.ckr_meaning.specs.Allotments.{is_output}
use Rattle.ckr_meaning.specs.EffectiveJob.{OwnedStep, is_among, name_of, names_of}
use Rattle.ckr_meaning.specs.StepRun.{StepStart, output_dd, output_name}
use Rattle.ckr_points.specs.Follows.{is_update}
use Rattle.ckr_points.specs.Payload.{has_role, is_formed_step}
use Rattle.ckr_points.specs.Tables.{is_updates, name_with_role}
use Rattle.ckr_points_invariant.proofs.Library.Entries.{among-filter_map, is_name}
use Rattle.ckr_points_invariant.proofs.Rewrite.Invariant.{updated-name}
use Rattle.ckr_points_invariant.proofs.Rewrite.Sets.{updated-out}
use Rattle.ckr_points_invariant.proofs.Writes.Roles.{IsTarget, dd_role, formed-roles, target, target-named}
use Rattle.ckr_desk_plans.specs.Model.Commit.{output_names}
use Rattle.ckr_desk_memory.specs.Holders.{changed_names, is_changed}

role_updates : (program : Kind) (dd : Name) → output_dd program (InPlace 0) ≡ Some dd → role_of program dd ≡ Updates
unfolding role_of is_read_by is_written_by is_updated_by is_checkpointed_by
role_updates Update dd e = subst (λ d. role_of Update d ≡ Updates) (same_Some _ dd e) refl
role_updates Copy dd e = absurd (some-not-none dd (sym e))
role_updates Select dd e = absurd (some-not-none dd (sym e))
role_updates Merge dd e = absurd (some-not-none dd (sym e))
role_updates Master dd e = absurd (some-not-none dd (sym e))
role_updates Print dd e = absurd (some-not-none dd (sym e))
role_updates Br14 dd e = absurd (some-not-none dd (sym e))

module _ (root : ℕ) (owned : OwnedStep) (formed : is_formed_step root owned ≡ true) (updates : is_update owned.step.program ≡ true) where
  abbrev pub name : Name
  name = name_with_role root owned is_updates

  -- the step, whatever stands before it
  abbrev pub the_start : StepStart
  the_start = record { root = root; owned = owned; number = 0; standing = record { sets = []; passed = [] }; earlier = [] }

  goes : output_name the_start (InPlace 0) ≡ Some name
  goes = updated-name the_start 0 formed updates

  -- its DD
  pub updated-dd : (dd : Dd) × IsTarget the_start (InPlace 0) name dd
  updated-dd = target the_start (InPlace 0) name goes

  pub updated-among : is_among (names_of root owned) (name_with_role root owned is_updates) ≡ true
  updated-among = target-named the_start (InPlace 0) name updated-dd.0 updated-dd.1

  pub updated-not_output : is_among (output_names root owned) (name_with_role root owned is_updates) ≡ false
  updated-not_output = updated-out the_start name 0 formed goes

  role_so : updated-dd.0.role ≡ Updates
  role_so =
      dd_role owned.step.program updated-dd.0 (find-all (has_role owned.step.program) _ owned.step.dds updated-dd.0 (formed-roles root owned formed) updated-dd.1.found)
      ∙ ap (role_of owned.step.program) (sym (name-same updated-dd.1.dd_name updated-dd.0.name (find-passes (λ one. same_name updated-dd.1.dd_name one.name) owned.step.dds updated-dd.0 updated-dd.1.found)))
      ∙ role_updates owned.step.program updated-dd.1.dd_name updated-dd.1.named

  pub updated-changed : is_among (changed_names root owned) (name_with_role root owned is_updates) ≡ true
  updated-changed =
      among-filter_map (name_of root owned) (filter is_changed owned.step.dds) name
      ∙ any-filter is_changed (λ dd. is_name name (name_of root owned dd)) owned.step.dds
      ∙ find-any _ (λ dd. is_changed dd && is_name name (name_of root owned dd)) owned.step.dds updated-dd.0 updated-dd.1.found
      (and_from (is_changed updated-dd.0) (is_name name (name_of root owned updated-dd.0))
      (or_right (is_output updated-dd.0.role) (is_updates updated-dd.0.role) (ap is_updates role_so))
      (ap (is_name name) updated-dd.1.has ∙ name-itself name))
