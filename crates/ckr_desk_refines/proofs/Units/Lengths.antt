-- The writes of a unit change the lengths of the data sets in memory alone, and those of the program's outputs.
use Rattle.std.proofs.Common.{◌≡◌, ◌≤◌, Bool, true, false, List, [], ◌∷◌, cond, refl, ap, sym, ◌∙◌, subst, Option, Some, None, arith}
use Rattle.std.specs.Option.{option_map}
use Rattle.std.proofs.lemmas.Option.{same_Some}
use Rattle.ckr_base.specs.declared.programs.Output.{Output}
use Rattle.ckr_base.specs.declared.programs.Output.TheVariants.{Main, Rejects, InPlace}
use Rattle.ckr_base.specs.declared.programs.Write.{Write}
use Rattle.ckr_base.proofs.Options.{some-not-none}
use Rattle.ckr_library.specs.Catalog.{Catalog, Holding, set_of}
use Rattle.ckr_library.specs.declared.sets.DataSet.{DataSet}
use Rattle.ckr_library.specs.NameMaps.{Name, Named, same_name, entry_at}
use Rattle.ckr_library.proofs.Named.{at-with_changed, name-same}
use Rattle.ckr_steps.specs.declared.files.Files.{Files}
use Rattle.ckr_steps.specs.Writes.{end_set, grown, grown_in, longer as longer_one}
use Rattle.ckr_volumes.specs.SamePlaces.{SamePlaces}

-- a data set in the same places, and no shorter; one that is no output of the program is as long
pub record IsLengthened (files : Files) (name : Name) (was later : DataSet) : Type 0 where
  pub places : SamePlaces was later
  pub space : later.space ≡ was.space
  pub longer : was.length ≤ later.length
  pub unless : (files.main ≡ Some name → ⊥) → (files.rejects ≡ Some name → ⊥) → later.length ≡ was.length

module _ (files : Files) (name : Name) where
  -- a data set before and behind, or none at all
  abbrev AreLengthened : Option Holding → Option Holding → Type 0
  AreLengthened None None = Unit {0}
  AreLengthened None (Some later) = ⊥
  AreLengthened (Some was) None = ⊥
  AreLengthened (Some was) (Some later) = IsLengthened files name was.set later.set

  itself : (entry : Option Holding) → AreLengthened entry entry
  itself None = tt
  itself (Some held) = record { places = record { parts = refl; lrecl = refl }; space = refl; longer = omega arith; unless = λ main rejects. refl }

  twice : (one two three : Option Holding) → AreLengthened one two → AreLengthened two three → AreLengthened one three
  twice None None None first second = tt
  twice None None (Some three) first second = absurd second
  twice None (Some two) three first second = absurd first
  twice (Some one) None three first second = absurd first
  twice (Some one) (Some two) None first second = absurd second
  twice (Some one) (Some two) (Some three) first second =
      let a : one.set.length ≤ two.set.length = first.longer in
      let b : two.set.length ≤ three.set.length = second.longer in
      record {
        places = record { parts = second.places.parts ∙ first.places.parts; lrecl = second.places.lrecl ∙ first.places.lrecl };
        space = second.space ∙ first.space;
        longer = omega (arith, a, b);
        unless = λ main rejects. second.unless main rejects ∙ first.unless main rejects;
      }

  one-in : (to : Option Name) → (to ≡ Some name → (files.main ≡ Some name → ⊥) → (files.rejects ≡ Some name → ⊥) → ⊥) → (sets : Named Holding) → AreLengthened (entry_at sets name) (entry_at (grown_in to sets) name)
  one-in None ends sets = itself (entry_at sets name)
  one-in (Some to) ends sets =
      subst (AreLengthened (entry_at sets name)) (sym (at-with_changed to name longer_one sets)) (by (same_name name to) refl (entry_at sets name))
    where
      by : (b : Bool) → same_name name to ≡ b → (entry : Option Holding) → AreLengthened entry (cond b (option_map longer_one entry) entry)
      by true e None = tt
      by true e (Some held) = record {
        places = record { parts = refl; lrecl = refl };
        space = refl;
        longer = omega arith;
        unless = λ main rejects. absurd (ends (ap Some (sym (name-same name to e))) main rejects);
      }
      by false e entry = itself entry

  one-grown : (output : Output) (sets : Named Holding) → AreLengthened (entry_at sets name) (entry_at (grown_in (end_set files output) sets) name)
  one-grown Main sets = one-in files.main (λ e main rejects. main e) sets
  one-grown Rejects sets = one-in files.rejects (λ e main rejects. rejects e) sets
  one-grown (InPlace place) sets = one-in None (λ e main rejects. some-not-none name (sym e)) sets

  all-grown : (writes : List Write) (sets : Named Holding) → AreLengthened (entry_at sets name) (entry_at (grown files writes sets) name)
  all-grown [] sets = itself (entry_at sets name)
  all-grown (write ∷ writes) sets =
      twice (entry_at sets name) (entry_at (grown_in (end_set files write.output) sets) name) (entry_at (grown files writes (grown_in (end_set files write.output) sets)) name)
      (one-grown write.output sets) (all-grown writes (grown_in (end_set files write.output) sets))

  module _ (writes : List Write) (old new : Catalog) (is : new.sets ≡ grown files writes old.sets) where
    both : AreLengthened (entry_at old.sets name) (entry_at new.sets name)
    both = subst (λ sets. AreLengthened (entry_at old.sets name) (entry_at sets name)) (sym is) (all-grown writes old.sets)

    -- where a data set behind the unit comes from
    pub lengthened-from : (later : DataSet) → set_of new name ≡ Some later → (was : DataSet) × (set_of old name ≡ Some was) × IsLengthened files name was later
    lengthened-from later e = by (entry_at old.sets name) (entry_at new.sets name) both e
      where
        by : (one other : Option Holding) → AreLengthened one other → option_map (λ (h : Holding). h.set) other ≡ Some later → (was : DataSet) × (option_map (λ (h : Holding). h.set) one ≡ Some was) × IsLengthened files name was later
        by one None pair e = absurd (some-not-none later (sym e))
        by None (Some other) pair e = absurd pair
        by (Some one) (Some other) pair e = (one.set, refl, subst (IsLengthened files name one.set) (same_Some other.set later e) pair)

    -- what becomes of one before it
    pub lengthened-to : (was : DataSet) → set_of old name ≡ Some was → (later : DataSet) × (set_of new name ≡ Some later) × IsLengthened files name was later
    lengthened-to was e = by (entry_at old.sets name) (entry_at new.sets name) both e
      where
        by : (one other : Option Holding) → AreLengthened one other → option_map (λ (h : Holding). h.set) one ≡ Some was → (later : DataSet) × (option_map (λ (h : Holding). h.set) other ≡ Some later) × IsLengthened files name was later
        by None other pair e = absurd (some-not-none was (sym e))
        by (Some one) None pair e = absurd pair
        by (Some one) (Some other) pair e = (other.set, refl, subst (λ (s : DataSet). IsLengthened files name s other.set) (same_Some one.set was e) pair)
