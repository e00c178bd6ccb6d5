-- Where no data set of a running step is longer than its space, none is behind a unit of its work.
use Rattle.std.proofs.Common.{◌≡◌, ◌≤◌, ◌<◌, ◌-◌, Bool, true, false, cond, List, [], ◌∷◌, refl, ap, sym, ◌∙◌, subst, Option, Some, None, arith}
use Rattle.std.specs.Prelude.{nat_lt, option_and_then}
use Rattle.std.specs.Option.{is_some, option_map, option_map_or}
use Rattle.std.proofs.lemmas.Option.{same_Some}
use Rattle.ckr_base.proofs.Numbers.{nat_lt-true}
use Rattle.ckr_base.proofs.Options.{some-not-none}
use Rattle.ckr_base.specs.declared.programs.Heads.{Heads}
use Rattle.ckr_base.specs.declared.programs.Output.{Output}
use Rattle.ckr_base.specs.declared.programs.Output.TheVariants.{InPlace, Main, Rejects}
use Rattle.ckr_base.specs.declared.programs.Write.{Write}
use Rattle.ckr_library.proofs.Named.{at-with_changed, name-same}
use Rattle.ckr_library.specs.Catalog.{Catalog, Holding}
use Rattle.ckr_library.specs.NameMaps.{Name, Named, entry_at, same_name, with_changed}
use Rattle.ckr_meaning.specs.Program.{OutputRoom, fitting, room_after, room_behind}
use Rattle.ckr_desk_plans.proofs.LaterWrites.{room_left, there_grown}
use Rattle.ckr_desk_plans.proofs.Rooms.{main_fits, rejects_fit}
use Rattle.ckr_desk_plans.proofs.UnitWrites.{done_fits-for}
use Rattle.ckr_desk_plans.specs.Model.Inputs.{AreStored, AreThere}
use Rattle.ckr_desk_plans.specs.Model.StepUnit.{HasDone, done_for}
use Rattle.ckr_desk_plans.specs.Model.Writes.{end_set, grown, grown_in, longer, room_at, room_of, room_of_set}
use Rattle.ckr_desk_plans.specs.StepTypes.Files.{Files}
use Rattle.ckr_desk_plans.specs.StepTypes.Worked.{Worked}
use Rattle.ckr_volumes.specs.declared.layout.Layout.{Layout}
use Rattle.ckr_desk_memory.specs.Start.{AllFit}
use Rattle.ckr_desk_memory.specs.View.{RunningStepView}

-- what stands in a layout fits
pub stored-fit : (layout : Layout) (catalog : Catalog) → AreStored layout catalog → AllFit catalog.sets
stored-fit layout catalog stored name held found =
    (stored.stands name held.set (ap (option_map (λ (h : Holding). h.set)) found)).length_fits

-- a data set with room for a record more
longer_fits : (sets : Named Holding) (name : Name) → AllFit sets → 0 < option_map_or room_of_set (option_map (λ (h : Holding). h.set) (entry_at sets name)) 0 → AllFit (with_changed name longer sets)
longer_fits sets name fits room other held found =
    by (same_name other name) refl (sym (at-with_changed name other longer sets) ∙ found)
  where
    grown_one : (entry : Option Holding) → entry_at sets name ≡ entry → option_map longer entry ≡ Some held → held.set.length ≤ held.set.space
    grown_one None at is = absurd (some-not-none held (sym is))
    grown_one (Some one) at is =
        subst (λ (h : Holding). h.set.length ≤ h.set.space) (same_Some (longer one) held is)
        (let spare : 0 < one.set.space - one.set.length = subst (λ (entry : Option Holding). 0 < option_map_or room_of_set (option_map (λ (h : Holding). h.set) entry) 0) at room in
        omega (arith, spare))

    by : (same : Bool) → same_name other name ≡ same → cond same (option_map longer (entry_at sets other)) (entry_at sets other) ≡ Some held → held.set.length ≤ held.set.space
    by true e is = grown_one (entry_at sets name) refl (ap (λ n. option_map longer (entry_at sets n)) (sym (name-same other name e)) ∙ is)
    by false e is = fits other held is

any_fits : (name : Option Name) (old : Catalog) → AllFit old.sets → nat_lt 0 (room_at old name) ≡ true → AllFit (grown_in name old.sets)
any_fits None old fits room = fits
any_fits (Some name) old fits room = longer_fits old.sets name fits (nat_lt-true 0 (room_at old (Some name)) room)

one_fits : (files : Files) (old mid : Catalog) (output : Output) (left : OutputRoom) → AreThere files old → mid.sets ≡ grown_in (end_set files output) old.sets → AllFit old.sets → room_behind output (room_of old files) ≡ Some left → AllFit (grown_in (end_set files output) old.sets)
one_fits files old mid Main left there is fits behind =
    any_fits files.main old fits (main_fits files old mid there Main (nat_lt 0 (room_at old files.main)) refl refl ∙ ap is_some behind)
one_fits files old mid Rejects left there is fits behind =
    any_fits files.rejects old fits (rejects_fit files old mid there Rejects (nat_lt 0 (room_at old files.rejects)) refl refl ∙ ap is_some behind)
one_fits files old mid (InPlace place) left there is fits behind = fits

abbrev rest_of : List Write → List Write
rest_of [] = []
rest_of (write ∷ writes) = writes

grown_fits : (files : Files) (writes : List Write) (old : Catalog) → AreThere files old → AllFit old.sets → fitting writes (room_of old files) ≡ writes → AllFit (grown files writes old.sets)
grown_fits files [] old there fits are = fits
grown_fits files (write ∷ writes) old there fits are = by (room_behind write.output (room_of old files)) refl are (grown_fits files writes)
  where
    by : (behind : Option OutputRoom) → room_behind write.output (room_of old files) ≡ behind → option_map_or (λ left. write ∷ fitting writes left) behind [] ≡ write ∷ writes
        → ((old : Catalog) → AreThere files old → AllFit old.sets → fitting writes (room_of old files) ≡ writes → AllFit (grown files writes old.sets)) → AllFit (grown files writes (grown_in (end_set files write.output) old.sets))
    by None e are others = cc
    by (Some left) e are others =
        others (record { sets = grown_in (end_set files write.output) old.sets; room = 0; entry_rooms = [] })
        (there_grown files old (record { sets = grown_in (end_set files write.output) old.sets; room = 0; entry_rooms = [] }) write.output there refl)
        (one_fits files old (record { sets = grown_in (end_set files write.output) old.sets; room = 0; entry_rooms = [] }) write.output left there refl fits e)
        (ap (fitting writes) (sym (room_left files (write ∷ []) old (record { sets = grown_in (end_set files write.output) old.sets; room = 0; entry_rooms = [] }) left there refl (ap (option_and_then (room_after [])) e))) ∙ ap rest_of are)

-- behind a unit of its work
pub unit-fits : (old new : RunningStepView) (heads : Heads) (worked : Worked) → AreThere old.step.files old.sets → AllFit old.sets.sets → HasDone heads old.step new.step old.sets new.sets worked → AllFit new.sets.sets
unit-fits old new heads worked there fits done =
    subst AllFit (sym done.lengths)
    (grown_fits old.step.files (done_for old.sets old.step heads) old.sets there fits (done_fits-for old.sets old.step heads (done_for old.sets old.step heads) refl))
