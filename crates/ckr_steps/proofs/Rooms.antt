-- The space that is left in the outputs, before a write and behind it.
use Rattle.std.proofs.Common.{◌≡◌, ◌≤◌, ℕ, zero, suc, ◌+◌, ◌-◌, Bool, true, false, [], Option, Some, None, Result, Ok, Err, IfOk, refl, ap, sym, ◌∙◌, arith}
use Rattle.std.specs.Prelude.{IsTrue, nat_lt, if◌then◌else◌}
use Rattle.std.specs.Option.{option_map_or, is_some}
use Rattle.std.proofs.lemmas.Bool.{false≢true}
use Rattle.std.proofs.lemmas.Bool.Decides.{nat_tests}
use Rattle.ckr_base.specs.declared.programs.Output.{Output}
use Rattle.ckr_base.specs.declared.programs.Output.TheVariants.{Main, Rejects}
use Rattle.ckr_library.specs.declared.sets.DataSet.{DataSet}
use Rattle.ckr_library.specs.Catalog.{Catalog, set_of, HasSet}
use Rattle.ckr_library.specs.NameMaps.{Name, same_name}
use Rattle.ckr_library.proofs.Named.{name-turned}
use Rattle.ckr_meaning.specs.Program.{OutputRoom, less_main, less_rejects, room_behind}
use Rattle.ckr_steps.specs.declared.files.Files.{Files}
use Rattle.ckr_steps.specs.declared.files.RecordSource.{RecordSource}
use Rattle.ckr_steps.specs.declared.files.RecordSource.TheVariants.{Nowhere, InDeck, InSet}
use Rattle.ckr_steps.specs.Inputs.{IsSourceThere, IsSetThere, AreSameSet, AreThere}
use Rattle.ckr_steps.specs.Writes.{room_of_set, room_at, room_of, grown_in}
use Rattle.ckr_steps.proofs.Names.{set_there}
use Rattle.ckr_steps.proofs.Growth.{is_longer, IsGrown, grown_longer}

-- two facts of an answer
pub if_both : {T E : Type 0} (result : Result T E) (P Q R : T → Type 0) → ((x : T) → P x → Q x → R x) → IfOk result P → IfOk result Q → IfOk result R
if_both (Ok x) P Q R so p q = so x p q
if_both (Err e) P Q R so p q = p

-- what is there stays there
pub there_kept : (files : Files) (old new : Catalog) → ((other : Name) → HasSet old other (λ _. Unit {0}) → HasSet new other (λ _. Unit {0})) → AreThere files old → AreThere files new
there_kept files old new kept there = record {
  first = source files.first there.first;
  second = source files.second there.second;
  main = one files.main there.main;
  rejects = one files.rejects there.rejects;
  differ = there.differ;
}
  where
    source : (s : RecordSource) → IsSourceThere old s → IsSourceThere new s
    source Nowhere is = is
    source (InDeck cards) is = is
    source (InSet name) is = kept name is

    one : (name : Option Name) → IsSetThere old name → IsSetThere new name
    one None is = is
    one (Some name) is = kept name is

pub untrue : (b : Bool) → (IsTrue b → ⊥) → b ≡ false
untrue true denied = absurd (denied refl)
untrue false denied = refl

room_of_found : Option DataSet → ℕ
room_of_found found = option_map_or room_of_set found 0

-- an output that has become longer has space for a record less
room_here : (name : Option Name) (old new : Catalog) → IsSetThere old name → new.sets ≡ grown_in name old.sets → room_at new name ≡ room_at old name - 1
room_here None old new there is = refl
room_here (Some name) old new there is =
    let found = set_there old name there in
    let grows = is_longer name found.0 old new found.1 is in
    let less : found.0.space - (found.0.length + 1) ≡ found.0.space - found.0.length - 1 = omega arith in
    ap (λ s. option_map_or room_of_set s 0) grows.here ∙ less ∙ sym (ap (λ s. option_map_or room_of_set s 0 - 1) grows.was)

-- and the other one has as much as before
room_other : (name other : Option Name) (old new : Catalog) → IsSetThere old name → new.sets ≡ grown_in name old.sets → (AreSameSet other name → ⊥) → room_at new other ≡ room_at old other
room_other name None old new there is differ = refl
room_other None (Some other) old new there is differ = ap (λ sets. room_at (record { sets = sets; room = 0; entry_rooms = [] }) (Some other)) is
room_other (Some name) (Some other) old new there is differ =
    let found = set_there old name there in
    let grows = is_longer name found.0 old new found.1 is in
    ap (λ s. option_map_or room_of_set s 0) (grows.others other (untrue (same_name other name) differ))

turned : (one other : Option Name) → (AreSameSet one other → ⊥) → AreSameSet other one → ⊥
turned None None differ same = same
turned None (Some other) differ same = same
turned (Some one) None differ same = same
turned (Some one) (Some other) differ same = differ (name-turned one other ∙ same)

above : (n : ℕ) → nat_lt 0 (suc n) ≡ true
above n = grind (arith, nat_tests)

some_main : (main rejects : ℕ) → is_some (less_main main rejects) ≡ nat_lt 0 main
some_main zero rejects = refl
some_main (suc main) rejects = sym (above main)

some_rejects : (main rejects : ℕ) → is_some (less_rejects main rejects) ≡ nat_lt 0 rejects
some_rejects main zero = refl
some_rejects main (suc rejects) = sym (above rejects)

left_main : (main rejects : ℕ) → nat_lt 0 main ≡ true → less_main main rejects ≡ Some (record { main = main - 1; rejects = rejects })
left_main zero rejects fits = absurd (false≢true fits)
left_main (suc main) rejects fits = ap (λ n. less_main (suc n) rejects) (let e : main ≡ suc main - 1 = omega arith in e)

left_rejects : (main rejects : ℕ) → nat_lt 0 rejects ≡ true → less_rejects main rejects ≡ Some (record { main = main; rejects = rejects - 1 })
left_rejects main zero fits = absurd (false≢true fits)
left_rejects main (suc rejects) fits = ap (λ n. less_rejects main (suc n)) (let e : rejects ≡ suc rejects - 1 = omega arith in e)

abbrev room : ℕ → ℕ → OutputRoom
room main rejects = record { main = main; rejects = rejects }

module _ (files : Files) (old new : Catalog) (there : AreThere files old) (output : Output) (fits : Bool) where
  pub main_fits : output ≡ Main → fits ≡ nat_lt 0 (room_at old files.main) → fits ≡ is_some (room_behind output (room_of old files))
  unfolding room_of
  main_fits to is = is ∙ sym (some_main (room_at old files.main) (room_at old files.rejects)) ∙ ap (λ o. is_some (room_behind o (room (room_at old files.main) (room_at old files.rejects)))) (sym to)

  pub rejects_fit : output ≡ Rejects → fits ≡ nat_lt 0 (room_at old files.rejects) → fits ≡ is_some (room_behind output (room_of old files))
  unfolding room_of
  rejects_fit to is = is ∙ sym (some_rejects (room_at old files.main) (room_at old files.rejects)) ∙ ap (λ o. is_some (room_behind o (room (room_at old files.main) (room_at old files.rejects)))) (sym to)

  grown_where : (name : Option Name) → IsTrue fits → new.sets ≡ (if fits then grown_in name old.sets else old.sets) → new.sets ≡ grown_in name old.sets
  grown_where name made is = is ∙ ap (λ b. if b then grown_in name old.sets else old.sets) made

  pub main_left : output ≡ Main → fits ≡ nat_lt 0 (room_at old files.main) → new.sets ≡ (if fits then grown_in files.main old.sets else old.sets) → IsTrue fits → room_behind output (room_of old files) ≡ Some (room_of new files)
  unfolding room_of
  main_left to is sets made =
      let grown = grown_where files.main made sets in
      ap (λ o. room_behind o (room (room_at old files.main) (room_at old files.rejects))) to
      ∙ left_main (room_at old files.main) (room_at old files.rejects) (sym is ∙ made)
      ∙ ap (λ n. Some (room n (room_at old files.rejects))) (sym (room_here files.main old new there.main grown))
      ∙ ap (λ n. Some (room (room_at new files.main) n)) (sym (room_other files.main files.rejects old new there.main grown there.differ))

  pub rejects_left : output ≡ Rejects → fits ≡ nat_lt 0 (room_at old files.rejects) → new.sets ≡ (if fits then grown_in files.rejects old.sets else old.sets) → IsTrue fits → room_behind output (room_of old files) ≡ Some (room_of new files)
  unfolding room_of
  rejects_left to is sets made =
      let grown = grown_where files.rejects made sets in
      ap (λ o. room_behind o (room (room_at old files.main) (room_at old files.rejects))) to
      ∙ left_rejects (room_at old files.main) (room_at old files.rejects) (sym is ∙ made)
      ∙ ap (λ n. Some (room n (room_at old files.rejects - 1))) (sym (room_other files.rejects files.main old new there.rejects grown (turned files.rejects files.main there.differ)))
      ∙ ap (λ n. Some (room (room_at new files.main) n)) (sym (room_here files.rejects old new there.rejects grown))

-- an output that is longer leaves each data set no shorter
pub grown_in-grown : (name : Option Name) (old new : Catalog) → IsSetThere old name → new.sets ≡ grown_in name old.sets → IsGrown old new
grown_in-grown None old new there is = record {
  each = λ name set was. let le : set.length ≤ set.length = omega arith in
      (set, ap (λ sets. set_of (record { sets = sets; room = 0; entry_rooms = [] }) name) is ∙ was, record { parts = refl; lrecl = refl }, le);
  back = λ name later was. (later, ap (λ sets. set_of (record { sets = sets; room = 0; entry_rooms = [] }) name) (sym is) ∙ was, record { parts = refl; lrecl = refl });
}
grown_in-grown (Some name) old new there is =
    let found = set_there old name there in
    grown_longer name found.0 old new (is_longer name found.0 old new found.1 is)
