-- The writes of a step go on: what an output has is the beginning of what it has behind more writes.
use Rattle.std.proofs.Common.{◌≡◌, ◌⊎◌, inl, inr, ℕ, ◌+◌, Bool, true, false, cond, List, [], ◌∷◌, ◌++◌, take, drop, length, refl, ap, sym, ◌∙◌, subst, Option, Some, None, arith, append_assoc, ◌≤◌, ◌-◌}
use Rattle.std.specs.Option.{option_map}
use Rattle.std.proofs.lemmas.Bool.{false≢true}
use Rattle.std.proofs.lemmas.Option.{same_Some}
use Rattle.std.proofs.Math.Seq.{take-append_seam}
use Rattle.ckr_base.specs.declared.programs.Output.{Output}
use Rattle.ckr_base.specs.declared.programs.Output.TheVariants.{Main, Rejects, InPlace}
use Rattle.ckr_base.specs.declared.programs.Write.{Write}
use Rattle.ckr_base.proofs.Bools.{bool-cases}
use Rattle.ckr_base.proofs.Options.{option-cases, some-not-none}
use Rattle.ckr_base.proofs.Sequences.{take-drop}
use Rattle.ckr_base.specs.Columns.{fitted}
use Rattle.ckr_jcl.specs.declared.deck.Status.{Status}
use Rattle.ckr_jcl.specs.declared.deck.Status.TheVariants.{New, Old, Shr, Mod}
use Rattle.ckr_library.specs.NameMaps.{Name, same_name, entry_at}
use Rattle.ckr_library.proofs.Named.{at-with_changed, at-with_entry}
use Rattle.ckr_meaning.specs.LibrarySet.{LibrarySet, Library, record_ways}
use Rattle.ckr_meaning.specs.Allotments.{AllotmentModel, found, made, refused, DdAllotment, is_output, opened_all, opened_by, opened_one}
use Rattle.ckr_meaning.specs.StepRun.{StepStart, changed_in, fresh_set, made_all, made_at, made_one, opened_at, output_name, placed_at, stamp_at, within_at, work_at, written_all, written_one, written_set}
use Rattle.ckr_meaning.proofs.WriteSeries.{within_at-more}
use Rattle.ckr_points.specs.Soundness.{IsPrefix}

-- ---- beginnings

pub prefix-same : {A : Type 0} (all : List A) → IsPrefix all all
prefix-same [] = refl
prefix-same (x ∷ all) = ap (λ xs. x ∷ xs) (prefix-same all)

pub prefix-more : {A : Type 0} (first rest : List A) → IsPrefix first (first ++ rest)
prefix-more first rest = take-append_seam first rest

pub prefix-on : {A : Type 0} (first second third : List A) → IsPrefix first second → IsPrefix second third → IsPrefix first third
prefix-on first second third one other =
    ap (take (length first)) (
    take-drop (length second) third ∙ ap (λ xs. xs ++ drop (length second) third) other
    ∙ ap (λ xs. xs ++ drop (length second) third) (take-drop (length first) second ∙ ap (λ xs. xs ++ drop (length first) second) one)
    ∙ append_assoc first (drop (length first) second) (drop (length second) third))
    ∙ take-append_seam first (drop (length first) second ++ drop (length second) third)

-- ---- one name through the writes

-- a data set with the same stamp that begins as another
pub record GrowsTo (one other : LibrarySet) : Type 0 where
  pub stamp : other.stamp ≡ one.stamp
  pub content : other.content ≡ one.content
  pub lrecl : other.lrecl ≡ one.lrecl
  pub space : other.space ≡ one.space
  pub records : IsPrefix one.records other.records

pub grows-same : (one : LibrarySet) → GrowsTo one one
grows-same one = record { stamp = refl; content = refl; lrecl = refl; space = refl; records = prefix-same one.records }

grows-on : (one other third : LibrarySet) → GrowsTo one other → GrowsTo other third → GrowsTo one third
grows-on one other third first second = record {
  stamp = second.stamp ∙ first.stamp;
  content = second.content ∙ first.content;
  lrecl = second.lrecl ∙ first.lrecl;
  space = second.space ∙ first.space;
  records = prefix-on one.records other.records third.records first.records second.records;
}

-- the library has the data set under the name, grown
pub record HasGrown (name : Name) (one : LibrarySet) (library : Library) : Type 0 where
  pub other : LibrarySet
  pub at_name : entry_at library name ≡ Some other
  pub grown : GrowsTo one other

module _ (start : StepStart) (name : Name) where
  -- no rewrite goes to the name
  abbrev pub IsNotUpdated : Type 0
  IsNotUpdated = (place : ℕ) (to : Name) → output_name start (InPlace place) ≡ Some to → same_name name to ≡ false

  written_set_grown : IsNotUpdated → (output : Output) (image : List ℕ) (to : Name) (set : LibrarySet) → output_name start output ≡ Some to → same_name name to ≡ true → GrowsTo set (written_set start output image set)
  written_set_grown kept Main image to set e same = record { stamp = refl; content = refl; lrecl = refl; space = refl; records = prefix-more set.records (fitted set.lrecl image ∷ []) }
  written_set_grown kept Rejects image to set e same = record { stamp = refl; content = refl; lrecl = refl; space = refl; records = prefix-more set.records (fitted set.lrecl image ∷ []) }
  written_set_grown kept (InPlace place) image to set e same = absurd (false≢true (sym (kept place to e) ∙ same))

  written-grown : IsNotUpdated → (write : Write) (library : Library) (set : LibrarySet) → entry_at library name ≡ Some set → HasGrown name set (written_one start write library)
  unfolding written_one
  written-grown kept write library set at_name =
      option-cases (output_name start write.output)
      (λ none. record { other = set; at_name = ap (λ to. entry_at (changed_in to (written_set start write.output write.image) library) name) none ∙ at_name; grown = grows-same set })
      (λ to e.
      bool-cases (same_name name to)
      (λ same. record {
        other = written_set start write.output write.image set;
        at_name = ap (λ o. entry_at (changed_in o (written_set start write.output write.image) library) name) e ∙ at-with_changed to name (written_set start write.output write.image) library ∙ ap (λ b. cond b (option_map (written_set start write.output write.image) (entry_at library name)) (entry_at library name)) same ∙ ap (option_map (written_set start write.output write.image)) at_name;
        grown = written_set_grown kept write.output write.image to set e same;
      })
      (λ apart. record {
        other = set;
        at_name = ap (λ o. entry_at (changed_in o (written_set start write.output write.image) library) name) e ∙ at-with_changed to name (written_set start write.output write.image) library ∙ ap (λ b. cond b (option_map (written_set start write.output write.image) (entry_at library name)) (entry_at library name)) apart ∙ at_name;
        grown = grows-same set;
      }))

  pub written_all-grown : IsNotUpdated → (writes : List Write) (library : Library) (set : LibrarySet) → entry_at library name ≡ Some set → HasGrown name set (written_all start writes library)
  written_all-grown kept [] library set at_name = record { other = set; at_name = at_name; grown = grows-same set }
  written_all-grown kept (write ∷ writes) library set at_name =
      let one : HasGrown name set (written_one start write library) = written-grown kept write library set at_name in
      let more : HasGrown name one.other (written_all start writes (written_one start write library)) = written_all-grown kept writes (written_one start write library) one.other one.at_name in
      record { other = more.other; at_name = more.at_name; grown = grows-on set one.other more.other one.grown more.grown }

  -- what isn't there, no write makes
  written-none : (write : Write) (library : Library) → entry_at library name ≡ None → entry_at (written_one start write library) name ≡ None
  unfolding written_one
  written-none write library none =
      option-cases (output_name start write.output)
      (λ nowhere. ap (λ to. entry_at (changed_in to (written_set start write.output write.image) library) name) nowhere ∙ none)
      (λ to e.
      ap (λ o. entry_at (changed_in o (written_set start write.output write.image) library) name) e
      ∙ at-with_changed to name (written_set start write.output write.image) library
      ∙ ap (λ entry. cond (same_name name to) (option_map (written_set start write.output write.image) entry) entry) none
      ∙ elim (same_name name to) as (λ b. cond b (option_map (written_set start write.output write.image) None) None ≡ None) [ true ↦ refl | false ↦ refl ])

  pub written_all-none : (writes : List Write) (library : Library) → entry_at library name ≡ None → entry_at (written_all start writes library) name ≡ None
  written_all-none [] library none = none
  written_all-none (write ∷ writes) library none = written_all-none writes (written_one start write library) (written-none write library none)

  -- from some writes to all
  pub within-grown : IsNotUpdated → (writes : ℕ) (set : LibrarySet) → writes ≤ length (work_at start).writes → entry_at (within_at start writes) name ≡ Some set → HasGrown name set (within_at start (length (work_at start).writes))
  within-grown kept writes set some at_name =
      let more : ℕ = length (work_at start).writes - writes in
      subst (HasGrown name set)
      (sym (within_at-more start writes more) ∙ ap (within_at start) (let e : writes + (length (work_at start).writes - writes) ≡ length (work_at start).writes = omega (arith, some) in e))
      (written_all-grown kept (take more (drop writes (work_at start).writes)) (within_at start writes) set at_name)

  -- ---- stamps

  -- a data set of the name has the step's stamp, or is as it was before the step
  abbrev pub IsMine : LibrarySet → Type 0
  IsMine set = set.stamp ≡ stamp_at start

  abbrev pub MineOrSame : Library → Type 0
  MineOrSame library = (set : LibrarySet) → entry_at library name ≡ Some set → IsMine set ⊎ (entry_at start.standing.sets name ≡ Some set)

  pub opened_mine : (status : Status) (set : LibrarySet) → IsMine (opened_by record_ways (stamp_at start) status set)
  opened_mine New set = refl
  opened_mine Old set = refl
  opened_mine Shr set = refl
  opened_mine Mod set = refl

  pub changed_is : (change : LibrarySet → LibrarySet) (entry : Option LibrarySet) (set : LibrarySet) → option_map change entry ≡ Some set → (old : LibrarySet) × (change old ≡ set)
  changed_is change None set e = absurd (some-not-none set (sym e))
  changed_is change (Some old) set e = (old, same_Some (change old) set e)

  opened_or : (placed : DdAllotment) (allotment : AllotmentModel) (output : Bool) (library : Library) → MineOrSame library → MineOrSame (opened_one record_ways (stamp_at start) placed allotment output library)
  opened_or placed found true library so = λ set e.
      bool-cases (same_name name placed.name)
      (λ same.
      let it = changed_is (opened_by record_ways (stamp_at start) placed.dd.disp.status) (entry_at library name) set (sym (ap (λ b. cond b (option_map (opened_by record_ways (stamp_at start) placed.dd.disp.status) (entry_at library name)) (entry_at library name)) same) ∙ sym (at-with_changed placed.name name (opened_by record_ways (stamp_at start) placed.dd.disp.status) library) ∙ e) in
      inl (subst IsMine it.1 (opened_mine placed.dd.disp.status it.0)))
      (λ apart. so set (sym (ap (λ b. cond b (option_map (opened_by record_ways (stamp_at start) placed.dd.disp.status) (entry_at library name)) (entry_at library name)) apart) ∙ sym (at-with_changed placed.name name (opened_by record_ways (stamp_at start) placed.dd.disp.status) library) ∙ e))
  opened_or placed found false library so = so
  opened_or placed made output library so = so
  opened_or placed (refused flaw) output library so = so

  opened_all-or : (all : List DdAllotment) (library : Library) → MineOrSame library → MineOrSame (opened_all record_ways (stamp_at start) all library)
  opened_all-or [] library so = so
  opened_all-or (placed ∷ rest) library so = opened_all-or rest _ (opened_or placed placed.allotment (is_output placed.dd.role) library so)

  made_or : (placed : DdAllotment) (allotment : AllotmentModel) (library : Library) → MineOrSame library → MineOrSame (made_one (stamp_at start) placed allotment library)
  made_or placed found library so = so
  made_or placed made library so = λ set e.
      bool-cases (same_name name placed.name)
      (λ same. inl (subst IsMine (same_Some (fresh_set (stamp_at start) placed.dd) set (sym (ap (λ b. cond b (Some (fresh_set (stamp_at start) placed.dd)) (entry_at library name)) same) ∙ sym (at-with_entry placed.name name (fresh_set (stamp_at start) placed.dd) library) ∙ e)) refl))
      (λ apart. so set (sym (ap (λ b. cond b (Some (fresh_set (stamp_at start) placed.dd)) (entry_at library name)) apart) ∙ sym (at-with_entry placed.name name (fresh_set (stamp_at start) placed.dd) library) ∙ e))
  made_or placed (refused flaw) library so = so

  made_all-or : (all : List DdAllotment) (library : Library) → MineOrSame library → MineOrSame (made_all (stamp_at start) all library)
  made_all-or [] library so = so
  made_all-or (placed ∷ rest) library so = made_all-or rest _ (made_or placed placed.allotment library so)

  pub opened_at-or : MineOrSame (opened_at start)
  unfolding opened_at
  opened_at-or = opened_all-or (placed_at start) start.standing.sets (λ set e. inr e)

  pub made_at-or : MineOrSame (made_at start)
  unfolding made_at
  made_at-or = made_all-or (placed_at start) (opened_at start) opened_at-or
