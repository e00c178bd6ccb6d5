-- An output of a step has the step's stamp once its data sets are made.
use Rattle.std.proofs.Common.{◌≡◌, ◌⊎◌, inl, inr, ℕ, suc, Bool, true, false, cond, ◌&&◌, ◌||◌, List, [], ◌∷◌, filter, refl, ap, sym, ◌∙◌, subst, Option, Some, None}
use Rattle.std.specs.List.{cons_option, list_any}
use Rattle.std.specs.Option.{option_map}
use Rattle.std.proofs.lemmas.Bool.{false≢true, or_left, or_right}
use Rattle.std.proofs.lemmas.Option.{same_Some}
use Rattle.ckr_base.proofs.Bools.{and-false, and-second, bool-cases}
use Rattle.ckr_base.proofs.Options.{some-not-none}
use Rattle.ckr_base.proofs.Sequences.{any-filter}
use Rattle.ckr_jcl.specs.declared.deck.Dd.{Dd}
use Rattle.ckr_library.specs.NameMaps.{Name, same_name, entry_at}
use Rattle.ckr_library.proofs.Named.{at-with_changed, at-with_entry}
use Rattle.ckr_meaning.specs.LibrarySet.{LibrarySet, Library, record_ways}
use Rattle.ckr_meaning.specs.Allotments.{AllotmentModel, found, made, refused, DdAllotment, is_output, opened_all, opened_by, opened_one}
use Rattle.ckr_meaning.specs.Dispositions.{Stock}
use Rattle.ckr_meaning.specs.EffectiveJob.{OwnedStep, flaw_in, flaws_in, is_among, name_of, placed_from, placed_one}
use Rattle.ckr_meaning.specs.StepRun.{StepStart, fresh_set, made_all, made_at, made_one, opened_at, placed_at, stamp_at}
use Rattle.ckr_points_library.specs.Commit.{output_names}
use Rattle.ckr_points_invariant.proofs.StepEnd.Disposals.{flawless-first, flawless-rest}
use Rattle.ckr_points_invariant.proofs.Library.Entries.{among-filter_map, is_name}
use Rattle.ckr_points_invariant.proofs.Writes.Growth.{IsMine, changed_is, opened_mine}

-- what a DD does with the name
abbrev opens : Name → DdAllotment → AllotmentModel → Bool
opens name placed found = is_output placed.dd.role && same_name name placed.name
opens name placed made = false
opens name placed (refused flaw) = false

abbrev makes : Name → DdAllotment → AllotmentModel → Bool
makes name placed found = false
makes name placed made = same_name name placed.name
makes name placed (refused flaw) = false

abbrev puts_out : Name → DdAllotment → Bool
puts_out name placed = is_output placed.dd.role && same_name name placed.name

either_way : (name : Name) (placed : DdAllotment) (allotment : AllotmentModel) → flaw_in allotment ≡ None → puts_out name placed ≡ true → (opens name placed allotment ≡ true) ⊎ (makes name placed allotment ≡ true)
either_way name placed found flawless out = inl out
either_way name placed made flawless out = inr (and-second (is_output placed.dd.role) (same_name name placed.name) out)
either_way name placed (refused flaw) flawless out = absurd (some-not-none flaw flawless)

any_way : (name : Name) (all : List DdAllotment) → flaws_in all ≡ [] → list_any (puts_out name) all ≡ true → (list_any (λ placed. opens name placed placed.allotment) all ≡ true) ⊎ (list_any (λ placed. makes name placed placed.allotment) all ≡ true)
any_way name [] flawless out = absurd (false≢true out)
any_way name (placed ∷ rest) flawless out =
    bool-cases (puts_out name placed)
    (λ here. elim (either_way name placed placed.allotment (flawless-first placed rest flawless) here) [
      | inl opened ↦ inl (or_left (opens name placed placed.allotment) _ opened)
      | inr new ↦ inr (or_left (makes name placed placed.allotment) _ new)
    ])
    (λ there. elim (any_way name rest (flawless-rest placed rest flawless) (sym (ap (λ b. b || list_any (puts_out name) rest) there) ∙ out)) [
      | inl opened ↦ inl (or_right (opens name placed placed.allotment) _ opened)
      | inr new ↦ inr (or_right (makes name placed placed.allotment) _ new)
    ])

-- a step's outputs are among its placed DDs
any_placed : (standing : Stock LibrarySet) (root : ℕ) (owned : OwnedStep) (number : ℕ) (dds : List Dd) (name : Name) → list_any (puts_out name) (placed_from record_ways standing root owned number dds) ≡ list_any (λ dd. is_output dd.role && is_name name (name_of root owned dd)) dds
any_placed standing root owned number [] name = refl
any_placed standing root owned number (dd ∷ dds) name =
    by (any_placed standing root owned (suc number) dds name) (name_of root owned dd)
  where
    by : list_any (puts_out name) (placed_from record_ways standing root owned (suc number) dds) ≡ list_any (λ dd. is_output dd.role && is_name name (name_of root owned dd)) dds → (other : Option Name) → list_any (puts_out name) (cons_option (option_map (placed_one record_ways standing number dd) other) (placed_from record_ways standing root owned (suc number) dds)) ≡ ((is_output dd.role && is_name name other) || list_any (λ dd. is_output dd.role && is_name name (name_of root owned dd)) dds)
    by rest None = rest ∙ sym (ap (λ b. b || list_any (λ dd. is_output dd.role && is_name name (name_of root owned dd)) dds) (and-false (is_output dd.role)))
    by rest (Some other) = ap (λ b. (is_output dd.role && same_name name other) || b) rest

module _ (start : StepStart) (name : Name) where
  -- whatever stands under the name has the step's stamp
  abbrev pub AllMine : Library → Type 0
  AllMine library = (set : LibrarySet) → entry_at library name ≡ Some set → IsMine start name set

  opened_keeps : (placed : DdAllotment) (allotment : AllotmentModel) (output : Bool) (library : Library) → AllMine library → AllMine (opened_one record_ways (stamp_at start) placed allotment output library)
  opened_keeps placed found true library mine = λ set e.
      let change = opened_by record_ways (stamp_at start) placed.dd.disp.status in
      bool-cases (same_name name placed.name)
      (λ same.
      let it = changed_is start name change (entry_at library name) set (sym (ap (λ b. cond b (option_map change (entry_at library name)) (entry_at library name)) same) ∙ sym (at-with_changed placed.name name change library) ∙ e) in
      subst (IsMine start name) it.1 (opened_mine start name placed.dd.disp.status it.0))
      (λ apart. mine set (sym (ap (λ b. cond b (option_map change (entry_at library name)) (entry_at library name)) apart) ∙ sym (at-with_changed placed.name name change library) ∙ e))
  opened_keeps placed found false library mine = mine
  opened_keeps placed made output library mine = mine
  opened_keeps placed (refused flaw) output library mine = mine

  opened_all-keeps : (all : List DdAllotment) (library : Library) → AllMine library → AllMine (opened_all record_ways (stamp_at start) all library)
  opened_all-keeps [] library mine = mine
  opened_all-keeps (placed ∷ rest) library mine = opened_all-keeps rest _ (opened_keeps placed placed.allotment (is_output placed.dd.role) library mine)

  opened_now : (placed : DdAllotment) (allotment : AllotmentModel) (library : Library) → opens name placed allotment ≡ true → AllMine (opened_one record_ways (stamp_at start) placed allotment (is_output placed.dd.role) library)
  opened_now placed found library here =
      by (is_output placed.dd.role) (same_name name placed.name) refl here
    where
      change : LibrarySet → LibrarySet
      change = opened_by record_ways (stamp_at start) placed.dd.disp.status

      by : (output same : Bool) → same_name name placed.name ≡ same → (output && same) ≡ true → AllMine (opened_one record_ways (stamp_at start) placed found output library)
      by true true is e = λ set at_name.
          let it = changed_is start name change (entry_at library name) set (sym (ap (λ b. cond b (option_map change (entry_at library name)) (entry_at library name)) is) ∙ sym (at-with_changed placed.name name change library) ∙ at_name) in
          subst (IsMine start name) it.1 (opened_mine start name placed.dd.disp.status it.0)
      by true false is e = absurd (false≢true e)
      by false same is e = absurd (false≢true e)
  opened_now placed made library here = absurd (false≢true here)
  opened_now placed (refused flaw) library here = absurd (false≢true here)

  opened_all-mine : (all : List DdAllotment) (library : Library) → list_any (λ placed. opens name placed placed.allotment) all ≡ true → AllMine (opened_all record_ways (stamp_at start) all library)
  opened_all-mine [] library some = absurd (false≢true some)
  opened_all-mine (placed ∷ rest) library some =
      bool-cases (opens name placed placed.allotment)
      (λ here. opened_all-keeps rest _ (opened_now placed placed.allotment library here))
      (λ there. opened_all-mine rest _ (sym (ap (λ b. b || list_any (λ placed. opens name placed placed.allotment) rest) there) ∙ some))

  made_keeps : (placed : DdAllotment) (allotment : AllotmentModel) (library : Library) → AllMine library → AllMine (made_one (stamp_at start) placed allotment library)
  made_keeps placed found library mine = mine
  made_keeps placed made library mine = λ set e.
      bool-cases (same_name name placed.name)
      (λ same. subst (IsMine start name) (same_Some (fresh_set (stamp_at start) placed.dd) set (sym (ap (λ b. cond b (Some (fresh_set (stamp_at start) placed.dd)) (entry_at library name)) same) ∙ sym (at-with_entry placed.name name (fresh_set (stamp_at start) placed.dd) library) ∙ e)) refl)
      (λ apart. mine set (sym (ap (λ b. cond b (Some (fresh_set (stamp_at start) placed.dd)) (entry_at library name)) apart) ∙ sym (at-with_entry placed.name name (fresh_set (stamp_at start) placed.dd) library) ∙ e))
  made_keeps placed (refused flaw) library mine = mine

  made_all-keeps : (all : List DdAllotment) (library : Library) → AllMine library → AllMine (made_all (stamp_at start) all library)
  made_all-keeps [] library mine = mine
  made_all-keeps (placed ∷ rest) library mine = made_all-keeps rest _ (made_keeps placed placed.allotment library mine)

  made_now : (placed : DdAllotment) (allotment : AllotmentModel) (library : Library) → makes name placed allotment ≡ true → AllMine (made_one (stamp_at start) placed allotment library)
  made_now placed found library here = absurd (false≢true here)
  made_now placed made library here = λ set e.
      subst (IsMine start name) (same_Some (fresh_set (stamp_at start) placed.dd) set (sym (ap (λ b. cond b (Some (fresh_set (stamp_at start) placed.dd)) (entry_at library name)) here) ∙ sym (at-with_entry placed.name name (fresh_set (stamp_at start) placed.dd) library) ∙ e)) refl
  made_now placed (refused flaw) library here = absurd (false≢true here)

  made_all-mine : (all : List DdAllotment) (library : Library) → list_any (λ placed. makes name placed placed.allotment) all ≡ true → AllMine (made_all (stamp_at start) all library)
  made_all-mine [] library some = absurd (false≢true some)
  made_all-mine (placed ∷ rest) library some =
      bool-cases (makes name placed placed.allotment)
      (λ here. made_all-keeps rest _ (made_now placed placed.allotment library here))
      (λ there. made_all-mine rest _ (sym (ap (λ b. b || list_any (λ placed. makes name placed placed.allotment) rest) there) ∙ some))

  -- an output has the stamp
  pub made_at-mine : flaws_in (placed_at start) ≡ [] → is_among (output_names start.root start.owned) name ≡ true → AllMine (made_at start)
  unfolding made_at opened_at placed_at
  made_at-mine flawless among =
      elim (any_way name (placed_at start) flawless some) [
        | inl opened ↦ made_all-keeps (placed_at start) _ (opened_all-mine (placed_at start) start.standing.sets opened)
        | inr new ↦ made_all-mine (placed_at start) (opened_at start) new
      ]
    where
      some : list_any (puts_out name) (placed_from record_ways start.standing start.root start.owned 1 start.owned.step.dds) ≡ true
      some =
          any_placed start.standing start.root start.owned 1 start.owned.step.dds name
          ∙ sym (any-filter (λ dd. is_output dd.role) (λ dd. is_name name (name_of start.root start.owned dd)) start.owned.step.dds)
          ∙ sym (among-filter_map (name_of start.root start.owned) (filter (λ dd. is_output dd.role) start.owned.step.dds) name)
          ∙ among
