-- The volumes of a step that wants them, and the first DD on a volume.
use Rattle.std.specs.Prelude.{if◌then◌else◌}
use Rattle.std.proofs.Common.{append-nil, ◌≡◌, ◌≤◌, ◌<◌, ◌+◌, ◌-◌, ◌&&◌, ◌||◌, ℕ, zero, suc, Bool, true, false, cond, refl, ap, sym, ◌∙◌, List, [], ◌∷◌, ◌++◌, arith, drop, filter, get_or, length, nat_lt, Option, None, Some}
use Rattle.std.proofs.lemmas.Bool.Decides.{nat_tests}
use Rattle.std.proofs.lemmas.List.Elements.{filter_agree}
use Rattle.std.proofs.lemmas.Option.{same_Some}
use Rattle.std.specs.List.{list_all, range_with_len}
use Rattle.std.specs.Option.{is_some, option_map, option_map_or}
use Rattle.ckr_base.proofs.Numbers.{plus-one}
use Rattle.ckr_base.proofs.Options.{some-not-none}
use Rattle.ckr_base.proofs.Sequences.{drop-at}
use Rattle.ckr_desk_turn.specs.Mounts.{dd_on, first_dd, is_made_there, stands_there, volumes_of}
use Rattle.ckr_events.specs.declared.event.Made.{Made}
use Rattle.ckr_jcl.specs.declared.deck.Dd.{Dd}
use Rattle.ckr_library.specs.Catalog.{Holding}
use Rattle.ckr_library.specs.NameMaps.{Name, Named, entry_at}
use Rattle.ckr_library.proofs.Named.{at-viewed}
use Rattle.ckr_meaning.specs.EffectiveJob.{OwnedStep, name_of}
use Rattle.ckr_points.specs.Rows.{TableSet, TablesModel, holding_of}
use Rattle.ckr_points_tables.specs.RunJobs.{own_of}
use Rattle.ckr_points_tables.specs.View.{seen_by}
use Rattle.ckr_queue.specs.Units.{is_volume_list}
use Rattle.ckr_volumes.specs.declared.layout.Layout.{Layout}
use Rattle.ckr_desk_memory.specs.declared.mounts.WantingStep.{WantingStep}
use Rattle.ckr_desk_memory.specs.Mounts.{IsWantingIn, dd_from, is_volume_of, lies_on, stands_on, volumes_from}

-- ---- the first DD that is so

module _ (is_so : ℕ → Dd → Bool) where
  module _ (dds : List Dd) (place : ℕ) (dd : Dd) (inside : place < length dds) (is : dd ≡ get_or dds place dd) where
    abbrev rest_from : Bool → Option ℕ
    rest_from so = if so then Some (place + 1) else first_dd is_so (suc (place + 1)) (drop (place + 1) dds)

    pub first-here : is_so (place + 1) dd ≡ true → first_dd is_so (place + 1) (drop place dds) ≡ Some (place + 1)
    first-here so = ap (first_dd is_so (place + 1)) (drop-at dds place dd inside is) ∙ ap rest_from so

    pub first-later : is_so (place + 1) dd ≡ false → first_dd is_so (place + 1) (drop place dds) ≡ first_dd is_so (place + 1 + 1) (drop (place + 1) dds)
    first-later other =
        ap (first_dd is_so (place + 1)) (drop-at dds place dd inside is) ∙ ap rest_from other ∙ ap (λ n. first_dd is_so n (drop (place + 1) dds)) (sym (plus-one (place + 1)))

  -- its number is that of one of the DDs
  pub first-within : (number : ℕ) (dds : List Dd) (found : ℕ) → first_dd is_so number dds ≡ Some found → (number ≤ found) × (found < number + length dds)
  first-within number [] found is = absurd (some-not-none found (sym is))
  first-within number (dd ∷ dds) found is =
      elim (is_so number dd) as (λ b. (if b then Some number else first_dd is_so (suc number) dds) ≡ Some found → (number ≤ found) × (found < number + suc (length dds))) [
        | true ↦ λ is. let same : number ≡ found = same_Some _ _ is in (omega (arith, same), omega (arith, same))
        | false ↦ λ is. let later = first-within (suc number) dds found is in (omega (arith, later.0), omega (arith, later.1))
      ] is

  pub first-same : (other : ℕ → Dd → Bool) → ((number : ℕ) (dd : Dd) → is_so number dd ≡ other number dd) → (number : ℕ) (dds : List Dd) → first_dd is_so number dds ≡ first_dd other number dds
  first-same other same number [] = refl
  first-same other same number (dd ∷ dds) =
      ap (λ b. if b then Some number else first_dd is_so (suc number) dds) (same number dd)
      ∙ ap (λ found. if other number dd then Some number else found) (first-same other same (suc number) dds)

-- ---- by the library

-- a data set of the tables, as the library shows it
stands-seen : (sets : Named TableSet) (sought : Option ℕ) (name : Option Name) → stands_on (seen_by holding_of sets) sought name ≡ stands_there sets sought name
stands-seen sets sought None = refl
stands-seen sets sought (Some name) =
    ap (λ entry. option_map_or (lies_on sought) (option_map (λ (held : Holding). held.set) entry) false) (at-viewed holding_of sets name) ∙ by (entry_at sets name)
  where
    by : (entry : Option TableSet)
        → option_map_or (lies_on sought) (option_map (λ (held : Holding). held.set) (option_map holding_of entry)) false
        ≡ option_map_or (λ (table : TableSet). lies_on sought table.set) entry false
    by None = refl
    by (Some table) = refl

-- by the parts of a step
abbrev by_items : Option ℕ → ℕ → OwnedStep → Named TableSet → List Made → Option ℕ
by_items sought root owned all items = first_dd (λ number dd. is_made_there items sought number || stands_there all sought (name_of root owned dd)) 1 owned.step.dds

module _ (tables : TablesModel) (step : WantingStep) (its : IsWantingIn tables step) (sets : Named Holding) (seen : sets ≡ seen_by holding_of tables.sets) where
  pub dd-is : (sought : Option ℕ) → dd_from sets step sought 1 step.own.step.now.dds ≡ dd_on its.wanting sought
  dd-is sought =
      first-same (λ number dd. is_made_there step.made.now sought number || stands_on sets sought (name_of step.root (own_of step.own) dd))
      (λ number dd. is_made_there step.made.now sought number || stands_there tables.sets sought (name_of step.root (own_of step.own) dd))
      (λ number dd. ap (λ b. is_made_there step.made.now sought number || b)
      (ap (λ all. stands_on all sought (name_of step.root (own_of step.own) dd)) seen ∙ stands-seen tables.sets sought (name_of step.root (own_of step.own) dd)))
      1 step.own.step.now.dds
      ∙ ap (by_items sought step.root (own_of step.own) tables.sets) (sym its.items)
      ∙ ap (λ sets. by_items sought step.root (own_of step.own) sets its.wanting.items) (sym its.sets)
      ∙ ap (λ root. by_items sought root (own_of step.own) its.wanting.sets its.wanting.items) (sym its.root)
      ∙ ap (λ owned. by_items sought its.wanting.row.job.root owned its.wanting.sets its.wanting.items) (sym its.own)

  pub volumes-are : (layout : Layout) → volumes_from sets step 0 (length layout.volumes.items) ≡ volumes_of layout its.wanting
  volumes-are layout =
      filter_agree (is_volume_of sets step) (λ volume. is_some (dd_on its.wanting (Some volume))) (λ volume. ap is_some (dd-is (Some volume))) (range_with_len 0 (length layout.volumes.items))

-- ---- lists of volumes

all-above : (keep : ℕ → Bool) (low volume count : ℕ) → low < volume → list_all (nat_lt low) (filter keep (range_with_len volume count)) ≡ true
all-above keep low volume zero below = refl
all-above keep low volume (suc count) below =
    elim (keep volume) as (λ b. list_all (nat_lt low) (cond b (volume ∷ filter keep (range_with_len (volume + 1) count)) (filter keep (range_with_len (volume + 1) count))) ≡ true) [
      | true ↦ ap (λ b. b && list_all (nat_lt low) (filter keep (range_with_len (volume + 1) count))) (is_below low volume below) ∙ all-above keep low (volume + 1) count (omega (arith, below))
      | false ↦ all-above keep low (volume + 1) count (omega (arith, below))
    ]
  where
    is_below : (a b : ℕ) → a < b → nat_lt a b ≡ true
    is_below a b less = grind (arith, nat_tests)

is_low : (volume : ℕ) → volume < 32 → nat_lt volume 32 ≡ true
is_low volume less = grind (arith, nat_tests)

-- numbers that are kept of those from one on below 32 are a list of volumes
pub kept-list : (keep : ℕ → Bool) (volume count : ℕ) → volume + count ≤ 32 → is_volume_list (filter keep (range_with_len volume count)) ≡ true
kept-list keep volume zero few = refl
kept-list keep volume (suc count) few =
    elim (keep volume) as (λ b. is_volume_list (cond b (volume ∷ filter keep (range_with_len (volume + 1) count)) (filter keep (range_with_len (volume + 1) count))) ≡ true) [
      | true ↦
          let rest : List ℕ = filter keep (range_with_len (volume + 1) count) in
          ap (λ b. b && (list_all (nat_lt volume) rest && is_volume_list rest)) (is_low volume (omega (arith, few)))
          ∙ ap (λ b. b && is_volume_list rest) (all-above keep volume (volume + 1) count (omega arith))
          ∙ kept-list keep (volume + 1) count (omega (arith, few))
      | false ↦ kept-list keep (volume + 1) count (omega (arith, few))
    ]

-- one volume more
module _ (sets : Named Holding) (step : WantingStep) (volume count : ℕ) (below : volume < count) where
  abbrev from_next : Bool → List ℕ
  from_next so = cond so (volume ∷ volumes_from sets step (volume + 1) (count - (volume + 1))) (volumes_from sets step (volume + 1) (count - (volume + 1)))

  next_is : (more : ℕ) → more ≡ suc (count - (volume + 1)) → volumes_from sets step volume more ≡ from_next (is_volume_of sets step volume)
  next_is more is = ap (volumes_from sets step volume) is

  pub volume-kept : is_volume_of sets step volume ≡ true → volumes_from sets step volume (count - volume) ≡ volume ∷ volumes_from sets step (volume + 1) (count - (volume + 1))
  volume-kept so = next_is (count - volume) (omega (arith, below)) ∙ ap from_next so

  pub volume-left : is_volume_of sets step volume ≡ false → volumes_from sets step volume (count - volume) ≡ volumes_from sets step (volume + 1) (count - (volume + 1))
  volume-left other = next_is (count - volume) (omega (arith, below)) ∙ ap from_next other

-- all volumes
module _ (sets : Named Holding) (step : WantingStep) (items : List ℕ) (volume count : ℕ) (last : count ≤ volume) (kept : items ++ volumes_from sets step volume (count - volume) ≡ volumes_from sets step 0 count) where
  volumes_all : (more : ℕ) → more ≡ 0 → items ++ volumes_from sets step volume more ≡ volumes_from sets step 0 count → items ≡ volumes_from sets step 0 count
  volumes_all more none same = sym (append-nil items) ∙ ap (λ n. items ++ volumes_from sets step volume n) (sym none) ∙ same

  pub volumes-list : count ≤ 32 → is_volume_list items ≡ true
  volumes-list few = ap is_volume_list (volumes_all (count - volume) (omega (arith, last)) kept) ∙ kept-list (is_volume_of sets step) 0 count (omega (arith, few))
