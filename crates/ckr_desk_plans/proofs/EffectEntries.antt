-- The entry of a run's checkpoint in effect, as a turn tells it.
use Rattle.std.proofs.Common.{◌≡◌, ℕ, true, false, find, refl, ap, sym, ◌∙◌, Option, None, Some}
use Rattle.std.specs.Option.{is_some, option_map, option_map_or}
use Rattle.std.proofs.lemmas.Bool.{false≢true, true≢false}
use Rattle.std.proofs.lemmas.Option.{same_Some}
use Rattle.ckr_base.proofs.Options.{some-not-none}
use Rattle.ckr_base.proofs.Sequences.{find-passes}
use Rattle.ckr_library.proofs.Named.{name-same}
use Rattle.ckr_library.specs.NameMaps.{Name, Named, entry_at, same_name}
use Rattle.ckr_points.specs.Restart.{kept_at}
use Rattle.ckr_points.specs.Rows.{EffectPoint, KeptEntry, TableSet, TablesModel}
use Rattle.ckr_points_tables.specs.Model.InEffect.{InEffect}
use Rattle.ckr_points_tables.specs.Model.RunTable.{RunTable}
use Rattle.ckr_points_tables.specs.View.{effect_of}
use Rattle.ckr_desk_turn.specs.Jobs.{effect_entry}
use Rattle.ckr_desk_plans.specs.Plans.{row_for, told_entry}

-- an entry that is kept under an identifier has it
kept-named : (sets : Named TableSet) (set id : Name) (entry : KeptEntry) → kept_at sets set id ≡ Some entry → entry.kept.id ≡ id
kept-named sets set id entry = by (entry_at sets set)
  where
    by : (found : Option TableSet) → option_map_or (λ (table : TableSet). find (λ (one : KeptEntry). same_name one.kept.id id) table.entries) found None ≡ Some entry → entry.kept.id ≡ id
    by None is = absurd (some-not-none entry (sym is))
    by (Some table) is = name-same entry.kept.id id (find-passes (λ (one : KeptEntry). same_name one.kept.id id) table.entries entry is)

module _ (tables : TablesModel) (run : ℕ) (table : RunTable) where
  -- no checkpoint is in effect
  pub none-in-effect : table.in_effect ≡ None → None ≡ option_map told_entry (effect_entry tables (row_for run table))
  none-in-effect none =
      ap (λ (o : Option InEffect). option_map told_entry (option_map_or (λ (effect : EffectPoint). kept_at tables.sets effect.set effect.kept.id) (option_map effect_of o) None)) (sym none)

  module _ (effect : InEffect) (is : table.in_effect ≡ Some effect) where
    kept : effect_entry tables (row_for run table) ≡ kept_at tables.sets effect.set effect.kept.id
    kept = ap (λ (o : Option InEffect). option_map_or (λ (effect : EffectPoint). kept_at tables.sets effect.set effect.kept.id) (option_map effect_of o) None) is

    -- the data set doesn't keep its entry
    pub none-kept : None ≡ option_map (λ (entry : KeptEntry). entry.point.taken) (kept_at tables.sets effect.set effect.kept.id) → None ≡ option_map told_entry (effect_entry tables (row_for run table))
    none-kept none = by (kept_at tables.sets effect.set effect.kept.id) none ∙ ap (option_map told_entry) (sym kept)
      where
        by : (found : Option KeptEntry) → None ≡ option_map (λ (entry : KeptEntry). entry.point.taken) found → None ≡ option_map told_entry found
        by None none = refl
        by (Some entry) none = absurd (some-not-none entry.point.taken (sym none))

    -- it does
    pub some-kept : (id : Name) (taken : ℕ) → id ≡ effect.kept.id → Some taken ≡ option_map (λ (entry : KeptEntry). entry.point.taken) (kept_at tables.sets effect.set effect.kept.id) → Some (id, taken) ≡ option_map told_entry (effect_entry tables (row_for run table))
    some-kept id taken named some = by (kept_at tables.sets effect.set effect.kept.id) refl some ∙ ap (option_map told_entry) (sym kept)
      where
        by : (found : Option KeptEntry) → kept_at tables.sets effect.set effect.kept.id ≡ found → Some taken ≡ option_map (λ (entry : KeptEntry). entry.point.taken) found → Some (id, taken) ≡ option_map told_entry found
        by None found some = absurd (some-not-none taken some)
        by (Some entry) found some =
            λ i. Some ((named ∙ sym (kept-named tables.sets effect.set effect.kept.id entry found)) i, same_Some taken entry.point.taken some i)

-- ---- as it is told

pub record IsTold (found : Option KeptEntry) (at : Option (Name × ℕ)) : Type 0 where
  pub entry : KeptEntry
  pub is : found ≡ Some entry
  pub told : at ≡ Some (told_entry entry)

pub is-told : (found : Option KeptEntry) (at : Option (Name × ℕ)) → at ≡ option_map told_entry found → is_some at ≡ true → IsTold found at
is-told None at is some = absurd (false≢true (sym (ap is_some is) ∙ some))
is-told (Some entry) at is some = record { entry = entry; is = refl; told = is }

pub isnt-told : (found : Option KeptEntry) (at : Option (Name × ℕ)) → at ≡ option_map told_entry found → is_some at ≡ false → found ≡ None
isnt-told None at is none = refl
isnt-told (Some entry) at is none = absurd (true≢false (sym (ap is_some is) ∙ none))
