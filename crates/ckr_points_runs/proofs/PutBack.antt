-- A data set that is cut to a length: when it has room for it, and when it stays.
use Rattle.std.proofs.Common.{◌≡◌, ℕ, ◌≤◌, T, Bool, true, false, cond, nat_le, IsSomeAnd, IsTrue, [], ◌∷◌, refl, ap, sym, ◌∙◌, arith, Option, Some, None}
use Rattle.std.specs.Option.{option_map, option_map_or}
use Rattle.std.specs.Cmp.Lexicographic.{nat_list_cmp_total}
use Rattle.std.specs.FinMap.Entries.{by_order, is_sorted}
use Rattle.std.specs.Ordering.{is_eq}
use Rattle.std.specs.declared.cmp.Ordering.TheVariants.{Less, Equal, Greater}
use Rattle.std.proofs.lemmas.Bool.{false≢true}
use Rattle.std.proofs.lemmas.Option.{same_Some}
use Rattle.ckr_base.proofs.Bools.{T-and-first, T-and-second, T-from-true}
use Rattle.ckr_base.proofs.Numbers.{nat_le-true}
use Rattle.ckr_base.proofs.Options.{some-not-none}
use Rattle.ckr_library.specs.Catalog.{Holding, with_length}
use Rattle.ckr_library.specs.NameMaps.{EachEntry, Name, Named, are_named_in_order, entry_at, name_cmp, with_change, with_changed, with_entry}
use Rattle.ckr_library.proofs.Named.{each-at}
use Rattle.ckr_library.proofs.OrderedLists.{find-below}
use Rattle.ckr_points_runs.specs.PutBack.{IsFilled}
use Rattle.ckr_points_runs.specs.PutBack.{cut_back}

-- what stands under a name put there again
pub with_entry-itself : {X : Type 0} (named : Named X) → T (is_sorted name_cmp named) → (name : Name) (x : X) → entry_at named name ≡ Some x → with_entry name x named ≡ named
with_entry-itself [] rise name x some = absurd (some-not-none x (sym some))
with_entry-itself (entry ∷ rest) rise name x some =
    elim (name_cmp name entry.0) as
    (λ r. name_cmp name entry.0 ≡ r → cond (is_eq r) (Some entry.1) (entry_at rest name) ≡ Some x →
    by_order r ((name, x) ∷ entry ∷ rest) ((entry.0, x) ∷ rest) (entry ∷ with_entry name x rest) ≡ (entry ∷ rest)) [
      | Less ↦ λ low some. absurd (some-not-none x (sym some ∙ find-below name_cmp nat_list_cmp_total entry.0 name low rest (T-and-first _ _ rise)))
      | Equal ↦ λ tied some. ap (λ y. (entry.0, y) ∷ rest) (sym (same_Some entry.1 x some))
      | Greater ↦ λ high some. ap (λ more. entry ∷ more) (with_entry-itself rest (T-and-second _ _ rise) name x some)
    ] refl some

-- a data set that is as long has room for the length
pub cut-back-fits : (most : ℕ) (name : Name) (sets : Named Holding) → EachEntry IsFilled sets → option_map_or (λ (holding : Holding). nat_le most holding.set.length) (entry_at sets name) false ≡ true → IsSomeAnd (option_map (λ (holding : Holding). holding.set) (entry_at sets name)) (λ set. most ≤ set.space)
cut-back-fits most name sets filled e = by (entry_at sets name) refl e
  where
    by : (found : Option Holding) → entry_at sets name ≡ found → option_map_or (λ (holding : Holding). nat_le most holding.set.length) found false ≡ true → IsSomeAnd (option_map (λ (holding : Holding). holding.set) found) (λ set. most ≤ set.space)
    by None there e = absurd (false≢true e)
    by (Some holding) there e = let full : IsFilled holding = each-at IsFilled sets filled name holding there in omega (arith, nat_le-true most holding.set.length e, full)

-- one that is shorter stays
pub cut-back-short : (most : ℕ) (name : Name) (sets : Named Holding) → IsTrue (are_named_in_order sets) → option_map_or (λ (holding : Holding). nat_le most holding.set.length) (entry_at sets name) false ≡ false → sets ≡ with_changed name (cut_back most) sets
cut-back-short most name sets order e = by (entry_at sets name) refl e
  where
    by : (found : Option Holding) → entry_at sets name ≡ found → option_map_or (λ (holding : Holding). nat_le most holding.set.length) found false ≡ false → sets ≡ with_change name (cut_back most) sets found
    by None there e = refl
    by (Some holding) there e =
        sym (ap (λ b. with_entry name (cond b (with_length most holding) holding) sets) e ∙ with_entry-itself sets (T-from-true _ order) name holding there)

pub cut-back-filled : (most : ℕ) (holding : Holding) → IsFilled holding → IsFilled (cut_back most holding)
cut-back-filled most holding filled = by (nat_le most holding.set.length) refl
  where
    by : (b : Bool) → nat_le most holding.set.length ≡ b → IsFilled (cond b (with_length most holding) holding)
    by true e = omega (arith, nat_le-true most holding.set.length e, filled)
    by false e = filled
