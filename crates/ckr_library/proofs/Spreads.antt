-- The spans of all data sets through the changes of a library.
use Rattle.std.proofs.Common.{◌≡◌, not, cond, IsTrue, List, [], ◌∷◌, refl, ap, sym, ◌∙◌, Option, Some, None, T}
use Rattle.std.specs.declared.cmp.Ordering.TheVariants.{Less, Equal, Greater}
use Rattle.std.specs.Option.{option_map}
use Rattle.std.specs.Ordering.{is_eq}
use Rattle.std.specs.Cmp.Lexicographic.{nat_list_cmp_total}
use Rattle.std.specs.FinMap.Entries.{by_order, is_sorted}
use Rattle.std.proofs.lemmas.Option.{same_Some}
use Rattle.ckr_base.proofs.Bools.{T-and-first, T-and-second, T-from-true}
use Rattle.ckr_base.proofs.Options.{some-not-none}
use Rattle.ckr_library.specs.declared.sets.DataSet.{DataSet}
use Rattle.ckr_library.specs.Catalog.{Holding}
use Rattle.ckr_library.specs.NameMaps.{Name, Named, name_cmp, entry_at, with_entry, without_entry, with_change, with_changed, are_named_in_order}
use Rattle.ckr_library.specs.declared.spread.Span.{Span}
use Rattle.ckr_library.specs.Spread.{spans_of, spans_of_all, filed_all, unfiled_all}
use Rattle.ckr_library.proofs.Filings.{filed_all-filed_all, unfiled_all-filed_all}
use Rattle.ckr_library.proofs.OrderedLists.{find-below, where_key-below}

-- a new name adds its spans
pub spans-with_entry : (sets : Named Holding) (name : Name) (holding : Holding) → entry_at sets name ≡ None → spans_of_all (with_entry name holding sets) ≡ filed_all (spans_of holding.set) (spans_of_all sets)
spans-with_entry [] name holding none = refl
spans-with_entry (entry ∷ rest) name holding none =
    elim (name_cmp name entry.0) as
    (λ r. cond (is_eq r) (Some entry.1) (entry_at rest name) ≡ None →
    spans_of_all (by_order r ((name, holding) ∷ entry ∷ rest) ((entry.0, holding) ∷ rest) (entry ∷ with_entry name holding rest)) ≡ filed_all (spans_of holding.set) (spans_of_all (entry ∷ rest))) [
      | Less ↦ λ none. refl
      | Equal ↦ λ none. absurd (some-not-none _ none)
      | Greater ↦ λ none. ap (filed_all (spans_of entry.1.set)) (spans-with_entry rest name holding none) ∙ filed_all-filed_all (spans_of entry.1.set) (spans_of holding.set) (spans_of_all rest)
    ] none

-- a name that is there has added its spans
pub spans-without_entry : (sets : Named Holding) → T (is_sorted name_cmp sets) → (name : Name) (holding : Holding) → entry_at sets name ≡ Some holding → spans_of_all sets ≡ filed_all (spans_of holding.set) (spans_of_all (without_entry name sets))
spans-without_entry [] rise name holding some = absurd (some-not-none holding (sym some))
spans-without_entry (entry ∷ rest) rise name holding some =
    elim (name_cmp name entry.0) as
    (λ r. name_cmp name entry.0 ≡ r → cond (is_eq r) (Some entry.1) (entry_at rest name) ≡ Some holding →
    spans_of_all (entry ∷ rest) ≡ filed_all (spans_of holding.set) (spans_of_all (cond (not (is_eq r)) (entry ∷ without_entry name rest) (without_entry name rest)))) [
      | Less ↦ λ low some. absurd (some-not-none holding (sym some ∙ find-below name_cmp nat_list_cmp_total entry.0 name low rest (T-and-first _ _ rise)))
      | Equal ↦ λ same some.
          ap (λ (h : Holding). filed_all (spans_of h.set) (spans_of_all rest)) (same_Some entry.1 holding some)
          ∙ ap (λ sets. filed_all (spans_of holding.set) (spans_of_all sets)) (sym (where_key-below name_cmp nat_list_cmp_total name entry.0 same rest (T-and-first _ _ rise)))
      | Greater ↦ λ high some.
          ap (filed_all (spans_of entry.1.set)) (spans-without_entry rest (T-and-second _ _ rise) name holding some)
          ∙ filed_all-filed_all (spans_of entry.1.set) (spans_of holding.set) (spans_of_all (without_entry name rest))
    ] refl some

-- another holding with the same spans
spans-replaced : (sets : Named Holding) → T (is_sorted name_cmp sets) → (name : Name) (old new : Holding) → entry_at sets name ≡ Some old → spans_of new.set ≡ spans_of old.set → spans_of_all (with_entry name new sets) ≡ spans_of_all sets
spans-replaced [] rise name old new some same = absurd (some-not-none old (sym some))
spans-replaced (entry ∷ rest) rise name old new some same =
    elim (name_cmp name entry.0) as
    (λ r. name_cmp name entry.0 ≡ r → cond (is_eq r) (Some entry.1) (entry_at rest name) ≡ Some old →
    spans_of_all (by_order r ((name, new) ∷ entry ∷ rest) ((entry.0, new) ∷ rest) (entry ∷ with_entry name new rest)) ≡ spans_of_all (entry ∷ rest)) [
      | Less ↦ λ low some. absurd (some-not-none old (sym some ∙ find-below name_cmp nat_list_cmp_total entry.0 name low rest (T-and-first _ _ rise)))
      | Equal ↦ λ tied some. ap (λ spans. filed_all spans (spans_of_all rest)) (same ∙ ap (λ (h : Holding). spans_of h.set) (sym (same_Some entry.1 old some)))
      | Greater ↦ λ high some. ap (filed_all (spans_of entry.1.set)) (spans-replaced rest (T-and-second _ _ rise) name old new some same)
    ] refl some

-- a change that leaves each data set where it is
pub spans-changed : (sets : Named Holding) → IsTrue (are_named_in_order sets) → (name : Name) (change : Holding → Holding) → ((h : Holding) → spans_of (change h).set ≡ spans_of h.set) → spans_of_all (with_changed name change sets) ≡ spans_of_all sets
spans-changed sets rise name change same = by (entry_at sets name) refl
  where
    by : (found : Option Holding) → entry_at sets name ≡ found → spans_of_all (with_change name change sets found) ≡ spans_of_all sets
    by None e = refl
    by (Some holding) e = spans-replaced sets (T-from-true _ rise) name holding (change holding) e (same holding)

none_of : (found : Option Holding) → option_map (λ (h : Holding). h.set) found ≡ None → found ≡ None
none_of None e = refl
none_of (Some holding) e = absurd (some-not-none _ e)

-- what `insert` keeps
pub spread-inserted : (sets after : Named Holding) (spans filed : List Span) → spans ≡ spans_of_all sets → (name : Name) (holding : Holding) → option_map (λ (h : Holding). h.set) (entry_at sets name) ≡ None → filed ≡ filed_all (spans_of holding.set) spans → after ≡ with_entry name holding sets → filed ≡ spans_of_all after
spread-inserted sets after spans filed is name holding none edit does =
    edit ∙ ap (filed_all (spans_of holding.set)) is ∙ sym (spans-with_entry sets name holding (none_of (entry_at sets name) none)) ∙ ap spans_of_all (sym does)

-- what `remove` keeps
pub spread-removed : (sets after : Named Holding) (spans unfiled : List Span) → IsTrue (are_named_in_order sets) → spans ≡ spans_of_all sets → (name : Name) (set : DataSet) → Some set ≡ option_map (λ (h : Holding). h.set) (entry_at sets name) → unfiled ≡ unfiled_all (spans_of set) spans → after ≡ without_entry name sets → unfiled ≡ spans_of_all after
spread-removed sets after spans unfiled rise is name set some edit does = by (entry_at sets name) refl some
  where
    by : (found : Option Holding) → entry_at sets name ≡ found → Some set ≡ option_map (λ (h : Holding). h.set) found → unfiled ≡ spans_of_all after
    by None e some = absurd (some-not-none set some)
    by (Some holding) e some =
        edit ∙ ap (unfiled_all (spans_of set)) (is ∙ spans-without_entry sets (T-from-true _ rise) name holding e ∙ ap (λ s. filed_all (spans_of s) (spans_of_all (without_entry name sets))) (sym (same_Some set holding.set some)))
        ∙ unfiled_all-filed_all (spans_of set) (spans_of_all (without_entry name sets)) ∙ ap spans_of_all (sym does)
