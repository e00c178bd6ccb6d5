-- A data set that is placed behind all others of a library.
use Rattle.std.proofs.Common.{◌≡◌, ◌≤◌, ℕ, Bool, true, false, cond, ◌||◌, not, List, [], ◌∷◌, Some, refl, ap, sym, ◌∙◌, subst, arith}
use Rattle.std.specs.Prelude.{IsTrue, nat_le, ◌==◌}
use Rattle.std.specs.List.{list_all}
use Rattle.std.specs.Option.{option_map}
use Rattle.std.specs.Cmp.Lexicographic.{nat_list_cmp_total}
use Rattle.std.specs.FinMap.Entries.{find-put}
use Rattle.std.proofs.lemmas.Bool.{false≢true, and_parts, and_from, leb-true, le-leb}
use Rattle.std.proofs.lemmas.Option.{same_Some}
use Rattle.ckr_library.specs.declared.sets.DataSet.{DataSet}
use Rattle.ckr_library.specs.Catalog.{Holding, Catalog, set_of, fresh_holding}
use Rattle.ckr_library.specs.NameMaps.{Name, name_cmp, same_name, entry_at, with_entry}
use Rattle.ckr_library.proofs.Named.{name-itself, name-same}
use Rattle.ckr_volumes.specs.declared.layout.Layout.{Layout}
use Rattle.ckr_volumes.specs.Places.{StretchModel, stretches_of, end_of}
use Rattle.ckr_volumes.specs.SamePlaces.{lie_apart_turned}
use Rattle.ckr_volumes.specs.Layouts.{are_apart, lie_apart, StandsIn}
use Rattle.ckr_model_tests.specs.Placed.{ends_by, EndsBy}
use Rattle.ckr_steps.specs.Inputs.{AreStored}

module _ (layout : Layout) (old new : Catalog) (name : Name) (set : DataSet) (is : new.sets ≡ with_entry name (fresh_holding set) old.sets) where
  placed : (other : Name) → set_of new other ≡ option_map (λ (h : Holding). h.set) (cond (same_name other name) (Some (fresh_holding set)) (entry_at old.sets other))
  placed other = ap (λ sets. option_map (λ (h : Holding). h.set) (entry_at sets other)) is ∙ ap (option_map (λ (h : Holding). h.set)) (find-put name_cmp nat_list_cmp_total other name (fresh_holding set) old.sets)

  -- a data set that is looked up is the new one, or one of the others
  at_placed : (P : Name → DataSet → Type 0) → P name set → ((other : Name) (s : DataSet) → same_name other name ≡ false → set_of old other ≡ Some s → P other s) → (other : Name) (s : DataSet) → set_of new other ≡ Some s → P other s
  at_placed P here others other s found = by (same_name other name) refl
    where
      by : (same : Bool) → same_name other name ≡ same → P other s
      by true e =
          let sets : set ≡ s = same_Some set s (sym (placed other ∙ ap (λ b. option_map (λ (h : Holding). h.set) (cond b (Some (fresh_holding set)) (entry_at old.sets other))) e) ∙ found) in
          subst (λ n. P n s) (sym (name-same other name e)) (subst (P name) sets here)
      by false e = others other s e (sym (placed other ∙ ap (λ b. option_map (λ (h : Holding). h.set) (cond b (Some (fresh_holding set)) (entry_at old.sets other))) e) ∙ found)

  pub stored_placed : AreStored layout old → StandsIn layout set → ((other : Name) (s : DataSet) → set_of old other ≡ Some s → IsTrue (lie_apart set s)) → AreStored layout new
  stored_placed stored stands apart = record {
    stands = at_placed (λ n s. StandsIn layout s) stands (λ n s differ was. stored.stands n s was);
    apart = λ one other first second differ first_is second_is.
        at_placed (λ n s. same_name n other ≡ false → IsTrue (lie_apart s second))
        (λ differ. at_placed (λ m t. same_name name m ≡ false → IsTrue (lie_apart set t)) (λ same. absurd (false≢true (sym same ∙ name-itself name))) (λ m t e was differ. apart m t was) other second second_is differ)
        (λ n s e was differ. at_placed (λ m t. same_name n m ≡ false → IsTrue (lie_apart s t)) (λ differ. lie_apart_turned set s (apart n s was)) (λ m t f also differ. stored.apart n m s t differ was also) other second second_is differ)
        one first first_is differ;
  }

  pub ends_placed : (before end : ℕ) → EndsBy before old → before ≤ end → IsTrue (ends_by end set) → EndsBy end new
  ends_placed before end ends le mine = record {
    each = at_placed (λ n s. IsTrue (ends_by end s)) mine (λ n s differ was. further s.lrecl (stretches_of s) (ends.each n s was));
  }
    where
      further : (lrecl : ℕ) (stretches : List StretchModel) → IsTrue (list_all (λ (stretch : StretchModel). nat_le (end_of lrecl stretch) before) stretches) → IsTrue (list_all (λ (stretch : StretchModel). nat_le (end_of lrecl stretch) end) stretches)
      further lrecl [] all = refl
      further lrecl (stretch ∷ stretches) all =
          let both = and_parts (nat_le (end_of lrecl stretch) before) (list_all (λ (s : StretchModel). nat_le (end_of lrecl s) before) stretches) all in
          let ends : end_of lrecl stretch ≤ before = leb-true (end_of lrecl stretch) before both.0 in
          and_from (nat_le (end_of lrecl stretch) end) (list_all (λ (s : StretchModel). nat_le (end_of lrecl s) end) stretches) (le-leb (end_of lrecl stretch) end (omega arith)) (further lrecl stretches both.1)

-- a stretch behind all others is apart from them
pub apart_behind : (lrecl other_lrecl : ℕ) (one : StretchModel) (others : List StretchModel) → IsTrue (list_all (λ (stretch : StretchModel). nat_le (end_of other_lrecl stretch) one.start) others) → IsTrue (list_all (are_apart lrecl other_lrecl one) others)
apart_behind lrecl other_lrecl one [] all = refl
apart_behind lrecl other_lrecl one (stretch ∷ others) all =
    let both = and_parts (nat_le (end_of other_lrecl stretch) one.start) (list_all (λ (s : StretchModel). nat_le (end_of other_lrecl s) one.start) others) all in
    and_from (are_apart lrecl other_lrecl one stretch) (list_all (are_apart lrecl other_lrecl one) others)
    (parted (not (one.volume == stretch.volume)) (one.records == 0 || stretch.records == 0) (nat_le (end_of lrecl one) stretch.start) (nat_le (end_of other_lrecl stretch) one.start) both.0)
    (apart_behind lrecl other_lrecl one others both.1)
  where
    parted : (a b c d : Bool) → d ≡ true → (a || (b || (c || d))) ≡ true
    parted true b c d e = refl
    parted false true c d e = refl
    parted false false true d e = refl
    parted false false false d e = e

-- a data set of one extent behind all others
module _ (set : DataSet) (stretch : StretchModel) (is : stretches_of set ≡ stretch ∷ []) where
  pub apart_of : (other : DataSet) → IsTrue (ends_by stretch.start other) → IsTrue (lie_apart set other)
  apart_of other ends =
      subst (λ ss. IsTrue (list_all (λ one. list_all (are_apart set.lrecl other.lrecl one) (stretches_of other)) ss)) (sym is)
      (and_from (list_all (are_apart set.lrecl other.lrecl stretch) (stretches_of other)) true (apart_behind set.lrecl other.lrecl stretch (stretches_of other) ends) refl)

  pub ends_so : (end : ℕ) → end_of set.lrecl stretch ≤ end → IsTrue (ends_by end set)
  ends_so end le = subst (λ ss. IsTrue (list_all (λ (one : StretchModel). nat_le (end_of set.lrecl one) end) ss)) (sym is) (and_from (nat_le (end_of set.lrecl stretch) end) true (le-leb (end_of set.lrecl stretch) end le) refl)
