-- The names of a step's DDs: whether a name is among them, whether a test of each passes.
-- among-kept             among the names of the items that are kept
-- all-named              a test of each name of the items
use Rattle.std.proofs.Common.{◌≡◌, ◌∙◌, ◌&&◌, ap, sym, refl, Bool, true, false, filter, List, [], ◌∷◌, Option, None, Some}
use Rattle.std.specs.List.{cons_option, filter_map, list_all, list_any}
use Rattle.std.specs.Option.{option_map_or}
use Rattle.ckr_base.proofs.Sequences.{any-filter, any-filter_map}
use Rattle.ckr_library.specs.NameMaps.{Name, same_name}
use Rattle.ckr_meaning.specs.EffectiveJob.{is_among}

pub among-kept : {A : Type 0} (kept : A → Bool) (f : A → Option Name) (items : List A) (name : Name) → list_any (λ item. kept item && option_map_or (same_name name) (f item) false) items ≡ is_among (filter_map f (filter kept items)) name
among-kept {A = A} kept f items name =
    sym (any-filter_map f (same_name name) (filter kept items) ∙ any-filter kept (λ (item : A). option_map_or (same_name name) (f item) false) items)

pub all-named : {A : Type 0} (f : A → Option Name) (test : Name → Bool) (items : List A) → list_all (λ item. option_map_or test (f item) true) items ≡ list_all test (filter_map f items)
all-named f test [] = refl
all-named {A = A} f test (item ∷ items) = by (f item) (list_all (λ one. option_map_or test (f one) true) items) (all-named f test items)
  where
    by : (found : Option Name) (rest : Bool) → rest ≡ list_all test (filter_map f items) → (option_map_or test found true && rest) ≡ list_all test (cons_option found (filter_map f items))
    by None rest same = same
    by (Some other) rest same = ap (λ b. test other && b) same
