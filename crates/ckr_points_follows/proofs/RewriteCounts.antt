-- Whether the rewrites of data sets can be counted.
use Rattle.std.proofs.Common.{◌≡◌, ℕ, zero, suc, ◌+◌, ◌<◌, ◌≤◌, ◌&&◌, true, false, cond, IsTrue, T, nat_lt, [], ◌∷◌, length, drop, slice_get, refl, ap, sym, ◌∙◌, subst, arith, Some, None, Option}
use Rattle.std.specs.declared.cmp.Ordering.{Ordering}
use Rattle.std.specs.declared.cmp.Ordering.TheVariants.{Less, Equal, Greater}
use Rattle.std.specs.Option.{option_map}
use Rattle.std.specs.Ordering.{is_eq}
use Rattle.std.specs.List.{list_all}
use Rattle.std.specs.Cmp.Lexicographic.{nat_list_cmp_total}
use Rattle.std.specs.Cmp.{tied_itself}
use Rattle.std.specs.FinMap.Entries.{is_sorted}
use Rattle.std.proofs.lemmas.Bool.Decides.{nat_tests}
use Rattle.std.proofs.lemmas.Option.{same_Some, slice_get-map}
use Rattle.ckr_base.proofs.Bools.{T-and-first, T-and-second, T-from-true, and-false, and-first, and-second}
use Rattle.ckr_base.proofs.Numbers.{plus-one}
use Rattle.ckr_base.proofs.Options.{some-not-none}
use Rattle.ckr_events.specs.declared.event.Event.{Event}
use Rattle.ckr_events.specs.declared.event.Event.TheVariants.{Rewritten}
use Rattle.ckr_library.specs.declared.sets.DataSet.{DataSet}
use Rattle.ckr_library.specs.Catalog.{Holding}
use Rattle.ckr_library.specs.NameMaps.{EachEntry, Name, Named, are_named_in_order, entry_at, name_cmp, names_of}
use Rattle.ckr_library.proofs.OrderedLists.{find-tied}
use Rattle.ckr_points.specs.Rows.{TableSet, holding_of}
use Rattle.ckr_points_tables.specs.Invariant.{MayCount}
use Rattle.ckr_points_tables.specs.Rewrite.{HasFewRewrites}
use Rattle.ckr_points_tables.specs.View.{seen_by}
use Rattle.ckr_points_follows.specs.RewriteCounts.{has_few_rewrites, have_few_rewrites, may_count}

-- ---- by the place of a name

at-place : (sets : Named Holding) → T (is_sorted name_cmp sets) → (place : ℕ) (entry : Name × Holding) → slice_get sets place ≡ Some entry → entry_at sets entry.0 ≡ Some entry.1
at-place [] rise place entry there = absurd (some-not-none _ (sym there))
at-place (one ∷ sets) rise zero entry there =
    subst (λ (e : Name × Holding). entry_at (one ∷ sets) e.0 ≡ Some e.1) (same_Some one entry there) (ap (λ r. cond (is_eq r) (Some one.1) (entry_at sets one.0)) (tied_itself nat_list_cmp_total one.0))
at-place (one ∷ sets) rise (suc place) entry there = by (name_cmp entry.0 one.0) refl (at-place sets (T-and-second _ _ rise) place entry there)
  where
    by : (r : Ordering) → name_cmp entry.0 one.0 ≡ r → entry_at sets entry.0 ≡ Some entry.1 → cond (is_eq r) (Some one.1) (entry_at sets entry.0) ≡ Some entry.1
    by Less e more = more
    by Equal e more = absurd (some-not-none _ (sym more ∙ find-tied name_cmp nat_list_cmp_total entry.0 one.0 e sets (T-and-first _ _ rise)))
    by Greater e more = more

abbrev pub rewrites : Name × TableSet → ℕ
rewrites entry = entry.1.set.stamp.rewrites

abbrev counts : Name × Holding → ℕ
counts entry = entry.1.set.stamp.rewrites

seen-at : (sets : Named Holding) (tables : Named TableSet) → sets ≡ seen_by holding_of tables → (place : ℕ) → option_map counts (slice_get sets place) ≡ option_map rewrites (slice_get tables place)
seen-at sets tables is place =
    ap (λ all. option_map counts (slice_get all place)) is
    ∙ ap (option_map counts) (slice_get-map (λ (entry : Name × TableSet). (entry.0, holding_of entry.1)) tables place)
    ∙ by (slice_get tables place)
  where
    by : (found : Option (Name × TableSet)) → option_map counts (option_map (λ (entry : Name × TableSet). (entry.0, holding_of entry.1)) found) ≡ option_map rewrites found
    by None = refl
    by (Some entry) = refl

pub counted-at : (sets : Named Holding) (tables : Named TableSet) → sets ≡ seen_by holding_of tables → IsTrue (are_named_in_order sets) → (place : ℕ) (name : Name) → Some name ≡ slice_get (names_of sets) place → (found : Option DataSet) → found ≡ option_map (λ (h : Holding). h.set) (entry_at sets name)
    → option_map (λ (set : DataSet). set.stamp.rewrites) found ≡ option_map rewrites (slice_get tables place)
counted-at sets tables seen rise place name named found is = by (slice_get sets place) refl
  where
    by : (entry : Option (Name × Holding)) → slice_get sets place ≡ entry → option_map (λ (set : DataSet). set.stamp.rewrites) found ≡ option_map rewrites (slice_get tables place)
    by None e = absurd (some-not-none _ (named ∙ slice_get-map (λ (one : Name × Holding). one.0) sets place ∙ ap (option_map (λ (one : Name × Holding). one.0)) e))
    by (Some entry) e =
        let same : name ≡ entry.0 = same_Some name entry.0 (named ∙ slice_get-map (λ (one : Name × Holding). one.0) sets place ∙ ap (option_map (λ (one : Name × Holding). one.0)) e) in
        ap (option_map (λ (set : DataSet). set.stamp.rewrites)) (is ∙ ap (λ n. option_map (λ (h : Holding). h.set) (entry_at sets n)) same ∙ ap (option_map (λ (h : Holding). h.set)) (at-place sets (T-from-true _ rise) place entry e))
        ∙ sym (sym (seen-at sets tables seen place) ∙ ap (option_map counts) e)

pub none-at : (sets : Named Holding) (tables : Named TableSet) → sets ≡ seen_by holding_of tables → (place : ℕ) → None ≡ slice_get (names_of sets) place → None ≡ option_map rewrites (slice_get tables place)
none-at sets tables seen place none = by (slice_get sets place) refl
  where
    by : (entry : Option (Name × Holding)) → slice_get sets place ≡ entry → None ≡ option_map rewrites (slice_get tables place)
    by None e = sym (sym (seen-at sets tables seen place) ∙ ap (option_map counts) e)
    by (Some entry) e = absurd (some-not-none _ (sym (none ∙ slice_get-map (λ (one : Name × Holding). one.0) sets place ∙ ap (option_map (λ (one : Name × Holding). one.0)) e)))

-- ---- place by place

drop-got : (sets : Named TableSet) (place : ℕ) (entry : Name × TableSet) → slice_get sets place ≡ Some entry → drop place sets ≡ entry ∷ drop (suc place) sets
drop-got [] place entry there = absurd (some-not-none _ (sym there))
drop-got (one ∷ sets) zero entry there = ap (λ e. e ∷ sets) (same_Some one entry there)
drop-got (one ∷ sets) (suc place) entry there = drop-got sets place entry there

within-got : (sets : Named TableSet) (place : ℕ) (entry : Name × TableSet) → slice_get sets place ≡ Some entry → suc place ≤ length sets
within-got [] place entry there = absurd (some-not-none _ (sym there))
within-got (one ∷ sets) zero entry there = omega arith
within-got (one ∷ sets) (suc place) entry there = omega (arith, within-got sets place entry there)

drop-end : (sets : Named TableSet) (place : ℕ) → slice_get sets place ≡ None → (drop place sets ≡ []) × (length sets ≤ place)
drop-end [] zero none = (refl, omega arith)
drop-end [] (suc place) none = (refl, omega arith)
drop-end (one ∷ sets) zero none = absurd (some-not-none _ none)
drop-end (one ∷ sets) (suc place) none = let rest = drop-end sets place none in (rest.0, omega (arith, rest.1))

-- those up to a place are few
pub record AreFewTo (sets : Named TableSet) (place : ℕ) : Type 0 where
  pub rest : list_all has_few_rewrites (drop place sets) ≡ list_all has_few_rewrites sets
  pub within : place ≤ length sets

-- the data set at a place
there-at : (sets : Named TableSet) (place n : ℕ) → Some n ≡ option_map rewrites (slice_get sets place) → (entry : Name × TableSet) × (slice_get sets place ≡ Some entry) × (n ≡ rewrites entry)
there-at sets place n is = by (slice_get sets place) refl is
  where
    by : (found : Option (Name × TableSet)) → slice_get sets place ≡ found → Some n ≡ option_map rewrites found → (entry : Name × TableSet) × (slice_get sets place ≡ Some entry) × (n ≡ rewrites entry)
    by None e is = absurd (some-not-none _ is)
    by (Some entry) e is = (entry, e, same_Some n (rewrites entry) is)

pub few-next : (sets : Named TableSet) (place n : ℕ) → Some n ≡ option_map rewrites (slice_get sets place) → nat_lt n 4294967295 ≡ true → AreFewTo sets place → AreFewTo sets (place + 1)
few-next sets place n is few so_far =
    let entry = there-at sets place n is in
    record {
      rest =
          ap (λ k. list_all has_few_rewrites (drop k sets)) (plus-one place)
          ∙ sym (ap (λ b. b && list_all has_few_rewrites (drop (suc place) sets)) (ap (λ k. nat_lt k 4294967295) (sym entry.2) ∙ few))
          ∙ sym (ap (list_all has_few_rewrites) (drop-got sets place entry.0 entry.1))
          ∙ so_far.rest;
      within = omega (arith, within-got sets place entry.0 entry.1);
    }

pub many-at : (sets : Named TableSet) (place n : ℕ) → Some n ≡ option_map rewrites (slice_get sets place) → nat_lt n 4294967295 ≡ false → AreFewTo sets place → false ≡ have_few_rewrites sets
many-at sets place n is most so_far =
    let entry = there-at sets place n is in
    let none : list_all has_few_rewrites sets ≡ false =
    sym so_far.rest
    ∙ ap (list_all has_few_rewrites) (drop-got sets place entry.0 entry.1)
    ∙ ap (λ b. b && list_all has_few_rewrites (drop (suc place) sets)) (ap (λ k. nat_lt k 4294967295) (sym entry.2) ∙ most) in
    sym (ap (λ b. nat_lt (length sets) 4294967295 && b) none ∙ and-false (nat_lt (length sets) 4294967295))

pub all-few : (sets : Named TableSet) (place : ℕ) → None ≡ option_map rewrites (slice_get sets place) → place < 4294967295 → AreFewTo sets place → true ≡ have_few_rewrites sets
all-few sets place is below so_far =
    let last = drop-end sets place (gone (slice_get sets place) is) in
    sym (λ i. less (length sets) (omega (arith, last.1, below)) i && (sym so_far.rest ∙ ap (list_all has_few_rewrites) last.0) i)
  where
    gone : (found : Option (Name × TableSet)) → None ≡ option_map rewrites found → found ≡ None
    gone None e = refl
    gone (Some entry) e = absurd (some-not-none _ (sym e))

    less : (n : ℕ) → n < 4294967295 → nat_lt n 4294967295 ≡ true
    less n below = grind (arith, nat_tests)

pub too-many : (sets : Named TableSet) (place : ℕ) → 4294967295 ≤ place → AreFewTo sets place → false ≡ have_few_rewrites sets
too-many sets place most so_far = sym (ap (λ b. b && list_all has_few_rewrites sets) (over (length sets) (omega (arith, most, so_far.within))))
  where
    over : (n : ℕ) → 4294967295 ≤ n → nat_lt n 4294967295 ≡ false
    over n most = grind (arith, nat_tests)

-- ---- what the tables ask for

each-few : (sets : Named TableSet) → list_all has_few_rewrites sets ≡ true → EachEntry HasFewRewrites sets
each-few [] all = tt
each-few (entry ∷ sets) all = (below entry.1.set.stamp.rewrites (and-first (has_few_rewrites entry) (list_all has_few_rewrites sets) all), each-few sets (and-second (has_few_rewrites entry) (list_all has_few_rewrites sets) all))
  where
    below : (n : ℕ) → nat_lt n 4294967295 ≡ true → n < 4294967295
    below n e = grind (arith, nat_tests)

few-each : (sets : Named TableSet) → EachEntry HasFewRewrites sets → list_all has_few_rewrites sets ≡ true
few-each [] all = refl
few-each (entry ∷ sets) all = λ i. less entry.1.set.stamp.rewrites all.0 i && few-each sets all.1 i
  where
    less : (n : ℕ) → n < 4294967295 → nat_lt n 4294967295 ≡ true
    less n below = grind (arith, nat_tests)

pub counted-may : (event : Event) (sets : Named TableSet) → may_count event sets ≡ true → MayCount event sets
counted-may (Rewritten job taken writes lengths place image) sets e = each-few sets (and-second (nat_lt (length sets) 4294967295) (list_all has_few_rewrites sets) e)
counted-may _ sets e = tt

pub may-counted : (event : Event) (sets : Named TableSet) → length sets < 4294967295 → MayCount event sets → may_count event sets ≡ true
may-counted (Rewritten job taken writes lengths place image) sets less may = λ i. below (length sets) less i && few-each sets may i
  where
    below : (n : ℕ) → n < 4294967295 → nat_lt n 4294967295 ≡ true
    below n less = grind (arith, nat_tests)
may-counted _ sets less may = refl
