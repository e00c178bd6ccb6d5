-- The items of a step that follows name what the step makes.
use Rattle.std.proofs.Common.{◌≡◌, ℕ, suc, ◌+◌, ◌==◌, ◌<◌, ◌≤◌, ◌&&◌, ◌||◌, Bool, true, false, not, cond, if◌then◌else◌, nat_eq, nat_le, List, [], ◌∷◌, ◌++◌, length, map, filter, unwrap_or, refl, ap, sym, ◌∙◌, subst, arith, Some, None, Option}
use Rattle.std.specs.Option.{option_map, is_some}
use Rattle.std.specs.List.{filter_map, list_all, cons_option, AllByRecursion}
use Rattle.std.specs.Cmp.Lexicographic.{nat_list_cmp_total}
use Rattle.std.specs.Cmp.{tied_itself}
use Rattle.std.specs.Ordering.{is_eq}
use Rattle.std.proofs.lemmas.Bool.{false≢true, or_right}
use Rattle.std.proofs.lemmas.Bool.Decides.{nat_tests}
use Rattle.ckr_base.proofs.Bools.{and-first, and-second}
use Rattle.ckr_base.proofs.Numbers.{nat_eq-true, zero-not-suc}
use Rattle.ckr_base.proofs.Options.{some-not-none}
use Rattle.ckr_uses.specs.Uses.{are_distinct}
use Rattle.ckr_events.specs.declared.event.Made.{Made}
use Rattle.ckr_jcl.specs.declared.deck.Dd.{Dd}
use Rattle.ckr_jcl.specs.declared.deck.Role.{Role}
use Rattle.ckr_jcl.specs.declared.deck.Status.{Status}
use Rattle.ckr_jcl.specs.declared.deck.Status.TheVariants.{New, Old, Shr, Mod}
use Rattle.ckr_library.specs.declared.sets.DataSet.{DataSet}
use Rattle.ckr_library.specs.declared.sets.Stamp.{Stamp}
use Rattle.ckr_library.specs.NameMaps.{Name, Named, same_name, entry_at, with_entry}
use Rattle.ckr_library.proofs.Named.{at-with_entry-other, name-same}
use Rattle.ckr_meaning.specs.LibrarySet.{Known}
use Rattle.ckr_meaning.specs.Allotments.{AllotmentModel, found, made, refused, wrong_kind, DdAllotment, is_wrong_kind, allotment_by, allotment_of, with_kind, is_found, is_made, is_passed, space_for}
use Rattle.ckr_meaning.specs.Dispositions.{Stock}
use Rattle.ckr_meaning.specs.EffectiveJob.{OwnedStep, is_among, name_of, placed_from, placed_one}
use Rattle.ckr_volumes.specs.declared.layout.Layout.{Layout}
use Rattle.ckr_points.specs.Tables.{made_table, made_tables, part_of, parts_from}
use Rattle.ckr_points.specs.Follows.{are_made_clear, is_made_clear, is_part_whole, lies_clear, made_dds, part_numbers, stands_in}
use Rattle.ckr_points_runs.specs.NewSets.{has_items, items_for, made_from, made_named, made_one, HasRecords, MayMakeAll, MayMakeNamed}
use Rattle.ckr_points.specs.Rows.{TableSet, table_ways}
use Rattle.ckr_points_runs.specs.RunJobs.{has_few_serials}
use Rattle.ckr_points_runs.specs.RunChange.{table_kit}
use Rattle.ckr_points_library.specs.Allocation.{fresh_set}

-- ---- tests

equals : (a b : ℕ) → a ≡ b → nat_eq a b ≡ true
equals a b e = grind (arith, nat_tests)

differs : (a b : ℕ) → (a ≡ b → ⊥) → nat_eq a b ≡ false
differs a b e = grind (arith, nat_tests)

-- ---- counts

-- how often a number stands among numbers
abbrev pub count : ℕ → List ℕ → ℕ
count n numbers = length (filter (λ d. d == n) numbers)

count-append : (n : ℕ) (first second : List ℕ) → count n (first ++ second) ≡ count n first + count n second
count-append n [] second = omega arith
count-append n (d ∷ first) second =
    elim (d == n) as (λ b. length (cond b (d ∷ filter (λ x. x == n) (first ++ second)) (filter (λ x. x == n) (first ++ second))) ≡ length (cond b (d ∷ filter (λ x. x == n) first) (filter (λ x. x == n) first)) + count n second) [
      | true ↦ omega (arith, count-append n first second)
      | false ↦ count-append n first second
    ]

pub count-items : (n : ℕ) (items : List Made) → length (items_for n items) ≡ count n (map (λ (item : Made). item.dd) items)
count-items n [] = refl
count-items n (item ∷ items) =
    elim (item.dd == n) as (λ b. length (cond b (item ∷ items_for n items) (items_for n items)) ≡ length (cond b (item.dd ∷ filter (λ d. d == n) (map (λ (one : Made). one.dd) items)) (filter (λ d. d == n) (map (λ (one : Made). one.dd) items)))) [
      | true ↦ ap suc (count-items n items)
      | false ↦ count-items n items
    ]

has-count : (n : ℕ) (items : List Made) (k : ℕ) → length (items_for n items) ≡ suc k → has_items n items ≡ true
has-count n [] k e = absurd (zero-not-suc k e)
has-count n (item ∷ items) k e =
    elim (item.dd == n) as (λ b. length (cond b (item ∷ items_for n items) (items_for n items)) ≡ suc k → (b || has_items n items) ≡ true) [
      | true ↦ λ e. refl
      | false ↦ λ e. has-count n items k e
    ] e

no-count : (n : ℕ) (items : List Made) → length (items_for n items) ≡ 0 → has_items n items ≡ false
no-count n [] e = refl
no-count n (item ∷ items) e =
    elim (item.dd == n) as (λ b. length (cond b (item ∷ items_for n items) (items_for n items)) ≡ 0 → (b || has_items n items) ≡ false) [
      | true ↦ λ e. absurd (none (length (items_for n items)) e)
      | false ↦ λ e. no-count n items e
    ] e
  where
    none : (m : ℕ) → suc m ≡ 0 → ⊥
    none m e = omega arith

-- a DD is named once for each of its parts
count-parts : (n : ℕ) (serials : List Name) → length serials ≤ 5 → (k : ℕ) × (count n (part_numbers n serials) ≡ suc k) × (suc k ≤ 5)
count-parts n [] few = (0, ap (λ b. length (cond b (n ∷ []) [])) (equals n n refl), omega arith)
count-parts n (serial ∷ []) few = (0, ap (λ b. length (cond b (n ∷ []) [])) (equals n n refl), omega arith)
count-parts n (serial ∷ next ∷ rest) few =
    let more = count-at n next rest in
    (suc (length rest), ap (λ b. length (cond b (n ∷ filter (λ d. d == n) (part_numbers n (next ∷ rest))) (filter (λ d. d == n) (part_numbers n (next ∷ rest))))) (equals n n refl) ∙ ap suc more, omega (arith, few))
  where
    count-at : (n : ℕ) (next : Name) (rest : List Name) → count n (part_numbers n (next ∷ rest)) ≡ suc (length rest)
    count-at n next [] = ap (λ b. length (cond b (n ∷ []) [])) (equals n n refl)
    count-at n next (other ∷ rest) =
        ap (λ b. length (cond b (n ∷ filter (λ d. d == n) (part_numbers n (other ∷ rest))) (filter (λ d. d == n) (part_numbers n (other ∷ rest))))) (equals n n refl)
        ∙ ap suc (count-at n other rest)

-- and no other number
count-others : (n k : ℕ) (serials : List Name) → (k ≡ n → ⊥) → count n (part_numbers k serials) ≡ 0
count-others n k [] apart = ap (λ b. length (cond b (k ∷ []) [])) (differs k n apart)
count-others n k (serial ∷ []) apart = ap (λ b. length (cond b (k ∷ []) [])) (differs k n apart)
count-others n k (serial ∷ next ∷ rest) apart =
    ap (λ b. length (cond b (k ∷ filter (λ d. d == n) (part_numbers k (next ∷ rest))) (filter (λ d. d == n) (part_numbers k (next ∷ rest))))) (differs k n apart)
    ∙ count-others n k (next ∷ rest) apart

-- ---- what allocation makes isn't there

no_kind : (wrong : Bool) → is_made (if wrong then refused wrong_kind else found) ≡ true → ⊥
no_kind true e = false≢true e
no_kind false e = false≢true e

not_made : (role : Role) (known : Known) (status : Status) (here space : Bool) → is_made (with_kind role (Some known) (allotment_by status true here space)) ≡ true → ⊥
not_made role known New here space e = false≢true e
not_made role known Old true space e = no_kind (is_wrong_kind role known.content) e
not_made role known Old false space e = false≢true e
not_made role known Shr true space e = no_kind (is_wrong_kind role known.content) e
not_made role known Shr false space e = false≢true e
not_made role known Mod true space e = no_kind (is_wrong_kind role known.content) e
not_made role known Mod false space e = false≢true e

pub made_absent : (dd : Dd) (passed : Bool) (known : Option Known) → is_made (allotment_of dd passed known) ≡ true → known ≡ None
made_absent dd passed None e = refl
made_absent dd passed (Some known) e = absurd (not_made dd.role known dd.disp.status (is_found dd passed (Some known)) (is_some dd.space) e)

entry-absent : (found : Option TableSet) → option_map table_ways.known found ≡ None → found ≡ None
entry-absent None e = refl
entry-absent (Some table) e = absurd (some-not-none _ e)

-- names of which none stands twice
apart-from : (name other : Name) (names : List Name) → are_distinct (name ∷ names) ≡ true → is_among names other ≡ true → same_name other name ≡ false
apart-from name other names distinct among = by (same_name other name) refl
  where
    by : (b : Bool) → same_name other name ≡ b → b ≡ false
    by false e = refl
    by true e = absurd (false≢true (sym (ap not (subst (λ n. is_among names n ≡ true) (name-same other name e) among)) ∙ and-first (not (is_among names name)) (are_distinct names) distinct))

-- the DDs that the items of one name
abbrev one_dds : Bool → ℕ → List Name → List ℕ
one_dds makes number serials = if makes then part_numbers number serials else []

count-one : (number n : ℕ) (makes : Bool) (serials : List Name) → (number ≡ n → ⊥) → count n (one_dds makes number serials) ≡ 0
count-one number n true serials apart = count-others n number serials apart
count-one number n false serials apart = refl

-- ---- what a step makes

module _ (layout : Layout) (stamp : Stamp) (items : List Made) (before : Stock TableSet) (root : ℕ) (own : OwnedStep) where
  abbrev placed : ℕ → List Dd → List DdAllotment
  placed number dds = placed_from table_ways before root own number dds

  abbrev names : List Dd → List Name
  names dds = filter_map (name_of root own) dds

  -- each DD is named by as many items as it has parts
  abbrev pub Counted : ℕ → List Dd → Type 0
  Counted number dds = (n : ℕ) → number ≤ n → length (items_for n items) ≡ count n (made_dds (placed number dds))

  -- each item of these DDs has the space of its DD
  abbrev pub Whole : ℕ → List Dd → Type 0
  Whole number dds = AllByRecursion (λ (item : Made). number ≤ item.dd → is_part_whole (placed number dds) item ≡ true) items

  -- the names that weren't there aren't there now
  abbrev pub StillAbsent : Named TableSet → List Dd → Type 0
  StillAbsent now dds = (name : Name) → is_among (names dds) name ≡ true → entry_at before.sets name ≡ None → entry_at now name ≡ None

  none-below : (number n : ℕ) (dds : List Dd) → n < number → count n (made_dds (placed number dds)) ≡ 0
  none-below number n [] below = refl
  none-below number n (dd ∷ dds) below = by (name_of root own dd) (none-below (suc number) n dds (omega (arith, below)))
    where
      by : (named : Option Name) → count n (made_dds (placed (suc number) dds)) ≡ 0 → count n (made_dds (cons_option (option_map (placed_one table_ways before number dd) named) (placed (suc number) dds))) ≡ 0
      by None rest = rest
      by (Some name) rest =
          let one = placed_one table_ways before number dd name in
          omega (arith, count-append n (one_dds (is_made one.allotment) number dd.volumes.items) (made_dds (placed (suc number) dds)), count-one number n (is_made one.allotment) dd.volumes.items (λ e. omega (arith, e, below)), rest)

  counted-rest : (number : ℕ) (dd : Dd) (dds : List Dd) → Counted number (dd ∷ dds) → Counted (suc number) dds
  counted-rest number dd dds counted = λ n above. by n above (name_of root own dd) (counted n (omega (arith, above)))
    where
      by : (n : ℕ) → suc number ≤ n → (named : Option Name) → length (items_for n items) ≡ count n (made_dds (cons_option (option_map (placed_one table_ways before number dd) named) (placed (suc number) dds))) → length (items_for n items) ≡ count n (made_dds (placed (suc number) dds))
      by n above None same = same
      by n above (Some name) same =
          let one = placed_one table_ways before number dd name in
          omega (arith, same, count-append n (one_dds (is_made one.allotment) number dd.volumes.items) (made_dds (placed (suc number) dds)), count-one number n (is_made one.allotment) dd.volumes.items (λ e. omega (arith, e, above)))

  -- the items of one DD
  counted-here : (number : ℕ) (dd : Dd) (dds : List Dd) (name : Name) → name_of root own dd ≡ Some name → Counted number (dd ∷ dds) → length dd.volumes.items ≤ 5
      → (has_items number items ≡ is_made (placed_one table_ways before number dd name).allotment) × (length (items_for number items) ≤ 5)
  counted-here number dd dds name is counted few = by (is_made (placed_one table_ways before number dd name).allotment) here
    where
      serials : List Name
      serials = dd.volumes.items

      here : length (items_for number items) ≡ count number (one_dds (is_made (placed_one table_ways before number dd name).allotment) number dd.volumes.items)
      here =
          let one = placed_one table_ways before number dd name in
          let whole = counted number (omega arith) ∙ ap (λ named. count number (made_dds (cons_option (option_map (placed_one table_ways before number dd) named) (placed (suc number) dds)))) is in
          omega (arith, whole, count-append number (one_dds (is_made one.allotment) number dd.volumes.items) (made_dds (placed (suc number) dds)), none-below (suc number) number dds (omega arith))

      by : (makes : Bool) → length (items_for number items) ≡ count number (one_dds makes number dd.volumes.items) → (has_items number items ≡ makes) × (length (items_for number items) ≤ 5)
      by true same =
          let parts = count-parts number dd.volumes.items few in
          (has-count number items parts.0 (same ∙ parts.1), omega (arith, same, parts.1, parts.2))
      by false same = (no-count number items same, omega (arith, same))

  -- an item of an earlier DD isn't of a later one
  not-whole : (number : ℕ) (item : Made) (dds : List Dd) → item.dd < number → is_part_whole (placed number dds) item ≡ false
  not-whole number item [] below = refl
  not-whole number item (dd ∷ dds) below = by (name_of root own dd) (not-whole (suc number) item dds (omega (arith, below)))
    where
      by : (named : Option Name) → is_part_whole (placed (suc number) dds) item ≡ false → is_part_whole (cons_option (option_map (placed_one table_ways before number dd) named) (placed (suc number) dds)) item ≡ false
      by None rest = rest
      by (Some name) rest =
          ap (λ b. (b && (part_of item).records == unwrap_or dd.space 0) || is_part_whole (placed (suc number) dds) item) (differs number item.dd (λ e. omega (arith, e, below))) ∙ rest

  whole-rest : (number : ℕ) (dd : Dd) (dds : List Dd) → Whole number (dd ∷ dds) → Whole (suc number) dds
  whole-rest number dd dds whole = each items whole
    where
      one : (item : Made) (named : Option Name) → suc number ≤ item.dd → is_part_whole (cons_option (option_map (placed_one table_ways before number dd) named) (placed (suc number) dds)) item ≡ true → is_part_whole (placed (suc number) dds) item ≡ true
      one item None above is = is
      one item (Some name) above is =
          sym (ap (λ b. (b && (part_of item).records == unwrap_or dd.space 0) || is_part_whole (placed (suc number) dds) item) (differs number item.dd (λ e. omega (arith, e, above)))) ∙ is

      each : (some : List Made) → AllByRecursion (λ (item : Made). number ≤ item.dd → is_part_whole (placed number (dd ∷ dds)) item ≡ true) some → AllByRecursion (λ (item : Made). suc number ≤ item.dd → is_part_whole (placed (suc number) dds) item ≡ true) some
      each [] all = tt
      each (item ∷ some) all = (λ above. one item (name_of root own dd) above (all.0 (omega (arith, above))), each some all.1)

  -- the items of a DD have its space
  whole-here : (number : ℕ) (dd : Dd) (dds : List Dd) (name : Name) → name_of root own dd ≡ Some name → Whole number (dd ∷ dds) → AllByRecursion (HasRecords (unwrap_or dd.space 0)) (items_for number items)
  whole-here number dd dds name is whole = each items whole
    where
      one : (item : Made) → item.dd ≡ number → is_part_whole (cons_option (option_map (placed_one table_ways before number dd) (Some name)) (placed (suc number) dds)) item ≡ true → HasRecords (unwrap_or dd.space 0) item
      one item same is =
          nat_eq-true (part_of item).records (unwrap_or dd.space 0)
          (and-second (number == item.dd) ((part_of item).records == unwrap_or dd.space 0)
          (without (number == item.dd && (part_of item).records == unwrap_or dd.space 0) (is_part_whole (placed (suc number) dds) item) (not-whole (suc number) item dds (omega (arith, same))) is))
        where
          without : (a b : Bool) → b ≡ false → (a || b) ≡ true → a ≡ true
          without true b none is = refl
          without false b none is = absurd (false≢true (sym none ∙ is))

      each : (some : List Made) → AllByRecursion (λ (item : Made). number ≤ item.dd → is_part_whole (placed number (dd ∷ dds)) item ≡ true) some → AllByRecursion (HasRecords (unwrap_or dd.space 0)) (items_for number some)
      each [] all = tt
      each (item ∷ some) all = by (item.dd == number) refl (each some all.1)
        where
          by : (b : Bool) → (item.dd == number) ≡ b → AllByRecursion (HasRecords (unwrap_or dd.space 0)) (items_for number some) → AllByRecursion (HasRecords (unwrap_or dd.space 0)) (cond b (item ∷ items_for number some) (items_for number some))
          by false e rest = rest
          by true e rest =
              (one item (nat_eq-true item.dd number e) (ap (λ named. is_part_whole (cons_option (option_map (placed_one table_ways before number dd) named) (placed (suc number) dds)) item) (sym is) ∙ all.0 (omega (arith, nat_eq-true item.dd number e))), rest)

  -- what a step makes is within the limit of space
  clear-small : (number : ℕ) (dd : Dd) (name : Name) (allotment : AllotmentModel) (now : Named TableSet) → is_made_clear layout stamp items (record { dd = dd; number = number; name = name; allotment = allotment }) allotment now ≡ true → is_made allotment ≡ true → space_for dd ≤ 1000000
  clear-small number dd name found now clear makes = absurd (false≢true makes)
  clear-small number dd name (refused flaw) now clear makes = absurd (false≢true makes)
  clear-small number dd name made now clear makes =
      let set = fresh_set stamp dd (parts_from number items) in
      most (space_for dd) (last set (and-first (stands_in layout set) (lies_clear now set) clear))
    where
      most : (n : ℕ) → nat_le n 1000000 ≡ true → n ≤ 1000000
      most n e = grind (arith, nat_tests)

      last : (set : DataSet) → stands_in layout set ≡ true → nat_le set.space 1000000 ≡ true
      last set stands = and-second _ (nat_le set.space 1000000) stands

  -- its records have at least one byte
  clear-wide : (number : ℕ) (dd : Dd) (name : Name) (allotment : AllotmentModel) (now : Named TableSet) → is_made_clear layout stamp items (record { dd = dd; number = number; name = name; allotment = allotment }) allotment now ≡ true → is_made allotment ≡ true → 1 ≤ dd.lrecl
  clear-wide number dd name found now clear makes = absurd (false≢true makes)
  clear-wide number dd name (refused flaw) now clear makes = absurd (false≢true makes)
  clear-wide number dd name made now clear makes =
      let set = fresh_set stamp dd (parts_from number items) in
      least dd.lrecl (above set (and-first (stands_in layout set) (lies_clear now set) clear))
    where
      least : (n : ℕ) → nat_le 1 n ≡ true → 1 ≤ n
      least n e = grind (arith, nat_tests)

      above : (set : DataSet) → stands_in layout set ≡ true → nat_le 1 set.lrecl ≡ true
      above set stands = and-second _ (nat_le 1 set.lrecl) (and-first _ (nat_le set.lrecl 256) (and-first _ (nat_le 1 set.space) (and-first _ (nat_le set.space 1000000) stands)))

  -- to make by allocation is to make by the items
  made-alike : (number : ℕ) (dd : Dd) (name : Name) (allotment : AllotmentModel) (now : Named TableSet) → has_items number items ≡ is_made allotment → made_table stamp items (record { dd = dd; number = number; name = name; allotment = allotment }) allotment now ≡ made_one table_kit.fresh stamp items number dd name now
  made-alike number dd name found now same = sym (ap (λ b. cond b (with_entry name (table_kit.fresh (fresh_set stamp dd (parts_from number items))) now) now) same)
  made-alike number dd name made now same = sym (ap (λ b. cond b (with_entry name (table_kit.fresh (fresh_set stamp dd (parts_from number items))) now) now) same)
  made-alike number dd name (refused flaw) now same = sym (ap (λ b. cond b (with_entry name (table_kit.fresh (fresh_set stamp dd (parts_from number items))) now) now) same)

  absent-still : (number : ℕ) (dd : Dd) (dds : List Dd) (name : Name) (now : Named TableSet) → are_distinct (name ∷ names dds) ≡ true
      → ((other : Name) → is_among (name ∷ names dds) other ≡ true → entry_at before.sets other ≡ None → entry_at now other ≡ None)
      → StillAbsent (made_one table_kit.fresh stamp items number dd name now) dds
  absent-still number dd dds name now distinct still other among none = by (has_items number items)
    where
      stays : entry_at now other ≡ None
      stays = still other (or_right (same_name other name) (is_among (names dds) other) among) none

      by : (has : Bool) → entry_at (cond has (with_entry name (table_kit.fresh (fresh_set stamp dd (parts_from number items))) now) now) other ≡ None
      by true = at-with_entry-other name other (table_kit.fresh (fresh_set stamp dd (parts_from number items))) now (apart-from name other (names dds) distinct among) ∙ stays
      by false = stays

  abbrev Makes : ℕ → List Dd → Named TableSet → Type 0
  Makes number dds now =
      (made_tables stamp items (placed number dds) now ≡ made_from table_kit.fresh stamp items (name_of root own) number dds now)
      × MayMakeAll table_kit.fresh stamp items (name_of root own) number dds now

  -- what the step makes, DD by DD
  pub makes : (number : ℕ) (dds : List Dd) (now clear : Named TableSet) → Counted number dds → Whole number dds → are_made_clear layout stamp items (placed number dds) clear ≡ true → are_distinct (names dds) ≡ true → StillAbsent now dds → list_all has_few_serials dds ≡ true → Makes number dds now
  makes number [] now clear counted whole is_clear distinct still few = (refl, tt)
  makes number (dd ∷ dds) now clear counted whole is_clear distinct still few =
      by (name_of root own dd) refl is_clear distinct still
      (λ after after_clear is_clear distinct still. makes (suc number) dds after after_clear (counted-rest number dd dds counted) (whole-rest number dd dds whole) is_clear distinct still (and-second (has_few_serials dd) (list_all has_few_serials dds) few))
    where
      serials_few : length dd.volumes.items ≤ 5
      serials_few = most (length dd.volumes.items) (and-first (has_few_serials dd) (list_all has_few_serials dds) few)
        where
          most : (n : ℕ) → nat_le n 5 ≡ true → n ≤ 5
          most n e = grind (arith, nat_tests)

      More : Type 0
      More = (after after_clear : Named TableSet) → are_made_clear layout stamp items (placed (suc number) dds) after_clear ≡ true → are_distinct (names dds) ≡ true → StillAbsent after dds → Makes (suc number) dds after

      by : (named : Option Name) → name_of root own dd ≡ named
          → are_made_clear layout stamp items (cons_option (option_map (placed_one table_ways before number dd) named) (placed (suc number) dds)) clear ≡ true
          → are_distinct (cons_option named (names dds)) ≡ true
          → ((name : Name) → is_among (cons_option named (names dds)) name ≡ true → entry_at before.sets name ≡ None → entry_at now name ≡ None)
          → ((after after_clear : Named TableSet) → are_made_clear layout stamp items (placed (suc number) dds) after_clear ≡ true → are_distinct (names dds) ≡ true → StillAbsent after dds → Makes (suc number) dds after)
          → (made_tables stamp items (cons_option (option_map (placed_one table_ways before number dd) named) (placed (suc number) dds)) now ≡ made_from table_kit.fresh stamp items (name_of root own) (suc number) dds (made_named table_kit.fresh stamp items number dd named now))
          × (MayMakeNamed table_kit.fresh stamp items number dd named now × MayMakeAll table_kit.fresh stamp items (name_of root own) (suc number) dds (made_named table_kit.fresh stamp items number dd named now))
      by None is is_clear distinct still more = let rest = more now clear is_clear distinct still in (rest.0, (tt, rest.1))
      by (Some name) is is_clear distinct still more =
          let one = placed_one table_ways before number dd name in
          let here = counted-here number dd dds name is counted serials_few in
          let after = made_one table_kit.fresh stamp items number dd name now in
          let rest = more after (made_table stamp items one one.allotment clear)
          (and-second (is_made_clear layout stamp items one one.allotment clear) _ is_clear)
          (and-second (not (is_among (names dds) name)) (are_distinct (names dds)) distinct)
          (absent-still number dd dds name now distinct still) in (
            ap (made_tables stamp items (placed (suc number) dds)) (made-alike number dd name one.allotment now here.0) ∙ rest.0,
            (
              record {
                absent = λ has. still name (ap (λ b. b || is_among (names dds) name) (ap is_eq (tied_itself nat_list_cmp_total name))) (entry-absent (entry_at before.sets name) (made_absent dd (is_passed before.passed name) (option_map table_ways.known (entry_at before.sets name)) (sym here.0 ∙ has)));
                few = here.1;
                whole = whole-here number dd dds name is whole;
                small = λ has. clear-small number dd name one.allotment clear (and-first (is_made_clear layout stamp items one one.allotment clear) _ is_clear) (sym here.0 ∙ has);
                wide = λ has. clear-wide number dd name one.allotment clear (and-first (is_made_clear layout stamp items one one.allotment clear) _ is_clear) (sym here.0 ∙ has);
              },
              rest.1,
            ),
          )
