-- A data set of the library becomes longer by a record that is written behind its last one.
use Rattle.std.proofs.Common.{◌≡◌, ◌<◌, ◌≤◌, ℕ, ◌+◌, Bool, true, false, List, [], ◌∷◌, ◌++◌, Option, Some, None, refl, ap, sym, ◌∙◌, subst, arith, length-append}
use Rattle.std.specs.Prelude.{IsTrue}
use Rattle.std.specs.Option.{option_map}
use Rattle.std.proofs.lemmas.Bool.{false≢true}
use Rattle.std.proofs.lemmas.Option.{same_Some}
use Rattle.ckr_base.proofs.Options.{some-not-none}
use Rattle.ckr_base.specs.Columns.{fitted}
use Rattle.ckr_outside.specs.Disk.{SameOutside, StemsFrom, ChangesWithin}
use Rattle.ckr_outside.specs.Moments.{and_then, in_other_words, at_the_end}
use Rattle.ckr_library.specs.declared.sets.DataSet.{DataSet}
use Rattle.ckr_library.specs.Catalog.{Holding, Catalog, set_of, with_length, HasSet}
use Rattle.ckr_library.specs.NameMaps.{Name, same_name, entry_at, with_entry, with_change, with_changed}
use Rattle.ckr_library.proofs.Named.{at-with_changed-other, name-itself, name-same, name-turned}
use Rattle.ckr_volumes.specs.declared.layout.Layout.{Layout}
use Rattle.ckr_volumes.specs.RecordWrites.{records_below_kept, records_apart_kept, front_kept}
use Rattle.ckr_volumes.specs.Places.{StretchModel, address_of, stretches_of, stretches_of_parts}
use Rattle.ckr_volumes.specs.Records.{records_on}
use Rattle.ckr_volumes.specs.SamePlaces.{SamePlaces, same_places, stands_at_length}
use Rattle.ckr_volumes.specs.Layouts.{is_laid_out, lie_apart, lists_apart, StandsIn}
use Rattle.ckr_meaning.specs.EffectiveJob.{is_among}
use Rattle.ckr_meaning.specs.LibrarySet.{LibrarySet, Library}
use Rattle.ckr_meaning.specs.StepRun.{extended}
use Rattle.ckr_steps.specs.Inputs.{AreStored}
use Rattle.ckr_steps.specs.Writes.{longer, Shows, IsShown, ShowsSet, Keeps, StemsKeeping, ChangesKeeping}
use Rattle.ckr_steps.proofs.Names.{changed_here, changed_nothing, holding_of, set_there, is_there}

-- with a record more
abbrev pub one_longer : DataSet → DataSet
one_longer set = record set { length = set.length + 1 }

-- the data set of this name is longer by a record, and the others are as before
pub record IsLonger (name : Name) (set : DataSet) (old new : Catalog) : Type 0 where
  pub was : set_of old name ≡ Some set
  pub here : set_of new name ≡ Some (one_longer set)
  pub others : (other : Name) → same_name other name ≡ false → set_of new other ≡ set_of old other

-- where the library has its length set so
pub length_set : (name : Name) (set : DataSet) (old new : Catalog) → set_of old name ≡ Some set → new.sets ≡ with_changed name (with_length (set.length + 1)) old.sets → IsLonger name set old new
length_set name set old new was is =
    let held = holding_of old name set was in
    record {
      was = was;
      here = ap (λ sets. option_map (λ (h : Holding). h.set) (entry_at sets name)) is
          ∙ ap (option_map (λ (h : Holding). h.set)) (changed_here name (with_length (set.length + 1)) old.sets held.0 held.1)
          ∙ ap (λ (s : DataSet). Some (record s { length = set.length + 1 })) held.2;
      others = λ other apart. ap (λ sets. option_map (λ (h : Holding). h.set) (entry_at sets other)) is
          ∙ ap (option_map (λ (h : Holding). h.set)) (at-with_changed-other name other (with_length (set.length + 1)) old.sets apart);
    }

pub is_longer : (name : Name) (set : DataSet) (old new : Catalog) → set_of old name ≡ Some set → new.sets ≡ with_changed name longer old.sets → IsLonger name set old new
is_longer name set old new was is =
    let held = holding_of old name set was in
    length_set name set old new was
    (is ∙ ap (with_change name longer old.sets) held.1
    ∙ ap (λ (s : DataSet). with_entry name (with_length (s.length + 1) held.0) old.sets) held.2
    ∙ sym (ap (with_change name (with_length (set.length + 1)) old.sets) held.1))

module _ (layout : Layout) (name : Name) (set : DataSet) (old new : Catalog) (stored : AreStored layout old) (grows : IsLonger name set old new) where
  -- a data set that is looked up behind it: the longer one, or another one as before
  at_name : (P : Name → DataSet → Type 0) → P name (one_longer set) → ((other : Name) (s : DataSet) → same_name other name ≡ false → set_of old other ≡ Some s → P other s)
      → (other : Name) (s : DataSet) → set_of new other ≡ Some s → P other s
  at_name P here others other s is = by (same_name other name) refl
    where
      by : (same : Bool) → same_name other name ≡ same → P other s
      by true e =
          let names : other ≡ name = name-same other name e in
          let sets : one_longer set ≡ s = same_Some (one_longer set) s (sym grows.here ∙ ap (set_of new) (sym names) ∙ is) in
          subst (λ (n : Name). P n s) (sym names) (subst (P name) sets here)
      by false e = others other s e (sym (grows.others other e) ∙ is)

  stands_longer : set.length < set.space → StandsIn layout (one_longer set)
  stands_longer space = stands_at_length layout set (stored.stands name set grows.was) (set.length + 1) (omega (arith, space))

  apart_longer : (one other : Name) (first second : DataSet) → same_name one other ≡ false → set_of new one ≡ Some first → set_of new other ≡ Some second → IsTrue (lie_apart first second)
  apart_longer one other first second differ first_is second_is =
      at_name (λ n s. same_name n other ≡ false → IsTrue (lie_apart s second))
      (λ differ. at_name (λ m t. same_name name m ≡ false → IsTrue (lie_apart set t))
      (λ same. absurd (unlike same))
      (λ m t apart was differ. stored.apart name m set t differ grows.was was)
      other second second_is differ)
      (λ n s apart was differ. at_name (λ m t. same_name n m ≡ false → IsTrue (lie_apart s t))
      (λ differ. stored.apart n name s set differ was grows.was)
      (λ m t other_apart other_was differ. stored.apart n m s t differ was other_was)
      other second second_is differ)
      one first first_is differ
    where
      unlike : same_name name name ≡ false → ⊥
      unlike e = false≢true (sym e ∙ name-itself name)

  pub stored_longer : set.length < set.space → AreStored layout new
  stored_longer space = record {
    stands = λ other s is. at_name (λ n t. StandsIn layout t) (stands_longer space) (λ n t apart was. stored.stands n t was) other s is;
    apart = apart_longer;
  }

pub there_longer : (name : Name) (set : DataSet) (old new : Catalog) → IsLonger name set old new → (other : Name) → HasSet old other (λ _. Unit {0}) → HasSet new other (λ _. Unit {0})
there_longer name set old new grows other there = by (same_name other name) refl
  where
    by : (same : Bool) → same_name other name ≡ same → HasSet new other (λ _. Unit {0})
    by true e = is_there new other (one_longer set) (ap (set_of new) (name-same other name e) ∙ grows.here)
    by false e = let found = set_there old other there in is_there new other found.0 (grows.others other e ∙ found.1)

-- what was written: the record stands behind the others of its data set, and the data sets that lie apart are as before
pub record IsWritten (told : Type 0) (old new : List ℕ) (layout : Layout) (set : DataSet) (bytes : List ℕ) : Type 0 where
  pub here : told → records_on new layout set (set.length + 1) ≡ records_on old layout set set.length ++ fitted set.lrecl bytes ∷ []
  pub others : told → (other : DataSet) → StandsIn layout other → IsTrue (lie_apart set other) → (n : ℕ) → n ≤ other.space → records_on new layout other n ≡ records_on old layout other n

module _ (told : Type 0) (image later : List ℕ) (layout : Layout) (name : Name) (set : DataSet) (old new : Catalog) (bytes : List ℕ)
    (stored : AreStored layout old) (grows : IsLonger name set old new) (written : IsWritten told image later layout set bytes) where
  shown_other : (other : Name) (model : LibrarySet) → same_name other name ≡ false → IsShown told image layout model old other → IsShown told later layout model new other
  shown_other other model apart shown = record {
    set = shown.set;
    is = grows.others other apart ∙ shown.is;
    shows = record {
      lrecl = shown.shows.lrecl;
      space = shown.shows.space;
      length = shown.shows.length;
      records = λ is_told.
          let stands = stored.stands other shown.set shown.is in
          written.others is_told shown.set stands (stored.apart name other set shown.set (name-turned name other ∙ apart) grows.was shown.is) shown.set.length stands.length_fits
          ∙ shown.shows.records is_told;
    };
  }

  shown_here : (model : LibrarySet) → IsShown told image layout model old name → IsShown told later layout (extended bytes model) new name
  shown_here model shown =
      let same : shown.set ≡ set = same_Some shown.set set (sym shown.is ∙ grows.was) in
      let shows : ShowsSet told image layout model set = subst (ShowsSet told image layout model) same shown.shows in
      record {
        set = one_longer set;
        is = grows.here;
        shows = record {
          lrecl = shows.lrecl;
          space = shows.space;
          length = omega (arith, shows.length, length-append model.records (fitted model.lrecl bytes ∷ []));
          records = λ is_told.
              same_places later layout set (one_longer set) (record { parts = refl; lrecl = refl }) (set.length + 1)
              ∙ written.here is_told
              ∙ ap (λ (l : List (List ℕ)). l ++ fitted set.lrecl bytes ∷ []) (shows.records is_told)
              ∙ ap (λ (lrecl : ℕ). model.records ++ fitted lrecl bytes ∷ []) shows.lrecl;
        };
      }

  pub shows_written : (names : List Name) (model : Library) → Shows told image layout names model old → Shows told later layout names (with_changed name (extended bytes) model) new
  shows_written names model shows other found among is plain = by (same_name other name) refl
    where
      by_entry : (entry : Option LibrarySet) → entry_at model name ≡ entry → other ≡ name → IsShown told later layout found new name
      by_entry None e same = absurd (some-not-none found (sym (sym (ap (λ library. entry_at library name) (changed_nothing name (extended bytes) model e) ∙ e) ∙ ap (entry_at (with_changed name (extended bytes) model)) (sym same) ∙ is)))
      by_entry (Some first) e same =
          let made : extended bytes first ≡ found = same_Some (extended bytes first) found (sym (changed_here name (extended bytes) model first e) ∙ ap (entry_at (with_changed name (extended bytes) model)) (sym same) ∙ is) in
          subst (λ (m : LibrarySet). IsShown told later layout m new name) made
          (shown_here first (shows name first (subst (λ (n : Name). is_among names n ≡ true) same among) e (ap (λ (m : LibrarySet). m.content) made ∙ plain)))

      by : (same : Bool) → same_name other name ≡ same → IsShown told later layout found new other
      by true e = let same = name-same other name e in subst (IsShown told later layout found new) (sym same) (by_entry (entry_at model name) refl same)
      by false e = shown_other other found e (shows other found among (sym (at-with_changed-other name other (extended bytes) model e) ∙ is) plain)

-- ---- what stays

module _ (layout : Layout) (laid_out : IsTrue (is_laid_out layout)) (name : Name) (set : DataSet) (catalog : Catalog) (stored : AreStored layout catalog) (was : set_of catalog name ≡ Some set) (space : set.length < set.space) where
  keeps_written : (old new : List ℕ) → SameOutside (address_of layout set set.length) set.lrecl old new → Keeps layout catalog old new
  keeps_written old new same = record {
    records = λ other s n is le. by other s n is le (same_name other name) refl;
    others = λ other n clear other_stands le. records_apart_kept layout laid_out set stands set.length space old new same other other_stands (clear name set was) n le;
    front = front_kept layout laid_out set stands set.length space old new same;
  }
    where
      stands : StandsIn layout set
      stands = stored.stands name set was

      by : (other : Name) (s : DataSet) (n : ℕ) → set_of catalog other ≡ Some s → n ≤ s.length → (b : Bool) → same_name other name ≡ b → records_on new layout s n ≡ records_on old layout s n
      by other s n is le true e =
          let sets : set ≡ s = same_Some set s (sym was ∙ ap (set_of catalog) (sym (name-same other name e)) ∙ is) in
          subst (λ (t : DataSet). records_on new layout t n ≡ records_on old layout t n) sets
          (records_below_kept layout laid_out set stands set.length space old new same n (subst (λ (t : DataSet). n ≤ t.length) (sym sets) le))
      by other s n is le false e =
          let other_stands = stored.stands other s is in
          records_apart_kept layout laid_out set stands set.length space old new same s other_stands
          (stored.apart name other set s (name-turned name other ∙ e) was is) n (omega (arith, le, other_stands.length_fits))

  module _ {D : Type 0} (told : Type 0) (content : D → List ℕ) (may_leave : D → List ℕ → Type 0) (moment : D → ℕ) (left_since : D → ℕ → List ℕ → Type 0) where
    pub changes_keeping : (old new : D) → ChangesWithin told content may_leave moment left_since (address_of layout set set.length) set.lrecl old new → ChangesKeeping told content may_leave moment left_since layout catalog old new
    changes_keeping old new changes = record {
      reads = λ is_told. keeps_written (content old) (content new) (changes.reads is_told);
      since = in_other_words moment left_since old new (StemsFrom (may_leave old) (address_of layout set set.length) set.lrecl) (StemsKeeping layout catalog (may_leave old)) changes.since
          (λ image stems. (stems.0, stems.1, keeps_written stems.0 image stems.2));
    }

-- each data set is there still, at the same places, and no shorter
pub record IsGrown (old new : Catalog) : Type 0 where
  pub each : (name : Name) (set : DataSet) → set_of old name ≡ Some set → (later : DataSet) × (set_of new name ≡ Some later) × SamePlaces later set × (set.length ≤ later.length)
  pub back : (name : Name) (later : DataSet) → set_of new name ≡ Some later → (set : DataSet) × (set_of old name ≡ Some set) × SamePlaces later set

pub grown_longer : (name : Name) (set : DataSet) (old new : Catalog) → IsLonger name set old new → IsGrown old new
grown_longer name set old new grows = record {
  each = λ other s is. by other s is (same_name other name) refl;
  back = λ other later is. from other later is (same_name other name) refl;
}
  where
    from : (other : Name) (later : DataSet) → set_of new other ≡ Some later → (same : Bool) → same_name other name ≡ same → (s : DataSet) × (set_of old other ≡ Some s) × SamePlaces later s
    from other later is true e =
        let sets : one_longer set ≡ later = same_Some (one_longer set) later (sym grows.here ∙ ap (set_of new) (sym (name-same other name e)) ∙ is) in
        (set, ap (set_of old) (name-same other name e) ∙ grows.was, subst (λ (t : DataSet). SamePlaces t set) sets (record { parts = refl; lrecl = refl }))
    from other later is false e = (later, sym (grows.others other e) ∙ is, record { parts = refl; lrecl = refl })

    by : (other : Name) (s : DataSet) → set_of old other ≡ Some s → (same : Bool) → same_name other name ≡ same → (later : DataSet) × (set_of new other ≡ Some later) × SamePlaces later s × (s.length ≤ later.length)
    by other s is true e =
        let sets : set ≡ s = same_Some set s (sym grows.was ∙ ap (set_of old) (sym (name-same other name e)) ∙ is) in
        let k : s.length ≤ s.length + 1 = omega arith in
        (one_longer s, ap (set_of new) (name-same other name e) ∙ grows.here ∙ ap (λ (t : DataSet). Some (one_longer t)) sets, record { parts = refl; lrecl = refl }, k)
    by other s is false e = let k : s.length ≤ s.length = omega arith in (s, grows.others other e ∙ is, record { parts = refl; lrecl = refl }, k)

pub keeps_twice : (layout : Layout) (old mid : Catalog) (first second third : List ℕ) → IsGrown old mid → Keeps layout old first second → Keeps layout mid second third → Keeps layout old first third
keeps_twice layout old mid first second third grown one two = record {
  records = λ name set n is le.
      let later = grown.each name set is in
      same_places third layout later.0 set later.2 n
      ∙ two.records name later.0 n later.1 (omega (arith, le, later.3))
      ∙ sym (same_places second layout later.0 set later.2 n)
      ∙ one.records name set n is le;
  others = λ other n clear stands le.
      two.others other n
      (λ name later is.
      let from = grown.back name later is in
      ap (λ (stretches : List StretchModel). lists_apart later.lrecl other.lrecl stretches (stretches_of other)) (ap stretches_of_parts (sym from.2.parts))
      ∙ ap (λ (lrecl : ℕ). lists_apart lrecl other.lrecl (stretches_of from.0) (stretches_of other)) (sym from.2.lrecl)
      ∙ clear name from.0 from.1)
      stands le
      ∙ one.others other n clear stands le;
  front = two.front ∙ one.front;
}

module _ {D : Type 0} (told : Type 0) (content : D → List ℕ) (may_leave : D → List ℕ → Type 0) (moment : D → ℕ) (left_since : D → ℕ → List ℕ → Type 0) where
  -- one change and then another
  pub keeping_twice : (layout : Layout) (catalog later : Catalog) (old mid new : D) → IsGrown catalog later
      → ((t : ℕ) (image : List ℕ) → t ≤ moment mid → may_leave mid image → left_since mid t image)
      → ChangesKeeping told content may_leave moment left_since layout catalog old mid → ChangesKeeping told content may_leave moment left_since layout later mid new → ChangesKeeping told content may_leave moment left_since layout catalog old new
  keeping_twice layout catalog later old mid new grown counts first second = record {
    reads = λ is_told. keeps_twice layout catalog later (content old) (content mid) (content new) grown (first.reads is_told) (second.reads is_told);
    since = and_then moment left_since old mid new (StemsKeeping layout catalog (may_leave old)) (StemsKeeping layout later (may_leave mid)) (StemsKeeping layout catalog (may_leave old)) first.since second.since
        (λ image stems. stems)
        (λ image stems. let start = at_the_end moment may_leave left_since old mid (StemsKeeping layout catalog (may_leave old)) first.since counts stems.0 stems.1 in
        (start.0, start.1, keeps_twice layout catalog later start.0 stems.0 image grown start.2 stems.2));
  }
