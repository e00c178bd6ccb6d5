-- Where a point is fresh on the needed names, the tables have of them what the job has there, once they are put back.
use Rattle.std.proofs.Common.{◌≡◌, ℕ, Bool, true, false, cond, not, ◌&&◌, if◌then◌else◌, List, [], ◌∷◌, filter, refl, ap, sym, ◌∙◌, Option, Some, None}
use Rattle.std.specs.Prelude.{◌==◌, nat_le}
use Rattle.std.specs.Option.{option_map, option_map_or, option_or}
use Rattle.std.proofs.lemmas.Bool.{and_from, false≢true}
use Rattle.std.proofs.lemmas.Option.{same_Some}
use Rattle.ckr_base.proofs.Bools.{and-first, and-second, bool-cases}
use Rattle.ckr_base.proofs.Numbers.{equal-itself, equal-true}
use Rattle.ckr_base.proofs.Options.{some-not-none}
use Rattle.ckr_entry.specs.declared.point.Mark.{Mark}
use Rattle.ckr_entry.specs.declared.point.Present.{Present}
use Rattle.ckr_library.specs.declared.sets.Content.{Content}
use Rattle.ckr_library.specs.declared.sets.Stamp.{Stamp}
use Rattle.ckr_library.specs.NameMaps.{Name, Named, entry_at, same_name}
use Rattle.ckr_library.proofs.Named.{name-same}
use Rattle.ckr_meaning.specs.EffectiveJob.{OwnedStep, is_among}
use Rattle.ckr_meaning.specs.LibrarySet.{Library, LibrarySet}
use Rattle.ckr_points.specs.declared.denial.Denial.{Denial}
use Rattle.ckr_points.specs.Freshness.{changed_denial, first_stale, fresh, is_long_enough, is_of_wrong_kind, stale_at, stale_by}
use Rattle.ckr_points.specs.Marks.{is_as_marked, mark_at, present_at, put_back, same_mark, same_stamp, still_exists}
use Rattle.ckr_points.specs.Rows.{TableSet, cut_set}
use Rattle.ckr_points_library.specs.Commit.{output_names}
use Rattle.ckr_points_invariant.specs.Invariant.{AreAlike, Shape, counted, set_shape, table_shape, IsMarkOf, present_shape}
use Rattle.ckr_points_invariant.proofs.PutBack.Sets.{back_to, put_back-marked, put_back-none, to_catalog}

-- ---- none of the needed names is stale

or-parts : (first second : Option Denial) → option_or first second ≡ None → (first ≡ None) × (second ≡ None)
or-parts None second e = (refl, e)
or-parts (Some denial) second e = absurd (some-not-none denial e)

module _ (root : ℕ) (owned : OwnedStep) (needed : List Name) (sets : Named TableSet) where
  abbrev is_needed : Mark → Bool
  is_needed mark = is_among needed mark.name

  -- the first of some marks, and the others
  at-first : (first : Mark) (rest : List Mark) → first_stale root owned sets (filter is_needed (first ∷ rest)) ≡ None → is_needed first ≡ true → stale_at root owned sets first ≡ None
  at-first first rest fresh named =
      (or-parts (stale_at root owned sets first) (first_stale root owned sets (filter is_needed rest))
      (ap (λ b. first_stale root owned sets (cond b (first ∷ filter is_needed rest) (filter is_needed rest))) (sym named) ∙ fresh)).0

  at-rest : (first : Mark) (rest : List Mark) → first_stale root owned sets (filter is_needed (first ∷ rest)) ≡ None → first_stale root owned sets (filter is_needed rest) ≡ None
  at-rest first rest fresh =
      bool-cases (is_needed first)
      (λ named.
      (or-parts (stale_at root owned sets first) (first_stale root owned sets (filter is_needed rest))
      (ap (λ b. first_stale root owned sets (cond b (first ∷ filter is_needed rest) (filter is_needed rest))) (sym named) ∙ fresh)).1)
      (λ other. ap (λ b. first_stale root owned sets (cond b (first ∷ filter is_needed rest) (filter is_needed rest))) (sym other) ∙ fresh)

  -- the mark of a needed name isn't stale
  fresh-mark : (marks : List Mark) (name : Name) (mark : Mark) → first_stale root owned sets (filter is_needed marks) ≡ None → mark_at marks name ≡ Some mark → is_among needed name ≡ true → stale_by root owned name mark.present (entry_at sets name) ≡ None
  fresh-mark [] name mark fresh found named = absurd (some-not-none mark (sym found))
  fresh-mark (first ∷ rest) name mark fresh found named =
      bool-cases (same_name name first.name)
      (λ same.
      let its_name : name ≡ first.name = name-same name first.name same in
      let its_mark : first ≡ mark = same_Some first mark (ap (λ b. cond b (Some first) (mark_at rest name)) (sym same) ∙ found) in
      ap (λ (one : Mark). stale_by root owned name one.present (entry_at sets name)) (sym its_mark)
      ∙ ap (λ n. stale_by root owned n first.present (entry_at sets n)) its_name
      ∙ at-first first rest fresh (ap (is_among needed) (sym its_name) ∙ named))
      (λ apart. fresh-mark rest name mark (at-rest first rest fresh) (ap (λ b. cond b (Some first) (mark_at rest name)) (sym apart) ∙ found) named)

  -- ---- what such a name has

  -- a data set has the stamp of a mark, and is long enough
  pub record IsFresh (name : Name) (present : Present) (table : TableSet) : Type 0 where
    pub stamp : same_stamp table.set.stamp present.stamp ≡ true
    pub long : is_long_enough (is_among (output_names root owned) name) present.length table.set.length ≡ true

  abbrev passes : Name → Present → TableSet → Bool
  passes name present table =
      same_stamp table.set.stamp present.stamp && is_long_enough (is_among (output_names root owned) name) present.length table.set.length
      && not (is_of_wrong_kind root owned name table)

  fresh-parts : (name : Name) (present : Present) (table : TableSet) → passes name present table ≡ true → IsFresh name present table
  fresh-parts name present table so =
      let both = and-first (same_stamp table.set.stamp present.stamp && is_long_enough (is_among (output_names root owned) name) present.length table.set.length) (not (is_of_wrong_kind root owned name table)) so in
      record {
        stamp = and-first (same_stamp table.set.stamp present.stamp) _ both;
        long = and-second (same_stamp table.set.stamp present.stamp) _ both;
      }

  fresh-present : (name : Name) (present : Present) (entry : Option TableSet) → stale_by root owned name (Some present) entry ≡ None → (table : TableSet) × (entry ≡ Some table) × IsFresh name present table
  fresh-present name present None e = absurd (some-not-none _ e)
  fresh-present name present (Some table) e =
      bool-cases (passes name present table)
      (λ so. (table, refl, fresh-parts name present table so))
      (λ other. absurd (some-not-none _ (ap (λ b. if b then None else Some (changed_denial name present table)) (sym other) ∙ e)))

  fresh-absent : (name : Name) (entry : Option TableSet) → stale_by root owned name None entry ≡ None → entry ≡ None
  fresh-absent name None e = refl
  fresh-absent name (Some table) e = absurd (some-not-none _ e)

-- ---- stamps

stamp-same : (one other : Stamp) → same_stamp one other ≡ true → one ≡ other
stamp-same one other same =
    let two = and-first (one.run == other.run && one.step == other.step) (one.rewrites == other.rewrites) same in
    ap (λ run. let stamp : Stamp = record { run = run; step = one.step; rewrites = one.rewrites } in stamp) (equal-true one.run other.run (and-first (one.run == other.run) _ two))
    ∙ ap (λ step. let stamp : Stamp = record { run = other.run; step = step; rewrites = one.rewrites } in stamp) (equal-true one.step other.step (and-second (one.run == other.run) _ two))
    ∙ ap (λ rewrites. let stamp : Stamp = record { run = other.run; step = other.step; rewrites = rewrites } in stamp) (equal-true one.rewrites other.rewrites (and-second (one.run == other.run && one.step == other.step) _ same))

-- a data set of the tables and one of a library are made alike
pub record AreMadeAlike (table : TableSet) (set : LibrarySet) : Type 0 where
  pub content : table.set.content ≡ set.content
  pub lrecl : table.set.lrecl ≡ set.lrecl
  pub space : table.set.space ≡ set.space

-- the stamp of a data set determines how it was made
abbrev pub DeterminesMaking : Named TableSet → Library → Name → Type 0
DeterminesMaking sets library name =
    (table : TableSet) (set : LibrarySet) → entry_at sets name ≡ Some table → entry_at library name ≡ Some set → table.set.stamp ≡ set.stamp → AreMadeAlike table set

-- ---- one data set

-- with the catalog mark and the length of a mark, a data set is what the mark says
shape-back : (present : Present) (table : TableSet) (set : LibrarySet) (most : ℕ) → present_shape set.content present ≡ set_shape set → AreMadeAlike table set → table.set.stamp ≡ present.stamp → most ≡ present.length
    → (let shape : Shape = record { cataloged = present.cataloged; lrecl = table.set.lrecl; space = table.set.space; content = table.set.content; stamp = table.set.stamp; length = counted table.set.content most } in shape) ≡ set_shape set
shape-back present table set most marked made stamp long =
    ap (λ lrecl. shape_of lrecl table.set.space table.set.content table.set.stamp most) (made.lrecl ∙ sym (ap (λ (shape : Shape). shape.lrecl) marked))
    ∙ ap (λ space. shape_of present.lrecl space table.set.content table.set.stamp most) (made.space ∙ sym (ap (λ (shape : Shape). shape.space) marked))
    ∙ ap (λ content. shape_of present.lrecl present.space content table.set.stamp most) made.content
    ∙ ap (λ stamp. shape_of present.lrecl present.space set.content stamp most) stamp
    ∙ ap (shape_of present.lrecl present.space set.content present.stamp) long
    ∙ marked
  where
    shape_of : ℕ → ℕ → Content → Stamp → ℕ → Shape
    shape_of lrecl space content stamp most = record { cataloged = present.cataloged; lrecl = lrecl; space = space; content = content; stamp = stamp; length = counted content most }

cut-shape : (output : Bool) (present : Present) (table : TableSet) (set : LibrarySet) → is_long_enough output present.length table.set.length ≡ true → present_shape set.content present ≡ set_shape set → AreMadeAlike table set → table.set.stamp ≡ present.stamp → table_shape (back_to output true present table) ≡ set_shape set
cut-shape true present table set long marked made stamp = by (nat_le present.length table.set.length) long
  where
    by : (b : Bool) → b ≡ true → table_shape (to_catalog present (if b then cut_set present.length table else table)) ≡ set_shape set
    by true e = shape-back present table set present.length marked made stamp refl
    by false e = absurd (false≢true e)
cut-shape false present table set long marked made stamp = shape-back present table set table.set.length marked made stamp (equal-true table.set.length present.length long)

-- ---- a needed name

-- by the data sets on which it was judged, and the ones that are put back, which have the same under the name
module _ (root : ℕ) (owned : OwnedStep) (needed : List Name) (marks : List Mark) (sets later : Named TableSet) (library : Library) (isfresh : fresh root owned marks needed sets ≡ None) (name : Name)
    (same : entry_at later name ≡ entry_at sets name) (made : DeterminesMaking sets library name) where
  marked-alike : (present : Option Present) (set : Option LibrarySet) → present_at marks name ≡ present → entry_at library name ≡ set → IsMarkOf present set → stale_by root owned name present (entry_at sets name) ≡ None → is_among needed name ≡ true → AreAlike (put_back marks (output_names root owned) needed later) library name
  marked-alike None None has is marked stale named =
      ap (option_map table_shape) (put_back-none marks (output_names root owned) needed later name has ∙ same ∙ fresh-absent root owned needed sets name (entry_at sets name) stale)
      ∙ sym (ap (option_map set_shape) is)
  marked-alike None (Some set) has is marked stale named = absurd marked
  marked-alike (Some present) None has is marked stale named = absurd marked
  marked-alike (Some present) (Some set) has is marked stale named =
      let its = fresh-present root owned needed sets name present (entry_at sets name) stale in
      let table : TableSet = its.0 in
      let stamp : table.set.stamp ≡ present.stamp = stamp-same table.set.stamp present.stamp its.2.stamp in
      ap (option_map table_shape)
      (put_back-marked marks (output_names root owned) needed later present name has
      ∙ ap (λ b. option_map (back_to (is_among (output_names root owned) name) b present) (entry_at later name)) named
      ∙ ap (option_map (back_to (is_among (output_names root owned) name) true present)) (same ∙ its.1))
      ∙ ap Some (cut-shape (is_among (output_names root owned) name) present table set its.2.long marked (made table set its.1 is (stamp ∙ ap (λ (shape : Shape). shape.stamp) marked)) stamp)
      ∙ sym (ap (option_map set_shape) is)

  -- The tables have of a needed name what the mark says, once it is put back.
  pub fresh-alike : (mark : Mark) → mark_at marks name ≡ Some mark → is_among needed name ≡ true → IsMarkOf (present_at marks name) (entry_at library name) → AreAlike (put_back marks (output_names root owned) needed later) library name
  fresh-alike mark found named marked =
      marked-alike (present_at marks name) (entry_at library name) refl refl marked
      (ap (λ (o : Option Mark). stale_by root owned name (option_map_or (λ (mark : Mark). mark.present) o None) (entry_at sets name)) found
      ∙ fresh-mark root owned needed sets marks name mark isfresh found named) named

-- ---- a name that still exists

marked-same : (on other : Bool) → same_mark on other ≡ true → on ≡ other
marked-same true other same = sym same
marked-same false true same = absurd (false≢true same)
marked-same false false same = refl

module _ (marks : List Mark) (named : List Name) (sets : Named TableSet) (library : Library) (name : Name) (made : DeterminesMaking sets library name) where
  as-marked : (present : Present) (table : TableSet) (set : LibrarySet) → entry_at sets name ≡ Some table → entry_at library name ≡ Some set → present_shape set.content present ≡ set_shape set → is_as_marked table present ≡ true → table_shape table ≡ set_shape set
  as-marked present table set there is marked same =
      let both = and-first (same_stamp table.set.stamp present.stamp && table.set.length == present.length) (same_mark table.set.cataloged present.cataloged) same in
      let stamp : table.set.stamp ≡ present.stamp = stamp-same table.set.stamp present.stamp (and-first (same_stamp table.set.stamp present.stamp) _ both) in
      ap (λ on. let shape : Shape = record (table_shape table) { cataloged = on } in shape) (marked-same table.set.cataloged present.cataloged (and-second (same_stamp table.set.stamp present.stamp && table.set.length == present.length) _ same))
      ∙ shape-back present table set table.set.length marked (made table set there is (stamp ∙ ap (λ (shape : Shape). shape.stamp) marked)) stamp
      (equal-true table.set.length present.length (and-second (same_stamp table.set.stamp present.stamp) _ both))

  there-alike : (present : Option Present) (set : Option LibrarySet) (entry : Option TableSet) → entry_at sets name ≡ entry → entry_at library name ≡ set → IsMarkOf present set → option_map_or (λ present. option_map_or (λ table. is_as_marked table present) entry false) present false ≡ true → option_map table_shape entry ≡ option_map set_shape set
  there-alike None set entry e is marked there = absurd (false≢true there)
  there-alike (Some present) None entry e is marked there = absurd marked
  there-alike (Some present) (Some set) None e is marked there = absurd (false≢true there)
  there-alike (Some present) (Some set) (Some table) e is marked there = ap Some (as-marked present table set e is marked there)

  -- A name that still exists is as its mark says.
  pub still-alike : still_exists marks named sets name ≡ true → IsMarkOf (present_at marks name) (entry_at library name) → AreAlike sets library name
  still-alike exists marked =
      there-alike (present_at marks name) (entry_at library name) (entry_at sets name) refl refl marked (and-second (is_among named name) _ exists)

-- ---- a needed name that is there still exists

pub mark-itself : (on : Bool) → same_mark on on ≡ true
mark-itself true = refl
mark-itself false = refl

back-marked : (output : Bool) (present : Present) (table : TableSet) → same_stamp table.set.stamp present.stamp ≡ true → is_long_enough output present.length table.set.length ≡ true → is_as_marked (back_to output true present table) present ≡ true
back-marked true present table stamp long = by (nat_le present.length table.set.length) long
  where
    by : (b : Bool) → b ≡ true → is_as_marked (to_catalog present (if b then cut_set present.length table else table)) present ≡ true
    by true e =
        and_from (same_stamp table.set.stamp present.stamp && present.length == present.length) _
        (and_from (same_stamp table.set.stamp present.stamp) _ stamp (equal-itself present.length)) (mark-itself present.cataloged)
    by false e = absurd (false≢true e)
back-marked false present table stamp long =
    and_from (same_stamp table.set.stamp present.stamp && table.set.length == present.length) _
    (and_from (same_stamp table.set.stamp present.stamp) _ stamp long) (mark-itself present.cataloged)

module _ (root : ℕ) (owned : OwnedStep) (needed named : List Name) (marks : List Mark) (sets later : Named TableSet) (isfresh : fresh root owned marks needed sets ≡ None) (name : Name)
    (same : entry_at later name ≡ entry_at sets name) where
  pub fresh-exists : (mark : Mark) (present : Present) → mark_at marks name ≡ Some mark → mark.present ≡ Some present → is_among needed name ≡ true → is_among named name ≡ true → still_exists marks named (put_back marks (output_names root owned) needed later) name ≡ true
  fresh-exists mark present found marked among its =
      let at_mark : present_at marks name ≡ Some present = ap (λ (o : Option Mark). option_map_or (λ (mark : Mark). mark.present) o None) found ∙ marked in
      let stale : stale_by root owned name (Some present) (entry_at sets name) ≡ None =
      ap (λ o. stale_by root owned name o (entry_at sets name)) (sym marked) ∙ fresh-mark root owned needed sets marks name mark isfresh found among in
      let table = fresh-present root owned needed sets name present (entry_at sets name) stale in
      and_from (is_among named name) _ its
      (ap (λ (o : Option Present). option_map_or (λ present. option_map_or (λ table. is_as_marked table present) (entry_at (put_back marks (output_names root owned) needed later) name) false) o false) at_mark
      ∙ ap (λ (o : Option TableSet). option_map_or (λ table. is_as_marked table present) o false)
      (put_back-marked marks (output_names root owned) needed later present name at_mark
      ∙ ap (λ b. option_map (back_to (is_among (output_names root owned) name) b present) (entry_at later name)) among
      ∙ ap (option_map (back_to (is_among (output_names root owned) name) true present)) (same ∙ table.1))
      ∙ back-marked (is_among (output_names root owned) name) present table.0 table.2.stamp table.2.long)
