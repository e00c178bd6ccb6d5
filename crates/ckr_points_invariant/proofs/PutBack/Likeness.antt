-- What is put back is alike to what the library had at the point.
use Rattle.std.proofs.Common.{◌≡◌, ◌≤◌, ℕ, Bool, true, false, if◌then◌else◌, List, length, refl, ap, sym, ◌∙◌, Option, Some, None, arith}
use Rattle.std.specs.Prelude.{nat_le}
use Rattle.std.specs.Option.{option_map}
use Rattle.std.proofs.lemmas.Option.{same_Some}
use Rattle.ckr_base.proofs.Numbers.{nat_le-from}
use Rattle.ckr_base.proofs.Options.{some-not-none}
use Rattle.ckr_entry.specs.declared.point.Mark.{Mark}
use Rattle.ckr_entry.specs.declared.point.Present.{Present}
use Rattle.ckr_library.specs.declared.sets.Content.{Content}
use Rattle.ckr_library.specs.declared.sets.Content.TheVariants.{Plain, Checkpoints}
use Rattle.ckr_library.specs.NameMaps.{Name, Named, entry_at}
use Rattle.ckr_meaning.specs.EffectiveJob.{is_among}
use Rattle.ckr_meaning.specs.LibrarySet.{LibrarySet, Library}
use Rattle.ckr_points.specs.Marks.{present_at, put_back}
use Rattle.ckr_points.specs.Rows.{TableSet, cut_set}
use Rattle.ckr_points_invariant.specs.Invariant.{AreAlike, IsMarkOf, Shape, counted, present_shape, set_shape, table_shape}
use Rattle.ckr_points_invariant.proofs.Writes.Likeness.{BareAlike, bare, lengthened}
use Rattle.ckr_points_invariant.proofs.PutBack.Sets.{back_to, put_back-marked, put_back-none, to_length}

-- ---- one data set

-- a table has at least the length that the library has
abbrev pub IsAsLong : TableSet → LibrarySet → Type 0
IsAsLong table set = counted set.content (length set.records) ≤ counted table.set.content table.set.length

counted_back : (content : Content) (most now : ℕ) → counted content most ≤ counted content now → counted content (if nat_le most now then most else now) ≡ counted content most
counted_back Plain most now fits = ap (λ b. if b then most else now) (nat_le-from most now fits)
counted_back Checkpoints most now fits = refl

length-shape : (present : Present) (table : TableSet) → table_shape (to_length present table) ≡ (let shape : Shape = record (table_shape table) { length = counted table.set.content (if nat_le present.length table.set.length then present.length else table.set.length) } in shape)
length-shape present table = by (nat_le present.length table.set.length)
  where
    by : (b : Bool) → table_shape (if b then cut_set present.length table else table) ≡ (let shape : Shape = record (table_shape table) { length = counted table.set.content (if b then present.length else table.set.length) } in shape)
    by true = refl
    by false = refl

-- an output that differs in its length alone gets the length of its mark
length-back : (present : Present) (table : TableSet) (set : LibrarySet) → present_shape set.content present ≡ set_shape set → bare (table_shape table) ≡ bare (set_shape set) → IsAsLong table set → table_shape (to_length present table) ≡ set_shape set
length-back present table set marked same long =
    length-shape present table
    ∙ lengthened _ (set_shape set) same
    (counted_back table.set.content present.length table.set.length fits
    ∙ ap (λ content. counted content present.length) alike ∙ its_length)
  where
    alike : table.set.content ≡ set.content
    alike = ap (λ (shape : Shape). shape.content) same

    its_length : counted set.content present.length ≡ counted set.content (length set.records)
    its_length = ap (λ (shape : Shape). shape.length) marked

    fits : counted table.set.content present.length ≤ counted table.set.content table.set.length
    fits = let e : counted table.set.content present.length ≡ counted set.content present.length = ap (λ content. counted content present.length) alike in omega (arith, e, its_length, long)

-- and its catalog mark stays
catalog-back : (present : Present) (shape other : Shape) → other.cataloged ≡ present.cataloged → shape ≡ other → (let marked : Shape = record shape { cataloged = present.cataloged } in marked) ≡ other
catalog-back present shape other mark same = ap (λ (s : Shape). let marked : Shape = record s { cataloged = present.cataloged } in marked) same ∙ ap (λ on. let marked : Shape = record other { cataloged = on } in marked) (sym mark)

back-alike : (output : Bool) (present : Present) (table : TableSet) (set : LibrarySet) → present_shape set.content present ≡ set_shape set → bare (table_shape table) ≡ bare (set_shape set) → (output ≡ false → table_shape table ≡ set_shape set) → IsAsLong table set → table_shape (back_to output true present table) ≡ set_shape set
back-alike true present table set marked same other long =
    catalog-back present (table_shape (to_length present table)) (set_shape set) (ap (λ (shape : Shape). shape.cataloged) (sym marked)) (length-back present table set marked same long)
back-alike false present table set marked same other long =
    catalog-back present (table_shape table) (set_shape set) (ap (λ (shape : Shape). shape.cataloged) (sym marked)) (other refl)

-- ---- a needed name

-- so it is of what the tables and a library have under a name
abbrev pub AreAsLong : Option TableSet → Option LibrarySet → Type 0
AreAsLong None set = Unit {0}
AreAsLong (Some table) None = Unit {0}
AreAsLong (Some table) (Some set) = IsAsLong table set

by_entries : (output : Bool) (present : Present) (entry : Option TableSet) (set : LibrarySet) → present_shape set.content present ≡ set_shape set → option_map (λ table. bare (table_shape table)) entry ≡ Some (bare (set_shape set)) → (output ≡ false → option_map table_shape entry ≡ Some (set_shape set)) → AreAsLong entry (Some set) → option_map table_shape (option_map (back_to output true present) entry) ≡ Some (set_shape set)
by_entries output present None set marked same other long = absurd (some-not-none (bare (set_shape set)) (sym same))
by_entries output present (Some table) set marked same other long =
    ap Some (back-alike output present table set marked (same_Some _ _ same) (λ out. same_Some _ _ (other out)) long)

bare_none : (entry : Option TableSet) → option_map (λ table. bare (table_shape table)) entry ≡ None → option_map table_shape entry ≡ None
bare_none None e = refl
bare_none (Some table) e = absurd (some-not-none (bare (table_shape table)) e)

-- A needed name that differs from what the library had at the point in the length of an output alone, which has grown since, is put back
-- to what the library had.
pub put_back-alike : (marks : List Mark) (outputs needed : List Name) (sets : Named TableSet) (library : Library) (name : Name) → is_among needed name ≡ true → IsMarkOf (present_at marks name) (entry_at library name) → BareAlike sets library name → (is_among outputs name ≡ false → AreAlike sets library name) → AreAsLong (entry_at sets name) (entry_at library name) → AreAlike (put_back marks outputs needed sets) library name
put_back-alike marks outputs needed sets library name among marked same other long =
    by (present_at marks name) (entry_at library name) refl marked same other long
  where
    by : (present : Option Present) (set : Option LibrarySet) → present_at marks name ≡ present → IsMarkOf present set → option_map (λ table. bare (table_shape table)) (entry_at sets name) ≡ option_map (λ set. bare (set_shape set)) set → (is_among outputs name ≡ false → option_map table_shape (entry_at sets name) ≡ option_map set_shape set) → AreAsLong (entry_at sets name) set → option_map table_shape (entry_at (put_back marks outputs needed sets) name) ≡ option_map set_shape set
    by None None e marked same other long =
        ap (option_map table_shape) (put_back-none marks outputs needed sets name e) ∙ bare_none (entry_at sets name) same
    by None (Some set) e marked same other long = absurd marked
    by (Some present) None e marked same other long = absurd marked
    by (Some present) (Some set) e marked same other long =
        ap (option_map table_shape) (put_back-marked marks outputs needed sets present name e
        ∙ ap (λ b. option_map (back_to (is_among outputs name) b present) (entry_at sets name)) among)
        ∙ by_entries (is_among outputs name) present (entry_at sets name) set marked same other long
