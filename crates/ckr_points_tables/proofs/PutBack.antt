-- The put back of the library, name by name, and how the tables see it.
use Rattle.std.proofs.Common.{◌≡◌, ℕ, Bool, true, false, cond, nat_le, List, [], ◌∷◌, refl, ap, ◌∙◌, Option, Some, None}
use Rattle.std.specs.Option.{option_map_or}
use Rattle.ckr_entry.specs.declared.point.Mark.{Mark}
use Rattle.ckr_entry.specs.declared.point.Present.{Present}
use Rattle.ckr_library.specs.Catalog.{Holding, with_catalog, with_length}
use Rattle.ckr_library.specs.NameMaps.{EachEntry, Name, Named, with_changed, without_entry}
use Rattle.ckr_library.proofs.Named.{each-with_changed, each-without_entry}
use Rattle.ckr_points.specs.Marks.{is_marked_absent, made_names, present_at, put_back, put_back_catalogs, put_back_length, put_back_lengths, removed_all}
use Rattle.ckr_points.specs.Rows.{TableSet, cut_set, table_ways}
use Rattle.ckr_points_library.specs.Holdings.{holding_ways}
use Rattle.ckr_points_tables.specs.Invariant.{IsWide}
use Rattle.ckr_points_runs.specs.PutBack.{all_made_gone, catalog_back, catalogs_back, cut_back, length_back, lengths_back, made_gone, sets_back}
use Rattle.ckr_points_tables.specs.View.{Writings, table_in}
use Rattle.ckr_points_tables.proofs.MeaningViews.{viewed-without}
use Rattle.ckr_points_tables.proofs.NamedViews.{viewed, viewed-with_changed}
use Rattle.ckr_points_tables.proofs.SetViews.{table_view}

pub cut-back-wide : (most : ℕ) (holding : Holding) → IsWide holding → IsWide (cut_back most holding)
cut-back-wide most holding wide = by (nat_le most holding.set.length)
  where
    by : (b : Bool) → IsWide (cond b (with_length most holding) holding)
    by true = wide
    by false = wide

-- ---- as the tables see it

module _ (writings : Writings) where
  abbrev see : Named Holding → Named TableSet
  see sets = viewed (table_in writings) sets

  pub gone-seen : (marks : List Mark) (names : List Name) (sets : Named Holding) → see (all_made_gone marks names sets) ≡ removed_all (made_names marks names) (see sets)
  gone-seen marks [] sets = refl
  gone-seen marks (name ∷ names) sets =
      gone-seen marks names (made_gone marks name sets) ∙ by (is_marked_absent marks name)
    where
      by : (b : Bool) → removed_all (made_names marks names) (see (cond b (without_entry name sets) sets)) ≡ removed_all (cond b (name ∷ made_names marks names) (made_names marks names)) (see sets)
      by true = ap (removed_all (made_names marks names)) (viewed-without (table_in writings) holding_ways table_ways (table_view writings).through name sets)
      by false = refl

  cut-seen : (name : Name) (most : ℕ) (holding : Holding) → table_in writings name (cut_back most holding) ≡ put_back_length most (table_in writings name holding)
  cut-seen name most holding = by (nat_le most holding.set.length)
    where
      by : (b : Bool) → table_in writings name (cond b (with_length most holding) holding) ≡ cond b (cut_set most (table_in writings name holding)) (table_in writings name holding)
      by true = (table_view writings).cuts name most holding
      by false = refl

  length-seen : (marks : List Mark) (name : Name) (sets : Named Holding) → see (length_back marks name sets) ≡ option_map_or (λ (present : Present). with_changed name (put_back_length present.length) (see sets)) (present_at marks name) (see sets)
  length-seen marks name sets = by (present_at marks name)
    where
      by : (found : Option Present) → see (option_map_or (λ (present : Present). with_changed name (cut_back present.length) sets) found sets) ≡ option_map_or (λ (present : Present). with_changed name (put_back_length present.length) (see sets)) found (see sets)
      by None = refl
      by (Some present) = viewed-with_changed (table_in writings) (cut_back present.length) (put_back_length present.length) name (cut-seen name present.length) sets

  lengths-seen : (marks : List Mark) (names : List Name) (sets : Named Holding) → see (lengths_back marks names sets) ≡ put_back_lengths marks names (see sets)
  lengths-seen marks [] sets = refl
  lengths-seen marks (name ∷ names) sets = lengths-seen marks names (length_back marks name sets) ∙ ap (put_back_lengths marks names) (length-seen marks name sets)

  catalog-seen : (marks : List Mark) (name : Name) (sets : Named Holding) → see (catalog_back marks name sets) ≡ option_map_or (λ (present : Present). with_changed name (table_ways.marked present.cataloged) (see sets)) (present_at marks name) (see sets)
  catalog-seen marks name sets = by (present_at marks name)
    where
      by : (found : Option Present) → see (option_map_or (λ (present : Present). with_changed name (with_catalog present.cataloged) sets) found sets) ≡ option_map_or (λ (present : Present). with_changed name (table_ways.marked present.cataloged) (see sets)) found (see sets)
      by None = refl
      by (Some present) = viewed-with_changed (table_in writings) (with_catalog present.cataloged) (table_ways.marked present.cataloged) name ((table_view writings).through.marks name present.cataloged) sets

  catalogs-seen : (marks : List Mark) (names : List Name) (sets : Named Holding) → see (catalogs_back marks names sets) ≡ put_back_catalogs marks names (see sets)
  catalogs-seen marks [] sets = refl
  catalogs-seen marks (name ∷ names) sets = catalogs-seen marks names (catalog_back marks name sets) ∙ ap (put_back_catalogs marks names) (catalog-seen marks name sets)

  pub back-seen : (marks : List Mark) (outputs needed : List Name) (sets : Named Holding) → see (sets_back marks outputs needed sets) ≡ put_back marks outputs needed (see sets)
  back-seen marks outputs needed sets = catalogs-seen marks needed (lengths_back marks outputs sets) ∙ ap (put_back_catalogs marks needed) (lengths-seen marks outputs sets)

-- ---- what holds of each data set

module _ (Q : Holding → Type 0) (cuts : (most : ℕ) (holding : Holding) → Q holding → Q (cut_back most holding)) (marks_so : (on : Bool) (holding : Holding) → Q holding → Q (with_catalog on holding)) where
  pub gone-each : (marks : List Mark) (names : List Name) (sets : Named Holding) → EachEntry Q sets → EachEntry Q (all_made_gone marks names sets)
  gone-each marks [] sets each = each
  gone-each marks (name ∷ names) sets each = gone-each marks names (made_gone marks name sets) (by (is_marked_absent marks name))
    where
      by : (b : Bool) → EachEntry Q (cond b (without_entry name sets) sets)
      by true = each-without_entry Q name sets each
      by false = each

  length-each : (marks : List Mark) (name : Name) (sets : Named Holding) → EachEntry Q sets → EachEntry Q (length_back marks name sets)
  length-each marks name sets each = by (present_at marks name)
    where
      by : (found : Option Present) → EachEntry Q (option_map_or (λ (present : Present). with_changed name (cut_back present.length) sets) found sets)
      by None = each
      by (Some present) = each-with_changed Q name (cut_back present.length) sets (cuts present.length) each

  lengths-each : (marks : List Mark) (names : List Name) (sets : Named Holding) → EachEntry Q sets → EachEntry Q (lengths_back marks names sets)
  lengths-each marks [] sets each = each
  lengths-each marks (name ∷ names) sets each = lengths-each marks names (length_back marks name sets) (length-each marks name sets each)

  catalogs-each : (marks : List Mark) (names : List Name) (sets : Named Holding) → EachEntry Q sets → EachEntry Q (catalogs_back marks names sets)
  catalogs-each marks [] sets each = each
  catalogs-each marks (name ∷ names) sets each = catalogs-each marks names (catalog_back marks name sets) (by (present_at marks name))
    where
      by : (found : Option Present) → EachEntry Q (option_map_or (λ (present : Present). with_changed name (with_catalog present.cataloged) sets) found sets)
      by None = each
      by (Some present) = each-with_changed Q name (with_catalog present.cataloged) sets (marks_so present.cataloged) each

  pub back-each : (marks : List Mark) (outputs needed : List Name) (sets : Named Holding) → EachEntry Q sets → EachEntry Q (sets_back marks outputs needed sets)
  back-each marks outputs needed sets each = catalogs-each marks needed (lengths_back marks outputs sets) (lengths-each marks outputs sets each)
