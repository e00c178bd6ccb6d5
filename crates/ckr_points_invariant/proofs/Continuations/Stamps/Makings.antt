-- Data sets of the tables that are as the ended jobs left them are made as an earlier run's job made them, where they have the same stamp.
use Rattle.std.proofs.Common.{◌≡◌, refl, ap, sym, ◌∙◌, Option, Some, None}
use Rattle.std.specs.Option.{option_map}
use Rattle.std.proofs.lemmas.Option.{same_Some}
use Rattle.ckr_base.proofs.Options.{some-not-none}
use Rattle.ckr_library.specs.NameMaps.{Name, Named, entry_at}
use Rattle.ckr_meaning.specs.LibrarySet.{Library, LibrarySet}
use Rattle.ckr_points.specs.Office.{Office}
use Rattle.ckr_points.specs.Rows.{TableSet}
use Rattle.ckr_points_invariant.specs.Invariant.{AreAlike, AreBegun, Shape, set_shape, table_shape}
use Rattle.ckr_points_invariant.proofs.Continuations.Freshness.{AreMadeAlike, DeterminesMaking}
use Rattle.ckr_points_invariant.proofs.Stamps.Sameness.{MatchesUpTo, begun-match}

module _ (office : Office) (sets : Named TableSet) (library was : Library) (name : Name) (alike : AreAlike sets library name) (first : AreBegun office library) (second : AreBegun office was) where
  pub stamps-determine : DeterminesMaking sets was name
  stamps-determine table set at_table at_set stamp = by (entry_at library name) refl
    where
      by : (entry : Option LibrarySet) → entry_at library name ≡ entry → AreMadeAlike table set
      by None none = absurd (some-not-none (table_shape table) (ap (option_map table_shape) (sym at_table) ∙ alike ∙ ap (option_map set_shape) none))
      by (Some left) found =
          let shape : table_shape table ≡ set_shape left = same_Some (table_shape table) (set_shape left) (ap (option_map table_shape) (sym at_table) ∙ alike ∙ ap (option_map set_shape) found) in
          let same : MatchesUpTo left set = begun-match office name left set (first name left found) (second name set at_set) (ap (λ (shape : Shape). shape.stamp) (sym shape) ∙ stamp) in
          record {
            content = ap (λ (shape : Shape). shape.content) shape ∙ same.content;
            lrecl = ap (λ (shape : Shape). shape.lrecl) shape ∙ same.lrecl;
            space = ap (λ (shape : Shape). shape.space) shape ∙ same.space;
          }
