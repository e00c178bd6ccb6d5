-- The checkpoint data set of a step, and whether it keeps an identifier.
use Rattle.std.proofs.Common.{◌≡◌, ℕ, ◌+◌, ◌&&◌, ◌==◌, ◌||◌, Bool, true, false, not, cond, find, map, List, [], ◌∷◌, refl, ap, sym, ◌∙◌, Some, None, Option}
use Rattle.std.specs.Option.{is_none, is_some, option_map, option_map_or}
use Rattle.std.specs.List.{list_all, list_any}
use Rattle.std.proofs.lemmas.Bool.{false≢true}
use Rattle.std.proofs.lemmas.Option.{same_Some}
use Rattle.ckr_base.proofs.Bools.{and-false}
use Rattle.ckr_base.proofs.Options.{some-not-none}
use Rattle.ckr_library.specs.declared.sets.DataSet.{DataSet}
use Rattle.ckr_library.specs.declared.sets.Kept.{Kept}
use Rattle.ckr_library.specs.Catalog.{Catalog, kept_in, kept_of, records_of}
use Rattle.ckr_library.specs.NameMaps.{Name, Named, entry_at, same_name}
use Rattle.ckr_library.proofs.Named.{at-viewed}
use Rattle.ckr_meaning.specs.EffectiveJob.{OwnedStep}
use Rattle.ckr_points.specs.Follows.{is_checkpoint, is_length_of}
use Rattle.ckr_points.specs.Rows.{KeptEntry, RunRow, TableSet, TablesModel, holding_of}
use Rattle.ckr_points.specs.Tables.{is_checkpoints, name_with_role}
use Rattle.ckr_points_library.specs.Commit.{is_named, output_names}
use Rattle.ckr_points_tables.specs.Checkpoint.{checkpoint_name}
use Rattle.ckr_points_tables.specs.View.{seen_by}
use Rattle.ckr_points_tables.proofs.Checkpoints.{checkpoint-named, role-named}
use Rattle.ckr_points_follows.specs.Checkpoint.{is_checkpoint_of, is_free_at}

-- an identifier among the entries of a data set
kept-any : (id : Name) (entries : List KeptEntry) → not (list_any (λ (kept : Kept). same_name kept.id id) (map (λ (entry : KeptEntry). entry.kept) entries)) ≡ is_none (find (λ (entry : KeptEntry). same_name entry.kept.id id) entries)
kept-any id [] = refl
kept-any id (entry ∷ entries) = by (same_name entry.kept.id id) (kept-any id entries)
  where
    by : (same : Bool) → not (list_any (λ (kept : Kept). same_name kept.id id) (map (λ (one : KeptEntry). one.kept) entries)) ≡ is_none (find (λ (one : KeptEntry). same_name one.kept.id id) entries)
        → not (same || list_any (λ (kept : Kept). same_name kept.id id) (map (λ (one : KeptEntry). one.kept) entries)) ≡ is_none (cond same (Some entry) (find (λ (one : KeptEntry). same_name one.kept.id id) entries))
    by true rest = refl
    by false rest = rest

module _ (tables : Named TableSet) (name id : Name) (place : ℕ) where
  abbrev free_in : Option TableSet → Bool
  free_in found = option_map_or (λ (table : TableSet). place == table.set.length && is_none (option_map_or (λ (one : TableSet). find (λ entry. same_name entry.kept.id id) one.entries) found None)) found false

  -- a data set that is there
  pub free-there : (set : DataSet) → Some set ≡ option_map (λ (table : TableSet). table.set) (entry_at tables name) → (catalog : Catalog) → catalog.sets ≡ seen_by holding_of tables
      → (entries : List Kept) → entries ≡ kept_of catalog name → (place == set.length && not (list_any (λ (kept : Kept). same_name kept.id id) entries)) ≡ is_free_at tables name id place
  free-there set there catalog seen entries are = by (entry_at tables name) refl there
    where
      by : (found : Option TableSet) → entry_at tables name ≡ found → Some set ≡ option_map (λ (table : TableSet). table.set) found
          → (place == set.length && not (list_any (λ (kept : Kept). same_name kept.id id) entries)) ≡ is_free_at tables name id place
      by None e there = absurd (some-not-none set there)
      by (Some table) e there =
          let kept : entries ≡ map (λ (entry : KeptEntry). entry.kept) table.entries = are ∙ ap (λ sets. kept_in (entry_at sets name)) seen ∙ ap kept_in (at-viewed holding_of tables name ∙ ap (option_map holding_of) e) in
          ap (λ (s : DataSet). place == s.length && not (list_any (λ (one : Kept). same_name one.id id) entries)) (same_Some set table.set there)
          ∙ ap (λ all. place == table.set.length && not (list_any (λ (one : Kept). same_name one.id id) all)) kept
          ∙ ap (λ b. place == table.set.length && b) (kept-any id table.entries)
          ∙ sym (ap free_in e)

  pub free-none : None ≡ option_map (λ (table : TableSet). table.set) (entry_at tables name) → false ≡ is_free_at tables name id place
  free-none none = by (entry_at tables name) refl none
    where
      by : (found : Option TableSet) → entry_at tables name ≡ found → None ≡ option_map (λ (table : TableSet). table.set) found → false ≡ is_free_at tables name id place
      by None e none = sym (ap free_in e)
      by (Some table) e none = absurd (some-not-none table.set (sym none))

-- a checkpoint of a step, by the name of its data set
pub checkpoint-by : (tables : TablesModel) (row : RunRow) (own : OwnedStep) (id : Name) (lengths : List ℕ) (place bytes : ℕ) → list_all is_named (output_names row.job.root own) ≡ true
    → is_checkpoint_of tables.sets row.job.root own id lengths place bytes ≡ is_checkpoint tables id lengths place bytes row own
checkpoint-by tables row own id lengths place bytes named = by (checkpoint_name row.job.root own) refl
  where
    test : Name → Bool
    test name = is_free_at tables.sets name id place && is_length_of name (place + records_of bytes) (output_names row.job.root own) lengths

    by : (found : Option Name) → checkpoint_name row.job.root own ≡ found → is_checkpoint_of tables.sets row.job.root own id lengths place bytes ≡ is_checkpoint tables id lengths place bytes row own
    by (Some name) is =
        ap (λ found. option_map_or (λ n. is_free_at tables.sets n id place && is_length_of n (place + records_of bytes) (output_names row.job.root own) lengths) found false) is
        ∙ ap (λ n. is_free_at tables.sets n id place && is_length_of n (place + records_of bytes) (output_names row.job.root own) lengths) (sym (role-named row.job.root own name is))
    by None is =
        let set = name_with_role row.job.root own is_checkpoints in
        ap (λ found. option_map_or (λ n. is_free_at tables.sets n id place && is_length_of n (place + records_of bytes) (output_names row.job.root own) lengths) found false) is
        ∙ sym (ap (λ b. is_free_at tables.sets set id place && b) (none (is_length_of set (place + records_of bytes) (output_names row.job.root own) lengths) refl) ∙ and-false (is_free_at tables.sets set id place))
      where
        none : (b : Bool) → is_length_of (name_with_role row.job.root own is_checkpoints) (place + records_of bytes) (output_names row.job.root own) lengths ≡ b → b ≡ false
        none false e = refl
        none true e = absurd (false≢true (sym (ap is_some is) ∙ checkpoint-named row.job.root own (place + records_of bytes) lengths e named))
