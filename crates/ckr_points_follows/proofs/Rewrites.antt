-- The data set that a step updates.
use Rattle.std.proofs.Common.{◌≡◌, ℕ, ◌&&◌, ◌==◌, ◌||◌, Bool, true, false, not, nat_lt, length, List, [], refl, sym, ◌∙◌, Some, None, Option}
use Rattle.std.specs.Option.{option_and_then, option_map_or}
use Rattle.std.proofs.lemmas.Bool.{false≢true}
use Rattle.ckr_base.proofs.Options.{some-not-none}
use Rattle.ckr_uses.specs.SetNames.{origin_name, run_name}
use Rattle.ckr_jcl.specs.declared.deck.Dd.{Dd}
use Rattle.ckr_jcl.specs.declared.deck.Origin.{Origin}
use Rattle.ckr_jcl.specs.declared.deck.Origin.TheVariants.{InStream, Named as NamedOrigin, Temporary, Unnamed, Sysout, Dummy}
use Rattle.ckr_library.specs.NameMaps.{Name, entry_at}
use Rattle.ckr_meaning.specs.EffectiveJob.{OwnedStep, name_of}
use Rattle.ckr_points.specs.Tables.{is_updates, name_with_role}
use Rattle.ckr_points.specs.Follows.{is_rewrite, is_update}
use Rattle.ckr_points.specs.Rows.{RunRow, TableSet, TablesModel}
use Rattle.ckr_points_tables.specs.Rewrite.{has_master, has_set, master_dd, master_name}
use Rattle.ckr_points_follows.specs.Rewrite.{is_place_of, is_rewrite_of}

-- a DD of such an origin has a name
origin-named : (origin : Origin) (root owner step name : Name) → has_set origin ≡ true → (one : Name) × (origin_name origin root owner step name ≡ Some one)
origin-named (InStream cards) root owner step name e = absurd (false≢true e)
origin-named (NamedOrigin text) root owner step name e = (_, refl)
origin-named (Temporary text) root owner step name e = (_, refl)
origin-named Unnamed root owner step name e = (_, refl)
origin-named Sysout root owner step name e = (_, refl)
origin-named Dummy root owner step name e = absurd (false≢true e)

-- the rewrite of a record, by the name of the data set
pub rewrite-by : (tables : TablesModel) (row : RunRow) (own : OwnedStep) (place : ℕ) (image : List ℕ) → has_master own.step ≡ true → is_rewrite_of tables.sets row.job.root own place image ≡ is_rewrite tables place image row own
rewrite-by tables row own place image has = by (is_update own.step.program) has
  where
    root : ℕ
    root = row.job.root

    named : (dd : Dd) (name : Option Name) → name_of row.job.root own dd ≡ name → has_set dd.origin ≡ true
        → option_map_or (λ n. is_place_of tables.sets n place image) name false
        ≡ option_map_or (λ (table : TableSet). nat_lt place table.set.length && length image == table.set.lrecl) (entry_at tables.sets (option_map_or (λ n. n) name [])) false
    named dd (Some name) is has = refl
    named dd None is has =
        let there = origin-named dd.origin (run_name row.job.root) (run_name own.owner) own.step.name dd.name has in
        absurd (some-not-none _ (sym there.1 ∙ is))

    found : (dd : Option Dd) → option_map_or (λ (one : Dd). has_set one.origin) dd false ≡ true
        → option_map_or (λ n. is_place_of tables.sets n place image) (option_and_then (name_of row.job.root own) dd) false
        ≡ option_map_or (λ (table : TableSet). nat_lt place table.set.length && length image == table.set.lrecl) (entry_at tables.sets (option_map_or (λ (one : Dd). option_map_or (λ n. n) (name_of row.job.root own one) []) dd [])) false
    found None has = absurd (false≢true has)
    found (Some dd) has = named dd (name_of row.job.root own dd) refl has

    by : (updates : Bool) → (not updates || option_map_or (λ (dd : Dd). has_set dd.origin) (master_dd own.step) false) ≡ true
        → (updates && option_map_or (λ n. is_place_of tables.sets n place image) (master_name row.job.root own) false)
        ≡ (updates && option_map_or (λ (table : TableSet). nat_lt place table.set.length && length image == table.set.lrecl) (entry_at tables.sets (name_with_role row.job.root own is_updates)) false)
    by false has = refl
    by true has = found (master_dd own.step) has
