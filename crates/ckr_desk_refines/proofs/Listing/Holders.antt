-- Whether a run holds a name, by the lines of the runs.
use Rattle.std.proofs.Common.{◌≡◌, ◌||◌, ℕ, zero, suc, Bool, false, List, [], ◌∷◌, map, slice_get, refl, ap, sym, ◌∙◌, subst, Option, Some, None}
use Rattle.std.specs.List.{list_any}
use Rattle.std.specs.Option.{option_map, option_map_or}
use Rattle.std.proofs.lemmas.Option.{same_Some}
use Rattle.ckr_base.proofs.Options.{some-not-none}
use Rattle.ckr_library.specs.NameMaps.{Name}
use Rattle.ckr_points.specs.Rows.{RunRow, TablesModel, run_of}
use Rattle.ckr_desk_memory.specs.Model.RunTable.{RunTable}
use Rattle.ckr_desk_memory.specs.Model.RunRows.{IsRunRow}
use Rattle.ckr_desk_memory.specs.Model.View.{RunTableView, facts_in, facts_of, job_in, line_of}
use Rattle.ckr_desk_memory.specs.Model.RunJobs.{IsFitting, effective}
use Rattle.ckr_desk_refines.specs.Holders.{is_held_by, is_held_in}
use Rattle.ckr_desk_refines.specs.Listing.{is_held}

-- ---- the run of a line

-- the row of a run's table: the deck and the job are the same, and the job is within the limits
pub record IsRowOf (tables : TablesModel) (number : ℕ) (table : RunTable) : Type 0 where
  pub row : RunRow
  pub at : run_of tables number ≡ Some row
  pub deck : row.deck ≡ table.job.deck
  pub job : row.job ≡ effective number table.job
  pub fits : IsFitting (effective number table.job)

pub row-there : (tables : TablesModel) → ((number : ℕ) (row : RunRow) → run_of tables number ≡ Some row → IsRunRow number row)
    → (number : ℕ) (table : RunTable) → Some (facts_of table) ≡ option_map facts_in (run_of tables number) → IsRowOf tables number table
row-there tables rows number table seen = by (run_of tables number) refl
  where
    by : (found : Option RunRow) → run_of tables number ≡ found → IsRowOf tables number table
    by None at = absurd (some-not-none (facts_of table) (seen ∙ ap (option_map facts_in) at))
    by (Some row) at =
        let its : IsRunRow number row = rows number row at in
        let facts : facts_of table ≡ facts_in row = same_Some (facts_of table) (facts_in row) (seen ∙ ap (option_map facts_in) at) in
        let same : row.job ≡ effective number table.job =
        ap (λ (r : RunRow). r.job) its.told ∙ ap (λ n. effective n (job_in row)) its.numbered ∙ ap (λ (f : RunTableView). effective number f.job) (sym facts) in
        record { row = row; at = at; deck = ap (λ (f : RunTableView). f.job.deck) (sym facts); job = same; fits = subst IsFitting same its.fits }

-- ---- all lines

any-mapped : {A B : Type 0} (view : A → B) (test : B → Bool) (other : A → Bool) (items : List A)
    → ((place : ℕ) (item : A) → slice_get items place ≡ Some item → test (view item) ≡ other item) → list_any test (map view items) ≡ list_any other items
any-mapped view test other [] same = refl
any-mapped view test other (item ∷ items) same =
    ap (λ b. b || list_any test (map view items)) (same zero item refl)
    ∙ ap (λ b. other item || b) (any-mapped view test other items (λ place next there. same (suc place) next there))

-- by the lines of the runs
pub held-so : (tables : TablesModel) → ((number : ℕ) (row : RunRow) → run_of tables number ≡ Some row → IsRunRow number row)
    → (name : Name) → list_any (is_held_in tables name) (map line_of tables.runs) ≡ is_held tables name
held-so tables known name = any-mapped line_of (is_held_in tables name) (is_held_by name) tables.runs each
  where
    each : (place : ℕ) (row : RunRow) → slice_get tables.runs place ≡ Some row → is_held_in tables name (line_of row) ≡ is_held_by name row
    each place row there =
        let is : IsRunRow (suc place) row = known (suc place) row there in
        ap (λ (o : Option RunRow). option_map_or (λ (found : RunRow). is_held_by name (record found { state = row.state })) o false) (ap (run_of tables) is.numbered ∙ there)
