-- The lines of the data sets and of the jobs.
use Rattle.std.specs.Prelude.{ℕ, List, [], ◌∷◌}
use Rattle.std.specs.List.{flat_map}
use Rattle.ckr_library.specs.NameMaps.{Name}
use Rattle.ckr_library.specs.declared.sets.DataSet.{DataSet}
use Rattle.ckr_report.specs.Listings.{empty_library_text, job_line, no_jobs_text, set_text}
use Rattle.ckr_desk.specs.Model.Layout.{Layout}
use Rattle.ckr_desk.specs.Model.Run.{Run}

abbrev pub sets_text : Layout → List (Name × DataSet) → List ℕ
sets_text layout [] = empty_library_text
sets_text layout (line ∷ sets) = flat_map (set_text layout) (line ∷ sets)

abbrev pub jobs_text : List Run → List ℕ
jobs_text [] = no_jobs_text
jobs_text (run ∷ runs) = flat_map job_line (run ∷ runs)
