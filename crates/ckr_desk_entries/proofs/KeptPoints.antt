-- What is compared of an entry with what the tables keep of it.
use Rattle.std.proofs.Common.{◌≡◌, ◌&&◌, Bool, false, IsTrue, [], ◌∷◌, None, refl, ap, sym, ◌∙◌}
use Rattle.std.proofs.lemmas.Bool.{false≢true}
use Rattle.ckr_base.specs.Grammar.{is_name8}
use Rattle.ckr_base.proofs.Bools.{and-false}
use Rattle.ckr_entry.specs.Parts.{Entry}
use Rattle.ckr_library.specs.NameMaps.{Name, same_name}
use Rattle.ckr_library.specs.declared.sets.Kept.{Kept}
use Rattle.ckr_points.specs.Rows.{EntryPoint}
use Rattle.ckr_points.specs.Tables.{kept_entry}
use Rattle.ckr_points_tables.specs.Restart.{point_written}
use Rattle.ckr_desk_entries.specs.KeptPoint.{is_as_kept, same_counts, same_lists, same_step}

no-name : (job : Name) → IsTrue (is_name8 job) → same_name job [] ≡ false
no-name [] named = absurd (false≢true named)
no-name (first ∷ rest) named = refl

-- no entry tells the point of one of which none is kept: it has the name of a job
pub unwritten-apart : (kept : Kept) (entry : Entry) → IsTrue (is_name8 entry.job) → false ≡ is_as_kept (kept_entry kept (point_written None)) entry
unwritten-apart kept entry named =
    let none : EntryPoint = point_written None in
    sym
    (ap (λ (b : Bool). same_name entry.id kept.id && (b && same_step none entry && same_counts none entry && same_lists none entry)) (no-name entry.job named)
    ∙ and-false (same_name entry.id kept.id))
