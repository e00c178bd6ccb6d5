-- The record of a rewrite in place is written behind its event; where that event is the last one, it is written again at opening.
use Rattle.std.specs.Prelude.{◌≡◌, ℕ, if◌then◌else◌, List, [], ◌∷◌, Option, Some, None, slice_get, slice_set}
use Rattle.std.specs.Option.{option_map_or}
use Rattle.ckr_events.specs.declared.event.Event.{Event}
use Rattle.ckr_events.specs.declared.event.Event.TheVariants.{Rewritten}
use Rattle.ckr_desk_memory.specs.Rewrite.{updated_by}
use Rattle.ckr_library.specs.declared.sets.Content.TheVariants.{Plain}
use Rattle.ckr_library.specs.NameMaps.{Name, entry_at, same_name}
use Rattle.ckr_points.specs.Office.{Office, model_records}
use Rattle.ckr_points.specs.Restart.{Decked}
use Rattle.ckr_points.specs.Rows.{TableSet, TablesModel, run_of}
use Rattle.ckr_volumes.specs.declared.layout.Layout.{Layout}
use Rattle.ckr_volumes.specs.Records.{records_on}

-- a record that is written: the data set's name, the place and the bytes
pub record RewriteRecord : Type 0 where
  pub name : Name
  pub place : ℕ
  pub image : List ℕ

abbrev pub rewrite_in : TablesModel → ℕ → ℕ → List ℕ → Option RewriteRecord
rewrite_in tables job place image =
    option_map_or (λ row. option_map_or (λ name. Some (record { name = name; place = place; image = image })) (updated_by row) None) (run_of tables job) None

-- the record that an event tells, by the tables behind it
abbrev pub rewrite_of : TablesModel → Event → Option RewriteRecord
rewrite_of tables (Rewritten job taken writes lengths place image) = rewrite_in tables job place image
rewrite_of tables _ = None

abbrev pub last_event : List Decked → Option Event
last_event [] = None
last_event (decked ∷ []) = Some decked.0
last_event (decked ∷ next ∷ rest) = last_event (next ∷ rest)

abbrev pub any_rewrite : TablesModel → Option Event → Option RewriteRecord
any_rewrite tables None = None
any_rewrite tables (Some event) = rewrite_of tables event

-- the records of a name once that record is written again
abbrev pub again : Option RewriteRecord → Name → List (List ℕ) → List (List ℕ)
again None name records = records
again (Some rewrite) name records = if same_name name rewrite.name then slice_set records rewrite.place rewrite.image else records

-- under each name of the tables the image has the records that the office has for it, once the record of the last event is written again
abbrev pub HasCommittedAgain : Layout → Office → Option Event → List ℕ → Type 0
HasCommittedAgain layout office last image =
    (name : Name) (table : TableSet) → entry_at office.tables.sets name ≡ Some table → table.set.content ≡ Plain
    → again (any_rewrite office.tables last) name (records_on image layout table.set table.set.length) ≡ model_records office name

-- the record that the last event tells is that of the office
abbrev pub HasLast : Office → Option Event → Type 0
HasLast office last =
    (rewrite : RewriteRecord) → any_rewrite office.tables last ≡ Some rewrite → slice_get (model_records office rewrite.name) rewrite.place ≡ Some rewrite.image
