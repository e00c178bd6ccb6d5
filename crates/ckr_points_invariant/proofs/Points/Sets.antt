-- What holds of the entries of each data set goes on to hold through what an event does to data sets: entries are dropped, and none comes.
use Rattle.std.proofs.Common.{ℕ, Bool, true, false, List, [], ◌∷◌, filter, if◌then◌else◌}
use Rattle.ckr_entry.specs.declared.point.Passed.{Passed}
use Rattle.ckr_events.specs.declared.event.Made.{Made}
use Rattle.ckr_jcl.specs.declared.deck.After.{After}
use Rattle.ckr_jcl.specs.declared.deck.After.TheVariants.{Delete, Keep, Pass, Catlg, Uncatlg}
use Rattle.ckr_jcl.specs.declared.deck.Status.{Status}
use Rattle.ckr_jcl.specs.declared.deck.Status.TheVariants.{New, Old, Shr, Mod}
use Rattle.ckr_library.specs.declared.sets.Stamp.{Stamp}
use Rattle.ckr_library.specs.Catalog.{ends_within}
use Rattle.ckr_library.specs.NameMaps.{EachEntry, Name, Named, with_changed, without_entry}
use Rattle.ckr_library.proofs.Named.{each-with_changed, each-with_entry, each-without_entry}
use Rattle.ckr_meaning.specs.Allotments.{AllotmentModel, found, made, refused, DdAllotment, is_output, opened_all, opened_by, opened_one}
use Rattle.ckr_meaning.specs.Dispositions.{Disposal, Stock, disposed_all, disposed_one, passed_ended, sets_after}
use Rattle.ckr_points.specs.Tables.{committed, fresh_table, made_table, made_tables, parts_from, table_rewritten}
use Rattle.ckr_points.specs.Rows.{KeptEntry, TableSet, cut_set, table_ways}

module _ (E : List KeptEntry → Type 0) (none : E []) (fewer : (kept : KeptEntry → Bool) (entries : List KeptEntry) → E entries → E (filter kept entries)) where
  abbrev Holds : TableSet → Type 0
  Holds table = E table.entries

  abbrev pub EachHolds : Named TableSet → Type 0
  EachHolds sets = EachEntry Holds sets

  cut-holds : (most : ℕ) (table : TableSet) → Holds table → Holds (cut_set most table)
  cut-holds most table its = fewer (λ entry. ends_within most entry.kept) table.entries its

  opened-holds : (stamp : Stamp) (status : Status) (table : TableSet) → Holds table → Holds (opened_by table_ways stamp status table)
  opened-holds stamp New table its = its
  opened-holds stamp Old table its = cut-holds 0 table its
  opened-holds stamp Shr table its = its
  opened-holds stamp Mod table its = its

  opened_one-holds : (stamp : Stamp) (placed : DdAllotment) (allotment : AllotmentModel) (output : Bool) (sets : Named TableSet) → EachHolds sets → EachHolds (opened_one table_ways stamp placed allotment output sets)
  opened_one-holds stamp placed found true sets each = each-with_changed Holds placed.name (opened_by table_ways stamp placed.dd.disp.status) sets (opened-holds stamp placed.dd.disp.status) each
  opened_one-holds stamp placed found false sets each = each
  opened_one-holds stamp placed made output sets each = each
  opened_one-holds stamp placed (refused flaw) output sets each = each

  pub opened_all-holds : (stamp : Stamp) (all : List DdAllotment) (sets : Named TableSet) → EachHolds sets → EachHolds (opened_all table_ways stamp all sets)
  opened_all-holds stamp [] sets each = each
  opened_all-holds stamp (placed ∷ rest) sets each = opened_all-holds stamp rest _ (opened_one-holds stamp placed placed.allotment (is_output placed.dd.role) sets each)

  made_one-holds : (stamp : Stamp) (items : List Made) (placed : DdAllotment) (allotment : AllotmentModel) (sets : Named TableSet) → EachHolds sets → EachHolds (made_table stamp items placed allotment sets)
  made_one-holds stamp items placed found sets each = each
  made_one-holds stamp items placed made sets each = each-with_entry Holds placed.name (fresh_table stamp placed (parts_from placed.number items)) sets none each
  made_one-holds stamp items placed (refused flaw) sets each = each

  pub made_all-holds : (stamp : Stamp) (items : List Made) (all : List DdAllotment) (sets : Named TableSet) → EachHolds sets → EachHolds (made_tables stamp items all sets)
  made_all-holds stamp items [] sets each = each
  made_all-holds stamp items (placed ∷ rest) sets each = made_all-holds stamp items rest _ (made_one-holds stamp items placed placed.allotment sets each)

  pub committed-holds : (names : List Name) (lengths : List ℕ) (sets : Named TableSet) → EachHolds sets → EachHolds (committed names lengths sets)
  committed-holds [] lengths sets each = each
  committed-holds (name ∷ names) [] sets each = each
  committed-holds (name ∷ names) (now ∷ lengths) sets each =
      committed-holds names lengths (with_changed name (cut_set now) sets) (each-with_changed Holds name (cut_set now) sets (cut-holds now) each)

  pub rewritten-holds : (name : Name) (owner step : ℕ) (sets : Named TableSet) → EachHolds sets → EachHolds (with_changed name (table_rewritten owner step) sets)
  rewritten-holds name owner step sets each = each-with_changed Holds name (table_rewritten owner step) sets (λ table its. its) each

  after-holds : (after : After) (name : Name) (sets : Named TableSet) → EachHolds sets → EachHolds (sets_after table_ways after name sets)
  after-holds Delete name sets each = each-without_entry Holds name sets each
  after-holds Keep name sets each = each
  after-holds Pass name sets each = each
  after-holds Catlg name sets each = each-with_changed Holds name (table_ways.marked true) sets (λ table its. its) each
  after-holds Uncatlg name sets each = each-with_changed Holds name (table_ways.marked false) sets (λ table its. its) each

  pub disposed_all-holds : (disposals : List Disposal) (standing : Stock TableSet) → EachHolds standing.sets → EachHolds (disposed_all table_ways disposals standing).sets
  disposed_all-holds [] standing each = each
  disposed_all-holds (one ∷ rest) standing each = disposed_all-holds rest (disposed_one table_ways one standing) (after-holds one.after one.name standing.sets each)

  ended-holds : (goes : Bool) (name : Name) (sets : Named TableSet) → EachHolds sets → EachHolds (if goes then without_entry name sets else sets)
  ended-holds true name sets each = each-without_entry Holds name sets each
  ended-holds false name sets each = each

  pub passed_ended-holds : (passed : List Passed) (sets : Named TableSet) → EachHolds sets → EachHolds (passed_ended passed sets)
  passed_ended-holds [] sets each = each
  passed_ended-holds (one ∷ rest) sets each = passed_ended-holds rest _ (ended-holds one.made one.name sets each)
