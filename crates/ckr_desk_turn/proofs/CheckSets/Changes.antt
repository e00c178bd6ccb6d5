-- Data sets for checkpoints have records of 256 bytes behind all that a run does to data sets.
use Rattle.std.proofs.Common.{◌≡◌, ℕ, suc, Bool, true, false, ◌||◌, not, List, [], ◌∷◌, Option, Some, None, if◌then◌else◌}
use Rattle.std.specs.Prelude.{◌==◌, nat_le}
use Rattle.std.specs.List.{AllByRecursion, cons_option, list_all}
use Rattle.std.specs.Option.{option_map, option_map_or}
use Rattle.ckr_base.proofs.Bools.{and-first, and-second}
use Rattle.ckr_base.proofs.Numbers.{equal-true}
use Rattle.ckr_entry.specs.declared.point.Mark.{Mark}
use Rattle.ckr_entry.specs.declared.point.Passed.{Passed}
use Rattle.ckr_entry.specs.declared.point.Present.{Present}
use Rattle.ckr_events.specs.declared.event.Made.{Made}
use Rattle.ckr_jcl.specs.declared.deck.After.{After}
use Rattle.ckr_jcl.specs.declared.deck.After.TheVariants.{Delete, Keep, Pass, Catlg, Uncatlg}
use Rattle.ckr_jcl.specs.declared.deck.Dd.{Dd}
use Rattle.ckr_jcl.specs.declared.deck.Role.{Role}
use Rattle.ckr_jcl.specs.declared.deck.Role.TheVariants.{Checkpoints as ChecksOn}
use Rattle.ckr_jcl.specs.declared.deck.Status.{Status}
use Rattle.ckr_jcl.specs.declared.deck.Status.TheVariants.{New, Old, Shr, Mod}
use Rattle.ckr_library.specs.declared.sets.Content.TheVariants.{Checkpoints}
use Rattle.ckr_library.specs.declared.sets.Stamp.{Stamp}
use Rattle.ckr_library.specs.NameMaps.{Name, Named, with_changed, without_entry}
use Rattle.ckr_library.proofs.Named.{each-with_changed, each-with_entry, each-without_entry}
use Rattle.ckr_meaning.specs.Allotments.{AllotmentModel, DdAllotment, content_for, found, is_output, made, opened_all, opened_by, opened_one, refused}
use Rattle.ckr_meaning.specs.Dispositions.{Disposal, Stock, disposed_all, disposed_one, passed_ended, sets_after}
use Rattle.ckr_meaning.specs.EffectiveJob.{OwnedStep, name_of, placed_from, placed_one}
use Rattle.ckr_meaning.specs.LibrarySet.{SetWays}
use Rattle.ckr_points.specs.Marks.{present_at, put_back, put_back_catalogs, put_back_length, put_back_lengths}
use Rattle.ckr_points.specs.Rows.{TableSet, cut_set, table_ways}
use Rattle.ckr_points.specs.Tables.{committed, fresh_table, is_checkpoints, made_table, made_tables, parts_from}
use Rattle.ckr_desk_turn.specs.DeckLimits.{has_check_records}
use Rattle.ckr_desk_turn.specs.CheckSets.{HasCheckRecords, HaveCheckRecords}

-- ---- data sets that are made

made-length : (role : Role) (lrecl : ℕ) → (not (is_checkpoints role) || lrecl == 256) ≡ true → content_for role ≡ Checkpoints → lrecl ≡ 256
made-length ChecksOn lrecl right kind = equal-true lrecl 256 right
made-length _ lrecl right kind = cc

abbrev pub IsRight : DdAllotment → Type 0
IsRight placed = has_check_records placed.dd ≡ true

module _ {X : Type 0} (ways : SetWays X) (standing : Stock X) (root : ℕ) (owned : OwnedStep) where
  pub placed-right : (number : ℕ) (dds : List Dd) → list_all has_check_records dds ≡ true → AllByRecursion IsRight (placed_from ways standing root owned number dds)
  placed-right number [] right = tt
  placed-right number (dd ∷ dds) right =
      by (name_of root owned dd) (and-first (has_check_records dd) _ right) (placed-right (suc number) dds (and-second (has_check_records dd) _ right))
    where
      by : (name : Option Name) → has_check_records dd ≡ true → AllByRecursion IsRight (placed_from ways standing root owned (suc number) dds)
          → AllByRecursion IsRight (cons_option (option_map (placed_one ways standing number dd) name) (placed_from ways standing root owned (suc number) dds))
      by None here rest = rest
      by (Some name) here rest = (here, rest)

made_one-have : (stamp : Stamp) (items : List Made) (placed : DdAllotment) (allotment : AllotmentModel) (sets : Named TableSet) → IsRight placed → HaveCheckRecords sets → HaveCheckRecords (made_table stamp items placed allotment sets)
made_one-have stamp items placed found sets right each = each
made_one-have stamp items placed made sets right each =
    each-with_entry HasCheckRecords placed.name (fresh_table stamp placed (parts_from placed.number items)) sets (made-length placed.dd.role placed.dd.lrecl right) each
made_one-have stamp items placed (refused flaw) sets right each = each

pub made_all-have : (stamp : Stamp) (items : List Made) (all : List DdAllotment) (sets : Named TableSet) → AllByRecursion IsRight all → HaveCheckRecords sets → HaveCheckRecords (made_tables stamp items all sets)
made_all-have stamp items [] sets right each = each
made_all-have stamp items (placed ∷ rest) sets right each = made_all-have stamp items rest _ right.1 (made_one-have stamp items placed placed.allotment sets right.0 each)

-- ---- data sets that are there

opened-has : (stamp : Stamp) (status : Status) (table : TableSet) → HasCheckRecords table → HasCheckRecords (opened_by table_ways stamp status table)
opened-has stamp New table its = its
opened-has stamp Old table its = its
opened-has stamp Shr table its = its
opened-has stamp Mod table its = its

opened_one-have : (stamp : Stamp) (placed : DdAllotment) (allotment : AllotmentModel) (output : Bool) (sets : Named TableSet) → HaveCheckRecords sets → HaveCheckRecords (opened_one table_ways stamp placed allotment output sets)
opened_one-have stamp placed found true sets each =
    each-with_changed HasCheckRecords placed.name (opened_by table_ways stamp placed.dd.disp.status) sets (opened-has stamp placed.dd.disp.status) each
opened_one-have stamp placed found false sets each = each
opened_one-have stamp placed made output sets each = each
opened_one-have stamp placed (refused flaw) output sets each = each

pub opened_all-have : (stamp : Stamp) (all : List DdAllotment) (sets : Named TableSet) → HaveCheckRecords sets → HaveCheckRecords (opened_all table_ways stamp all sets)
opened_all-have stamp [] sets each = each
opened_all-have stamp (placed ∷ rest) sets each = opened_all-have stamp rest _ (opened_one-have stamp placed placed.allotment (is_output placed.dd.role) sets each)

pub committed-have : (names : List Name) (lengths : List ℕ) (sets : Named TableSet) → HaveCheckRecords sets → HaveCheckRecords (committed names lengths sets)
committed-have [] lengths sets each = each
committed-have (name ∷ names) [] sets each = each
committed-have (name ∷ names) (now ∷ lengths) sets each =
    committed-have names lengths (with_changed name (cut_set now) sets) (each-with_changed HasCheckRecords name (cut_set now) sets (λ table its. its) each)

after-have : (after : After) (name : Name) (sets : Named TableSet) → HaveCheckRecords sets → HaveCheckRecords (sets_after table_ways after name sets)
after-have Delete name sets each = each-without_entry HasCheckRecords name sets each
after-have Keep name sets each = each
after-have Pass name sets each = each
after-have Catlg name sets each = each-with_changed HasCheckRecords name (table_ways.marked true) sets (λ table its. its) each
after-have Uncatlg name sets each = each-with_changed HasCheckRecords name (table_ways.marked false) sets (λ table its. its) each

pub disposed_all-have : (disposals : List Disposal) (standing : Stock TableSet) → HaveCheckRecords standing.sets → HaveCheckRecords (disposed_all table_ways disposals standing).sets
disposed_all-have [] standing each = each
disposed_all-have (one ∷ rest) standing each = disposed_all-have rest (disposed_one table_ways one standing) (after-have one.after one.name standing.sets each)

ended-have : (goes : Bool) (name : Name) (sets : Named TableSet) → HaveCheckRecords sets → HaveCheckRecords (if goes then without_entry name sets else sets)
ended-have true name sets each = each-without_entry HasCheckRecords name sets each
ended-have false name sets each = each

pub passed_ended-have : (passed : List Passed) (sets : Named TableSet) → HaveCheckRecords sets → HaveCheckRecords (passed_ended passed sets)
passed_ended-have [] sets each = each
passed_ended-have (one ∷ rest) sets each = passed_ended-have rest _ (ended-have one.made one.name sets each)

-- ---- data sets that are put back

length-has : (most : ℕ) (table : TableSet) → HasCheckRecords table → HasCheckRecords (put_back_length most table)
length-has most table its = elim (nat_le most table.set.length) as (λ b. HasCheckRecords (if b then cut_set most table else table)) [ true ↦ its | false ↦ its ]

lengths-have : (marks : List Mark) (names : List Name) (sets : Named TableSet) → HaveCheckRecords sets → HaveCheckRecords (put_back_lengths marks names sets)
lengths-have marks [] sets each = each
lengths-have marks (name ∷ names) sets each = lengths-have marks names _ (by (present_at marks name))
  where
    by : (present : Option Present) → HaveCheckRecords (option_map_or (λ present. with_changed name (put_back_length present.length) sets) present sets)
    by None = each
    by (Some present) = each-with_changed HasCheckRecords name (put_back_length present.length) sets (length-has present.length) each

catalogs-have : (marks : List Mark) (names : List Name) (sets : Named TableSet) → HaveCheckRecords sets → HaveCheckRecords (put_back_catalogs marks names sets)
catalogs-have marks [] sets each = each
catalogs-have marks (name ∷ names) sets each = catalogs-have marks names _ (by (present_at marks name))
  where
    by : (present : Option Present) → HaveCheckRecords (option_map_or (λ present. with_changed name (table_ways.marked present.cataloged) sets) present sets)
    by None = each
    by (Some present) = each-with_changed HasCheckRecords name (table_ways.marked present.cataloged) sets (λ table its. its) each

pub put_back-have : (marks : List Mark) (outputs needed : List Name) (sets : Named TableSet) → HaveCheckRecords sets → HaveCheckRecords (put_back marks outputs needed sets)
put_back-have marks outputs needed sets each = catalogs-have marks needed (put_back_lengths marks outputs sets) (lengths-have marks outputs sets each)
