-- What runs do to data sets adds none but those that a step makes, and counts no rewrite but that of a record.
use Rattle.std.proofs.Common.{◌≡◌, ◌≤◌, ◌+◌, ℕ, suc, Bool, true, false, cond, not, T, List, [], ◌∷◌, ◌++◌, length, refl, ap, ◌∙◌, Option, Some, None, if◌then◌else◌, arith, length-append}
use Rattle.std.specs.Cmp.Lexicographic.{nat_list_cmp_total}
use Rattle.std.specs.FinMap.Entries.{is_sorted, is_sorted-put, is_sorted-where_key, length-put, length_without}
use Rattle.std.specs.Option.{is_some, option_map_or}
use Rattle.ckr_entry.specs.declared.point.Mark.{Mark}
use Rattle.ckr_entry.specs.declared.point.Passed.{Passed}
use Rattle.ckr_entry.specs.declared.point.Present.{Present}
use Rattle.ckr_events.specs.declared.event.Made.{Made}
use Rattle.ckr_jcl.specs.declared.deck.After.{After}
use Rattle.ckr_jcl.specs.declared.deck.After.TheVariants.{Delete, Keep, Pass, Catlg, Uncatlg}
use Rattle.ckr_jcl.specs.declared.deck.Status.{Status}
use Rattle.ckr_jcl.specs.declared.deck.Status.TheVariants.{New, Old, Shr, Mod}
use Rattle.ckr_library.specs.declared.sets.Stamp.{Stamp}
use Rattle.ckr_library.specs.NameMaps.{EachEntry, Name, Named, entry_at, name_cmp, same_name, with_change, with_changed, with_entry, without_entry}
use Rattle.ckr_library.proofs.Named.{each-at, each-with_entry, each-without_entry}
use Rattle.ckr_meaning.specs.Allotments.{AllotmentModel, DdAllotment, found, is_made, is_output, made, opened_all, opened_by, opened_one, refused}
use Rattle.ckr_meaning.specs.Dispositions.{Disposal, Stock, disposed_all, disposed_one, passed_ended, sets_after}
use Rattle.ckr_points.specs.Follows.{made_dds, part_numbers}
use Rattle.ckr_points.specs.Marks.{present_at, put_back, put_back_catalogs, put_back_length, put_back_lengths, removed_all}
use Rattle.ckr_points.specs.Rows.{TableSet, cut_set, table_ways}
use Rattle.ckr_points.specs.Tables.{committed, fresh_table, made_table, made_tables, parts_from}
use Rattle.ckr_desk_refines.specs.Counts.{HasRewrites}

-- the data sets, in the order of their names, are no more than so many, and each has been rewritten no oftener
pub record AreFew (most : ℕ) (sets : Named TableSet) : Type 0 where
  pub ordered : T (is_sorted name_cmp sets)
  pub many : length sets ≤ most
  pub each : EachEntry (HasRewrites most) sets

each-more : (least most : ℕ) (sets : Named TableSet) → least ≤ most → EachEntry (HasRewrites least) sets → EachEntry (HasRewrites most) sets
each-more least most [] le each = tt
each-more least most (entry ∷ rest) le each = (omega (arith, le, each.0), each-more least most rest le each.1)

pub few-more : (least most : ℕ) (sets : Named TableSet) → least ≤ most → AreFew least sets → AreFew most sets
few-more least most sets le few = record { ordered = few.ordered; many = omega (arith, le, few.many); each = each-more least most sets le few.each }

-- ---- one data set

one-more : (there : Bool) (long now most : ℕ) → long ≡ cond there now (now + 1) → now ≤ most → long ≤ suc most
one-more true long now most e le = omega (arith, e, le)
one-more false long now most e le = omega (arith, e, le)

few-with_entry : (most : ℕ) (name : Name) (table : TableSet) (sets : Named TableSet) → HasRewrites most table → AreFew most sets → AreFew (suc most) (with_entry name table sets)
few-with_entry most name table sets one few = record {
  ordered = is_sorted-put name_cmp nat_list_cmp_total name table sets few.ordered;
  many = one-more (is_some (entry_at sets name)) (length (with_entry name table sets)) (length sets) most (length-put name_cmp nat_list_cmp_total name table sets few.ordered) few.many;
  each = each-with_entry (HasRewrites (suc most)) name table sets (omega (arith, one)) (each-more most (suc most) sets (omega arith) few.each);
}

pub few-with_changed : (least most : ℕ) (name : Name) (change : TableSet → TableSet) (sets : Named TableSet) → least ≤ most → ((table : TableSet) → HasRewrites least table → HasRewrites most (change table))
    → AreFew least sets → AreFew most (with_changed name change sets)
few-with_changed least most name change sets le counts few = by (entry_at sets name) refl
  where
    by : (at : Option TableSet) → entry_at sets name ≡ at → AreFew most (with_change name change sets at)
    by None e = few-more least most sets le few
    by (Some table) e = record {
      ordered = is_sorted-put name_cmp nat_list_cmp_total name (change table) sets few.ordered;
      many =
          let long : length (with_entry name (change table) sets) ≡ length sets =
          length-put name_cmp nat_list_cmp_total name (change table) sets few.ordered ∙ ap (λ (at : Option TableSet). cond (is_some at) (length sets) (length sets + 1)) e in
          omega (arith, long, le, few.many);
      each = each-with_entry (HasRewrites most) name (change table) sets (counts table (each-at (HasRewrites least) sets few.each name table e)) (each-more least most sets le few.each);
    }

-- a change that counts no rewrite
few-kept : (most : ℕ) (name : Name) (change : TableSet → TableSet) (sets : Named TableSet) → ((table : TableSet) → HasRewrites most table → HasRewrites most (change table)) → AreFew most sets → AreFew most (with_changed name change sets)
few-kept most name change sets counts few = few-with_changed most most name change sets (omega arith) counts few

few-without_entry : (most : ℕ) (name : Name) (sets : Named TableSet) → AreFew most sets → AreFew most (without_entry name sets)
few-without_entry most name sets few = record {
  ordered = is_sorted-where_key name_cmp (λ other. not (same_name name other)) sets few.ordered;
  many = let long = length_without name_cmp nat_list_cmp_total name sets few.ordered in omega (arith, long, few.many);
  each = each-without_entry (HasRewrites most) name sets few.each;
}

-- ---- data sets that are made

-- a DD that a step makes has a part
parts-some : (dd : ℕ) (serials : List Name) → 1 ≤ length (part_numbers dd serials)
parts-some dd [] = omega arith
parts-some dd (serial ∷ []) = omega arith
parts-some dd (serial ∷ next ∷ rest) = omega (arith, parts-some dd (next ∷ rest))

abbrev parts_of : AllotmentModel → DdAllotment → List ℕ
parts_of allotment placed = if is_made allotment then part_numbers placed.number placed.dd.volumes.items else []

few-made : (most : ℕ) (stamp : Stamp) (items : List Made) (placed : DdAllotment) (allotment : AllotmentModel) (sets : Named TableSet) → stamp.rewrites ≤ most → AreFew most sets
    → AreFew (most + length (parts_of allotment placed)) (made_table stamp items placed allotment sets)
few-made most stamp items placed found sets fresh few = few-more most (most + 0) sets (omega arith) few
few-made most stamp items placed made sets fresh few =
    few-more (suc most) (most + length (part_numbers placed.number placed.dd.volumes.items)) _ (omega (arith, parts-some placed.number placed.dd.volumes.items))
    (few-with_entry most placed.name (fresh_table stamp placed (parts_from placed.number items)) sets fresh few)
few-made most stamp items placed (refused flaw) sets fresh few = few-more most (most + 0) sets (omega arith) few

pub few-made_all : (most : ℕ) (stamp : Stamp) (items : List Made) (all : List DdAllotment) (sets : Named TableSet) → stamp.rewrites ≤ most → AreFew most sets → AreFew (most + length (made_dds all)) (made_tables stamp items all sets)
few-made_all most stamp items [] sets fresh few = few-more most (most + 0) sets (omega arith) few
few-made_all most stamp items (placed ∷ rest) sets fresh few =
    let parts : List ℕ = parts_of placed.allotment placed in
    few-more (most + length parts + length (made_dds rest)) (most + length (parts ++ made_dds rest)) _ (omega (arith, length-append parts (made_dds rest)))
    (few-made_all (most + length parts) stamp items rest (made_table stamp items placed placed.allotment sets) (omega (arith, fresh)) (few-made most stamp items placed placed.allotment sets fresh few))

-- ---- data sets that are there

opened-has : (most : ℕ) (stamp : Stamp) (status : Status) (table : TableSet) → stamp.rewrites ≤ most → HasRewrites most (opened_by table_ways stamp status table)
opened-has most stamp New table fresh = fresh
opened-has most stamp Old table fresh = fresh
opened-has most stamp Shr table fresh = fresh
opened-has most stamp Mod table fresh = fresh

few-opened : (most : ℕ) (stamp : Stamp) (placed : DdAllotment) (allotment : AllotmentModel) (output : Bool) (sets : Named TableSet) → stamp.rewrites ≤ most → AreFew most sets → AreFew most (opened_one table_ways stamp placed allotment output sets)
few-opened most stamp placed found true sets fresh few =
    few-kept most placed.name (opened_by table_ways stamp placed.dd.disp.status) sets (λ table its. opened-has most stamp placed.dd.disp.status table fresh) few
few-opened most stamp placed found false sets fresh few = few
few-opened most stamp placed made output sets fresh few = few
few-opened most stamp placed (refused flaw) output sets fresh few = few

pub few-opened_all : (most : ℕ) (stamp : Stamp) (all : List DdAllotment) (sets : Named TableSet) → stamp.rewrites ≤ most → AreFew most sets → AreFew most (opened_all table_ways stamp all sets)
few-opened_all most stamp [] sets fresh few = few
few-opened_all most stamp (placed ∷ rest) sets fresh few = few-opened_all most stamp rest _ fresh (few-opened most stamp placed placed.allotment (is_output placed.dd.role) sets fresh few)

pub few-committed : (most : ℕ) (names : List Name) (lengths : List ℕ) (sets : Named TableSet) → AreFew most sets → AreFew most (committed names lengths sets)
few-committed most [] lengths sets few = few
few-committed most (name ∷ names) [] sets few = few
few-committed most (name ∷ names) (now ∷ lengths) sets few =
    few-committed most names lengths (with_changed name (cut_set now) sets) (few-kept most name (cut_set now) sets (λ table its. its) few)

few-after : (most : ℕ) (after : After) (name : Name) (sets : Named TableSet) → AreFew most sets → AreFew most (sets_after table_ways after name sets)
few-after most Delete name sets few = few-without_entry most name sets few
few-after most Keep name sets few = few
few-after most Pass name sets few = few
few-after most Catlg name sets few = few-kept most name (table_ways.marked true) sets (λ table its. its) few
few-after most Uncatlg name sets few = few-kept most name (table_ways.marked false) sets (λ table its. its) few

pub few-disposed_all : (most : ℕ) (disposals : List Disposal) (standing : Stock TableSet) → AreFew most standing.sets → AreFew most (disposed_all table_ways disposals standing).sets
few-disposed_all most [] standing few = few
few-disposed_all most (one ∷ rest) standing few = few-disposed_all most rest (disposed_one table_ways one standing) (few-after most one.after one.name standing.sets few)

few-ended : (most : ℕ) (goes : Bool) (name : Name) (sets : Named TableSet) → AreFew most sets → AreFew most (if goes then without_entry name sets else sets)
few-ended most true name sets few = few-without_entry most name sets few
few-ended most false name sets few = few

pub few-passed_ended : (most : ℕ) (passed : List Passed) (sets : Named TableSet) → AreFew most sets → AreFew most (passed_ended passed sets)
few-passed_ended most [] sets few = few
few-passed_ended most (one ∷ rest) sets few = few-passed_ended most rest _ (few-ended most one.made one.name sets few)

-- ---- data sets that are put back

few-removed : (most : ℕ) (names : List Name) (sets : Named TableSet) → AreFew most sets → AreFew most (removed_all names sets)
few-removed most [] sets few = few
few-removed most (name ∷ names) sets few = few-removed most names (without_entry name sets) (few-without_entry most name sets few)

cut-has : (most long : ℕ) (shorter : Bool) (table : TableSet) → HasRewrites most table → HasRewrites most (if shorter then cut_set long table else table)
cut-has most long true table its = its
cut-has most long false table its = its

few-marked : (most : ℕ) (change : Present → TableSet → TableSet) (name : Name) (present : Option Present) (sets : Named TableSet) → ((one : Present) (table : TableSet) → HasRewrites most table → HasRewrites most (change one table))
    → AreFew most sets → AreFew most (option_map_or (λ present. with_changed name (change present) sets) present sets)
few-marked most change name None sets counts few = few
few-marked most change name (Some present) sets counts few = few-kept most name (change present) sets (counts present) few

few-put_lengths : (most : ℕ) (marks : List Mark) (names : List Name) (sets : Named TableSet) → AreFew most sets → AreFew most (put_back_lengths marks names sets)
few-put_lengths most marks [] sets few = few
few-put_lengths most marks (name ∷ names) sets few =
    few-put_lengths most marks names _ (few-marked most (λ present. put_back_length present.length) name (present_at marks name) sets (λ present table its. cut-has most present.length _ table its) few)

few-put_catalogs : (most : ℕ) (marks : List Mark) (names : List Name) (sets : Named TableSet) → AreFew most sets → AreFew most (put_back_catalogs marks names sets)
few-put_catalogs most marks [] sets few = few
few-put_catalogs most marks (name ∷ names) sets few =
    few-put_catalogs most marks names _ (few-marked most (λ present. table_ways.marked present.cataloged) name (present_at marks name) sets (λ present table its. its) few)

pub few-put_back : (most : ℕ) (marks : List Mark) (outputs needed removed : List Name) (sets : Named TableSet) → AreFew most sets → AreFew most (put_back marks outputs needed (removed_all removed sets))
few-put_back most marks outputs needed removed sets few =
    few-put_catalogs most marks needed _ (few-put_lengths most marks outputs _ (few-removed most removed sets few))
