-- An entry, by the mark that it stands behind and by its identifier.
use Rattle.std.proofs.Common.{◌≡◌, ◌≤◌, ◌+◌, ℕ, true, false, not, List, refl, ap, sym, ◌∙◌, Option, Some, None, arith}
use Rattle.std.specs.Prelude.{nat_le}
use Rattle.std.specs.List.{find}
use Rattle.std.specs.Option.{option_map_or}
use Rattle.std.proofs.lemmas.Bool.{false≢true}
use Rattle.std.proofs.lemmas.Bool.Decides.{nat_tests}
use Rattle.ckr_base.proofs.Bools.{or-cases}
use Rattle.ckr_base.proofs.Numbers.{nat_le-from}
use Rattle.ckr_base.proofs.Options.{some-not-none}
use Rattle.ckr_base.proofs.Sequences.{find-holds, find-passes}
use Rattle.ckr_entry.specs.declared.point.Mark.{Mark}
use Rattle.ckr_entry.specs.declared.point.Present.{Present}
use Rattle.ckr_library.proofs.Named.{name-same}
use Rattle.ckr_library.specs.Catalog.{ends_within, records_of}
use Rattle.ckr_library.specs.NameMaps.{Name, entry_at, same_name}
use Rattle.ckr_points.specs.Marks.{is_marked_absent, present_at}
use Rattle.ckr_points.specs.Office.{Office}
use Rattle.ckr_points.specs.Restart.{kept_at}
use Rattle.ckr_points.specs.Rows.{KeptEntry, TableSet}
use Rattle.ckr_points_invariant.specs.Readiness.{KeepsEntry}
use Rattle.ckr_points_invariant.specs.WrittenEntries.{AreWrittenEntries, HasWrittenEntries, IsWrittenEntry, is_behind_mark, is_no_shorter}
use Rattle.ckr_points_invariant.proofs.WrittenEntries.Entries.{all-each}
use Rattle.ckr_points_invariant.proofs.WrittenEntries.Restarts.{present-there}

-- an entry ends behind one length, and within another one
longer-within : (end one other : ℕ) → not (nat_le end one) ≡ true → nat_le end other ≡ true → one ≤ other
longer-within end one other beyond within = grind (arith, nat_tests, beyond, within)

module _ (marks : List Mark) (set : Name) (entry : KeptEntry) (behind : is_behind_mark marks set entry.kept ≡ true) where
  -- an entry ends behind the mark that it stands behind
  ends-behind : (present : Present) → present_at marks set ≡ Some present → not (ends_within present.length entry.kept) ≡ true
  ends-behind present marked =
      or-cases (is_marked_absent marks set) _ behind
      (λ absent. absurd (false≢true (sym (present-there marks set present marked) ∙ absent)))
      (λ beyond. sym (ap (λ (o : Option Present). option_map_or (λ (present : Present). not (ends_within present.length entry.kept)) o false) marked) ∙ beyond)

  -- so that is no longer than what the entry ends within
  pub within-longer : (present : Present) (length : ℕ) → present_at marks set ≡ Some present → ends_within length entry.kept ≡ true → present.length ≤ length
  within-longer present length marked within = longer-within (entry.kept.place + records_of entry.kept.bytes) present.length length (ends-behind present marked) within

  -- and no longer than the entry's own mark
  pub own-longer : ((present : Present) → present_at entry.point.marks set ≡ Some present → ends_within present.length entry.kept ≡ true) → is_no_shorter marks entry.point.marks set ≡ true
  own-longer back = by (present_at marks set) (present_at entry.point.marks set) refl refl
    where
      by : (first later : Option Present) → present_at marks set ≡ first → present_at entry.point.marks set ≡ later → option_map_or (λ (present : Present). option_map_or (λ (other : Present). nat_le present.length other.length) later true) first true ≡ true
      by None later e own = refl
      by (Some present) None e own = refl
      by (Some present) (Some other) e own = nat_le-from present.length other.length (within-longer present other.length e (back other own))

-- the data set that keeps an entry by its identifier, where entries are written so
pub kept-so : (now : Office) (set id : Name) (entry : KeptEntry) → AreWrittenEntries now → kept_at now.tables.sets set id ≡ Some entry → KeepsEntry now.tables.sets set entry.kept.id entry × IsWrittenEntry now set entry
kept-so now set id entry written found = by (entry_at now.tables.sets set) refl found
  where
    by : (o : Option TableSet) → entry_at now.tables.sets set ≡ o → option_map_or (λ (table : TableSet). find (λ (one : KeptEntry). same_name one.kept.id id) table.entries) o None ≡ Some entry
        → KeepsEntry now.tables.sets set entry.kept.id entry × IsWrittenEntry now set entry
    by None e is = absurd (some-not-none entry (sym is))
    by (Some table) e is =
        let its : HasWrittenEntries now set table = written.sets set table e in
        let id_is : entry.kept.id ≡ id = name-same entry.kept.id id (find-passes (λ (one : KeptEntry). same_name one.kept.id id) table.entries entry is) in (
          record {
            table = table;
            at = e;
            found = ap (λ name. find (λ (one : KeptEntry). same_name one.kept.id name) table.entries) id_is ∙ is;
            ends =
                find-holds (λ (one : KeptEntry). ends_within table.set.length one.kept ≡ true) (λ (one : KeptEntry). same_name one.kept.id id) table.entries entry
                (all-each (λ (one : KeptEntry). ends_within table.set.length one.kept) table.entries its.ends) is;
          },
          find-holds (IsWrittenEntry now set) (λ (one : KeptEntry). same_name one.kept.id id) table.entries entry its.written is,
        )
