-- A record that is written in place, and an image of a stop meanwhile.
use Rattle.std.proofs.Common.{◌≡◌, ◌≢◌, ◌≤◌, ◌<◌, ◌+◌, ℕ, List, length, IsTrue, inr, sym, ap, subst, ◌∙◌, ⊎_elim, arith, Some, None}
use Rattle.std.specs.Option.{option_map}
use Rattle.std.proofs.lemmas.Option.{same_Some}
use Rattle.ckr_base.proofs.Options.{some-not-none}
use Rattle.arrayvec.specs.ArrayVec.{ArrayVec}
use Rattle.ckr_events.specs.declared.event.Event.{Event}
use Rattle.ckr_events.specs.declared.event.Event.TheVariants.{Rewritten}
use Rattle.ckr_desk_refines.specs.Memory.Rewrite.{HasPlaceFor, HasRecordPlace, updated_by}
use Rattle.ckr_library.specs.declared.sets.DataSet.{DataSet}
use Rattle.ckr_library.specs.Catalog.{Catalog, Holding, set_of}
use Rattle.ckr_library.specs.NameMaps.{Name, Named, entry_at}
use Rattle.ckr_library.proofs.Named.{at-viewed}
use Rattle.ckr_outside.specs.Disk.{EachSince, Only, SameOutside, StemsFrom}
use Rattle.ckr_outside.specs.Moments.{and_then, at_the_end, both_since, in_other_words}
use Rattle.ckr_outside.specs.Ranges.{part_before, part_behind}
use Rattle.ckr_points.specs.Rows.{RunRow, TableSet, TablesModel, holding_of, run_of}
use Rattle.ckr_desk_refines.specs.Moves.{DiffersAt, IsWritten}
use Rattle.ckr_desk_refines.specs.Tables.View.{seen_by}
use Rattle.ckr_volumes.specs.declared.layout.Layout.{Layout}
use Rattle.ckr_volumes.specs.Addresses.{addresses_apart, addresses_of_two_apart}
use Rattle.ckr_volumes.specs.Lists.{same_records}
use Rattle.ckr_volumes.specs.Places.{address_of}
use Rattle.ckr_volumes.specs.Records.{record_at, records_on}
use Rattle.ckr_volumes.specs.Layouts.{StandsIn, is_laid_out, lie_apart}
use Rattle.ckr_desk.specs.State.{DeskView}
use Rattle.ckr_desk.specs.Rewrite.{IsLackingBy, IsWrittenBy, LackAtMost, LacksAtMost, OpensSame}

module _ (layout : Layout) (laid : IsTrue (is_laid_out layout)) (set : DataSet) (stands : StandsIn layout set) (place : ℕ) (within : place < set.space)
    (old new : List ℕ) (same : SameOutside (address_of layout set place) set.lrecl old new) where
  at-another : (at : ℕ) → at < set.space → at ≢ place → record_at new layout set at ≡ record_at old layout set at
  at-another at less differ =
      ⊎_elim
      (λ (behind : address_of layout set place + set.lrecl ≤ address_of layout set at). part_behind (address_of layout set at) set.lrecl (address_of layout set place) set.lrecl old new behind same)
      (λ (before : address_of layout set at + set.lrecl ≤ address_of layout set place). part_before (address_of layout set at) set.lrecl (address_of layout set place) set.lrecl old new before same)
      (addresses_apart layout laid set stands place at within less (λ is. differ (sym is)))

  of-another : (other : DataSet) → StandsIn layout other → IsTrue (lie_apart set other) → (n : ℕ) → n ≤ other.space → records_on new layout other n ≡ records_on old layout other n
  of-another other there apart n fits =
      same_records old new layout other n
      (λ at less.
      ⊎_elim
      (λ (behind : address_of layout set place + set.lrecl ≤ address_of layout other at). part_behind (address_of layout other at) other.lrecl (address_of layout set place) set.lrecl old new behind same)
      (λ (before : address_of layout other at + other.lrecl ≤ address_of layout set place). part_before (address_of layout other at) other.lrecl (address_of layout set place) set.lrecl old new before same)
      (addresses_of_two_apart layout laid set other stands there apart place at within (omega (arith, less, fits))))

  pub differs-so : DiffersAt layout set place old new
  differs-so = record { records = at-another; others = of-another }

-- the data set of a name in the library is that of the tables
pub set-so : (catalog : Catalog) (sets : Named TableSet) (name : Name) (found : DataSet) (table : TableSet) → catalog.sets ≡ seen_by holding_of sets
    → set_of catalog name ≡ Some found → entry_at sets name ≡ Some table → found ≡ table.set
set-so catalog sets name found table seen is at =
    same_Some found table.set
    (sym is
    ∙ ap (λ all. option_map (λ (held : Holding). held.set) (entry_at all name)) seen
    ∙ ap (option_map (λ (held : Holding). held.set)) (at-viewed holding_of sets name ∙ ap (option_map holding_of) at))

-- ---- by the event

-- the record of a rewrite has its place where that of its event has one
rewrite-place : (tables : TablesModel) (job taken writes place : ℕ) (lengths : ArrayVec ℕ) (image : List ℕ) (event : Event) → event ≡ Rewritten job taken writes lengths place image → HasRecordPlace event tables → HasPlaceFor tables job place image
rewrite-place tables job taken writes place lengths image event is has = subst (λ e. HasRecordPlace e tables) is has

-- so its step updates something
pub updated-some : (tables : TablesModel) (job taken writes place : ℕ) (lengths : ArrayVec ℕ) (image : List ℕ) (event : Event) → event ≡ Rewritten job taken writes lengths place image → HasRecordPlace event tables
    → ((row : RunRow) → run_of tables job ≡ Some row → None ≡ updated_by row) → ⊥
updated-some tables job taken writes place lengths image event is has none =
    let its = rewrite-place tables job taken writes place lengths image event is has in
    some-not-none its.name (sym its.updates ∙ sym (none its.row its.found))

-- and the library has it
pub set-some : (tables : TablesModel) (job taken writes place : ℕ) (lengths : ArrayVec ℕ) (image : List ℕ) (event : Event) → event ≡ Rewritten job taken writes lengths place image → HasRecordPlace event tables
    → (name : Name) → ((row : RunRow) → run_of tables job ≡ Some row → updated_by row ≡ Some name) → (catalog : Catalog) → catalog.sets ≡ seen_by holding_of tables.sets → set_of catalog name ≡ None → ⊥
set-some tables job taken writes place lengths image event is has name updated catalog seen none =
    let its = rewrite-place tables job taken writes place lengths image event is has in
    let same : name ≡ its.name = same_Some name its.name (sym (updated its.row its.found) ∙ its.updates) in
    some-not-none its.table.set
    (sym
    (sym none
    ∙ ap (λ all. option_map (λ (held : Holding). held.set) (entry_at all name)) seen
    ∙ ap (option_map (λ (held : Holding). held.set)) (at-viewed holding_of tables.sets name ∙ ap (option_map holding_of) (ap (entry_at tables.sets) same ∙ its.there))))

module _ (layout : Layout) (tables : TablesModel) (job taken writes place : ℕ) (lengths : ArrayVec ℕ) (image : List ℕ) (event : Event) (is : event ≡ Rewritten job taken writes lengths place image)
    (name : Name) (updated : (row : RunRow) → run_of tables job ≡ Some row → updated_by row ≡ Some name)
    (catalog : Catalog) (seen : catalog.sets ≡ seen_by holding_of tables.sets) (found : DataSet) (there : set_of catalog name ≡ Some found) where
  found-is : (row : RunRow) (its : Name) (table : TableSet) → run_of tables job ≡ Some row → updated_by row ≡ Some its → entry_at tables.sets its ≡ Some table → found ≡ table.set
  found-is row its table at is_updated entry =
      set-so catalog tables.sets name found table seen there
      (ap (entry_at tables.sets) (same_Some name its (sym (updated row at) ∙ is_updated)) ∙ entry)

  -- the record has its place there
  pub place-there : HasRecordPlace event tables → place < found.space
  place-there has =
      let its = rewrite-place tables job taken writes place lengths image event is has in
      subst (λ (set : DataSet). place < set.space) (sym (found-is its.row its.name its.table its.found its.updates its.there)) its.within

  pub image-there : HasRecordPlace event tables → length image ≡ found.lrecl
  image-there has =
      let its = rewrite-place tables job taken writes place lengths image event is has in
      its.long ∙ ap (λ (set : DataSet). set.lrecl) (sym (found-is its.row its.name its.table its.found its.updates its.there))

  pub written-by : (before after : List ℕ) → IsWritten layout found place image before after → IsWrittenBy layout tables event before after
  written-by before after written =
      subst (λ e. IsWrittenBy layout tables e before after) (sym is)
      (λ row its table at is_updated entry. subst (λ (s : DataSet). IsWritten layout s place image before after) (found-is row its table at is_updated entry) written)

  pub lacks-most : (before after : List ℕ) → DiffersAt layout found place before after → LacksAtMost layout tables event before after
  lacks-most before after differs =
      subst (λ e. LacksAtMost layout tables e before after) (sym is)
      (λ row its table at is_updated entry. subst (λ (s : DataSet). DiffersAt layout s place before after) (found-is row its table at is_updated entry) differs)

module _ {D : Type 0} (content : D → List ℕ) (may_leave : D → List ℕ → Type 0) (moment : D → ℕ) (left_since : D → ℕ → List ℕ → Type 0) (size : D → ℕ)
    (event : Event) (old : DeskView D) (only : Only (content old.store.disk) (may_leave old.store.disk)) where
  -- while a range is written whose other bytes tell what is lacked
  pub writing-left : (new : D) (at n : ℕ) → EachSince moment left_since old.store.disk new (OpensSame content size old) → EachSince moment left_since old.store.disk new (StemsFrom (may_leave old.store.disk) at n)
      → ((image : List ℕ) → SameOutside at n (content old.store.disk) image → LacksAtMost old.store.layout old.jobs.tables.desk event (content old.store.disk) image)
      → EachSince moment left_since old.store.disk new (IsLackingBy content size event old)
  writing-left new at n opens stems lacks =
      in_other_words moment left_since old.store.disk new (λ image. OpensSame content size old image × StemsFrom (may_leave old.store.disk) at n image) (IsLackingBy content size event old)
      (both_since moment left_since old.store.disk new (OpensSame content size old) (StemsFrom (may_leave old.store.disk) at n) opens stems)
      (λ image both. (both.0, inr (lacks image (subst (λ bytes. SameOutside at n bytes image) (only both.1.0 both.1.1) both.1.2))))

  -- so it is at the end
  pub lacking-then : (new : D) → EachSince moment left_since old.store.disk new (IsLackingBy content size event old)
      → ((t : ℕ) (image : List ℕ) → t ≤ moment new → may_leave new image → left_since new t image)
      → LackAtMost old.store.layout old.jobs.tables.desk event (content old.store.disk) (may_leave new)
  lacking-then new left counts image may = (at_the_end moment may_leave left_since old.store.disk new (IsLackingBy content size event old) left counts image may).1

  -- and while what was written is synced
  pub syncing-left : (mid new : D) → EachSince moment left_since old.store.disk mid (IsLackingBy content size event old)
      → ((t : ℕ) (image : List ℕ) → t ≤ moment mid → may_leave mid image → left_since mid t image)
      → EachSince moment left_since mid new (may_leave mid) → EachSince moment left_since old.store.disk new (IsLackingBy content size event old)
  syncing-left mid new written counts reads =
      and_then moment left_since old.store.disk mid new (IsLackingBy content size event old) (may_leave mid) (IsLackingBy content size event old) written reads
      (λ image lacks. lacks) (λ image now. at_the_end moment may_leave left_since old.store.disk mid (IsLackingBy content size event old) written counts image now)
