-- The inputs of a step's program stay as they are where they weren't taken yet.
use Rattle.std.proofs.Common.{◌≡◌, ◌<◌, ◌≤◌, ℕ, zero, suc, ◌+◌, ◌-◌, ◌==◌, Bool, true, false, cond, not, ◌&&◌, List, [], ◌∷◌, ◌++◌, map, length, take, Option, Some, None, slice_get, slice_set, refl, ap, sym, ◌∙◌, subst, arith}
use Rattle.std.specs.Prelude.{if◌then◌else◌, nat_lt, ◌⊎◌}
use Rattle.std.proofs.Common.{⊎_elim}
use Rattle.std.specs.List.{list_all, position_from}
use Rattle.std.proofs.lemmas.Bool.{false≢true, and_parts, lt-ltb, ltb-true}
use Rattle.std.proofs.lemmas.Option.{same_Some}
use Rattle.ckr_base.specs.declared.programs.Output.{Output}
use Rattle.ckr_base.specs.declared.programs.Output.TheVariants.{Main, Rejects, InPlace}
use Rattle.ckr_base.specs.declared.programs.Write.{Write}
use Rattle.ckr_base.proofs.Options.{some-not-none}
use Rattle.ckr_base.specs.Columns.{fitted}
use Rattle.ckr_jcl.specs.declared.deck.Kind.{Kind}
use Rattle.ckr_jcl.specs.declared.deck.Kind.TheVariants.{Copy, Select, Merge, Master, Update, Print, Br14}
use Rattle.ckr_entry.specs.declared.point.State.{State}
use Rattle.ckr_entry.specs.declared.point.State.TheVariants.{Plain, Matched}
use Rattle.ckr_library.specs.NameMaps.{Name, same_name, entry_at, with_changed}
use Rattle.ckr_library.proofs.Named.{at-with_changed-other, name-same}
use Rattle.ckr_programs.specs.Work.{to_main, images_for, prog_writes}
use Rattle.ckr_programs.specs.Work as plain
use Rattle.ckr_match.specs.Images.{same_key, code_of}
use Rattle.ckr_match.specs.Master.{Balance, write_to, write_held, group_writes, master_writes, balance_of, groups_of}
use Rattle.ckr_match.specs.State.{has_two_inputs}
use Rattle.ckr_match.specs.InputOrder.{Taken, Keys, taken_from, of_first, of_second}
use Rattle.ckr_match.specs.Work.{match_writes, update_write, write_at, case_keys}
use Rattle.ckr_match.specs.Work as matched
use Rattle.ckr_match.specs.Units as matched_units
use Rattle.ckr_match.proofs.Walk.{Reached, goes_on, ended, stuck, reached}
use Rattle.ckr_meaning.specs.LibrarySet.{LibrarySet, Library}
use Rattle.ckr_meaning.specs.Program.{ProgramCase, plain_case, match_case, upto_by, upto}
use Rattle.ckr_meaning.specs.States.{StandsFor, first_of}
use Rattle.ckr_meaning.specs.StepRun.{StepStart, output_name, extended, rewritten, written_set, changed_in, written_one, written_all}
use Rattle.ckr_meaning.proofs.Room.{AreApart}
use Rattle.ckr_steps.proofs.Lists.{some_within}
use Rattle.ckr_steps.proofs.Names.{changed_here}
use Rattle.ckr_steps.proofs.Counts.{chosen_first}
use Rattle.ckr_steps.proofs.Writes.{all-append}

-- ---- no more records are taken of an input than it has

one_first : (records : List Taken) (next : Taken) (limit : ℕ) → (next.second ≡ false → length (of_first records) < limit) → length (of_first records) ≤ limit → length (of_first (records ++ next ∷ [])) ≤ limit
one_first [] next limit more le = by next.second more
  where
    by : (second : Bool) → (second ≡ false → 0 < limit) → length (cond (not second) (next ∷ []) []) ≤ limit
    by true more = omega arith
    by false more = let less : 0 < limit = more refl in omega arith
one_first (first ∷ records) next limit more le = by first.second more le (λ l. one_first records next l)
  where
    by : (second : Bool) → (next.second ≡ false → length (cond (not second) (first ∷ of_first records) (of_first records)) < limit) → length (cond (not second) (first ∷ of_first records) (of_first records)) ≤ limit
        → ((l : ℕ) → (next.second ≡ false → length (of_first records) < l) → length (of_first records) ≤ l → length (of_first (records ++ next ∷ [])) ≤ l)
        → length (cond (not second) (first ∷ of_first (records ++ next ∷ [])) (of_first (records ++ next ∷ []))) ≤ limit
    by true more le rest = rest limit more le
    by false more le rest = let fewer : length (of_first (records ++ next ∷ [])) ≤ limit - 1 = rest (limit - 1) (λ from. let less : suc (length (of_first records)) < limit = more from in omega arith) (omega arith) in omega arith

firsts_within : (keys : Keys) (first second : List (List ℕ)) (count : ℕ) → count ≤ length (taken_from keys first second) → length (of_first (take count (taken_from keys first second))) ≤ length first
firsts_within keys first second zero within = omega arith
firsts_within keys first second (suc count) within =
    by (reached keys first second count (omega arith)) (firsts_within keys first second count (omega arith))
  where
    by : Reached keys first second None None (taken_from keys first second) count → length (of_first (take count (taken_from keys first second))) ≤ length first → length (of_first (take (suc count) (taken_from keys first second))) ≤ length first
    by (goes_on next mark is follows less more all rest) before =
        subst (λ (l : List Taken). length (of_first l) ≤ length first) (sym more)
        (one_first (take count (taken_from keys first second)) (record next { faulty = mark }) (length first)
        (λ from. some_within first (length (of_first (take count (taken_from keys first second)))) (chosen_first keys (slice_get first (length (of_first (take count (taken_from keys first second))))) (slice_get second (length (of_second (take count (taken_from keys first second))))) next is from)) before)
    by (ended is all cut) before = absurd (omega (arith, all, within))
    by (stuck next is follows all cut) before = absurd (omega (arith, all, within))

pub first_within : (state : State) (case : ProgramCase) (taken : ℕ) → StandsFor state case taken → has_two_inputs case.program ≡ true → first_of state ≤ length case.first
first_within (Plain state) case taken stands two = absurd (false≢true (sym stands.program ∙ two))
first_within (Matched state) case taken stands two =
    subst (λ n. n ≤ length case.first) (sym stands.stands.first) (firsts_within (case_keys (match_case case)) case.first case.second taken stands.stands.within)

-- ---- rewrites are of records that were taken

abbrev pub is_output_within : ℕ → Output → Bool
is_output_within limit Main = true
is_output_within limit Rejects = true
is_output_within limit (InPlace place) = nat_lt place limit

abbrev pub is_within : ℕ → Write → Bool
is_within limit write = is_output_within limit write.output

mains_within : (limit : ℕ) (images : List (List ℕ)) → list_all (is_within limit) (map to_main images) ≡ true
mains_within limit [] = refl
mains_within limit (image ∷ images) = mains_within limit images

written_within : (limit : ℕ) (images : List (List ℕ)) → list_all (is_within limit) (map (write_to Rejects) images) ≡ true
written_within limit [] = refl
written_within limit (image ∷ images) = written_within limit images

held_within : (limit : ℕ) (with_held : Bool) (held : Option (List ℕ)) → list_all (is_within limit) (if with_held then write_held held else []) ≡ true
held_within limit true None = refl
held_within limit true (Some image) = refl
held_within limit false held = refl

group_within : (limit : ℕ) (with_held : Bool) (balance : Balance) → list_all (is_within limit) (group_writes with_held balance) ≡ true
group_within limit with_held balance =
    all-append (is_within limit) (map (write_to Rejects) balance.rejected) (if with_held then write_held balance.held else []) (written_within limit balance.rejected) (held_within limit with_held balance.held)

master_within : (limit : ℕ) (closed : Bool) (groups : List (List Taken)) → list_all (is_within limit) (master_writes closed groups) ≡ true
master_within limit closed [] = refl
master_within limit closed (group ∷ []) = group_within limit closed (balance_of group)
master_within limit closed (group ∷ next ∷ groups) =
    all-append (is_within limit) (group_writes true (balance_of group)) (master_writes closed (next ∷ groups)) (group_within limit true (balance_of group)) (master_within limit closed (next ∷ groups))

merged_within : (limit : ℕ) (taken : List Taken) → list_all (is_within limit) (map (λ (one : Taken). write_to Main one.bytes) taken) ≡ true
merged_within limit [] = refl
merged_within limit (one ∷ taken) = merged_within limit taken

position_below : (test : Taken → Bool) (from : ℕ) (records : List Taken) (place : ℕ) → position_from test from records ≡ Some place → place < from + length records
position_below test from [] place is = absurd (some-not-none place (sym is))
position_below test from (first ∷ records) place is = by (test first) is (position_below test (from + 1) records place)
  where
    by : (b : Bool) → cond b (Some from) (position_from test (from + 1) records) ≡ Some place → (position_from test (from + 1) records ≡ Some place → place < from + 1 + length records) → place < from + length (first ∷ records)
    by true e rest = let same : from ≡ place = same_Some from place e in omega arith
    by false e rest = let less : place < from + 1 + length records = rest e in omega arith

update_within : (keys : Keys) (masters : List Taken) (taken : Taken) → is_within (length masters) (update_write keys masters taken) ≡ true
update_within keys masters taken = by (code_of taken.bytes == 67) (position_from (same_key keys taken) 0 masters) (λ place is. position_below (same_key keys taken) 0 masters place is)
  where
    by : (b : Bool) (found : Option ℕ) → ((place : ℕ) → found ≡ Some place → place < 0 + length masters) → is_within (length masters) (write_at (if b then found else None) taken.bytes) ≡ true
    by false found below = refl
    by true None below = refl
    by true (Some place) below = let less : place < 0 + length masters = below place refl in lt-ltb place (length masters) (omega arith)

updates_within : (keys : Keys) (masters taken : List Taken) → list_all (is_within (length masters)) (map (update_write keys masters) taken) ≡ true
updates_within keys masters [] = refl
updates_within keys masters (one ∷ taken) =
    ap (λ b. b && list_all (is_within (length masters)) (map (update_write keys masters) taken)) (update_within keys masters one) ∙ updates_within keys masters taken

match_within : (program : Kind) (keys : Keys) (taken : List Taken) (closed : Bool) → list_all (is_within (length (of_first taken))) (match_writes program keys taken closed) ≡ true
unfolding match_writes
match_within Copy keys taken closed = refl
match_within Select keys taken closed = refl
match_within Merge keys taken closed = merged_within (length (of_first taken)) taken
match_within Master keys taken closed = master_within (length (of_first taken)) closed (groups_of keys taken)
match_within Update keys taken closed = updates_within keys (of_first taken) (of_second taken)
match_within Print keys taken closed = refl
match_within Br14 keys taken closed = refl

-- the writes so far rewrite records that were taken
pub upto_within : (state : State) (case : ProgramCase) (taken : ℕ) → StandsFor state case taken → list_all (is_within (first_of state)) (upto case taken) ≡ true
unfolding upto prog_writes
upto_within (Plain state) case taken stands =
    subst (λ b. list_all (is_within state.first) (upto_by b case taken) ≡ true) (sym stands.program)
    (mains_within state.first (images_for case.program case.parm (take taken (plain.taken_records (plain_case case)))))
upto_within (Matched state) case taken stands =
    subst (λ b. list_all (is_within state.first) (upto_by b case taken) ≡ true) (sym stands.program)
    (subst (λ n. list_all (is_within n) (matched.upto (match_case case) taken) ≡ true) (sym stands.stands.first)
    (match_within case.program (case_keys (match_case case)) (matched_units.first_taken (match_case case) taken) false))

-- ---- a data set through writes that go elsewhere, or rewrite the records before a place

pub record KeptFrom (place : ℕ) (old new : LibrarySet) : Type 0 where
  pub lrecl : new.lrecl ≡ old.lrecl
  pub content : new.content ≡ old.content
  pub length : length new.records ≡ length old.records
  pub records : (q : ℕ) → place ≤ q → slice_get new.records q ≡ slice_get old.records q

kept_itself : (place : ℕ) (set : LibrarySet) → KeptFrom place set set
kept_itself place set = record { lrecl = refl; content = refl; length = refl; records = λ q le. refl }

kept_twice : (place : ℕ) (one two three : LibrarySet) → KeptFrom place one two → KeptFrom place two three → KeptFrom place one three
kept_twice place one two three first second = record {
  lrecl = second.lrecl ∙ first.lrecl;
  content = second.content ∙ first.content;
  length = second.length ∙ first.length;
  records = λ q le. second.records q le ∙ first.records q le;
}

pub set_length : (items : List (List ℕ)) (place : ℕ) (item : List ℕ) → length (slice_set items place item) ≡ length items
set_length [] place item = refl
set_length (first ∷ items) zero item = refl
set_length (first ∷ items) (suc place) item = ap suc (set_length items place item)

set_behind : (items : List (List ℕ)) (place : ℕ) (item : List ℕ) (q : ℕ) → place < q → slice_get (slice_set items place item) q ≡ slice_get items q
set_behind [] place item q less = refl
set_behind (first ∷ items) zero item zero less = absurd (omega arith)
set_behind (first ∷ items) zero item (suc q) less = refl
set_behind (first ∷ items) (suc place) item zero less = absurd (omega arith)
set_behind (first ∷ items) (suc place) item (suc q) less = set_behind items place item q (omega arith)

rewritten_kept : (owner step limit place : ℕ) (bytes : List ℕ) (set : LibrarySet) → place < limit → KeptFrom limit set (rewritten owner step place bytes set)
rewritten_kept owner step limit place bytes set less = record {
  lrecl = refl;
  content = refl;
  length = set_length set.records place (fitted set.lrecl bytes);
  records = λ q le. set_behind set.records place (fitted set.lrecl bytes) q (omega arith);
}

-- where the set of a name stands after writes
pub record IsKept (library : Library) (limit : ℕ) (name : Name) (old : LibrarySet) : Type 0 where
  pub set : LibrarySet
  pub is : entry_at library name ≡ Some set
  pub kept : KeptFrom limit old set

module _ (start : StepStart) (limit bound : ℕ) (name : Name) (main : AreApart (Some name) (output_name start Main)) (rejects : AreApart (Some name) (output_name start Rejects))
    (in_place : (place : ℕ) → place < bound → (place < limit) ⊎ AreApart (Some name) (output_name start (InPlace place))) where
  changed_apart : (other : Option Name) (change : LibrarySet → LibrarySet) (library : Library) (set : LibrarySet) → AreApart (Some name) other → entry_at library name ≡ Some set → IsKept (changed_in other change library) limit name set
  changed_apart None change library set apart is = record { set = set; is = is; kept = kept_itself limit set }
  changed_apart (Some other) change library set apart is = record { set = set; is = at-with_changed-other other name change library apart ∙ is; kept = kept_itself limit set }

  changed_before : (other : Option Name) (place : ℕ) (bytes : List ℕ) (library : Library) (set : LibrarySet) → place < limit → entry_at library name ≡ Some set → IsKept (changed_in other (rewritten start.owned.owner start.number place bytes) library) limit name set
  changed_before None place bytes library set less is = record { set = set; is = is; kept = kept_itself limit set }
  changed_before (Some other) place bytes library set less is = by (same_name name other) refl
    where
      by : (same : Bool) → same_name name other ≡ same → IsKept (with_changed other (rewritten start.owned.owner start.number place bytes) library) limit name set
      by true e = record {
        set = rewritten start.owned.owner start.number place bytes set;
        is = ap (λ n. entry_at (with_changed n (rewritten start.owned.owner start.number place bytes) library) name) (sym (name-same name other e)) ∙ changed_here name (rewritten start.owned.owner start.number place bytes) library set is;
        kept = rewritten_kept start.owned.owner start.number limit place bytes set less;
      }
      by false e = record { set = set; is = at-with_changed-other other name (rewritten start.owned.owner start.number place bytes) library e ∙ is; kept = kept_itself limit set }

  one_kept : (output : Output) (bytes : List ℕ) (library : Library) (set : LibrarySet) → is_output_within bound output ≡ true → entry_at library name ≡ Some set → IsKept (changed_in (output_name start output) (written_set start output bytes) library) limit name set
  one_kept Main bytes library set within is = changed_apart (output_name start Main) (extended bytes) library set main is
  one_kept Rejects bytes library set within is = changed_apart (output_name start Rejects) (extended bytes) library set rejects is
  one_kept (InPlace place) bytes library set within is =
      ⊎_elim (λ less. changed_before (output_name start (InPlace place)) place bytes library set less is)
      (λ apart. changed_apart (output_name start (InPlace place)) (rewritten start.owned.owner start.number place bytes) library set apart is)
      (in_place place (ltb-true place bound within))

  pub writes_keep : (writes : List Write) (library : Library) (set : LibrarySet) → list_all (is_within bound) writes ≡ true → entry_at library name ≡ Some set → IsKept (written_all start writes library) limit name set
  writes_keep [] library set within is = record { set = set; is = is; kept = kept_itself limit set }
  writes_keep (write ∷ writes) library set within is =
      let one = one_kept write.output write.image library set ((and_parts (is_within bound write) (list_all (is_within bound) writes) within).0) is in
      let here : IsKept (written_one start write library) limit name set = unfold written_one in one in
      let rest = writes_keep writes (written_one start write library) here.set ((and_parts (is_within bound write) (list_all (is_within bound) writes) within).1) here.is in
      record { set = rest.set; is = rest.is; kept = kept_twice limit set here.set rest.set here.kept rest.kept }
