-- The events stay kept where a record is rewritten in place.
use Rattle.std.proofs.Common.{◌≡◌, ℕ, zero, suc, ◌+◌, Bool, true, false, cond, ◌&&◌, ◌||◌, if◌then◌else◌, List, [], ◌∷◌, take, drop, length, refl, ap, sym, ◌∙◌, Option, Some, None, arith}
use Rattle.std.specs.Prelude.{slice_get, codes, option_and_then}
use Rattle.std.specs.List.{list_all}
use Rattle.std.specs.Option.{option_map, option_map_or, is_some}
use Rattle.std.specs.Cmp.Lexicographic.{texts_ties}
use Rattle.std.proofs.lemmas.Bool.{false≢true}
use Rattle.std.proofs.lemmas.List.{length-set}
use Rattle.std.proofs.lemmas.Option.{same_Some}
use Rattle.ckr_base.specs.declared.programs.Output.TheVariants.{InPlace}
use Rattle.ckr_base.specs.declared.programs.Write.{Write}
use Rattle.ckr_base.proofs.Bools.{and-first, and-second, bool-cases}
use Rattle.ckr_base.proofs.Options.{and_then-some, option-cases, some-not-none}
use Rattle.ckr_base.proofs.Sequences.{find-same}
use Rattle.ckr_base.specs.Columns.{fitted}
use Rattle.ckr_uses.specs.Uses.{are_distinct}
use Rattle.ckr_jcl.specs.declared.deck.Dd.{Dd}
use Rattle.ckr_jcl.specs.declared.deck.Kind.{Kind}
use Rattle.ckr_jcl.specs.declared.deck.Kind.TheVariants.{Copy, Select, Merge, Master, Update, Print, Br14}
use Rattle.ckr_jcl.specs.declared.deck.Role.TheVariants.{Reads, Writes, Updates, Checkpoints, Unused}
use Rattle.ckr_jcl.specs.Programs.{is_checkpointed_by, is_read_by, is_updated_by, is_written_by, names_updated, role_of}
use Rattle.ckr_library.specs.NameMaps.{Name, Named, same_name, entry_at, with_changed}
use Rattle.ckr_library.proofs.Named.{at-with_changed, name-equivalence, name-same}
use Rattle.ckr_meaning.specs.LibrarySet.{LibrarySet, Library}
use Rattle.ckr_meaning.specs.EffectiveJob.{name_of, names_of}
use Rattle.ckr_meaning.specs.StepRun.{StepStart, changed_in, dd_named, output_dd, output_name, rewritten, rewritten_stamp, set_name, set_records, within_at, work_at, written_all, written_one}
use Rattle.ckr_meaning.proofs.WriteSeries.{within_at-more}
use Rattle.ckr_points.specs.Tables.{is_updates, name_with_role, table_rewritten}
use Rattle.ckr_points.specs.Follows.{is_update}
use Rattle.ckr_points.specs.Payload.{have_lengths, has_role, has_set, is_formed_step, is_length, records_under}
use Rattle.ckr_points_invariant.specs.Invariant.{AreAlike, Shape, counted, set_shape}
use Rattle.ckr_points.specs.Rows.{TableSet}
use Rattle.ckr_points_invariant.proofs.Library.Likeness.{Matches, alike-changed}
use Rattle.ckr_points_invariant.proofs.Writes.Roles.{dd_role, formed-roles}

-- ---- what a program updates

pub update-is : (program : Kind) → is_update program ≡ true → program ≡ Update
update-is Copy e = absurd (false≢true e)
update-is Select e = absurd (false≢true e)
update-is Merge e = absurd (false≢true e)
update-is Master e = absurd (false≢true e)
update-is Update e = refl
update-is Print e = absurd (false≢true e)
update-is Br14 e = absurd (false≢true e)

abbrev master : Name
master = codes "MASTER"

pub not_updates : (read written updated checkpointed : Bool) → updated ≡ false → is_updates (if read then Reads else (if written then Writes else (if updated then Updates else (if checkpointed then Checkpoints else Unused)))) ≡ false
not_updates true written updated checkpointed e = refl
not_updates false true updated checkpointed e = refl
not_updates false false true checkpointed e = e
not_updates false false false true e = refl
not_updates false false false false e = refl

other_updated : (name : Name) → same_name master name ≡ false → is_updated_by Update name ≡ false
unfolding is_updated_by
other_updated name apart =
    ap (λ b. b || false) (texts_ties name master ∙ name-equivalence.symm name master ∙ apart)

pub other_role : (name : Name) → is_updated_by Update name ≡ false → is_updates (role_of Update name) ≡ false
unfolding role_of
other_role name e = not_updates (is_read_by Update name) (is_written_by Update name) (is_updated_by Update name) (is_checkpointed_by Update name) e

master_role : is_updates (role_of Update master) ≡ true
unfolding role_of is_read_by is_written_by is_updated_by is_checkpointed_by
master_role = refl

updates_is : (name : Name) → is_updates (role_of Update name) ≡ same_name master name
updates_is name =
    bool-cases (same_name master name)
    (λ same. ap (λ n. is_updates (role_of Update n)) (sym (name-same master name same)) ∙ master_role ∙ sym same)
    (λ apart. other_role name (other_updated name apart) ∙ sym apart)

-- the data set of the DD that UPDATE updates
pub updated-name : (start : StepStart) (place : ℕ) → is_formed_step start.root start.owned ≡ true → is_update start.owned.step.program ≡ true → output_name start (InPlace place) ≡ Some (name_with_role start.root start.owned is_updates)
unfolding output_name
updated-name start place formed updates =
    option-cases (set_name start master)
    (λ none. absurd (false≢true (ap is_some (sym none) ∙ has_it)))
    (λ name e.
    there
    ∙ e
    ∙ ap Some (sym (
    let t = and_then-some (name_of start.root start.owned) (dd_named start.owned master) name e in
    ap (λ (o : Option Dd). option_map_or (λ dd. option_map_or (λ name. name) (name_of start.root start.owned dd) []) o [])
    (find-same (has_role start.owned.step.program) (λ dd. is_updates dd.role) (λ dd. same_name master dd.name) start.owned.step.dds (formed-roles start.root start.owned formed)
    (λ dd has. ap is_updates (dd_role start.owned.step.program dd has) ∙ ap (λ program. is_updates (role_of program dd.name)) is_it ∙ updates_is dd.name)
    ∙ t.1)
    ∙ ap (λ (o : Option Name). option_map_or (λ name. name) o []) t.2)))
  where
    is_it : start.owned.step.program ≡ Update
    is_it = update-is start.owned.step.program updates

    there : option_and_then (set_name start) (output_dd start.owned.step.program (InPlace place)) ≡ set_name start master
    there = ap (λ program. option_and_then (set_name start) (output_dd program (InPlace place))) is_it

    has_it : is_some (set_name start master) ≡ true
    has_it =
        and-first (has_set start.root start.owned master) true
        (ap (λ program. list_all (has_set start.root start.owned) (names_updated program)) (sym is_it)
        ∙ and-second (are_distinct (names_of start.root start.owned) && list_all (has_role start.owned.step.program) start.owned.step.dds) (list_all (has_set start.root start.owned) (names_updated start.owned.step.program)) formed)

-- ---- a rewrite

-- the last of some writes comes behind the others
take-one : (place : ℕ) (writes : List Write) (write : Write) → slice_get writes place ≡ Some write → take 1 (drop place writes) ≡ write ∷ []
take-one place [] write e = absurd (some-not-none write (sym e))
take-one zero (first ∷ rest) write e = ap (λ one. one ∷ []) (same_Some first write e)
take-one (suc place) (first ∷ rest) write e = take-one place rest write e

pub within-next : (start : StepStart) (before : ℕ) (write : Write) → slice_get (work_at start).writes before ≡ Some write → within_at start (suc before) ≡ written_one start write (within_at start before)
within-next start before write e =
    ap (within_at start) (let s : suc before ≡ before + 1 = omega arith in s)
    ∙ within_at-more start before 1
    ∙ ap (λ writes. written_all start writes (within_at start before)) (take-one before (work_at start).writes write e)

abbrev restamped : ℕ → ℕ → Shape → Shape
restamped owner step shape = record shape { stamp = rewritten_stamp owner step shape.stamp }

rewrites : (owner step place : ℕ) (image : List ℕ) → Matches (table_rewritten owner step) (rewritten owner step place image) (restamped owner step)
rewrites owner step place image = record {
  tables = λ table. refl;
  sets = λ set. ap (λ most. let shape : Shape = record (restamped owner step (set_shape set)) { length = counted set.content most } in shape) (length-set set.records place (fitted set.lrecl image));
}

-- with a rewrite done in the tables and in a library a name is alike
pub rewritten-alike : (start : StepStart) (place : ℕ) (image : List ℕ) (sets : Named TableSet) (library : Library) (name : Name) → is_formed_step start.root start.owned ≡ true → is_update start.owned.step.program ≡ true → AreAlike sets library name → AreAlike (with_changed (name_with_role start.root start.owned is_updates) (table_rewritten start.owned.owner start.number) sets) (written_one start (record { output = InPlace place; image = image }) library) name
unfolding written_one
rewritten-alike start place image sets library name formed updates alike =
    alike-changed name (name_with_role start.root start.owned is_updates) (table_rewritten start.owned.owner start.number) (rewritten start.owned.owner start.number place image) (restamped start.owned.owner start.number) (rewrites start.owned.owner start.number place image) sets library alike
    ∙ ap (λ to. option_map set_shape (entry_at (changed_in to (rewritten start.owned.owner start.number place image) library) name)) (sym (updated-name start place formed updates))

records_of : Option LibrarySet → ℕ
records_of set = length (option_map_or set_records set [])

same_long : (owner step place : ℕ) (image : List ℕ) (b : Bool) (entry : Option LibrarySet) → records_of (cond b (option_map (rewritten owner step place image) entry) entry) ≡ records_of entry
unfolding records_of
same_long owner step place image true None = refl
same_long owner step place image true (Some set) = length-set set.records place (fitted set.lrecl image)
same_long owner step place image false entry = refl

-- a rewrite leaves the number of records
pub rewritten-long : (start : StepStart) (place : ℕ) (image : List ℕ) (library : Library) (name : Name) → length (records_under (written_one start (record { output = InPlace place; image = image }) library) name) ≡ length (records_under library name)
unfolding written_one records_of
rewritten-long start place image library name =
    option-cases (output_name start (InPlace place))
    (λ none. ap (λ to. length (records_under (changed_in to (rewritten start.owned.owner start.number place image) library) name)) none)
    (λ to e.
    ap (λ o. length (records_under (changed_in o (rewritten start.owned.owner start.number place image) library) name)) e
    ∙ ap (λ (o : Option LibrarySet). length (option_map_or set_records o [])) (at-with_changed to name (rewritten start.owned.owner start.number place image) library)
    ∙ same_long start.owned.owner start.number place image (same_name name to) (entry_at library name))

-- the lengths of one library are those of another with as many records under each name
pub have_lengths-same : (one other : Library) (sets : Named TableSet) (outputs : List Name) (lengths : List ℕ) → ((name : Name) → length (records_under one name) ≡ length (records_under other name)) → have_lengths one sets outputs lengths ≡ have_lengths other sets outputs lengths
have_lengths-same one other sets [] [] same = refl
have_lengths-same one other sets [] (now ∷ lengths) same = refl
have_lengths-same one other sets (name ∷ outputs) [] same = refl
have_lengths-same one other sets (name ∷ outputs) (now ∷ lengths) same =
    ap (λ n. option_map_or (λ table. is_length table.set.content n now) (entry_at sets name) false && have_lengths one sets outputs lengths) (same name)
    ∙ ap (λ b. option_map_or (λ table. is_length table.set.content (length (records_under other name)) now) (entry_at sets name) false && b) (have_lengths-same one other sets outputs lengths same)
