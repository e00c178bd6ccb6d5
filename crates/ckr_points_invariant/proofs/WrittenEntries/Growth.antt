-- A step's data set for checkpoints is no shorter than it was marked at the start: where lengths are committed, data sets change otherwise, and
-- a run goes back to its checkpoint.
use Rattle.std.proofs.Common.{◌≡◌, ◌≤◌, ℕ, Bool, true, false, cond, ◌&&◌, if◌then◌else◌, List, [], ◌∷◌, refl, ap, sym, ◌∙◌, subst, Option, Some, None, arith}
use Rattle.std.specs.Prelude.{nat_le}
use Rattle.std.specs.List.{find}
use Rattle.std.specs.Option.{option_map, option_map_or}
use Rattle.std.proofs.lemmas.Bool.{false≢true}
use Rattle.ckr_base.proofs.Bools.{and-first, and-second, bool-cases, or-cases}
use Rattle.ckr_base.proofs.Numbers.{nat_le-true}
use Rattle.ckr_base.proofs.Options.{option-cases, option_map-some, some-one}
use Rattle.ckr_entry.specs.declared.point.Mark.{Mark}
use Rattle.ckr_entry.specs.declared.point.Present.{Present}
use Rattle.ckr_library.specs.NameMaps.{Name, Named, entry_at, same_name, with_changed}
use Rattle.ckr_library.proofs.Named.{at-with_changed, name-same}
use Rattle.ckr_meaning.specs.EffectiveJob.{OwnedStep, is_among}
use Rattle.ckr_points_library.specs.Commit.{output_names}
use Rattle.ckr_points.specs.Follows.{are_lengths}
use Rattle.ckr_points.specs.Marks.{present_at, put_back}
use Rattle.ckr_points.specs.Restart.{kept_at}
use Rattle.ckr_points.specs.Rows.{EffectPoint, KeptEntry, RunRow, TableSet, cut_set}
use Rattle.ckr_points.specs.Tables.{committed}
use Rattle.ckr_points_invariant.specs.Readiness.{KeepsEntry}
use Rattle.ckr_points_invariant.specs.WrittenEntries.{check_set, is_no_shorter}
use Rattle.ckr_points_invariant.proofs.Readiness.Commits.{HasTable, committed-has}
use Rattle.ckr_points_invariant.proofs.Readiness.Runs.{kept-entry}
use Rattle.ckr_points_invariant.proofs.PutBack.Sets.{back_to, changed_if, put_back-marked, put_back-none, to_catalog}

-- the data set of an output with a length is there
among-there : (sets : Named TableSet) (names : List Name) (lengths : List ℕ) (name : Name) → are_lengths sets names lengths ≡ true → is_among names name ≡ true → (table : TableSet) × (entry_at sets name ≡ Some table)
among-there sets [] lengths name are among = absurd (false≢true among)
among-there sets (first ∷ names) [] name are among = absurd (false≢true are)
among-there sets (first ∷ names) (now ∷ lengths) name are among =
    or-cases (same_name name first) (is_among names name) among
    (λ same. by (entry_at sets name) refl (ap (entry_at sets) (name-same name first same)))
    (λ later. among-there sets names lengths name (and-second (fits (entry_at sets first)) _ are) later)
  where
    fits : Option TableSet → Bool
    fits entry = option_map_or (λ table. nat_le table.set.length now && nat_le now table.set.space) entry false

    by : (entry : Option TableSet) → entry_at sets name ≡ entry → entry_at sets name ≡ entry_at sets first → (table : TableSet) × (entry_at sets name ≡ Some table)
    by None none same = absurd (false≢true (sym (ap fits (sym same ∙ none)) ∙ and-first (fits (entry_at sets first)) _ are))
    by (Some table) e same = (table, e)

module _ (row : RunRow) (owned : OwnedStep) (marks : List Mark) where
  abbrev set : Name
  set = check_set row owned

  -- the data set, by its mark
  abbrev pub IsLong : Named TableSet → Type 0
  IsLong sets =
      (present : Present) (table : TableSet) → is_among (output_names row.job.root owned) set ≡ true → present_at marks set ≡ Some present → entry_at sets set ≡ Some table → present.length ≤ table.set.length

  -- ---- lengths are committed

  pub long-committed : (sets : Named TableSet) (lengths : List ℕ) → are_lengths sets (output_names row.job.root owned) lengths ≡ true → IsLong sets → IsLong (committed (output_names row.job.root owned) lengths sets)
  long-committed sets lengths are long present table among marked there =
      let was = among-there sets (output_names row.job.root owned) lengths set are among in
      let below : present.length ≤ was.0.set.length = long present was.0 among marked was.1 in
      let P : TableSet → Type 0 = λ its. present.length ≤ its.set.length in
      let has : HasTable P (committed (output_names row.job.root owned) lengths sets) set =
      committed-has P sets set was.0 was.1 (λ now more its holds. let grows : was.0.set.length ≤ now = more in omega (arith, below, grows)) (output_names row.job.root owned) lengths sets are
      (record { table = was.0; at = was.1; holds = below }) in
      subst P (some-one has.table table (entry_at (committed (output_names row.job.root owned) lengths sets) set) has.at there) has.holds

  -- ---- a change that leaves lengths

  pub long-changed : (to : Name) (change : TableSet → TableSet) (sets : Named TableSet) → ((table : TableSet) → (change table).set.length ≡ table.set.length) → IsLong sets → IsLong (with_changed to change sets)
  long-changed to change sets same long present table among marked there =
      bool-cases (same_name set to)
      (λ here.
      let old = option_map-some change (entry_at sets set) table (sym (ap (λ b. cond b (option_map change (entry_at sets set)) (entry_at sets set)) here) ∙ sym (at-with_changed to set change sets) ∙ there) in
      let below : present.length ≤ old.0.set.length = long present old.0 among marked old.1 in
      subst (λ n. present.length ≤ n) (sym (same old.0) ∙ ap (λ (its : TableSet). its.set.length) old.2) below)
      (λ apart. long present table among marked (sym (ap (λ b. cond b (option_map change (entry_at sets set)) (entry_at sets set)) apart) ∙ sym (at-with_changed to set change sets) ∙ there))

  -- ---- back at a checkpoint

  back-length : (present later : Present) (needed : Bool) (table : TableSet) → present.length ≤ later.length → present.length ≤ table.set.length → present.length ≤ (back_to true needed later table).set.length
  back-length present later needed table below long = by needed (nat_le later.length table.set.length)
    where
      by : (needed b : Bool) → present.length ≤ (changed_if needed (to_catalog later) (if b then cut_set later.length table else table)).set.length
      by true true = below
      by true false = long
      by false true = below
      by false false = long

  pub long-back : (other : List Mark) (needed : List Name) (sets : Named TableSet) → is_no_shorter marks other set ≡ true → IsLong sets → IsLong (put_back other (output_names row.job.root owned) needed sets)
  long-back other needed sets longer long present table among marked there =
      option-cases (present_at other set)
      (λ none. long present table among marked (sym (put_back-none other (output_names row.job.root owned) needed sets set none) ∙ there))
      (λ later has.
      let old = option_map-some (back_to true (is_among needed set) later) (entry_at sets set) table
      (sym (put_back-marked other (output_names row.job.root owned) needed sets later set has ∙ ap (λ b. option_map (back_to b (is_among needed set) later) (entry_at sets set)) among) ∙ there) in
      let below : present.length ≤ later.length =
      nat_le-true present.length later.length
      (sym (ap (λ (o : Option Present). option_map_or (λ (present : Present). option_map_or (λ (other : Present). nat_le present.length other.length) (present_at other set) true) o true) marked
      ∙ ap (λ (o : Option Present). option_map_or (λ (other : Present). nat_le present.length other.length) o true) has) ∙ longer) in
      subst (λ (its : TableSet). present.length ≤ its.set.length) old.2 (back-length present later (is_among needed set) old.0 below (long present old.0 among marked old.1)))

  -- ---- the checkpoint in effect

  -- a checkpoint in effect is of that data set, and marks it no shorter
  abbrev pub IsEffectLong : Named TableSet → EffectPoint → Type 0
  IsEffectLong sets effect = (entry : KeptEntry) → kept_at sets effect.set effect.kept.id ≡ Some entry → (effect.set ≡ set) × (is_no_shorter marks entry.point.marks effect.set ≡ true)

  -- so it is while its entry is kept
  pub effect-kept : (sets later : Named TableSet) (effect : EffectPoint) (entry : KeptEntry) → KeepsEntry sets effect.set effect.kept.id entry → KeepsEntry later effect.set effect.kept.id entry → IsEffectLong sets effect → IsEffectLong later effect
  effect-kept sets later effect entry was now long its there =
      subst (λ (one : KeptEntry). (effect.set ≡ set) × (is_no_shorter marks one.point.marks effect.set ≡ true))
      (some-one entry its (kept_at later effect.set effect.kept.id) (kept-entry later effect.set effect.kept.id entry now) there)
      (long entry (kept-entry sets effect.set effect.kept.id entry was))

-- a change that leaves entries leaves those of an identifier
pub kept-changed : (to : Name) (change : TableSet → TableSet) (sets : Named TableSet) (set id : Name) → ((table : TableSet) → (change table).entries ≡ table.entries) → kept_at (with_changed to change sets) set id ≡ kept_at sets set id
kept-changed to change sets set id same =
    ap (λ (o : Option TableSet). option_map_or (λ table. find (λ (entry : KeptEntry). same_name entry.kept.id id) table.entries) o None) (at-with_changed to set change sets)
    ∙ by (same_name set to) (entry_at sets set)
  where
    by : (b : Bool) (entry : Option TableSet) → option_map_or (λ table. find (λ (entry : KeptEntry). same_name entry.kept.id id) table.entries) (cond b (option_map change entry) entry) None ≡ option_map_or (λ table. find (λ (entry : KeptEntry). same_name entry.kept.id id) table.entries) entry None
    by true None = refl
    by true (Some table) = ap (find (λ (entry : KeptEntry). same_name entry.kept.id id)) (same table)
    by false entry = refl
