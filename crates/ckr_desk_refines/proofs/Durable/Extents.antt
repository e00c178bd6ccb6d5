-- Data sets lie where they lay, and are no shorter, where the lengths of their step are committed.
use Rattle.std.proofs.Common.{◌≡◌, ◌≤◌, ℕ, Bool, true, false, cond, List, [], ◌∷◌, refl, ap, sym, ◌∙◌, subst, Option, Some, None, arith}
use Rattle.std.specs.Prelude.{nat_le, ◌&&◌}
use Rattle.std.specs.Option.{option_map, option_map_or}
use Rattle.std.proofs.lemmas.Option.{same_Some}
use Rattle.ckr_base.proofs.Bools.{and-first, and-second, bool-cases}
use Rattle.ckr_base.proofs.Numbers.{nat_le-true}
use Rattle.ckr_base.proofs.Options.{option-cases, some-not-none}
use Rattle.arrayvec.specs.ArrayVec.{ArrayVec}
use Rattle.ckr_points_library.specs.Commit.{output_names}
use Rattle.ckr_events.specs.declared.event.Event.TheVariants.{Checkpointed, Rewritten}
use Rattle.ckr_jcl.specs.declared.deck.Job.{Job}
use Rattle.ckr_library.specs.NameMaps.{Name, Named, same_name, entry_at, with_changed}
use Rattle.ckr_library.proofs.Named.{at-with_changed, name-same}
use Rattle.ckr_points.specs.Tables.{committed, is_checkpoints, is_updates, name_with_role, table_rewritten, with_kept_entry}
use Rattle.ckr_points.specs.Follows.{are_lengths}
use Rattle.ckr_points.specs.Office.{Office, office_after}
use Rattle.ckr_points.specs.Payload.{carries}
use Rattle.ckr_points.specs.Rows.{KeptEntry, TableSet, cut_set}
use Rattle.ckr_points.specs.Soundness.{may_come}
use Rattle.ckr_points_invariant.specs.Invariant.{IsKept, step_now}
use Rattle.ckr_volumes.specs.declared.layout.Layout.{Layout}
use Rattle.ckr_desk_refines.specs.SharedSets.{LieStill, LiesStill}
use Rattle.ckr_desk_refines.proofs.Durable.Office.{by-checkpointed, by-rewritten}

still-itself : (table : TableSet) → LiesStill table table
still-itself table = record { places = record { parts = refl; lrecl = refl }; space = refl; content = refl; longer = omega arith }

still-cut : (now : ℕ) (old table : TableSet) → old.set.length ≤ now → LiesStill old table → LiesStill old (cut_set now table)
still-cut now old table long lies = record { places = record { parts = lies.places.parts; lrecl = lies.places.lrecl }; space = lies.space; content = lies.content; longer = long }

still-rewritten : (owner step : ℕ) (old table : TableSet) → LiesStill old table → LiesStill old (table_rewritten owner step table)
still-rewritten owner step old table lies = record { places = record { parts = lies.places.parts; lrecl = lies.places.lrecl }; space = lies.space; content = lies.content; longer = lies.longer }

still-entered : (entry : KeptEntry) (old table : TableSet) → LiesStill old table → LiesStill old (with_kept_entry entry table)
still-entered entry old table lies = record { places = record { parts = lies.places.parts; lrecl = lies.places.lrecl }; space = lies.space; content = lies.content; longer = lies.longer }

-- ---- under one name

-- what lies where the earlier one lay
abbrev StandsStill : TableSet → Named TableSet → Name → Type 0
StandsStill old sets name = (after : TableSet) × (entry_at sets name ≡ Some after) × LiesStill old after

changed-still : (other name : Name) (change : TableSet → TableSet) (old : TableSet) → (same_name name other ≡ true → (table : TableSet) → LiesStill old table → LiesStill old (change table)) → (sets : Named TableSet) → StandsStill old sets name → StandsStill old (with_changed other change sets) name
changed-still other name change old keeps sets there =
    bool-cases (same_name name other)
    (λ same.
    (change there.0, at-with_changed other name change sets ∙ ap (λ b. cond b (option_map change (entry_at sets name)) (entry_at sets name)) same ∙ ap (option_map change) there.1, keeps same there.0 there.2))
    (λ apart. (there.0, at-with_changed other name change sets ∙ ap (λ b. cond b (option_map change (entry_at sets name)) (entry_at sets name)) apart ∙ there.1, there.2))

committed-still : (names : List Name) (lengths : List ℕ) (first sets : Named TableSet) (name : Name) (old : TableSet) → are_lengths first names lengths ≡ true → entry_at first name ≡ Some old → StandsStill old sets name → StandsStill old (committed names lengths sets) name
committed-still [] lengths first sets name old are at_first there = there
committed-still (output ∷ names) [] first sets name old are at_first there = there
committed-still (output ∷ names) (now ∷ lengths) first sets name old are at_first there =
    committed-still names lengths first (with_changed output (cut_set now) sets) name old (and-second here _ are) at_first
    (changed-still output name (cut_set now) old (λ same table lies. still-cut now old table (long same) lies) sets there)
  where
    here : Bool
    here = option_map_or (λ (table : TableSet). nat_le table.set.length now && nat_le now table.set.space) (entry_at first output) false

    long : same_name name output ≡ true → old.set.length ≤ now
    long same =
        nat_le-true old.set.length now
        (and-first (nat_le old.set.length now) (nat_le now old.set.space)
        (sym (ap (λ (o : Option TableSet). option_map_or (λ table. nat_le table.set.length now && nat_le now table.set.space) o false) (ap (entry_at first) (sym (name-same name output same)) ∙ at_first))
        ∙ and-first here _ are))

-- ---- a name that wasn't there

changed-none : (other name : Name) (change : TableSet → TableSet) (sets : Named TableSet) → entry_at sets name ≡ None → entry_at (with_changed other change sets) name ≡ None
changed-none other name change sets none =
    at-with_changed other name change sets
    ∙ ap (λ (o : Option TableSet). cond (same_name name other) (option_map change o) o) none
    ∙ by (same_name name other)
  where
    by : (b : Bool) → cond b (option_map change None) None ≡ None
    by true = refl
    by false = refl

committed-none : (names : List Name) (lengths : List ℕ) (sets : Named TableSet) (name : Name) → entry_at sets name ≡ None → entry_at (committed names lengths sets) name ≡ None
committed-none [] lengths sets name none = none
committed-none (output ∷ names) [] sets name none = none
committed-none (output ∷ names) (now ∷ lengths) sets name none =
    committed-none names lengths (with_changed output (cut_set now) sets) name (changed-none output name (cut_set now) sets none)

-- ---- all data sets

each-still : (sets later : Named TableSet) → ((name : Name) → entry_at sets name ≡ None → entry_at later name ≡ None) → ((name : Name) (table : TableSet) → entry_at sets name ≡ Some table → StandsStill table later name) → LieStill sets later
each-still sets later none each = record {
  from = λ name after e.
      option-cases (entry_at sets name)
      (λ gone. absurd (some-not-none after (sym e ∙ none name gone)))
      (λ table at.
      let its = each name table at in
      (table, at, subst (LiesStill table) (same_Some its.0 after (sym its.1 ∙ e)) its.2));
  each = each;
}

-- committed, and one more changed that lies where it lies
pub committed-lie : (names : List Name) (lengths : List ℕ) (sets : Named TableSet) (other : Name) (change : TableSet → TableSet) → are_lengths sets names lengths ≡ true → ((old table : TableSet) → LiesStill old table → LiesStill old (change table)) → LieStill sets (with_changed other change (committed names lengths sets))
committed-lie names lengths sets other change are keeps =
    each-still sets (with_changed other change (committed names lengths sets))
    (λ name none. changed-none other name change (committed names lengths sets) (committed-none names lengths sets name none))
    (λ name table e.
    changed-still other name change table (λ same its lies. keeps table its lies) (committed names lengths sets)
    (committed-still names lengths sets sets name table are e (table, e, still-itself table)))

pub rewritten-lie : (layout : Layout) (now : Office) (job taken writes place : ℕ) (lengths : ArrayVec ℕ) (image : List ℕ) (deck : Option Job) → IsKept layout now → may_come layout now (Rewritten job taken writes lengths place image, deck) ≡ true → LieStill now.tables.sets (office_after (Rewritten job taken writes lengths place image, deck) now).tables.sets
rewritten-lie layout now job taken writes place lengths image deck kept may =
    by-rewritten (λ (its : Office). LieStill now.tables.sets its.tables.sets) layout now job taken writes place lengths image deck kept.events may
    (λ row leg owned rewrites.
    committed-lie (output_names row.job.root owned) lengths.items now.tables.sets (name_with_role row.job.root owned is_updates) (table_rewritten owned.owner (step_now row)) rewrites.are
    (λ old table lies. still-rewritten owned.owner (step_now row) old table lies))

pub checkpointed-lie : (layout : Layout) (now : Office) (job taken writes place bytes : ℕ) (id : Name) (lengths : ArrayVec ℕ) (deck : Option Job) → IsKept layout now → may_come layout now (Checkpointed job id taken writes lengths place bytes, deck) ≡ true
    → carries layout now (Checkpointed job id taken writes lengths place bytes) deck ≡ true → LieStill now.tables.sets (office_after (Checkpointed job id taken writes lengths place bytes, deck) now).tables.sets
checkpointed-lie layout now job taken writes place bytes id lengths deck kept may carried =
    by-checkpointed (λ (its : Office). LieStill now.tables.sets its.tables.sets) layout now job taken writes place bytes id lengths deck kept.events may carried
    (λ row leg owned commits.
    committed-lie (output_names row.job.root owned) lengths.items now.tables.sets (name_with_role row.job.root owned is_checkpoints) (with_kept_entry _) commits.at.are
    (λ old table lies. still-entered _ old table lies))
