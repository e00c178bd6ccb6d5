-- A run stays ready where the lengths of its step are committed.
use Rattle.std.proofs.Common.{◌≡◌, ◌≤◌, ℕ, ◌+◌, true, false, cond, ◌&&◌, List, [], ◌∷◌, ap, sym, ◌∙◌, subst, Option, Some, arith}
use Rattle.std.specs.Prelude.{nat_le}
use Rattle.std.specs.List.{find}
use Rattle.std.specs.Option.{option_map, option_map_or}
use Rattle.std.proofs.lemmas.Bool.{false≢true}
use Rattle.std.proofs.lemmas.Option.{same_Some}
use Rattle.ckr_base.specs.declared.code.Code.{Code}
use Rattle.ckr_base.proofs.Bools.{and-first, and-second, bool-cases}
use Rattle.ckr_base.proofs.Numbers.{nat_le-from, nat_le-true}
use Rattle.ckr_base.proofs.Sequences.{find-filter}
use Rattle.ckr_library.specs.Catalog.{ends_within, records_of}
use Rattle.ckr_library.specs.NameMaps.{Name, Named, same_name, entry_at, with_changed}
use Rattle.ckr_library.proofs.Named.{at-with_changed, name-same}
use Rattle.ckr_meaning.specs.EffectiveJob.{OwnedStep}
use Rattle.ckr_meaning.specs.JobRun.{start_at}
use Rattle.ckr_meaning.specs.StepRun.{StepStart}
use Rattle.ckr_meaning.specs.declared.place.Place.TheVariants.{Within}
use Rattle.ckr_volumes.specs.declared.layout.Layout.{Layout}
use Rattle.ckr_points_library.specs.Commit.{output_names}
use Rattle.ckr_points.specs.declared.run.RunState.{RunState}
use Rattle.ckr_points.specs.Follows.{are_lengths, is_within}
use Rattle.ckr_points.specs.Office.{Leg, Office}
use Rattle.ckr_points.specs.Payload.{carries_lengths, commits, rewrites_nothing, writes_in}
use Rattle.ckr_points.specs.Restart.{place_of}
use Rattle.ckr_points.specs.Rows.{EffectPoint, KeptEntry, RunRow, TableSet, cut_set}
use Rattle.ckr_points.specs.Tables.{committed}
use Rattle.ckr_points_invariant.specs.Invariant.{IsAgreed, step_now}
use Rattle.ckr_points_invariant.proofs.Steps.Commits.{found_leg}
use Rattle.ckr_points_invariant.proofs.Steps.Walks.{start_at-of}
use Rattle.ckr_points_invariant.specs.Readiness.{IsCheck, IsReady, KeepsEntry}
use Rattle.ckr_points_invariant.specs.Restorability.{IsRestorable}
use Rattle.ckr_points_invariant.specs.RunningSteps.{IsRunning, its_start}
use Rattle.ckr_points_invariant.proofs.Readiness.Writes.{unwritten-on}

-- ---- entries that are kept

pub longer-ends : (one other : ℕ) (entry : KeptEntry) → one ≤ other → ends_within one entry.kept ≡ true → ends_within other entry.kept ≡ true
longer-ends one other entry below ends =
    nat_le-from (entry.kept.place + records_of entry.kept.bytes) other
    (let e : entry.kept.place + records_of entry.kept.bytes ≤ one = nat_le-true (entry.kept.place + records_of entry.kept.bytes) one ends in omega (arith, e, below))

-- ---- committed data sets

-- a data set of which something holds
pub record HasTable (P : TableSet → Type 0) (sets : Named TableSet) (name : Name) : Type 0 where
  pub table : TableSet
  pub at : entry_at sets name ≡ Some table
  pub holds : P table

module _ (P : TableSet → Type 0) (first : Named TableSet) (name : Name) (before : TableSet) (was : entry_at first name ≡ Some before) (cuts : (now : ℕ) → before.set.length ≤ now → (table : TableSet) → P table → P (cut_set now table)) where
  cut-has : (output : Name) (now : ℕ) (sets : Named TableSet) → option_map_or (λ (table : TableSet). nat_le table.set.length now && nat_le now table.set.space) (entry_at first output) false ≡ true → HasTable P sets name → HasTable P (with_changed output (cut_set now) sets) name
  cut-has output now sets fits has =
      bool-cases (same_name name output)
      (λ same. record {
        table = cut_set now has.table;
        at = at-with_changed output name (cut_set now) sets ∙ ap (λ b. cond b (option_map (cut_set now) (entry_at sets name)) (entry_at sets name)) same ∙ ap (option_map (cut_set now)) has.at;
        holds =
            cuts now
            (nat_le-true before.set.length now (and-first (nat_le before.set.length now) _
            (sym (ap (λ (o : Option TableSet). option_map_or (λ (table : TableSet). nat_le table.set.length now && nat_le now table.set.space) o false) (ap (entry_at first) (sym (name-same name output same)) ∙ was)) ∙ fits)))
            has.table has.holds;
      })
      (λ apart. record {
        table = has.table;
        at = at-with_changed output name (cut_set now) sets ∙ ap (λ b. cond b (option_map (cut_set now) (entry_at sets name)) (entry_at sets name)) apart ∙ has.at;
        holds = has.holds;
      })

  pub committed-has : (outputs : List Name) (lengths : List ℕ) (sets : Named TableSet) → are_lengths first outputs lengths ≡ true → HasTable P sets name → HasTable P (committed outputs lengths sets) name
  committed-has [] lengths sets are has = has
  committed-has (output ∷ outputs) [] sets are has = has
  committed-has (output ∷ outputs) (now ∷ lengths) sets are has =
      committed-has outputs lengths (with_changed output (cut_set now) sets) (and-second (option_map_or (λ (table : TableSet). nat_le table.set.length now && nat_le now table.set.space) (entry_at first output) false) _ are)
      (cut-has output now sets (and-first (option_map_or (λ (table : TableSet). nat_le table.set.length now && nat_le now table.set.space) (entry_at first output) false) _ are) has)

module _ (outputs : List Name) (lengths : List ℕ) (sets : Named TableSet) (are : are_lengths sets outputs lengths ≡ true) where
  -- ---- entries

  -- an entry that ends within its data set is kept
  pub committed-keeps : (set id : Name) (entry : KeptEntry) → KeepsEntry sets set id entry → KeepsEntry (committed outputs lengths sets) set id entry
  committed-keeps set id entry keeps =
      let P : TableSet → Type 0 = λ table. (find (λ (one : KeptEntry). same_name one.kept.id id) table.entries ≡ Some entry) × (ends_within table.set.length entry.kept ≡ true) in
      let has : HasTable P (committed outputs lengths sets) set =
      committed-has P sets set keeps.table keeps.at
      (λ now below table its.
      let within : ends_within now entry.kept ≡ true = longer-ends keeps.table.set.length now entry below keeps.ends in
      (find-filter (λ (one : KeptEntry). same_name one.kept.id id) (λ (one : KeptEntry). ends_within now one.kept) table.entries entry its.0 within, within))
      outputs lengths sets are (record { table = keeps.table; at = keeps.at; holds = (keeps.found, keeps.ends) }) in
      record { table = has.table; at = has.at; found = has.holds.0; ends = has.holds.1 }

-- ---- a row behind more writes

-- a run's row in its step, behind so many writes
abbrev pub row_behind : RunRow → RunState → Option ℕ → Option Code → ℕ → ℕ → Option EffectPoint → RunRow
row_behind row state initiator code writes count effect =
    record row { state = state; initiator = initiator; code = code; place = Some (Within (step_now row) writes); count = count; in_effect = effect }

module _ (layout : Layout) (now : Office) (job : ℕ) (row : RunRow) (leg : Leg) (owned : OwnedStep) (writes : ℕ) (lengths : List ℕ) (kept : IsAgreed layout now)
    (running : IsRunning now job row leg owned (step_now row) (writes_in (place_of row)))
    (carried : commits now.tables.sets row writes lengths (its_start leg owned (step_now row)) ≡ true)
    (are : are_lengths now.tables.sets (output_names row.job.root owned) lengths ≡ true) where
  abbrev start : StepStart
  start = its_start leg owned (step_now row)

  early : (nat_le (writes_in (place_of row)) writes && rewrites_nothing start (writes_in (place_of row)) writes) ≡ true
  early = and-first (nat_le (writes_in (place_of row)) writes && rewrites_nothing start (writes_in (place_of row)) writes) (carries_lengths now.tables.sets writes lengths start) carried

  pub more : writes_in (place_of row) ≤ writes
  more = nat_le-true (writes_in (place_of row)) writes (and-first (nat_le (writes_in (place_of row)) writes) (rewrites_nothing start (writes_in (place_of row)) writes) early)

  none_rewritten : rewrites_nothing start (writes_in (place_of row)) writes ≡ true
  none_rewritten = and-second (nat_le (writes_in (place_of row)) writes) (rewrites_nothing start (writes_in (place_of row)) writes) early

  pub start_is : (its : StepStart) → start_at leg.job leg.start (step_now row) ≡ Some its → start ≡ its
  start_is its at_step =
      same_Some start its
      (sym (start_at-of leg.job leg.start (step_now row) owned (found_leg layout now job row leg owned (step_now row) (writes_in (place_of row)) kept running)) ∙ at_step)

  abbrev pub sets_behind : Named TableSet
  sets_behind = committed (output_names row.job.root owned) lengths now.tables.sets

  module _ (state : RunState) (initiator : Option ℕ) (code : Option Code) (count : ℕ) (effect : Option EffectPoint) where
    abbrev pub next_row : RunRow
    next_row = row_behind row state initiator code writes count effect

    pub committed-restorable : (from : ℕ) → IsRestorable row leg from → IsRestorable next_row leg from
    committed-restorable from can = record {
      behind = let a = can.behind in let b = more in omega (arith, a, b);
      unwritten = λ its at_step.
          subst (λ s. rewrites_nothing s from writes ≡ true) (start_is its at_step)
          (unwritten-on start from (writes_in (place_of row)) writes can.behind more
          (subst (λ s. rewrites_nothing s from (writes_in (place_of row)) ≡ true) (sym (start_is its at_step)) (can.unwritten its at_step)) none_rewritten);
    }

  within_now : is_within (place_of row) ≡ true
  within_now = ap is_within running.stands

  -- a run stays ready with its checkpoint in effect
  pub committed-ready : (state : RunState) (initiator : Option ℕ) (code : Option Code) → IsReady now.tables.sets row leg → IsReady sets_behind (next_row state initiator code row.count row.in_effect) leg
  committed-ready state initiator code ready = record {
    begun = λ within. ready.begun within_now;
    steps = λ point within got unwritten. committed-restorable state initiator code row.count row.in_effect 0 (ready.steps point within_now got unwritten);
    check = λ effect within got.
        let its : IsCheck now.tables.sets row leg effect = ready.check effect within_now got in
        record {
          owned = its.owned;
          found_step = its.found_step;
          among = its.among;
          entry = its.entry;
          keeps = committed-keeps (output_names row.job.root owned) lengths now.tables.sets are effect.set effect.kept.id its.entry its.keeps;
          back = its.back;
          point = its.point;
          taken = its.taken;
          since = λ unwritten. committed-restorable state initiator code row.count row.in_effect its.entry.point.writes (its.since unwritten);
        };
    none = λ out. absurd (false≢true (sym out));
  }
