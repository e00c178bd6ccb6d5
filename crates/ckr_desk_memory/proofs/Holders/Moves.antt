-- What holds of the holders stays where the row of one run changes, and with it data sets that its job names.
use Rattle.std.proofs.Common.{◌≡◌, ◌≢◌, ◌≤◌, ◌==◌, ℕ, zero, suc, pred, Bool, true, false, ◌&&◌, not, List, [], ◌∷◌, drop, filter, cond, inl, inr, ⊎_elim, refl, ap, sym, ◌∙◌, subst, Some}
use Rattle.std.specs.Prelude.{slice_get}
use mathlib.Core.Logic.{◌⊎◌}
use Rattle.std.specs.List.{AllByRecursion}
use Rattle.std.specs.Option.{is_some, option_map_or}
use Rattle.std.proofs.lemmas.Bool.{false≢true, or_left}
use Rattle.std.proofs.lemmas.List.Folds.{list_any-append}
use Rattle.ckr_base.proofs.Bools.{bool-cases, or-cases}
use Rattle.ckr_base.proofs.Numbers.{equal-itself, nat_le-true, number-cases}
use Rattle.ckr_base.proofs.Options.{some-not-none, some-one}
use Rattle.ckr_base.proofs.Sequences.{all-get, each-by_place, each-filter, each-get, each-implies}
use Rattle.ckr_jcl.specs.declared.deck.Job.{Job}
use Rattle.ckr_library.specs.NameMaps.{Name, Named, entry_at, same_name}
use Rattle.ckr_meaning.specs.EffectiveJob.{Effective, OwnedStep, is_among, names_of_steps, step_at}
use Rattle.ckr_points.specs.Follows.{may_hold, own_step}
use Rattle.ckr_points.specs.Marks.{deck_names, own_names}
use Rattle.ckr_points.specs.Office.{is_holder}
use Rattle.ckr_points.specs.Payload.{is_orderly}
use Rattle.ckr_points.specs.Restart.{by_run, by_step, place_of, step_in}
use Rattle.ckr_points.specs.RuleCases.{is_ended}
use Rattle.ckr_library.specs.Catalog.{ends_within}
use Rattle.ckr_points.specs.Rows.{EntryPoint, KeptEntry, RunRow, TableSet, TablesModel, run_of, with_run}
use Rattle.ckr_points_invariant.specs.Invariant.{AreOrderly}
use Rattle.ckr_points_invariant.specs.JobNames.{AreKin, HasJobName, IsKin, IsNameOf, IsNamedByDeck, KeepsJobNames, keeps_points}
use Rattle.ckr_points_invariant.proofs.Decks.Events.{row-orderly}
use Rattle.ckr_points_invariant.proofs.Holders.DeckNames.{deck-named}
use Rattle.ckr_points_invariant.proofs.Holders.JobNames.{kin-stays, one-row-keeps}
use Rattle.ckr_points_invariant.proofs.Holders.Rows.{holder-ended, run-other, run-same}
use Rattle.ckr_points_invariant.proofs.WrittenEntries.Sets.{EachHas, GoesOnThrough}
use Rattle.ckr_uses.proofs.Conflicts.{holds-symm}
use Rattle.ckr_uses.specs.Uses.{holds, uses_of}
use Rattle.ckr_desk_memory.proofs.Holders.Names.{IsActing, changed-alone, step-formed}
use Rattle.ckr_desk_memory.proofs.Starts.Steps.{row-among}
use Rattle.ckr_desk_memory.specs.Invariant.{IsAcceptedRow, IsPlacedRow}
use Rattle.ckr_desk_turn.specs.Invariant.{HasStepName}
use Rattle.ckr_desk_turn.specs.Queue.{AreNumbered}
use Rattle.ckr_desk_turn.proofs.Queue.Events.{run_number}
use Rattle.ckr_desk_memory.specs.Holders.{AreHolders, AreOfDeck, AreSingleEntries, EachEntryKept, HasChanged, HasOwnEffect, HasStartPassed, HasStepNames, HoldApart, IsNamedEntry, IsOwnEntry, KeepsOwnEntries, PassesOnOwn, PassesOwn, changed_names, reached_names}

-- ---- rows by number

pub row-accepted : (tables : TablesModel) (job : ℕ) (row : RunRow) → AllByRecursion IsAcceptedRow tables.runs → run_of tables job ≡ Some row → IsAcceptedRow row
row-accepted tables zero row rows at = absurd (some-not-none row (sym at))
row-accepted tables (suc place) row rows at = each-get IsAcceptedRow tables.runs place row rows at

-- what a run, or its step, makes of the tables
pub by-row : (Q : TablesModel → Type 0) (tables : TablesModel) (job : ℕ) (change : RunRow → TablesModel) (row : RunRow) → run_of tables job ≡ Some row → Q (change row) → Q (by_run job tables change)
by-row Q tables job change row at one = subst (λ o. Q (option_map_or change o tables)) (sym at) one

pub by-own : (Q : TablesModel → Type 0) (tables : TablesModel) (change : OwnedStep → ℕ → TablesModel) (row : RunRow) (owned : OwnedStep) → own_step row ≡ Some owned → Q (change owned (step_in (place_of row))) → Q (by_step change row tables)
by-own Q tables change row owned at one = subst (λ o. Q (option_map_or (λ owned. change owned (step_in (place_of row))) o tables)) (sym at) one

-- ---- one row changes

-- the run of a number has this row now, and the others have theirs
pub record HasRow (tables after : TablesModel) (job : ℕ) (next : RunRow) : Type 0 where
  pub now : run_of after job ≡ Some next
  pub others : (other : ℕ) → other ≢ job → run_of after other ≡ run_of tables other

pub row-as_is : (tables : TablesModel) (job : ℕ) (row : RunRow) → run_of tables job ≡ Some row → HasRow tables tables job row
row-as_is tables job row at = record { now = at; others = λ other apart. refl }

pub row-next : (tables mid : TablesModel) (job : ℕ) (row next : RunRow) (sets : Named TableSet) → HasRow tables mid job row → next.number ≡ job → HasRow tables (with_run next (record mid { sets = sets })) job next
row-next tables mid job row next sets has same = record {
  now = run-same (record mid { sets = sets }) next row job has.now same;
  others = λ other apart. run-other (record mid { sets = sets }) next other (λ e. apart (e ∙ same)) ∙ has.others other apart;
}

-- ---- the run as it acts

-- a run has the kin of one with its number and its deck, and their names
pub kin-same : (tables : TablesModel) (row next : RunRow) → next.number ≡ row.number → next.deck ≡ row.deck → next.job ≡ row.job → AreKin tables row → AreKin tables next
kin-same tables row next number deck job kin = record {
  root = kin_of next.job.root (subst (λ (job : Effective). IsKin tables row job.root) (sym job) kin.root);
  owners = λ at owned found. kin_of owned.owner (kin.owners at owned (sym (ap (λ (job : Effective). step_at job at) job) ∙ found));
}
  where
    kin_of : (other : ℕ) → IsKin tables row other → IsKin tables next other
    kin_of other kin = (subst (λ (deck : Job). HasJobName tables other deck.name) (sym deck) kin.0, ap (λ n. keeps_points tables n other) number ∙ kin.1)

pub named-same : (tables : TablesModel) (row next : RunRow) → next.number ≡ row.number → next.deck ≡ row.deck → next.job ≡ row.job → next.earlier_step ≡ row.earlier_step → AreOfDeck tables row → AreOfDeck tables next
named-same tables row next number deck job from named name own =
    let its =
    named name
    (ap (λ n. is_among (names_of_steps row.job.root (drop (pred n) row.job.steps)) name) (sym from)
    ∙ ap (λ (job : Effective). is_among (names_of_steps job.root (drop (pred next.earlier_step) job.steps)) name) (sym job) ∙ own) in (
      its.0,
      subst (λ root. IsNameOf next.deck root its.0 name) (sym (ap (λ (job : Effective). job.root) job)) (subst (λ (deck : Job). IsNameOf deck row.job.root its.0 name) (sym deck) its.1),
      (subst (λ (deck : Job). HasJobName tables its.0 deck.name) (sym deck) its.2.0, ap (λ n. keeps_points tables n its.0) number ∙ its.2.1),
    )

-- its steps have the names of its deck
steps-same : (row next : RunRow) → next.deck ≡ row.deck → next.job ≡ row.job → next.earlier_step ≡ row.earlier_step → HasStepNames row → HasStepNames next
steps-same row next deck job from named number owned executed found =
    subst (λ (deck : Job). HasStepName deck number owned.step.name) (sym deck)
    (named number owned (subst (λ n. n ≤ number) from executed) (ap (λ (job : Effective). step_at job number) (sym job) ∙ found))

-- and its entries those names
entry-same : (row next : RunRow) (entry : KeptEntry) → next.number ≡ row.number → next.deck ≡ row.deck → next.job ≡ row.job → next.earlier_step ≡ row.earlier_step → IsNamedEntry row entry → IsNamedEntry next entry
entry-same row next entry number deck job from its = record {
  run = its.run ∙ sym number;
  job = its.job ∙ ap (λ (deck : Job). deck.name) (sym deck);
  owned = its.owned;
  found = ap (λ (job : Effective). step_at job entry.point.step) job ∙ its.found;
  name = its.name;
  executed = subst (λ n. n ≤ entry.point.step) (sym from) its.executed;
}

-- the names that a run reaches are those of its deck
pub reached-named : (tables : TablesModel) (row : RunRow) → IsKin tables row row.number → AreOfDeck tables row → (name : Name) → is_among (reached_names row) name ≡ true → IsNamedByDeck tables row name
reached-named tables row itself named name among =
    or-cases (is_among (own_names row) name) (is_among (deck_names row.job.root row.number row.deck) name)
    (sym (list_any-append (same_name name) (own_names row) (deck_names row.job.root row.number row.deck)) ∙ among)
    (named name)
    (λ its. (row.number, deck-named row.deck row.job.root row.number name its, itself))

-- a run is its own kin
pub own-kin : (tables : TablesModel) (number : ℕ) (row : RunRow) → run_of tables number ≡ Some row → row.number ≡ number → IsKin tables row row.number
own-kin tables number row at same = ((row, ap (run_of tables) same ∙ at, refl), or_left (row.number == row.number) _ (equal-itself row.number))

-- a run acts as its row
pub acts-itself : (tables : TablesModel) (number : ℕ) (row : RunRow) → run_of tables number ≡ Some row → row.number ≡ number → is_ended row.state ≡ false → IsAcceptedRow row → AreHolders tables → IsActing tables number row
acts-itself tables number row at same on accepted are = record {
  row = row;
  row_at = at;
  on = on;
  root = (are.kin number row at).root;
  named = reached-named tables row (own-kin tables number row at same) (are.named number row at);
  plain = accepted.plain;
  number_is = refl;
  deck_is = refl;
}

-- ---- the entries of checkpoints

abbrev pub IsOwnOf : RunRow → Name → KeptEntry → Type 0
IsOwnOf row set entry = entry.point.run ≡ row.number → IsOwnEntry row set entry.point × IsNamedEntry row entry

-- an entry that the data set of a name kept
pub record WasKept (sets : Named TableSet) (set : Name) (entry : KeptEntry) : Type 0 where
  pub table : TableSet
  pub at : entry_at sets set ≡ Some table
  pub place : ℕ
  pub there : slice_get table.entries place ≡ Some entry

-- an entry that a run writes by an event
pub record IsNewEntry (row next : RunRow) (set : Name) (entry : KeptEntry) : Type 0 where
  pub run : entry.point.run ≡ row.number
  pub own : IsOwnEntry next set entry.point
  pub named : IsNamedEntry next entry

-- each entry was kept
pub was-kept : (sets : Named TableSet) (New : Name → KeptEntry → Type 0) → EachEntryKept (λ set entry. WasKept sets set entry ⊎ New set entry) sets
was-kept sets New set table at =
    each-by_place (λ (entry : KeptEntry). WasKept sets set entry ⊎ New set entry) table.entries (λ place entry there. inl (record { table = table; at = at; place = place; there = there }))

-- so what holds of those that were kept, and of new ones, holds of each
pub each-later : (P New : Name → KeptEntry → Type 0) (sets later : Named TableSet) → EachEntryKept (λ set entry. WasKept sets set entry ⊎ New set entry) later → ((set : Name) (entry : KeptEntry) → New set entry → P set entry) → EachEntryKept P sets → EachEntryKept P later
each-later P New sets later goes news each set table at =
    each-implies (λ (entry : KeptEntry). WasKept sets set entry ⊎ New set entry) (P set) table.entries
    (λ entry either. ⊎_elim (λ (was : WasKept sets set entry). each-get (P set) was.table.entries was.place entry (each set was.table was.at) was.there) (news set entry) either) (goes set table at)

pub each-entry : (P Q : Name → KeptEntry → Type 0) (sets : Named TableSet) → ((set : Name) (entry : KeptEntry) → P set entry → Q set entry) → EachEntryKept P sets → EachEntryKept Q sets
each-entry P Q sets goes each set table at = each-implies (P set) (Q set) table.entries (goes set) (each set table at)

-- the data sets keep the entries that they kept, or fewer, and new ones
pub record GoesOnWithEntries (sets later : Named TableSet) (New : Name → KeptEntry → Type 0) : Type 0 where
  pub each : EachEntryKept (λ set entry. WasKept sets set entry ⊎ New set entry) later
  pub single : ((set : Name) (table : TableSet) → entry_at sets set ≡ Some table → AreSingleEntries table.entries) → (set : Name) (table : TableSet) → entry_at later set ≡ Some table → AreSingleEntries table.entries

-- what goes on through each change of a data set holds of entries that are fewer
pub each-through : (P : Name → KeptEntry → Type 0) → GoesOnThrough (λ set table. AllByRecursion (P set) table.entries)
each-through P = record {
  cut = λ set table most each. each-filter (P set) (λ entry. ends_within most entry.kept) table.entries each;
  marked = λ set table on each. each;
  stamped = λ set table stamp each. each;
  fresh = λ set table none. subst (AllByRecursion (P set)) (sym none) tt;
}

single-filtered : (kept : KeptEntry → Bool) (entries : List KeptEntry) → AreSingleEntries entries → AreSingleEntries (filter kept entries)
single-filtered kept [] single = tt
single-filtered kept (first ∷ rest) single = by (kept first) (single-filtered kept rest single.1)
  where
    by : (b : Bool) → AreSingleEntries (filter kept rest) → AreSingleEntries (cond b (first ∷ filter kept rest) (filter kept rest))
    by true others = (each-filter (λ (other : KeptEntry). same_name other.kept.id first.kept.id ≡ false) kept rest single.0, others)
    by false others = others

pub single-through : GoesOnThrough (λ set table. AreSingleEntries table.entries)
single-through = record {
  cut = λ set table most single. single-filtered (λ entry. ends_within most entry.kept) table.entries single;
  marked = λ set table on single. single;
  stamped = λ set table stamp single. single;
  fresh = λ set table none. subst AreSingleEntries (sym none) tt;
}

-- so it is where no entry is written
pub goes-through : (sets later : Named TableSet) (New : Name → KeptEntry → Type 0) → ((E : Name → TableSet → Type 0) → GoesOnThrough E → EachHas E sets → EachHas E later) → GoesOnWithEntries sets later New
goes-through sets later New through = record {
  each = through (λ set table. AllByRecursion (λ (entry : KeptEntry). WasKept sets set entry ⊎ New set entry) table.entries) (each-through (λ set entry. WasKept sets set entry ⊎ New set entry)) (was-kept sets New);
  single = λ single. through (λ set table. AreSingleEntries table.entries) single-through single;
}

-- ---- an event

-- By an event the row of its run changes, and with it only what the run reaches as it acts, and only where the run holds before or behind it. It
-- begins to hold only where it may.
pub record RowGoesOn (tables after : TablesModel) (job : ℕ) : Type 0 where
  pub row : RunRow
  pub next : RunRow
  pub acting : RunRow
  pub row_at : run_of tables job ≡ Some row
  pub rows : HasRow tables after job next
  pub number : next.number ≡ row.number
  pub deck : next.deck ≡ row.deck
  pub on : is_ended row.state ≡ false
  pub acts : AreHolders tables → IsActing tables job acting
  pub kin : AreHolders tables → AreKin tables next
  pub named : AreHolders tables → AreOfDeck tables next
  pub steps : AreHolders tables → HasStepNames next
  pub begins : is_holder row.state ≡ false → is_holder next.state ≡ true → may_hold tables row ≡ true
  pub passed : AreHolders tables → PassesOnOwn after.sets next
  pub start : AreHolders tables → HasStartPassed next
  pub entries : AreHolders tables → KeepsOwnEntries after.sets next
  pub single : AreHolders tables → (set : Name) (table : TableSet) → entry_at after.sets set ≡ Some table → AreSingleEntries table.entries
  pub wrote : AreHolders tables → EachEntryKept (λ set entry. WasKept tables.sets set entry ⊎ (entry.point.run ≡ job)) after.sets
  pub still : is_holder row.state ≡ false → is_holder next.state ≡ false → (name : Name) → entry_at after.sets name ≡ entry_at tables.sets name
  pub outside : PassesOwn row → (name : Name) → is_among (reached_names acting) name ≡ false → entry_at after.sets name ≡ entry_at tables.sets name
  pub changed : HasChanged tables.sets row → HasChanged after.sets next

-- ---- a run in its own job

-- By an event a run goes on in its own job, with what it has lost.
pub record RunGoesOn (tables after : TablesModel) (job : ℕ) : Type 0 where
  pub row : RunRow
  pub next : RunRow
  pub row_at : run_of tables job ≡ Some row
  pub rows : HasRow tables after job next
  pub number : next.number ≡ row.number
  pub deck : next.deck ≡ row.deck
  pub job_is : next.job ≡ row.job
  pub from_is : next.earlier_step ≡ row.earlier_step
  pub on : is_ended row.state ≡ false
  pub begins : is_holder row.state ≡ false → is_holder next.state ≡ true → may_hold tables row ≡ true
  pub passed : HasStartPassed row → PassesOnOwn tables.sets row → PassesOnOwn after.sets next
  pub start : HasStartPassed row → PassesOnOwn tables.sets row → HasStartPassed next
  pub own : HasStartPassed row → (set : Name) (point : EntryPoint) → IsOwnEntry row set point → IsOwnEntry next set point
  pub kept : HasStartPassed row → GoesOnWithEntries tables.sets after.sets (IsNewEntry row next)
  pub still : is_holder row.state ≡ false → (name : Name) → entry_at after.sets name ≡ entry_at tables.sets name
  pub outside : PassesOwn row → (name : Name) → is_among (reached_names row) name ≡ false → entry_at after.sets name ≡ entry_at tables.sets name
  pub changed : HasChanged tables.sets row → HasChanged after.sets next

pub run-goes : (tables after : TablesModel) (job : ℕ) → AllByRecursion IsAcceptedRow tables.runs → AreNumbered 1 tables.runs → RunGoesOn tables after job → RowGoesOn tables after job
run-goes tables after job rows numbered goes = record {
  row = goes.row;
  next = goes.next;
  acting = goes.row;
  row_at = goes.row_at;
  rows = goes.rows;
  number = goes.number;
  deck = goes.deck;
  on = goes.on;
  acts = acts-itself tables job goes.row goes.row_at (run_number tables job goes.row numbered goes.row_at) goes.on (row-accepted tables job goes.row rows goes.row_at);
  kin = λ are. kin-same tables goes.row goes.next goes.number goes.deck goes.job_is (are.kin job goes.row goes.row_at);
  named = λ are. named-same tables goes.row goes.next goes.number goes.deck goes.job_is goes.from_is (are.named job goes.row goes.row_at);
  steps = λ are. steps-same goes.row goes.next goes.deck goes.job_is goes.from_is (are.steps job goes.row goes.row_at);
  begins = goes.begins;
  passed = λ are. goes.passed (are.begun job goes.row goes.row_at) (are.passed job goes.row goes.row_at);
  start = λ are. goes.start (are.begun job goes.row goes.row_at) (are.passed job goes.row goes.row_at);
  entries = λ are.
      let begun = are.begun job goes.row goes.row_at in
      each-later (IsOwnOf goes.next) (IsNewEntry goes.row goes.next) tables.sets after.sets (goes.kept begun).each (λ set entry new run. (new.own, new.named))
      (each-entry (IsOwnOf goes.row) (IsOwnOf goes.next) tables.sets (λ set entry own run.
      let was = own (run ∙ goes.number) in
      (goes.own begun set entry.point was.0, entry-same goes.row goes.next entry goes.number goes.deck goes.job_is goes.from_is was.1)) (are.entries job goes.row goes.row_at));
  single = λ are. (goes.kept (are.begun job goes.row goes.row_at)).single are.single;
  wrote = λ are.
      each-entry (λ set entry. WasKept tables.sets set entry ⊎ IsNewEntry goes.row goes.next set entry) (λ set entry. WasKept tables.sets set entry ⊎ (entry.point.run ≡ job)) after.sets
      (λ set entry either. ⊎_elim inl (λ (new : IsNewEntry goes.row goes.next set entry). inr (new.run ∙ run_number tables job goes.row numbered goes.row_at)) either)
      (goes.kept (are.begun job goes.row goes.row_at)).each;
  still = λ was now. goes.still was;
  outside = goes.outside;
  changed = goes.changed;
}

-- a run that may hold doesn't hold against one that holds
may_hold-at : (tables : TablesModel) (row : RunRow) (other : ℕ) (its : RunRow) → may_hold tables row ≡ true → run_of tables other ≡ Some its → is_holder its.state ≡ true → holds (uses_of row.number row.deck) (uses_of its.number its.deck) ≡ false
may_hold-at tables row zero its may at holding = absurd (some-not-none its (sym at))
may_hold-at tables row (suc place) its may at holding =
    by (is_holder its.state) (holds (uses_of row.number row.deck) (uses_of its.number its.deck)) holding
    (all-get (λ (other : RunRow). not (is_holder other.state && holds (uses_of row.number row.deck) (uses_of other.number other.deck))) tables.runs place its may at)
  where
    by : (a b : Bool) → a ≡ true → not (a && b) ≡ true → b ≡ false
    by true true e f = absurd (false≢true f)
    by true false e f = refl
    by false b e f = absurd (false≢true e)

module _ (tables after : TablesModel) (job : ℕ) (goes : RowGoesOn tables after job) (rows : AllByRecursion IsAcceptedRow tables.runs) (numbered : AreNumbered 1 tables.runs) (placed : AllByRecursion IsPlacedRow tables.runs) (are : AreHolders tables) where
  -- the row of the run, and that of another
  pub next_is : (number : ℕ) (its : RunRow) → number ≡ job → run_of after number ≡ Some its → goes.next ≡ its
  next_is number its here at = some-one goes.next its (run_of after job) goes.rows.now (ap (run_of after) (sym here) ∙ at)

  pub before : (number : ℕ) (its : RunRow) → number ≢ job → run_of after number ≡ Some its → run_of tables number ≡ Some its
  before number its apart at = sym (goes.rows.others number apart) ∙ at

  acts : IsActing tables job goes.acting
  acts = goes.acts are

  acting-row : acts.row ≡ goes.row
  acting-row = some-one acts.row goes.row (run_of tables job) acts.row_at goes.row_at

  same_uses : uses_of goes.next.number goes.next.deck ≡ uses_of goes.row.number goes.row.deck
  same_uses = ap (λ n. uses_of n goes.next.deck) goes.number ∙ ap (uses_of goes.row.number) goes.deck

  -- the run, that held or begins to, doesn't hold against another one
  apart-from : (other : ℕ) (its : RunRow) → other ≢ job → run_of tables other ≡ Some its → (is_holder goes.row.state ≡ false → is_holder goes.next.state ≡ true) → is_holder its.state ≡ true → holds (uses_of goes.row.number goes.row.deck) (uses_of its.number its.deck) ≡ false
  apart-from other its apart at mine theirs =
      bool-cases (is_holder goes.row.state)
      (λ was. are.apart job other goes.row its goes.row_at at (λ e. apart (sym e)) was theirs)
      (λ new. may_hold-at tables goes.row other its (goes.begins new (mine new)) at theirs)

  against : (other : ℕ) (its : RunRow) → other ≢ job → run_of tables other ≡ Some its → is_holder goes.next.state ≡ true → is_holder its.state ≡ true → holds (uses_of goes.next.number goes.next.deck) (uses_of its.number its.deck) ≡ false
  against other its apart at mine theirs = ap (λ uses. holds uses (uses_of its.number its.deck)) same_uses ∙ apart-from other its apart at (λ new. mine) theirs

  apart_so : HoldApart after
  apart_so one other row next here there apart mine theirs =
      number-cases one job
      (λ first.
      let e : goes.next ≡ row = next_is one row first here in
      let far : other ≢ job = λ second. apart (first ∙ sym second) in
      subst (λ (r : RunRow). holds (uses_of r.number r.deck) (uses_of next.number next.deck) ≡ false) e
      (against other next far (before other next far there) (ap (λ (r : RunRow). is_holder r.state) e ∙ mine) theirs))
      (λ first.
      number-cases other job
      (λ second.
      let e : goes.next ≡ next = next_is other next second there in
      subst (λ (r : RunRow). holds (uses_of row.number row.deck) (uses_of r.number r.deck) ≡ false) e
      (holds-symm (uses_of row.number row.deck) (uses_of goes.next.number goes.next.deck)
      ∙ against one row first (before one row first here) (ap (λ (r : RunRow). is_holder r.state) e ∙ theirs) mine))
      (λ second. are.apart one other row next (before one row first here) (before other next second there) apart mine theirs))

  -- what a step of another run may change stays as it is
  pub others-keep : (number : ℕ) (its : RunRow) (owned : OwnedStep) (name : Name) → number ≢ job → run_of tables number ≡ Some its → is_holder its.state ≡ true → own_step its ≡ Some owned → is_among (changed_names its.job.root owned) name ≡ true → entry_at after.sets name ≡ entry_at tables.sets name
  unfolding acts-itself
  others-keep number its owned name apart at holding found among =
      bool-cases (is_holder goes.row.state)
      (λ was. reached (λ new. absurd (false≢true (sym new ∙ was))))
      (λ new. bool-cases (is_holder goes.next.state) (λ holds. reached (λ still. holds)) (λ none. goes.still new none name))
    where
      accepted : IsAcceptedRow its
      accepted = row-accepted tables number its rows at

      same : its.number ≡ number
      same = run_number tables number its numbered at

      reached : (is_holder goes.row.state ≡ false → is_holder goes.next.state ≡ true) → entry_at after.sets name ≡ entry_at tables.sets name
      reached mine =
          goes.outside (are.passed job goes.row goes.row_at).passed name
          (changed-alone tables (λ one row its_row. run_number tables one row numbered its_row) are.orderly number job apart its goes.acting
          (acts-itself tables number its at same (holder-ended its.state holding) accepted are) acts
          (ap (λ (row : RunRow). holds (uses_of its.number its.deck) (uses_of row.number row.deck)) acting-row
          ∙ holds-symm (uses_of its.number its.deck) (uses_of goes.row.number goes.row.deck) ∙ apart-from number its apart at mine holding)
          (step_in (place_of its)) owned name (nat_le-true its.earlier_step (step_in (place_of its)) (row-among IsPlacedRow tables number its placed at).from) found
          (step-formed its (step_in (place_of its)) owned accepted found) among)

  others-pass : (number : ℕ) (its : RunRow) → number ≢ job → run_of tables number ≡ Some its → PassesOnOwn after.sets its
  others-pass number its apart at =
      let was : PassesOnOwn tables.sets its = are.passed number its at in
      record {
        passed = was.passed;
        points = was.points;
        effect = λ effect is.
            let own : HasOwnEffect tables.sets its effect = was.effect effect is in
            record {
              holds = own.holds;
              within = own.within;
              owned = own.owned;
              found = own.found;
              changes = own.changes;
              entries = λ table there. own.entries table (sym (others-keep number its own.owned effect.set apart at own.holds own.found own.changes) ∙ there);
            };
      }

  -- the runs keep their job names
  keeps : KeepsJobNames tables after
  keeps = one-row-keeps tables after job goes.row goes.next goes.row_at goes.rows.now goes.deck goes.on goes.rows.others

  kin-behind : (row : RunRow) → AreKin tables row → AreKin after row
  kin-behind row kin = record {
    root = kin-stays tables after keeps row row refl refl row.job.root kin.root;
    owners = λ number owned found. kin-stays tables after keeps row row refl refl owned.owner (kin.owners number owned found);
  }

  named-behind : (row : RunRow) → AreOfDeck tables row → AreOfDeck after row
  named-behind row named name own = let its = named name own in (its.0, its.1, kin-stays tables after keeps row row refl refl its.0 its.2)

  -- what holds of a row of the tables, and of the run's next one, holds of each row behind the event
  each-row : (P : RunRow → Type 0) → P goes.next → ((number : ℕ) (its : RunRow) → run_of tables number ≡ Some its → P its) → (number : ℕ) (its : RunRow) → run_of after number ≡ Some its → P its
  each-row P next others number its at =
      number-cases number job (λ here. subst P (next_is number its here at) next) (λ apart. others number its (before number its apart at))

  orderly-behind : AreOrderly after
  orderly-behind =
      each-by_place (λ (row : RunRow). is_orderly row.number row.deck ≡ true) after.runs
      (λ place row at.
      each-row (λ (row : RunRow). is_orderly row.number row.deck ≡ true)
      (ap (λ n. is_orderly n goes.next.deck) goes.number ∙ ap (is_orderly goes.row.number) goes.deck ∙ row-orderly tables job goes.row are.orderly goes.row_at)
      (λ number its there. row-orderly tables number its are.orderly there) (suc place) row at)

  -- each run stays there
  still-there : (number : ℕ) → is_some (run_of tables number) ≡ true → is_some (run_of after number) ≡ true
  still-there number there =
      number-cases number job
      (λ here. ap (λ n. is_some (run_of after n)) here ∙ ap is_some goes.rows.now)
      (λ apart. ap is_some (goes.rows.others number apart) ∙ there)

  pub holders-go : AreHolders after
  holders-go = record {
    orderly = orderly-behind;
    kin = each-row (AreKin after) (kin-behind goes.next (goes.kin are)) (λ number its at. kin-behind its (are.kin number its at));
    named = each-row (AreOfDeck after) (named-behind goes.next (goes.named are)) (λ number its at. named-behind its (are.named number its at));
    steps = each-row HasStepNames (goes.steps are) are.steps;
    apart = apart_so;
    passed = λ number its at.
        number-cases number job
        (λ here. subst (PassesOnOwn after.sets) (next_is number its here at) (goes.passed are))
        (λ apart. others-pass number its apart (before number its apart at));
    begun = each-row HasStartPassed (goes.start are) are.begun;
    entries = λ number its at.
        number-cases number job
        (λ here. subst (KeepsOwnEntries after.sets) (next_is number its here at) (goes.entries are))
        (λ apart.
        let old : run_of tables number ≡ Some its = before number its apart at in
        each-later (IsOwnOf its) (λ set entry. entry.point.run ≡ job) tables.sets after.sets (goes.wrote are)
        (λ set entry wrote own. absurd (apart (sym (run_number tables number its numbered old) ∙ sym own ∙ wrote))) (are.entries number its old));
    written =
        each-later (λ set entry. is_some (run_of after entry.point.run) ≡ true) (λ set entry. entry.point.run ≡ job) tables.sets after.sets (goes.wrote are) (λ set entry wrote. ap (λ n. is_some (run_of after n)) wrote ∙ ap is_some goes.rows.now)
        (each-entry (λ set entry. is_some (run_of tables entry.point.run) ≡ true) (λ set entry. is_some (run_of after entry.point.run) ≡ true) tables.sets (λ set entry. still-there entry.point.run) are.written);
    single = goes.single are;
    changed = λ number its at.
        number-cases number job
        (λ here. subst (HasChanged after.sets) (next_is number its here at) (goes.changed (are.changed job goes.row goes.row_at)))
        (λ apart owned name holding within found among.
        let old : run_of tables number ≡ Some its = before number its apart at in
        ap is_some (others-keep number its owned name apart old holding found among)
        ∙ are.changed number its old owned name holding within found among);
  }
