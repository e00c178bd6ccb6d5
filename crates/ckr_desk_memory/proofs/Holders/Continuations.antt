-- A run that continues another one is selected: it reaches names of its deck, has lost what else was passed on as made, and what its step may change is there.
-- So the holders stay apart.
use Rattle.std.proofs.Common.{◌≡◌, ◌<◌, ◌==◌, ℕ, zero, suc, pred, Bool, true, false, not, ◌&&◌, cond, List, [], ◌∷◌, drop, refl, ap, sym, ◌∙◌, subst, Option, Some, None, arith}
use mathlib.Core.Logic.{◌⊎◌}
use Rattle.std.specs.List.{AllByRecursion, find}
use Rattle.std.specs.Option.{is_some, option_map_or}
use Rattle.std.proofs.lemmas.Bool.{and_from, false≢true, not-true}
use Rattle.std.proofs.lemmas.Option.{same_Some}
use Rattle.ckr_base.proofs.Bools.{and-first, and-second, bool-cases}
use Rattle.ckr_base.proofs.Options.{is_none-true, is_some-true, some-not-none, some-one}
use Rattle.ckr_base.proofs.Sequences.{all-at, find-holds, find-passes}
use Rattle.ckr_entry.specs.declared.point.Mark.{Mark}
use Rattle.ckr_entry.specs.declared.point.Present.{Present}
use Rattle.ckr_library.proofs.Named.{name-same}
use Rattle.ckr_library.specs.NameMaps.{Name, Named, entry_at, same_name}
use Rattle.ckr_meaning.specs.EffectiveJob.{OwnedStep, is_among, names_of, names_of_steps, step_at}
use Rattle.ckr_meaning.specs.declared.place.Place.{Place}
use Rattle.ckr_meaning.specs.declared.place.Place.TheVariants.{Before, Opened, Within}
use Rattle.ckr_events.specs.declared.event.Event.TheVariants.{Selected}
use Rattle.ckr_jcl.specs.declared.deck.Job.{Job}
use Rattle.ckr_points.specs.Follows.{follows}
use Rattle.ckr_points.specs.Marks.{is_as_marked, is_marked_absent, lost_names, made_names, mark_at, own_names, point_at, present_at, put_back, removed_all, still_exists, sysout_names, without_passed}
use Rattle.ckr_points.specs.Office.{Office, passed_made}
use Rattle.ckr_points.specs.Restart.{after_continued_at, after_entry_continued, after_event, carried_point, continued_row, kept_at, needed_names, step_in, syschk_name, without_names}
use Rattle.ckr_points.specs.RuleCases.{has_present_marks, is_ended}
use Rattle.ckr_points.specs.Rows.{EffectPoint, KeptEntry, RunRow, StartPoint, TableSet, TablesModel, run_of, step_of_run, with_run}
use Rattle.ckr_points.specs.Tables.{fresh_effect}
use Rattle.ckr_desk_plans.specs.Model.Commit.{output_names}
use Rattle.ckr_points_invariant.specs.JobNames.{AreKin}
use Rattle.ckr_points_invariant.specs.EarlierRuns.{IsEntryOf, MayContinue}
use Rattle.ckr_points_invariant.proofs.Continuations.EarlierRun.{Coming, row_then, sets_then}
use Rattle.ckr_points_invariant.proofs.Continuations.Follows.{after-selected, fresh-entry, may-continue}
use Rattle.ckr_points_invariant.proofs.Continuations.Freshness.{fresh-exists}
use Rattle.ckr_points_invariant.proofs.Continuations.LostNames.{kept-exists}
use Rattle.ckr_points_invariant.proofs.Continuations.ReachedNames.DeckNames.{kin-then, own-so}
use Rattle.ckr_points_invariant.proofs.Continuations.Steps.{among-behind}
use Rattle.ckr_points_invariant.proofs.Continuations.SysoutNames.{sysout-listed}
use Rattle.ckr_points_invariant.proofs.Holders.Places.{outputs-among}
use Rattle.ckr_points_invariant.proofs.Holders.Rows.{queued-is}
use Rattle.ckr_points_invariant.proofs.Library.PassedList.{made-without}
use Rattle.ckr_points_invariant.proofs.Marks.Points.{among-filter}
use Rattle.ckr_points_invariant.proofs.PutBack.Sets.{at-removed_all, put_back-apart}
use Rattle.ckr_points_invariant.proofs.WrittenEntries.Sets.{put_back-has, removed_all-has}
use Rattle.ckr_volumes.specs.declared.layout.Layout.{Layout}
use Rattle.ckr_desk_turn.proofs.AdmittedSteps.{spliced-here, spliced-named}
use Rattle.ckr_desk_turn.specs.Queue.{AreNumbered}
use Rattle.ckr_desk_turn.proofs.Queue.Events.{run_number}
use Rattle.ckr_desk_memory.proofs.Holders.KeptEntries.{kept-put_back}
use Rattle.ckr_desk_memory.proofs.Holders.OwnEntries.{kept-weaker}
use Rattle.ckr_desk_memory.proofs.Holders.Moves.{IsOwnOf, RowGoesOn, each-entry, WasKept, each-through, own-kin, reached-named, row-as_is, row-next, single-through, was-kept}
use Rattle.ckr_desk_memory.proofs.Holders.Names.{IsActing, changed-named, own-reached}
use Rattle.ckr_desk_memory.proofs.Invariant.{idle_queued, unplaced-queued}
use Rattle.ckr_desk_memory.proofs.Starts.Steps.{row-among}
use Rattle.ckr_desk_memory.specs.Holders.{AreHolders, AreOfDeck, AreOwn, AreSingleEntries, EachEntryKept, EachKept, HasChanged, HasOwnEffect, IsOwnEntry, IsStartPassed, KeepsOwnEntries, changed_names, reached_names, steps_begun}
use Rattle.ckr_desk_memory.specs.Invariant.{IsPlacedRow}

-- the entry that is found is the only one of its identifier
single-found : (entries : List KeptEntry) (id : Name) (found : KeptEntry) → AreSingleEntries entries → find (λ (entry : KeptEntry). same_name entry.kept.id id) entries ≡ Some found → AllByRecursion (λ (entry : KeptEntry). same_name entry.kept.id id ≡ true → entry ≡ found) entries
single-found [] id found single at = absurd (some-not-none found (sym at))
single-found (first ∷ rest) id found single at = by (λ later. single-found rest id found single.1 later) (same_name first.kept.id id) refl at
  where
    by : (find (λ (entry : KeptEntry). same_name entry.kept.id id) rest ≡ Some found → AllByRecursion (λ (entry : KeptEntry). same_name entry.kept.id id ≡ true → entry ≡ found) rest)
        → (same : Bool) → same_name first.kept.id id ≡ same → cond same (Some first) (find (λ (entry : KeptEntry). same_name entry.kept.id id) rest) ≡ Some found
        → AllByRecursion (λ (entry : KeptEntry). same_name entry.kept.id id ≡ true → entry ≡ found) (first ∷ rest)
    by later true same is = (λ again. same_Some first found is, others rest single.0)
      where
        others : (entries : List KeptEntry) → AllByRecursion (λ (other : KeptEntry). same_name other.kept.id first.kept.id ≡ false) entries → AllByRecursion (λ (entry : KeptEntry). same_name entry.kept.id id ≡ true → entry ≡ found) entries
        others [] apart = tt
        others (other ∷ more) apart = ((λ its. absurd (false≢true (sym apart.0 ∙ ap (same_name other.kept.id) (name-same first.kept.id id same) ∙ its))), others more apart.1)
    by later false other is = ((λ same. absurd (false≢true (sym other ∙ same))), later is)

module _ (layout : Layout) (tables : TablesModel) (rows : AreNumbered 1 tables.runs) (placed : AllByRecursion IsPlacedRow tables.runs) (are : AreHolders tables) (job initiator before step : ℕ) (id : Option Name)
    (its : MayContinue layout tables job initiator (suc before) step id) where
  numbered : (number : ℕ) (row : RunRow) → run_of tables number ≡ Some row → row.number ≡ number
  numbered number row at = run_number tables number row rows at

  -- what has no laws of its own on any disk isn't asked here
  abbrev pub office : Office
  office = record { tables = tables; library = []; legs = [] }

  abbrev pub root : ℕ
  root = its.other.job.root

  kin : AreKin tables its.other
  kin = are.kin (suc before) its.other its.other_at

  on : is_ended its.row.state ≡ false
  on = ap is_ended (queued-is its.row.state its.queued)

  is_placed : IsPlacedRow its.row
  is_placed = row-among IsPlacedRow tables job its.row placed its.row_at

  -- ---- the run behind its selection

  module _ (coming : Coming) where
    abbrev pub next : RunRow
    next = row_then office its.row its.other step its.point initiator coming

    here : step_of_run next step ≡ Some its.owned
    here = spliced-here its.other.job step its.row.number its.row.deck its.owned its.found

    -- the names of the step are its own
    step-own : (name : Name) → is_among (names_of root its.owned) name ≡ true → is_among (own_names next) name ≡ true
    step-own name among = by step here
      where
        by : (number : ℕ) → step_at next.job number ≡ Some its.owned → is_among (names_of_steps next.job.root (drop (pred number) next.job.steps)) name ≡ true
        by zero e = absurd (some-not-none its.owned (sym e))
        by (suc place) e = among-behind next.job.root place place next.job.steps its.owned name (omega arith) e among

    kin-next : AreKin tables next
    kin-next = kin-then layout office job initiator before step id its [] [] numbered coming kin

    named-next : AreOfDeck tables next
    named-next = own-so layout office job initiator before step id its [] [] numbered coming kin

    acts : IsActing tables job next
    acts = record {
      row = its.row;
      row_at = its.row_at;
      on = on;
      root = kin-next.root;
      named = reached-named tables next (own-kin tables job its.row its.row_at (numbered job its.row its.row_at)) named-next;
      plain = λ none. absurd (some-not-none its.restart (sym its.has ∙ none));
      number_is = refl;
      deck_is = refl;
    }

    -- of what was passed on as made it has lost all that it doesn't reach
    own-passed : (marks : List Mark) (sets : Named TableSet) → coming.lost ≡ lost_names marks (reached_names next) sets coming.passed → AreOwn next coming.passed
    own-passed marks sets lost name out =
        bool-cases (is_among (passed_made (without_passed coming.lost coming.passed)) name)
        (λ made.
        let both : (not (is_among coming.lost name) && is_among (passed_made coming.passed) name) ≡ true = sym (made-without coming.lost coming.passed name) ∙ made in
        absurd (false≢true (
        sym out
        ∙ and-first (is_among (reached_names next) name) _
        (kept-exists marks (reached_names next) sets name coming.passed
        (ap (λ names. is_among names name) (sym lost) ∙ not-true (is_among coming.lost name) (and-first (not (is_among coming.lost name)) _ both))
        (and-second (not (is_among coming.lost name)) _ both)))))
        (λ none. none)

    -- ---- what is put back

    module _ (marks : List Mark) (needed removed : List Name) (needed_own : (name : Name) → is_among needed name ≡ true → is_among (own_names next) name ≡ true) (removed_own : (name : Name) → is_among removed name ≡ true → is_among (own_names next) name ≡ true)
        (same : coming.passed ≡ its.point.passed) (lost : coming.lost ≡ lost_names marks (reached_names next) (sets_then office its.other its.owned marks needed removed) coming.passed) where
      abbrev pub sets : Named TableSet
      sets = sets_then office its.other its.owned marks needed removed

      neither : (names : List Name) → ((name : Name) → is_among names name ≡ true → is_among (own_names next) name ≡ true) → (name : Name) → is_among (reached_names next) name ≡ false → is_among names name ≡ false
      neither names own name out = bool-cases (is_among names name) (λ among. absurd (false≢true (sym out ∙ own-reached next name (own name among)))) (λ none. none)

      outside-back : (name : Name) → is_among (reached_names next) name ≡ false → entry_at sets name ≡ entry_at tables.sets name
      outside-back name out =
          put_back-apart marks (output_names root its.owned) needed (removed_all removed tables.sets) name
          (neither (output_names root its.owned) (λ name output. step-own name (outputs-among root its.owned name output)) name out) (neither needed needed_own name out)
          ∙ at-removed_all removed tables.sets name
          ∙ ap (λ b. cond b None (entry_at tables.sets name)) (neither removed removed_own name out)

      -- the step's point has passed on what the run has
      passed-start : IsStartPassed next step coming.passed
      passed-start = record {
        start = carried_point next.job tables.sets its.point;
        at = ap (λ b. cond b (Some (carried_point next.job tables.sets its.point)) None) (find-passes (λ (point : StartPoint). point.step == step) its.other.points its.point its.at_point);
        same = same;
      }

      -- no entry is of the run before it is selected
      none-own : KeepsOwnEntries tables.sets its.row → EachEntryKept (λ set entry. entry.point.run ≡ its.row.number → ⊥) tables.sets
      none-own own =
          each-entry (IsOwnOf its.row) (λ set entry. entry.point.run ≡ its.row.number → ⊥) tables.sets
          (λ set entry is run.
          let entry_is = (is run).0 in
          let begun = subst (λ place. entry.point.step < steps_begun (option_map_or (λ (place : Place). place) place (Before 1))) (unplaced-queued its.row its.queued is_placed) entry_is.begun in
          omega (arith, begun, entry_is.first)) own

      entries-back : (P : Name → KeptEntry → Type 0) → EachEntryKept P tables.sets → EachEntryKept P sets
      entries-back P each =
          put_back-has (λ set table. AllByRecursion (P set) table.entries) (each-through P) marks (output_names root its.owned) needed (removed_all removed tables.sets)
          (removed_all-has (λ set table. AllByRecursion (P set) table.entries) (each-through P) removed tables.sets each)

      single-back : (set : Name) (table : TableSet) → entry_at sets set ≡ Some table → AreSingleEntries table.entries
      single-back =
          put_back-has (λ set table. AreSingleEntries table.entries) single-through marks (output_names root its.owned) needed (removed_all removed tables.sets)
          (removed_all-has (λ set table. AreSingleEntries table.entries) single-through removed tables.sets are.single)

      module _ (stands : step_in coming.place ≡ step) (effects : (effect : EffectPoint) → coming.effect ≡ Some effect → HasOwnEffect sets next effect) (changed : HasChanged sets next) where
        -- By its selection it goes on so.
        pub continues : RowGoesOn tables (with_run next (record tables { sets = sets })) job
        continues = record {
          row = its.row;
          next = next;
          acting = next;
          row_at = its.row_at;
          rows = row-next tables tables job its.row next sets (row-as_is tables job its.row its.row_at) (numbered job its.row its.row_at);
          number = refl;
          deck = refl;
          on = on;
          acts = λ given. acts;
          kin = λ given. kin-next;
          named = λ given. named-next;
          steps = λ given. spliced-named its.row.number its.row.deck its.other.job step its.owned its.mine its.found its.its its.same;
          begins = λ was now. its.may;
          passed = λ given. record {
            passed = own-passed marks sets lost;
            points = λ ends. (subst (AreOwn next) same (own-passed marks sets lost), tt);
            effect = effects;
          };
          start = λ given ends at. subst (λ n. IsStartPassed next n coming.passed) (sym stands) passed-start;
          entries = λ given. entries-back (IsOwnOf next) (each-entry (λ set entry. entry.point.run ≡ its.row.number → ⊥) (IsOwnOf next) tables.sets (λ set entry none run. absurd (none run)) (none-own (are.entries job its.row its.row_at)));
          single = λ given. single-back;
          wrote = λ given. entries-back (λ set entry. WasKept tables.sets set entry ⊎ (entry.point.run ≡ job)) (was-kept tables.sets (λ set entry. entry.point.run ≡ job));
          still = λ was now. absurd (false≢true (sym now));
          outside = λ own. outside-back;
          changed = λ was. changed;
        }

    -- the needed names are its own
    needed-own : (marks : List Mark) (name : Name) → is_among (needed_names next.job step marks) name ≡ true → is_among (own_names next) name ≡ true
    needed-own marks name among =
        and-second (is_some (mark_at marks name)) _ (sym (among-filter (λ name. is_some (mark_at marks name)) (own_names next) name) ∙ among)

-- ---- at the start of the step

module _ (layout : Layout) (tables : TablesModel) (rows : AreNumbered 1 tables.runs) (placed : AllByRecursion IsPlacedRow tables.runs) (are : AreHolders tables) (job initiator before step : ℕ) (its : MayContinue layout tables job initiator (suc before) step None) where
  abbrev first : RunRow
  first = continued_row its.row its.other step its.point initiator tables.sets

  abbrev sysout : List Name
  sysout = sysout_names its.other.job.root its.owned

  abbrev needed : List Name
  needed = without_names sysout (needed_names first.job step its.point.marks)

  abbrev removed : List Name
  removed = made_names its.point.marks sysout

  abbrev coming : Coming
  coming = record {
    place = Opened step;
    count = its.point.count;
    passed = its.point.passed;
    lost = lost_names its.point.marks (reached_names first) (put_back its.point.marks (output_names its.other.job.root its.owned) needed (removed_all removed tables.sets)) its.point.passed;
    effect = its.row.in_effect;
  }

  pub continues-start : RowGoesOn tables (after_continued_at first its.owned step its.point None tables) job
  continues-start =
      continues layout tables rows placed are job initiator before step None its coming its.point.marks needed removed
      (λ name among. needed-own layout tables rows placed are job initiator before step None its coming its.point.marks name
      (and-second (not (is_among sysout name)) _ (sym (among-filter (λ name. not (is_among sysout name)) (needed_names first.job step its.point.marks) name) ∙ among)))
      (λ name among. step-own layout tables rows placed are job initiator before step None its coming name
      (sysout-listed its.other.job.root its.owned name its.owned.step.dds
      (and-second (is_marked_absent its.point.marks name) _ (sym (among-filter (is_marked_absent its.point.marks) sysout name) ∙ among))))
      refl refl refl
      (λ effect is. absurd (some-not-none effect (sym is ∙ is_none-true its.row.in_effect (idle_queued its.row its.queued (row-among IsPlacedRow tables job its.row placed its.row_at)))))
      (λ owned name holding within. absurd (false≢true within))

-- ---- at a checkpoint

-- what holds of each entry holds of the one that is found
entry-found : (P : Name → KeptEntry → Type 0) (sets : Named TableSet) (set id : Name) (entry : KeptEntry) → EachEntryKept P sets → kept_at sets set id ≡ Some entry → P set entry
entry-found P sets set id entry each found = by (entry_at sets set) refl found
  where
    by : (o : Option TableSet) → entry_at sets set ≡ o → option_map_or (λ (table : TableSet). find (λ (entry : KeptEntry). same_name entry.kept.id id) table.entries) o None ≡ Some entry → P set entry
    by None at is = absurd (some-not-none entry (sym is))
    by (Some table) at is = find-holds (P set) (λ (entry : KeptEntry). same_name entry.kept.id id) table.entries entry (each set table at) is

-- a mark that is present
present-mark : (marks : List Mark) (name : Name) (present : Present) → present_at marks name ≡ Some present → (mark : Mark) × (mark_at marks name ≡ Some mark) × (mark.present ≡ Some present)
present-mark marks name present is = by (mark_at marks name) refl is
  where
    by : (found : Option Mark) → mark_at marks name ≡ found → option_map_or (λ (mark : Mark). mark.present) found None ≡ Some present → (mark : Mark) × (mark_at marks name ≡ Some mark) × (mark.present ≡ Some present)
    by None at is = absurd (some-not-none present (sym is))
    by (Some mark) at is = (mark, at, is)

-- a name that still exists is there
exists-there : (marks : List Mark) (named : List Name) (sets : Named TableSet) (name : Name) → still_exists marks named sets name ≡ true → is_some (entry_at sets name) ≡ true
exists-there marks named sets name exists = by (present_at marks name) (entry_at sets name) (and-second (is_among named name) _ exists)
  where
    by : (present : Option Present) (entry : Option TableSet) → option_map_or (λ (present : Present). option_map_or (λ (table : TableSet). is_as_marked table present) entry false) present false ≡ true → is_some entry ≡ true
    by None entry e = absurd (false≢true e)
    by (Some present) None e = absurd (false≢true e)
    by (Some present) (Some table) e = refl

module _ (layout : Layout) (tables : TablesModel) (rows : AreNumbered 1 tables.runs) (placed : AllByRecursion IsPlacedRow tables.runs) (are : AreHolders tables) (job initiator before step : ℕ) (id : Name)
    (its : MayContinue layout tables job initiator (suc before) step (Some id)) where
  abbrev begun : RunRow
  begun = continued_row its.row its.other step its.point initiator tables.sets

  abbrev set : Name
  set = syschk_name its.row.deck

  module _ (entry : KeptEntry) (kept : kept_at tables.sets set id ≡ Some entry) where
    abbrev needs : List Name
    needs = needed_names begun.job step entry.point.marks

    abbrev later : Coming
    later = record {
      place = Within step entry.point.writes;
      count = entry.point.count;
      passed = entry.point.passed;
      lost = lost_names entry.point.marks (reached_names begun) (put_back entry.point.marks (output_names its.other.job.root its.owned) needs tables.sets) entry.point.passed;
      effect = Some (fresh_effect set entry.kept);
    }

    -- the earlier run wrote it, in the step
    of_step : (entry.point.run ≡ its.other.number) × (entry.point.step ≡ step)
    of_step = subst (IsEntryOf its.other step (Some id)) kept its.entry

    own : IsOwnEntry its.other set entry.point
    own = (entry-found (IsOwnOf its.other) tables.sets set id entry (are.entries (suc before) its.other its.other_at) kept of_step.0).0

    same : entry.point.passed ≡ its.point.passed
    same =
        own.passed.same
        ∙ ap (λ (start : StartPoint). start.passed)
        (some-one own.passed.start its.point (point_at its.other.points step) (ap (point_at its.other.points) (sym of_step.1) ∙ own.passed.at) its.at_point)

    its_id : entry.kept.id ≡ id
    its_id = name-same entry.kept.id id (by (entry_at tables.sets set) refl kept)
      where
        by : (o : Option TableSet) → entry_at tables.sets set ≡ o → option_map_or (λ (table : TableSet). find (λ (entry : KeptEntry). same_name entry.kept.id id) table.entries) o None ≡ Some entry → same_name entry.kept.id id ≡ true
        by None at is = absurd (some-not-none entry (sym is))
        by (Some table) at is = find-passes (λ (entry : KeptEntry). same_name entry.kept.id id) table.entries entry is

    abbrev run : RunRow
    run = row_then (office layout tables rows placed are job initiator before step (Some id) its) its.row its.other step its.point initiator later

    abbrev there : Named TableSet
    there = put_back entry.point.marks (output_names its.other.job.root its.owned) needs tables.sets

    -- it is the only entry of its identifier
    only : EachKept (λ other. same_name other.kept.id entry.kept.id ≡ true → other ≡ entry) tables.sets set
    only table at =
        subst (λ id. AllByRecursion (λ (other : KeptEntry). same_name other.kept.id id ≡ true → other ≡ entry) table.entries) (sym its_id)
        (single-found table.entries id entry (are.single set table at)
        (sym (ap (λ (o : Option TableSet). option_map_or (λ (table : TableSet). find (λ (entry : KeptEntry). same_name entry.kept.id id) table.entries) o None) at) ∙ kept))

    needs-own : (name : Name) → is_among needs name ≡ true → is_among (own_names run) name ≡ true
    needs-own = needed-own layout tables rows placed are job initiator before step (Some id) its later entry.point.marks

    none-own-name : (name : Name) → is_among [] name ≡ true → is_among (own_names run) name ≡ true
    none-own-name name among = absurd (false≢true among)

    in_effect : HasOwnEffect there run (fresh_effect set entry.kept)
    in_effect = record {
      holds = refl;
      within = refl;
      owned = its.owned;
      found = here layout tables rows placed are job initiator before step (Some id) its later;
      changes = own.changes its.owned (ap (step_at its.other.job) of_step.1 ∙ its.found);
      entries =
          kept-put_back (λ other. same_name other.kept.id entry.kept.id ≡ true → IsStartPassed run step other.point.passed) entry.point.marks (output_names its.other.job.root its.owned) needs tables.sets set
          (kept-weaker (λ other. same_name other.kept.id entry.kept.id ≡ true → other ≡ entry) (λ other. same_name other.kept.id entry.kept.id ≡ true → IsStartPassed run step other.point.passed) tables.sets set
          (λ other is again. subst (λ (other : KeptEntry). IsStartPassed run step other.point.passed) (sym (is again)) begun-passed) only);
    }
      where
        begun-passed : IsStartPassed run step entry.point.passed
        begun-passed = passed-start layout tables rows placed are job initiator before step (Some id) its later entry.point.marks needs [] needs-own none-own-name same refl

    -- what the step may change is there: the entry marks it, and the rules found it fresh
    changes-there : HasChanged there run
    changes-there owned name holding within found among =
        let mine : is_among (names_of its.other.job.root its.owned) name ≡ true =
        changed-named its.other.job.root its.owned name
        (subst (λ (own : OwnedStep). is_among (changed_names its.other.job.root own) name ≡ true) (some-one owned its.owned (step_of_run run step) found (here layout tables rows placed are job initiator before step (Some id) its later)) among) in
        is_some-true (present_at entry.point.marks name) (marked name mine)
        (λ present at_present.
        let mark = present-mark entry.point.marks name present at_present in
        exists-there entry.point.marks (names_of its.other.job.root its.owned) there name
        (fresh-exists its.other.job.root its.owned needs (names_of its.other.job.root its.owned) entry.point.marks tables.sets tables.sets (fresh-entry layout tables job initiator (suc before) step id its entry kept) name refl
        mark.0 present mark.1 mark.2
        (among-filter (λ name. is_some (mark_at entry.point.marks name)) (own_names run) name
        ∙ and_from (is_some (mark_at entry.point.marks name)) _ (ap is_some mark.1) (step-own layout tables rows placed are job initiator before step (Some id) its later name mine))
        mine))
      where
        all : has_present_marks its.other its.owned entry.point ≡ true
        all = ap (λ (o : Option KeptEntry). option_map_or (λ entry. has_present_marks its.other its.owned entry.point) o false) (sym kept) ∙ its.marks

        marked : (name : Name) → is_among (names_of its.other.job.root its.owned) name ≡ true → is_some (present_at entry.point.marks name) ≡ true
        marked name mine =
            let at = all-at (λ name. is_some (present_at entry.point.marks name)) (same_name name) (names_of its.other.job.root its.owned) all mine in
            ap (λ name. is_some (present_at entry.point.marks name)) (name-same name at.0 at.2) ∙ at.1

    goes-on-at : RowGoesOn tables (with_run run (record tables { sets = there })) job
    goes-on-at =
        continues layout tables rows placed are job initiator before step (Some id) its later entry.point.marks needs [] needs-own none-own-name same refl refl
        (λ effect is. subst (HasOwnEffect there run) (same_Some (fresh_effect set entry.kept) effect is) in_effect) changes-there

  pub continues-entry : RowGoesOn tables (after_continued_at begun its.owned step its.point (Some id) tables) job
  continues-entry = by (kept_at tables.sets set id) refl
    where
      by : (found : Option KeptEntry) → kept_at tables.sets set id ≡ found → RowGoesOn tables (option_map_or (λ entry. after_entry_continued begun its.owned step set entry tables) found tables) job
      by None none = absurd (subst (IsEntryOf its.other step (Some id)) none its.entry)
      by (Some entry) kept = goes-on-at entry kept

-- By its selection a run that continues another one goes on so.
pub continued-goes : (layout : Layout) (tables : TablesModel) → AreNumbered 1 tables.runs → AllByRecursion IsPlacedRow tables.runs → AreHolders tables → (job initiator before step : ℕ) (id : Option Name) (deck : Option Job) → follows layout tables (Selected job initiator (suc before) step id) deck ≡ true
    → RowGoesOn tables (after_event (Selected job initiator (suc before) step id) deck tables) job
continued-goes layout tables rows placed are job initiator before step id deck follow = by id its
  where
    its : MayContinue layout tables job initiator (suc before) step id
    its = may-continue layout tables job initiator (suc before) step id (λ none. omega (arith, none)) follow

    by : (id : Option Name) (its : MayContinue layout tables job initiator (suc before) step id) → RowGoesOn tables (after_event (Selected job initiator (suc before) step id) deck tables) job
    by None its =
        subst (λ after. RowGoesOn tables after job) (sym (after-selected layout tables job initiator before step None deck its)) (continues-start layout tables rows placed are job initiator before step its)
    by (Some id) its =
        subst (λ after. RowGoesOn tables after job) (sym (after-selected layout tables job initiator before step (Some id) deck its)) (continues-entry layout tables rows placed are job initiator before step id its)
