-- One more event keeps what is counted.
use Rattle.std.proofs.Common.{◌≡◌, ◌≢◌, ℕ, zero, suc, true, false, not, ◌&&◌, if◌then◌else◌, List, [], ◌∷◌, ◌++◌, map, length, refl, ap, sym, ◌∙◌, subst, append_assoc, append-nil, arith, Option, Some, None}
use Rattle.std.specs.Prelude.{◌==◌, nat_lt}
use Rattle.std.specs.List.{AllByRecursion, list_all}
use Rattle.std.specs.Option.{option_map_or}
use Rattle.std.proofs.lemmas.Bool.{and_from, false≢true, not-true}
use Rattle.std.proofs.lemmas.Option.{slice_get_past}
use Rattle.arrayvec.specs.ArrayVec.{ArrayVec}
use Rattle.ckr_base.proofs.Bools.{and-first, and-second, bool-cases}
use Rattle.ckr_base.proofs.Numbers.{equal-itself, equal-true, number-cases}
use Rattle.ckr_base.proofs.Options.{some-not-none}
use Rattle.ckr_base.proofs.Sequences.{each-append}
use Rattle.ckr_base.specs.declared.code.Code.{Code}
use Rattle.ckr_events.specs.declared.event.Ending.{Ending}
use Rattle.ckr_events.specs.declared.event.Event.{Event}
use Rattle.ckr_events.specs.declared.event.Event.TheVariants.{Checkpointed, Ended, Held, Restarted, Rewritten, Selected, Started, StepEnded, Submitted}
use Rattle.ckr_events.specs.declared.event.Made.{Made}
use Rattle.ckr_events.specs.Jobs.{job_of}
use Rattle.ckr_jcl.specs.declared.deck.Job.{Job}
use Rattle.ckr_library.specs.declared.sets.Kept.{Kept}
use Rattle.ckr_library.specs.NameMaps.{Name, Named}
use Rattle.ckr_library.proofs.Named.{each-with_changed}
use Rattle.ckr_meaning.specs.Allotments.{DdAllotment, opened_all}
use Rattle.ckr_meaning.specs.EffectiveJob.{OwnedStep, placed_in, stamp_of}
use Rattle.ckr_meaning.specs.declared.place.Place.TheVariants.{Within}
use Rattle.ckr_points_library.specs.Commit.{output_names}
use Rattle.ckr_points.specs.declared.run.RunState.TheVariants.{Held as HeldRun, On}
use Rattle.ckr_points.specs.Events.{AreSound, AreSoundFrom, IsNext}
use Rattle.ckr_points.specs.Follows.{is_checkpoint, is_empty, is_in_state, is_running, lengths_follow, of_step}
use Rattle.ckr_points.specs.Marks.{with_point}
use Rattle.ckr_points.specs.Office.{Office, leg_of, no_office, office, office_after, office_from}
use Rattle.ckr_points.specs.Restart.{Decked, after_ended, by_step}
use Rattle.ckr_points.specs.Rows.{KeptEntry, RunRow, StartPoint, TableSet, TablesModel, run_of, standing_of, step_of_run, table_ways, with_row, with_run}
use Rattle.ckr_points.specs.Tables.{after_checkpointed, after_commit, after_held, after_rewritten, after_started, after_step_ended, entry_point, fresh_effect, is_checkpoints, is_updates, kept_entry, made_tables, name_with_role, point_rewritten, queued_run, row_rewritten, start_point, with_kept_entry}
use Rattle.ckr_volumes.specs.declared.layout.Layout.{Layout}
use Rattle.ckr_points_invariant.specs.Continuations.{NoneGoesBack, goes_back}
use Rattle.ckr_points_invariant.specs.Counts.{AreCounted, AreEntriesCounted, ArePointsCounted, AreStepsCounted, ComesBehind, IsEntryCounted, IsRunCounted, IsStartOf, IsWritingOf, entries_by, is_entry_of}
use Rattle.ckr_points_invariant.specs.Invariant.{IsAgreed, step_now}
use Rattle.ckr_points_invariant.proofs.Counts.Lists.{all-except, comes-last, counted-more, entries-one, entries-other, entries_kept-more, fewer, steps-more}
use Rattle.ckr_points_invariant.proofs.Points.Rows as rows
use Rattle.ckr_points_invariant.proofs.Points.Sets as sets
use Rattle.ckr_points_invariant.proofs.Select.Invariant.{led_there, next as next_row, waits}
use Rattle.ckr_points_invariant.proofs.EventList.{sound-front}
use Rattle.ckr_points_invariant.proofs.WaitingRuns.{by-selected, follows-of, no_leg, tested-run}
use Rattle.ckr_points_invariant.proofs.Stamps.Tables.{each-weaker}
use Rattle.ckr_points_invariant.proofs.Steps.Events.{led-by, on-holds, step-by}
use Rattle.ckr_points_invariant.specs.KeptEvents.{AreKept}
use Rattle.ckr_points_invariant.proofs.KeptEvents.{next-kept, none-kept}

-- ---- points of one run

rewritten : (all : List Decked) (run step : ℕ) (points : List StartPoint) → AreStepsCounted all run points → AreStepsCounted all run (map (point_rewritten step) points)
rewritten all run step [] each = tt
rewritten all run step (first ∷ rest) each =
    elim (first.step == step) as (λ b. AreStepsCounted all run ((if b then record first { rewritten = true } else first) ∷ map (point_rewritten step) rest)) [
      | true ↦ (each.0, rewritten all run step rest each.1)
      | false ↦ (each.0, rewritten all run step rest each.1)
    ]

with_point-counted : (all : List Decked) (run : ℕ) (point : StartPoint) (points : List StartPoint) → ComesBehind all run (IsStartOf run point.step) point.count → AreStepsCounted all run points → AreStepsCounted all run (with_point point points)
with_point-counted all run point [] one each = (one, tt)
with_point-counted all run point (first ∷ rest) one each =
    elim (point.step == first.step) as (λ b. AreStepsCounted all run (if b then point ∷ rest else (if nat_lt point.step first.step then point ∷ first ∷ rest else first ∷ with_point point rest))) [
      | true ↦ (one, each.1)
      | false ↦ elim (nat_lt point.step first.step) as (λ b. AreStepsCounted all run (if b then point ∷ first ∷ rest else first ∷ with_point point rest)) [
        | true ↦ (one, each)
        | false ↦ (each.0, with_point-counted all run point rest one each.1)
      ]
    ]

-- ---- what an event makes of tables whose points count these events

module _ (all : List Decked) (tables : TablesModel) (are : ArePointsCounted all tables) where
  abbrev R : ℕ → ℕ → List StartPoint → Type 0
  R = IsRunCounted all

  abbrev E : List KeptEntry → Type 0
  E = AreEntriesCounted all

  row-same : (job : ℕ) (change : RunRow → RunRow) → ((row : RunRow) → rows.RowHolds R E tt (fewer all) row → rows.RowHolds R E tt (fewer all) (change row)) → ArePointsCounted all (option_map_or (λ row. with_run (change row) tables) (run_of tables job) tables)
  row-same job change keeps =
      rows.by-row R E tt (fewer all) tables job (λ row. with_run (change row) tables) are
      (λ row mine. rows.run-holds R E tt (fewer all) (change row) tables (keeps row mine) are)

  held : (job writes : ℕ) (code : Code) (lengths : List ℕ) → ArePointsCounted all (option_map_or (λ row. by_step (λ owned step. after_held row owned step code writes lengths tables) row tables) (run_of tables job) tables)
  held job writes code lengths =
      rows.by-step R E tt (fewer all) tables job (λ row owned step. after_held row owned step code writes lengths tables) are
      (λ row owned mine. rows.commit-holds R E tt (fewer all) tables (record row { state = HeldRun; initiator = None; code = Some code }) owned (step_now row) writes lengths are mine)

  rewrote : (job writes : ℕ) (lengths : List ℕ) → ArePointsCounted all (option_map_or (λ row. by_step (λ owned step. after_rewritten row owned step writes lengths tables) row tables) (run_of tables job) tables)
  rewrote job writes lengths =
      rows.by-step R E tt (fewer all) tables job (λ row owned step. after_rewritten row owned step writes lengths tables) are
      (λ row owned mine.
      let done : TablesModel = after_commit (row_rewritten (step_now row) row) owned (step_now row) writes lengths tables in
      let so : ArePointsCounted all done =
      rows.commit-holds R E tt (fewer all) tables (row_rewritten (step_now row) row) owned (step_now row) writes lengths are
      (record { counts = mine.counts; steps = rewritten all row.number (step_now row) row.points mine.steps }) in
      rows.sets-hold R E tt (fewer all) done _ (sets.rewritten-holds E tt (fewer all) (name_with_role row.job.root owned is_updates) owned.owner (step_now row) done.sets so.entries) so)

  step_ended : (job rc writes : ℕ) (lengths : List ℕ) → ArePointsCounted all (option_map_or (λ row. by_step (λ owned step. after_step_ended row owned step rc writes lengths tables) row tables) (run_of tables job) tables)
  step_ended job rc writes lengths =
      rows.by-step R E tt (fewer all) tables job (λ row owned step. after_step_ended row owned step rc writes lengths tables) are
      (λ row owned mine. rows.step_ended-holds R E tt (fewer all) tables row owned (step_now row) rc writes lengths are mine)

  ended : (job : ℕ) (ending : Ending) → ArePointsCounted all (option_map_or (λ row. after_ended row ending tables) (run_of tables job) tables)
  ended job ending =
      rows.by-row R E tt (fewer all) tables job (λ row. after_ended row ending tables) are
      (λ row mine. rows.ended-holds R E tt (fewer all) row ending tables are mine)

  started : (job step : ℕ) (items : List Made) → ((row : RunRow) → run_of tables job ≡ Some row → ComesBehind all row.number (IsStartOf row.number step) row.count)
      → ArePointsCounted all (option_map_or (λ row. option_map_or (λ owned. after_started row owned step items tables) (step_of_run row step) tables) (run_of tables job) tables)
  started job step items comes =
      rows.by R E tt (fewer all) tables (λ row. option_map_or (λ owned. after_started row owned step items tables) (step_of_run row step) tables) (run_of tables job)
      (λ row at. rows.by R E tt (fewer all) tables (λ owned. after_started row owned step items tables) (step_of_run row step)
      (λ owned found.
      let placed : List DdAllotment = placed_in table_ways (standing_of row tables) row.job.root owned in
      let opened : Named TableSet = opened_all table_ways (stamp_of owned step) placed tables.sets in
      let mine : IsRunCounted all row.number row.count row.points = rows.row-holds R E tt (fewer all) tables job row are at in
      rows.run-holds R E tt (fewer all) (record row { place = Some (Within step 0); points = with_point (start_point row step opened) row.points })
      (record tables { sets = made_tables (stamp_of owned step) items placed opened })
      (record { counts = mine.counts; steps = with_point-counted all row.number (start_point row step opened) row.points (comes row at) mine.steps })
      (rows.sets-hold R E tt (fewer all) tables _
      (sets.made_all-holds E tt (fewer all) (stamp_of owned step) items placed opened
      (sets.opened_all-holds E tt (fewer all) (stamp_of owned step) placed tables.sets are.entries)) are)) are) are

-- ---- one more event

module _ (layout : Layout) (now : Office) (events : List Decked) (kept : IsAgreed layout now) (are : AreCounted events now) where
  -- one that writes no entry, and changes no leg
  abbrev more : (event : Decked) → ((run : ℕ) → is_entry_of run event.0 ≡ false) → ArePointsCounted (events ++ event ∷ []) now.tables
  more event isnt = counted-more events event now.tables isnt are.points

  abbrev unled-more : (event : Decked) → ((run : ℕ) → is_entry_of run event.0 ≡ false) → (run : ℕ) → leg_of now run ≡ None → entries_by run (events ++ event ∷ []) ≡ 0
  unled-more event isnt run none = entries-other run events event (isnt run) ∙ are.unled run none

  submitted : (job : ℕ) (cards : List ℕ) (deck : Option Job) → IsNext layout now (Submitted job cards, deck) → AreCounted (events ++ (Submitted job cards, deck) ∷ []) (office_after (Submitted job cards, deck) now)
  submitted job cards None next = record { points = more (Submitted job cards, None) (λ run. refl); unled = unled-more (Submitted job cards, None) (λ run. refl) }
  submitted job cards (Some deck) next =
      let event : Decked = (Submitted job cards, Some deck) in
      let so : ArePointsCounted (events ++ event ∷ []) now.tables = more event (λ run. refl) in
      let comes = follows-of layout now (Submitted job cards) (Some deck) next.may in
      let number : job ≡ suc (length now.tables.runs) = equal-true job (suc (length now.tables.runs)) (and-first (job == suc (length now.tables.runs)) _ (and-first (job == suc (length now.tables.runs) && not (is_empty cards)) _ comes)) in
      let alone : leg_of now job ≡ None = no_leg layout now job kept (ap (run_of now.tables) number ∙ slice_get_past now.tables.runs (length now.tables.runs) (omega arith)) in
      record {
        points = record {
          rows = each-append (λ (row : RunRow). IsRunCounted (events ++ event ∷ []) row.number row.count row.points) now.tables.runs (queued_run job deck ∷ []) so.rows
              (record { counts = sym (unled-more event (λ run. refl) job alone); steps = tt }, tt);
          entries = so.entries;
        };
        unled = unled-more event (λ run. refl);
      }

  selected : (job initiator step : ℕ) (id : Option Name) (deck : Option Job) → IsNext layout now (Selected job initiator 0 step id, deck) → AreCounted (events ++ (Selected job initiator 0 step id, deck) ∷ []) (office_after (Selected job initiator 0 step id, deck) now)
  selected job initiator step id deck come =
      let event : Decked = (Selected job initiator 0 step id, deck) in
      let all : List Decked = events ++ event ∷ [] in
      let so : ArePointsCounted all now.tables = more event (λ run. refl) in
      by-selected (AreCounted all) layout now job initiator step id deck kept come.may
      (λ row row_at queued plain free. record {
        points = rows.run-holds (IsRunCounted all) (AreEntriesCounted all) tt (fewer all) (next_row layout now row initiator kept row_at queued plain free) now.tables
            (rows.row-holds (IsRunCounted all) (AreEntriesCounted all) tt (fewer all) now.tables row.number row so row_at) so;
        unled = λ run none. unled-more event (λ run. refl) run
            (number-cases run row.number
            (λ same. ap (leg_of now) same ∙ (waits layout now row initiator kept row_at queued plain free).alone)
            (λ apart. sym (led_there layout now row initiator kept row_at queued plain free run apart) ∙ none));
      })

  started-next : (job step : ℕ) (items : ArrayVec Made) (deck : Option Job) → AreCounted (events ++ (Started job step items, deck) ∷ []) (office_after (Started job step items, deck) now)
  started-next job step items deck =
      let event : Decked = (Started job step items, deck) in
      record {
        points = started (events ++ event ∷ []) now.tables (more event (λ run. refl)) job step items.items
            (λ row at. comes-last events event row.number (IsStartOf row.number step) row.count (sym (kept.numbered job row at), refl)
            (rows.row-holds (IsRunCounted events) (AreEntriesCounted events) tt (fewer events) now.tables job row are.points at).counts);
        unled = unled-more event (λ run. refl);
      }

  -- ---- an entry is written

  module _ (job taken writes place bytes : ℕ) (id : Name) (lengths : ArrayVec ℕ) (deck : Option Job) where
    abbrev event : Decked
    event = (Checkpointed job id taken writes lengths place bytes, deck)

    abbrev all : List Decked
    all = events ++ event ∷ []

    abbrev entry : Kept
    entry = record { id = id; run = job; place = place; bytes = bytes }

    of-other : (run : ℕ) → run ≢ job → is_entry_of run event.0 ≡ false
    of-other run apart = bool-cases (run == job) (λ same. absurd (apart (equal-true run job same))) (λ isnt. isnt)

    entries-then : sets.EachHolds (AreEntriesCounted all) tt (fewer all) now.tables.sets
    entries-then =
        each-weaker (λ (table : TableSet). AreEntriesCounted events table.entries) (λ (table : TableSet). AreEntriesCounted all table.entries) now.tables.sets
        (λ table. entries_kept-more events event table.entries) are.points.entries

    module _ (row : RunRow) (at : run_of now.tables job ≡ Some row) (owned : OwnedStep) where
      abbrev set : Name
      set = name_with_role row.job.root owned is_checkpoints

      abbrev counted_row : RunRow
      counted_row = record row { count = suc row.count; in_effect = Some (fresh_effect set entry) }

      abbrev row_then : RunRow
      row_then = record counted_row { place = Some (Within (step_now row) writes) }

      abbrev done : TablesModel
      done = after_commit counted_row owned (step_now row) writes lengths.items now.tables

      number : row.number ≡ job
      number = kept.numbered job row at

      mine : IsRunCounted events row.number row.count row.points
      mine = rows.row-holds (IsRunCounted events) (AreEntriesCounted events) tt (fewer events) now.tables job row are.points at

      is_own : is_entry_of row.number event.0 ≡ true
      is_own = ap (λ n. n == job) number ∙ equal-itself job

      row-counted : IsRunCounted all row_then.number row_then.count row_then.points
      row-counted = record {
        counts = ap suc mine.counts ∙ sym (entries-one row.number events event is_own);
        steps = steps-more events event row.number row.points mine.steps;
      }

      rows-by : (number : ℕ) → row.number ≡ number → AllByRecursion (λ (one : RunRow). IsRunCounted all one.number one.count one.points) (with_row row_then number now.tables.runs)
      rows-by zero e = absurd (some-not-none row (sym (ap (run_of now.tables) (sym e ∙ number) ∙ at)))
      rows-by (suc before) e =
          all-except (λ (one : RunRow). IsRunCounted events one.number one.count one.points) (λ (one : RunRow). IsRunCounted all one.number one.count one.points) now.tables.runs before row_then row-counted
          (λ there one got apart its.
          let its_number : one.number ≡ suc there = kept.numbered (suc there) one got in
          record {
            counts = its.counts ∙ sym (entries-other one.number events event (of-other one.number (λ same. apart (unshifted there before (sym its_number ∙ same ∙ sym number ∙ e)))));
            steps = steps-more events event one.number one.points its.steps;
          }) are.points.rows
        where
          unshifted : (one other : ℕ) → suc one ≡ suc other → one ≡ other
          unshifted one other e = cc

      abbrev new_entry : KeptEntry
      new_entry = kept_entry entry (entry_point row owned (step_now row) taken writes done.sets)

      entry-counted : IsEntryCounted all new_entry
      entry-counted = record { before = row.count; counts = refl; comes = comes-last events event row.number (IsWritingOf entry) row.count refl mine.counts }

      taken-counted : ArePointsCounted all (after_checkpointed row owned (step_now row) entry taken writes lengths.items now.tables)
      taken-counted = record {
        rows = rows-by row.number refl;
        entries =
            each-with_changed (λ (table : TableSet). AreEntriesCounted all table.entries) set (with_kept_entry new_entry) done.sets
            (λ table its. each-append (IsEntryCounted all) table.entries (new_entry ∷ []) its (entry-counted, tt))
            (sets.committed-holds (AreEntriesCounted all) tt (fewer all) (output_names row.job.root owned) lengths.items now.tables.sets entries-then);
      }

    checkpointed : IsNext layout now event → AreCounted all (office_after event now)
    checkpointed come =
        tested-run now.tables job (λ row. is_running row && lengths_follow now.tables row lengths.items && of_step row (is_checkpoint now.tables id lengths.items place bytes row))
        (follows-of layout now (Checkpointed job id taken writes lengths place bytes) deck come.may)
        (λ row at passes.
        let early : (is_running row && lengths_follow now.tables row lengths.items) ≡ true = and-first (is_running row && lengths_follow now.tables row lengths.items) _ passes in
        let runs : is_running row ≡ true = and-first (is_running row) (lengths_follow now.tables row lengths.items) early in
        led-by layout now job row kept at (on-holds row.state (and-first (is_in_state On row) _ runs))
        (λ leg holder.
        step-by now.tables row lengths.items (and-second (is_running row) (lengths_follow now.tables row lengths.items) early)
        (λ owned found lengths_are. record {
          points =
              subst (λ (o : Option RunRow). ArePointsCounted all (option_map_or (λ row. by_step (λ owned step. after_checkpointed row owned step entry taken writes lengths.items now.tables) row now.tables) o now.tables)) (sym at)
              (subst (λ (o : Option OwnedStep). ArePointsCounted all (option_map_or (λ owned. after_checkpointed row owned (step_now row) entry taken writes lengths.items now.tables) o now.tables)) (sym found)
              (taken-counted row at owned));
          unled = λ run none. entries-other run events event (of-other run (λ same. some-not-none leg (sym holder.leg_at ∙ ap (leg_of now) (sym same) ∙ none))) ∙ are.unled run none;
        })))

  pub counted-next : (event : Event) (deck : Option Job) → goes_back event ≡ false → IsNext layout now (event, deck) → AreCounted (events ++ (event, deck) ∷ []) (office_after (event, deck) now)
  counted-next (Submitted job cards) deck on next = submitted job cards deck next
  counted-next (Selected job initiator zero step id) deck on next = selected job initiator step id deck next
  counted-next (Selected job initiator (suc before) step id) deck on next = absurd (false≢true (sym on))
  counted-next (Started job step items) deck on next = started-next job step items deck
  counted-next (Rewritten job taken writes lengths place image) deck on next = let event : Decked = (Rewritten job taken writes lengths place image, deck) in record {
    points = rewrote (events ++ event ∷ []) now.tables (more event (λ run. refl)) job writes lengths.items;
    unled = unled-more event (λ run. refl);
  }
  counted-next (Checkpointed job id taken writes lengths place bytes) deck on next = checkpointed job taken writes place bytes id lengths deck next
  counted-next (StepEnded job step rc writes lengths) deck on next = let event : Decked = (StepEnded job step rc writes lengths, deck) in record {
    points = step_ended (events ++ event ∷ []) now.tables (more event (λ run. refl)) job rc writes lengths.items;
    unled = unled-more event (λ run. refl);
  }
  counted-next (Restarted job initiator code checkpoint) deck on next = absurd (false≢true (sym on))
  counted-next (Held job code writes lengths) deck on next = let event : Decked = (Held job code writes lengths, deck) in record {
    points = held (events ++ event ∷ []) now.tables (more event (λ run. refl)) job writes code lengths.items;
    unled = unled-more event (λ run. refl);
  }
  counted-next (Ended job ending) deck on next = let event : Decked = (Ended job ending, deck) in record {
    points = ended (events ++ event ∷ []) now.tables (more event (λ run. refl)) job ending;
    unled = unled-more event (λ run. refl);
  }
  counted-next event deck on next = let one : Decked = (event, deck) in record {
    points = row-same (events ++ one ∷ []) now.tables (more one (λ run. refl)) (job_of event) _ (λ row mine. mine);
    unled = unled-more one (λ run. refl);
  }

-- ---- all of them, one after the other

front_on : (front more : List Decked) → NoneGoesBack (front ++ more) → NoneGoesBack front
front_on [] more on = refl
front_on (event ∷ rest) more on =
    and_from (not (goes_back event.0)) (list_all (λ (event : Decked). not (goes_back event.0)) rest) (and-first (not (goes_back event.0)) _ on)
    (front_on rest more (and-second (not (goes_back event.0)) _ on))

counted_from : (layout : Layout) (before events : List Decked) (now : Office) → AreSoundFrom layout now events → NoneGoesBack events → AreKept layout now → AreCounted before now → AreCounted (before ++ events) (office_from events now)
counted_from layout before [] now sound on are counted = subst (λ all. AreCounted all now) (sym (append-nil before)) counted
counted_from layout before (event ∷ rest) now sound on are counted =
    let next : IsNext layout now (event.0, event.1) = record { may = sound.0.may; carried = sound.0.carried } in
    let ahead : goes_back event.0 ≡ false = not-true (goes_back event.0) (and-first (not (goes_back event.0)) _ on) in
    subst (λ all. AreCounted all (office_from rest (office_after event now))) (append_assoc before (event ∷ []) rest)
    (counted_from layout (before ++ event ∷ []) rest (office_after event now) sound.1 (and-second (not (goes_back event.0)) _ on)
    (next-kept layout now are event.0 event.1 next) (counted-next layout now before are.kept.events counted event.0 event.1 ahead next))

pub sound-counted : (layout : Layout) (front more : List Decked) → AreSound layout (front ++ more) → NoneGoesBack (front ++ more) → AreCounted front (office front)
sound-counted layout front more sound on =
    counted_from layout [] front no_office (sound-front layout front more sound) (front_on front more on) (none-kept layout)
    (record { points = record { rows = tt; entries = tt }; unled = λ run none. refl })
