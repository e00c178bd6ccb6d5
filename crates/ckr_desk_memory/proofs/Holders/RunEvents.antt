-- What an event does to a run: its selection, its start of a step, its release, its restart, its end, and that it leaves the queue.
use Rattle.std.proofs.Common.{◌≡◌, ◌≤◌, ◌<◌, ℕ, true, false, List, [], refl, ap, sym, ◌∙◌, subst, Some, None}
use Rattle.std.specs.List.{AllByRecursion}
use Rattle.std.specs.Option.{option_map_or}
use Rattle.std.proofs.lemmas.Bool.{false≢true}
use Rattle.ckr_base.proofs.Options.{some-not-none, some-one}
use Rattle.ckr_events.specs.declared.event.Made.{Made}
use Rattle.ckr_library.specs.NameMaps.{Name, Named, entry_at, same_name}
use Rattle.ckr_meaning.specs.Allotments.{opened_all}
use Rattle.ckr_meaning.specs.Dispositions.{Stock, passed_ended}
use Rattle.ckr_meaning.specs.EffectiveJob.{Effective, OwnedStep, flaws_in, is_among, names_of, placed_in, stamp_of}
use Rattle.ckr_meaning.specs.declared.place.Place.TheVariants.{Before, Within}
use Rattle.ckr_points.specs.declared.run.RunState.TheVariants.{Queued, On, Released as ReleasedRun, Ended as EndedRun}
use Rattle.ckr_points.specs.Follows.{is_in_state, is_within, may_hold, may_start, own_step}
use Rattle.ckr_points.specs.Office.{is_holder, passed_made}
use Rattle.ckr_points.specs.Marks.{has_passed, without_passed}
use Rattle.ckr_points.specs.Restart.{after_passed_ended, place_of, step_in}
use Rattle.ckr_points.specs.Rows.{RunRow, TableSet, TablesModel, run_of, standing_of, step_of_run, table_ways, with_run}
use Rattle.ckr_points.specs.Tables.{after_cancelled, after_dispositions, after_selected, after_started, earlier_made, own_made, run_disposals, start_point}
use Rattle.ckr_points.specs.RuleCases.{is_ended}
use Rattle.ckr_points_invariant.proofs.Holders.Rows.{holder-ended}
use Rattle.ckr_points_invariant.proofs.Library.PassedList.{ended-stays}
use Rattle.ckr_points_invariant.proofs.Steps.Events.{on-holds}
use Rattle.ckr_points_invariant.proofs.Marks.Points.{point_at-new}
use Rattle.ckr_points_invariant.proofs.WrittenEntries.Sets.{EachHas, GoesOnThrough, committed-has, disposed_all-has, made_all-has, opened_all-has, passed_ended-has}
use Rattle.ckr_desk_plans.specs.Model.Commit.{output_names}
use Rattle.ckr_volumes.specs.declared.layout.Layout.{Layout}
use Rattle.ckr_desk_memory.proofs.Holders.Moves.{HasRow, RunGoesOn, goes-through, row-as_is, row-next}
use Rattle.ckr_desk_memory.proofs.Holders.Names.{changed-named, names-outside}
use Rattle.ckr_desk_memory.proofs.Holders.OwnEntries.{kept-weaker, own-as, passed-as, starts-own, steps-within}
use Rattle.ckr_desk_memory.proofs.Holders.Sets.{disposed-outside, passed-outside, started-outside, there-started}
use Rattle.ckr_desk_memory.specs.Invariant.{IsAcceptedRow, IsPlacedRow}
use Rattle.ckr_desk_memory.proofs.Invariant.{not-within, start-step, unplaced-queued}
use Rattle.ckr_desk_memory.proofs.Starts.Steps.{row-among}
use Rattle.ckr_desk_turn.specs.Queue.{AreNumbered}
use Rattle.ckr_desk_turn.proofs.Queue.Events.{run_number}
use Rattle.ckr_desk_memory.specs.Holders.{AreOwn, HasOwnEffect, HasStartPassed, IsStartPassed, PassesOnOwn, PassesOwn, changed_names, reached_names, steps_begun}
use Rattle.ckr_desk_memory.proofs.Holders.RowTests.{empty-is, executes-step, no-effect, points-with, queued-free, queued-on, unlost}
use Rattle.ckr_desk_memory.proofs.Holders.StepEvents.{behind, behind_outside, behind_rows}
use Rattle.ckr_desk_memory.proofs.EventRows.{IsStarting, after_end_with, after_end_within}
use Rattle.ckr_points.specs.declared.run.RunState.{RunState}

module _ (tables : TablesModel) (rows : AllByRecursion IsAcceptedRow tables.runs) (numbered : AreNumbered 1 tables.runs) (placed : AllByRecursion IsPlacedRow tables.runs) (job : ℕ) (row : RunRow) (at : run_of tables job ≡ Some row) where
  abbrev Goes : TablesModel → Type 0
  Goes after = RunGoesOn tables after job

  pub selected : (initiator : ℕ) → is_in_state Queued row ≡ true → may_hold tables row ≡ true → Goes (after_selected row initiator tables)
  selected initiator queued may = record {
    row = row;
    next = record row { state = On; initiator = Some initiator; place = Some (Before 1) };
    row_at = at;
    rows = row-next tables tables job row _ tables.sets (row-as_is tables job row at) (run_number tables job row numbered at);
    number = refl;
    deck = refl;
    job_is = refl;
    from_is = refl;
    on = queued-on row queued;
    begins = λ was now. may;
    start = λ begun own ends at. absurd (false≢true at);
    own = λ begun set point its. record { first = its.first; begun = subst (λ place. point.step < steps_begun (option_map_or (λ place. place) place (Before 1))) (unplaced-queued row queued (row-among IsPlacedRow tables job row placed at)) its.begun; passed = passed-as row _ refl its.passed; changes = its.changes };
    kept = λ begun. goes-through tables.sets tables.sets _ (λ E through each. each);
    passed = λ begun own. record {
      passed = own.passed;
      points = λ ends. own.points (queued-on row queued);
      effect = λ effect is. no-effect own (queued-free row.state queued) effect is;
    };
    still = λ was name. refl;
    outside = λ own name out. refl;
    changed = λ has owned name holding within found among. absurd (false≢true within);
  }

  pub cancelled : is_holder row.state ≡ true → Goes (after_cancelled row tables)
  cancelled holds = record {
    row = row;
    next = record row { in_effect = None };
    row_at = at;
    rows = row-next tables tables job row _ tables.sets (row-as_is tables job row at) (run_number tables job row numbered at);
    number = refl;
    deck = refl;
    job_is = refl;
    from_is = refl;
    on = holder-ended row.state holds;
    begins = λ was now. absurd (false≢true (sym was ∙ now));
    start = λ begun own ends at. passed-as row _ refl (begun ends at);
    own = λ begun set point its. own-as row _ refl refl refl its;
    kept = λ begun. goes-through tables.sets tables.sets _ (λ E through each. each);
    passed = λ begun own. record { passed = own.passed; points = own.points; effect = λ effect is. absurd (some-not-none effect (sym is)) };
    still = λ was name. refl;
    outside = λ own name out. refl;
    changed = λ has. has;
  }

  -- a run that holds nothing any more
  over : (r : RunRow) (mid : TablesModel) (was : RunRow) (sets : Named TableSet) → HasRow tables mid job was → r.number ≡ row.number → r.deck ≡ row.deck → r.job ≡ row.job → r.earlier_step ≡ row.earlier_step → is_ended row.state ≡ false → is_holder r.state ≡ false → (PassesOnOwn tables.sets row → PassesOnOwn sets r)
      → (HasStartPassed row → HasStartPassed r) → steps_begun (place_of r) ≡ steps_begun (place_of row) → r.points ≡ row.points → ((E : Name → TableSet → Type 0) → GoesOnThrough E → EachHas E tables.sets → EachHas E sets)
      → (is_holder row.state ≡ false → (name : Name) → entry_at sets name ≡ entry_at tables.sets name)
      → (PassesOwn row → (name : Name) → is_among (reached_names row) name ≡ false → entry_at sets name ≡ entry_at tables.sets name)
      → Goes (with_run r (record mid { sets = sets }))
  over r mid was sets has number deck same from on gone passes start begun points through still outside = record {
    row = row;
    next = r;
    row_at = at;
    rows = row-next tables mid job was r sets has (number ∙ (run_number tables job row numbered at));
    number = number;
    deck = deck;
    job_is = same;
    from_is = from;
    on = on;
    begins = λ before now. absurd (false≢true (sym gone ∙ now));
    start = λ started own. start started;
    own = λ started set point its. own-as row r same begun points its;
    kept = λ started. goes-through tables.sets sets _ through;
    passed = λ started. passes;
    still = still;
    outside = outside;
    changed = λ has owned name holding within found among. absurd (false≢true (sym gone ∙ holding));
  }

  -- a run that waits leaves the queue
  pub gone : (state : RunState) → is_in_state Queued row ≡ true → is_holder state ≡ false → Goes (with_run (record row { state = state }) tables)
  gone state queued free =
      over (record row { state = state }) tables row tables.sets (row-as_is tables job row at) refl refl refl refl (queued-on row queued) free
      (λ own. record { passed = own.passed; points = λ ends. own.points (queued-on row queued); effect = λ effect is. no-effect own (queued-free row.state queued) effect is })
      (λ started ends at. passed-as row (record row { state = state }) refl (started (queued-on row queued) at)) refl refl (λ E through each. each) (λ was name. refl) (λ own name out. refl)

  -- so it does the one that it starts
  ahead : {step : ℕ} → may_start step (place_of row) ≡ true → row.earlier_step ≤ step
  ahead {step} may = subst (λ n. row.earlier_step ≤ n) (start-step step (place_of row) may) (executes-step tables job row placed at)

  pub started : (layout : Layout) (step : ℕ) (items : List Made) (owned : OwnedStep) → IsStarting layout tables job step items row owned → Goes (after_started row owned step items tables)
  started layout step items owned its =
      let placed_so = placed_in table_ways (standing_of row tables) row.job.root owned in
      let holds = on-holds row.state its.on in
      record {
        row = row;
        next = _;
        row_at = at;
        rows = row-next tables tables job row _ (after_started row owned step items tables).sets (row-as_is tables job row at) (run_number tables job row numbered at);
        number = refl;
        deck = refl;
        job_is = refl;
        from_is = refl;
        on = holder-ended row.state holds;
        begins = λ was now. absurd (false≢true (sym was ∙ now));
        start = λ begun own ends at. record { start = _; at = point_at-new _ row.points; same = refl };
        own = λ begun set point was.
            starts-own row _ (start_point row step (opened_all table_ways (stamp_of owned step) placed_so tables.sets)) refl refl refl its.ahead refl (begun (holder-ended row.state holds)) set point was;
        kept = λ begun.
            goes-through tables.sets (after_started row owned step items tables).sets _
            (λ E through each. made_all-has E through (stamp_of owned step) items placed_so _ (opened_all-has E through (stamp_of owned step) placed_so tables.sets each));
        passed = λ begun own. record {
          passed = own.passed;
          points = λ ends. points-with (λ point. AreOwn row point.passed) _ row.points own.passed (own.points ends);
          effect = λ effect is. absurd (false≢true (sym (not-within step (place_of row) its.ahead) ∙ (own.effect effect is).within));
        };
        still = λ was name. absurd (false≢true (sym was ∙ holds));
        outside = λ own name out. started-outside row owned step name (names-outside row step owned name (ahead its.ahead) its.found out) items tables;
        changed = λ has other name holding within found among.
            there-started row owned step items tables name (empty-is (flaws_in placed_so) its.flawless)
            (changed-named row.job.root owned name (subst (λ (owned : OwnedStep). is_among (changed_names row.job.root owned) name ≡ true) (some-one other owned (step_of_run row step) found its.found) among));
      }

  -- a run that stays as it is
  pub unmoved : is_ended row.state ≡ false → Goes tables
  unmoved on = record {
    row = row;
    next = row;
    row_at = at;
    rows = row-as_is tables job row at;
    number = refl;
    deck = refl;
    job_is = refl;
    from_is = refl;
    on = on;
    begins = λ was now. absurd (false≢true (sym was ∙ now));
    start = λ begun own. begun;
    own = λ begun set point its. its;
    kept = λ begun. goes-through tables.sets tables.sets _ (λ E through each. each);
    passed = λ begun own. own;
    still = λ was name. refl;
    outside = λ own name out. refl;
    changed = λ has. has;
  }

  -- a held run that is released holds what it held
  pub released : is_holder row.state ≡ true → Goes (with_run (record row { state = ReleasedRun }) tables)
  released holds = record {
    row = row;
    next = record row { state = ReleasedRun };
    row_at = at;
    rows = row-next tables tables job row _ tables.sets (row-as_is tables job row at) (run_number tables job row numbered at);
    number = refl;
    deck = refl;
    job_is = refl;
    from_is = refl;
    on = holder-ended row.state holds;
    begins = λ was now. absurd (false≢true (sym was ∙ holds));
    start = λ begun own ends at. passed-as row _ refl (begun (holder-ended row.state holds) at);
    own = λ begun set point its. own-as row _ refl refl refl its;
    kept = λ begun. goes-through tables.sets tables.sets _ (λ E through each. each);
    passed = λ begun own. record {
      passed = own.passed;
      points = λ ends. own.points (holder-ended row.state holds);
      effect = λ effect is.
          let its : HasOwnEffect tables.sets row effect = own.effect effect is in
          record { holds = refl; within = its.within; owned = its.owned; found = its.found; changes = its.changes; entries = kept-weaker (λ entry. same_name entry.kept.id effect.kept.id ≡ true → IsStartPassed row (step_in (place_of row)) entry.point.passed) _ tables.sets effect.set (λ entry had same. passed-as row _ refl (had same)) its.entries };
    };
    still = λ was name. refl;
    outside = λ own name out. refl;
    changed = λ has owned name holding within found among. has owned name holds within found among;
  }

  -- ---- the end of a run

  pub completed : is_holder row.state ≡ true → Goes (after_passed_ended row tables)
  completed holds =
      over (record row { state = EndedRun; initiator = None; code = None; passed = []; lost = []; in_effect = None }) tables row (passed_ended (has_passed row) tables.sets) (row-as_is tables job row at) refl refl refl refl (holder-ended row.state holds) refl
      (λ own. record { passed = λ name out. refl; points = λ ends. absurd (false≢true (sym ends)); effect = λ effect is. absurd (some-not-none effect (sym is)) })
      (λ started ends. absurd (false≢true (sym ends))) refl refl (λ E through each. passed_ended-has E through (has_passed row) tables.sets each)
      (λ was name. absurd (false≢true (sym was ∙ holds)))
      (λ own name out. ended-stays row.lost row.passed tables.sets name (λ here. unlost row.lost row.passed name here (own name out)))

  -- with the dispositions of a step, by tables behind its lengths or as they are
  disposed_over : (r was : RunRow) (mid : TablesModel) (owned : OwnedStep) (step : ℕ) → is_holder row.state ≡ true → r.number ≡ row.number → r.deck ≡ row.deck → r.job ≡ row.job → r.earlier_step ≡ row.earlier_step → r.passed ≡ row.passed → r.lost ≡ row.lost → r.points ≡ row.points → steps_begun (place_of r) ≡ steps_begun (place_of row)
      → ((E : Name → TableSet → Type 0) → GoesOnThrough E → EachHas E tables.sets → EachHas E mid.sets) → HasRow tables mid job was → step_of_run row step ≡ Some owned → row.earlier_step ≤ step
      → ((name : Name) → is_among (reached_names row) name ≡ false → entry_at mid.sets name ≡ entry_at tables.sets name)
      → Goes (after_end_within r owned step mid)
  disposed_over r was mid owned step holds number deck same from_is passed lost points begun through has found ahead outside =
      over (record r { passed = []; lost = []; state = EndedRun; initiator = None; code = None; in_effect = None }) mid was (passed_ended (without_passed r.lost done.passed) done.sets) has number deck same from_is (holder-ended row.state holds) refl
      (λ own. record { passed = λ name out. refl; points = λ ends. absurd (false≢true (sym ends)); effect = λ effect is. absurd (some-not-none effect (sym is)) })
      (λ started ends. absurd (false≢true (sym ends))) begun points
      (λ E goes each.
      passed_ended-has E goes (without_passed r.lost done.passed) done.sets
      (disposed_all-has E goes (run_disposals r owned (own_made r owned step) (earlier_made mid r step) true) (standing_of r mid) (through E goes each)))
      (λ was name. absurd (false≢true (sym was ∙ holds)))
      (λ own name out.
      let of_step : is_among (names_of r.job.root owned) name ≡ false = ap (λ (job : Effective). is_among (names_of job.root owned) name) same ∙ names-outside row step owned name ahead found out in
      ended-stays r.lost done.passed done.sets name
      (λ here.
      passed-outside r owned step name of_step true mid
      (ap (λ passed. is_among (passed_made passed) name) passed ∙ unlost row.lost row.passed name (ap (λ names. is_among names name) (sym lost) ∙ here) (own name out)))
      ∙ disposed-outside r owned step name of_step true mid
      ∙ outside name out)
    where
      done : Stock TableSet
      done = after_dispositions r owned step true mid

  pub refused : (owned : OwnedStep) → own_step row ≡ Some owned → is_holder row.state ≡ true → Goes (after_end_within row owned (step_in (place_of row)) tables)
  refused owned found holds =
      disposed_over row row tables owned (step_in (place_of row)) holds refl refl refl refl refl refl refl refl (λ E through each. each) (row-as_is tables job row at) found (executes-step tables job row placed at) (λ name out. refl)

  pub coded : (owned : OwnedStep) → own_step row ≡ Some owned → (writes : ℕ) (lengths : List ℕ) → is_holder row.state ≡ true → is_within (place_of row) ≡ true → Goes (after_end_with row owned writes lengths tables)
  coded owned found writes lengths holds within =
      disposed_over (record row { place = Some (Within (step_in (place_of row)) writes) }) _ (behind tables row owned writes lengths) owned (step_in (place_of row)) holds refl refl refl refl refl refl refl (sym (steps-within (place_of row) within))
      (λ E through each. committed-has E through (output_names row.job.root owned) lengths tables.sets each) (behind_rows tables rows numbered placed job row at owned found writes lengths) found (executes-step tables job row placed at) (behind_outside tables rows numbered placed job row at owned found lengths)
