use Rattle.std.proofs.Common.{◌≡◌, ◌-◌, ◌<◌, ap, sym, ◌∙◌, subst, arith, length, None}
use Rattle.ckr_points_tables.specs.Invariant.{put_at}
use Rattle.ckr_points_runs.specs.MadeNames.{points_in}
use Rattle.ckr_points_runs.specs.RunChange.{changed, earlier_for, going, holding_kit}
use Rattle.ckr_points_runs.specs.View.{facts_of}
use Rattle.ckr_points.specs.declared.run.Run.{Run}
use Rattle.ckr_points_tables.specs.BegunRuns.{AreEnded}
use Rattle.ckr_points_tables.proofs.BegunRuns.{ended-set, waiting-set}
use Rattle.ckr_points_tables.proofs.Events.{placed_at}
use Rattle.ckr_points_tables.proofs.Calls.{flags_ok, flags_told, job_ok, read-back, read-twice, inside_lines, inside_tables, inside_writings, fits_ok, may_ok, desk_ok, kept_ok}
use Rattle.ckr_points_tables.proofs.tables.Tables.change.Goals as goal

pub overflow_sub-place : goal.overflow_sub-place
overflow_sub-place c =
    let at = placed_at c.args.self.now.desk c.args.event.now None c.requires.change (c.requires.follows None) in
    omega (arith, at.0, c.job-number.ensures)

pub index-requires : goal.index-requires
index-requires c =
    let inside = inside_lines c.self.inside c.args.self.now c.self.view_is c.self.invariant.kept c.args.event.now c.requires.change c.requires.follows c.job-number.result c.job-number.ensures in
    omega (arith, inside, c.self.inside.lines.ok.0)

pub index-requires-2 : goal.index-requires-2
index-requires-2 c =
    let inside = inside_tables c.self.inside c.args.self.now c.self.view_is c.self.invariant.kept c.args.event.now c.requires.change c.requires.follows c.job-number.result c.job-number.ensures in
    omega (arith, inside, c.self.inside.tables.ok.0)

pub earlier_for-earlier-requires : goal.earlier_for-earlier-requires
earlier_for-earlier-requires c = record { fits = job_ok c.self.inside c.args.self.now c.self.view_is c.self.invariant.kept c.args.event.now c.requires.change c.requires.follows c.job-number.result c.job-number.ensures c.index-2.result.now c.index-2.ensures }

pub index_mut-requires : goal.index_mut-requires
index_mut-requires c =
    let inside = inside_lines c.self.inside c.args.self.now c.self.view_is c.self.invariant.kept c.args.event.now c.requires.change c.requires.follows c.job-number.result c.job-number.ensures in
    omega (arith, inside, c.self.inside.lines.ok.0)

pub index_mut-requires-2 : goal.index_mut-requires-2
index_mut-requires-2 c =
    let inside = inside_tables c.self.inside c.args.self.now c.self.view_is c.self.invariant.kept c.args.event.now c.requires.change c.requires.follows c.job-number.result c.job-number.ensures in
    omega (arith, inside, c.self.inside.tables.ok.0)

pub index_mut-requires-3 : goal.index_mut-requires-3
index_mut-requires-3 c =
    let inside = inside_writings c.self.inside c.args.self.now c.self.view_is c.self.invariant.kept c.args.event.now c.requires.change c.requires.follows c.job-number.result c.job-number.ensures in
    omega (arith, inside, c.self.inside.writings.ok.0)

pub change_run-requires-clause-fits : goal.change_run-requires-clause-fits
change_run-requires-clause-fits c =
    fits_ok c.self.inside c.args.self.now c.self.view_is c.self.invariant.kept c.args.event.now c.requires.change c.requires.follows c.job-number.result c.job-number.ensures
    c.index_mut.result.now c.index_mut-2.result.now c.index_mut-3.result.now c.index_mut.ensures.value c.index_mut-2.ensures.value c.index_mut-3.ensures.value

pub change_run-requires-clause-flags : goal.change_run-requires-clause-flags
change_run-requires-clause-flags c =
    flags_ok c.self.inside c.args.self.now c.self.view_is c.self.invariant.kept c.args.event.now c.requires.change c.requires.follows c.job-number.result c.job-number.ensures
    c.index_mut.result.now c.index_mut-2.result.now c.index_mut-3.result.now c.index_mut.ensures.value c.index_mut-2.ensures.value c.index_mut-3.ensures.value c.as_slice.result.now
    (flags_told c.self.inside c.args.self.now c.self.view_is c.self.invariant.kept c.args.event.now c.requires.change c.requires.follows c.job-number.result c.job-number.ensures
    c.index_mut.result.now c.index_mut-2.result.now c.index_mut-3.result.now c.index_mut.ensures.value c.index_mut-2.ensures.value c.index_mut-3.ensures.value
    c.as_slice.result.now c.index-2.result.now c.index-2.ensures
    (c.as_slice.ensures.value ∙ c.earlier_for-earlier.ensures ∙ ap (λ tables. earlier_for c.args.event.now (points_in tables) c.job-number.result (facts_of c.index-2.result.now)) c.as_slice-tables.ensures.value))

pub change_run-requires-clause-may : goal.change_run-requires-clause-may
change_run-requires-clause-may c =
    may_ok c.self.inside c.args.self.now c.self.view_is c.self.invariant.kept c.args.event.now c.requires.change c.requires.follows c.job-number.result c.job-number.ensures
    c.index_mut.result.now c.index_mut-2.result.now c.index_mut-3.result.now c.index_mut.ensures.value c.index_mut-2.ensures.value c.index_mut-3.ensures.value c.requires.count c.requires.room

pub index-requires-3 : goal.index-requires-3
index-requires-3 c =
    let inside = inside_lines c.self.inside c.args.self.now c.self.view_is c.self.invariant.kept c.args.event.now c.requires.change c.requires.follows c.job-number.result c.job-number.ensures in
    omega (arith, inside, c.self.inside.lines.ok.0)

pub count_ended-self-inside-requires : goal.count_ended-self-inside-requires
count_ended-self-inside-requires c =
    subst (AreEnded c.min.result) (sym c.as_slice-2.ensures.value)
    (ended-set c.self.inside.ended (c.job-number.result - 1) c.self.inside.lines.items _ c.min.result c.min.ensures c.self.invariant.ended)

-- the run goes on by the event as the tables do
run-goes : (c : goal.After-self-5-1) → (
    going c.change_run.new.line (facts_of c.change_run.new.table) c.change_run.new.library.sets
    ≡ changed holding_kit (earlier_for c.args.event.now (points_in c.self.inside.tables.items) c.index_mut.result.now.number (facts_of c.index_mut-2.result.now)) c.args.event.now
    (going c.index_mut.result.now (facts_of c.index_mut-2.result.now) c.self.inside.library.sets))
run-goes c =
    c.change_run.ensures.going
    ∙ ap (λ flags. changed holding_kit flags c.args.event.now (going c.index_mut.result.now (facts_of c.index_mut-2.result.now) c.self.inside.library.sets))
    (flags_told c.self.inside c.args.self.now c.self.view_is c.self.invariant.kept c.args.event.now c.requires.change c.requires.follows c.job-number.result c.job-number.ensures
    c.index_mut.result.now c.index_mut-2.result.now c.index_mut-3.result.now c.index_mut.ensures.value c.index_mut-2.ensures.value c.index_mut-3.ensures.value
    c.as_slice.result.now c.index-2.result.now c.index-2.ensures
    (c.as_slice.ensures.value ∙ c.earlier_for-earlier.ensures ∙ ap (λ tables. earlier_for c.args.event.now (points_in tables) c.job-number.result (facts_of c.index-2.result.now)) c.as_slice-tables.ensures.value))

pub invariant_of-self : goal.invariant_of-self
invariant_of-self c = record {
  kept =
      let inside : c.job-number.result - 1 < length c.self.inside.lines.items = inside_lines c.self.inside c.args.self.now c.self.view_is c.self.invariant.kept c.args.event.now c.requires.change c.requires.follows c.job-number.result c.job-number.ensures in
      let before : c.index.result.now ≡ c.index_mut.result.now = read-twice c.self.inside.lines.items (c.job-number.result - 1) c.index.result.now c.index_mut.result.now inside c.index.ensures c.index_mut.ensures.value in
      let after : c.index-3.result.now ≡ c.change_run.new.line = read-back c.self.inside.lines.items (c.job-number.result - 1) c.change_run.new.line c.index-3.result.now inside c.index-3.ensures in
      kept_ok c.self.inside c.args.self.now c.self.view_is c.self.invariant.kept c.args.event.now c.requires.change c.requires.follows c.job-number.result c.job-number.ensures
      c.index_mut.result.now c.index_mut-2.result.now c.index_mut-3.result.now c.index_mut.ensures.value c.index_mut-2.ensures.value c.index_mut-3.ensures.value
      c.change_run.new.line c.change_run.new.table c.change_run.new.library.sets (run-goes c)
      c.change_run.new.entries c.change_run.new.spare.marks.items c.change_run.ensures.empty
      (λ i on. c.put_at-2.ensures.fits i (ap (λ (line : Run). line.initiator) after ∙ on))
      c.put_at-2.new.index
      (
      c.put_at-2.ensures.index
      ∙ ap (λ (line : Run). put_at line.initiator c.job-number.result c.put_at.new.index) after
      ∙ ap (put_at c.change_run.new.line.initiator c.job-number.result) (c.put_at.ensures.index ∙ ap (λ (line : Run). put_at line.initiator 0 c.self.inside.index) before)
      );
  ended = subst (AreEnded c.count_ended-self-inside.result) c.as_slice-2.ensures.value c.count_ended-self-inside.ensures;
  waits =
      let at = placed_at c.args.self.now.desk c.args.event.now None c.requires.change (c.requires.follows None) in
      waiting-set c.self.inside.changed c.job-number.result c.self.inside.lines.items _ c.max-self-inside.result (omega (arith, at.0, c.job-number.ensures)) c.max-self-inside.ensures c.self.invariant.waits;
}

pub returns : goal.returns
returns c =
    desk_ok c.self.inside c.args.self.now c.self.view_is c.self.invariant.kept c.args.event.now c.requires.change c.requires.follows c.job-number.result c.job-number.ensures
    c.index_mut.result.now c.index_mut-2.result.now c.index_mut-3.result.now c.index_mut.ensures.value c.index_mut-2.ensures.value c.index_mut-3.ensures.value
    c.change_run.new.line c.change_run.new.table c.change_run.new.library.sets (run-goes c) c.in_order.ensures c.change_run.new.entries c.change_run.ensures.entries
