use Rattle.std.proofs.Common.{◌≡◌, ◌&&◌, ◌||◌, ◌-◌, ap, sym, ◌∙◌, subst, arith}
use Rattle.ckr_points.specs.declared.run.Run.{Run}
use Rattle.ckr_points.specs.declared.run.RunState.TheVariants.{Released as ReleasedRun}
use Rattle.ckr_points.specs.Follows.{is_in_state, is_running, lengths_follow}
use Rattle.ckr_meaning.specs.EffectiveJob.{step_at}
use Rattle.ckr_points.specs.Restart.{step_in}
use Rattle.ckr_points_tables.specs.Hold.{held}
use Rattle.ckr_points_tables.specs.Invariant.{put_at}
use Rattle.ckr_points_runs.specs.RunChange.{by_step_of, going, holding_kit, place_now}
use Rattle.ckr_points_runs.specs.StepEnd.{AreLengthsOf}
use Rattle.ckr_points_runs.specs.RunJobs.{effective}
use Rattle.ckr_points_runs.specs.View.{facts_of}
use Rattle.ckr_points_tables.proofs.BegunRuns.{ended-set, waiting-set}
use Rattle.ckr_points_tables.proofs.Calls.{read-back, read-twice}
use Rattle.ckr_points_tables.proofs.Holds.{placed, fits_ok, lengths_ok, kept_held, desk_held}
use Rattle.ckr_points_tables.proofs.RunMoves.{of_run-placed}
use Rattle.ckr_points_tables.proofs.tables.Tables.hold.Goals as goal

pub overflow_sub-place : goal.overflow_sub-place
overflow_sub-place c =
    let at = of_run-placed c.args.self.now.desk c.args.job (λ row. (is_running row || is_in_state ReleasedRun row) && lengths_follow c.args.self.now.desk row c.args.lengths.now.items) c.requires.follows.1 in
    omega (arith, at.0)

pub index-requires : goal.index-requires
index-requires c = let at = placed c.self.inside c.args.self.now c.self.view_is c.self.invariant.kept c.args.job c.args.code c.args.writes c.args.lengths.now c.requires.follows in omega (arith, at.lined, c.self.inside.lines.ok.0)

pub index_mut-requires : goal.index_mut-requires
index_mut-requires c = let at = placed c.self.inside c.args.self.now c.self.view_is c.self.invariant.kept c.args.job c.args.code c.args.writes c.args.lengths.now c.requires.follows in omega (arith, at.lined, c.self.inside.lines.ok.0)

pub index_mut-requires-2 : goal.index_mut-requires-2
index_mut-requires-2 c = let at = placed c.self.inside c.args.self.now c.self.view_is c.self.invariant.kept c.args.job c.args.code c.args.writes c.args.lengths.now c.requires.follows in omega (arith, at.tabled, c.self.inside.tables.ok.0)

pub hold_run-requires-clause-fits : goal.hold_run-requires-clause-fits
hold_run-requires-clause-fits c =
    fits_ok c.self.inside c.args.self.now c.self.view_is c.self.invariant.kept c.args.job c.args.code c.args.writes c.args.lengths.now c.requires.follows
    c.index_mut.result.now c.index_mut-2.result.now c.index_mut.ensures.value c.index_mut-2.ensures.value

pub hold_run-requires-clause-lengths : goal.hold_run-requires-clause-lengths
hold_run-requires-clause-lengths c =
    subst (λ all. AreLengthsOf c.index_mut-2.result.now.job.root all c.self.inside.library.sets (step_at (effective c.index_mut.result.now.number c.index_mut-2.result.now.job) (step_in (place_now (facts_of c.index_mut-2.result.now))))) (sym c.as_slice.ensures.value)
    (lengths_ok c.self.inside c.args.self.now c.self.view_is c.self.invariant.kept c.args.job c.args.code c.args.writes c.args.lengths.now c.requires.follows
    c.index_mut.result.now c.index_mut-2.result.now c.index_mut.ensures.value c.index_mut-2.ensures.value)

pub index-requires-2 : goal.index-requires-2
index-requires-2 c = let at = placed c.self.inside c.args.self.now c.self.view_is c.self.invariant.kept c.args.job c.args.code c.args.writes c.args.lengths.now c.requires.follows in omega (arith, at.lined, c.self.inside.lines.ok.0)

pub invariant_of-self : goal.invariant_of-self
invariant_of-self c = record {
  kept =
      let lines = c.self.inside.lines.items in
      let at = placed c.self.inside c.args.self.now c.self.view_is c.self.invariant.kept c.args.job c.args.code c.args.writes c.args.lengths.now c.requires.follows in
      let before : c.index.result.now ≡ c.index_mut.result.now = read-twice lines (c.args.job - 1) c.index.result.now c.index_mut.result.now at.lined c.index.ensures c.index_mut.ensures.value in
      let after : c.index-2.result.now ≡ c.hold_run.new.line = read-back lines (c.args.job - 1) c.hold_run.new.line c.index-2.result.now at.lined c.index-2.ensures in
      kept_held c.self.inside c.args.self.now c.self.view_is c.self.invariant.kept c.args.job c.args.code c.args.writes c.args.lengths.now c.requires.follows
      c.index_mut.result.now c.index_mut-2.result.now c.index_mut.ensures.value c.index_mut-2.ensures.value
      c.hold_run.new.line c.hold_run.new.table c.hold_run.new.library.sets
      (c.hold_run.ensures ∙ ap (λ all. by_step_of (step_in (place_now (facts_of c.index_mut-2.result.now))) (held holding_kit (step_in (place_now (facts_of c.index_mut-2.result.now))) c.args.code c.args.writes all (going c.index_mut.result.now (facts_of c.index_mut-2.result.now) c.self.inside.library.sets)) (going c.index_mut.result.now (facts_of c.index_mut-2.result.now) c.self.inside.library.sets)) c.as_slice.ensures.value)
      c.self.inside.spare.marks.items c.self.invariant.kept.spare
      (λ i on. c.put_at-2.ensures.fits i (ap (λ (line : Run). line.initiator) after ∙ on))
      c.put_at-2.new.index
      (
      c.put_at-2.ensures.index
      ∙ ap (λ (line : Run). put_at line.initiator c.args.job c.put_at.new.index) after
      ∙ ap (put_at c.hold_run.new.line.initiator c.args.job) (c.put_at.ensures.index ∙ ap (λ (line : Run). put_at line.initiator 0 c.self.inside.index) before)
      );
  ended = ended-set c.self.inside.ended (c.args.job - 1) c.self.inside.lines.items _ c.min-self-inside.result c.min-self-inside.ensures c.self.invariant.ended;
  waits =
      let at = of_run-placed c.args.self.now.desk c.args.job (λ row. (is_running row || is_in_state ReleasedRun row) && lengths_follow c.args.self.now.desk row c.args.lengths.now.items) c.requires.follows.1 in
      waiting-set c.self.inside.changed c.args.job c.self.inside.lines.items _ c.max-self-inside.result (omega (arith, at.0)) c.max-self-inside.ensures c.self.invariant.waits;
}

pub returns : goal.returns
returns c =
    desk_held c.self.inside c.args.self.now c.self.view_is c.self.invariant.kept c.args.job c.args.code c.args.writes c.args.lengths.now c.requires.follows
    c.index_mut.result.now c.index_mut-2.result.now c.index_mut.ensures.value c.index_mut-2.ensures.value
    c.hold_run.new.line c.hold_run.new.table c.hold_run.new.library.sets
    (c.hold_run.ensures ∙ ap (λ all. by_step_of (step_in (place_now (facts_of c.index_mut-2.result.now))) (held holding_kit (step_in (place_now (facts_of c.index_mut-2.result.now))) c.args.code c.args.writes all (going c.index_mut.result.now (facts_of c.index_mut-2.result.now) c.self.inside.library.sets)) (going c.index_mut.result.now (facts_of c.index_mut-2.result.now) c.self.inside.library.sets)) c.as_slice.ensures.value)
