use Rattle.std.proofs.Common.{◌≡◌, ◌-◌, map, ap, sym, ◌∙◌, subst, arith}
use Rattle.ckr_base.specs.declared.code.Code.{Code}
use Rattle.ckr_base.specs.declared.code.Code.TheVariants.{System}
use Rattle.ckr_points.specs.declared.run.Run.{Run}
use Rattle.ckr_points_tables.specs.Invariant.{put_at}
use Rattle.ckr_points_tables.specs.Restart.{HasPassedFor, passed_for, restarted}
use Rattle.ckr_points_runs.specs.RunChange.{going}
use Rattle.ckr_points_runs.specs.View.{facts_of, written_of}
use Rattle.ckr_points_tables.proofs.BegunRuns.{ended-set, waiting-set}
use Rattle.ckr_points_tables.proofs.Calls.{read-back, read-twice}
use Rattle.ckr_points_tables.proofs.Restarts.Calls.{desk_restarted, few_ok, kept_restarted, may_go_back, fits_ok, placed, room_ok}
use Rattle.ckr_points_tables.proofs.RunMoves.{of_run-placed}
use Rattle.ckr_points_tables.proofs.tables.Tables.restart.Goals as goal

some_code : Code
some_code = System 0

pub overflow_sub-place : goal.overflow_sub-place
overflow_sub-place c =
    let may = c.requires.follows some_code in
    let at = of_run-placed c.args.self.now.desk c.args.job (may_go_back may.0 c.args.self.now.desk c.args.initiator c.args.checkpoint) may.1 in
    omega (arith, at.0)

pub index-requires : goal.index-requires
index-requires c = let at = placed c.self.inside c.args.self.now c.self.view_is c.self.invariant.kept c.args.job c.args.initiator c.args.checkpoint c.requires.follows some_code in omega (arith, at.lined, c.self.inside.lines.ok.0)

pub index_mut-requires : goal.index_mut-requires
index_mut-requires c = let at = placed c.self.inside c.args.self.now c.self.view_is c.self.invariant.kept c.args.job c.args.initiator c.args.checkpoint c.requires.follows some_code in omega (arith, at.lined, c.self.inside.lines.ok.0)

pub index_mut-requires-2 : goal.index_mut-requires-2
index_mut-requires-2 c = let at = placed c.self.inside c.args.self.now c.self.view_is c.self.invariant.kept c.args.job c.args.initiator c.args.checkpoint c.requires.follows some_code in omega (arith, at.tabled, c.self.inside.tables.ok.0)

pub restart_run-requires-clause-fits : goal.restart_run-requires-clause-fits
restart_run-requires-clause-fits c =
    fits_ok c.self.inside c.args.self.now c.self.view_is c.self.invariant.kept c.args.job c.args.initiator c.args.checkpoint c.requires.follows some_code
    c.index_mut.result.now c.index_mut-2.result.now c.index_mut.ensures.value c.index_mut-2.ensures.value

pub restart_run-requires-clause-filled : goal.restart_run-requires-clause-filled
restart_run-requires-clause-filled c = c.self.invariant.kept.filled

pub restart_run-requires-clause-few : goal.restart_run-requires-clause-few
restart_run-requires-clause-few c =
    few_ok c.self.inside c.args.self.now c.self.view_is c.self.invariant.kept c.args.job c.args.initiator c.args.checkpoint c.requires.follows some_code
    c.index_mut.result.now c.index_mut-2.result.now c.index_mut.ensures.value c.index_mut-2.ensures.value

pub restart_run-requires-clause-room : goal.restart_run-requires-clause-room
restart_run-requires-clause-room c =
    subst (λ all. HasPassedFor c.index_mut-2.result.now.passed.room (passed_for c.args.checkpoint (map written_of all) c.self.inside.library.sets (facts_of c.index_mut-2.result.now))) (sym c.as_slice.ensures.value)
    (room_ok c.self.inside c.args.self.now c.self.view_is c.self.invariant.kept c.args.job c.args.initiator c.args.checkpoint c.requires.follows some_code
    c.index_mut.result.now c.index_mut-2.result.now c.index_mut.ensures.value c.index_mut-2.ensures.value c.requires.room)

pub index-requires-2 : goal.index-requires-2
index-requires-2 c = let at = placed c.self.inside c.args.self.now c.self.view_is c.self.invariant.kept c.args.job c.args.initiator c.args.checkpoint c.requires.follows some_code in omega (arith, at.lined, c.self.inside.lines.ok.0)

pub invariant_of-self : goal.invariant_of-self
invariant_of-self c = record {
  kept =
      let lines = c.self.inside.lines.items in
      let at = placed c.self.inside c.args.self.now c.self.view_is c.self.invariant.kept c.args.job c.args.initiator c.args.checkpoint c.requires.follows some_code in
      let before : c.index.result.now ≡ c.index_mut.result.now = read-twice lines (c.args.job - 1) c.index.result.now c.index_mut.result.now at.lined c.index.ensures c.index_mut.ensures.value in
      let after : c.index-2.result.now ≡ c.restart_run.new.line = read-back lines (c.args.job - 1) c.restart_run.new.line c.index-2.result.now at.lined c.index-2.ensures in
      kept_restarted c.self.inside c.args.self.now c.self.view_is c.self.invariant.kept c.args.job c.args.initiator c.args.checkpoint c.requires.follows some_code
      c.index_mut.result.now c.index_mut-2.result.now c.index_mut.ensures.value c.index_mut-2.ensures.value
      c.restart_run.new.line c.restart_run.new.table c.restart_run.new.library.sets
      (c.restart_run.ensures ∙ ap (λ all. restarted (map written_of all) c.args.checkpoint c.args.initiator (going c.index_mut.result.now (facts_of c.index_mut-2.result.now) c.self.inside.library.sets)) c.as_slice.ensures.value)
      c.self.inside.spare.marks.items c.self.invariant.kept.spare
      (λ i on. c.put_at-2.ensures.fits i (ap (λ (line : Run). line.initiator) after ∙ on))
      c.put_at-2.new.index
      (
      c.put_at-2.ensures.index
      ∙ ap (λ (line : Run). put_at line.initiator c.args.job c.put_at.new.index) after
      ∙ ap (put_at c.restart_run.new.line.initiator c.args.job) (c.put_at.ensures.index ∙ ap (λ (line : Run). put_at line.initiator 0 c.self.inside.index) before)
      );
  ended = ended-set c.self.inside.ended (c.args.job - 1) c.self.inside.lines.items _ c.min-self-inside.result c.min-self-inside.ensures c.self.invariant.ended;
  waits =
      let may = c.requires.follows some_code in
      let at = of_run-placed c.args.self.now.desk c.args.job (may_go_back may.0 c.args.self.now.desk c.args.initiator c.args.checkpoint) may.1 in
      waiting-set c.self.inside.changed c.args.job c.self.inside.lines.items _ c.max-self-inside.result (omega (arith, at.0)) c.max-self-inside.ensures c.self.invariant.waits;
}

pub returns : goal.returns
returns c =
    desk_restarted c.self.inside c.args.self.now c.self.view_is c.self.invariant.kept c.args.job c.args.initiator c.args.checkpoint c.requires.follows some_code
    c.index_mut.result.now c.index_mut-2.result.now c.index_mut.ensures.value c.index_mut-2.ensures.value
    c.restart_run.new.line c.restart_run.new.table c.restart_run.new.library.sets
    (c.restart_run.ensures ∙ ap (λ all. restarted (map written_of all) c.args.checkpoint c.args.initiator (going c.index_mut.result.now (facts_of c.index_mut-2.result.now) c.self.inside.library.sets)) c.as_slice.ensures.value)
