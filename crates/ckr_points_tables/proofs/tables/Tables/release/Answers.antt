use Rattle.std.proofs.Common.{◌-◌, ap, sym, ◌∙◌, subst, arith, slice_set, map}
use Rattle.ckr_points_tables.specs.Invariant.{AreKept}
use Rattle.ckr_points_tables.specs.View.{rows_of, seen_under, table_in}
use Rattle.ckr_points_runs.specs.View.{written_of}
use Rattle.ckr_points.specs.declared.run.RunState.TheVariants.{Held as HeldRun}
use Rattle.ckr_points.specs.Follows.{is_in_state}
use Rattle.ckr_points.specs.Rows.{TablesModel}
use Rattle.ckr_points_tables.proofs.BegunRuns.{ended-set, waiting-set}
use Rattle.ckr_points_tables.proofs.RunMoves.{of_run-placed}
use Rattle.ckr_points_tables.proofs.Releases.{placed, kept_released, desk_released}
use Rattle.ckr_points_tables.proofs.tables.Tables.release.Goals as goal

pub overflow_sub-place : goal.overflow_sub-place
overflow_sub-place c = let at = of_run-placed c.args.self.now.desk c.args.job (is_in_state HeldRun) c.requires.follows.1 in omega (arith, at.0)

pub index_mut-requires : goal.index_mut-requires
index_mut-requires c = let at = placed c.self.inside c.args.self.now c.self.view_is c.self.invariant.kept c.args.job c.requires.follows in omega (arith, at.lined, c.self.inside.lines.ok.0)

pub invariant_of-self : goal.invariant_of-self
invariant_of-self c = record {
  kept =
      subst (λ line. AreKept c.self.inside.library.sets (slice_set c.self.inside.lines.items (c.args.job - 1) line) c.self.inside.tables.items c.self.inside.index c.self.inside.spare.marks.items c.self.inside.writings.items) (sym c.release_run.ensures)
      (kept_released c.self.inside c.args.self.now c.self.view_is c.self.invariant.kept c.args.job c.requires.follows c.index_mut.result.now c.index_mut.ensures.value);
  ended = ended-set c.self.inside.ended (c.args.job - 1) c.self.inside.lines.items _ c.min-self-inside.result c.min-self-inside.ensures c.self.invariant.ended;
  waits =
      let at = of_run-placed c.args.self.now.desk c.args.job (is_in_state HeldRun) c.requires.follows.1 in
      waiting-set c.self.inside.changed c.args.job c.self.inside.lines.items _ c.max-self-inside.result (omega (arith, at.0)) c.max-self-inside.ensures c.self.invariant.waits;
}

pub returns : goal.returns
returns c = λ deck.
    ap (λ line. let all : TablesModel = record { sets = seen_under (table_in (map written_of c.self.inside.writings.items)) c.self.inside.library.sets; runs = rows_of (slice_set c.self.inside.lines.items (c.args.job - 1) line) c.self.inside.tables.items } in all) c.release_run.ensures
    ∙ desk_released c.self.inside c.args.self.now c.self.view_is c.self.invariant.kept c.args.job c.requires.follows c.index_mut.result.now c.index_mut.ensures.value deck
