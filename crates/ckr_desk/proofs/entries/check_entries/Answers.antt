use Rattle.std.proofs.Common.{◌≡◌, ◌∙◌, ◌+◌, None, Some, Ok, Err, ap, arith, refl, subst, sym, length}
use Rattle.std.proofs.lemmas.List.{length-map}
use Rattle.ckr_base.proofs.Sequences.{get-from}
use Rattle.ckr_points.specs.Rows.{TableSet}
use Rattle.ckr_desk_refines.specs.Tables.View.{RoomyTables, line_of}
use Rattle.ckr_library.specs.NameMaps.{EachEntry}
use Rattle.ckr_volumes.specs.Layouts.{StandsIn}
use Rattle.ckr_desk.proofs.Openings.Refusals.{bad-all, bad-end, bad-here, bad_from}
use Rattle.ckr_desk.proofs.Openings.NextPoints.{AreSoFar, Finds, Refuses, next-none, next-some, none-refused, refused-as}
use Rattle.ckr_desk.proofs.Openings.Points.{points-all, points-none}
use Rattle.ckr_desk_refines.proofs.DiskEntries.DiskReads.{reads-nothing, reads-on}
use Rattle.ckr_desk.proofs.entries.check_entries.Goals.{in-None, in-Some-Ok+in_ok-put_point-in-Some-Ok}
use Rattle.ckr_desk.proofs.entries.check_entries.Goals as goal

pub loop-run-init : goal.loop-run-init
loop-run-init g c =
    let d = g.D.Disk in
    let laws = g.met.D.Disk g.world.𝓛 g.world.𝓜 g.world.𝓡 ((λ s x. x), (λ x. x), (λ x. x), λ x. x) in
    record {
      none = λ told. bad-all c.args.layout.now c.args.jobs.now.tables.desk (d.content c.args.disk.now);
      points = subst (AreSoFar d.told c.args.layout.now c.args.jobs.now.tables.desk (d.content c.args.disk.now) 0) (sym c.new-points.ensures.items)
          (record { points_to = points-none d.told c.args.layout.now c.args.jobs.now.tables.desk (d.content c.args.disk.now) _; upto = tt; counted = tt });
      only_reads = reads-nothing d.content d.may_leave d.moment d.left_since c.args.disk.now (λ image left. laws.only_now c.args.disk.now image left);
      size = refl;
      faults = omega arith;
    }

pub effect_state-requires-clause-stand : goal.effect_state-requires-clause-stand
effect_state-requires-clause-stand g c κs within =
    subst (λ (t : RoomyTables). EachEntry (λ (table : TableSet). StandsIn c.args.layout.now table.set) t.desk.sets) (sym c.tables.ensures) c.requires.jobs.laid.stand

pub returns-in-Some-Err-clause-cause : goal.returns-in-Some-Err-clause-cause
returns-in-Some-Err-clause-cause g c = λ told.
    let d = g.D.Disk in
    let i = c.loop-run.invariant in
    let lines = c.runs-run-items.result.now in
    let at = get-from lines c.loop-run.run-index c.run-item.result c.loop-run-test.true c.run-item.is in
    let refused = subst (λ (t : RoomyTables). Refuses d.told c.args.layout.now t.desk (d.content c.loop-run.disk) c.run-item.result c.in_ok-effect_state.field-0) c.tables.ensures c.in_ok-effect_state.ensures.refused in
    sym (i.none told)
    ∙ bad-here c.args.layout.now c.args.jobs.now.tables.desk (d.content c.args.disk.now) c.loop-run.run-index c.run-item.result lines c.runs-run-items.ensures.lines at c.requires.numbered c.in-Some-Err.offset
    (refused-as d.told c.args.layout.now c.args.jobs.now.tables.desk (d.content c.loop-run.disk) (d.content c.args.disk.now) i.only_reads.same c.loop-run.run-index c.run-item.result lines c.runs-run-items.ensures.lines at
    c.requires.numbered c.in_ok-effect_state.field-0 refused told (Some (Err c.in-Some-Err.offset)) (c.in-Some-Err.is ∙ ap (λ r. Some r) c.in-Some-Err.field-0-is))

pub returns-clause-none : goal.returns-clause-none
returns-clause-none g c = λ told.
    sym (c.loop-run.invariant.none told)
    ∙ bad-end c.args.layout.now c.args.jobs.now.tables.desk (g.D.Disk.content c.args.disk.now) c.loop-run.run-index c.runs-run-items.result.now c.runs-run-items.ensures.lines c.loop-run-test.false

pub returns-clause-points : goal.returns-clause-points
returns-clause-points g c =
    let d = g.D.Disk in
    let tables = c.args.jobs.now.tables.desk in
    let same : length c.runs-run-items.result.now ≡ length tables.runs = ap length c.runs-run-items.ensures.lines ∙ length-map tables.runs line_of in
    points-all d.told c.args.layout.now tables (d.content c.args.disk.now) c.loop-run.run-index c.loop-run.points.items (omega (arith, same, c.loop-run-test.false)) c.loop-run.invariant.points.points_to

pub returns-clause-counted : goal.returns-clause-counted
returns-clause-counted g c = c.loop-run.invariant.points.counted

pub loop-run-preserved : goal.loop-run-preserved
loop-run-preserved g c =
    let d = g.D.Disk in
    let i = c.loop-run.invariant in
    let layout = c.args.layout.now in
    let tables = c.args.jobs.now.tables.desk in
    let image = d.content c.args.disk.now in
    let place = c.loop-run.run-index in
    let lines = c.runs-run-items.result.now in
    let answer = c.in_ok-effect_state.field-0 in
    let refused = subst (λ (t : RoomyTables). Refuses d.told layout t.desk (d.content c.loop-run.disk) c.run-item.result answer) c.tables.ensures c.in_ok-effect_state.ensures.refused in
    let found = subst (λ (t : RoomyTables). Finds d.told layout t.desk (d.content c.loop-run.disk) c.run-item.result answer) c.tables.ensures c.in_ok-effect_state.ensures.found in
    let at = get-from lines place c.run-item.result c.loop-run-test.true c.run-item.is in
    let both : (d.told → bad_from layout tables image (place + 1) ≡ bad_from layout tables image place) × AreSoFar d.told layout tables image (place + 1) c.match-branch-2.points.items =
    elim c.match-branch-2.branch [
      | in-None w ↦ (
        (λ told. none-refused d.told layout tables (d.content c.loop-run.disk) image i.only_reads.same place c.run-item.result lines c.runs-run-items.ensures.lines at c.requires.numbered answer refused told None w.in-None.is refl),
        subst (λ (v : _). AreSoFar d.told layout tables image (place + 1) v.items) (sym w.points-is)
            (next-none d.told layout tables (d.content c.loop-run.disk) image i.only_reads.same place c.run-item.result lines c.runs-run-items.ensures.lines at c.requires.numbered answer found w.in-None.is c.loop-run.points.items i.points),
      )
      | in-Some-Ok+in_ok-put_point-in-Some-Ok w ↦ (
        (λ told. none-refused d.told layout tables (d.content c.loop-run.disk) image i.only_reads.same place c.run-item.result lines c.runs-run-items.ensures.lines at c.requires.numbered answer refused told (Some (Ok w.in-Some-Ok.state)) (w.in-Some-Ok.is ∙ ap (λ r. Some r) w.in-Some-Ok.field-0-is) refl),
        subst (λ (v : _). AreSoFar d.told layout tables image (place + 1) v.items) (sym w.points-is)
            (subst (AreSoFar d.told layout tables image (place + 1)) (sym w.in_ok-put_point-in-Some-Ok.ensures)
            (next-some d.told layout tables (d.content c.loop-run.disk) image i.only_reads.same place c.run-item.result lines c.runs-run-items.ensures.lines at c.requires.numbered answer found w.in-Some-Ok.state (w.in-Some-Ok.is ∙ ap (λ r. Some r) w.in-Some-Ok.field-0-is) c.loop-run.points.items i.points)),
      )
    ] in
    record {
      none = λ told. both.0 told ∙ i.none told;
      points = both.1;
      only_reads = reads-on d.content d.may_leave d.moment d.left_since c.args.disk.now c.loop-run.disk c.effect_state.new.disk i.only_reads c.effect_state.ensures.only_reads;
      size = c.effect_state.ensures.size ∙ i.size;
      faults = omega (arith, i.faults, c.effect_state.ensures.faults);
    }
