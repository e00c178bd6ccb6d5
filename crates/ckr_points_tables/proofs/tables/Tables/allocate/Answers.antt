use Rattle.std.proofs.Common.{◌≡◌, ◌<◌, slice_get, Some, length, map, ap, sym, ◌∙◌, subst, refl, arith}
use Rattle.std.proofs.lemmas.Result.{IfOk-weaker}
use Rattle.ckr_base.proofs.Sequences.{get-from}
use Rattle.ckr_points_tables.specs.Rooms.{HasNoPlace}
use Rattle.ckr_points_runs.specs.View.{written_of}
use Rattle.ckr_points_tables.proofs.Allocations.Step.{allocated_in, distinct_in, fit_in, stand_in}
use Rattle.ckr_points_tables.proofs.RoomGrowth.{fits_there, none_beyond}
use Rattle.ckr_points_tables.proofs.Runs.{length-rows}
use Rattle.ckr_points_tables.proofs.tables.Tables.allocate.Goals as goal

pub allocate_run-requires-clause-fits : goal.allocate_run-requires-clause-fits
allocate_run-requires-clause-fits c =
    let lines = c.self.inside.lines.items in
    let tables = c.self.inside.tables.items in
    let place = c.in-Some.place in
    let table = c.index.result.now in
    let at = c.in-Some.ensures.some place refl in
    let inside : place < length tables = omega (arith, at.1, ap length c.as_slice.ensures.value) in
    let here : slice_get tables place ≡ Some table = get-from tables place table inside c.index.ensures in
    fits_there lines tables c.self.invariant.kept.runs place table table here c.args.job at.0

pub allocate_run-requires-clause-distinct : goal.allocate_run-requires-clause-distinct
allocate_run-requires-clause-distinct c =
    let lines = c.self.inside.lines.items in
    let tables = c.self.inside.tables.items in
    let place = c.in-Some.place in
    let table = c.index.result.now in
    let at = c.in-Some.ensures.some place refl in
    let inside : place < length tables = omega (arith, at.1, ap length c.as_slice.ensures.value) in
    let here : slice_get tables place ≡ Some table = get-from tables place table inside c.index.ensures in
    distinct_in lines tables c.self.invariant.kept.runs place table here (map written_of c.self.inside.writings.items) c.self.inside.library.sets c.args.self.now.desk (ap (λ v. v.desk.sets) c.self.view_is) (ap (λ v. v.desk.runs) c.self.view_is) c.args.job at.0

pub allocate_run-requires-clause-stand : goal.allocate_run-requires-clause-stand
allocate_run-requires-clause-stand c =
    let lines = c.self.inside.lines.items in
    let tables = c.self.inside.tables.items in
    let place = c.in-Some.place in
    let table = c.index.result.now in
    let at = c.in-Some.ensures.some place refl in
    let inside : place < length tables = omega (arith, at.1, ap length c.as_slice.ensures.value) in
    let here : slice_get tables place ≡ Some table = get-from tables place table inside c.index.ensures in
    stand_in lines tables c.self.invariant.kept.runs place table here (map written_of c.self.inside.writings.items) c.self.inside.library.sets c.args.self.now.desk (ap (λ v. v.desk.sets) c.self.view_is) (ap (λ v. v.desk.runs) c.self.view_is) c.args.job at.0 c.args.layout.now c.requires.stand

pub allocate_run-requires-clause-dds : goal.allocate_run-requires-clause-dds
allocate_run-requires-clause-dds c =
    let lines = c.self.inside.lines.items in
    let tables = c.self.inside.tables.items in
    let place = c.in-Some.place in
    let table = c.index.result.now in
    let at = c.in-Some.ensures.some place refl in
    let inside : place < length tables = omega (arith, at.1, ap length c.as_slice.ensures.value) in
    let here : slice_get tables place ≡ Some table = get-from tables place table inside c.index.ensures in
    fit_in lines tables c.self.invariant.kept.runs place table here (map written_of c.self.inside.writings.items) c.self.inside.library.sets c.args.self.now.desk (ap (λ v. v.desk.sets) c.self.view_is) (ap (λ v. v.desk.runs) c.self.view_is) c.args.job at.0 c.args.number c.requires.dds

pub returns-in-Some-clause-allocated : goal.returns-in-Some-clause-allocated
returns-in-Some-clause-allocated c =
    let lines = c.self.inside.lines.items in
    let tables = c.self.inside.tables.items in
    let place = c.in-Some.place in
    let table = c.index.result.now in
    let at = c.in-Some.ensures.some place refl in
    let inside : place < length tables = omega (arith, at.1, ap length c.as_slice.ensures.value) in
    let here : slice_get tables place ≡ Some table = get-from tables place table inside c.index.ensures in
    IfOk-weaker c.allocate_run.result _ _
    (allocated_in lines tables c.self.invariant.kept.runs place table here (map written_of c.self.inside.writings.items) c.self.inside.library.sets c.args.self.now.desk (ap (λ v. v.desk.sets) c.self.view_is) (ap (λ v. v.desk.runs) c.self.view_is) c.args.job at.0 c.args.layout.now c.args.number)
    c.allocate_run.ensures.allocated

pub returns-in-None-clause-allocated : goal.returns-in-None-clause-allocated
returns-in-None-clause-allocated c = λ row own found.
    absurd (none_beyond c.args.self.now.desk c.args.job row
    (subst (HasNoPlace c.args.job) (ap length c.as_slice.ensures.value ∙ sym (length-rows 1 c.self.inside.lines.items c.self.inside.tables.items c.self.invariant.kept.runs).1 ∙ ap (λ v. length v.desk.runs) c.self.view_is) (c.in-None.ensures.none refl)) found)
