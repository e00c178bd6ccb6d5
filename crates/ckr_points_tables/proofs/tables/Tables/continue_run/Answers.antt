use Rattle.std.proofs.Common.{◌≡◌, ◌-◌, slice_set, map, ap, sym, ◌∙◌, subst, arith, Some}
use Rattle.std.specs.Option.{is_none, option_or}
use Rattle.ckr_points.specs.declared.run.Run.{Run}
use Rattle.ckr_points.specs.Rows.{TablesModel}
use Rattle.ckr_points_tables.specs.Invariant.{AreKept, put_at}
use Rattle.ckr_points_tables.specs.Restart.{line_on}
use Rattle.ckr_points_tables.specs.Selection.{IsResumed, entries_in, resumed}
use Rattle.ckr_points_runs.specs.View.{facts_of, written_of}
use Rattle.ckr_points_tables.specs.View.{rows_of, seen_under, table_in}
use Rattle.ckr_points_runs.specs.declared.run_table.RunTable.{RunTable}
use Rattle.ckr_points_tables.proofs.BegunRuns.{ended-set, waiting-set}
use Rattle.ckr_points_tables.proofs.ContinuedCalls.{continued_placed, continued_low, desk_continued, earlier_inside, kept_continued, line_read, next_at, next_fits, next_none, next_room, next_syschk, nothing-there, parts, own_there, at_there, table_read, own_line, own_table}
use Rattle.ckr_points_tables.proofs.tables.Tables.continue_run.Goals as goal

pub returns-in_default : goal.returns-in_default
returns-in_default c =
    nothing-there c.self.inside c.args.self.now c.self.view_is c.self.invariant.kept c.args.number c.args.initiator c.args.earlier (c.args.earlier - 1) c.args.step c.args.id.now (omega (arith, c.requires.earlier)) c.requires.follows c.requires.room (sym c.take.ensures.value ∙ c.in_default.is)

pub overflow_sub-place : goal.overflow_sub-place
overflow_sub-place c = let at = continued_placed c.self.inside c.args.self.now c.self.view_is c.self.invariant.kept c.args.number c.args.initiator c.args.earlier (c.args.earlier - 1) c.args.step c.args.id.now (omega (arith, c.requires.earlier)) c.requires.follows in omega (arith, at.first)

pub index-requires : goal.index-requires
index-requires c =
    let inside = earlier_inside c.self.inside c.args.self.now c.self.view_is c.self.invariant.kept c.args.number c.args.initiator c.args.earlier (c.args.earlier - 1) c.args.step c.args.id.now (omega (arith, c.requires.earlier)) c.requires.follows c.requires.room c.in-Some.next (sym c.in-Some.ensures.value) in
    omega (arith, inside, c.self.inside.tables.ok.0)

pub resume-requires-clause-run : goal.resume-requires-clause-run
resume-requires-clause-run c = continued_low c.self.inside c.args.self.now c.self.view_is c.self.invariant.kept c.args.number c.args.initiator c.args.earlier (c.args.earlier - 1) c.args.step c.args.id.now (omega (arith, c.requires.earlier)) c.requires.follows

pub resume-requires-clause-fits : goal.resume-requires-clause-fits
resume-requires-clause-fits c = next_fits c.self.inside c.args.self.now c.self.view_is c.self.invariant.kept c.args.number c.args.initiator c.args.earlier (c.args.earlier - 1) c.args.step c.args.id.now (omega (arith, c.requires.earlier)) c.requires.follows c.requires.room c.in-Some.next (sym c.in-Some.ensures.value) c.index.result.now c.index.ensures

pub resume-requires-clause-at : goal.resume-requires-clause-at
resume-requires-clause-at c = next_at c.self.inside c.args.self.now c.self.view_is c.self.invariant.kept c.args.number c.args.initiator c.args.earlier (c.args.earlier - 1) c.args.step c.args.id.now (omega (arith, c.requires.earlier)) c.requires.follows c.requires.room c.in-Some.next (sym c.in-Some.ensures.value) c.index.result.now c.index.ensures

pub resume-requires-clause-syschk : goal.resume-requires-clause-syschk
resume-requires-clause-syschk c = next_syschk c.self.inside c.args.self.now c.self.view_is c.self.invariant.kept c.args.number c.args.initiator c.args.earlier (c.args.earlier - 1) c.args.step c.args.id.now (omega (arith, c.requires.earlier)) c.requires.follows c.requires.room c.in-Some.next (sym c.in-Some.ensures.value) c.index.result.now c.index.ensures

pub resume-requires-clause-none : goal.resume-requires-clause-none
resume-requires-clause-none c = next_none c.self.inside c.args.self.now c.self.view_is c.self.invariant.kept c.args.number c.args.initiator c.args.earlier (c.args.earlier - 1) c.args.step c.args.id.now (omega (arith, c.requires.earlier)) c.requires.follows c.requires.room c.in-Some.next (sym c.in-Some.ensures.value) c.index.result.now c.index.ensures

pub resume-requires-clause-room : goal.resume-requires-clause-room
resume-requires-clause-room c = next_room c.self.inside c.args.self.now c.self.view_is c.self.invariant.kept c.args.number c.args.initiator c.args.earlier (c.args.earlier - 1) c.args.step c.args.id.now (omega (arith, c.requires.earlier)) c.requires.follows c.requires.room c.in-Some.next (sym c.in-Some.ensures.value) c.index.result.now c.index.ensures

pub index-requires-2 : goal.index-requires-2
index-requires-2 c = let at = continued_placed c.self.inside c.args.self.now c.self.view_is c.self.invariant.kept c.args.number c.args.initiator c.args.earlier (c.args.earlier - 1) c.args.step c.args.id.now (omega (arith, c.requires.earlier)) c.requires.follows in omega (arith, at.lined, c.self.inside.lines.ok.0)

pub index_mut-requires : goal.index_mut-requires
index_mut-requires c = let at = continued_placed c.self.inside c.args.self.now c.self.view_is c.self.invariant.kept c.args.number c.args.initiator c.args.earlier (c.args.earlier - 1) c.args.step c.args.id.now (omega (arith, c.requires.earlier)) c.requires.follows in omega (arith, at.lined, c.self.inside.lines.ok.0)

pub index_mut-requires-2 : goal.index_mut-requires-2
index_mut-requires-2 c = let at = continued_placed c.self.inside c.args.self.now c.self.view_is c.self.invariant.kept c.args.number c.args.initiator c.args.earlier (c.args.earlier - 1) c.args.step c.args.id.now (omega (arith, c.requires.earlier)) c.requires.follows in omega (arith, at.tabled, c.self.inside.tables.ok.0)

resumed-so : (c : goal.After-self-4-1) → (let p = parts c.self.inside c.args.self.now c.self.view_is c.self.invariant.kept c.args.number c.args.initiator c.args.earlier (c.args.earlier - 1) c.args.step c.args.id.now (omega (arith, c.requires.earlier)) c.requires.follows c.requires.room c.in-Some.next (sym c.in-Some.ensures.value) c.index.result.now c.index.ensures in
    IsResumed (is_none c.args.id.now) c.args.number c.args.step p.at.marks p.own (facts_of c.in-Some.next) (facts_of c.resume.new.next) c.self.inside.library.sets c.resume.new.library.sets)
resumed-so c =
    let p = parts c.self.inside c.args.self.now c.self.view_is c.self.invariant.kept c.args.number c.args.initiator c.args.earlier (c.args.earlier - 1) c.args.step c.args.id.now (omega (arith, c.requires.earlier)) c.requires.follows c.requires.room c.in-Some.next (sym c.in-Some.ensures.value) c.index.result.now c.index.ensures in
    c.resume.ensures p.own p.point p.at
    (own_there c.self.inside c.args.self.now c.self.view_is c.self.invariant.kept c.args.number c.args.initiator c.args.earlier (c.args.earlier - 1) c.args.step c.args.id.now (omega (arith, c.requires.earlier)) c.requires.follows c.requires.room c.in-Some.next (sym c.in-Some.ensures.value) c.index.result.now c.index.ensures)
    p.pointed
    (ap (λ all. resumed (entries_in (map written_of all) c.self.inside.library.sets) c.in-Some.next.job.deck c.args.step p.point c.args.id.now) c.as_slice.ensures.value
    ∙ at_there c.self.inside c.args.self.now c.self.view_is c.self.invariant.kept c.args.number c.args.initiator c.args.earlier (c.args.earlier - 1) c.args.step c.args.id.now (omega (arith, c.requires.earlier)) c.requires.follows c.requires.room c.in-Some.next (sym c.in-Some.ensures.value) c.index.result.now c.index.ensures)

goes-as : (c : goal.After-self-4-1) → (let table = (own_table c.self.inside c.args.self.now c.self.view_is c.self.invariant.kept c.args.number c.args.initiator c.args.earlier (c.args.earlier - 1) c.args.step c.args.id.now (omega (arith, c.requires.earlier)) c.requires.follows).0 in facts_of c.go_on_as.new.table ≡ record (facts_of c.resume.new.next) { in_effect = option_or (facts_of c.resume.new.next).in_effect (facts_of table).in_effect })
goes-as c =
    c.go_on_as.ensures
    ∙ ap (λ (table : RunTable). record (facts_of c.resume.new.next) { in_effect = option_or (facts_of c.resume.new.next).in_effect (facts_of table).in_effect })
    (table_read c.self.inside c.args.self.now c.self.view_is c.self.invariant.kept c.args.number c.args.initiator c.args.earlier (c.args.earlier - 1) c.args.step c.args.id.now (omega (arith, c.requires.earlier)) c.requires.follows c.index_mut-2.result.now c.index_mut-2.ensures.value)

line-goes : (c : goal.After-self-4-1) → (let line = (own_line c.self.inside c.args.self.now c.self.view_is c.self.invariant.kept c.args.number c.args.initiator c.args.earlier (c.args.earlier - 1) c.args.step c.args.id.now (omega (arith, c.requires.earlier)) c.requires.follows).0 in c.go_on.new.line ≡ line_on c.args.initiator line)
line-goes c = c.go_on.ensures ∙ ap (line_on c.args.initiator) (line_read c.self.inside c.args.self.now c.self.view_is c.self.invariant.kept c.args.number c.args.initiator c.args.earlier (c.args.earlier - 1) c.args.step c.args.id.now (omega (arith, c.requires.earlier)) c.requires.follows c.index_mut.result.now c.index_mut.ensures.value)

pub invariant_of-self-2 : goal.invariant_of-self-2
invariant_of-self-2 c = record {
  kept =
      let line = (own_line c.self.inside c.args.self.now c.self.view_is c.self.invariant.kept c.args.number c.args.initiator c.args.earlier (c.args.earlier - 1) c.args.step c.args.id.now (omega (arith, c.requires.earlier)) c.requires.follows).0 in
      subst (λ one. AreKept c.resume.new.library.sets (slice_set c.self.inside.lines.items (c.args.number - 1) one) (slice_set c.self.inside.tables.items (c.args.number - 1) c.go_on_as.new.table) c.put_at-2.new.index c.self.inside.spare.marks.items c.self.inside.writings.items) (sym (line-goes c))
      (kept_continued c.self.inside c.args.self.now c.self.view_is c.self.invariant.kept c.args.number c.args.initiator c.args.earlier (c.args.earlier - 1) c.args.step c.args.id.now (omega (arith, c.requires.earlier)) c.requires.follows c.requires.room c.in-Some.next (sym c.in-Some.ensures.value) c.index.result.now c.index.ensures
      c.resume.new.next c.resume.new.library.sets (resumed-so c) c.go_on_as.new.table (goes-as c) c.requires.continues
      c.self.inside.spare.marks.items c.self.invariant.kept.spare c.put_at-2.ensures.fits c.put_at-2.new.index
      (
      c.put_at-2.ensures.index
      ∙ ap (put_at (Some c.args.initiator) c.args.number) (c.put_at.ensures.index ∙ ap (λ (one : Run). put_at one.initiator 0 c.self.inside.index) (line_read c.self.inside c.args.self.now c.self.view_is c.self.invariant.kept c.args.number c.args.initiator c.args.earlier (c.args.earlier - 1) c.args.step c.args.id.now (omega (arith, c.requires.earlier)) c.requires.follows c.index-2.result.now c.index-2.ensures))
      ));
  ended = ended-set c.self.inside.ended (c.args.number - 1) c.self.inside.lines.items _ c.min-self-inside.result c.min-self-inside.ensures c.self.invariant.ended;
  waits =
      let at = continued_placed c.self.inside c.args.self.now c.self.view_is c.self.invariant.kept c.args.number c.args.initiator c.args.earlier (c.args.earlier - 1) c.args.step c.args.id.now (omega (arith, c.requires.earlier)) c.requires.follows in
      waiting-set c.self.inside.changed c.args.number c.self.inside.lines.items _ c.max-self-inside.result (omega (arith, at.first)) c.max-self-inside.ensures c.self.invariant.waits;
}

pub returns : goal.returns
returns c = λ deck.
    ap (λ one. let all : TablesModel = record { sets = seen_under (table_in (map written_of c.self.inside.writings.items)) c.resume.new.library.sets; runs = rows_of (slice_set c.self.inside.lines.items (c.args.number - 1) one) (slice_set c.self.inside.tables.items (c.args.number - 1) c.go_on_as.new.table) } in all) (line-goes c)
    ∙ desk_continued c.self.inside c.args.self.now c.self.view_is c.self.invariant.kept c.args.number c.args.initiator c.args.earlier (c.args.earlier - 1) c.args.step c.args.id.now (omega (arith, c.requires.earlier)) c.requires.follows c.requires.room c.in-Some.next (sym c.in-Some.ensures.value) c.index.result.now c.index.ensures
    c.resume.new.next c.resume.new.library.sets (resumed-so c) c.go_on_as.new.table (goes-as c) c.requires.continues deck
