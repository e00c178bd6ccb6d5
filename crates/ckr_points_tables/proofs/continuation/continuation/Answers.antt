use Rattle.std.proofs.Common.{rules, ◌≡◌, true, None, Some, map, ap, sym, ◌∙◌, subst}
use Rattle.std.specs.Option.{is_some, option_copied, option_map}
use Rattle.ckr_jcl.specs.declared.deck.Job.{Job}
use Rattle.ckr_meaning.specs.EffectiveJob.{step_at}
use Rattle.ckr_meaning.specs.JobRun.{StepCodes}
use Rattle.ckr_points.specs.Marks.{mark_now, point_at}
use Rattle.ckr_points.specs.Restart.{rcs_before}
use Rattle.ckr_points_runs.specs.RunJobs.{IsFitting, JobView, continued_view, effective}
use Rattle.ckr_points_tables.specs.Selection.{begun_facts, entries_in, resumed, resumption_of}
use Rattle.ckr_points_runs.specs.View.{code_of, facts_of, point_of, seen_by, table_of, written_of}
use Rattle.ckr_points_tables.proofs.ContinuedRuns.{continued-fits}
use Rattle.ckr_points_tables.proofs.Preparations.{prepared-entryless, prepared-pointless, prepared-so}
use Rattle.ckr_points_tables.proofs.continuation.continuation.Goals as goal
use Rattle.ckr_points_runs.proofs.Steps.{point-mapped}

pub returns-in_default-clause-facts : goal.returns-in_default-clause-facts
returns-in_default-clause-facts c =
    let sets = c.args.library.now.sets in
    let points = c.args.earlier.now.points.items in
    let none : None ≡ point_at (map point_of points) c.args.step =
    ap (option_map point_of) (ap option_copied (sym c.in_default.is) ∙ c.point_at.ensures)
    ∙ point-mapped c.as_slice.result.now c.args.step ∙ ap (λ all. point_at (map point_of all) c.args.step) c.as_slice.ensures in
    prepared-pointless (mark_now (seen_by table_of sets)) (entries_in (map written_of c.args.writings.now) sets) c.args.run c.args.number c.args.own.now.deck (facts_of c.args.earlier.now) c.args.step c.args.id.now none

pub returns-in_default-resumption_for-clause-facts : goal.returns-in_default-resumption_for-clause-facts
returns-in_default-resumption_for-clause-facts c =
    let sets = c.args.library.now.sets in
    let points = c.args.earlier.now.points.items in
    let point = point_of c.in-Some.point.now in
    let entries = entries_in (map written_of c.args.writings.now) sets in
    let pointed : Some point ≡ point_at (map point_of points) c.args.step =
    ap (option_map point_of) c.in-Some.ensures ∙ point-mapped c.as_slice.result.now c.args.step ∙ ap (λ all. point_at (map point_of all) c.args.step) c.as_slice.ensures in
    let none : None ≡ resumed entries c.args.own.now.deck c.args.step point c.args.id.now =
    ap (option_map resumption_of) (sym c.in_default-resumption_for.is) ∙ c.resumption_for.ensures ∙ ap (λ (deck : Job). resumed entries deck c.args.step point c.args.id.now) c.deck.ensures in
    prepared-entryless (mark_now (seen_by table_of sets)) entries c.args.run c.args.number c.args.own.now.deck (facts_of c.args.earlier.now) c.args.step c.args.id.now point pointed none

pub returns-clause-facts : goal.returns-clause-facts
returns-clause-facts c =
    let sets = c.args.library.now.sets in
    let points = c.args.earlier.now.points.items in
    let point = point_of c.in-Some.point.now in
    let at = resumption_of c.in-Some-resumption_for.at in
    let now = mark_now (seen_by table_of sets) in
    let entries = entries_in (map written_of c.args.writings.now) sets in
    let pointed : Some point ≡ point_at (map point_of points) c.args.step =
    ap (option_map point_of) c.in-Some.ensures ∙ point-mapped c.as_slice.result.now c.args.step ∙ ap (λ all. point_at (map point_of all) c.args.step) c.as_slice.ensures in
    let is : Some at ≡ resumed entries c.args.own.now.deck c.args.step point c.args.id.now =
    c.in-Some-resumption_for.ensures ∙ ap (λ (deck : Job). resumed entries deck c.args.step point c.args.id.now) c.deck.ensures in
    let there : is_some (step_at (effective c.args.number c.args.earlier.now.job) c.args.step) ≡ true = sym (c.has_step.ensures c.args.number) ∙ search rules in
    let view = continued_view c.args.number c.args.own.now.deck c.args.earlier.now.job c.args.step in
    ap Some
    (c.in_ok-table.ensures.facts
    ∙ ap (λ (job : JobView). begun_facts now c.args.run job (map code_of c.in_ok-codes.codes.items) point at) c.in_ok-job.ensures
    ∙ ap (λ (rcs : StepCodes). begun_facts now c.args.run view rcs point at) (c.in_ok-codes.ensures ∙ ap (λ codes. rcs_before c.args.step (map code_of codes)) c.as_slice-2.ensures))
    ∙ prepared-so now entries c.args.run c.args.number c.args.own.now.deck (facts_of c.args.earlier.now) c.args.step c.args.id.now point at there pointed is

pub table_at-requires : goal.table_at-requires
table_at-requires c = record {
  fits =
      subst (λ (job : JobView). IsFitting (effective c.args.run job)) (sym c.in_ok-job.ensures)
      (continued-fits c.args.number c.args.run c.args.step c.args.own.now.deck c.args.earlier.now.job c.requires.fits c.requires.limits c.requires.run);
}
