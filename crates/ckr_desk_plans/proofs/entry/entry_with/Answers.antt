use Rattle.std.proofs.Common.{◌≡◌, ◌+◌, ◌<◌, suc, ap, sym, subst, ◌∙◌, add-one, arith, length, refl}
use Rattle.std.specs.Prelude.{◌^◌}
use Rattle.ckr_fields.specs.Fields.{name8}
use Rattle.ckr_jcl.specs.declared.deck.Job.{Job}
use Rattle.ckr_meaning.specs.EffectiveJob.{names_of_job}
use Rattle.ckr_points.specs.Restart.{step_in}
use Rattle.ckr_points_tables.specs.RunJobs.{effective}
use Rattle.ckr_points_tables.proofs.MarkOrder.{marks-most}
use Rattle.ckr_desk_plans.specs.EntryMarks.{mark_behind}
use Rattle.ckr_desk_plans.specs.Entries.{step_now}
use Rattle.ckr_desk_turn.specs.Checkpoints.{step_entries}
use Rattle.ckr_desk_turn.specs.EntryStates.{at_checkpoint}
use Rattle.ckr_desk_plans.specs.Plans.{row_for}
use Rattle.ckr_desk_plans.proofs.EntryPoints.{made-entry}
use Rattle.ckr_desk_plans.proofs.EntryTypes.{check_id-fits, marks-fit, name8-fits}
use Rattle.ckr_desk_plans.proofs.entry.entry_with.Goals as goal

pub encode_entry-requires : goal.encode_entry-requires
encode_entry-requires c =
    let run = c.args.behind.now.on.now.run in
    let names = names_of_job (effective run c.args.behind.now.table.now.job) in
    let most = marks-most (mark_behind c.args.behind.now) names in (
      omega (arith, most, c.requires.names, ap length c.in_ok-marks_of.ensures.items),
      omega (arith, c.requires.passed, ap length (c.in_ok-passed_of.ensures.items ∙ c.as_slice.ensures)),
    )

pub returns-clause-entry : goal.returns-clause-entry
returns-clause-entry c tables seen =
    let behind = c.args.behind.now in
    let row = row_for behind.on.now.run behind.table.now in
    let entries = step_entries row (step_now row) in
    let written : c.step_entries.result + 1 ≡ suc entries = add-one c.step_entries.result ∙ ap suc (c.step_entries.ensures.value behind.on.now.run) in
    made-entry c.args.id behind tables _ seen refl (record {
      job = c.copied.ensures ∙ ap (λ (deck : Job). deck.name) c.deck-deck.ensures;
      run = refl;
      owner = refl;
      step = c.step_in.ensures ∙ ap step_in (c.place_of.ensures behind.on.now.run);
      step_name = c.copied-2.ensures;
      count = add-one behind.table.now.count;
      taken = c.progress-far.ensures.taken;
      writes = c.progress-far.ensures.writes;
      state =
          c.at_checkpoint.ensures.value
          ∙ ap (at_checkpoint (c.step_entries.result + 1)) c.progress-far.ensures.state
          ∙ ap (λ n. at_checkpoint n behind.on.now.step.state) written;
      marks = c.in_ok-marks_of.ensures.items;
      passed = c.in_ok-passed_of.ensures.items ∙ c.as_slice.ensures;
    })

pub returns-clause-form : goal.returns-clause-form
returns-clause-form c stands =
    let most = marks-most (mark_behind c.args.behind.now) (names_of_job (effective c.args.behind.now.on.now.run c.args.behind.now.table.now.job)) in
    let few : length c.in_ok-marks_of.field-0.items < 2 ^ 16 = omega (arith, most, c.requires.names, ap length c.in_ok-marks_of.ensures.items) in
    record {
      id = check_id-fits c.args.id c.text-id.ensures.grammar;
      job = subst name8.fits (sym c.copied.ensures) (name8-fits c.deck-deck.result.now.name c.text-job.ensures.grammar);
      run = omega (arith, c.requires.run);
      owner = omega (arith, c.requires.may.owner);
      step = omega (arith, c.step_in.type_inv);
      step_name = subst name8.fits (sym c.copied-2.ensures) (name8-fits c.args.behind.now.own.now.step.now.name c.text-step.ensures.grammar);
      counted = omega arith;
      taken = omega (arith, c.progress-far.ensures.taken, c.requires.counted.first, c.requires.counted.second);
      stands = stands;
      marked = marks-fit c.in_ok-marks_of.field-0.items few c.in_ok-marks_of.ensures.order c.in_ok-marks_of.ensures.typed;
      passed_on = (omega (arith, c.requires.passed, ap length (c.in_ok-passed_of.ensures.items ∙ c.as_slice.ensures)), c.in_ok-passed_of.ensures.typed);
    }
