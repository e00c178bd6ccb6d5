use Rattle.std.proofs.Common.{◌+◌, ap, subst, sym, ◌∙◌, arith}
use Rattle.ckr_steps.proofs.Answers.{answer_is, behind_is, done_are}
use Rattle.ckr_steps.specs.StepUnit.{worked_for}
use Rattle.ckr_steps.specs.Units.{unit_of, state_of, IsCounted}
use Rattle.ckr_steps.proofs.step_run.StepRun.ahead.Goals as goal

pub of-requires-clause-short : goal.of-requires-clause-short
of-requires-clause-short g c name set is = (c.requires.stored.stands name set is).lrecl_below

pub of-requires-clause-first : goal.of-requires-clause-first
of-requires-clause-first g c = let counted = c.unit-done.ensures.counted 0 (omega arith) (omega arith) in omega (arith, counted.first)

pub of-requires-clause-second : goal.of-requires-clause-second
of-requires-clause-second g c = let counted = c.unit-done.ensures.counted 0 (omega arith) (omega arith) in omega (arith, counted.second)

pub returns-clause-ahead : goal.returns-clause-ahead
returns-clause-ahead g c =
    let step = c.args.self.now in
    let library = c.args.library.now in
    let heads = c.in_ok-heads.heads in
    let unit = c.unit-done.ensures.unit ∙ ap (λ state. unit_of step.parm state heads) c.copied-state.ensures in
    let state = c.unit-done.ensures.state ∙ ap (λ state. state_of step.parm state heads) c.copied-state.ensures in
    let of = c.of.ensures in
    record {
      heads = heads;
      read = c.in_ok-heads.ensures.read;
      unit = record {
        answer = of.worked ∙ answer_is library step heads c.unit-done.result c.unit-done.new.state unit state;
        behind = behind_is library step heads c.unit-done.result c.unit-done.new.state unit state c.of.result.state c.of.result.count of.state of.count;
        writes = of.writes ∙ done_are library step heads c.unit-done.result c.unit-done.new.state unit state;
        counted = subst (λ s. IsCounted step.parm s (step.writes + c.of.result.count)) (sym of.state) (c.unit-done.ensures.counted c.of.result.count of.four of.few);
      };
    }

pub returns-clause-answer : goal.returns-clause-answer
unfolding returns-clause-ahead
returns-clause-answer g c told =
    let ahead = returns-clause-ahead g c in
    ahead.unit.answer ∙ ap (worked_for c.args.library.now c.args.self.now) (ahead.read told)
