use Rattle.std.proofs.Common.{ap, sym, ◌∙◌, arith}
use Rattle.std.specs.Option.{option_map}
use Rattle.ckr_points_tables.specs.RunJobs.{own_of}
use Rattle.ckr_points_deferred.specs.Numbers.{number_from}
use Rattle.ckr_points_deferred.specs.Runs.{row_now}
use Rattle.ckr_points_deferred.proofs.StepNumbers.{number-inside, numbered-here, numbered-later, numbered-nowhere}
use Rattle.ckr_points_deferred.proofs.numbers.number_named.Goals as goal

pub loop-own-init : goal.loop-own-init
loop-own-init c = record {
  one = omega (arith, c.first_number-number.ensures);
  same = ap (λ n. number_from (row_now c.args.run.now).job c.args.name.now n) c.first_number-number.ensures;
}

pub returns-then-has_step_name : goal.returns-then-has_step_name
returns-then-has_step_name c =
    numbered-here (row_now c.args.run.now).job c.args.name.now c.loop-own.number (own_of c.in-Some.own) (sym c.in-Some.ensures.step) (sym c.has_step_name.ensures ∙ c.if-has_step_name.true)
    ∙ c.loop-own.invariant.same

pub loop-own-smaller : goal.loop-own-smaller
loop-own-smaller c =
    omega (arith, number-inside (row_now c.args.run.now).job c.loop-own.number (own_of c.in-Some.own) (sym c.in-Some.ensures.step), c.requires.fits.few)

pub loop-own-preserved : goal.loop-own-preserved
loop-own-preserved c = record {
  one = omega (arith, c.loop-own.invariant.one);
  same = numbered-later (row_now c.args.run.now).job c.args.name.now c.loop-own.number (own_of c.in-Some.own) (sym c.in-Some.ensures.step) (sym c.has_step_name.ensures ∙ c.if-has_step_name.false)
      ∙ c.loop-own.invariant.same;
}

pub returns : goal.returns
returns c =
    numbered-nowhere (row_now c.args.run.now).job c.args.name.now c.loop-own.number c.loop-own.invariant.one (sym c.step_at.ensures.step ∙ ap (option_map own_of) c.in_default.is)
    ∙ c.loop-own.invariant.same
