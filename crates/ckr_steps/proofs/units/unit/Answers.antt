use Rattle.std.proofs.Common.{◌<◌, sym, ◌∙◌, ap, subst}
use Rattle.ckr_entry.specs.declared.point.State.{State}
use Rattle.ckr_meaning.specs.States.{first_of, second_of}
use Rattle.ckr_steps.specs.Units.{IsCounted, due_of}
use Rattle.ckr_steps.proofs.Counts.{open_yet, plain_counted, match_counted}
use Rattle.ckr_steps.proofs.units.unit.Goals as goal

pub returns-in-Plain-clause-counted : goal.returns-in-Plain-clause-counted
unfolding due_of
returns-in-Plain-clause-counted c more few fits =
    let state = c.in-Plain.state in
    plain_counted c.args.parm.now state c.unit.new.state c.unit.result c.args.writes more (subst (λ (s : State). IsCounted c.args.parm.now s c.args.writes) c.in-Plain.is c.requires.counted)
    (open_yet state.closed _ _ (sym (ap (due_of c.args.parm.now) c.in-Plain.is) ∙ c.requires.due)) c.unit.ensures.bound few fits c.args.heads.now.first
    (λ some. subst (λ (s : State). first_of s < 1000000) c.in-Plain.is (c.requires.first some)) c.unit.ensures.unit c.unit.ensures.state

pub returns-in-Matched-clause-counted : goal.returns-in-Matched-clause-counted
unfolding due_of
returns-in-Matched-clause-counted c more few fits =
    let state = c.in-Matched.state in
    match_counted c.args.parm.now state c.unit-in-Matched.new.state c.unit-in-Matched.result c.args.writes more (subst (λ (s : State). IsCounted c.args.parm.now s c.args.writes) c.in-Matched.is c.requires.counted)
    (open_yet state.closed _ _ (sym (ap (due_of c.args.parm.now) c.in-Matched.is) ∙ c.requires.due)) c.unit-in-Matched.ensures.rejected few fits c.args.heads.now
    (λ some. subst (λ (s : State). first_of s < 1000000) c.in-Matched.is (c.requires.first some)) (λ some. subst (λ (s : State). second_of s < 1000000) c.in-Matched.is (c.requires.second some)) c.unit-in-Matched.ensures.unit c.unit-in-Matched.ensures.state
