use Rattle.std.proofs.Common.{sym, ◌∙◌, subst, ap}
use Rattle.ckr_match.specs.Units.{StandsFor, taken_behind}
use Rattle.ckr_match.specs.Steps.{record_unit, unit_for, state_behind, unit_of, state_of}
use Rattle.ckr_match.proofs.UnitResults.{IsDone, is_done}
use Rattle.ckr_match.proofs.units.unit.Goals as goal

pub returns-in-Some-clause-work : goal.returns-in-Some-clause-work
returns-in-Some-clause-work c = λ case taken at.
    let next = subst (λ next. IsDone c.args.state.now c.args.parm.now next case taken) c.in-Some.ensures (is_done c.args.state.now c.args.parm.now c.args.heads.now case taken at) in
    c.take.ensures.done ∙ next.done

pub returns-in-Some-clause-stands : goal.returns-in-Some-clause-stands
returns-in-Some-clause-stands c = λ case taken at.
    let next = subst (λ next. IsDone c.args.state.now c.args.parm.now next case taken) c.in-Some.ensures (is_done c.args.state.now c.args.parm.now c.args.heads.now case taken at) in
    subst (λ unit. StandsFor c.take.new.state case (taken_behind unit taken)) (sym c.take.ensures.done)
    (subst (λ state. StandsFor state case (taken_behind (record_unit c.args.parm.now c.args.state.now c.in-Some.second c.in-Some.head.now) taken)) (sym c.take.ensures.state) next.stands)

pub returns-in-None-clause-work : goal.returns-in-None-clause-work
returns-in-None-clause-work c = λ case taken at.
    let next = subst (λ next. IsDone c.args.state.now c.args.parm.now next case taken) c.in-None.ensures (is_done c.args.state.now c.args.parm.now c.args.heads.now case taken at) in
    c.close.ensures.done ∙ next.done

pub returns-in-Some-clause-unit : goal.returns-in-Some-clause-unit
unfolding unit_of
returns-in-Some-clause-unit c = c.take.ensures.done ∙ ap (unit_for c.args.parm.now c.args.state.now) (sym c.in-Some.ensures)

pub returns-in-Some-clause-state : goal.returns-in-Some-clause-state
unfolding state_of
returns-in-Some-clause-state c = c.take.ensures.state ∙ ap (state_behind c.args.parm.now c.args.state.now) (sym c.in-Some.ensures)

pub returns-in-None-clause-unit : goal.returns-in-None-clause-unit
unfolding unit_of
returns-in-None-clause-unit c = c.close.ensures.done ∙ ap (unit_for c.args.parm.now c.args.state.now) (sym c.in-None.ensures)

pub returns-in-None-clause-state : goal.returns-in-None-clause-state
unfolding state_of
returns-in-None-clause-state c = c.close.ensures.state ∙ ap (state_behind c.args.parm.now c.args.state.now) (sym c.in-None.ensures)
