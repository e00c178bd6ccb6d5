use Rattle.std.proofs.Common.{◌+◌, sym, ◌∙◌, subst, ap}
use Rattle.ckr_programs.specs.Units.{IsUnitAt, StandsFor}
use Rattle.ckr_programs.specs.Steps.{record_unit, unit_of, state_of}
use Rattle.ckr_programs.proofs.UnitResults.{record_done, record_stands, closing_done}
use Rattle.ckr_programs.proofs.units.unit.Goals as goal

pub returns-in-Some-clause-work : goal.returns-in-Some-clause-work
returns-in-Some-clause-work c = λ case taken at.
    let next = subst (λ head. IsUnitAt c.args.state.now c.args.parm.now head case taken) c.in-Some.is at in
    c.take.ensures.done ∙ record_done c.args.state.now c.args.parm.now case taken c.in-Some.head next

pub returns-in-Some-clause-stands : goal.returns-in-Some-clause-stands
returns-in-Some-clause-stands c = λ case taken at.
    let next = subst (λ head. IsUnitAt c.args.state.now c.args.parm.now head case taken) c.in-Some.is at in
    subst (λ unit. StandsFor c.take.new.state case (taken + unit.taken)) (sym c.take.ensures.done)
    (subst (λ state. StandsFor state case (taken + (record_unit c.args.parm.now c.args.state.now c.in-Some.head).taken)) (sym c.take.ensures.state)
    (record_stands c.args.state.now c.args.parm.now case taken c.in-Some.head next))

pub returns-in-None-clause-work : goal.returns-in-None-clause-work
returns-in-None-clause-work c = λ case taken at.
    let next = subst (λ head. IsUnitAt c.args.state.now c.args.parm.now head case taken) c.in-None.is at in
    c.close.ensures.done ∙ closing_done c.args.state.now c.args.parm.now case taken next

pub returns-in-Some-clause-unit : goal.returns-in-Some-clause-unit
unfolding unit_of
returns-in-Some-clause-unit c = c.take.ensures.done ∙ ap (unit_of c.args.parm.now c.args.state.now) (sym c.in-Some.is)

pub returns-in-Some-clause-state : goal.returns-in-Some-clause-state
unfolding state_of
returns-in-Some-clause-state c = c.take.ensures.state ∙ ap (state_of c.args.parm.now c.args.state.now) (sym c.in-Some.is)

pub returns-in-None-clause-unit : goal.returns-in-None-clause-unit
unfolding unit_of
returns-in-None-clause-unit c = c.close.ensures.done ∙ ap (unit_of c.args.parm.now c.args.state.now) (sym c.in-None.is)

pub returns-in-None-clause-state : goal.returns-in-None-clause-state
unfolding state_of
returns-in-None-clause-state c = c.close.ensures.state ∙ ap (state_of c.args.parm.now c.args.state.now) (sym c.in-None.is)
