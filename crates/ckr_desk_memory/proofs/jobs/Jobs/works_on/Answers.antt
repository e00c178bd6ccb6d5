use Rattle.std.proofs.Common.{◌≡◌, ap, sym, ◌∙◌, subst, refl, false, true, Option, None, Some}
use Rattle.std.specs.Option.{is_some}
use Rattle.std.proofs.lemmas.Bool.{false≢true}
use Rattle.ckr_base.specs.declared.code.Code.{Code}
use Rattle.ckr_points.specs.Restart.{place_of}
use Rattle.ckr_points.specs.Rows.{RunRow}
use Rattle.ckr_desk_turn.specs.declared.plan.Plan.TheVariants.{Work}
use Rattle.ckr_desk_turn.specs.Plans.{is_within, run_plan}
use Rattle.ckr_desk_memory.specs.Parts.{step_seen}
use Rattle.ckr_desk_memory.specs.View.{jobs_of}
use Rattle.ckr_desk_memory.proofs.DuePlans.{comes-to-unit}
use Rattle.ckr_desk_memory.proofs.FoundRuns.{known-by, known-row}
use Rattle.ckr_desk_memory.proofs.Plans.{marked-at, waiting-at}
use Rattle.ckr_desk_memory.proofs.jobs.Jobs.works_on.Goals as goal

none-given : (fail : Option Code) → is_some fail ≡ false → None ≡ fail
none-given None is = refl
none-given (Some code) is = absurd (false≢true (sym is))

pub returns-in-Unit : goal.returns-in-Unit
returns-in-Unit c = λ _ layout row at.
    let jobs = c.args.self.now in
    let run = c.args.job in
    let tables = jobs.tables.desk in
    let table = c.in-Some.table.now in
    let known = c.in-Some.ensures.some in
    let number : row.number ≡ run = ap (λ (r : RunRow). r.number) (sym (known-row tables run table known row at)) ∙ known.numbered in
    let unmarked = sym (marked-at jobs run table known row at) ∙ sym c.is_marked.ensures ∙ c.if-is_marked.false in
    let within : is_within (place_of row) ≡ true = known-by tables run table known (λ r. is_within (place_of r)) refl row at ∙ sym (c.is_within.ensures run) ∙ c.if-not-is_within.false in
    let idle = sym (waiting-at jobs run table known row at) ∙ sym c.waiting_code.ensures ∙ sym (none-given c.waiting_code.result (sym c.is_some-2.ensures ∙ c.if-is_some-2.false)) in
    let none = none-given c.args.fail (sym c.is_some.ensures ∙ c.if-is_some.false) in
    subst (λ (fail : Option Code). run_plan layout (jobs_of jobs) fail row ≡ Work run) none
    (comes-to-unit layout jobs row run (step_seen c.in-Some-running_in.on.now) number unmarked idle within c.in-Some-running_in.ensures (sym c.in-Unit.ensures.due))
