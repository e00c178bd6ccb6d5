use Rattle.std.proofs.Common.{ap, sym, ◌∙◌, refl}
use Rattle.std.specs.Option.{is_some}
use Rattle.ckr_meaning.specs.declared.place.Place.TheVariants.{Before, Opened, Within}
use Rattle.ckr_points.specs.Restart.{place_of}
use Rattle.ckr_desk_turn.specs.Jobs.{is_failed, waiting_code}
use Rattle.ckr_desk_memory.specs.View.{jobs_of}
use Rattle.ckr_desk_memory.proofs.FoundRuns.{known-by}
use Rattle.ckr_desk_memory.proofs.Plans.{marked-at, next-coded, next-failed, next-is, next-waiting, waiting-at}
use Rattle.ckr_desk_memory.proofs.jobs.Jobs.next_step.Goals as goal
use Rattle.ckr_desk_memory.proofs.jobs.Jobs.next_step.Goals.{then-is_marked-via-then-is_marked, then-is_marked-via-else-is_marked+then-is_some}

pub returns-then-is_marked : goal.returns-then-is_marked
returns-then-is_marked c = λ row at.
    let jobs = c.args.self.now in
    let table = c.in_ok-table.table.now in
    let known = c.in_ok-table.ensures.some in
    let failed = is_failed (jobs_of jobs) row.number in
    let waits = waiting_code (jobs_of jobs) row.number in
    elim c.then-is_marked.branch [
      | then-is_marked-via-then-is_marked w ↦
          next-failed failed waits c.args.fail (place_of row) (sym (marked-at jobs c.args.job table known row at) ∙ sym c.is_marked.ensures ∙ w.if-is_marked.true)
      | then-is_marked-via-else-is_marked+then-is_some w ↦
          next-waiting failed waits c.args.fail (place_of row)
          (ap is_some (sym (waiting-at jobs c.args.job table known row at) ∙ sym w.waiting_code.ensures) ∙ sym w.is_some.ensures ∙ w.if-is_some.true)
    ]

pub returns-then-is_some-2 : goal.returns-then-is_some-2
returns-then-is_some-2 c = λ row at.
    next-coded (is_failed (jobs_of c.args.self.now) row.number) (waiting_code (jobs_of c.args.self.now) row.number) c.args.fail (place_of row) (sym c.is_some-2.ensures ∙ c.if-is_some-2.true)

pub returns-in-Within : goal.returns-in-Within
returns-in-Within c = λ row at.
    let jobs = c.args.self.now in
    let table = c.in_ok-table.table.now in
    let known = c.in_ok-table.ensures.some in
    sym (next-is (is_failed (jobs_of jobs) row.number) (waiting_code (jobs_of jobs) row.number) c.args.fail (place_of row) (Within c.in-Within.field-0 c.in-Within.field-1)
    (sym (marked-at jobs c.args.job table known row at) ∙ sym c.is_marked.ensures ∙ c.if-is_marked.false)
    (ap is_some (sym (waiting-at jobs c.args.job table known row at) ∙ sym c.waiting_code.ensures) ∙ sym c.is_some.ensures ∙ c.if-is_some.false)
    (sym c.is_some-2.ensures ∙ c.if-is_some-2.false)
    (known-by jobs.tables.desk c.args.job table known place_of refl row at ∙ sym (c.in-Within.ensures c.args.job)))

pub returns-in-Before : goal.returns-in-Before
returns-in-Before c = λ row at.
    let jobs = c.args.self.now in
    let table = c.in_ok-table.table.now in
    let known = c.in_ok-table.ensures.some in
    sym (next-is (is_failed (jobs_of jobs) row.number) (waiting_code (jobs_of jobs) row.number) c.args.fail (place_of row) (Before c.in-Before.number)
    (sym (marked-at jobs c.args.job table known row at) ∙ sym c.is_marked.ensures ∙ c.if-is_marked.false)
    (ap is_some (sym (waiting-at jobs c.args.job table known row at) ∙ sym c.waiting_code.ensures) ∙ sym c.is_some.ensures ∙ c.if-is_some.false)
    (sym c.is_some-2.ensures ∙ c.if-is_some-2.false)
    (known-by jobs.tables.desk c.args.job table known place_of refl row at ∙ sym (c.in-Before.ensures c.args.job)))

pub returns-in-Before-2 : goal.returns-in-Before-2
returns-in-Before-2 c = λ row at.
    let jobs = c.args.self.now in
    let table = c.in_ok-table.table.now in
    let known = c.in_ok-table.ensures.some in
    sym (next-is (is_failed (jobs_of jobs) row.number) (waiting_code (jobs_of jobs) row.number) c.args.fail (place_of row) (Opened c.in-Before.number)
    (sym (marked-at jobs c.args.job table known row at) ∙ sym c.is_marked.ensures ∙ c.if-is_marked.false)
    (ap is_some (sym (waiting-at jobs c.args.job table known row at) ∙ sym c.waiting_code.ensures) ∙ sym c.is_some.ensures ∙ c.if-is_some.false)
    (sym c.is_some-2.ensures ∙ c.if-is_some-2.false)
    (known-by jobs.tables.desk c.args.job table known place_of refl row at ∙ sym (c.in-Before.ensures c.args.job)))
