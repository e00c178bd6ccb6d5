-- By each event that follows the row of its run alone changes, and what the run reaches: so the holders stay apart.
use Rattle.std.proofs.Common.{◌≡◌, ◌≢◌, ℕ, zero, suc, true, false, refl, ap, sym, ◌∙◌, Option, Some, None}
use Rattle.std.specs.List.{AllByRecursion}
use Rattle.ckr_points_invariant.specs.EarlierRuns.{continues}
use Rattle.ckr_base.proofs.Options.{some-not-none}
use Rattle.ckr_events.specs.Jobs.{job_of}
use Rattle.ckr_events.specs.declared.event.Event.{Event}
use Rattle.ckr_events.specs.declared.event.Event.TheVariants.{Selected, Submitted}
use Rattle.ckr_jcl.specs.declared.deck.Job.{Job}
use Rattle.ckr_points.specs.Follows.{follows}
use Rattle.ckr_points.specs.Office.{is_holder}
use Rattle.ckr_points.specs.Restart.{after_event}
use Rattle.ckr_points.specs.Rows.{TablesModel, no_tables, run_of, RunRow}
use Rattle.ckr_points_invariant.proofs.Holders.Rows.{run-other, holder-ended}
use Rattle.ckr_points_tables.specs.Invariant.{MaySubmit, is_submission}
use Rattle.ckr_volumes.specs.declared.layout.Layout.{Layout}
use Rattle.ckr_desk_memory.proofs.Holders.Continuations.{continued-goes}
use Rattle.ckr_desk_memory.proofs.Holders.Moves.{RowGoesOn, RunGoesOn, holders-go, run-goes}
use Rattle.ckr_desk_memory.proofs.Holders.Submissions.{holders-submitted}
use Rattle.ckr_desk_memory.proofs.Continuations.{by-continuation}
use Rattle.ckr_desk_memory.specs.Invariant.{IsAcceptedRow, IsAnyAccepted, IsPlacedRow, is_in_step}
use Rattle.ckr_desk_memory.proofs.Invariant.{hand-in_step, in_step-holds, in_step-within}
use Rattle.ckr_desk_memory.proofs.Queue.{held-is}
use Rattle.ckr_desk_memory.proofs.Starts.Steps.{row-among}
use Rattle.ckr_desk_turn.specs.Queue.{AreNumbered}
use Rattle.ckr_desk_turn.proofs.Queue.Events.{run_number}
use Rattle.ckr_desk_memory.specs.Holders.{AreHolders}
use Rattle.ckr_desk_memory.proofs.Holders.RowTests.{running-holds}
use Rattle.ckr_desk_memory.proofs.Holders.RunEvents.{cancelled, coded, completed, gone, refused, released, selected, started, unmoved}
use Rattle.ckr_desk_memory.proofs.Holders.StepEvents.{checkpointed, goes_back, held, restarted, rewritten, step_ended}
use Rattle.ckr_desk_memory.proofs.EventCases.{IsHand, RunCases, by-run-cases}
use Rattle.ckr_points_invariant.proofs.Steps.Events.{on-holds}

-- ---- each event

module _ (layout : Layout) (tables : TablesModel) (rows : AllByRecursion IsAcceptedRow tables.runs) (numbered : AreNumbered 1 tables.runs) (placed : AllByRecursion IsPlacedRow tables.runs) (event : Event) where
  abbrev job : ℕ
  job = job_of event

  inside : (row : RunRow) → run_of tables job ≡ Some row → IsHand row → is_in_step row ≡ true
  inside row at hand = hand-in_step row hand (row-among IsPlacedRow tables job row placed at)

  goes-cases : RunCases layout tables event (λ after. RunGoesOn tables after job)
  goes-cases = record {
    selected = λ initiator row its. selected tables rows numbered placed job row its.row_at initiator its.queued its.holds;
    gone = λ row state at queued free over. gone tables rows numbered placed job row at state queued free;
    started = λ step items row owned its. started tables rows numbered placed job row its.row_at layout step items owned its;
    rewritten = λ writes place lengths image row owned its. rewritten tables rows numbered placed job row its.at.row_at owned its.at.found place image writes lengths its.runs its.rewrite;
    checkpointed = λ taken writes place bytes id lengths row owned its.
        checkpointed tables rows numbered placed job row its.at.row_at owned its.at.found (record { id = id; run = job; place = place; bytes = bytes }) place bytes taken writes id lengths its.runs its.check refl refl;
    withdrawn = λ row at runs. cancelled tables rows numbered placed job row at (running-holds row runs);
    step_done = λ rc writes lengths row owned its. step_ended tables rows numbered placed job row its.at.row_at owned its.at.found rc writes lengths its.runs;
    held = λ code writes lengths row owned with_code its. held tables rows numbered placed job row its.at.row_at owned its.at.found code writes lengths (inside row its.at.row_at its.hand);
    released = λ row at held. released tables rows numbered placed job row at (ap is_holder (held-is row.state held));
    restarted = λ initiator row owned point at hand found began.
        restarted tables rows numbered placed job row at owned found initiator point began (in_step-holds row (inside row at hand)) (in_step-within row (inside row at hand));
    goes_back = λ initiator row owned effect entry at hand found now kept. goes_back tables rows numbered placed job row at owned found initiator effect entry now kept (inside row at hand);
    unmoved = λ row at hand. unmoved tables rows numbered placed job row at (holder-ended row.state (in_step-holds row (inside row at hand)));
    ended = λ row its. completed tables rows numbered placed job row its.row_at (on-holds row.state its.on);
    coded = λ writes lengths row owned its.
        coded tables rows numbered placed job row its.at.row_at owned its.at.found writes lengths (in_step-holds row (inside row its.at.row_at its.hand)) (in_step-within row (inside row its.at.row_at its.hand));
    refused = λ row owned its. refused tables rows numbered placed job row its.row_at owned its.found (on-holds row.state its.on);
  }

-- by each event but a submission, and the selection of a run that continues another one, one run goes on
pub goes-on : (layout : Layout) (tables : TablesModel) (event : Event) (deck : Option Job) → AllByRecursion IsAcceptedRow tables.runs → AreNumbered 1 tables.runs → AllByRecursion IsPlacedRow tables.runs → continues event ≡ false → is_submission event ≡ false → follows layout tables event deck ≡ true → RowGoesOn tables (after_event event deck tables) (job_of event)
goes-on layout tables event deck rows numbered placed plain other follow =
    run-goes tables (after_event event deck tables) (job_of event) rows numbered (by-run-cases (λ after. RunGoesOn tables after (job_of event)) layout tables event deck other plain follow (goes-cases layout tables rows numbered placed event))

-- ---- all events

pub no-row : (number : ℕ) → run_of no_tables number ≡ None
no-row zero = refl
no-row (suc before) = refl

pub holders-none : AreHolders no_tables
holders-none = record {
  begun = λ number row at. absurd (some-not-none row (sym at ∙ no-row number));
  entries = λ number row at. absurd (some-not-none row (sym at ∙ no-row number));
  written = λ set table at. absurd (some-not-none table (sym at));
  single = λ set table at. absurd (some-not-none table (sym at));
  orderly = tt;
  kin = λ number row at. absurd (some-not-none row (sym at ∙ no-row number));
  named = λ number row at. absurd (some-not-none row (sym at ∙ no-row number));
  steps = λ number row at. absurd (some-not-none row (sym at ∙ no-row number));
  apart = λ one other row next here. absurd (some-not-none row (sym here ∙ no-row one));
  passed = λ number row at. absurd (some-not-none row (sym at ∙ no-row number));
  changed = λ number row at. absurd (some-not-none row (sym at ∙ no-row number));
}

submission-cases : (layout : Layout) (event : Event) (deck : Option Job) (tables : TablesModel) → AreHolders tables → IsAnyAccepted event deck → MaySubmit event deck → follows layout tables event deck ≡ true
    → (is_submission event ≡ false → AreHolders (after_event event deck tables)) → AreHolders (after_event event deck tables)
submission-cases layout (Submitted job cards) deck tables are accepted may follow rest = holders-submitted layout tables job cards deck are accepted may follow
submission-cases layout _ deck tables are accepted may follow rest = rest refl

-- by each event but a submission one run goes on, also where it continues another one or is denied
pub any-goes : (layout : Layout) (tables : TablesModel) (event : Event) (deck : Option Job) → AllByRecursion IsAcceptedRow tables.runs → AreNumbered 1 tables.runs → AllByRecursion IsPlacedRow tables.runs → AreHolders tables → is_submission event ≡ false → follows layout tables event deck ≡ true
    → RowGoesOn tables (after_event event deck tables) (job_of event)
any-goes layout tables (Selected job initiator (suc before) step id) deck rows numbered placed are other follow = continued-goes layout tables numbered placed are job initiator before step id deck follow
any-goes layout tables event deck rows numbered placed are other follow = goes-on layout tables event deck rows numbered placed refl other follow

-- and the others have their rows
pub others-stay : (layout : Layout) (tables : TablesModel) (event : Event) (deck : Option Job) → AllByRecursion IsAcceptedRow tables.runs → AreNumbered 1 tables.runs → AllByRecursion IsPlacedRow tables.runs → is_submission event ≡ false → follows layout tables event deck ≡ true
    → (number : ℕ) → number ≢ job_of event → run_of (after_event event deck tables) number ≡ run_of tables number
others-stay layout tables (Selected job initiator (suc before) step id) deck rows numbered placed other follow number apart =
    by-continuation layout tables job initiator before step deck (λ after. run_of after number ≡ run_of tables number) id follow
    (λ its. run-other tables _ number (λ e. apart (e ∙ run_number tables job its.row numbered its.row_at)))
    (λ id its entry. run-other tables _ number (λ e. apart (e ∙ run_number tables job its.row numbered its.row_at)))
others-stay layout tables event deck rows numbered placed other follow number apart = (goes-on layout tables event deck rows numbered placed refl other follow).rows.others number apart

-- holders stay apart by each event that follows
pub holders-stay : (layout : Layout) (tables : TablesModel) (event : Event) (deck : Option Job) → AreHolders tables → AllByRecursion IsAcceptedRow tables.runs → AreNumbered 1 tables.runs → AllByRecursion IsPlacedRow tables.runs → IsAnyAccepted event deck → MaySubmit event deck
    → follows layout tables event deck ≡ true → AreHolders (after_event event deck tables)
holders-stay layout tables event deck are rows numbered placed accepted may follow =
    submission-cases layout event deck tables are accepted may follow
    (λ other. holders-go tables (after_event event deck tables) (job_of event) (any-goes layout tables event deck rows numbered placed are other follow) rows numbered placed are)
