-- Each run of the tables is of a deck that was accepted, behind each event that follows.
use Rattle.std.proofs.Common.{◌≡◌, ℕ, suc, false, List, [], ◌∷◌, map, refl, ap, sym, ◌∙◌, Option, None, Some, Ok, true}
use Rattle.std.specs.List.{AllByRecursion}
use Rattle.ckr_points_invariant.specs.EarlierRuns.{MayContinue}
use Rattle.ckr_base.proofs.Options.{some-not-none}
use Rattle.ckr_base.proofs.Sequences.{each-append}
use Rattle.ckr_events.specs.declared.event.Event.{Event}
use Rattle.ckr_events.specs.declared.event.Event.TheVariants.{Selected, Submitted}
use Rattle.ckr_jcl.specs.declared.deck.Job.{Job}
use Rattle.ckr_meaning.specs.EffectiveJob.{Effective, plain_job, step_at}
use Rattle.ckr_points.specs.Follows.{follows}
use Rattle.ckr_points.specs.Restart.{after_event, spliced}
use Rattle.ckr_points.specs.Rows.{RunRow, TablesModel}
use Rattle.ckr_points.specs.Tables.{queued_run}
use Rattle.ckr_points_tables.specs.Invariant.{is_submission}
use Rattle.ckr_volumes.specs.declared.layout.Layout.{Layout}
use Rattle.ckr_desk_turn.proofs.AdmittedSteps.{spliced-steps}
use Rattle.ckr_desk_turn.specs.Queue.{AreNumbered}
use Rattle.ckr_desk_memory.proofs.Continuations.{by-continuation}
use Rattle.ckr_desk_memory.proofs.Runs.{Kind, by-submission, each-put, kind_of, rest_in, runs-stay}
use Rattle.ckr_desk_memory.proofs.Starts.Steps.{row-among}
use Rattle.ckr_desk_memory.specs.Invariant.{IsAcceptedRow, IsAnyAccepted}

accepted_as : (old new : RunRow) → kind_of new ≡ kind_of old → IsAcceptedRow old → IsAcceptedRow new
accepted_as old new same accepted = record {
  cards = accepted.cards;
  accepted = accepted.accepted ∙ sym (ap (λ (k : Kind). Ok k.1) same);
  steps = λ number owned found. accepted.steps number owned (sym (ap (λ (k : Kind). step_at k.2 number) same) ∙ found);
  plain = λ none.
      ap (λ (k : Kind). k.2) same ∙ accepted.plain (sym (ap (λ (k : Kind). k.1.restart) same) ∙ none) ∙ sym (ap (λ (k : Kind). plain_job k.0 k.1) same);
  first = λ none. ap (λ (k : Kind). k.3) same ∙ accepted.first (sym (ap (λ (k : Kind). k.1.restart) same) ∙ none);
}

abbrev first_or : Kind → List Kind → Kind
first_or k [] = k
first_or k (first ∷ rest) = first

accepted_stay : (old new : List RunRow) → map kind_of new ≡ map kind_of old → AllByRecursion IsAcceptedRow old → AllByRecursion IsAcceptedRow new
accepted_stay old [] same accepted = tt
accepted_stay [] (row ∷ rows) same accepted = cc
accepted_stay (first ∷ old) (row ∷ rows) same accepted =
    (accepted_as first row (ap (first_or (kind_of row)) same) accepted.0, accepted_stay old rows (ap rest_in same) accepted.1)

accepted_submitted : (tables : TablesModel) (job : ℕ) (cards : List ℕ) (deck : Option Job) → IsAnyAccepted (Submitted job cards) deck → AllByRecursion IsAcceptedRow tables.runs → AllByRecursion IsAcceptedRow (after_event (Submitted job cards) deck tables).runs
accepted_submitted tables job cards None is accepted = accepted
accepted_submitted tables job cards (Some deck) is accepted = each-append IsAcceptedRow tables.runs (queued_run job deck ∷ []) accepted (is, tt)

-- the steps of a run that continues another one are steps of accepted decks, as those of the two are
continued_row_accepted : (layout : Layout) (tables : TablesModel) (job initiator before step : ℕ) (id : Option (List ℕ)) → AllByRecursion IsAcceptedRow tables.runs → (its : MayContinue layout tables job initiator (suc before) step id)
    → (next : RunRow) → next.deck ≡ its.row.deck → next.job ≡ spliced its.other.job step its.row.number its.row.deck → IsAcceptedRow next
continued_row_accepted layout tables job initiator before step id accepted its next deck same =
    let was = row-among IsAcceptedRow tables job its.row accepted its.row_at in
    let other = row-among IsAcceptedRow tables (suc before) its.other accepted its.other_at in
    let bound : next.deck.restart ≡ Some its.restart = ap (λ (deck : Job). deck.restart) deck ∙ its.has in
    record {
      cards = was.cards;
      accepted = was.accepted ∙ sym (ap Ok deck);
      steps = λ number owned found.
          spliced-steps was.cards its.row.number its.row.deck was.accepted its.other.job step its.owned its.found other.steps number owned (sym (ap (λ (job : Effective). step_at job number) same) ∙ found);
      plain = λ none. absurd (some-not-none its.restart (sym bound ∙ none));
      first = λ none. absurd (some-not-none its.restart (sym bound ∙ none));
    }

accepted_other : (layout : Layout) (tables : TablesModel) (deck : Option Job) → AreNumbered 1 tables.runs → AllByRecursion IsAcceptedRow tables.runs → (event : Event) → is_submission event ≡ false → follows layout tables event deck ≡ true
    → AllByRecursion IsAcceptedRow (after_event event deck tables).runs
accepted_other layout tables deck numbered accepted (Selected job initiator (suc before) step id) other follow =
    by-continuation layout tables job initiator before step deck (λ after. AllByRecursion IsAcceptedRow after.runs) id follow
    (λ its. each-put IsAcceptedRow tables.runs its.row.number _ (continued_row_accepted layout tables job initiator before step None accepted its _ refl refl) accepted)
    (λ id its entry. each-put IsAcceptedRow tables.runs its.row.number _ (continued_row_accepted layout tables job initiator before step (Some id) accepted its _ refl refl) accepted)
accepted_other layout tables deck numbered accepted event other follow = accepted_stay tables.runs (after_event event deck tables).runs (runs-stay tables numbered event deck refl other) accepted

pub accepted-behind : (layout : Layout) (tables : TablesModel) (event : Event) (deck : Option Job) → AreNumbered 1 tables.runs → IsAnyAccepted event deck → follows layout tables event deck ≡ true → AllByRecursion IsAcceptedRow tables.runs
    → AllByRecursion IsAcceptedRow (after_event event deck tables).runs
accepted-behind layout tables event deck numbered is follow accepted =
    by-submission (λ event. IsAnyAccepted event deck → follows layout tables event deck ≡ true → AllByRecursion IsAcceptedRow (after_event event deck tables).runs)
    (λ job cards is follow. accepted_submitted tables job cards deck is accepted)
    (λ event other is follow. accepted_other layout tables deck numbered accepted event other follow)
    event is follow
