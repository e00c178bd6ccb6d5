-- The rows behind an event by which no run ends.
use Rattle.std.proofs.Common.{◌≡◌, ◌≢◌, ℕ, zero, suc, true, false, not, ◌&&◌, ◌||◌, List, [], ◌∷◌, ◌++◌, length, refl, ap, sym, ◌∙◌, subst, Option, Some, None}
use Rattle.std.specs.Prelude.{◌==◌}
use Rattle.std.specs.Option.{is_none, is_some}
use Rattle.std.proofs.lemmas.Bool.{false≢true, or_right}
use Rattle.ckr_base.specs.declared.code.Code.{Code}
use Rattle.ckr_base.proofs.Bools.{and-first}
use Rattle.ckr_base.proofs.Numbers.{equal-true}
use Rattle.ckr_base.proofs.Sequences.{get-append-last, get-append-front}
use Rattle.ckr_events.specs.declared.event.Event.TheVariants.{Submitted as SubmittedEvent}
use Rattle.ckr_events.specs.declared.event.Made.{Made}
use Rattle.ckr_jcl.specs.declared.deck.Job.{Job}
use Rattle.ckr_library.specs.declared.sets.Kept.{Kept}
use Rattle.ckr_library.specs.NameMaps.{Named, with_changed}
use Rattle.ckr_meaning.specs.Allotments.{DdAllotment, opened_all}
use Rattle.ckr_meaning.specs.EffectiveJob.{OwnedStep, placed_in, stamp_of}
use Rattle.ckr_meaning.specs.LibrarySet.{AreWithinSpace}
use Rattle.ckr_meaning.specs.declared.place.Place.TheVariants.{Before, Within}
use Rattle.ckr_points_library.specs.Commit.{output_names}
use Rattle.ckr_desk_turn.specs.Cards.{stored_of_kept}
use Rattle.ckr_points.specs.declared.run.RunState.{RunState}
use Rattle.ckr_points.specs.declared.run.RunState.TheVariants.{Held as HeldRun, On, Queued, Released as ReleasedRun}
use Rattle.ckr_points.specs.Follows.{is_empty, is_in_state, is_running, is_within, own_step, state_number, may_hold}
use Rattle.ckr_points.specs.Marks.{with_point}
use Rattle.ckr_points.specs.Office.{Leg, Office, office_after, is_holder}
use Rattle.ckr_points.specs.Restart.{place_of, step_in}
use Rattle.ckr_points.specs.Rows.{RunRow, TableSet, TablesModel, run_of, standing_of, table_ways, with_run}
use Rattle.ckr_points.specs.Soundness.{may_come}
use Rattle.ckr_points.specs.Tables.{after_cancelled, after_checkpointed, after_commit, after_dispositions, after_held, after_rewritten, after_step_ended, after_submitted, committed, fresh_effect, is_checkpoints, is_updates, made_tables, name_with_role, queued_run, row_rewritten, start_point, table_rewritten, after_started}
use Rattle.ckr_points_invariant.specs.Invariant.{IsAgreed}
use Rattle.ckr_points_invariant.proofs.Holders.Rows.{queued-is, run-other, run-same}
use Rattle.ckr_points_invariant.proofs.Select.Holders.{all_legs}
use Rattle.ckr_points_invariant.proofs.Select.Invariant.{chosen}
use Rattle.ckr_points_invariant.proofs.WaitingRuns.{follows-of}
use Rattle.ckr_volumes.specs.declared.layout.Layout.{Layout}
use Rattle.ckr_desk_turn.specs.Invariant.{IsAdmitted, is_in_its_state, is_off, is_on_one}
use Rattle.ckr_desk_turn.specs.DeckEvents.{IsKeptDeck}
use Rattle.ckr_desk_turn.proofs.AdmittedSteps.{queued-admitted}
use Rattle.ckr_desk_turn.proofs.KeptDecks.{kept_read}
use Rattle.ckr_desk_turn.proofs.OtherRuns.{between-steps}
use Rattle.ckr_desk_turn.proofs.Runs.Rows.{HasRow, HasRows, Stands, has-row, runs-renewed, stands-more, stands-one}
use Rattle.ckr_desk_turn.proofs.Select.{code_while, queued-on}
use Rattle.ckr_desk_turn.proofs.Opening.{on-is}
use Rattle.ckr_points_invariant.proofs.Start.Event.{StartsNow}

-- a row within a step that it has
pub has-step : (row : RunRow) (owned : OwnedStep) → own_step row ≡ Some owned → is_in_its_state row ≡ true → IsAdmitted row → HasRow row
has-step row owned found state admitted = record {
  in_state = state;
  admitted = admitted;
  stepped = or_right (not (is_running row || is_off row.state)) (is_some (own_step row)) (ap is_some found);
}

-- a run that waits goes
gone-has : (row : RunRow) (state : RunState) → is_holder state ≡ false → row.state ≡ Queued → HasRow row → HasRow (record row { state = state })
gone-has row On over queued was = absurd (false≢true (sym over))
gone-has row HeldRun over queued was = absurd (false≢true (sym over))
gone-has row ReleasedRun over queued was = absurd (false≢true (sym over))
gone-has row _ over queued was = record {
  in_state = sym (ap (λ (s : RunState). (is_none row.initiator || is_on_one s) && code_while s row.code) queued) ∙ was.in_state;
  admitted = record { cards = was.admitted.cards; accepted = was.admitted.accepted; steps = was.admitted.steps; named = was.admitted.named; lodged = refl };
  stepped = refl;
}

-- a holder that is held within its step is released
released-has : (row : RunRow) → row.state ≡ HeldRun → HasRow row → HasRow (record row { state = ReleasedRun })
released-has row held was = record {
  in_state = sym (ap (λ (s : RunState). (is_none row.initiator || is_on_one s) && code_while s row.code) held) ∙ was.in_state;
  admitted = record { cards = was.admitted.cards; accepted = was.admitted.accepted; steps = was.admitted.steps; named = was.admitted.named; lodged = refl };
  stepped = sym (ap (λ (s : RunState). not ((state_number s == 2) && is_within (place_of row) || is_off s) || is_some (own_step row)) held) ∙ was.stepped;
}

module _ (layout : Layout) (office : Office) (kept : IsAgreed layout office) (has : HasRows office) where
  pub submitted-runs : (job : ℕ) (cards : List ℕ) (deck : Option Job) → may_come layout office (SubmittedEvent job cards, deck) ≡ true → IsKeptDeck cards deck → HasRows (office_after (SubmittedEvent job cards, deck) office)
  submitted-runs job cards None may kept_so = absurd kept_so
  submitted-runs job cards (Some deck) may kept_so =
      let its : job ≡ suc (length office.tables.runs) =
      equal-true job (suc (length office.tables.runs))
      (and-first (job == suc (length office.tables.runs)) (not (is_empty cards))
      (and-first (job == suc (length office.tables.runs) && not (is_empty cards)) _ (follows-of layout office (SubmittedEvent job cards) (Some deck) may))) in
      subst (λ n. HasRows (record office { tables = after_submitted n deck office.tables })) (sym its)
      (runs-renewed office (record office { tables = after_submitted (suc (length office.tables.runs)) deck office.tables }) (suc (length office.tables.runs)) has
      (record {
        next = queued_run (suc (length office.tables.runs)) deck;
        stands = record { mine = get-append-last office.tables.runs (queued_run (suc (length office.tables.runs)) deck); others = others };
        has = record { in_state = refl; admitted = queued-admitted (stored_of_kept cards) (suc (length office.tables.runs)) deck (kept_read cards deck kept_so); stepped = refl };
      })
      has.spaced has.spaced_legs)
    where
      others : (other : ℕ) → other ≢ suc (length office.tables.runs) → run_of (after_submitted (suc (length office.tables.runs)) deck office.tables) other ≡ run_of office.tables other
      others zero apart = refl
      others (suc place) apart = get-append-front office.tables.runs (queued_run (suc (length office.tables.runs)) deck) place (λ e. apart (ap suc e))

  pub chosen-runs : (row : RunRow) (initiator : ℕ) (row_at : run_of office.tables row.number ≡ Some row) (queued : is_in_state Queued row ≡ true) (plain : row.deck.restart ≡ None) (free : may_hold office.tables row ≡ true) → HasRows (chosen layout office row initiator kept row_at queued plain free)
  chosen-runs row initiator row_at queued plain free =
      let next : RunRow = record row { state = On; initiator = Some initiator; place = Some (Before 1) } in
      let was : HasRow row = has-row office has row.number row row_at in
      runs-renewed office (chosen layout office row initiator kept row_at queued plain free) row.number has
      (record {
        next = next;
        stands = record { mine = run-same office.tables next row row.number row_at refl; others = λ other apart. run-other office.tables next other apart };
        has = record { in_state = queued-on row (queued-is row.state queued) was.in_state; admitted = record { cards = was.admitted.cards; accepted = was.admitted.accepted; steps = was.admitted.steps; named = was.admitted.named; lodged = refl }; stepped = refl };
      })
      has.spaced (all_legs (λ (leg : Leg). AreWithinSpace leg.start) _ office.legs has.spaced has.spaced_legs)

  -- a row that comes in place of its run's, with other data sets
  row-runs : (job : ℕ) (row next : RunRow) (sets : Named TableSet) → run_of office.tables job ≡ Some row → next.number ≡ row.number → HasRow next → HasRows (record office { tables = with_run next (record office.tables { sets = sets }) })
  row-runs job row next sets at same its =
      runs-renewed office (record office { tables = with_run next (record office.tables { sets = sets }) }) job has
      (record { next = next; stands = stands-one office.tables sets job row next at (same ∙ kept.numbered job row at); has = its })
      has.spaced has.spaced_legs

  pub gone-runs : (job : ℕ) (row : RunRow) (state : RunState) → run_of office.tables job ≡ Some row → is_in_state Queued row ≡ true → is_holder state ≡ false → HasRows (record office { tables = with_run (record row { state = state }) office.tables })
  gone-runs job row state at queued over = row-runs job row (record row { state = state }) office.tables.sets at refl (gone-has row state over (queued-is row.state queued) (has-row office has job row at))

  pub withdrawn-runs : (job : ℕ) (row : RunRow) → run_of office.tables job ≡ Some row → HasRows (record office { tables = after_cancelled row office.tables })
  withdrawn-runs job row at =
      let was : HasRow row = has-row office has job row at in
      row-runs job row (record row { in_effect = None }) office.tables.sets at refl
      (record { in_state = was.in_state; admitted = record { cards = was.admitted.cards; accepted = was.admitted.accepted; steps = was.admitted.steps; named = was.admitted.named; lodged = was.admitted.lodged }; stepped = was.stepped })

  pub started-runs : (job step : ℕ) (items : List Made) (row : RunRow) (leg : Leg) (owned : OwnedStep) → StartsNow layout office job row leg owned step items → HasRows (record office { tables = after_started row owned step items office.tables })
  started-runs job step items row leg owned now =
      let stamp = stamp_of owned step in
      let placed : List DdAllotment = placed_in table_ways (standing_of row office.tables) row.job.root owned in
      let opened : Named TableSet = opened_all table_ways stamp placed office.tables.sets in
      let next : RunRow = record row { place = Some (Within step 0); points = with_point (start_point row step opened) row.points } in
      let was : HasRow row = has-row office has job row now.holder.row_at in
      row-runs job row next (made_tables stamp items placed opened) now.holder.row_at refl (has-step next owned now.found was.in_state (record { cards = was.admitted.cards; accepted = was.admitted.accepted; steps = was.admitted.steps; named = was.admitted.named; lodged = was.admitted.lodged }))

  pub rewritten-runs : (job writes : ℕ) (lengths : List ℕ) (row : RunRow) (owned : OwnedStep) → run_of office.tables job ≡ Some row → own_step row ≡ Some owned → HasRows (record office { tables = after_rewritten row owned (step_in (place_of row)) writes lengths office.tables })
  rewritten-runs job writes lengths row owned at found =
      let step : ℕ = step_in (place_of row) in
      let next : RunRow = record (row_rewritten step row) { place = Some (Within step writes) } in
      let sets : Named TableSet = with_changed (name_with_role row.job.root owned is_updates) (table_rewritten owned.owner step) (committed (output_names row.job.root owned) lengths office.tables.sets) in
      let was : HasRow row = has-row office has job row at in
      row-runs job row next sets at refl (has-step next owned found was.in_state (record { cards = was.admitted.cards; accepted = was.admitted.accepted; steps = was.admitted.steps; named = was.admitted.named; lodged = was.admitted.lodged }))

  -- an entry is written
  pub checkpointed-runs : (job taken writes : ℕ) (entry : Kept) (lengths : List ℕ) (row : RunRow) (owned : OwnedStep) → run_of office.tables job ≡ Some row → own_step row ≡ Some owned → HasRows (record office { tables = after_checkpointed row owned (step_in (place_of row)) entry taken writes lengths office.tables })
  checkpointed-runs job taken writes entry lengths row owned at found =
      let step : ℕ = step_in (place_of row) in
      let next : RunRow = record row { count = suc row.count; in_effect = Some (fresh_effect (name_with_role row.job.root owned is_checkpoints) entry); place = Some (Within step writes) } in
      let sets : Named TableSet = committed (output_names row.job.root owned) lengths office.tables.sets in
      let stands : Stands office.tables (with_run next (record office.tables { sets = sets })) job next = stands-one office.tables sets job row next at (kept.numbered job row at) in
      let was : HasRow row = has-row office has job row at in
      runs-renewed office (record office { tables = after_checkpointed row owned step entry taken writes lengths office.tables }) job has
      (record {
        next = next;
        stands = record { mine = stands.mine; others = stands.others };
        has = has-step next owned found was.in_state (record { cards = was.admitted.cards; accepted = was.admitted.accepted; steps = was.admitted.steps; named = was.admitted.named; lodged = was.admitted.lodged });
      })
      has.spaced has.spaced_legs

  pub step_done-runs : (job rc writes : ℕ) (lengths : List ℕ) (row : RunRow) (owned : OwnedStep) → run_of office.tables job ≡ Some row → is_in_state On row ≡ true → HasRows (record office { tables = after_step_ended row owned (step_in (place_of row)) rc writes lengths office.tables })
  step_done-runs job rc writes lengths row owned at on =
      let step : ℕ = step_in (place_of row) in
      let done : TablesModel = after_commit row owned step writes lengths office.tables in
      let stock = after_dispositions row owned step false done in
      let next : RunRow = record row { place = Some (Before (suc step)); rcs = row.rcs ++ (step, rc) ∷ []; in_effect = None; passed = stock.passed } in
      let was : HasRow row = has-row office has job row at in
      runs-renewed office (record office { tables = with_run next (record done { sets = stock.sets }) }) job has
      (record {
        next = next;
        stands =
            stands-more office.tables done stock.sets job (record row { place = Some (Within step writes) }) next
            (stands-one office.tables (committed (output_names row.job.root owned) lengths office.tables.sets) job row (record row { place = Some (Within step writes) }) at (kept.numbered job row at))
            (kept.numbered job row at);
        has = record {
          in_state = was.in_state;
          admitted = record { cards = was.admitted.cards; accepted = was.admitted.accepted; steps = was.admitted.steps; named = was.admitted.named; lodged = was.admitted.lodged };
          stepped = between-steps next (on-is row.state on) refl;
        };
      })
      has.spaced has.spaced_legs

  -- the run is held, or a held one is released
  pub held-runs : (job writes : ℕ) (code : Code) (lengths : List ℕ) (row : RunRow) (owned : OwnedStep) → run_of office.tables job ≡ Some row → own_step row ≡ Some owned → HasRows (record office { tables = after_held row owned (step_in (place_of row)) code writes lengths office.tables })
  held-runs job writes code lengths row owned at found =
      let next : RunRow = record row { state = HeldRun; initiator = None; code = Some code; place = Some (Within (step_in (place_of row)) writes) } in
      let was : HasRow row = has-row office has job row at in
      row-runs job row next (committed (output_names row.job.root owned) lengths office.tables.sets) at refl (has-step next owned found refl (record { cards = was.admitted.cards; accepted = was.admitted.accepted; steps = was.admitted.steps; named = was.admitted.named; lodged = refl }))

  pub released-runs : (job : ℕ) (row : RunRow) → run_of office.tables job ≡ Some row → row.state ≡ HeldRun → HasRows (record office { tables = with_run (record row { state = ReleasedRun }) office.tables })
  released-runs job row at held = row-runs job row (record row { state = ReleasedRun }) office.tables.sets at refl (released-has row held (has-row office has job row at))
