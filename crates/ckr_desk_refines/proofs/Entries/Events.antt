-- One more event leaves what holds of each data set, where it takes no checkpoint.
use Rattle.std.proofs.Common.{◌≡◌, ℕ, zero, suc, Bool, true, false, List, [], ◌∷◌, refl, sym, subst, Option, Some, None}
use Rattle.std.specs.Option.{option_map_or}
use Rattle.std.proofs.lemmas.Bool.{false≢true}
use Rattle.std.proofs.lemmas.List.{map-append}
use Rattle.arrayvec.specs.ArrayVec.{ArrayVec}
use Rattle.ckr_base.specs.declared.code.Code.{Code}
use Rattle.ckr_events.specs.declared.event.Event.{Event}
use Rattle.ckr_events.specs.declared.event.Event.TheVariants.{Checkpointed, Ended, Held, Restarted, Rewritten, Selected, Started, StepEnded, Submitted}
use Rattle.ckr_events.specs.declared.event.Ending.{Ending}
use Rattle.ckr_events.specs.declared.event.Made.{Made}
use Rattle.ckr_events.specs.Jobs.{job_of}
use Rattle.ckr_jcl.specs.declared.deck.Job.{Job}
use Rattle.ckr_library.specs.NameMaps.{Name, Named}
use Rattle.ckr_meaning.specs.Allotments.{DdAllotment, opened_all}
use Rattle.ckr_meaning.specs.EffectiveJob.{Effective, placed_in, stamp_of}
use Rattle.ckr_meaning.specs.declared.place.Place.TheVariants.{Before, Within}
use Rattle.ckr_points.specs.declared.run.RunState.TheVariants.{Held as HeldRun, On}
use Rattle.ckr_points.specs.Marks.{with_point}
use Rattle.ckr_points.specs.Office.{Office, office_after}
use Rattle.ckr_points.specs.Restart.{after_ended, after_event, after_restarted}
use Rattle.ckr_points.specs.Rows.{RunRow, TableSet, TablesModel, run_of, standing_of, step_of_run, table_ways, with_run}
use Rattle.ckr_points.specs.Soundness.{may_come}
use Rattle.ckr_points.specs.Tables.{after_commit, after_held, after_rewritten, after_started, after_step_ended, is_updates, made_tables, name_with_role, queued_run, row_rewritten, start_point}
use Rattle.ckr_points_invariant.specs.Invariant.{IsAgreed, step_now}
use Rattle.ckr_points_invariant.specs.EarlierRuns.{continues}
use Rattle.ckr_volumes.specs.declared.layout.Layout.{Layout}
use Rattle.ckr_desk_refines.specs.Entries.{AreThere, AreWithin, EndWithin, KeepsNoneIfPlain, OnlyCheckSetsKeep, HasEntries, UnderEachName, jobs_of, takes_checkpoint}
use Rattle.ckr_desk_refines.proofs.Entries.Continuation.{continued-stays, programs-continued}
use Rattle.ckr_desk_refines.proofs.Entries.Legs.{legs-stay, tables-behind}
use Rattle.ckr_desk_refines.proofs.Entries.Rows as rows
use Rattle.ckr_desk_refines.proofs.Entries.Sets as sets
use Rattle.ckr_desk_refines.proofs.Entries.There.{has-jobs, has-legs, has-more, plain-stays, there-stays, within-stays}

-- each run has the number of its place
abbrev pub AreNumbered : TablesModel → Type 0
AreNumbered tables = (number : ℕ) (row : RunRow) → run_of tables number ≡ Some row → row.number ≡ number

-- a deck is submitted
abbrev pub brings_job : Event → Bool
brings_job (Submitted job cards) = true
brings_job _ = false

module _ (E : TableSet → Type 0) (stays : sets.Stays E) (tables : TablesModel) (numbered : AreNumbered tables) (each : UnderEachName E tables.sets) where
  abbrev jobs : List Effective
  jobs = jobs_of tables

  abbrev Hold : TablesModel → Type 0
  Hold later = rows.Hold jobs E stays later

  now : Hold tables
  now = record { jobs_are = refl; each = each }

  -- a row that keeps its number and its job
  row-same : (job : ℕ) (change : RunRow → RunRow) → ((row : RunRow) → rows.Fits jobs E stays row → rows.Fits jobs E stays (change row)) → Hold (option_map_or (λ row. with_run (change row) tables) (run_of tables job) tables)
  row-same job change keeps =
      rows.by-row jobs E stays tables numbered now job (λ row. with_run (change row) tables)
      (λ row e mine. rows.run-holds jobs E stays (change row) tables (keeps row mine) now)

  selected-stays : (job initiator step : ℕ) (id : Option Name) (deck : Option Job) → Hold (after_event (Selected job initiator 0 step id) deck tables)
  selected-stays job initiator step id deck = row-same job (λ row. record row { state = On; initiator = Some initiator; place = Some (Before 1) }) (λ row mine. mine)

  held-stays : (job writes : ℕ) (code : Code) (lengths : ArrayVec ℕ) (deck : Option Job) → Hold (after_event (Held job code writes lengths) deck tables)
  held-stays job writes code lengths deck =
      rows.by-step jobs E stays tables numbered now job (λ row owned step. after_held row owned step code writes lengths.items tables)
      (λ row owned e found mine. rows.commit-holds jobs E stays tables (record row { state = HeldRun; initiator = None; code = Some code }) owned (step_now row) writes lengths.items now mine)

  rewritten-stays : (job taken writes place : ℕ) (lengths : ArrayVec ℕ) (image : List ℕ) (deck : Option Job) → Hold (after_event (Rewritten job taken writes lengths place image) deck tables)
  rewritten-stays job taken writes place lengths image deck =
      rows.by-step jobs E stays tables numbered now job (λ row owned step. after_rewritten row owned step writes lengths.items tables)
      (λ row owned e found mine.
      let done : TablesModel = after_commit (row_rewritten (step_now row) row) owned (step_now row) writes lengths.items tables in
      let so : Hold done = rows.commit-holds jobs E stays tables (row_rewritten (step_now row) row) owned (step_now row) writes lengths.items now mine in
      rows.sets-hold jobs E stays done _ (sets.rewritten-stays E stays (name_with_role row.job.root owned is_updates) owned.owner (step_now row) done.sets so.each) so)

  step_end-stays : (job step rc writes : ℕ) (lengths : ArrayVec ℕ) (deck : Option Job) → Hold (after_event (StepEnded job step rc writes lengths) deck tables)
  step_end-stays job step rc writes lengths deck =
      rows.by-step jobs E stays tables numbered now job (λ row owned step. after_step_ended row owned step rc writes lengths.items tables)
      (λ row owned e found mine. rows.step_ended-holds jobs E stays tables row owned (step_now row) rc writes lengths.items now mine)

  restarted-stays : (job initiator : ℕ) (code : Code) (checkpoint : Bool) (deck : Option Job) → Hold (after_event (Restarted job initiator code checkpoint) deck tables)
  restarted-stays job initiator code checkpoint deck =
      rows.by-step jobs E stays tables numbered now job (λ row owned step. after_restarted row owned step initiator checkpoint tables)
      (λ row owned e found mine. rows.restarted-holds jobs E stays tables row owned (step_now row) initiator checkpoint now mine)

  ended-stays : (job : ℕ) (ending : Ending) (deck : Option Job) → Hold (after_event (Ended job ending) deck tables)
  ended-stays job ending deck =
      rows.by-row jobs E stays tables numbered now job (λ row. after_ended row ending tables)
      (λ row e mine. rows.ended-holds jobs E stays row ending tables now mine)

  started-stays : (job step : ℕ) (items : ArrayVec Made) (deck : Option Job) → Hold (after_event (Started job step items) deck tables)
  started-stays job step items deck =
      rows.by-row jobs E stays tables numbered now job (λ row. option_map_or (λ owned. after_started row owned step items.items tables) (step_of_run row step) tables)
      (λ row e mine.
      rows.by jobs E stays tables (λ owned. after_started row owned step items.items tables) (step_of_run row step)
      (λ owned found.
      let placed : List DdAllotment = placed_in table_ways (standing_of row tables) row.job.root owned in
      let opened : Named TableSet = opened_all table_ways (stamp_of owned step) placed tables.sets in
      rows.run-holds jobs E stays (record row { place = Some (Within step 0); points = with_point (start_point row step opened) row.points })
      (record tables { sets = made_tables (stamp_of owned step) items.items placed opened }) mine
      (rows.sets-hold jobs E stays tables _
      (sets.made_all-stays E stays (stamp_of owned step) items.items placed opened
      (sets.opened_all-stays E stays (stamp_of owned step) placed tables.sets each)) now))
      now)

  -- no event but one that submits a deck brings a job
  event-stays : (event : Event) (deck : Option Job) → continues event ≡ false → takes_checkpoint event ≡ false → brings_job event ≡ false → Hold (after_event event deck tables)
  event-stays (Submitted job cards) deck on plain old = absurd (false≢true (sym old))
  event-stays (Selected job initiator zero step id) deck on plain old = selected-stays job initiator step id deck
  event-stays (Selected job initiator (suc before) step id) deck on plain old = absurd (false≢true (sym on))
  event-stays (Started job step items) deck on plain old = started-stays job step items deck
  event-stays (Rewritten job taken writes lengths place image) deck on plain old = rewritten-stays job taken writes place lengths image deck
  event-stays (Checkpointed job id taken writes lengths place bytes) deck on plain old = absurd (false≢true (sym plain))
  event-stays (StepEnded job step rc writes lengths) deck on plain old = step_end-stays job step rc writes lengths deck
  event-stays (Restarted job initiator code checkpoint) deck on plain old = restarted-stays job initiator code checkpoint deck
  event-stays (Held job code writes lengths) deck on plain old = held-stays job writes code lengths deck
  event-stays (Ended job ending) deck on plain old = ended-stays job ending deck
  event-stays event deck on plain old = row-same (job_of event) _ (λ row mine. mine)

  -- one by which a run continues another one changes that run's job
  pub event-each : (event : Event) (deck : Option Job) → takes_checkpoint event ≡ false → UnderEachName E (after_event event deck tables).sets
  event-each (Submitted job cards) None plain = each
  event-each (Submitted job cards) (Some deck) plain = each
  event-each (Selected job initiator zero step id) deck plain = (selected-stays job initiator step id deck).each
  event-each (Selected job initiator (suc before) step id) deck plain = continued-stays E stays tables each job initiator before step id deck
  event-each (Checkpointed job id taken writes lengths place bytes) deck plain = absurd (false≢true (sym plain))
  event-each event deck plain = (event-stays event deck refl plain refl).each

-- ---- entries

module _ (layout : Layout) (now : Office) (agreed : IsAgreed layout now) (image : List ℕ) (has : HasEntries layout now image) where
  submitted-has : (job : ℕ) (cards : List ℕ) (deck : Option Job) → HasEntries layout (office_after (Submitted job cards, deck) now) image
  submitted-has job cards None = has
  submitted-has job cards (Some deck) =
      subst (λ jobs. UnderEachName (AreThere layout now.legs jobs image) now.tables.sets) (sym (map-append (λ (row : RunRow). row.job) now.tables.runs (queued_run job deck ∷ [])))
      (has-more layout now.legs (jobs_of now.tables) ((queued_run job deck).job ∷ []) image now.tables.sets has)

  event-has : (event : Event) (deck : Option Job) → continues event ≡ false → takes_checkpoint event ≡ false → brings_job event ≡ false → may_come layout now (event, deck) ≡ true → HasEntries layout (office_after (event, deck) now) image
  event-has event deck on plain old may =
      let later : Office = office_after (event, deck) now in
      let holds = event-stays (AreThere layout now.legs (jobs_of now.tables) image) (there-stays layout now.legs (jobs_of now.tables) image) now.tables agreed.numbered has event deck on plain old in
      has-legs layout now.legs later.legs (jobs_of later.tables) image later.tables.sets (legs-stay layout now agreed event deck may)
      (subst (λ (tables : TablesModel). UnderEachName (AreThere layout now.legs (jobs_of tables) image) tables.sets) (sym (tables-behind now event deck))
      (subst (λ jobs. UnderEachName (AreThere layout now.legs jobs image) (after_event event deck now.tables).sets) (sym holds.jobs_are) holds.each))

  continued-has : (job initiator before step : ℕ) (id : Option Name) (deck : Option Job) → may_come layout now (Selected job initiator (suc before) step id, deck) ≡ true → HasEntries layout (office_after (Selected job initiator (suc before) step id, deck) now) image
  continued-has job initiator before step id deck may =
      let later : Office = office_after (Selected job initiator (suc before) step id, deck) now in
      has-legs layout now.legs later.legs (jobs_of later.tables) image later.tables.sets (legs-stay layout now agreed (Selected job initiator (suc before) step id) deck may)
      (has-jobs layout now.legs (jobs_of now.tables) (jobs_of later.tables) image later.tables.sets (programs-continued layout now agreed job initiator before step id deck may)
      (continued-stays (AreThere layout now.legs (jobs_of now.tables) image) (there-stays layout now.legs (jobs_of now.tables) image) now.tables has job initiator before step id deck))

  pub has-next : (event : Event) (deck : Option Job) → takes_checkpoint event ≡ false → may_come layout now (event, deck) ≡ true → HasEntries layout (office_after (event, deck) now) image
  has-next (Submitted job cards) deck plain may = submitted-has job cards deck
  has-next (Selected job initiator zero step id) deck plain may = event-has (Selected job initiator zero step id) deck refl plain refl may
  has-next (Selected job initiator (suc before) step id) deck plain may = continued-has job initiator before step id deck may
  has-next event deck plain may = event-has event deck refl plain refl may

-- entries within their data sets
pub within-next : (tables : TablesModel) → AreNumbered tables → AreWithin tables.sets → (event : Event) (deck : Option Job) → takes_checkpoint event ≡ false → AreWithin (after_event event deck tables).sets
within-next tables numbered within event deck plain = event-each EndWithin within-stays tables numbered within event deck plain

-- entries in data sets for checkpoints
pub plain-next : (tables : TablesModel) → AreNumbered tables → OnlyCheckSetsKeep tables.sets → (event : Event) (deck : Option Job) → takes_checkpoint event ≡ false → OnlyCheckSetsKeep (after_event event deck tables).sets
plain-next tables numbered only event deck plain = event-each KeepsNoneIfPlain plain-stays tables numbered only event deck plain
