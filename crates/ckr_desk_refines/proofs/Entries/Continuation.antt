-- What holds of the data set of each name stays where a run goes back to continue another one, and the programs of the runs that were selected stay.
use Rattle.std.proofs.Common.{◌≡◌, ◌≢◌, ℕ, zero, suc, true, refl, ap, sym, ◌∙◌, Option, Some, None}
use Rattle.std.specs.Prelude.{find, ◌==◌, option_and_then}
use Rattle.std.specs.Option.{is_some, option_map, option_map_or}
use Rattle.std.proofs.lemmas.Option.{slice_get-map}
use Rattle.ckr_events.specs.declared.event.Event.TheVariants.{Selected}
use Rattle.ckr_jcl.specs.declared.deck.Job.{Job}
use Rattle.ckr_jcl.specs.declared.deck.Kind.{Kind}
use Rattle.ckr_library.specs.NameMaps.{Name}
use Rattle.ckr_meaning.specs.EffectiveJob.{Effective, OwnedStep, step_at}
use Rattle.ckr_points_library.specs.Commit.{output_names}
use Rattle.ckr_points.specs.Marks.{point_at, removed_all}
use Rattle.ckr_points.specs.Office.{Leg, Office, office_after}
use Rattle.ckr_points.specs.Restart.{Back, after_chosen, after_continued, after_continued_at, after_entry_continued, after_event, after_taken_over, continued_row, deferred_entry, deferred_start, kept_at, syschk_name}
use Rattle.ckr_points.specs.Rows.{RunRow, StartPoint, TableSet, TablesModel, run_of, step_of_run}
use Rattle.ckr_points.specs.Soundness.{may_come}
use Rattle.ckr_points.specs.Tables.{fresh_effect}
use Rattle.ckr_points_invariant.specs.Invariant.{IsAgreed}
use Rattle.ckr_volumes.specs.declared.layout.Layout.{Layout}
use Rattle.ckr_desk_refines.specs.Entries.{UnderEachName, job_at, jobs_of, program_at}
use Rattle.ckr_desk_refines.proofs.Durable.Continuation.{apart-led, rows-behind}
use Rattle.ckr_desk_refines.proofs.Entries.Sets as sets

-- ---- the data sets

module _ (E : TableSet → Type 0) (stays : sets.Stays E) (tables : TablesModel) (each : UnderEachName E tables.sets) where
  -- by what is found, or the tables stay
  by-found : {X : Type 0} (o : Option X) (change : X → TablesModel) → ((x : X) → UnderEachName E (change x).sets) → UnderEachName E (option_map_or change o tables).sets
  by-found None change holds = each
  by-found (Some x) change holds = holds x

  back-stays : (row : RunRow) (owned : OwnedStep) (back : Back) → UnderEachName E (after_taken_over row owned back tables).sets
  back-stays row owned back =
      sets.put_back-stays E stays back.marks (output_names row.job.root owned) back.needed (removed_all back.removed tables.sets)
      (sets.removed_all-stays E stays back.removed tables.sets each)

  at-stays : (row : RunRow) (owned : OwnedStep) (step : ℕ) (point : StartPoint) (id : Option Name) → UnderEachName E (after_continued_at row owned step point id tables).sets
  at-stays row owned step point None = back-stays row owned (deferred_start row owned step point)
  at-stays row owned step point (Some id) =
      by-found (kept_at tables.sets (syschk_name row.deck) id) (λ entry. after_entry_continued row owned step (syschk_name row.deck) entry tables)
      (λ entry. back-stays (record row { in_effect = Some (fresh_effect (syschk_name row.deck) entry.kept) }) owned (deferred_entry row step entry.point))

  pub continued-stays : (job initiator before step : ℕ) (id : Option Name) (deck : Option Job) → UnderEachName E (after_event (Selected job initiator (suc before) step id) deck tables).sets
  continued-stays job initiator before step id deck =
      by-found (run_of tables job) (λ row. after_chosen row initiator (suc before) step id tables)
      (λ row.
      by-found (run_of tables (suc before)) (λ earlier. after_continued row earlier step initiator id tables)
      (λ earlier.
      by-found (step_of_run earlier step)
      (λ owned. option_map_or (λ point. after_continued_at (continued_row row earlier step point initiator tables.sets) owned step point id tables) (point_at earlier.points step) tables)
      (λ owned.
      by-found (point_at earlier.points step) (λ point. after_continued_at (continued_row row earlier step point initiator tables.sets) owned step point id tables)
      (λ point. at-stays (continued_row row earlier step point initiator tables.sets) owned step point id))))

-- ---- the programs

-- the job of a number is that of its run
job-at : (tables : TablesModel) (number : ℕ) → job_at (jobs_of tables) number ≡ option_map (λ (row : RunRow). row.job) (run_of tables number)
job-at tables zero = refl
job-at tables (suc before) = slice_get-map (λ (row : RunRow). row.job) tables.runs before

-- a run that was selected keeps its job
pub programs-continued : (layout : Layout) (now : Office) → IsAgreed layout now → (job initiator before step : ℕ) (id : Option Name) (deck : Option Job) → may_come layout now (Selected job initiator (suc before) step id, deck) ≡ true
    → (run number : ℕ) (kind : Kind) → is_some (find (λ (leg : Leg). leg.number == run) now.legs) ≡ true → program_at (jobs_of now.tables) run number ≡ Some kind → program_at (jobs_of (office_after (Selected job initiator (suc before) step id, deck) now).tables) run number ≡ Some kind
programs-continued layout now agreed job initiator before step id deck may run number kind led is =
    let later : TablesModel = after_event (Selected job initiator (suc before) step id) deck now.tables in
    let apart : run ≢ job = apart-led layout now agreed job initiator before step id deck may run led in
    let same : job_at (jobs_of later) run ≡ job_at (jobs_of now.tables) run =
    job-at later run
    ∙ ap (option_map (λ (row : RunRow). row.job)) (rows-behind layout now agreed job initiator before step id deck may run apart)
    ∙ sym (job-at now.tables run) in
    ap (λ (o : Option Effective). option_map (λ (owned : OwnedStep). owned.step.program) (option_and_then (λ job. step_at job number) o)) same ∙ is
