-- What an event makes of the tables is what it makes of its run, in its place.
use Rattle.std.proofs.Common.{◌≡◌, ℕ, zero, suc, pred, ◌&&◌, ◌||◌, Bool, true, false, nat_eq, List, [], ◌∷◌, ◌++◌, map, take, refl, ap, sym, ◌∙◌, arith, Some, None, Option}
use Rattle.std.specs.Option.{option_map, option_map_or}
use Rattle.std.specs.List.{filter_map, cons_option}
use Rattle.std.proofs.lemmas.Bool.{false≢true, or_right}
use Rattle.std.proofs.lemmas.Bool.Decides.{nat_tests}
use Rattle.std.specs.Cmp.Lexicographic.{nat_list_cmp_total}
use Rattle.std.specs.Cmp.{tied_itself}
use Rattle.std.specs.Ordering.{is_eq}
use Rattle.ckr_base.proofs.Options.{some-not-none}
use Rattle.ckr_base.proofs.Sequences.{set-again, set-same}
use Rattle.ckr_points_library.specs.Disposals.{disposals_by, with_names}
use Rattle.ckr_uses.specs.Disposal.{dispose, is_temporary}
use Rattle.ckr_events.specs.Jobs.{job_of}
use Rattle.ckr_events.specs.declared.event.Event.{Event}
use Rattle.ckr_events.specs.declared.event.Event.TheVariants.{Selected, Denied, Started, Rewritten, Checkpointed, Cancelled, StepEnded, Ended, Purged}
use Rattle.ckr_events.specs.declared.event.Ending.{Ending}
use Rattle.ckr_events.specs.declared.event.Ending.TheVariants.{Completed, Coded, Allocation}
use Rattle.ckr_events.specs.declared.event.Made.{Made}
use Rattle.ckr_jcl.specs.declared.deck.Dd.{Dd}
use Rattle.ckr_jcl.specs.declared.deck.Job.{Job}
use Rattle.ckr_library.specs.declared.sets.Kept.{Kept}
use Rattle.ckr_library.specs.NameMaps.{Name, Named, same_name}
use Rattle.ckr_meaning.specs.Dispositions.{Disposal, Stock, disposed_all, passed_ended}
use Rattle.ckr_meaning.specs.EffectiveJob.{OwnedStep, placed_in, stamp_of, is_among, name_of, names_of}
use Rattle.ckr_meaning.specs.declared.place.Place.{Place}
use Rattle.ckr_meaning.specs.declared.place.Place.TheVariants.{Before, Opened, Within}
use Rattle.ckr_points.specs.declared.run.Run.{Run}
use Rattle.ckr_points.specs.declared.run.RunState.TheVariants.{Denied as DeniedRun, Purged as PurgedRun}
use Rattle.ckr_points_runs.specs.RunChange.{Going, going, fresh_point, opened_by, changed, checkpointed, coded, desk_with, disposed, disposed_of, earlier_for, earlier_now, ended, ended_at, ended_by, ended_in, gone_on, place_now, rewritten, started, step_ended, step_of, table_kit}
use Rattle.ckr_points_runs.specs.MadeNames.{RunPoints, earlier_flags, made_at, made_in}
use Rattle.ckr_points_tables.proofs.MadeNames.{flags-same, point_names, points-kept, row_points, steps-among}
use Rattle.ckr_points.specs.Tables.{made_tables, after_cancelled, after_checkpointed, after_commit, after_rewritten, after_dispositions, after_started, after_step_ended, earlier_made, own_made, run_disposal}
use Rattle.ckr_points_runs.specs.NewSets.{made_from}
use Rattle.ckr_points_tables.specs.Invariant.{is_run_change}
use Rattle.ckr_points.specs.Marks.{point_at, with_point, without_passed}
use Rattle.ckr_points.specs.Restart.{after_event, after_abnormal, after_chosen, after_ended, after_passed_ended, by_run, by_step, step_in}
use Rattle.ckr_points.specs.Rows.{RunRow, TableSet, TablesModel, run_of, step_of_run, table_ways, with_row, with_run, with_standing}
use Rattle.ckr_points_runs.specs.RunJobs.{effective}
use Rattle.ckr_points_runs.specs.View.{RunTableView, row_with}

-- a run put twice
with_row-again : (number : ℕ) (one other : RunRow) (runs : List RunRow) → with_row other number (with_row one number runs) ≡ with_row other number runs
with_row-again zero one other runs = refl
with_row-again (suc place) one other runs = set-again runs place one other

-- a run put where it is
with-same : (number : ℕ) (row : RunRow) (desk : TablesModel) → run_of desk number ≡ Some row → record { sets = desk.sets; runs = with_row row number desk.runs } ≡ desk
with-same zero row desk found = absurd (some-not-none _ (sym found))
with-same (suc place) row desk found = ap (λ runs. let both : TablesModel = record { sets = desk.sets; runs = runs } in both) (set-same desk.runs place row found)

abbrev at_place : Option Place → RunTableView → RunTableView
at_place place facts = record facts { place = place }

-- ---- the dispositions of a run's step

module _ (tables : TablesModel) (line : Run) (facts : RunTableView) where
  abbrev row : RunRow
  row = row_with line facts

  before_among : (step : ℕ) (name : Name) → is_among (earlier_made tables row step) name ≡ made_in (row_points tables) facts.job.root 1 (take (pred step) (effective line.number facts.job).steps) name
  before_among step name = steps-among tables row 1 (take (pred step) (effective line.number facts.job).steps) name

  own_among : (own : OwnedStep) (step : ℕ) (name : Name) → is_among (names_of facts.job.root own) name ≡ true → is_among (own_made row own step) name ≡ made_at facts.points step name
  own_among own step name among =
      point_names (point_at facts.points step) (names_of facts.job.root own) name ∙ ap (λ b. b && made_at facts.points step name) among

  -- the dispositions, by what each of the names was made by
  by_names : (here before : List Name) (f g : Name → Bool) (own : OwnedStep) (abnormal : Bool) (dds : List Dd)
      → ((name : Name) → is_among (filter_map (name_of facts.job.root own) dds) name ≡ true → is_among here name ≡ f name)
      → ((name : Name) → is_among before name ≡ g name)
      → filter_map (λ dd. option_map (run_disposal here before abnormal dd) (name_of facts.job.root own dd)) dds
      ≡ disposals_by abnormal (with_names facts.job.root own dds) (map f (filter_map (name_of facts.job.root own) dds)) (map g (filter_map (name_of facts.job.root own) dds))
  by_names here before f g own abnormal [] hereto beforehand = refl
  by_names here before f g own abnormal (dd ∷ dds) hereto beforehand =
      by (name_of facts.job.root own dd) hereto (λ more. by_names here before f g own abnormal dds more beforehand)
    where
      rest : List Name
      rest = filter_map (name_of facts.job.root own) dds

      after : List Disposal
      after = filter_map (λ one. option_map (run_disposal here before abnormal one) (name_of facts.job.root own one)) dds

      by : (named : Option Name)
          → ((name : Name) → is_among (cons_option named (filter_map (name_of facts.job.root own) dds)) name ≡ true → is_among here name ≡ f name)
          → (((name : Name) → is_among (filter_map (name_of facts.job.root own) dds) name ≡ true → is_among here name ≡ f name)
          → filter_map (λ one. option_map (run_disposal here before abnormal one) (name_of facts.job.root own one)) dds
          ≡ disposals_by abnormal (with_names facts.job.root own dds) (map f (filter_map (name_of facts.job.root own) dds)) (map g (filter_map (name_of facts.job.root own) dds)))
          → cons_option (option_map (run_disposal here before abnormal dd) named) (filter_map (λ one. option_map (run_disposal here before abnormal one) (name_of facts.job.root own one)) dds)
          ≡ disposals_by abnormal (cons_option (option_map (λ name. (dd, name)) named) (with_names facts.job.root own dds)) (map f (cons_option named (filter_map (name_of facts.job.root own) dds))) (map g (cons_option named (filter_map (name_of facts.job.root own) dds)))
      by None hereto more = more hereto
      by (Some name) hereto more =
          ap (λ b. run_by b (is_among before name) name ∷ filter_map (λ one. option_map (run_disposal here before abnormal one) (name_of facts.job.root own one)) dds)
          (hereto name (ap (λ b. b || is_among (filter_map (name_of facts.job.root own) dds) name) (ap is_eq (tied_itself nat_list_cmp_total name))))
          ∙ ap (λ b. run_by (f name) b name ∷ filter_map (λ one. option_map (run_disposal here before abnormal one) (name_of facts.job.root own one)) dds) (beforehand name)
          ∙ ap (λ tail. run_by (f name) (g name) name ∷ tail) (more (λ other among. hereto other (or_right (same_name other name) (is_among (filter_map (name_of facts.job.root own) dds) other) among)))
        where
          run_by : Bool → Bool → Name → Disposal
          run_by made earlier name = record { name = name; after = dispose (is_temporary dd.origin) dd.disp made abnormal; made = made || earlier }

  -- by which of the names of the step the steps before it made
  abbrev flags_at : ℕ → OwnedStep → List Bool
  flags_at step own = earlier_flags (row_points tables) facts.job.root (effective line.number facts.job).steps step own

  dispositions_own : (own : OwnedStep) (step : ℕ) (abnormal : Bool) → after_dispositions row own step abnormal tables ≡ disposed_of table_kit (flags_at step own) step abnormal own (going line facts tables.sets)
  dispositions_own own step abnormal =
      ap (λ all. disposed_all table_ways all (record { sets = tables.sets; passed = facts.passed }))
      (by_names (own_made row own step) (earlier_made tables row step) (made_at facts.points step) (made_in (row_points tables) facts.job.root 1 (take (pred step) (effective line.number facts.job).steps)) own abnormal own.step.dds (own_among own step) (before_among step))

  -- by the points of other tables, which are the same
  pub dispositions_by : (points : RunPoints) → ((run : ℕ) → row_points tables run ≡ points run) → (own : OwnedStep) (step : ℕ) (abnormal : Bool)
      → after_dispositions row own step abnormal tables ≡ disposed_of table_kit (earlier_flags points facts.job.root (effective line.number facts.job).steps step own) step abnormal own (going line facts tables.sets)
  dispositions_by points same own step abnormal =
      dispositions_own own step abnormal
      ∙ ap (λ flags. disposed_of table_kit flags step abnormal own (going line facts tables.sets)) (flags-same (row_points tables) points same facts.job.root (effective line.number facts.job).steps step own)

-- ---- the kinds of events

-- the items make what allocation says that the step makes
abbrev pub MakesSame : List Made → ℕ → Going TableSet → OwnedStep → Type 0
MakesSame items step now own =
    made_tables (stamp_of own step) items (placed_in table_ways (record { sets = now.sets; passed = now.facts.passed }) now.facts.job.root own) (opened_by table_kit step own now)
    ≡ made_from table_kit.fresh (stamp_of own step) items (name_of now.facts.job.root own) 1 own.step.dds (opened_by table_kit step own now)

abbrev pub MakesSameAt : List Made → ℕ → Going TableSet → Option OwnedStep → Type 0
MakesSameAt items step now None = Unit {0}
MakesSameAt items step now (Some own) = MakesSame items step now own

abbrev pub MakesSameBy : Event → Going TableSet → Type 0
MakesSameBy (Started job step items) now = MakesSameAt items.items step now (step_of now step)
MakesSameBy _ now = Unit {0}

-- the tables with a run as it is
pub unchanged-in : (desk : TablesModel) (line : Run) (facts : RunTableView) → run_of desk line.number ≡ Some (row_with line facts) → desk ≡ desk_with (going line facts desk.sets) desk
unchanged-in desk line facts found = sym (with-same line.number (row_with line facts) desk found)

pub run-in : (desk : TablesModel) (line : Run) (facts : RunTableView) → run_of desk line.number ≡ Some (row_with line facts) → (job : ℕ) (change : RunRow → TablesModel) → line.number ≡ job → by_run job desk change ≡ change (row_with line facts)
run-in desk line facts found job change same = ap (λ (one : Option RunRow). option_map_or change one desk) (ap (run_of desk) (sym same) ∙ found)

module _ (desk : TablesModel) (line : Run) (facts : RunTableView) (found : run_of desk line.number ≡ Some (row_with line facts)) where
  abbrev run : RunRow
  run = row_with line facts

  abbrev now : Going TableSet
  now = going line facts desk.sets

  unchanged : desk ≡ desk_with now desk
  unchanged = unchanged-in desk line facts found

  -- which of the names of a step the steps before it made
  abbrev flags_of : ℕ → OwnedStep → List Bool
  flags_of step own = earlier_flags (row_points desk) facts.job.root (effective line.number facts.job).steps step own

  abbrev flags_in : ℕ → Option OwnedStep → List Bool
  flags_in step there = option_map_or (flags_of step) there []

  -- the points stay where the run is put elsewhere
  same_points : (place : Option Place) (sets : Named TableSet) (run : ℕ) → row_points (record { sets = sets; runs = with_row (row_with line (at_place place facts)) line.number desk.runs }) run ≡ row_points desk run
  same_points place sets = points-kept line.number (row_with line (at_place place facts)) (row_with line facts) sets desk found refl

  step_ended-in : (own : OwnedStep) (step rc writes : ℕ) (lengths : List ℕ) → after_step_ended run own step rc writes lengths desk ≡ desk_with (step_ended table_kit (flags_of step own) step rc lengths now own) desk
  step_ended-in own step rc writes lengths =
      let done = after_commit run own step writes lengths desk in
      let place = Some (Within step writes) in
      let one = row_with line (at_place place facts) in
      let ending = λ (standing : Stock TableSet). with_standing (record run { place = Some (Before (suc step)); rcs = facts.rcs ++ (step, rc) ∷ []; in_effect = None }) standing done in
      let flags = flags_of step own in
      ap ending (dispositions_by done line facts (row_points desk) (same_points place done.sets) own step false)
      ∙ ap (λ runs. let all : TablesModel = record { sets = (disposed_of table_kit flags step false own (going line facts done.sets)).sets; runs = runs } in all)
      (with_row-again line.number one (row_with line (gone_on table_kit step rc (disposed table_kit flags step false own (going line facts done.sets))).facts) desk.runs)

  abbrev passed_over : TablesModel → RunTableView → Stock TableSet → TablesModel
  passed_over tables one standing = after_passed_ended (row_with line (record one { passed = standing.passed })) (record tables { sets = standing.sets })

  coded-in : (own : OwnedStep) (step writes : ℕ) (lengths : List ℕ) → step_of now step ≡ Some own → after_abnormal (row_with line (at_place (Some (Within step writes)) facts)) (Within step writes) (after_commit run own step writes lengths desk) ≡ desk_with (coded table_kit (flags_of step own) step writes lengths now own) desk
  coded-in own step writes lengths there =
      let place = Some (Within step writes) in
      let within = at_place place facts in
      let one = row_with line within in
      let done = after_commit run own step writes lengths desk in
      let flags = flags_of step own in
      let after = disposed_of table_kit flags step true own (going line within done.sets) in
      ap (λ (step_there : Option OwnedStep). option_map_or (λ other. passed_over done within (after_dispositions one other step true done)) step_there done) there
      ∙ ap (passed_over done within) (dispositions_by done line within (row_points desk) (same_points place done.sets) own step true)
      ∙ ap (λ runs. let all : TablesModel = record { sets = passed_ended (without_passed facts.lost after.passed) after.sets; runs = runs } in all)
      (with_row-again line.number one (row_with (ended (disposed table_kit flags step true own (going line within done.sets))).line (ended (disposed table_kit flags step true own (going line within done.sets))).facts) desk.runs)

  coded-by : (writes : ℕ) (lengths : List ℕ) (there : Option OwnedStep) → step_of now (step_in (place_now facts)) ≡ there
      → option_map_or (λ own. after_abnormal (row_with line (at_place (Some (Within (step_in (place_now facts)) writes)) facts)) (Within (step_in (place_now facts)) writes) (after_commit run own (step_in (place_now facts)) writes lengths desk)) there desk
      ≡ desk_with (option_map_or (coded table_kit (flags_in (step_in (place_now facts)) there) (step_in (place_now facts)) writes lengths now) there now) desk
  coded-by writes lengths None is = unchanged
  coded-by writes lengths (Some own) is = coded-in own (step_in (place_now facts)) writes lengths is

  within-by : (step : ℕ) (there : Option OwnedStep)
      → option_map_or (λ own. passed_over desk facts (after_dispositions run own step true desk)) there desk
      ≡ desk_with (option_map_or (ended_in table_kit (flags_in step there) step now) there now) desk
  within-by step None = unchanged
  within-by step (Some own) = ap (passed_over desk facts) (dispositions_own desk line facts own step true)

  abnormal-in : (place : Place) → after_abnormal run place desk ≡ desk_with (ended_at table_kit (flags_in (step_in place) (step_of now (step_in place))) place now) desk
  abnormal-in (Before step) = refl
  abnormal-in (Opened step) = refl
  abnormal-in (Within step writes) = within-by step (step_of now step)

  ended-in : (ending : Ending) → after_ended run ending desk ≡ desk_with (ended_by table_kit (earlier_now (row_points desk) line.number facts) ending now) desk
  ended-in Completed = refl
  ended-in (Coded code rule writes lengths) = coded-by writes lengths.items (step_of now (step_in (place_now facts))) refl
  ended-in (Allocation dd cause one other) = abnormal-in (place_now facts)

  step_ended-by : (rc writes : ℕ) (lengths : List ℕ) (there : Option OwnedStep)
      → option_map_or (λ own. after_step_ended run own (step_in (place_now facts)) rc writes lengths desk) there desk
      ≡ desk_with (option_map_or (step_ended table_kit (flags_in (step_in (place_now facts)) there) (step_in (place_now facts)) rc lengths now) there now) desk
  step_ended-by rc writes lengths None = unchanged
  step_ended-by rc writes lengths (Some own) = step_ended-in own (step_in (place_now facts)) rc writes lengths

  rewritten-by : (writes : ℕ) (lengths : List ℕ) (there : Option OwnedStep)
      → option_map_or (λ own. after_rewritten run own (step_in (place_now facts)) writes lengths desk) there desk
      ≡ desk_with (option_map_or (rewritten table_kit (step_in (place_now facts)) writes lengths now) there now) desk
  rewritten-by writes lengths None = unchanged
  rewritten-by writes lengths (Some own) = refl

  checkpointed-by : (kept : Kept) (taken writes : ℕ) (lengths : List ℕ) (there : Option OwnedStep)
      → option_map_or (λ own. after_checkpointed run own (step_in (place_now facts)) kept taken writes lengths desk) there desk
      ≡ desk_with (option_map_or (checkpointed table_kit (step_in (place_now facts)) kept taken writes lengths now) there now) desk
  checkpointed-by kept taken writes lengths None = unchanged
  checkpointed-by kept taken writes lengths (Some own) = refl

  started-by : (step : ℕ) (items : List Made) (there : Option OwnedStep) → MakesSameAt items step now there
      → option_map_or (λ own. after_started run own step items desk) there desk
      ≡ desk_with (option_map_or (started table_kit step items now) there now) desk
  started-by step items None same = unchanged
  started-by step items (Some own) same =
      let opened = opened_by table_kit step own now in
      ap (λ (sets : Named TableSet). desk_with (going line (record facts { place = Some (Within step 0); points = with_point (fresh_point table_kit step opened now) facts.points }) sets) desk) same

  -- an event of the run
  pub event_in : (event : Event) (deck : Option Job) → is_run_change event ≡ true → line.number ≡ job_of event → MakesSameBy event now → after_event event deck desk ≡ desk_with (changed table_kit (earlier_for event (row_points desk) line.number facts) event now) desk
  event_in (Selected job initiator earlier step id) deck change same makes =
      run-in desk line facts found job (λ row. after_chosen row initiator earlier step id desk) same ∙ ap (λ e. after_chosen run initiator e step id desk) (zero_of earlier change)
    where
      zero_of : (n : ℕ) → nat_eq n 0 ≡ true → n ≡ 0
      zero_of n e = grind (arith, nat_tests)
  event_in (Started job step items) deck change same makes =
      run-in desk line facts found job (λ row. option_map_or (λ own. after_started row own step items.items desk) (step_of_run row step) desk) same ∙ started-by step items.items (step_of now step) makes
  event_in (Rewritten job taken writes lengths place image) deck change same makes =
      run-in desk line facts found job (λ row. by_step (λ own step. after_rewritten row own step writes lengths.items desk) row desk) same
      ∙ rewritten-by writes lengths.items (step_of now (step_in (place_now facts)))
  event_in (Checkpointed job id taken writes lengths place bytes) deck change same makes =
      let running = step_in (place_now facts) in
      let there = step_of now running in
      run-in desk line facts found job (λ row. by_step (λ own step. after_checkpointed row own step (record { id = id; run = job; place = place; bytes = bytes }) taken writes lengths.items desk) row desk) same
      ∙ checkpointed-by (record { id = id; run = job; place = place; bytes = bytes }) taken writes lengths.items there
      ∙ ap (λ n. desk_with (option_map_or (checkpointed table_kit running (record { id = id; run = n; place = place; bytes = bytes }) taken writes lengths.items now) there now) desk) (sym same)
  event_in (Cancelled job) deck change same makes = run-in desk line facts found job (λ row. after_cancelled row desk) same
  event_in (StepEnded job step rc writes lengths) deck change same makes =
      run-in desk line facts found job (λ row. by_step (λ own step. after_step_ended row own step rc writes lengths.items desk) row desk) same
      ∙ step_ended-by rc writes lengths.items (step_of now (step_in (place_now facts)))
  event_in (Ended job ending) deck change same makes = run-in desk line facts found job (λ row. after_ended row ending desk) same ∙ ended-in ending
  event_in (Denied job rule name) deck change same makes = run-in desk line facts found job (λ row. with_run (record row { state = DeniedRun }) desk) same
  event_in (Purged job) deck change same makes = run-in desk line facts found job (λ row. with_run (record row { state = PurgedRun }) desk) same
  event_in _ deck change same makes = absurd (false≢true change)
