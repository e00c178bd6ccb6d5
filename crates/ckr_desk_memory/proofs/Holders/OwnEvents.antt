-- An event that a running step brings about follows, and so does a restart.
use Rattle.std.proofs.Common.{◌≡◌, ◌≤◌, ◌==◌, ℕ, Bool, true, false, ◌&&◌, ◌||◌, List, [], ◌∷◌, map, length, refl, ap, sym, ◌∙◌, subst, Option, Some, None, arith}
use Rattle.std.specs.Prelude.{nat_eq, nat_le, nat_lt, option_and_then, slice_get}
use Rattle.std.specs.List.{AllByRecursion}
use Rattle.std.specs.Option.{is_some, option_eq, option_map, option_map_or}
use Rattle.std.proofs.lemmas.Bool.{and_from, or_left, or_right, false≢true}
use Rattle.std.proofs.lemmas.Bool.Decides.{nat_tests}
use Rattle.std.proofs.lemmas.Option.{same_Some}
use Rattle.ckr_base.proofs.Bools.{and-first, and-second, if-then, or-cases}
use Rattle.ckr_base.specs.declared.code.Code.{Code}
use Rattle.ckr_points.specs.Soundness.{AreLaidOut}
use Rattle.ckr_points_invariant.proofs.Restart.Verdicts.{restarts-again}
use Rattle.ckr_points_invariant.proofs.Steps.Events.{on-holds}
use Rattle.ckr_points_invariant.proofs.Rewrite.Invariant.{update-is}
use Rattle.ckr_volumes.specs.Layouts.{StandsIn}
use Rattle.arrayvec.specs.ArrayVec.{ArrayVec}
use Rattle.ckr_base.specs.declared.record.Rec.{Rec}
use Rattle.ckr_desk_plans.specs.StepTypes.Files.{Files}
use Rattle.ckr_base.proofs.Numbers.{equal-from, nat_le-from}
use Rattle.ckr_base.proofs.Options.{some-not-none}
use Rattle.ckr_events.specs.declared.event.Ending.{Ending}
use Rattle.ckr_events.specs.declared.event.Ending.TheVariants.{Allocation, Coded, Completed}
use Rattle.ckr_events.specs.declared.event.Event.{Event}
use Rattle.ckr_events.specs.declared.event.Event.TheVariants.{Cancelled, Ended, Held, Restarted, Rewritten, StepEnded}
use Rattle.ckr_jcl.specs.declared.deck.Dd.{Dd}
use Rattle.ckr_jcl.specs.declared.deck.Job.{Job}
use Rattle.ckr_jcl.specs.declared.deck.Origin.{Origin}
use Rattle.ckr_jcl.specs.declared.deck.Origin.TheVariants.{InStream}
use Rattle.ckr_library.proofs.Named.{each-at, name-itself}
use Rattle.ckr_library.specs.Catalog.{Holding, set_of}
use Rattle.ckr_library.specs.NameMaps.{Name, Named, entry_at, same_name}
use Rattle.ckr_library.specs.declared.sets.DataSet.{DataSet}
use Rattle.ckr_meaning.specs.EffectiveJob.{OwnedStep, is_among}
use Rattle.ckr_meaning.specs.StepRun.{input_names, output_dd}
use Rattle.ckr_base.specs.declared.programs.Output.TheVariants.{InPlace}
use Rattle.ckr_points.specs.Follows.{are_lengths, follows, is_free, is_in_state, is_rewrite, is_running, is_update, is_within, lengths_follow, may_restart_again, of_run, state_number, ended_follows}
use Rattle.ckr_points.specs.Marks.{point_at}
use Rattle.ckr_points.specs.Office.{is_holder}
use Rattle.ckr_points.specs.Payload.{is_formed_step, is_verdict}
use Rattle.ckr_points.specs.Restart.{place_of, step_in}
use Rattle.ckr_points.specs.Rows.{RunRow, TableSet, TablesModel, run_of}
use Rattle.ckr_points.specs.Tables.{is_updates, name_with_role}
use Rattle.ckr_points.specs.declared.run.RunState.TheVariants.{On, Released}
use Rattle.ckr_desk_plans.specs.Model.Commit.{output_names}
use Rattle.ckr_desk_plans.specs.Model.Files.{dd_in, files_of, set_of_source, source_by, source_in}
use Rattle.ckr_uses.specs.SetNames.{origin_name}
use Rattle.ckr_volumes.specs.declared.layout.Layout.{Layout}
use Rattle.ckr_desk_memory.proofs.Holders.Moves.{row-accepted}
use Rattle.ckr_desk_memory.proofs.Holders.Names.{outputs-changed, step-formed}
use Rattle.ckr_desk_memory.proofs.Holders.OwnSets.{up_to-itself}
use Rattle.ckr_desk_memory.proofs.Holders.Rewrites.{AsksForRewrite, IsRewriteIn, rewrite-asked}
use Rattle.ckr_desk_memory.proofs.Holders.Masters.{updated-changed, updated-dd}
use Rattle.ckr_desk_memory.proofs.Invariant.{begun-within, released-within}
use Rattle.ckr_desk_memory.proofs.Queue.{on-is, released-is}
use Rattle.ckr_desk_memory.specs.Invariant.{IsAcceptedRow, IsPlacedRow}
use Rattle.ckr_desk_memory.specs.Start.{AllFit}
use Rattle.ckr_desk_memory.specs.View.{RunningStepView, length_in, lengths_in}
use Rattle.ckr_desk_turn.specs.Codes.{initiator_of, verdict_for}
use Rattle.ckr_desk_turn.specs.Invariant.{is_on_one}
use Rattle.ckr_desk_turn.specs.Queue.{AreNumbered}
use Rattle.ckr_desk_memory.specs.Holders.{AreHolders}
use Rattle.ckr_desk_memory.specs.OwnEvents.{IsLeftWithin, HasOwnLengths, is_at_hand, IsOwnEnding, IsOwnEvent, IsOwnRewrite, IsOwnStepEnd}
use Rattle.ckr_desk_memory.specs.OwnSets.{AreCopies, AreEven, AreUpTo, IsCommitted, IsRunningOf}

-- ---- lengths

-- a length of the step's own fits the data set of the tables
pub own-length : (entry : Option TableSet) (held : Option Holding) → AreCopies entry (option_map (λ (h : Holding). h.set) held) → ((one : Holding) → held ≡ Some one → one.set.length ≤ one.set.space)
    → option_map_or (λ table. nat_le table.set.length (option_map_or (λ (h : Holding). h.set.length) held 0) && nat_le (option_map_or (λ (h : Holding). h.set.length) held 0) table.set.space) entry false ≡ true
own-length None held are fits = absurd are
own-length (Some table) None are fits = absurd are
own-length (Some table) (Some held) are fits =
    and_from (nat_le table.set.length held.set.length) _ (nat_le-from table.set.length held.set.length are.length)
    (nat_le-from held.set.length table.set.space (subst (λ n. held.set.length ≤ n) are.space (fits held refl)))

own-lengths : (sets : Named TableSet) (owns : Named Holding) (names : List Name) → ((name : Name) → is_among names name ≡ true → AreCopies (entry_at sets name) (option_map (λ (h : Holding). h.set) (entry_at owns name))) → AllFit owns → are_lengths sets names (map (length_in owns) names) ≡ true
own-lengths sets owns [] are fits = refl
own-lengths sets owns (name ∷ names) are fits =
    and_from _ (are_lengths sets names (map (length_in owns) names))
    (own-length (entry_at sets name) (entry_at owns name) (are name (or_left (same_name name name) (is_among names name) (name-itself name))) (fits name))
    (own-lengths sets owns names (λ other among. are other (or_right (same_name other name) (is_among names other) among)) fits)

module _ (layout : Layout) (tables : TablesModel) (on : RunningStepView) (is : IsRunningOf tables on) where
  running-so : is_running is.row ≡ true
  running-so = and_from (is_in_state On is.row) (is_within (place_of is.row)) (ap (λ s. state_number s == 2) is.state) is.within

  lengths_are : (lengths : List ℕ) → HasOwnLengths tables on lengths → lengths ≡ lengths_in on.sets.sets is.row.job.root is.owned
  lengths_are lengths own = own is.row is.row_at ∙ ap (λ (o : Option OwnedStep). option_map_or (lengths_in on.sets.sets is.row.job.root) o []) is.found

  lengths_so : (lengths : List ℕ) → AllFit on.sets.sets → HasOwnLengths tables on lengths → lengths_follow tables is.row lengths ≡ true
  lengths_so lengths fits own =
      ap (λ (o : Option OwnedStep). option_map_or (λ owned. are_lengths tables.sets (output_names is.row.job.root owned) lengths) o false) is.found
      ∙ ap (are_lengths tables.sets (output_names is.row.job.root is.owned)) (lengths_are lengths own)
      ∙ own-lengths tables.sets on.sets.sets (output_names is.row.job.root is.owned) (λ name among. is.changed name (outputs-changed is.row.job.root is.owned name among)) fits

  tested_of : (job : ℕ) (test : RunRow → Bool) → job ≡ on.run → test is.row ≡ true → of_run tables job test ≡ true
  tested_of job test same passes = ap (λ (o : Option RunRow). option_map_or test o false) (ap (run_of tables) same ∙ is.row_at) ∙ passes

  step_ended : (job step rc writes : ℕ) (lengths : ArrayVec ℕ) (deck : Option Job) → AllFit on.sets.sets → IsOwnStepEnd tables on job step lengths.items → follows layout tables (StepEnded job step rc writes lengths) deck ≡ true
  step_ended job step rc writes lengths deck fits own =
      tested_of job _ own.run
      (and_from (is_running is.row && step_in (place_of is.row) == step) _
      (and_from (is_running is.row) _ running-so (equal-from (step_in (place_of is.row)) step (sym (own.ends is.row is.row_at))))
      (lengths_so lengths.items fits own.own))

  cancelled : (job : ℕ) (deck : Option Job) → job ≡ on.run → follows layout tables (Cancelled job) deck ≡ true
  cancelled job deck same = tested_of job is_running same running-so

  held : (job : ℕ) (code : Code) (writes : ℕ) (lengths : ArrayVec ℕ) (deck : Option Job) → AllFit on.sets.sets → job ≡ on.run → HasOwnLengths tables on lengths.items → follows layout tables (Held job code writes lengths) deck ≡ true
  held job code writes lengths deck fits same own =
      tested_of job _ same
      (and_from (is_running is.row || is_in_state Released is.row) _ (or_left (is_running is.row) (is_in_state Released is.row) running-so) (lengths_so lengths.items fits own))

  ended : (job : ℕ) (ending : Ending) (deck : Option Job) → AllFit on.sets.sets → job ≡ on.run → IsOwnEnding ending tables on → follows layout tables (Ended job ending) deck ≡ true
  ended job Completed deck fits same own = absurd own
  ended job (Coded code rule writes lengths) deck fits same own =
      tested_of job _ same
      (and_from (is_running is.row || is_in_state Released is.row) _ (or_left (is_running is.row) (is_in_state Released is.row) running-so) (lengths_so lengths.items fits own))
  ended job (Allocation dd cause first second) deck fits same own = absurd own

-- what an event commits that has the step's own lengths is up to them
pub own-committed : (tables : TablesModel) (on : RunningStepView) (job : ℕ) (lengths : List ℕ) → HasOwnLengths tables on lengths → IsCommitted job lengths tables on
own-committed tables on job lengths own same row owned at found =
    subst (AreUpTo on.sets.sets (output_names row.job.root owned))
    (sym (own row (ap (run_of tables) same ∙ at) ∙ ap (λ (o : Option OwnedStep). option_map_or (lengths_in on.sets.sets row.job.root) o []) found))
    (up_to-itself on.sets.sets (output_names row.job.root owned))

-- ---- a rewrite

in_set : (origin : Origin) (root owner step dd name : Name) → origin_name origin root owner step dd ≡ Some name → set_of_source (source_by origin (Some name)) ≡ Some name
in_set (InStream cards) root owner step dd name e = absurd (some-not-none name (sym e))
in_set _ root owner step dd name e = refl

-- UPDATE's first input is what it updates
module _ (run : ℕ) (owned : OwnedStep) (formed : is_formed_step run owned ≡ true) (updates : is_update owned.step.program ≡ true) where
  first-updated : set_of_source (files_of run owned.owner owned.step).first ≡ Some (name_with_role run owned is_updates)
  unfolding files_of
  first-updated =
      let t = updated-dd run owned formed updates in
      ap (λ (o : Option Dd). set_of_source (source_in run owned.owner owned.step o))
      (ap (option_and_then (dd_in owned.step)) (first_name ∙ t.1.named) ∙ t.1.found)
      ∙ ap (λ (o : Option Name). set_of_source (source_by t.0.origin o)) t.1.has
      ∙ in_set t.0.origin _ _ _ _ (name_with_role run owned is_updates) t.1.has
    where
      first_name : slice_get (input_names owned.step.program) 0 ≡ output_dd owned.step.program (InPlace 0)
      first_name =
          ap (λ program. slice_get (input_names program) 0) (update-is owned.step.program updates)
          ∙ ap (λ program. output_dd program (InPlace 0)) (sym (update-is owned.step.program updates))

rewrite_there : (entry : Option TableSet) (own : Option DataSet) (set : DataSet) (place : ℕ) (image : List ℕ) → AreCopies entry own → AreEven entry own → own ≡ Some set → IsRewriteIn set place image
    → option_map_or (λ table. nat_lt place table.set.length && length image == table.set.lrecl) entry false ≡ true
rewrite_there None own set place image are even is rewrites = absurd are
rewrite_there (Some table) None set place image are even is rewrites = absurd are
rewrite_there (Some table) (Some own) set place image are even is rewrites =
    let e : own ≡ set = same_Some own set is in
    and_from (nat_lt place table.set.length) _
    (ap (nat_lt place) (sym even ∙ ap (λ (s : DataSet). s.length) e) ∙ rewrites.below)
    (equal-from (length image) table.set.lrecl (rewrites.long ∙ ap (λ (s : DataSet). s.lrecl) (sym e) ∙ are.lrecl))

module _ (layout : Layout) (tables : TablesModel) (rows : AllByRecursion IsAcceptedRow tables.runs) (on : RunningStepView) (is : IsRunningOf tables on) where
  accepted : IsAcceptedRow is.row
  accepted = row-accepted tables on.run is.row rows is.row_at

  formed-so : is_formed_step is.row.job.root is.owned ≡ true
  formed-so = step-formed is.row (step_in (place_of is.row)) is.owned accepted is.found

  rewrite_so : (place : ℕ) (image : List ℕ) → AsksForRewrite on.sets on.step place image → is_rewrite tables place image is.row is.owned ≡ true
  rewrite_so place image asks =
      and_from (is_update is.owned.step.program) _ updates
      (rewrite_there (entry_at tables.sets updated) (set_of on.sets updated) asks.set place image (is.changed updated (updated-changed is.row.job.root is.owned formed-so updates)) (is.updated updates)
      (sym (ap (option_and_then (set_of on.sets)) first) ∙ asks.found) asks.rewrites)
    where
      updates : is_update is.owned.step.program ≡ true
      updates = ap is_update (sym is.program) ∙ asks.updates

      updated : Name
      updated = name_with_role is.row.job.root is.owned is_updates

      first : set_of_source on.step.files.first ≡ Some (name_with_role is.row.job.root is.owned is_updates)
      first =
          ap (λ (files : Files). set_of_source files.first) is.files
          ∙ first-updated is.row.job.root is.owned formed-so updates

  rewritten : (job taken writes : ℕ) (lengths : ArrayVec ℕ) (place : ℕ) (image : Rec) (deck : Option Job) → AllFit on.sets.sets → IsOwnRewrite tables on job lengths.items place image → follows layout tables (Rewritten job taken writes lengths place image) deck ≡ true
  rewritten job taken writes lengths place image deck fits own =
      tested_of layout tables on is job _ own.run
      (and_from (is_running is.row && lengths_follow tables is.row lengths.items) _
      (and_from (is_running is.row) _ (running-so layout tables on is) (lengths_so layout tables on is lengths.items fits own.own))
      (ap (λ (o : Option OwnedStep). option_map_or (is_rewrite tables place image is.row) o false) is.found
      ∙ rewrite_so place image (rewrite-asked on.sets on.step own.heads place image own.taken own.asks)))

  own_in : (event : Event) (deck : Option Job) → AllFit on.sets.sets → IsOwnEvent event tables on → follows layout tables event deck ≡ true
  own_in (Rewritten job taken writes lengths place image) deck fits own = rewritten job taken writes lengths place image deck fits own
  own_in (StepEnded job step rc writes lengths) deck fits own = step_ended layout tables on is job step rc writes lengths deck fits own
  own_in (Cancelled job) deck fits own = cancelled layout tables on is job deck own
  own_in (Held job code writes lengths) deck fits own = held layout tables on is job code writes lengths deck fits own.0 own.1
  own_in (Ended job ending) deck fits own = ended layout tables on is job ending deck fits own.0 own.1
  own_in _ deck fits own = absurd own

-- an event that a running step brings about follows
pub own-follows : (layout : Layout) (tables : TablesModel) (event : Event) (deck : Option Job) (on : RunningStepView) → AllByRecursion IsAcceptedRow tables.runs → AreNumbered 1 tables.runs → IsRunningOf tables on → AllFit on.sets.sets → IsOwnEvent event tables on → follows layout tables event deck ≡ true
own-follows layout tables event deck on rows numbered is fits own = own_in layout tables rows on is event deck fits own

-- ---- a run that was within a step when the system failed

kept_length : (layout : Layout) (entry : Option TableSet) → is_some entry ≡ true → ((table : TableSet) → entry ≡ Some table → StandsIn layout table.set)
    → option_map_or (λ table. nat_le table.set.length (option_map_or (λ (t : TableSet). t.set.length) entry 0) && nat_le (option_map_or (λ (t : TableSet). t.set.length) entry 0) table.set.space) entry false ≡ true
kept_length layout None there stands = absurd (false≢true there)
kept_length layout (Some table) there stands =
    and_from (nat_le table.set.length table.set.length) _ (nat_le-from table.set.length table.set.length (omega arith))
    (nat_le-from table.set.length table.set.space (stands table refl).length_fits)

kept_lengths : (layout : Layout) (sets : Named TableSet) (names : List Name) → AreLaidOut layout sets → ((name : Name) → is_among names name ≡ true → is_some (entry_at sets name) ≡ true) → are_lengths sets names (map (λ name. option_map_or (λ (t : TableSet). t.set.length) (entry_at sets name) 0) names) ≡ true
kept_lengths layout sets [] laid there = refl
kept_lengths layout sets (name ∷ names) laid there =
    and_from _ (are_lengths sets names (map (λ name. option_map_or (λ (t : TableSet). t.set.length) (entry_at sets name) 0) names))
    (kept_length layout (entry_at sets name) (there name (or_left (same_name name name) (is_among names name) (name-itself name))) (λ table found. each-at (λ (t : TableSet). StandsIn layout t.set) sets laid.stand name table found))
    (kept_lengths layout sets names laid (λ other among. there other (or_right (same_name other name) (is_among names other) among)))

-- a run at hand is running, or was released
hand-stands : (row : RunRow) → is_at_hand row ≡ true → (is_running row || is_in_state Released row) ≡ true
hand-stands row hand =
    or-cases (is_in_state On row) (is_in_state Released row) (and-first (is_in_state On row || is_in_state Released row) _ hand)
    (λ on. or_left (is_running row) (is_in_state Released row) (and_from (is_in_state On row) (is_within (place_of row)) on (hand-within row hand)))
    (or_right (is_running row) (is_in_state Released row))
  where
    hand-within : (row : RunRow) → is_at_hand row ≡ true → is_within (place_of row) ≡ true
    hand-within row hand = and-second (is_in_state On row || is_in_state Released row) (is_within (place_of row)) hand

pub running-hand : (row : RunRow) → is_running row ≡ true → is_at_hand row ≡ true
running-hand row runs =
    and_from (is_in_state On row || is_in_state Released row) (is_within (place_of row))
    (or_left (is_in_state On row) (is_in_state Released row) (and-first (is_in_state On row) (is_within (place_of row)) runs)) (and-second (is_in_state On row) (is_within (place_of row)) runs)

pub released-hand : (row : RunRow) → is_in_state Released row ≡ true → is_within (place_of row) ≡ true → is_at_hand row ≡ true
released-hand row released within = and_from (is_in_state On row || is_in_state Released row) (is_within (place_of row)) (or_right (is_in_state On row) (is_in_state Released row) released) within

hand-holds : (row : RunRow) → is_at_hand row ≡ true → is_holder row.state ≡ true
hand-holds row hand =
    or-cases (is_in_state On row) (is_in_state Released row) (and-first (is_in_state On row || is_in_state Released row) _ hand) (on-holds row.state) (λ released. ap is_holder (released-is row.state released))

-- its committed lengths follow
left_lengths : (layout : Layout) (tables : TablesModel) (job : ℕ) (lengths : List ℕ) → AreHolders tables → AreLaidOut layout tables.sets → (is : IsLeftWithin tables job lengths)
    → ((is_running is.row || is_in_state Released is.row) && lengths_follow tables is.row lengths) ≡ true
left_lengths layout tables job lengths are laid is =
    and_from (is_running is.row || is_in_state Released is.row) _ (hand-stands is.row is.running)
    (ap (λ (o : Option OwnedStep). option_map_or (λ owned. are_lengths tables.sets (output_names is.row.job.root owned) lengths) o false) is.found
    ∙ ap (are_lengths tables.sets (output_names is.row.job.root is.owned)) is.kept
    ∙ kept_lengths layout tables.sets (output_names is.row.job.root is.owned) laid
    (λ name among.
    are.changed job is.row is.row_at is.owned name (hand-holds is.row is.running) (and-second (is_in_state On is.row || is_in_state Released is.row) (is_within (place_of is.row)) is.running) is.found
    (outputs-changed is.row.job.root is.owned name among)))

-- its end by a code follows, and so does its hold
pub left-follows : (layout : Layout) (tables : TablesModel) (job rule writes : ℕ) (code : Code) (lengths : ArrayVec ℕ) (deck : Option Job) → AreHolders tables → AreLaidOut layout tables.sets → IsLeftWithin tables job lengths.items
    → follows layout tables (Ended job (Coded code rule writes lengths)) deck ≡ true
left-follows layout tables job rule writes code lengths deck are laid is =
    ap (λ (o : Option RunRow). option_map_or (λ row. ended_follows tables row (Coded code rule writes lengths)) o false) is.row_at ∙ left_lengths layout tables job lengths.items are laid is

pub left-held : (layout : Layout) (tables : TablesModel) (job writes : ℕ) (code : Code) (lengths : ArrayVec ℕ) (deck : Option Job) → AreHolders tables → AreLaidOut layout tables.sets → IsLeftWithin tables job lengths.items
    → follows layout tables (Held job code writes lengths) deck ≡ true
left-held layout tables job writes code lengths deck are laid is =
    ap (λ (o : Option RunRow). option_map_or (λ row. (is_running row || is_in_state Released row) && lengths_follow tables row lengths.items) o false) is.row_at ∙ left_lengths layout tables job lengths.items are laid is

-- ---- a restart

seat_same : (seat : Option ℕ) → is_some seat ≡ true → option_eq nat_eq seat (Some (option_map_or (λ initiator. initiator) seat 0)) ≡ true
seat_same None some = absurd (false≢true some)
seat_same (Some initiator) some = grind (arith, nat_tests)

-- The restart of a run within its step follows, where the rules say so: it is on its initiator, and its step, or its checkpoint in effect, has a
-- point with fewer than three restarts. So it is with a running step, and with a run that was running when the system failed.
pub restarts-follow : (layout : Layout) (tables : TablesModel) (row : RunRow) (code : Code) (deck : Option Job) (checkpoint : Bool) → run_of tables row.number ≡ Some row → is_running row ≡ true → IsPlacedRow row → is_verdict checkpoint (verdict_for layout row code) ≡ true
    → follows layout tables (Restarted row.number (initiator_of row) code checkpoint) deck ≡ true
restarts-follow layout tables row code deck checkpoint at running placed judged =
    ap (λ (o : Option RunRow). option_map_or test o false) at
    ∙ and_from (sits row || waits row) (may_restart_again checkpoint row)
    (or_left (sits row) (waits row) (and_from (is_running row) _ running (seat_same row.initiator seated)))
    (restarts-again row layout.eligible.items code checkpoint begun judged)
  where
    sits : RunRow → Bool
    sits its = is_running its && option_eq nat_eq its.initiator (Some (initiator_of row))

    waits : RunRow → Bool
    waits its = is_in_state Released its && is_free layout tables (initiator_of row)

    test : RunRow → Bool
    test its = (is_running its && option_eq nat_eq its.initiator (Some (initiator_of row)) || is_in_state Released its && is_free layout tables (initiator_of row)) && may_restart_again checkpoint its

    seated : is_some row.initiator ≡ true
    seated =
        if-then (is_on_one row.state) (is_some row.initiator) placed.seated
        (ap is_on_one (on-is row.state (and-first (is_in_state On row) (is_within (place_of row)) running)))

    begun : is_some (point_at row.points (step_in (place_of row))) ≡ true
    begun = begun-within row (and-second (is_in_state On row) (is_within (place_of row)) running) placed

-- So does that of a released run, on an initiator that is free.
pub released-restarts : (layout : Layout) (tables : TablesModel) (row : RunRow) (initiator : ℕ) (code : Code) (deck : Option Job) (checkpoint : Bool) → run_of tables row.number ≡ Some row → is_in_state Released row ≡ true → is_free layout tables initiator ≡ true → IsPlacedRow row
    → is_verdict checkpoint (verdict_for layout row code) ≡ true → follows layout tables (Restarted row.number initiator code checkpoint) deck ≡ true
released-restarts layout tables row initiator code deck checkpoint at released free placed judged =
    ap (λ (o : Option RunRow). option_map_or test o false) at
    ∙ and_from (sits row || waits row) (may_restart_again checkpoint row)
    (or_right (sits row) (waits row) (and_from (is_in_state Released row) (is_free layout tables initiator) released free))
    (restarts-again row layout.eligible.items code checkpoint (begun-within row (released-within row released placed) placed) judged)
  where
    sits : RunRow → Bool
    sits its = is_running its && option_eq nat_eq its.initiator (Some initiator)

    waits : RunRow → Bool
    waits its = is_in_state Released its && is_free layout tables initiator

    test : RunRow → Bool
    test its = (is_running its && option_eq nat_eq its.initiator (Some initiator) || is_in_state Released its && is_free layout tables initiator) && may_restart_again checkpoint its
