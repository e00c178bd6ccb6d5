-- One more event by which no run goes back leaves the checkpoints in effect, or puts its own into effect.
use Rattle.std.proofs.Common.{◌≡◌, ◌⊎◌, inl, inr, ⊎_elim, ℕ, zero, suc, ◌+◌, Bool, true, false, ◌||◌, ◌&&◌, List, [], ◌∷◌, ◌++◌, refl, ap, sym, ◌∙◌, subst, Option, Some, None, arith}
use Rattle.std.specs.Prelude.{slice_get}
use Rattle.std.specs.Option.{is_none, is_some, option_map, option_map_or}
use Rattle.std.proofs.lemmas.Bool.{and_from, false≢true, or_left, or_right}
use Rattle.std.proofs.lemmas.Option.{same_Some}
use Rattle.arrayvec.specs.ArrayVec.{ArrayVec}
use Rattle.ckr_base.specs.declared.code.Code.{Code}
use Rattle.ckr_base.proofs.Bools.{and-first, and-second}
use Rattle.ckr_base.proofs.Options.{is_none-true, is_some-true, option-cases, some-not-none}
use Rattle.ckr_entry.specs.declared.point.Mark.{Mark}
use Rattle.ckr_events.specs.declared.event.Event.TheVariants.{Cancelled, Checkpointed, Denied, Ended, Held, Purged, Released, Rewritten, Selected, Started, StepEnded, Submitted}
use Rattle.ckr_events.specs.declared.event.Ending.{Ending}
use Rattle.ckr_events.specs.declared.event.Ending.TheVariants.{Allocation, Coded, Completed}
use Rattle.ckr_events.specs.declared.event.Made.{Made}
use Rattle.ckr_jcl.specs.declared.deck.Job.{Job}
use Rattle.ckr_library.specs.declared.sets.Kept.{Kept}
use Rattle.ckr_library.specs.Catalog.{records_of}
use Rattle.ckr_library.specs.NameMaps.{Name, entry_at, same_name}
use Rattle.ckr_library.proofs.Named.{name-itself}
use Rattle.ckr_meaning.specs.Dispositions.{Stock, passed_ended}
use Rattle.ckr_meaning.specs.EffectiveJob.{Effective, OwnedStep, is_among, names_of, step_at}
use Rattle.ckr_meaning.specs.JobRun.{start_at}
use Rattle.ckr_meaning.specs.StepRun.{StepStart}
use Rattle.ckr_meaning.specs.declared.place.Place.{Place}
use Rattle.ckr_meaning.specs.declared.place.Place.TheVariants.{Before, Opened, Within}
use Rattle.ckr_points_library.specs.Commit.{output_names}
use Rattle.ckr_points.specs.declared.run.RunState.TheVariants.{Held as HeldRun, Released as ReleasedRun, Denied as DeniedRun, Ended as EndedRun, Purged as PurgedRun, On, Queued}
use Rattle.ckr_points.specs.Follows.{are_lengths, follows, is_checkpoint, is_in_state, is_length_of, is_rewrite, is_running, is_within, lengths_follow, may_start, of_step, own_step, selected_follows, started_follows}
use Rattle.ckr_points.specs.Marks.{marks_now, own_names, present_at, present_of, has_passed}
use Rattle.ckr_points.specs.Office.{Office, is_holder, leg_of}
use Rattle.ckr_points.specs.Restart.{after_abnormal, after_ended, after_event, after_passed_ended, by_step, kept_at, place_of, step_in}
use Rattle.ckr_points.specs.Rows.{EffectPoint, EntryPoint, KeptEntry, RunRow, TableSet, TablesModel, run_of, step_of_run, with_run}
use Rattle.ckr_points.specs.Tables.{after_submitted, after_checkpointed, after_commit, after_dispositions, after_held, after_rewritten, after_started, after_step_ended, committed, effect_rewritten, fresh_effect, is_checkpoints, is_updates, name_with_role, queued_run, row_rewritten, table_rewritten}
use Rattle.ckr_points_invariant.specs.Invariant.{IsAgreed, IsAtPlace, step_now}
use Rattle.ckr_points_invariant.specs.RunningSteps.{its_start}
use Rattle.ckr_points_invariant.proofs.Holders.Places.{outputs-among}
use Rattle.ckr_points_invariant.proofs.Holders.Rows.{holder-waits}
use Rattle.ckr_points_invariant.proofs.Marks.Points.{present-now}
use Rattle.ckr_points_invariant.proofs.Steps.Events.{led-by, on-holds}
use Rattle.ckr_points_invariant.proofs.Steps.Walks.{start_at-of}
use Rattle.ckr_points_invariant.proofs.OtherRuns.Sets.{length-among}
use Rattle.ckr_volumes.specs.declared.layout.Layout.{Layout}
use Rattle.ckr_desk_turn.proofs.Checkpoints.Kept.{kept-then}
use Rattle.ckr_desk_refines.specs.Entries.{AreWithin, entry_taken}
use Rattle.ckr_desk_entries.specs.EntryRefusal.{are_present}
use Rattle.ckr_desk_refines.specs.InEffect.{AreInEffect, HasSameCase, HasStepNames, IsInEffect}
use Rattle.ckr_desk_refines.proofs.Entries.Effects as effects
use Rattle.ckr_desk_refines.proofs.Entries.Effects.{passes-of}
use Rattle.ckr_desk_refines.proofs.Entries.KeptEntries.{kept_at-same, there-committed}

-- ---- small facts

-- a run that waits has no checkpoint in effect
waits-none : {A : Type 0} (office : Office) (row : RunRow) (effect : EffectPoint) → is_in_state Queued row ≡ true → IsInEffect office row effect → A
waits-none office row effect queued its = absurd (false≢true (sym (holder-waits row.state its.holds) ∙ queued))

-- nor has one that is about to start a step
starts-none : {A : Type 0} (step : ℕ) (place : Place) → may_start step place ≡ true → is_within place ≡ true → A
starts-none step (Before number) may within = absurd (false≢true within)
starts-none step (Opened number) may within = absurd (false≢true within)
starts-none step (Within number writes) may within = absurd (false≢true may)

pub of-found : {A : Type 0} (test : A → Bool) (o : Option A) (its : A) → option_map_or test o false ≡ true → o ≡ Some its → test its ≡ true
of-found test o its passes e = sym (ap (λ o. option_map_or test o false) e) ∙ passes

pub tested-some : {A : Type 0} (test : A → Bool) (o : Option A) → option_map_or test o false ≡ true → is_some o ≡ true
tested-some test None passes = absurd (false≢true passes)
tested-some test (Some its) passes = refl

tested-also : {A : Type 0} (test : A → Bool) (also : Bool) (o : Option A) → option_map_or (λ its. test its && also) o false ≡ true → also ≡ true
tested-also test also None passes = absurd (false≢true passes)
tested-also test also (Some its) passes = and-second (test its) also passes

last-or : {A : Type 0} (items : List A) (last : A) (place : ℕ) (item : A) → slice_get (items ++ last ∷ []) place ≡ Some item → (slice_get items place ≡ Some item) ⊎ (last ≡ item)
last-or [] last zero item at = inr (same_Some last item at)
last-or [] last (suc place) item at = absurd (some-not-none item (sym at))
last-or (first ∷ items) last zero item at = inl at
last-or (first ∷ items) last (suc place) item at = last-or items last place item at

-- each of these names is marked as there
all-present : (marks : List Mark) (names : List Name) → ((name : Name) → is_among names name ≡ true → is_some (present_at marks name) ≡ true) → are_present marks names ≡ true
all-present marks [] each = refl
all-present marks (name ∷ names) each =
    and_from (is_some (present_at marks name)) (are_present marks names) (each name (or_left (same_name name name) (is_among names name) (name-itself name)))
    (all-present marks names (λ other among. each other (or_right (same_name other name) (is_among names other) among)))

some-present : (entry : Option TableSet) → is_some entry ≡ true → is_some (option_map present_of entry) ≡ true
some-present None there = there
some-present (Some table) there = refl

module _ (layout : Layout) (now : Office) (agreed : IsAgreed layout now) (job : ℕ) (are : AreInEffect now) where
  abbrev Stays : TablesModel → Type 0
  Stays later = effects.StayInEffect layout now agreed job are later

  abbrev tables : TablesModel
  tables = now.tables

  abbrev IsStill : TablesModel → RunRow → EffectPoint → Type 0
  IsStill later row effect = effects.IsStill layout now agreed job are later row effect

  -- ---- a row changes alone

  by-row : (change : RunRow → RunRow) → ((row : RunRow) → (change row).number ≡ row.number) → ((row : RunRow) → run_of tables job ≡ Some row → (effect : EffectPoint) → (change row).in_effect ≡ Some effect → IsStill (with_run (change row) tables) (change row) effect)
      → Stays (option_map_or (λ row. with_run (change row) tables) (run_of tables job) tables)
  by-row change same own =
      effects.by-given layout now agreed job are (λ row. with_run (change row) tables) (run_of tables job)
      (λ row e.
      effects.by-own layout now agreed job are (with_run (change row) tables) (change row)
      (effects.row-next layout now agreed job are tables row (change row) (same row ∙ agreed.numbered job row e) (effects.row-first layout now agreed job are row e))
      (own row e))

  queued-stays : (change : RunRow → RunRow) → ((row : RunRow) → (change row).number ≡ row.number) → ((row : RunRow) → (change row).in_effect ≡ row.in_effect) → ((row : RunRow) → run_of tables job ≡ Some row → is_in_state Queued row ≡ true) → Stays (option_map_or (λ row. with_run (change row) tables) (run_of tables job) tables)
  queued-stays change same effects_same queued =
      by-row change same (λ row e effect f. waits-none now row effect (queued row e) (are job row effect e (sym (effects_same row) ∙ f)))

  pub stays-selected : (initiator step : ℕ) (id : Option Name) (deck : Option Job) → follows layout tables (Selected job initiator 0 step id) deck ≡ true → Stays (after_event (Selected job initiator 0 step id) deck tables)
  stays-selected initiator step id deck may =
      queued-stays (λ row. record row { state = On; initiator = Some initiator; place = Some (Before 1) }) (λ row. refl) (λ row. refl)
      (λ row e.
      let passes = passes-of tables job (selected_follows layout tables initiator 0 step id) row may e in
      and-first (is_in_state Queued row) _ (and-first (is_in_state Queued row && _) _ (and-first (is_in_state Queued row && _ && _) _ passes)))

  pub stays-purged : (deck : Option Job) → follows layout tables (Purged job) deck ≡ true → Stays (after_event (Purged job) deck tables)
  stays-purged deck may = queued-stays (λ row. record row { state = PurgedRun }) (λ row. refl) (λ row. refl) (λ row e. passes-of tables job (is_in_state Queued) row may e)

  pub stays-denied : (rule : ℕ) (name : Option Name) (deck : Option Job) → follows layout tables (Denied job rule name) deck ≡ true → Stays (after_event (Denied job rule name) deck tables)
  stays-denied rule name deck may =
      queued-stays (λ row. record row { state = DeniedRun }) (λ row. refl) (λ row. refl)
      (λ row e. and-first (is_in_state Queued row) (is_some row.deck.restart) (passes-of tables job (λ row. is_in_state Queued row && is_some row.deck.restart) row may e))

  pub stays-cancelled : (deck : Option Job) → Stays (after_event (Cancelled job) deck tables)
  stays-cancelled deck = by-row (λ row. record row { in_effect = None }) (λ row. refl) (λ row e effect f. absurd (some-not-none effect (sym f)))

  pub stays-released : (deck : Option Job) → Stays (after_event (Released job) deck tables)
  stays-released deck =
      by-row (λ row. record row { state = ReleasedRun }) (λ row. refl)
      (λ row e effect f.
      let its : IsInEffect now row effect = are job row effect e f in
      record {
        holds = refl;
        within = its.within;
        owned = its.owned;
        found = its.found;
        among = its.among;
        entry = its.entry;
        at = its.at;
        kept = its.kept;
        same = its.same;
        owner = its.owner;
        step = its.step;
        present = its.present;
      })

  -- ---- a step starts

  pub stays-started : (step : ℕ) (items : ArrayVec Made) (deck : Option Job) → follows layout tables (Started job step items) deck ≡ true → Stays (after_event (Started job step items) deck tables)
  stays-started step items deck may =
      effects.by-given layout now agreed job are (λ row. option_map_or (λ owned. after_started row owned step items.items tables) (step_of_run row step) tables) (run_of tables job)
      (λ row e.
      effects.by-given layout now agreed job are (λ owned. after_started row owned step items.items tables) (step_of_run row step)
      (λ owned found.
      effects.by-own layout now agreed job are (after_started row owned step items.items tables) _
      (effects.row-next layout now agreed job are _ row _ (agreed.numbered job row e)
      (effects.row-sets layout now agreed job are tables row _ (effects.row-first layout now agreed job are row e)))
      (λ effect f.
      let ready = of-found _ (step_of_run row step) owned (and-second (is_in_state On row) _ (passes-of tables job (started_follows layout tables step items.items) row may e)) found in
      starts-none step (place_of row) (and-first (may_start step (place_of row)) _ (and-first (may_start step (place_of row) && _) _ ready)) (are job row effect e f).within)))

  -- ---- a step goes on

  module _ (within : AreWithin tables.sets) where
    -- behind the commit the row's effect is what it was
    own-then : (row : RunRow) (owned : OwnedStep) (lengths : List ℕ) (writes : ℕ) (later : TablesModel) (next : RunRow) (effect other : EffectPoint) → (its : IsInEffect now row effect) → own_step row ≡ Some owned → are_lengths tables.sets (output_names row.job.root owned) lengths ≡ true
        → is_holder next.state ≡ true → next.number ≡ row.number → next.job ≡ row.job → place_of next ≡ Within (step_now row) writes → other.set ≡ effect.set → other.kept ≡ effect.kept
        → kept_at later.sets effect.set effect.kept.id ≡ kept_at (committed (output_names row.job.root owned) lengths tables.sets) effect.set effect.kept.id → IsStill later next other
    own-then row owned lengths writes later next effect other its found lengths_are holds number same stands set kept sets = record {
      holds = holds;
      within = ap is_within stands;
      owned = its.owned;
      found = ap (λ (place : Place). step_of_run next (step_in place)) stands ∙ ap (λ (job : Effective). step_at job (step_now row)) same ∙ its.found;
      among = ap (λ (job : Effective). is_among (names_of job.root its.owned) other.set) same ∙ ap (is_among (names_of row.job.root its.owned)) set ∙ its.among;
      entry = its.entry;
      at = ap (λ (set : Name). kept_at later.sets set other.kept.id) set ∙ ap (λ (kept : Kept). kept_at later.sets effect.set kept.id) kept
          ∙ sets ∙ effects.own-committed layout now agreed job are within row owned effect lengths its found lengths_are;
      kept = its.kept ∙ sym kept;
      same = subst (λ run. HasSameCase now.legs run its.owned its.entry.point) (sym number) its.same;
      owner = its.owner;
      step = its.step ∙ sym (ap step_in stands);
      present = ap (λ (job : Effective). are_present its.entry.point.marks (names_of job.root its.owned)) same ∙ its.present;
    }

    -- a step of the run commits its lengths
    by-commit : (change : RunRow → OwnedStep → ℕ → TablesModel) (lengths : List ℕ) → ((row : RunRow) → run_of tables job ≡ Some row → lengths_follow tables row lengths ≡ true)
        → ((row : RunRow) (owned : OwnedStep) → run_of tables job ≡ Some row → own_step row ≡ Some owned → are_lengths tables.sets (output_names row.job.root owned) lengths ≡ true → Stays (change row owned (step_now row)))
        → Stays (option_map_or (λ row. by_step (λ owned step. change row owned step) row tables) (run_of tables job) tables)
    by-commit change lengths follow each =
        effects.by-given layout now agreed job are (λ row. by_step (λ owned step. change row owned step) row tables) (run_of tables job)
        (λ row e.
        effects.by-given layout now agreed job are (λ owned. change row owned (step_now row)) (step_of_run row (step_now row))
        (λ owned found.
        each row owned e found
        (sym (ap (λ (o : Option OwnedStep). option_map_or (λ owned. are_lengths tables.sets (output_names row.job.root owned) lengths) o false) found) ∙ follow row e)))

    pub stays-held : (writes : ℕ) (code : Code) (lengths : ArrayVec ℕ) (deck : Option Job) → follows layout tables (Held job code writes lengths) deck ≡ true → Stays (after_event (Held job code writes lengths) deck tables)
    stays-held writes code lengths deck may =
        by-commit (λ row owned step. after_held row owned step code writes lengths.items tables) lengths.items
        (λ row e. and-second (is_running row || is_in_state ReleasedRun row) (lengths_follow tables row lengths.items) (passes-of tables job (λ row. (is_running row || is_in_state ReleasedRun row) && lengths_follow tables row lengths.items) row may e))
        (λ row owned e found lengths_are.
        let next : RunRow = record row { state = HeldRun; initiator = None; code = Some code; place = Some (Within (step_now row) writes) } in
        let later : TablesModel = after_held row owned (step_now row) code writes lengths.items tables in
        effects.by-own layout now agreed job are later next
        (effects.row-next layout now agreed job are _ row next (agreed.numbered job row e)
        (effects.row-sets layout now agreed job are tables row (committed (output_names row.job.root owned) lengths.items tables.sets) (effects.row-first layout now agreed job are row e)))
        (λ effect f. own-then row owned lengths.items writes later next effect effect (are job row effect e f) found lengths_are refl refl refl refl refl refl refl))

    pub stays-rewritten : (taken writes place : ℕ) (lengths : ArrayVec ℕ) (image : List ℕ) (deck : Option Job) → follows layout tables (Rewritten job taken writes lengths place image) deck ≡ true → Stays (after_event (Rewritten job taken writes lengths place image) deck tables)
    stays-rewritten taken writes place lengths image deck may =
        by-commit (λ row owned step. after_rewritten row owned step writes lengths.items tables) lengths.items
        (λ row e. and-second (is_running row) (lengths_follow tables row lengths.items) (and-first (is_running row && lengths_follow tables row lengths.items) _ (passes row e)))
        (λ row owned e found lengths_are.
        let next : RunRow = record (row_rewritten (step_now row) row) { place = Some (Within (step_now row) writes) } in
        let done : TablesModel = after_commit (row_rewritten (step_now row) row) owned (step_now row) writes lengths.items tables in
        let later : TablesModel = after_rewritten row owned (step_now row) writes lengths.items tables in
        effects.by-own layout now agreed job are later next
        (effects.row-sets layout now agreed job are done next _
        (effects.row-next layout now agreed job are _ row next (agreed.numbered job row e)
        (effects.row-sets layout now agreed job are tables row (committed (output_names row.job.root owned) lengths.items tables.sets) (effects.row-first layout now agreed job are row e))))
        (λ effect f.
        option-cases row.in_effect
        (λ none. absurd (some-not-none effect (sym f ∙ ap (option_map effect_rewritten) none)))
        (λ was at.
        let is : effect_rewritten was ≡ effect = same_Some (effect_rewritten was) effect (sym (ap (option_map effect_rewritten) at) ∙ f) in
        let its : IsInEffect now row was = are job row was e at in
        subst (λ (effect : EffectPoint). IsStill later next effect) is
        (own-then row owned lengths.items writes later next was (effect_rewritten was) its found lengths_are its.holds refl refl refl refl refl
        (kept_at-same (name_with_role row.job.root owned is_updates) was.set was.kept.id (table_rewritten owned.owner (step_now row)) done.sets (λ table. refl))))))
      where
        passes : (row : RunRow) → run_of tables job ≡ Some row → (is_running row && lengths_follow tables row lengths.items && of_step row (is_rewrite tables place image row)) ≡ true
        passes row e = passes-of tables job (λ row. is_running row && lengths_follow tables row lengths.items && of_step row (is_rewrite tables place image row)) row may e

    -- a checkpoint is taken
    pub stays-checkpointed : (taken writes place bytes : ℕ) (id : Name) (lengths : ArrayVec ℕ) (deck : Option Job) → HasStepNames tables job → follows layout tables (Checkpointed job id taken writes lengths place bytes) deck ≡ true → Stays (after_event (Checkpointed job id taken writes lengths place bytes) deck tables)
    stays-checkpointed taken writes place bytes id lengths deck names may =
        by-commit (λ row owned step. after_checkpointed row owned step kept taken writes lengths.items tables) lengths.items
        (λ row e. and-second (is_running row) (lengths_follow tables row lengths.items) (and-first (is_running row && lengths_follow tables row lengths.items) _ (passes row e)))
        (λ row owned e found lengths_are.
        let set : Name = name_with_role row.job.root owned is_checkpoints in
        let counted : RunRow = record row { count = suc row.count; in_effect = Some (fresh_effect set kept) } in
        let next : RunRow = record counted { place = Some (Within (step_now row) writes) } in
        let done : TablesModel = after_commit counted owned (step_now row) writes lengths.items tables in
        let later : TablesModel = after_checkpointed row owned (step_now row) kept taken writes lengths.items tables in
        let check : is_checkpoint tables id lengths.items place bytes row owned ≡ true = of-found (is_checkpoint tables id lengths.items place bytes row) (own_step row) owned (and-second (is_running row && lengths_follow tables row lengths.items) _ (passes row e)) found in
        let ends : is_length_of set (place + records_of bytes) (output_names row.job.root owned) lengths.items ≡ true = and-second _ (is_length_of set (place + records_of bytes) (output_names row.job.root owned) lengths.items) check in
        let free = and-first _ (is_length_of set (place + records_of bytes) (output_names row.job.root owned) lengths.items) check in
        let new : KeptEntry = entry_taken tables row owned kept taken writes lengths.items in
        let on : is_in_state On row ≡ true = and-first (is_in_state On row) (is_within (place_of row)) (and-first (is_running row) (lengths_follow tables row lengths.items) (and-first (is_running row && lengths_follow tables row lengths.items) _ (passes row e))) in
        effects.by-own layout now agreed job are later next
        (effects.row-sets layout now agreed job are done next _
        (effects.row-next layout now agreed job are _ row next (agreed.numbered job row e)
        (effects.row-sets layout now agreed job are tables row (committed (output_names row.job.root owned) lengths.items tables.sets) (effects.row-first layout now agreed job are row e))))
        (λ effect f.
        subst (λ (effect : EffectPoint). IsStill later next effect) (same_Some (fresh_effect set kept) effect f)
        (record {
          holds = on-holds row.state on;
          within = refl;
          owned = owned;
          found = found;
          among = outputs-among row.job.root owned set (length-among set (place + records_of bytes) (output_names row.job.root owned) lengths.items ends);
          entry = new;
          at = is_some-true (entry_at tables.sets set) (tested-some _ (entry_at tables.sets set) free)
              (λ table at.
              kept-then (output_names row.job.root owned) lengths.items tables.sets set table new at
              (is_none-true (kept_at tables.sets set id) (tested-also _ (is_none (kept_at tables.sets set id)) (entry_at tables.sets set) free)));
          kept = refl;
          same = own-case row owned e found on new.point refl refl;
          owner = refl;
          step = refl;
          present = all-present (marks_now row done.sets) (names_of row.job.root owned)
              (λ name among.
              ap is_some (present-now row done.sets name (own row owned e found on name among))
              ∙ some-present (entry_at done.sets name) (there-committed (output_names row.job.root owned) lengths.items tables.sets name (names row owned name e found among)));
        })))
      where
        kept : Kept
        kept = record { id = id; run = job; place = place; bytes = bytes }

        passes : (row : RunRow) → run_of tables job ≡ Some row → (is_running row && lengths_follow tables row lengths.items && of_step row (is_checkpoint tables id lengths.items place bytes row)) ≡ true
        passes row e = passes-of tables job (λ row. is_running row && lengths_follow tables row lengths.items && of_step row (is_checkpoint tables id lengths.items place bytes row)) row may e

        -- it takes the checkpoint itself
        own-case : (row : RunRow) (owned : OwnedStep) → run_of tables job ≡ Some row → own_step row ≡ Some owned → is_in_state On row ≡ true → (point : EntryPoint) → point.run ≡ row.number → point.step ≡ step_now row → HasSameCase now.legs row.number owned point
        own-case row owned e found on point run step =
            led-by layout now job row agreed e (on-holds row.state on)
            (λ leg holder.
            let start : StepStart = its_start leg owned (step_now row) in
            let led : leg_of now row.number ≡ Some leg = ap (leg_of now) (agreed.numbered job row e) ∙ holder.leg_at in
            let starts : start_at leg.job leg.start point.step ≡ Some start =
            ap (start_at leg.job leg.start) step
            ∙ start_at-of leg.job leg.start (step_now row) owned (ap (λ (job : Effective). step_at job (step_now row)) (agreed.places job row leg holder).job ∙ found) in
            record {
              leg = leg;
              led = led;
              start = start;
              starts = starts;
              program = refl;
              taker = leg;
              taker_led = ap (leg_of now) run ∙ led;
              begun = start;
              begins = starts;
              same = refl;
            })

        own : (row : RunRow) (owned : OwnedStep) → run_of tables job ≡ Some row → own_step row ≡ Some owned → is_in_state On row ≡ true → (name : Name) → is_among (names_of row.job.root owned) name ≡ true → is_among (own_names row) name ≡ true
        own row owned e found on name among =
            led-by layout now job row agreed e (on-holds row.state on)
            (λ leg holder.
            let place : IsAtPlace tables row leg = agreed.places job row leg holder in
            (place.ahead (step_now row) owned name (omega arith) (ap (λ (job : Effective). step_at job (step_now row)) place.job ∙ found)
            (ap (λ (job : Effective). is_among (names_of job.root owned) name) place.job ∙ among)).1)

  -- ---- a step ends, a run ends

  pub stays-step_ended : (step rc writes : ℕ) (lengths : ArrayVec ℕ) (deck : Option Job) → Stays (after_event (StepEnded job step rc writes lengths) deck tables)
  stays-step_ended step rc writes lengths deck =
      effects.by-given layout now agreed job are (λ row. by_step (λ owned step. after_step_ended row owned step rc writes lengths.items tables) row tables) (run_of tables job)
      (λ row e.
      effects.by-given layout now agreed job are (λ owned. after_step_ended row owned (step_now row) rc writes lengths.items tables) (step_of_run row (step_now row))
      (λ owned found.
      let mid : RunRow = record row { place = Some (Within (step_now row) writes) } in
      let done : TablesModel = after_commit row owned (step_now row) writes lengths.items tables in
      let standing : Stock TableSet = after_dispositions row owned (step_now row) false done in
      let next : RunRow = record row { place = Some (Before (suc (step_now row))); rcs = row.rcs ++ (step_now row, rc) ∷ []; in_effect = None; passed = standing.passed } in
      effects.by-none layout now agreed job are (after_step_ended row owned (step_now row) rc writes lengths.items tables) next
      (effects.row-next layout now agreed job are (record done { sets = standing.sets }) mid next (agreed.numbered job row e)
      (effects.row-sets layout now agreed job are done mid standing.sets
      (effects.row-next layout now agreed job are _ row mid (agreed.numbered job row e)
      (effects.row-sets layout now agreed job are tables row (committed (output_names row.job.root owned) lengths.items tables.sets) (effects.row-first layout now agreed job are row e)))))
      refl))

  passed-none : (base : TablesModel) (was row : RunRow) → row.number ≡ job → effects.HasRow layout now agreed job are base was → Stays (after_passed_ended row base)
  passed-none base was row same has =
      let next : RunRow = record row { state = EndedRun; initiator = None; code = None; passed = []; lost = []; in_effect = None } in
      effects.by-none layout now agreed job are (after_passed_ended row base) next
      (effects.row-next layout now agreed job are (record base { sets = passed_ended (has_passed row) base.sets }) was next same
      (effects.row-sets layout now agreed job are base was (passed_ended (has_passed row) base.sets) has))
      refl

  disposed-none : (base : TablesModel) (was row : RunRow) (owned : OwnedStep) (step : ℕ) → row.number ≡ job → effects.HasRow layout now agreed job are base was
      → Stays (let done = after_dispositions row owned step true base in after_passed_ended (record row { passed = done.passed }) (record base { sets = done.sets }))
  disposed-none base was row owned step same has =
      let done : Stock TableSet = after_dispositions row owned step true base in
      passed-none (record base { sets = done.sets }) was (record row { passed = done.passed }) same (effects.row-sets layout now agreed job are base was done.sets has)

  abnormal-stays : (row : RunRow) (place : Place) → run_of tables job ≡ Some row → Stays (after_abnormal row place tables)
  abnormal-stays row (Before step) e = passed-none tables row row (agreed.numbered job row e) (effects.row-first layout now agreed job are row e)
  abnormal-stays row (Opened step) e = passed-none tables row row (agreed.numbered job row e) (effects.row-first layout now agreed job are row e)
  abnormal-stays row (Within step writes) e =
      effects.by-given layout now agreed job are (λ owned. let done = after_dispositions row owned step true tables in after_passed_ended (record row { passed = done.passed }) (record tables { sets = done.sets })) (step_of_run row step)
      (λ owned found. disposed-none tables row row owned step (agreed.numbered job row e) (effects.row-first layout now agreed job are row e))

  ended-stays : (row : RunRow) (ending : Ending) → run_of tables job ≡ Some row → Stays (after_ended row ending tables)
  ended-stays row Completed e = passed-none tables row row (agreed.numbered job row e) (effects.row-first layout now agreed job are row e)
  ended-stays row (Coded code rule writes lengths) e =
      effects.by-given layout now agreed job are (λ owned. after_abnormal (record row { place = Some (Within (step_now row) writes) }) (Within (step_now row) writes) (after_commit row owned (step_now row) writes lengths.items tables)) (step_of_run row (step_now row))
      (λ owned found.
      let mid : RunRow = record row { place = Some (Within (step_now row) writes) } in
      let done : TablesModel = after_commit row owned (step_now row) writes lengths.items tables in
      subst (λ (o : Option OwnedStep). Stays (option_map_or (λ owned. let disposed = after_dispositions mid owned (step_now row) true done in after_passed_ended (record mid { passed = disposed.passed }) (record done { sets = disposed.sets })) o done)) (sym found)
      (disposed-none done mid mid owned (step_now row) (agreed.numbered job row e)
      (effects.row-next layout now agreed job are _ row mid (agreed.numbered job row e)
      (effects.row-sets layout now agreed job are tables row (committed (output_names row.job.root owned) lengths.items tables.sets) (effects.row-first layout now agreed job are row e)))))
  ended-stays row (Allocation dd cause first second) e = abnormal-stays row (place_of row) e

  pub stays-ended : (ending : Ending) (deck : Option Job) → Stays (after_event (Ended job ending) deck tables)
  stays-ended ending deck = effects.by-given layout now agreed job are (λ row. after_ended row ending tables) (run_of tables job) (λ row e. ended-stays row ending e)

  -- ---- a deck is submitted

  pub stays-submitted : (cards : List ℕ) (deck : Option Job) → Stays (after_event (Submitted job cards) deck tables)
  stays-submitted cards None = λ leaves. are
  stays-submitted cards (Some deck) = λ leaves number row effect e f. by number row effect e f
    where
      by : (number : ℕ) (row : RunRow) (effect : EffectPoint) → run_of (after_submitted job deck tables) number ≡ Some row → row.in_effect ≡ Some effect → IsStill (after_submitted job deck tables) row effect
      by zero row effect e f = absurd (some-not-none row (sym e))
      by (suc before) row effect e f =
          ⊎_elim
          (λ was.
          let its : IsInEffect now row effect = are (suc before) row effect was f in
          record {
            holds = its.holds;
            within = its.within;
            owned = its.owned;
            found = its.found;
            among = its.among;
            entry = its.entry;
            at = its.at;
            kept = its.kept;
            same = its.same;
            owner = its.owner;
            step = its.step;
            present = its.present;
          })
          (λ last. absurd (some-not-none effect (sym f ∙ sym (ap (λ (row : RunRow). row.in_effect) last))))
          (last-or tables.runs (queued_run job deck) before row e)
