-- What a run leaves of a data set that it doesn't reach, or that its job shares: SHR, with KEEP at both ends.
use Rattle.std.proofs.Common.{◌≡◌, ◌≢◌, ◌≤◌, ◌⊎◌, inl, inr, ℕ, Bool, true, false, not, ◌&&◌, ◌||◌, List, [], ◌∷◌, refl, ap, sym, ◌∙◌, subst, Option, Some, None, arith}
use Rattle.std.specs.List.{AllByRecursion, cons_option, filter_map, list_all}
use Rattle.std.specs.Option.{option_map_or}
use Rattle.std.proofs.lemmas.Bool.{false≢true, or_parts}
use Rattle.ckr_base.proofs.Bools.{bool-cases}
use Rattle.ckr_points_library.specs.Commit.{output_names}
use Rattle.ckr_uses.specs.Uses.{is_shared, leaves}
use Rattle.ckr_events.specs.declared.event.Made.{Made}
use Rattle.ckr_jcl.specs.declared.deck.Dd.{Dd}
use Rattle.ckr_library.specs.NameMaps.{Name, same_name, entry_at}
use Rattle.ckr_meaning.specs.Allotments.{DdAllotment, opened_all}
use Rattle.ckr_meaning.specs.Dispositions.{disposed_all}
use Rattle.ckr_meaning.specs.EffectiveJob.{Effective, OwnedStep, disposals_of, is_among, name_of, names_of, placed_in, stamp_of, step_at}
use Rattle.ckr_meaning.specs.declared.place.Place.{Place}
use Rattle.ckr_meaning.specs.declared.place.Place.TheVariants.{Before, Opened, Within}
use Rattle.ckr_meaning.specs.JobRun.{walk_before}
use Rattle.ckr_meaning.specs.StepRun.{StepStart, placed_at}
use Rattle.ckr_points.specs.Tables.{after_dispositions, after_started, committed}
use Rattle.ckr_points.specs.Payload.{is_formed_step}
use Rattle.ckr_points.specs.Office.{Leg, Office, passed_made}
use Rattle.ckr_points.specs.Restart.{after_abnormal, after_passed_ended, place_of}
use Rattle.ckr_points.specs.Rows.{RunRow, standing_of, step_of_run, table_ways}
use Rattle.ckr_points_invariant.specs.Invariant.{IsAgreed, IsAtPlace, IsHolder, Leaves, leaves_dd, step_now}
use Rattle.ckr_points_invariant.specs.RunningSteps.{IsRunning, its_start}
use Rattle.ckr_points_invariant.proofs.Steps.Commits.{found_leg, now}
use Rattle.ckr_points_invariant.proofs.StepEnd.Invariant.{disposals_are, disposed-enters}
use Rattle.ckr_points_invariant.proofs.Holders.Rows.{step-all}
use Rattle.ckr_points_invariant.proofs.Holders.SharedSets.{LeavesStep, Untouched, before_keeps, disposed_all-left, opened_all-left, placed_at-left, step_left, unmade_all, unmade_left, untouched_all}
use Rattle.ckr_points_invariant.proofs.Holders.Moves.{Among}
use Rattle.ckr_points_invariant.proofs.Library.PassedList.{disposed-made, ended-stays}
use Rattle.ckr_points_invariant.proofs.Start.Invariant as starting
use Rattle.ckr_points_invariant.proofs.Start.Event.{StartsNow}
use Rattle.ckr_points_invariant.proofs.Writes.Likeness.{committed-other}
use Rattle.ckr_points_invariant.proofs.OtherRuns.Outputs.{not-output}
use Rattle.ckr_points_invariant.proofs.Readiness.Starts.{made_tables-left}
use Rattle.ckr_volumes.specs.declared.layout.Layout.{Layout}

-- a name that a run doesn't reach, or that its job shares
abbrev pub IsLeft : Leg → Name → Type 0
IsLeft leg name = (is_among leg.reach name ≡ false) ⊎ Leaves leg.job name

-- so it is with each name that another holder reaches
pub left-of : (layout : Layout) (office : Office) (one other : ℕ) (row next : RunRow) (leg fellow : Leg) (name : Name) → IsAgreed layout office → IsHolder office one row leg → IsHolder office other next fellow → one ≢ other → Among leg name → IsLeft fellow name
left-of layout office one other row next leg fellow name kept here there apart mine =
    bool-cases (is_among fellow.reach name)
    (λ its. inr (kept.left other one next row fellow leg name there here (λ e. apart (sym e)) its mine))
    (λ out. inl out)

-- ---- a step

-- a step that hasn't the name leaves it
without_leaves : (root : ℕ) (owned : OwnedStep) (dds : List Dd) (name : Name) → is_among (filter_map (name_of root owned) dds) name ≡ false → list_all (leaves_dd root owned name) dds ≡ true
without_leaves root owned [] name out = refl
without_leaves root owned (dd ∷ dds) name out =
    by (without_leaves root owned dds name) (name_of root owned dd) out
  where
    by : (is_among (filter_map (name_of root owned) dds) name ≡ false → list_all (leaves_dd root owned name) dds ≡ true) → (other : Option Name) → is_among (cons_option other (filter_map (name_of root owned) dds)) name ≡ false → (leaves name other (is_shared dd) && list_all (leaves_dd root owned name) dds) ≡ true
    by rest None out = rest out
    by rest (Some other) out =
        let parts = or_parts (same_name name other) _ out in
        ap (λ b. (not b || is_shared dd) && list_all (leaves_dd root owned name) dds) parts.0 ∙ rest parts.1

-- ---- a holder

module _ (layout : Layout) (office : Office) (number : ℕ) (row : RunRow) (leg : Leg) (name : Name) (kept : IsAgreed layout office) (holder : IsHolder office number row leg) (left : IsLeft leg name) where
  place_so : IsAtPlace office.tables row leg
  place_so = kept.places number row leg holder

  -- its steps from here on leave the name
  pub step-leaves : (step : ℕ) (owned : OwnedStep) → step_now row ≤ step → step_at leg.job step ≡ Some owned → LeavesStep name leg.job.root owned
  step-leaves step owned from at_step =
      elim left [
        | inl out ↦
            (record {
              formed = step-all (is_formed_step leg.job.root) leg.job step owned place_so.formed at_step;
              leaves =
                  without_leaves leg.job.root owned owned.step.dds name
                  (bool-cases (is_among (names_of leg.job.root owned) name)
                  (λ among. absurd (false≢true (sym out ∙ (place_so.ahead step owned name from at_step among).0)))
                  (λ e. e));
            })
        | inr shared ↦ step_left name leg.job leg.start place_so.formed shared step owned at_step
      ]

  -- it hasn't passed it on as made, or has lost it
  never-entered : is_among row.lost name ≡ false → is_among (passed_made row.passed) name ≡ false
  never-entered stays =
      elim left [
        | inl out ↦ place_so.entered name out stays
        | inr shared ↦
            ap (λ passed. is_among (passed_made passed) name) place_so.passed
            ∙ (before_keeps name leg.job leg.start place_so.formed shared (step_now row)).free
      ]

  -- its end leaves it
  pub ended-left : entry_at (after_passed_ended row office.tables).sets name ≡ entry_at office.tables.sets name
  ended-left = ended-stays row.lost row.passed office.tables.sets name never-entered

-- ---- a step starts

module _ (layout : Layout) (office : Office) (number : ℕ) (row : RunRow) (leg : Leg) (owned : OwnedStep) (step : ℕ) (items : List Made) (name : Name) (kept : IsAgreed layout office) (starts : StartsNow layout office number row leg owned step items) (left : IsLeft leg name) where
  abbrev placed : List DdAllotment
  placed = placed_in table_ways (standing_of row office.tables) row.job.root owned

  untouched : AllByRecursion (Untouched name) placed
  untouched =
      let start : StepStart = its_start leg owned step in
      subst (AllByRecursion (Untouched name)) (sym (starting.placed_so layout office number row leg owned step items kept starts.holder starts.stands starts.found))
      (untouched_all name (placed_at start)
      (placed_at-left name start
      (step-leaves layout office number row leg name kept starts.holder left step owned
      (subst (λ n. n ≤ step) (sym (starting.now layout office number row leg owned step items kept starts.holder starts.stands starts.found)) (omega arith))
      (starting.found_leg layout office number row leg owned step items kept starts.holder starts.stands starts.found))))

  pub started-left : entry_at (after_started row owned step items office.tables).sets name ≡ entry_at office.tables.sets name
  started-left =
      made_tables-left (stamp_of owned step) items placed (opened_all table_ways (stamp_of owned step) placed office.tables.sets) name (unmade_all name placed untouched)
      ∙ opened_all-left name table_ways (stamp_of owned step) placed office.tables.sets untouched

-- ---- a running step

module _ (layout : Layout) (office : Office) (number : ℕ) (row : RunRow) (leg : Leg) (owned : OwnedStep) (step writes : ℕ) (name : Name) (kept : IsAgreed layout office) (running : IsRunning office number row leg owned step writes) (left : IsLeft leg name) where
  abbrev start : StepStart
  start = its_start leg owned step

  pub running-leaves : LeavesStep name leg.job.root owned
  running-leaves =
      step-leaves layout office number row leg name kept running.holder left step owned
      (subst (λ n. n ≤ step) (sym (now layout office number row leg owned step writes kept running)) (omega arith))
      (found_leg layout office number row leg owned step writes kept running)

  -- its lengths are committed
  pub committed-left : (lengths : List ℕ) → entry_at (committed (output_names row.job.root owned) lengths office.tables.sets) name ≡ entry_at office.tables.sets name
  committed-left lengths =
      committed-other (output_names row.job.root owned) lengths office.tables.sets name
      (ap (λ (job : Effective). is_among (output_names job.root owned) name) (sym (kept.places number row leg running.holder).job)
      ∙ not-output leg.job.root owned name running-leaves)

  abbrev earlier : List Name
  earlier = (walk_before leg.job leg.start step).earlier

  -- it is disposed of
  pub disposed-left : (abnormal : Bool) → entry_at (after_dispositions row owned step abnormal office.tables).sets name ≡ entry_at office.tables.sets name
  disposed-left abnormal =
      ap (λ all. entry_at (disposed_all table_ways all (standing_of row office.tables)).sets name) (disposals_are layout office number row leg owned step writes kept running abnormal)
      ∙ disposed_all-left name table_ways earlier abnormal (placed_at start) (standing_of row office.tables) (placed_at-left name start running-leaves)

  disposed_enters : (abnormal : Bool) → is_among row.lost name ≡ false → is_among (passed_made (after_dispositions row owned step abnormal office.tables).passed) name ≡ false
  disposed_enters abnormal stays = by left
    where
      by : IsLeft leg name → is_among (passed_made (after_dispositions row owned step abnormal office.tables).passed) name ≡ false
      by (inl out) = disposed-enters layout office number row leg owned step writes kept running abnormal name out stays
      by (inr shared) =
          ap (λ all. is_among (passed_made (disposed_all table_ways all (standing_of row office.tables)).passed) name) (disposals_are layout office number row leg owned step writes kept running abnormal)
          ∙ disposed-made table_ways name (disposals_of earlier abnormal (placed_at start)) (standing_of row office.tables)
          (unmade_left name earlier abnormal (placed_at start)
          (before_keeps name leg.job leg.start (kept.places number row leg running.holder).formed shared step).unmade
          (placed_at-left name start running-leaves))
          (never-entered layout office number row leg name kept running.holder left stays)

  -- its run ends within it
  pub within-left : entry_at (after_abnormal row (Within step writes) office.tables).sets name ≡ entry_at office.tables.sets name
  within-left =
      ap (λ (o : Option OwnedStep). entry_at (option_map_or (λ owned. let done = after_dispositions row owned step true office.tables in after_passed_ended (record row { passed = done.passed }) (record office.tables { sets = done.sets })) o office.tables).sets name) running.found
      ∙ ended-stays row.lost (after_dispositions row owned step true office.tables).passed (after_dispositions row owned step true office.tables).sets name (disposed_enters true)
      ∙ disposed-left true

-- a run ends at its place
pub abnormal-left : (layout : Layout) (office : Office) (number : ℕ) (row : RunRow) (leg : Leg) (name : Name) → IsAgreed layout office → IsHolder office number row leg → IsLeft leg name → entry_at (after_abnormal row (place_of row) office.tables).sets name ≡ entry_at office.tables.sets name
abnormal-left layout office number row leg name kept holder left = by (place_of row) refl
  where
    within : (step writes : ℕ) → place_of row ≡ Within step writes → (o : Option OwnedStep) → step_of_run row step ≡ o → entry_at (after_abnormal row (Within step writes) office.tables).sets name ≡ entry_at office.tables.sets name
    within step writes stands None none =
        ap (λ (o : Option OwnedStep). entry_at (option_map_or (λ owned. let done = after_dispositions row owned step true office.tables in after_passed_ended (record row { passed = done.passed }) (record office.tables { sets = done.sets })) o office.tables).sets name) none
    within step writes stands (Some owned) at_step =
        within-left layout office number row leg owned step writes name kept (record { holder = holder; stands = stands; found = at_step }) left

    by : (place : Place) → place_of row ≡ place → entry_at (after_abnormal row place office.tables).sets name ≡ entry_at office.tables.sets name
    by (Before step) stands = ended-left layout office number row leg name kept holder left
    by (Opened step) stands = ended-left layout office number row leg name kept holder left
    by (Within step writes) stands = within step writes stands (step_of_run row step) refl
