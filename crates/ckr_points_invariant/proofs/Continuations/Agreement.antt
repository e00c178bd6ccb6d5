-- Behind the selection of a run that continues another one the tables agree with what the jobs of the selected runs give: rows and legs, the holders at
-- their places, and the data sets, where no other holder reaches a name that the run reaches.
use Rattle.std.proofs.Common.{◌≡◌, ◌≢◌, ◌==◌, ℕ, suc, true, false, List, refl, ap, sym, ◌∙◌, subst, Option, Some, None}
use Rattle.std.specs.List.{AllByRecursion}
use Rattle.std.specs.Option.{is_some, option_map, option_map_or}
use Rattle.std.proofs.lemmas.Bool.{false≢true}
use Rattle.ckr_base.proofs.Bools.{bool-cases, or-not-first}
use Rattle.ckr_base.proofs.Numbers.{equal-true, number-cases}
use Rattle.ckr_base.proofs.Options.{is_some-from, some-not-none, some-one}
use Rattle.ckr_base.proofs.Sequences.{each-implies}
use Rattle.ckr_entry.specs.declared.point.Mark.{Mark}
use Rattle.ckr_library.specs.NameMaps.{Name, Named, entry_at}
use Rattle.ckr_meaning.specs.Dispositions.{Stock}
use Rattle.ckr_meaning.specs.EffectiveJob.{OwnedStep, is_among, names_of_job}
use Rattle.ckr_meaning.specs.JobRun.{at}
use Rattle.ckr_meaning.specs.LibrarySet.{Library, LibrarySet}
use Rattle.ckr_volumes.specs.declared.layout.Layout.{Layout}
use Rattle.ckr_points_library.specs.Commit.{output_names}
use Rattle.ckr_points.specs.declared.run.RunState.TheVariants.{Queued}
use Rattle.ckr_points.specs.Follows.{is_in_state}
use Rattle.ckr_points.specs.Marks.{mark_at, own_names, removed_all}
use Rattle.ckr_points.specs.Office.{Leg, Office, is_holder, leg_of, standing_at, continued_leg}
use Rattle.ckr_points.specs.Restart.{step_in}
use Rattle.ckr_points.specs.RuleCases.{is_ended}
use Rattle.ckr_points.specs.Rows.{RunRow, TableSet, run_of}
use Rattle.ckr_points.specs.Soundness.{AreLaidOut}
use Rattle.ckr_points_invariant.specs.Invariant.{AreAlike, IsAtPlace, IsFree, IsHolder, IsKept, IsKnownLeg, IsWaiting, Leaves, set_shape, table_shape}
use Rattle.ckr_points_invariant.specs.Points.{ArePointed}
use Rattle.ckr_points_invariant.specs.StartedSteps.{AreBegunSteps}
use Rattle.ckr_points_invariant.specs.EarlierRuns.{MayContinue}
use Rattle.ckr_points_invariant.proofs.Holders.Moves.{standing-is}
use Rattle.ckr_points_invariant.proofs.Holders.Rows.{PointsStay, place-stays, queued-is}
use Rattle.ckr_points_invariant.proofs.PutBack.Sets.{put_back-laid, removed_all-laid}
use Rattle.ckr_points_invariant.proofs.Select.Holders.{all_legs}
use Rattle.ckr_points_invariant.proofs.Continuations.EarlierRun.{Coming, IsEarlier, IsPutBack, leg_from, row_then, sets_then}
use Rattle.ckr_points_invariant.proofs.Continuations.DataSets.{back-apart}
use Rattle.ckr_points_invariant.proofs.Continuations.Offices as offices
use Rattle.ckr_points_invariant.proofs.Continuations.Selections.Earlier as earlier
use Rattle.ckr_points_invariant.proofs.Continuations.Steps as steps

module _ (layout : Layout) (now : Office) (job initiator before step : ℕ) (id : Option Name) (its : MayContinue layout now.tables job initiator (suc before) step id) (start : Library) (reach : List Name)
    (kept : IsKept layout now) (begun : AreBegunSteps now) (pointed : ArePointed now) (led : leg_of now (suc before) ≡ Some (leg_from its.other start reach))
    (covers : (name : Name) → is_some (mark_at its.point.marks name) ≡ is_among (names_of_job its.other.job) name) (coming : Coming) (marks : List Mark) (needed removed : List Name) where
  abbrev pub next : RunRow
  next = row_then now its.row its.other step its.point initiator coming

  abbrev pub leg : Leg
  leg = continued_leg now next (leg_from its.other start reach)

  -- the data sets put back
  abbrev pub sets : Named TableSet
  sets = sets_then now its.other its.owned marks needed removed

  -- the office behind it
  abbrev pub behind : Office
  behind = offices.behind layout now job initiator before step id its start reach kept begun pointed led covers coming sets

  row_is : its.row.number ≡ job
  row_is = kept.events.numbered job its.row its.row_at

  row_here : run_of behind.tables job ≡ Some next
  row_here = offices.row-behind layout now job initiator before step id its start reach kept begun pointed led covers coming sets

  row_there : (number : ℕ) → number ≢ job → run_of behind.tables number ≡ run_of now.tables number
  row_there = offices.rows-behind layout now job initiator before step id its start reach kept begun pointed led covers coming sets

  leg_here : leg_of behind job ≡ Some leg
  leg_here = offices.leg-behind layout now job initiator before step id its start reach kept begun pointed led covers coming sets

  leg_there : (number : ℕ) → number ≢ job → leg_of behind number ≡ leg_of now number
  leg_there = offices.legs-behind layout now job initiator before step id its start reach kept begun pointed led covers coming sets

  -- it had no leg
  unled : leg_of now job ≡ None
  unled = ap (leg_of now) (sym row_is) ∙ offices.alone layout now job initiator before step id its start reach kept begun pointed led covers coming sets

  row_so : (number : ℕ) (row : RunRow) → number ≡ job → run_of behind.tables number ≡ Some row → next ≡ row
  row_so number row same found = some-one next row (run_of behind.tables job) row_here (ap (run_of behind.tables) (sym same) ∙ found)

  leg_so : (number : ℕ) (its_leg : Leg) → number ≡ job → leg_of behind number ≡ Some its_leg → leg ≡ its_leg
  leg_so number its_leg same found = some-one leg its_leg (leg_of behind job) leg_here (ap (leg_of behind) (sym same) ∙ found)

  -- ---- rows and legs

  pub extents-behind : AreLaidOut layout behind.tables.sets
  extents-behind =
      put_back-laid layout marks (output_names its.other.job.root its.owned) needed (removed_all removed now.tables.sets)
      (removed_all-laid layout removed now.tables.sets kept.events.extents)

  pub numbered-behind : (number : ℕ) (row : RunRow) → run_of behind.tables number ≡ Some row → row.number ≡ number
  numbered-behind number row found =
      number-cases number job
      (λ same. ap (λ (row : RunRow). row.number) (sym (row_so number row same found)) ∙ row_is ∙ sym same)
      (λ apart. kept.events.numbered number row (sym (row_there number apart) ∙ found))

  -- a run that waits is another one
  pub waiting-behind : (number : ℕ) (row : RunRow) → run_of behind.tables number ≡ Some row → is_in_state Queued row ≡ true → IsWaiting behind row
  waiting-behind number row found queued =
      number-cases number job
      (λ same. absurd (false≢true (ap (is_in_state Queued) (row_so number row same found) ∙ queued)))
      (λ apart.
      let waiting : IsWaiting now row = kept.events.waiting number row (sym (row_there number apart) ∙ found) queued in
      record {
        alone = leg_there row.number (λ same. apart (sym (numbered-behind number row found) ∙ same)) ∙ waiting.alone;
        job = waiting.job;
        formed = waiting.formed;
        earlier = waiting.earlier;
        own = waiting.own;
        rcs = waiting.rcs;
        passed = waiting.passed;
        lost = waiting.lost;
      })

  known-stays : (one : Leg) → IsKnownLeg now one → IsKnownLeg behind one
  known-stays one is =
      let apart : one.number ≢ job = λ same. some-not-none one (sym is.found ∙ ap (leg_of now) same ∙ unled) in
      record { found = leg_there one.number apart ∙ is.found; listed = ap is_some (row_there one.number apart) ∙ is.listed }

  known-own : IsKnownLeg behind leg
  known-own = record {
    found = ap (leg_of behind) row_is ∙ leg_here;
    listed = is_some-from (run_of behind.tables its.row.number) next (ap (run_of behind.tables) row_is ∙ row_here);
  }

  pub legs-behind-known : AllByRecursion (IsKnownLeg behind) behind.legs
  legs-behind-known =
      subst (AllByRecursion (IsKnownLeg behind))
      (sym (offices.all-legs layout now job initiator before step id its start reach kept begun pointed led covers coming sets))
      (all_legs (IsKnownLeg behind) leg now.legs known-own (each-implies (IsKnownLeg now) (IsKnownLeg behind) now.legs known-stays kept.events.legs))

  pub led-behind : (number : ℕ) (row : RunRow) → run_of behind.tables number ≡ Some row → is_holder row.state ≡ true → is_some (leg_of behind number) ≡ true
  led-behind number row found holds =
      number-cases number job
      (λ same. is_some-from (leg_of behind number) leg (ap (leg_of behind) same ∙ leg_here))
      (λ apart. ap is_some (leg_there number apart) ∙ kept.events.led number row (sym (row_there number apart) ∙ found) holds)

  -- ---- holders

  -- the run holds its names
  pub holder-own : IsHolder behind job next leg
  holder-own = record { row_at = row_here; holds = refl; leg_at = leg_here }

  -- the others did before, and do still
  pub holder-before : (number : ℕ) (row : RunRow) (its_leg : Leg) → number ≢ job → IsHolder behind number row its_leg → IsHolder now number row its_leg
  holder-before number row its_leg apart holder = record {
    row_at = sym (row_there number apart) ∙ holder.row_at;
    holds = holder.holds;
    leg_at = sym (leg_there number apart) ∙ holder.leg_at;
  }

  pub holder-other : (number : ℕ) (row : RunRow) (its_leg : Leg) → IsHolder now number row its_leg → number ≢ job
  holder-other number row its_leg holder same = some-not-none its_leg (sym holder.leg_at ∙ ap (leg_of now) same ∙ unled)

  pub holder-stays : (number : ℕ) (row : RunRow) (its_leg : Leg) → IsHolder now number row its_leg → IsHolder behind number row its_leg
  holder-stays number row its_leg holder =
      let apart : number ≢ job = holder-other number row its_leg holder in
      record { row_at = row_there number apart ∙ holder.row_at; holds = holder.holds; leg_at = leg_there number apart ∙ holder.leg_at }

  -- what holds of the run's row and leg holds of the holder of its number
  pub holder-same : (P : RunRow → Leg → Type 0) → P next leg → (number : ℕ) (row : RunRow) (its_leg : Leg) → number ≡ job → IsHolder behind number row its_leg → P row its_leg
  holder-same P own number row its_leg same holder =
      subst (λ (row : RunRow). P row its_leg) (row_so number row same holder.row_at) (subst (P next) (leg_so number its_leg same holder.leg_at) own)

  -- the run has RESTART
  with-restart : (number : ℕ) (row : RunRow) (its_leg : Leg) → number ≡ job → IsHolder behind number row its_leg → is_some row.deck.restart ≡ true
  with-restart number row its_leg same holder = ap (λ (row : RunRow). is_some row.deck.restart) (sym (row_so number row same holder.row_at)) ∙ ap is_some its.has

  -- what a holder without shares is as it was and as the ended jobs left it
  pub since-behind : (number : ℕ) (row : RunRow) (its_leg : Leg) (name : Name) → IsHolder behind number row its_leg → row.deck.restart ≡ None → is_among its_leg.reach name ≡ true
      → Leaves its_leg.job name → entry_at its_leg.start name ≡ entry_at behind.library name
  since-behind number row its_leg name holder none among leaves =
      number-cases number job
      (λ same. absurd (false≢true (sym (ap is_some none) ∙ with-restart number row its_leg same holder)))
      (λ apart. kept.events.since number row its_leg name (holder-before number row its_leg apart holder) none among leaves)

  -- ---- places

  -- the row of the run changes, which kept no points for another one
  points-stay : (number : ℕ) → number ≢ job → PointsStay now.tables behind.tables number
  points-stay number apart owner keeps =
      number-cases owner job
      (λ same.
      absurd (false≢true (
      sym (
      ap (λ (o : Option RunRow). option_map_or (λ row. is_ended row.state) o false) (ap (run_of now.tables) same ∙ its.row_at)
      ∙ ap is_ended (queued-is its.row.state its.queued))
      ∙ or-not-first (owner == number) _ keeps (λ equal. apart (sym (equal-true owner number equal) ∙ same)))))
      (λ other. row_there owner other)

  -- Each holder stands at its place.
  pub places-behind : IsAtPlace behind.tables next leg → (number : ℕ) (row : RunRow) (its_leg : Leg) → IsHolder behind number row its_leg → IsAtPlace behind.tables row its_leg
  places-behind mine number row its_leg holder =
      number-cases number job
      (λ same. holder-same (IsAtPlace behind.tables) mine number row its_leg same holder)
      (λ apart.
      let was : IsHolder now number row its_leg = holder-before number row its_leg apart holder in
      place-stays now.tables behind.tables row
      (subst (PointsStay now.tables behind.tables) (sym (numbered-behind number row holder.row_at)) (points-stay number apart))
      its_leg (kept.events.places number row its_leg was))

  -- ---- data sets

  module _ (alone : (number : ℕ) (row : RunRow) (its_leg : Leg) (name : Name) → IsHolder now number row its_leg → is_among leg.reach name ≡ true → is_among its_leg.reach name ≡ false) where
    -- A name that the run reaches is as the ended jobs left it.
    pub left-so : (name : Name) → is_among leg.reach name ≡ true → AreAlike now.tables.sets now.library name
    left-so name mine = kept.events.free name (λ number row its_leg holder. alone number row its_leg name holder mine)

    -- what another holder reaches, the run doesn't
    unreached : (number : ℕ) (row : RunRow) (its_leg : Leg) (name : Name) → IsHolder now number row its_leg → is_among its_leg.reach name ≡ true → is_among leg.reach name ≡ false
    unreached number row its_leg name holder among =
        bool-cases (is_among leg.reach name)
        (λ mine. absurd (false≢true (sym (alone number row its_leg name holder mine) ∙ among)))
        (λ out. out)

    -- so no other holder reaches a name of one with RESTART
    pub alone-behind : (one other : ℕ) (row fellow : RunRow) (its_leg other_leg : Leg) (name : Name) → IsHolder behind one row its_leg → IsHolder behind other fellow other_leg
        → one ≢ other → is_some row.deck.restart ≡ true → is_among its_leg.reach name ≡ true → is_among other_leg.reach name ≡ false
    alone-behind one other row fellow its_leg other_leg name here there apart given among =
        number-cases one job
        (λ first.
        alone other fellow other_leg name (holder-before other fellow other_leg (λ second. apart (first ∙ sym second)) there)
        (subst (λ (leg : Leg). is_among leg.reach name ≡ true) (sym (leg_so one its_leg first here.leg_at)) among))
        (λ first.
        let was : IsHolder now one row its_leg = holder-before one row its_leg first here in
        number-cases other job
        (λ second. subst (λ (leg : Leg). is_among leg.reach name ≡ false) (leg_so other other_leg second there.leg_at) (unreached one row its_leg name was among))
        (λ second. kept.events.alone one other row fellow its_leg other_leg name was (holder-before other fellow other_leg second there) apart given among))

    -- two holders share the names that they have in common: neither is the run
    pub left-behind : (one other : ℕ) (row fellow : RunRow) (its_leg other_leg : Leg) (name : Name) → IsHolder behind one row its_leg → IsHolder behind other fellow other_leg
        → one ≢ other → is_among its_leg.reach name ≡ true → is_among other_leg.reach name ≡ true → Leaves its_leg.job name
    left-behind one other row fellow its_leg other_leg name here there apart among too =
        number-cases one job
        (λ first. absurd (false≢true (sym (alone-behind one other row fellow its_leg other_leg name here there apart (with-restart one row its_leg first here) among) ∙ too)))
        (λ first.
        number-cases other job
        (λ second.
        absurd (false≢true (sym (alone-behind other one fellow row other_leg its_leg name there here (λ same. apart (sym same)) (with-restart other fellow other_leg second there) too) ∙ among)))
        (λ second. kept.events.left one other row fellow its_leg other_leg name (holder-before one row its_leg first here) (holder-before other fellow other_leg second there) apart among too))

    module _ (named : List Name) (isback : IsPutBack now next its.other its.owned start coming marks needed removed named) (stands : step_in coming.place ≡ step) where
      abbrev earlier-start : IsEarlier now its.row its.other (leg_from its.other start reach) step its.point
      earlier-start = earlier.earlier-start layout now job initiator before step id its start reach kept.events kept.decks begun pointed led covers

      same-step : its.owned ≡ earlier-start.begun.owned
      same-step = earlier.same-step layout now job initiator before step id its start reach kept.events kept.decks begun pointed led covers

      not-own : (name : Name) → is_among leg.reach name ≡ false → is_among (own_names next) name ≡ false
      not-own name out =
          bool-cases (is_among (own_names next) name)
          (λ own. absurd (false≢true (sym out ∙ steps.own now its.row its.other start reach step its.point earlier-start initiator coming stands sets name own)))
          (λ e. e)

      -- what the run doesn't reach is as it was
      pub outside-behind : (name : Name) → is_among leg.reach name ≡ false → entry_at behind.tables.sets name ≡ entry_at now.tables.sets name
      outside-behind name out =
          subst (λ (owned : OwnedStep). entry_at (sets_then now its.other owned marks needed removed) name ≡ entry_at now.tables.sets name) (sym same-step)
          (back-apart now its.row its.other start reach step its.point earlier-start initiator coming stands marks needed removed named
          (subst (λ (owned : OwnedStep). IsPutBack now next its.other owned start coming marks needed removed named) same-step isback)
          name (not-own name out))

      -- Of each name that a holder reaches the tables have what its job has at its place.
      pub held-behind : ((name : Name) → is_among leg.reach name ≡ true → AreAlike behind.tables.sets (at leg.job leg.start coming.place).sets name)
          → (number : ℕ) (row : RunRow) (its_leg : Leg) (name : Name) → IsHolder behind number row its_leg → is_among its_leg.reach name ≡ true → AreAlike behind.tables.sets (standing_at behind its_leg).sets name
      held-behind mine number row its_leg name holder =
          number-cases number job
          (λ same. holder-same (λ row its_leg. is_among its_leg.reach name ≡ true → AreAlike behind.tables.sets (standing_at behind its_leg).sets name) own number row its_leg same holder)
          (λ apart among.
          let was : IsHolder now number row its_leg = holder-before number row its_leg apart holder in
          ap (option_map table_shape) (outside-behind name (unreached number row its_leg name was among))
          ∙ kept.events.held number row its_leg name was among
          ∙ ap (λ (standing : Stock LibrarySet). option_map set_shape (entry_at standing.sets name))
          (standing-is now number row its_leg was.row_at was.leg_at ∙ sym (standing-is behind number row its_leg holder.row_at holder.leg_at)))
        where
          own : is_among leg.reach name ≡ true → AreAlike behind.tables.sets (standing_at behind leg).sets name
          own among =
              mine name among
              ∙ ap (λ (standing : Stock LibrarySet). option_map set_shape (entry_at standing.sets name)) (sym (standing-is behind job next leg row_here leg_here))

      -- A name that no holder reaches is as the ended jobs left it.
      pub free-behind : (name : Name) → IsFree behind name → AreAlike behind.tables.sets behind.library name
      free-behind name free =
          ap (option_map table_shape) (outside-behind name (free job next leg holder-own))
          ∙ kept.events.free name (λ number row its_leg holder. free number row its_leg (holder-stays number row its_leg holder))
