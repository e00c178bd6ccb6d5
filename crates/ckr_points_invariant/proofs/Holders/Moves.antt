-- The events stay kept where one holder goes on, or ends, and what it changes lies in its reach.
use Rattle.std.proofs.Common.{◌≡◌, ◌≢◌, ℕ, true, false, ap, sym, ◌∙◌, subst, refl, Option, None, Some}
use Rattle.std.specs.Prelude.{◌==◌}
use Rattle.std.specs.List.{AllByRecursion}
use Rattle.std.specs.Option.{option_map, option_map_or, is_some}
use Rattle.std.proofs.lemmas.Bool.{false≢true}
use Rattle.ckr_base.proofs.Bools.{bool-cases, or-not-first}
use Rattle.ckr_base.proofs.Numbers.{equal-true, number-cases}
use Rattle.ckr_base.proofs.Sequences.{each-implies}
use Rattle.ckr_base.proofs.Options.{is_some-from, option-cases, some-one}
use Rattle.ckr_jcl.specs.declared.deck.Job.{Job}
use Rattle.ckr_library.specs.NameMaps.{Name, Named, entry_at}
use Rattle.ckr_meaning.specs.LibrarySet.{Library, LibrarySet}
use Rattle.ckr_meaning.specs.Dispositions.{Stock}
use Rattle.ckr_meaning.specs.EffectiveJob.{Effective, is_among}
use Rattle.ckr_meaning.specs.declared.place.Place.{Place}
use Rattle.ckr_meaning.specs.declared.place.Place.TheVariants.{Before}
use Rattle.ckr_meaning.specs.JobRun.{at}
use Rattle.ckr_volumes.specs.declared.layout.Layout.{Layout}
use Rattle.ckr_points.specs.declared.run.RunState.TheVariants.{Queued}
use Rattle.ckr_points.specs.Follows.{is_in_state}
use Rattle.ckr_points.specs.RuleCases.{is_ended}
use Rattle.ckr_points_invariant.specs.Invariant.{AreAlike, IsAtPlace, IsHolder, IsAgreed, IsKnownLeg, IsWaiting, Leaves, set_shape, table_shape}
use Rattle.ckr_points.specs.Office.{Leg, Office, is_holder, leg_of, standing_at}
use Rattle.ckr_points.specs.Restart.{place_of}
use Rattle.ckr_points.specs.Rows.{RunRow, TableSet, run_of, with_run}
use Rattle.ckr_points.specs.Soundness.{AreLaidOut}
use Rattle.ckr_points_invariant.proofs.Holders.JobNames.{one-row-keeps, uses-stay}
use Rattle.ckr_points_invariant.proofs.Holders.Rows.{PointsStay, holder-ended, holder-waits, leg-number, place-stays, run-other, run-same}
use Rattle.ckr_points_invariant.proofs.Holders.SharedSets.{at-left}
use Rattle.ckr_points_invariant.specs.JobNames.{HasUses, KeepsJobNames}

-- the office with a run's row, with these data sets and this library
abbrev pub moved : RunRow → Named TableSet → Library → Office → Office
moved next sets library office = record office {
  tables = with_run next (record office.tables { sets = sets });
  library = library;
}

abbrev pub Among : Leg → Name → Type 0
Among leg name = is_among leg.reach name ≡ true

-- where a holder stands
pub standing-is : (office : Office) (number : ℕ) (row : RunRow) (leg : Leg) → run_of office.tables number ≡ Some row → leg_of office number ≡ Some leg → standing_at office leg ≡ at leg.job leg.start (place_of row)
standing-is office number row leg row_at leg_at =
    ap (λ (o : Option RunRow). option_map_or (λ row. at leg.job leg.start (place_of row)) o (at leg.job leg.start (Before 1)))
    (ap (run_of office.tables) (leg-number office number leg leg_at) ∙ row_at)

-- a holder that has a name in common with another one is without RESTART
pub without-restart : (layout : Layout) (office : Office) (one other : ℕ) (row next : RunRow) (leg fellow : Leg) (name : Name) → IsAgreed layout office → IsHolder office one row leg → IsHolder office other next fellow → one ≢ other → Among leg name → Among fellow name → row.deck.restart ≡ None
without-restart layout office one other row next leg fellow name kept here there apart mine its =
    option-cases row.deck.restart (λ none. none)
    (λ restart has. absurd (false≢true (sym (kept.alone one other row next leg fellow name here there apart (ap is_some has) mine) ∙ its)))

-- another holder that has the name in its reach leaves it as the ended jobs left it
pub fellow-same : (layout : Layout) (office : Office) (one other : ℕ) (row next : RunRow) (leg fellow : Leg) (name : Name) → IsAgreed layout office → IsHolder office one row leg → IsHolder office other next fellow → one ≢ other → Among leg name → Among fellow name → (place : Place) → entry_at (at leg.job leg.start place).sets name ≡ entry_at office.library name
fellow-same layout office one other row next leg fellow name kept here there apart mine its place =
    let left : Leaves leg.job name = kept.left one other row next leg fellow name here there apart mine its in
    at-left name leg.job leg.start (kept.places one row leg here).formed left place
    ∙ kept.since one row leg name here (without-restart layout office one other row next leg fellow name kept here there apart mine its) mine left

module _ (layout : Layout) (office : Office) (number : ℕ) (row next : RunRow) (leg : Leg) (sets : Named TableSet) (library : Library)
    (kept : IsAgreed layout office) (holder : IsHolder office number row leg) (same : next.number ≡ number) (busy : is_in_state Queued next ≡ false) where
  abbrev later : Office
  later = moved next sets library office

  row_here : run_of later.tables number ≡ Some next
  row_here = run-same (record office.tables { sets = sets }) next row number holder.row_at same

  row_there : (other : ℕ) → other ≢ number → run_of later.tables other ≡ run_of office.tables other
  row_there other apart = run-other (record office.tables { sets = sets }) next other (λ e. apart (e ∙ same))

  pub to_later : (other : ℕ) (its : RunRow) (fellow : Leg) → other ≢ number → IsHolder office other its fellow → IsHolder later other its fellow
  to_later other its fellow apart there = record { row_at = row_there other apart ∙ there.row_at; holds = there.holds; leg_at = there.leg_at }

  pub of_later : (other : ℕ) (its : RunRow) (fellow : Leg) → other ≢ number → IsHolder later other its fellow → IsHolder office other its fellow
  of_later other its fellow apart there = record { row_at = sym (row_there other apart) ∙ there.row_at; holds = there.holds; leg_at = there.leg_at }

  pub row_is_next : (its : RunRow) → run_of later.tables number ≡ Some its → next ≡ its
  row_is_next its e = some-one next its (run_of later.tables number) row_here e

  pub leg_is : (fellow : Leg) → leg_of later number ≡ Some fellow → leg ≡ fellow
  leg_is fellow e = some-one leg fellow (leg_of office number) holder.leg_at e

  -- ---- rows and legs

  pub still-numbered : (other : ℕ) (its : RunRow) → run_of later.tables other ≡ Some its → its.number ≡ other
  still-numbered other its e =
      number-cases other number
      (λ here. ap (λ (r : RunRow). r.number) (sym (row_is_next its (ap (run_of later.tables) (sym here) ∙ e))) ∙ same ∙ sym here)
      (λ apart. kept.numbered other its (sym (row_there other apart) ∙ e))

  pub still-waiting : (other : ℕ) (its : RunRow) → run_of later.tables other ≡ Some its → is_in_state Queued its ≡ true → IsWaiting later its
  still-waiting other its e queued =
      number-cases other number
      (λ here. absurd (false≢true (sym busy ∙ ap (is_in_state Queued) (row_is_next its (ap (run_of later.tables) (sym here) ∙ e)) ∙ queued)))
      (λ apart.
      let waiting : IsWaiting office its = kept.waiting other its (sym (row_there other apart) ∙ e) queued in
      record { alone = waiting.alone; job = waiting.job; formed = waiting.formed; earlier = waiting.earlier; own = waiting.own; rcs = waiting.rcs; passed = waiting.passed; lost = waiting.lost })

  pub still-legs : AllByRecursion (IsKnownLeg later) office.legs
  still-legs =
      each-implies (IsKnownLeg office) (IsKnownLeg later) office.legs
      (λ one is. record {
        found = is.found;
        listed = number-cases one.number number
            (λ here. is_some-from (run_of later.tables one.number) next (ap (run_of later.tables) here ∙ row_here))
            (λ apart. ap is_some (row_there one.number apart) ∙ is.listed);
      }) kept.legs

  pub still-led : (other : ℕ) (its : RunRow) → run_of later.tables other ≡ Some its → is_holder its.state ≡ true → is_some (leg_of later other) ≡ true
  still-led other its e holds =
      number-cases other number
      (λ here. is_some-from (leg_of office other) leg (ap (leg_of office) here ∙ holder.leg_at))
      (λ apart. kept.led other its (sym (row_there other apart) ∙ e) holds)

  -- ---- other holders

  pub points-stay : (other : ℕ) → other ≢ number → PointsStay office.tables later.tables other
  points-stay other apart owner keeps =
      number-cases owner number
      (λ here.
      number-cases owner other
      (λ its. absurd (apart (sym its ∙ here)))
      (λ its.
      absurd (false≢true (
      sym (ap (λ (o : Option RunRow). option_map_or (λ row. is_ended row.state) o false) (ap (run_of office.tables) here ∙ holder.row_at) ∙ holder-ended row.state holder.holds)
      ∙ or-not-first (owner == other) _ keeps (λ e. its (equal-true owner other e))))))
      (λ there. row_there owner there)

  pub place-there : (other : ℕ) (its : RunRow) (fellow : Leg) → other ≢ number → IsHolder office other its fellow → IsAtPlace later.tables its fellow
  place-there other its fellow apart there =
      place-stays office.tables later.tables its
      (subst (PointsStay office.tables later.tables) (sym (kept.numbered other its there.row_at)) (points-stay other apart))
      fellow (kept.places other its fellow there)

  module _ (deck : next.deck ≡ row.deck) where
    pub names-stay : KeepsJobNames office.tables later.tables
    names-stay = one-row-keeps office.tables later.tables number row next holder.row_at row_here deck (holder-ended row.state holder.holds) row_there

    pub uses-there : (other : ℕ) (its : RunRow) (fellow : Leg) → IsHolder office other its fellow → HasUses later.tables its fellow
    uses-there other its fellow there = uses-stay office.tables later.tables names-stay its its refl refl fellow refl (kept.uses other its fellow there)

  -- what holds of each of its fellows that has a name in common: the name is as the ended jobs left it
  module _ (outside : (name : Name) → is_among leg.reach name ≡ false → option_map table_shape (entry_at sets name) ≡ option_map table_shape (entry_at office.tables.sets name))
      (common : (other : ℕ) (its : RunRow) (fellow : Leg) (name : Name) → other ≢ number → IsHolder office other its fellow → Among leg name → Among fellow name → AreAlike sets office.library name) where
    pub held-there : (other : ℕ) (its : RunRow) (fellow : Leg) (name : Name) → other ≢ number → IsHolder office other its fellow → Among fellow name → AreAlike sets (standing_at later fellow).sets name
    held-there other its fellow name apart there among =
        bool-cases (is_among leg.reach name)
        (λ mine.
        common other its fellow name apart there mine among
        ∙ sym (ap (option_map set_shape) (
        ap (λ (standing : Stock LibrarySet). entry_at standing.sets name) stands
        ∙ fellow-same layout office other number its row fellow leg name kept there holder apart among mine (place_of its))))
        (λ out.
        outside name out
        ∙ kept.held other its fellow name there among
        ∙ ap (λ (standing : Stock LibrarySet). option_map set_shape (entry_at standing.sets name)) (standing-is office other its fellow there.row_at there.leg_at ∙ sym stands))
      where
        stands : standing_at later fellow ≡ at fellow.job fellow.start (place_of its)
        stands = standing-is later other its fellow (row_there other apart ∙ there.row_at) there.leg_at

-- ---- a holder goes on

pub record GoesOn (layout : Layout) (office : Office) (number : ℕ) (row next : RunRow) (leg : Leg) (sets : Named TableSet) : Type 0 where
  pub same : next.number ≡ row.number
  pub deck : next.deck ≡ row.deck
  pub holds : is_holder next.state ≡ true
  pub place : IsAtPlace (moved next sets office.library office).tables next leg
  pub outside : (name : Name) → is_among leg.reach name ≡ false → option_map table_shape (entry_at sets name) ≡ option_map table_shape (entry_at office.tables.sets name)
  pub inside : (name : Name) → Among leg name → AreAlike sets (at leg.job leg.start (place_of next)).sets name
  pub extents : AreLaidOut layout sets

module _ (layout : Layout) (office : Office) (number : ℕ) (row next : RunRow) (leg : Leg) (sets : Named TableSet)
    (kept : IsAgreed layout office) (holder : IsHolder office number row leg) (goes : GoesOn layout office number row next leg sets) where
  abbrev gone : Office
  gone = moved next sets office.library office

  numbered_so : next.number ≡ number
  numbered_so = goes.same ∙ kept.numbered number row holder.row_at

  busy_so : is_in_state Queued next ≡ false
  busy_so = holder-waits next.state goes.holds

  here_now : IsHolder gone number next leg
  here_now = record { row_at = row_here layout office number row next leg sets office.library kept holder numbered_so busy_so; holds = goes.holds; leg_at = holder.leg_at }

  was : (its : RunRow) (fellow : Leg) → IsHolder gone number its fellow → (next ≡ its) × (leg ≡ fellow)
  was its fellow there = (
    row_is_next layout office number row next leg sets office.library kept holder numbered_so busy_so its there.row_at,
    leg_is layout office number row next leg sets office.library kept holder numbered_so busy_so fellow there.leg_at,
  )

  before : (other : ℕ) (its : RunRow) (fellow : Leg) → other ≢ number → IsHolder gone other its fellow → IsHolder office other its fellow
  before = of_later layout office number row next leg sets office.library kept holder numbered_so busy_so

  -- a holder of the later office, as it was before: a row with the same deck and the same leg
  former : (other : ℕ) (its : RunRow) (fellow : Leg) → IsHolder gone other its fellow → (old : RunRow) × IsHolder office other old fellow × (its.deck ≡ old.deck)
  former other its fellow there =
      number-cases other number
      (λ here.
      let so = was its fellow (subst (λ n. IsHolder gone n its fellow) here there) in
      (row, subst (λ n. IsHolder office n row fellow) (sym here) (subst (IsHolder office number row) so.1 holder), ap (λ (r : RunRow). r.deck) (sym so.0) ∙ goes.deck))
      (λ apart. (its, before other its fellow apart there, refl))

  common_so : (other : ℕ) (its : RunRow) (fellow : Leg) (name : Name) → other ≢ number → IsHolder office other its fellow → Among leg name → Among fellow name → AreAlike sets office.library name
  common_so other its fellow name apart there mine among =
      goes.inside name mine
      ∙ ap (option_map set_shape) (fellow-same layout office number other row its leg fellow name kept holder there (λ e. apart (sym e)) mine among (place_of next))

  at_number : (P : RunRow → Leg → Type 0) → P next leg → (other : ℕ) (its : RunRow) (fellow : Leg) → other ≡ number → IsHolder gone other its fellow → P its fellow
  at_number P here other its fellow e there =
      let so = was its fellow (subst (λ n. IsHolder gone n its fellow) e there) in
      subst (λ r. P r fellow) so.0 (subst (P next) so.1 here)

  uses_here : HasUses gone.tables next leg
  uses_here =
      uses-stay office.tables gone.tables (names-stay layout office number row next leg sets office.library kept holder numbered_so busy_so goes.deck) row next goes.same goes.deck leg
      (ap (λ (job : Effective). job.root) (sym goes.place.job ∙ (kept.places number row leg holder).job)) (kept.uses number row leg holder)

  -- the events stay kept
  pub kept-goes_on : IsAgreed layout gone
  kept-goes_on = record {
    extents = goes.extents;
    numbered = still-numbered layout office number row next leg sets office.library kept holder numbered_so busy_so;
    waiting = still-waiting layout office number row next leg sets office.library kept holder numbered_so busy_so;
    legs = still-legs layout office number row next leg sets office.library kept holder numbered_so busy_so;
    led = still-led layout office number row next leg sets office.library kept holder numbered_so busy_so;
    places = λ other its fellow there.
        number-cases other number
        (λ here. at_number (IsAtPlace gone.tables) goes.place other its fellow here there)
        (λ apart. place-there layout office number row next leg sets office.library kept holder numbered_so busy_so other its fellow apart (before other its fellow apart there));
    uses = λ other its fellow there.
        number-cases other number
        (λ here. at_number (HasUses gone.tables) uses_here other its fellow here there)
        (λ apart. uses-there layout office number row next leg sets office.library kept holder numbered_so busy_so goes.deck other its fellow (before other its fellow apart there));
    alone = λ one other its theirs mine fellow name here there apart given among.
        let old = former one its mine here in
        let their = former other theirs fellow there in
        kept.alone one other old.0 their.0 mine fellow name old.1 their.1 apart (ap (λ (deck : Job). is_some deck.restart) (sym old.2) ∙ given) among;
    left = λ one other its theirs mine fellow name here there apart among shared.
        let old = former one its mine here in
        let their = former other theirs fellow there in
        kept.left one other old.0 their.0 mine fellow name old.1 their.1 apart among shared;
    since = λ other its fellow name there none among leaves.
        let old = former other its fellow there in kept.since other old.0 fellow name old.1 (ap (λ (deck : Job). deck.restart) (sym old.2) ∙ none) among leaves;
    held = λ other its fellow name there among.
        number-cases other number
        (λ here.
        let so = was its fellow (subst (λ n. IsHolder gone n its fellow) here there) in
        subst (λ f. AreAlike sets (standing_at gone f).sets name) so.1
        (goes.inside name (subst (λ f. Among f name) (sym so.1) among)
        ∙ ap (λ (standing : Stock LibrarySet). option_map set_shape (entry_at standing.sets name)) (sym (standing-is gone number next leg here_now.row_at here_now.leg_at))))
        (λ apart. held-there layout office number row next leg sets office.library kept holder numbered_so busy_so goes.outside common_so other its fellow name apart (before other its fellow apart there) among);
    free = λ name free.
        goes.outside name (free number next leg here_now)
        ∙ kept.free name (λ other its fellow there.
        number-cases other number
        (λ here.
        subst (λ f. is_among f.reach name ≡ false) (some-one leg fellow (leg_of office number) holder.leg_at (ap (leg_of office) (sym here) ∙ there.leg_at)) (free number next leg here_now))
        (λ apart. free other its fellow (to_later layout office number row next leg sets office.library kept holder numbered_so busy_so other its fellow apart there)));
  }
