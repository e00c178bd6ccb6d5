-- The events stay kept where a run without RESTART is selected.
use Rattle.std.proofs.Common.{◌≡◌, ◌≢◌, ℕ, zero, suc, pred, Bool, true, false, not, ◌&&◌, ◌||◌, List, [], ◌∷◌, drop, map, refl, ap, sym, ◌∙◌, subst, Option, Some, None, arith}
use Rattle.std.specs.Prelude.{◌==◌, slice_get}
use Rattle.std.specs.List.{list_all, list_any}
use Rattle.std.specs.Option.{option_map, option_map_or, is_some}
use Rattle.std.proofs.lemmas.Bool.{false≢true, or_left, or_right}
use Rattle.std.proofs.lemmas.List.Folds.{list_any-append}
use Rattle.std.proofs.lemmas.Option.{same_Some}
use Rattle.ckr_base.proofs.Bools.{bool-cases, or-cases, or-not-first}
use Rattle.ckr_base.proofs.Numbers.{equal-apart, equal-itself, equal-true, number-cases}
use Rattle.ckr_base.proofs.Options.{is_some-from, is_some-true, option-cases, some-not-none, some-one}
use Rattle.ckr_base.proofs.Sequences.{all-get, each-implies}
use Rattle.ckr_uses.specs.Uses.{holds, is_exclusive_of, uses_of}
use Rattle.ckr_jcl.specs.declared.deck.Job.{Job}
use Rattle.ckr_jcl.specs.declared.deck.Step.{Step}
use Rattle.ckr_library.specs.NameMaps.{Name, entry_at, same_name}
use Rattle.ckr_meaning.specs.LibrarySet.{Library, LibrarySet}
use Rattle.ckr_meaning.specs.Dispositions.{Stock}
use Rattle.ckr_meaning.specs.EffectiveJob.{Effective, OwnedStep, is_among, names_of, names_of_job, names_of_steps, owned_by, plain_job, step_at}
use Rattle.ckr_meaning.specs.declared.place.Place.TheVariants.{Before}
use Rattle.ckr_meaning.specs.JobRun.{Walk, walk_before, walk_from}
use Rattle.ckr_volumes.specs.declared.layout.Layout.{Layout}
use Rattle.ckr_points.specs.declared.run.RunState.TheVariants.{Queued, On}
use Rattle.ckr_points.specs.Follows.{is_in_state, may_hold}
use Rattle.ckr_points.specs.RuleCases.{is_ended}
use Rattle.ckr_points_invariant.specs.Invariant.{AreAlike, AreOrderly, IsAtPlace, IsHolder, IsAgreed, IsKnownLeg, IsWaiting, Leaves, set_shape}
use Rattle.ckr_points.specs.Marks.{own_names}
use Rattle.ckr_points.specs.Office.{Leg, Office, holder_of, is_holder, leg_of, passed_made, plain_leg, standing_at, with_leg}
use Rattle.ckr_points.specs.Restart.{place_of}
use Rattle.ckr_points.specs.Rows.{RunRow, TablesModel, run_of, with_run}
use Rattle.ckr_points_invariant.proofs.Holders.CommonNames.{holds-turned, without-holds}
use Rattle.ckr_points_invariant.proofs.Holders.JobNames.{one-row-keeps, uses-stay}
use Rattle.ckr_points_invariant.proofs.Holders.Rows.{PointsStay, place-stays, queued-is, run-other, run-same}
use Rattle.ckr_points_invariant.proofs.Holders.SharedSets.{at-left}
use Rattle.ckr_points_invariant.proofs.Holders.Moves.{Among, standing-is}
use Rattle.ckr_points_invariant.proofs.Select.Holders.{all_legs, free-of, holder-of, leg_here, leg_there}
use Rattle.ckr_points_invariant.proofs.Holders.Uses.{holder-leaves, holder-uses, names-used, none-exclusive, shared-left}
use Rattle.ckr_points_invariant.proofs.Steps.Walks.{at-before}
use Rattle.ckr_points_invariant.specs.JobNames.{HasUses, IsKin, KeepsJobNames, has_ended, keeps_points}
use Rattle.ckr_points_invariant.proofs.Continuations.ReachedNames.OwnSteps.{owner-is}

-- a step's names are the job's
among-get : (root place : ℕ) (steps : List OwnedStep) (owned : OwnedStep) (name : Name) → slice_get steps place ≡ Some owned → is_among (names_of root owned) name ≡ true → is_among (names_of_steps root steps) name ≡ true
among-get root place [] owned name e among = absurd (some-not-none owned (sym e))
among-get root zero (first ∷ rest) owned name e among =
    list_any-append (same_name name) (names_of root first) (names_of_steps root rest)
    ∙ or_left (is_among (names_of root first) name) _ (ap (λ step. is_among (names_of root step) name) (same_Some first owned e) ∙ among)
among-get root (suc place) (first ∷ rest) owned name e among =
    list_any-append (same_name name) (names_of root first) (names_of_steps root rest)
    ∙ or_right (is_among (names_of root first) name) _ (among-get root place rest owned name e among)

pub among-step : (job : Effective) (number : ℕ) (owned : OwnedStep) (name : Name) → step_at job number ≡ Some owned → is_among (names_of job.root owned) name ≡ true → is_among (names_of_job job) name ≡ true
among-step job zero owned name e among = absurd (some-not-none owned (sym e))
among-step job (suc before) owned name e among = among-get job.root before job.steps owned name e among

pub owns_step : (run : ℕ) (deck : Job) (number : ℕ) (owned : OwnedStep) → step_at (plain_job run deck) number ≡ Some owned → owned.owner ≡ run
owns_step run deck zero owned e = absurd (some-not-none owned (sym e))
owns_step run deck (suc before) owned e = owner-is run deck deck.steps before owned e

owns_all : (tables : TablesModel) (run : ℕ) (deck : Job) (steps : List Step) → list_all (λ owned. keeps_points tables run owned.owner) (map (owned_by run deck) steps) ≡ true
owns_all tables run deck [] = refl
owns_all tables run deck (first ∷ rest) = ap (λ b. (b || option_map_or (λ row. is_ended row.state) (run_of tables run) false) && list_all (λ owned. keeps_points tables run owned.owner) (map (owned_by run deck) rest)) (equal-itself run) ∙ owns_all tables run deck rest

first_walk : (job : Effective) (library : Library) → walk_before job library 1 ≡ walk_from library
unfolding walk_before
first_walk job library = refl

not_held : (holder holds : Bool) → not (holder && holds) ≡ true → holder ≡ true → holds ≡ false
not_held true true e is = absurd (false≢true e)
not_held true false e is = refl
not_held false holds e is = absurd (false≢true is)

module _ (layout : Layout) (office : Office) (row : RunRow) (initiator : ℕ) (kept : IsAgreed layout office) (row_at : run_of office.tables row.number ≡ Some row)
    (queued : is_in_state Queued row ≡ true) (plain : row.deck.restart ≡ None) (may : may_hold office.tables row ≡ true) where
  abbrev pub next : RunRow
  next = record row { state = On; initiator = Some initiator; place = Some (Before 1) }

  abbrev pub leg : Leg
  leg = plain_leg office next

  -- the office with the run selected
  abbrev pub chosen : Office
  chosen = record office { tables = with_run next office.tables; legs = with_leg leg office.legs }

  pub waits : IsWaiting office row
  waits = kept.waiting row.number row row_at queued

  row_here : run_of chosen.tables row.number ≡ Some next
  row_here = run-same office.tables next row row.number row_at refl

  row_there : (other : ℕ) → other ≢ row.number → run_of chosen.tables other ≡ run_of office.tables other
  row_there other apart = run-other office.tables next other apart

  pub led_here : leg_of chosen row.number ≡ Some leg
  led_here = leg_here leg office.legs waits.alone

  pub led_there : (other : ℕ) → other ≢ row.number → leg_of chosen other ≡ leg_of office other
  led_there other apart = leg_there leg other office.legs (equal-apart row.number other (λ e. apart (sym e)))

  here_now : IsHolder chosen row.number next leg
  here_now = record { row_at = row_here; holds = refl; leg_at = led_here }

  was : (its : RunRow) (fellow : Leg) → IsHolder chosen row.number its fellow → (next ≡ its) × (leg ≡ fellow)
  was its fellow there = (some-one next its (run_of chosen.tables row.number) row_here there.row_at, some-one leg fellow (leg_of chosen row.number) led_here there.leg_at)

  other_one : (other : ℕ) (its : RunRow) (fellow : Leg) → IsHolder office other its fellow → other ≢ row.number
  other_one other its fellow there here = some-not-none fellow (sym there.leg_at ∙ ap (leg_of office) here ∙ waits.alone)

  before : (other : ℕ) (its : RunRow) (fellow : Leg) → other ≢ row.number → IsHolder chosen other its fellow → IsHolder office other its fellow
  before other its fellow apart there = record { row_at = sym (row_there other apart) ∙ there.row_at; holds = there.holds; leg_at = sym (led_there other apart) ∙ there.leg_at }

  after : (other : ℕ) (its : RunRow) (fellow : Leg) → IsHolder office other its fellow → IsHolder chosen other its fellow
  after other its fellow there =
      let apart = other_one other its fellow there in
      record { row_at = row_there other apart ∙ there.row_at; holds = there.holds; leg_at = led_there other apart ∙ there.leg_at }

  -- ---- places

  stay : (other : ℕ) → other ≢ row.number → PointsStay office.tables chosen.tables other
  stay other apart owner keeps =
      number-cases owner row.number
      (λ here.
      number-cases owner other
      (λ its. absurd (apart (sym its ∙ here)))
      (λ its.
      absurd (false≢true (
      sym (ap (λ n. option_map_or (λ row. is_ended row.state) (run_of office.tables n) false) here
      ∙ ap (λ (o : Option RunRow). option_map_or (λ row. is_ended row.state) o false) row_at
      ∙ ap is_ended (queued-is row.state queued))
      ∙ or-not-first (owner == other) _ keeps (λ e. its (equal-true owner other e))))))
      (λ there. row_there owner there)

  pub owns : (number : ℕ) (owned : OwnedStep) → step_at row.job number ≡ Some owned → owned.owner ≡ row.number
  owns number owned found = owns_step row.number row.deck number owned (ap (λ job. step_at job number) (sym waits.job) ∙ found)

  own : (name : Name) → is_among (own_names next) name ≡ is_among (names_of_job row.job) name
  own name = ap (λ step. is_among (names_of_steps row.job.root (drop (pred step) row.job.steps)) name) waits.own

  pub place-chosen : IsAtPlace chosen.tables next leg
  place-chosen = record {
    job = refl;
    begun = omega arith;
    past = let own_from : row.earlier_step ≡ 0 = waits.own in omega (arith, own_from);
    formed = waits.formed;
    goes_on = refl;
    rcs = waits.rcs ∙ ap (λ (walk : Walk). walk.rcs) (sym (first_walk row.job office.library));
    passed = waits.passed ∙ ap (λ (walk : Walk). walk.standing.passed) (sym (first_walk row.job office.library));
    earlier = λ name. ap (λ (walk : Walk). is_among walk.earlier name) (sym (first_walk row.job office.library));
    owners = subst (λ (job : Effective). list_all (λ owned. keeps_points chosen.tables row.number owned.owner) job.steps ≡ true) (sym waits.job) (owns_all chosen.tables row.number row.deck row.deck.steps);
    ahead = λ number owned name from found among.
        let mine : is_among (names_of_job row.job) name ≡ true = among-step row.job number owned name found among in (mine, own name ∙ mine);
    own = λ name mine. sym (own name) ∙ mine;
    carried = λ name among other. absurd (false≢true (sym other ∙ own name ∙ among));
    later = λ number owned from found. owns number owned found;
    lent = λ owned name found apart. absurd (apart (owns 1 owned found));
    unreached = λ name gone. absurd (false≢true (sym (ap (λ lost. is_among lost name) waits.lost) ∙ gone));
    none_lost = λ plain. waits.lost;
    entered = λ name out stays. ap (λ passed. is_among (passed_made passed) name) waits.passed;
    waits = λ e. absurd (false≢true (sym e));
    within = tt;
  }

  -- ---- names

  names_stay : KeepsJobNames office.tables chosen.tables
  names_stay = one-row-keeps office.tables chosen.tables row.number row next row_at row_here refl (ap is_ended (queued-is row.state queued)) row_there

  uses_here : HasUses chosen.tables next leg
  uses_here = record {
    plain = λ none. waits.job;
    reached = λ none name among. among;
    root = λ given. absurd (false≢true (sym (ap is_some plain) ∙ given));
    deck = λ given. absurd (false≢true (sym (ap is_some plain) ∙ given));
  }

  -- ---- names in common

  free_of_each_other : (other : ℕ) (its : RunRow) (fellow : Leg) → IsHolder office other its fellow → holds (uses_of row.number row.deck) (uses_of its.number its.deck) ≡ false
  free_of_each_other zero its fellow there = absurd (some-not-none its (sym there.row_at))
  free_of_each_other (suc place) its fellow there =
      not_held (is_holder its.state) _
      (all-get (λ (one : RunRow). not (is_holder one.state && holds (uses_of row.number row.deck) (uses_of one.number one.deck))) office.tables.runs place its may there.row_at) there.holds

  -- no kin of another holder is the run, which waited
  not_kin : (other : ℕ) (its : RunRow) (fellow : Leg) (number : ℕ) → IsHolder office other its fellow → IsKin office.tables its number → number ≢ row.number
  not_kin other its fellow number there kin here =
      or-cases (number == its.number) (has_ended office.tables number) kin.1
      (λ same. other_one other its fellow there (sym (equal-true number its.number same ∙ kept.numbered other its there.row_at) ∙ here))
      (λ ended. false≢true (sym (ap (has_ended office.tables) here ∙ ap (λ (o : Option RunRow). option_map_or (λ row. is_ended row.state) o false) row_at ∙ ap is_ended (queued-is row.state queued)) ∙ ended))

  module _ (orderly : AreOrderly office.tables) where
    -- another holder with RESTART reaches none of its names: the two would hold against each other
    unreached : (other : ℕ) (its : RunRow) (fellow : Leg) (name : Name) → IsHolder office other its fellow → is_some its.deck.restart ≡ true → Among fellow name → is_among leg.reach name ≡ false
    unreached other its fellow name there given among =
        bool-cases (is_among leg.reach name)
        (λ mine.
        let uses : HasUses office.tables its fellow = kept.uses other its fellow there in
        let named = uses.deck given name among in
        is_some-true its.deck.restart given
        (λ restart has.
        absurd (false≢true (
        sym (free_of_each_other other its fellow there)
        ∙ holds-turned (uses_of its.number its.deck) (uses_of row.number row.deck)
        (without-holds office.tables kept.numbered orderly other row.number its row there.row_at row_at restart has its.job.root named.0 name named.1 (uses.root given).0 named.2.0 plain
        (ap (λ job. is_among (names_of_job job) name) (sym waits.job) ∙ mine)
        (not_kin other its fellow its.job.root there (uses.root given))
        (not_kin other its fellow named.0 there named.2))))))
        (λ out. out)

    -- so one that has a name in common is without RESTART too
    plain_fellow : (other : ℕ) (its : RunRow) (fellow : Leg) (name : Name) → IsHolder office other its fellow → Among leg name → Among fellow name → its.deck.restart ≡ None
    plain_fellow other its fellow name there mine among =
        option-cases its.deck.restart (λ none. none)
        (λ restart has. absurd (false≢true (sym (unreached other its fellow name there (ap is_some has) among) ∙ mine)))

    not_exclusive : (other : ℕ) (its : RunRow) (fellow : Leg) (name : Name) → IsHolder office other its fellow → Among leg name → Among fellow name → (list_any (is_exclusive_of name) (uses_of row.number row.deck) ≡ false) × (list_any (is_exclusive_of name) (uses_of its.number its.deck) ≡ false)
    not_exclusive other its fellow name there mine among =
        none-exclusive (uses_of row.number row.deck) (uses_of its.number its.deck) name (free_of_each_other other its fellow there)
        (names-used row.number row.deck name plain (ap (λ job. is_among (names_of_job job) name) (sym waits.job) ∙ mine))
        (holder-uses office.tables its fellow name (kept.uses other its fellow there) (plain_fellow other its fellow name there mine among) among)

    fellow_leaves : (other : ℕ) (its : RunRow) (fellow : Leg) (name : Name) → IsHolder office other its fellow → Among leg name → Among fellow name → Leaves fellow.job name
    fellow_leaves other its fellow name there mine among =
        holder-leaves office.tables its fellow name (kept.uses other its fellow there) (plain_fellow other its fellow name there mine among) (not_exclusive other its fellow name there mine among).1

    it_leaves : (other : ℕ) (its : RunRow) (fellow : Leg) (name : Name) → IsHolder office other its fellow → Among leg name → Among fellow name → Leaves leg.job name
    it_leaves other its fellow name there mine among =
        subst (λ job. Leaves job name) (sym waits.job) (shared-left row.number row.deck name plain (not_exclusive other its fellow name there mine among).0)

    -- a name of the run is as the ended jobs left it
    alike_now : (name : Name) → Among leg name → AreAlike office.tables.sets office.library name
    alike_now name mine =
        option-cases (holder_of office name)
        (λ none. kept.free name (free-of layout office name kept none))
        (λ fellow found.
        let its = holder-of layout office name fellow kept found in
        let there : IsHolder office fellow.number its.0 fellow = its.1.holder in
        let leaves : Leaves fellow.job name = fellow_leaves fellow.number its.0 fellow name there mine its.1.among in
        kept.held fellow.number its.0 fellow name there its.1.among
        ∙ ap (option_map set_shape) (
        ap (λ (standing : Stock LibrarySet). entry_at standing.sets name) (standing-is office fellow.number its.0 fellow there.row_at there.leg_at)
        ∙ at-left name fellow.job fellow.start (kept.places fellow.number its.0 fellow there).formed leaves (place_of its.0)
        ∙ kept.since fellow.number its.0 fellow name there (plain_fellow fellow.number its.0 fellow name there mine its.1.among) its.1.among leaves))

    pub kept-chosen : IsAgreed layout chosen
    kept-chosen = record {
      extents = kept.extents;
      numbered = λ other its e.
          number-cases other row.number
          (λ here. ap (λ (r : RunRow). r.number) (sym (some-one next its (run_of chosen.tables row.number) row_here (ap (run_of chosen.tables) (sym here) ∙ e))) ∙ sym here)
          (λ apart. kept.numbered other its (sym (row_there other apart) ∙ e));
      waiting = λ other its e queued.
          number-cases other row.number
          (λ here. absurd (false≢true (ap (is_in_state Queued) (some-one next its (run_of chosen.tables row.number) row_here (ap (run_of chosen.tables) (sym here) ∙ e)) ∙ queued)))
          (λ apart.
          let waiting : IsWaiting office its = kept.waiting other its (sym (row_there other apart) ∙ e) queued in
          record {
            alone = led_there its.number (λ mine. apart (sym (kept.numbered other its (sym (row_there other apart) ∙ e)) ∙ mine)) ∙ waiting.alone;
            job = waiting.job;
            formed = waiting.formed;
            earlier = waiting.earlier;
            own = waiting.own;
            rcs = waiting.rcs;
            passed = waiting.passed;
            lost = waiting.lost;
          });
      legs =
          all_legs (IsKnownLeg chosen) leg office.legs (record { found = led_here; listed = is_some-from (run_of chosen.tables row.number) next row_here })
          (each-implies (IsKnownLeg office) (IsKnownLeg chosen) office.legs
          (λ one is.
          let apart : one.number ≢ row.number = λ here. some-not-none one (sym is.found ∙ ap (leg_of office) here ∙ waits.alone) in
          record { found = led_there one.number apart ∙ is.found; listed = ap is_some (row_there one.number apart) ∙ is.listed }) kept.legs);
      led = λ other its e holds.
          number-cases other row.number
          (λ here. is_some-from (leg_of chosen other) leg (ap (leg_of chosen) here ∙ led_here))
          (λ apart. ap is_some (led_there other apart) ∙ kept.led other its (sym (row_there other apart) ∙ e) holds);
      places = λ other its fellow there.
          number-cases other row.number
          (λ here.
          let so = was its fellow (subst (λ n. IsHolder chosen n its fellow) here there) in
          subst (λ r. IsAtPlace chosen.tables r fellow) so.0 (subst (IsAtPlace chosen.tables next) so.1 place-chosen))
          (λ apart.
          let old : IsHolder office other its fellow = before other its fellow apart there in
          place-stays office.tables chosen.tables its (subst (PointsStay office.tables chosen.tables) (sym (kept.numbered other its old.row_at)) (stay other apart)) fellow (kept.places other its fellow old));
      uses = λ other its fellow there.
          number-cases other row.number
          (λ here.
          let so = was its fellow (subst (λ n. IsHolder chosen n its fellow) here there) in
          subst (λ r. HasUses chosen.tables r fellow) so.0 (subst (HasUses chosen.tables next) so.1 uses_here))
          (λ apart. uses-stay office.tables chosen.tables names_stay its its refl refl fellow refl (kept.uses other its fellow (before other its fellow apart there)));
      alone = λ one other its theirs mine fellow name here there different given among.
          number-cases one row.number
          (λ first. absurd (false≢true (sym (ap (λ (r : RunRow). is_some r.deck.restart) (sym (was its mine (subst (λ n. IsHolder chosen n its mine) first here)).0) ∙ ap is_some plain) ∙ given)))
          (λ first.
          number-cases other row.number
          (λ second.
          let so = was theirs fellow (subst (λ n. IsHolder chosen n theirs fellow) second there) in
          subst (λ l. is_among l.reach name ≡ false) so.1 (unreached one its mine name (before one its mine first here) given among))
          (λ second. kept.alone one other its theirs mine fellow name (before one its mine first here) (before other theirs fellow second there) different given among));
      left = λ one other its theirs mine fellow name here there apart among shared.
          number-cases one row.number
          (λ first.
          let so = was its mine (subst (λ n. IsHolder chosen n its mine) first here) in
          let second : other ≢ row.number = λ e. apart (first ∙ sym e) in
          subst (λ l. Leaves l.job name) so.1 (it_leaves other theirs fellow name (before other theirs fellow second there) (subst (λ l. Among l name) (sym so.1) among) shared))
          (λ first.
          number-cases other row.number
          (λ second.
          let so = was theirs fellow (subst (λ n. IsHolder chosen n theirs fellow) second there) in
          fellow_leaves one its mine name (before one its mine first here) (subst (λ l. Among l name) (sym so.1) shared) among)
          (λ second. kept.left one other its theirs mine fellow name (before one its mine first here) (before other theirs fellow second there) apart among shared));
      since = λ other its fellow name there none among leaves.
          number-cases other row.number
          (λ here.
          let so = was its fellow (subst (λ n. IsHolder chosen n its fellow) here there) in
          ap (λ (l : Leg). entry_at l.start name) (sym so.1))
          (λ apart. kept.since other its fellow name (before other its fellow apart there) none among leaves);
      held = λ other its fellow name there among.
          number-cases other row.number
          (λ here.
          let so = was its fellow (subst (λ n. IsHolder chosen n its fellow) here there) in
          subst (λ f. AreAlike office.tables.sets (standing_at chosen f).sets name) so.1
          (alike_now name (subst (λ f. Among f name) (sym so.1) among)
          ∙ ap (λ (standing : Stock LibrarySet). option_map set_shape (entry_at standing.sets name))
          (sym (standing-is chosen row.number next leg row_here led_here ∙ at-before row.job office.library 1 ∙ ap (λ (walk : Walk). walk.standing) (first_walk row.job office.library)))))
          (λ apart.
          let old : IsHolder office other its fellow = before other its fellow apart there in
          kept.held other its fellow name old among
          ∙ ap (λ (standing : Stock LibrarySet). option_map set_shape (entry_at standing.sets name)) (standing-is office other its fellow old.row_at old.leg_at ∙ sym (standing-is chosen other its fellow there.row_at there.leg_at)));
      free = λ name free. kept.free name (λ other its fellow there. free other its fellow (after other its fellow there));
    }
