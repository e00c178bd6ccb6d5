-- A run that is selected to continue another one reaches names that it holds: those of the steps that it executes itself, and of what was passed on as
-- made each name that its deck has; none of these goes to SYSOUT, since the earlier runs' names have no qualifier of this one.
use Rattle.std.proofs.Common.{◌≡◌, ◌≤◌, ◌==◌, ℕ, zero, suc, true, false, not, ◌&&◌, List, [], ◌∷◌, ◌++◌, map, drop, refl, ap, sym, ◌∙◌, subst, Option, Some, None}
use Rattle.std.specs.Prelude.{slice_get}
use Rattle.std.specs.List.{cons_option, filter_map, list_all}
use Rattle.std.specs.Option.{is_some, option_map_or}
use Rattle.std.proofs.lemmas.Bool.{false≢true, not-true}
use Rattle.std.proofs.lemmas.List.Folds.{list_any-append}
use Rattle.ckr_base.proofs.Bools.{and-first, and-second, or-cases}
use Rattle.ckr_base.proofs.Numbers.{equal-true, nat_le-true}
use Rattle.ckr_entry.specs.declared.point.Mark.{Mark}
use Rattle.ckr_jcl.specs.declared.deck.Dd.{Dd}
use Rattle.ckr_jcl.specs.declared.deck.Origin.{Origin}
use Rattle.ckr_jcl.specs.declared.deck.Origin.TheVariants.{Named as NamedOrigin, Sysout}
use Rattle.ckr_jcl.specs.Qualifiers.{is_kept_name}
use Rattle.ckr_library.specs.NameMaps.{Name, Named, same_name}
use Rattle.ckr_library.proofs.Named.{name-same}
use Rattle.ckr_meaning.specs.EffectiveJob.{Effective, OwnedStep, is_among, name_of, names_of, names_of_job, names_of_steps, owned_by}
use Rattle.ckr_volumes.specs.declared.layout.Layout.{Layout}
use Rattle.ckr_points.specs.Marks.{deck_names, has_passed, lost_names, mark_at, own_names, still_exists}
use Rattle.ckr_points.specs.Office.{Leg, Office, leg_of, passed_made}
use Rattle.ckr_points.specs.Payload.{is_orderly_dd}
use Rattle.ckr_points.specs.RuleCases.{is_ended}
use Rattle.ckr_points.specs.Rows.{RunRow, TableSet, run_of}
use Rattle.ckr_points.proofs.NeededNames.{spliced-from}
use Rattle.ckr_uses.proofs.RunNames.{run_name-same}
use Rattle.ckr_points_invariant.specs.JobNames.{IsKin, IsNameOf, has_ended}
use Rattle.ckr_points_invariant.specs.KeptEvents.{AreKept}
use Rattle.ckr_points_invariant.specs.StartedSteps.{HasBegunSteps}
use Rattle.ckr_points_invariant.specs.EarlierRuns.{MayContinue}
use Rattle.ckr_points_invariant.proofs.Continuations.EarlierRun.{Coming, leg_from, row_then}
use Rattle.ckr_points_invariant.proofs.Continuations.LostNames.{kept-exists}
use Rattle.ckr_points_invariant.proofs.Continuations.ReachedNames.Statements.{step-names-same}
use Rattle.ckr_points_invariant.proofs.Decks.Events.{row-orderly}
use Rattle.ckr_points_invariant.proofs.Decks.Names.{orderly-number}
use Rattle.ckr_points_invariant.proofs.Holders.DeckNames.{deck-named, run_names-long}
use Rattle.ckr_points_invariant.proofs.Holders.NamesInCommon.{InCommon, TellsApart, by_owner, by_root, in-common, written}
use Rattle.ckr_points_invariant.proofs.Holders.Rows.{leg-number, queued-is}
use Rattle.ckr_points_invariant.proofs.Library.PassedList.{made-without}
use Rattle.ckr_points_invariant.proofs.Holders.CommonNames.{origin-written}
use Rattle.ckr_points_invariant.proofs.Continuations.DataSets.{exists-marked}
use Rattle.ckr_uses.specs.SetNames.{origin_name, run_name}
use Rattle.ckr_desk_refines.specs.Holders.{held_names}
use Rattle.ckr_desk_refines.proofs.Listing.HeldNames.{later-held, named-held, step-held}

-- ---- the desk's own names

own-apart : TellsApart is_kept_name
unfolding is_kept_name
own-apart = record { temporary = λ qualifier tail. refl; sysout = λ qualifier tail. refl }

-- the DD that gives a name of a step
dd-of : (root : ℕ) (owned : OwnedStep) (dds : List Dd) (name : Name) → list_all is_orderly_dd dds ≡ true → is_among (filter_map (name_of root owned) dds) name ≡ true → (dd : Dd) × (name_of root owned dd ≡ Some name) × (is_orderly_dd dd ≡ true)
dd-of root owned [] name orderly among = absurd (false≢true among)
dd-of root owned (first ∷ dds) name orderly among =
    by (name_of root owned first) refl among (λ rest. dd-of root owned dds name (and-second (is_orderly_dd first) _ orderly) rest)
  where
    by : (given : Option Name) → name_of root owned first ≡ given → is_among (cons_option given (filter_map (name_of root owned) dds)) name ≡ true
        → (is_among (filter_map (name_of root owned) dds) name ≡ true → (dd : Dd) × (name_of root owned dd ≡ Some name) × (is_orderly_dd dd ≡ true)) → (dd : Dd) × (name_of root owned dd ≡ Some name) × (is_orderly_dd dd ≡ true)
    by None gives among later = later among
    by (Some other) gives among later =
        or-cases (same_name name other) _ among
        (λ same. (first, gives ∙ ap Some (sym (name-same name other same)), and-first (is_orderly_dd first) _ orderly))
        later

-- and its step
step-of : (root : ℕ) (steps : List OwnedStep) (name : Name) → list_all (λ owned. list_all is_orderly_dd owned.step.dds) steps ≡ true → is_among (names_of_steps root steps) name ≡ true
    → (place : ℕ) × (owned : OwnedStep) × (slice_get steps place ≡ Some owned) × (list_all is_orderly_dd owned.step.dds ≡ true) × (is_among (names_of root owned) name ≡ true)
step-of root [] name orderly among = absurd (false≢true among)
step-of root (first ∷ steps) name orderly among =
    or-cases (is_among (names_of root first) name) (is_among (names_of_steps root steps) name)
    (sym (list_any-append (same_name name) (names_of root first) (names_of_steps root steps)) ∙ among)
    (λ here. (zero, first, refl, and-first (list_all is_orderly_dd first.step.dds) _ orderly, here))
    (λ later. let its = step-of root steps name (and-second (list_all is_orderly_dd first.step.dds) _ orderly) later in (suc its.0, its.1, its.2, its.3, its.4))

-- ---- the run

module _ (layout : Layout) (now : Office) (are : AreKept layout now) (job initiator before step : ℕ) (id : Option Name) (its : MayContinue layout now.tables job initiator (suc before) step id) (earlier : Leg) (found_leg : leg_of now (suc before) ≡ Some earlier) where
  abbrev run : ℕ
  run = its.row.number

  abbrev root : ℕ
  root = its.other.job.root

  steps : HasBegunSteps now.tables its.other earlier
  steps = are.begun.runs (suc before) its.other earlier its.other_at found_leg

  pub led : leg_of now (suc before) ≡ Some (leg_from its.other earlier.start earlier.reach)
  led =
      found_leg
      ∙ ap Some (
      ap (λ number. record earlier { number = number }) (leg-number now (suc before) earlier found_leg ∙ sym (are.kept.events.numbered (suc before) its.other its.other_at))
      ∙ ap (λ job. record (leg_from its.other earlier.start earlier.reach) { job = job }) steps.job)

  -- ---- the runs before it

  -- they have ended
  kin-ended : (number : ℕ) → IsKin now.tables its.other number → has_ended now.tables number ≡ true
  kin-ended number kin =
      or-cases (number == its.other.number) (has_ended now.tables number) kin.1
      (λ itself.
      ap (has_ended now.tables) (equal-true number its.other.number itself ∙ are.kept.events.numbered (suc before) its.other its.other_at)
      ∙ ap (λ (o : Option RunRow). option_map_or (λ row. is_ended row.state) o false) its.other_at ∙ its.ended)
      (λ ended. ended)

  few : (number : ℕ) (row : RunRow) → run_of now.tables number ≡ Some row → number ≤ 9999999
  few number row at =
      subst (λ n. n ≤ 9999999) (are.kept.events.numbered number row at)
      (nat_le-true row.number 9999999 (orderly-number row.number row.deck (row-orderly now.tables number row are.kept.decks at)))

  -- it is none of them, so that none has its qualifier
  apart : (number : ℕ) → IsKin now.tables its.other number → run_name run ≡ run_name number → ⊥
  apart number kin same =
      false≢true (
      sym (ap is_ended (queued-is its.row.state its.queued))
      ∙ sym (ap (λ (o : Option RunRow). option_map_or (λ row. is_ended row.state) o false) its.row_at)
      ∙ ap (has_ended now.tables) (sym (are.kept.events.numbered job its.row its.row_at) ∙ is)
      ∙ kin-ended number kin)
    where
      is : run ≡ number
      is =
          run_name-same run number (subst (λ n. n ≤ 9999999) (sym (are.kept.events.numbered job its.row its.row_at)) (few job its.row its.row_at))
          (few number kin.0.0 kin.0.1) same

  -- so no name of theirs goes to SYSOUT in its deck
  no-sysout : (name : Name) → is_among (names_of_job its.other.job) name ≡ true → (mine : IsNameOf its.row.deck root run name) → mine.dd.origin ≡ Sysout → ⊥
  no-sysout name among mine goes =
      let theirs = step-of root its.other.job.steps name (ap (λ (job : Effective). list_all (λ (owned : OwnedStep). list_all is_orderly_dd owned.step.dds) job.steps) (sym steps.job) ∙ steps.orderly) among in
      let owner = theirs.1.owner in
      let dd = dd-of root theirs.1 theirs.1.step.dds name theirs.3 theirs.4 in
      by owner (steps.kin.owners (suc theirs.0) theirs.1 theirs.2) dd.0.origin theirs.1.step.name dd.0.name
      (in-common is_kept_name own-apart (run_name run) (run_name run) mine.step.name mine.dd.name (run_name root) (run_name owner) theirs.1.step.name dd.0.name name (run_names-long run root)
      (run_names-long run owner) Sysout dd.0.origin tt (origin-written dd.0.origin dd.0.disp dd.2)
      (ap (λ origin. origin_name origin (run_name run) (run_name run) mine.step.name mine.dd.name) (sym goes) ∙ rooted mine.dd.origin goes mine.named) dd.1)
    where
      -- which doesn't go by the root
      rooted : (origin : Origin) → origin ≡ Sysout → origin_name origin (run_name root) (run_name run) mine.step.name mine.dd.name ≡ Some name → origin_name origin (run_name run) (run_name run) mine.step.name mine.dd.name ≡ Some name
      rooted origin is gives =
          ap (λ origin. origin_name origin (run_name run) (run_name run) mine.step.name mine.dd.name) is
          ∙ ap (λ origin. origin_name origin (run_name root) (run_name run) mine.step.name mine.dd.name) (sym is) ∙ gives

      by : (owner : ℕ) → IsKin now.tables its.other owner → (origin : Origin) (step2 dd2 : Name)
          → InCommon Sysout origin (run_name run) (run_name run) mine.step.name mine.dd.name (run_name root) (run_name owner) step2 dd2 name → ⊥
      by owner kin origin step2 dd2 (written one two) = not-named one
        where
          not-named : Sysout ≡ NamedOrigin name → ⊥
          not-named e = cc
      by owner kin origin step2 dd2 (by_root same alike) = apart root steps.kin.root same
      by owner kin origin step2 dd2 (by_owner same alike) = apart owner kin same

  -- ---- what it reaches

  module _ (coming : Coming) (marks : List Mark) (covers : (name : Name) → is_some (mark_at marks name) ≡ is_among (names_of_job its.other.job) name) (sets : Named TableSet) where
    abbrev next : RunRow
    next = row_then now its.row its.other step its.point initiator coming

    own-so : (name : Name) → is_among (own_names next) name ≡ true → is_among (held_names next) name ≡ true
    own-so name among =
        or-cases (is_among (names_of root its.owned) name) _
        (sym (list_any-append (same_name name) (names_of root its.owned) (names_of_steps root (map (owned_by run its.row.deck) (drop step its.row.deck.steps))))
        ∙ ap (λ steps. is_among (names_of_steps root steps) name) (sym (spliced-from its.other.job step run its.row.deck its.owned its.found))
        ∙ among)
        (step-held its.other.job step run its.row.deck its.owned its.found name its.mine its.its (step-names-same root its.owned its.row.deck its.mine its.same))
        (later-held its.other.job step run its.row.deck its.owned its.found name)

    module _ (lost : coming.lost ≡ lost_names marks (own_names next ++ deck_names root run its.row.deck) sets coming.passed) where
      passed-so : (name : Name) → is_among (passed_made (has_passed next)) name ≡ true → is_among (held_names next) name ≡ true
      passed-so name among =
          let both : (not (is_among coming.lost name) && is_among (passed_made coming.passed) name) ≡ true = sym (made-without coming.lost coming.passed name) ∙ among in
          let exists : still_exists marks (own_names next ++ deck_names root run its.row.deck) sets name ≡ true =
          kept-exists marks (own_names next ++ deck_names root run its.row.deck) sets name coming.passed
          (ap (λ names. is_among names name) (sym lost) ∙ not-true (is_among coming.lost name) (and-first (not (is_among coming.lost name)) _ both))
          (and-second (not (is_among coming.lost name)) _ both) in
          or-cases (is_among (own_names next) name) _
          (sym (list_any-append (same_name name) (own_names next) (deck_names root run its.row.deck))
          ∙ and-first (is_among (own_names next ++ deck_names root run its.row.deck) name) _ exists)
          (own-so name)
          (λ of_deck.
          let mine : IsNameOf its.row.deck root run name = deck-named its.row.deck root run name of_deck in
          named-held its.other.job step run its.row.deck its.owned its.found name run mine
          (no-sysout name (sym (covers name) ∙ exists-marked marks (own_names next ++ deck_names root run its.row.deck) sets name exists) mine))

      pub reach-held : (name : Name) → is_among (own_names next ++ passed_made (has_passed next)) name ≡ true → is_among (held_names next) name ≡ true
      reach-held name among =
          or-cases (is_among (own_names next) name) _
          (sym (list_any-append (same_name name) (own_names next) (passed_made (has_passed next))) ∙ among)
          (own-so name) (passed-so name)
