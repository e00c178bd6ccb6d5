-- The names that a run reaches that continues another one: each is a name of its own deck, with the root of its job, and with kin as the owner.
use Rattle.std.proofs.Common.{◌≡◌, ◌==◌, ℕ, suc, pred, true, false, not, ◌&&◌, List, ◌++◌, map, drop, refl, ap, sym, ◌∙◌, subst, Option, Some}
use Rattle.std.specs.Option.{option_map_or}
use Rattle.std.proofs.lemmas.Bool.{not-true, or_left, or_right}
use Rattle.std.proofs.lemmas.List.Folds.{list_any-append}
use Rattle.ckr_base.proofs.Bools.{and-first, and-second, or-cases}
use Rattle.ckr_base.proofs.Numbers.{equal-itself, equal-true}
use Rattle.ckr_base.proofs.Options.{some-not-none}
use Rattle.ckr_entry.specs.declared.point.Mark.{Mark}
use Rattle.ckr_library.specs.NameMaps.{Name, Named, same_name}
use Rattle.ckr_library.proofs.Named.{name-same}
use Rattle.ckr_meaning.specs.EffectiveJob.{is_among, names_of, names_of_steps, owned_by}
use Rattle.ckr_meaning.specs.LibrarySet.{Library}
use Rattle.ckr_volumes.specs.declared.layout.Layout.{Layout}
use Rattle.ckr_points.specs.Marks.{deck_names, has_passed, lost_names, own_names}
use Rattle.ckr_points.specs.Office.{Leg, Office, passed_made, continued_leg}
use Rattle.ckr_points.specs.RuleCases.{is_ended}
use Rattle.ckr_points.specs.Rows.{RunRow, TableSet, run_of}
use Rattle.ckr_points.proofs.NeededNames.{spliced-from}
use Rattle.ckr_points_invariant.proofs.Holders.DeckNames.{deck-named, names-owned}
use Rattle.ckr_points_invariant.proofs.Library.PassedList.{made-without}
use Rattle.ckr_points_invariant.proofs.Continuations.EarlierRun.{Coming, leg_from, row_then}
use Rattle.ckr_points_invariant.proofs.Continuations.LostNames.{kept-exists}
use Rattle.ckr_points_invariant.specs.JobNames.{AreKin, HasUses, IsKin, IsNamedByDeck, has_ended}
use Rattle.ckr_points_invariant.specs.EarlierRuns.{MayContinue}
use Rattle.ckr_points_invariant.proofs.Continuations.ReachedNames.Statements.{step-names-same}
use Rattle.ckr_points_invariant.proofs.Continuations.ReachedNames.OwnSteps.{among-at, among-rest, step-either}

-- ---- the run that is continued

module _ (layout : Layout) (now : Office) (job initiator before step : ℕ) (id : Option Name) (its : MayContinue layout now.tables job initiator (suc before) step id) (start : Library) (reach : List Name)
    (numbered : (number : ℕ) (row : RunRow) → run_of now.tables number ≡ Some row → row.number ≡ number) (coming : Coming) where
  abbrev pub next : RunRow
  next = row_then now its.row its.other step its.point initiator coming

  abbrev pub leg : Leg
  leg = continued_leg now next (leg_from its.other start reach)

  abbrev pub root : ℕ
  root = its.other.job.root

  -- ---- its kin

  -- it is its own kin
  own-kin : IsKin now.tables next its.row.number
  own-kin = ((its.row, ap (run_of now.tables) (numbered job its.row its.row_at) ∙ its.row_at, refl), or_left (its.row.number == its.row.number) _ (equal-itself its.row.number))

  -- both runs have one job name
  job-same : its.other.deck.name ≡ its.row.deck.name
  job-same = name-same its.other.deck.name its.row.deck.name its.named

  -- the other one has ended, and so have its kin
  kin-ended : (number : ℕ) → IsKin now.tables its.other number → has_ended now.tables number ≡ true
  kin-ended number its_kin =
      or-cases (number == its.other.number) (has_ended now.tables number) its_kin.1
      (λ itself.
      ap (has_ended now.tables) (equal-true number its.other.number itself ∙ numbered (suc before) its.other its.other_at)
      ∙ ap (λ (o : Option RunRow). option_map_or (λ row. is_ended row.state) o false) its.other_at ∙ its.ended)
      (λ ended. ended)

  -- these are its kin too
  of-other : (number : ℕ) → IsKin now.tables its.other number → IsKin now.tables next number
  of-other number its_kin = ((its_kin.0.0, its_kin.0.1, its_kin.0.2 ∙ job-same), or_right (number == its.row.number) (has_ended now.tables number) (kin-ended number its_kin))

  module _ (kin : AreKin now.tables its.other) where
    -- The root of its job and the owners of its steps are its kin.
    pub kin-then : AreKin now.tables next
    kin-then = record {
      root = of-other root kin.root;
      owners = λ number owned found.
          step-either its.other.job step its.row.number its.row.deck number owned found
          (λ earlier. of-other owned.owner (kin.owners number owned earlier))
          (λ mine. subst (IsKin now.tables next) (sym mine) own-kin);
    }

    -- ---- the names that it reaches

    deck-so : (name : Name) → is_among (deck_names root its.row.number its.row.deck) name ≡ true → IsNamedByDeck now.tables next name
    deck-so name among = (its.row.number, deck-named its.row.deck root its.row.number name among, own-kin)

    -- the step at which it continues the other one has the statements of the deck's
    step-so : (name : Name) → is_among (names_of root its.owned) name ≡ true → IsNamedByDeck now.tables next name
    step-so name among = (
      its.owned.owner,
      deck-named its.row.deck root its.owned.owner name
          (among-at (λ step. names_of root (owned_by its.owned.owner its.row.deck step)) its.row.deck.steps (pred step) its.mine name its.its
          (ap (λ names. is_among names name) (sym (step-names-same root its.owned its.row.deck its.mine its.same)) ∙ among)),
      of-other its.owned.owner (kin.owners step its.owned its.found),
    )

    later-so : (name : Name) → is_among (names_of_steps root (map (owned_by its.row.number its.row.deck) (drop step its.row.deck.steps))) name ≡ true → IsNamedByDeck now.tables next name
    later-so name among =
        deck-so name
        (among-rest (λ step. names_of root (owned_by its.row.number its.row.deck step)) step its.row.deck.steps name
        (ap (λ names. is_among names name) (sym (names-owned root its.row.number its.row.deck (drop step its.row.deck.steps))) ∙ among))

    pub own-so : (name : Name) → is_among (own_names next) name ≡ true → IsNamedByDeck now.tables next name
    own-so name among =
        or-cases (is_among (names_of root its.owned) name) _
        (sym (list_any-append (same_name name) (names_of root its.owned) (names_of_steps root (map (owned_by its.row.number its.row.deck) (drop step its.row.deck.steps))))
        ∙ ap (λ steps. is_among (names_of_steps root steps) name) (sym (spliced-from its.other.job step its.row.number its.row.deck its.owned its.found))
        ∙ among)
        (step-so name) (later-so name)

    module _ (marks : List Mark) (sets : Named TableSet) (lost : coming.lost ≡ lost_names marks (own_names next ++ deck_names next.job.root next.number next.deck) sets coming.passed) where
      passed-so : (name : Name) → is_among (passed_made (has_passed next)) name ≡ true → IsNamedByDeck now.tables next name
      passed-so name among =
          let both : (not (is_among coming.lost name) && is_among (passed_made coming.passed) name) ≡ true = sym (made-without coming.lost coming.passed name) ∙ among in
          or-cases (is_among (own_names next) name) _
          (sym (list_any-append (same_name name) (own_names next) (deck_names root its.row.number its.row.deck))
          ∙ and-first (is_among (own_names next ++ deck_names root its.row.number its.row.deck) name) _
          (kept-exists marks (own_names next ++ deck_names root its.row.number its.row.deck) sets name coming.passed
          (ap (λ names. is_among names name) (sym lost) ∙ not-true (is_among coming.lost name) (and-first (not (is_among coming.lost name)) _ both))
          (and-second (not (is_among coming.lost name)) _ both)))
          (own-so name) (deck-so name)

      -- Each name that it reaches is one of its deck.
      pub reached-named : (name : Name) → is_among leg.reach name ≡ true → IsNamedByDeck now.tables next name
      reached-named name among =
          or-cases (is_among (own_names next) name) _
          (sym (list_any-append (same_name name) (own_names next) (passed_made (has_passed next))) ∙ among)
          (own-so name) (passed-so name)

      -- so it reaches the names of its deck
      pub reach-then : HasUses now.tables next leg
      reach-then = record {
        plain = λ none. absurd (some-not-none its.restart (sym its.has ∙ none));
        reached = λ none. absurd (some-not-none its.restart (sym its.has ∙ none));
        root = λ given. kin-then.root;
        deck = λ given. reached-named;
      }
