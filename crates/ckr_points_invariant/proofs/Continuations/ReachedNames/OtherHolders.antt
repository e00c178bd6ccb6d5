-- No other holder reaches a name that a run reaches that continues another one: the two would hold against each other, and the run may hold.
use Rattle.std.proofs.Common.{◌≡◌, ◌≢◌, ℕ, zero, suc, Bool, true, false, not, ◌==◌, ◌&&◌, List, ◌++◌, ap, sym, ◌∙◌, Option, Some, None}
use Rattle.std.specs.List.{list_all}
use Rattle.std.specs.Option.{is_some, option_map_or}
use Rattle.std.proofs.lemmas.Bool.{false≢true, not-true}
use Rattle.ckr_base.proofs.Bools.{bool-cases, or-cases}
use Rattle.ckr_base.proofs.Numbers.{equal-true}
use Rattle.ckr_base.proofs.Options.{option-cases, some-not-none}
use Rattle.ckr_base.proofs.Sequences.{all-get}
use Rattle.ckr_entry.specs.declared.point.Mark.{Mark}
use Rattle.ckr_jcl.specs.declared.deck.Restart.{Restart}
use Rattle.ckr_library.specs.NameMaps.{Name, Named}
use Rattle.ckr_meaning.specs.EffectiveJob.{is_among, names_of_job}
use Rattle.ckr_meaning.specs.LibrarySet.{Library}
use Rattle.ckr_volumes.specs.declared.layout.Layout.{Layout}
use Rattle.ckr_points.specs.Marks.{deck_names, lost_names, own_names}
use Rattle.ckr_points.specs.Office.{Leg, Office, is_holder, continued_leg}
use Rattle.ckr_points.specs.RuleCases.{is_ended}
use Rattle.ckr_points.specs.Rows.{RunRow, TableSet, TablesModel, run_of}
use Rattle.ckr_uses.specs.Uses.{holds, uses_of}
use Rattle.ckr_points_invariant.specs.Invariant.{AreOrderly, IsAgreed, IsHolder}
use Rattle.ckr_points_invariant.specs.JobNames.{AreKin, HasUses, IsKin, IsNamedByDeck, has_ended}
use Rattle.ckr_points_invariant.specs.EarlierRuns.{MayContinue}
use Rattle.ckr_points_invariant.proofs.Continuations.EarlierRun.{Coming, leg_from, row_then}
use Rattle.ckr_points_invariant.proofs.Continuations.ReachedNames.DeckNames.{kin-then, reached-named}
use Rattle.ckr_points_invariant.proofs.Holders.CommonNames.{restart-holds, without-holds}
use Rattle.ckr_points_invariant.proofs.Holders.Rows.{holder-ended, queued-is}

row-all : (all : RunRow → Bool) (tables : TablesModel) (number : ℕ) (row : RunRow) → list_all all tables.runs ≡ true → run_of tables number ≡ Some row → all row ≡ true
row-all all tables zero row each at = absurd (some-not-none row (sym at))
row-all all tables (suc before) row each at = all-get all tables.runs before row each at

module _ (layout : Layout) (now : Office) (kept : IsAgreed layout now) (orderly : AreOrderly now.tables) (job initiator before step : ℕ) (id : Option Name)
    (its : MayContinue layout now.tables job initiator (suc before) step id) (start : Library) (reach : List Name) (kin : AreKin now.tables its.other) (coming : Coming) (marks : List Mark) (sets : Named TableSet)
    (lost : coming.lost ≡ lost_names marks (own_names (row_then now its.row its.other step its.point initiator coming) ++ deck_names its.other.job.root its.row.number its.row.deck) sets coming.passed) where
  abbrev next : RunRow
  next = row_then now its.row its.other step its.point initiator coming

  abbrev leg : Leg
  leg = continued_leg now next (leg_from its.other start reach)

  abbrev root : ℕ
  root = its.other.job.root

  kin_now : AreKin now.tables next
  kin_now = kin-then layout now job initiator before step id its start reach kept.numbered coming kin

  -- none of its kin is another holder: it waits itself, and the others have ended
  not-holder : (number holding : ℕ) (row2 : RunRow) (leg2 : Leg) → IsHolder now holding row2 leg2 → IsKin now.tables next number → number ≢ holding
  not-holder number holding row2 leg2 holder its_kin same =
      or-cases (number == its.row.number) (has_ended now.tables number) its_kin.1
      (λ own. free (ap is_holder (queued-is its.row.state its.queued)) (sym (ap (run_of now.tables) (equal-true number its.row.number own ∙ kept.numbered job its.row its.row_at) ∙ its.row_at)))
      (λ ended.
      false≢true (
      sym (holder-ended row2.state holder.holds)
      ∙ sym (ap (λ (o : Option RunRow). option_map_or (λ row. is_ended row.state) o false) (ap (run_of now.tables) same ∙ holder.row_at))
      ∙ ended))
    where
      free : is_holder its.row.state ≡ false → Some its.row ≡ run_of now.tables number → ⊥
      free waits at = false≢true (sym waits ∙ sym (ap (λ (o : Option RunRow). option_map_or (λ row. is_holder row.state) o false) (sym (ap (run_of now.tables) same ∙ holder.row_at) ∙ sym at)) ∙ holder.holds)

  module _ (number : ℕ) (row2 : RunRow) (leg2 : Leg) (name : Name) (holder : IsHolder now number row2 leg2) (theirs : is_among leg2.reach name ≡ true) (own : IsNamedByDeck now.tables next name) where
    uses : HasUses now.tables row2 leg2
    uses = kept.uses number row2 leg2 holder

    -- both with RESTART
    with-restart : (restart2 : Restart) → row2.deck.restart ≡ Some restart2 → holds (uses_of its.row.number its.row.deck) (uses_of row2.number row2.deck) ≡ true
    with-restart restart2 has =
        let given : is_some row2.deck.restart ≡ true = ap is_some has in
        let found : IsNamedByDeck now.tables row2 name = uses.deck given name theirs in
        restart-holds now.tables kept.numbered orderly job number its.row row2 its.row_at holder.row_at its.restart its.has root own.0 name own.1 kin_now.root.0 own.2.0 restart2 has
        row2.job.root found.0 found.1 (uses.root given).0 found.2.0

    -- the other one without
    without-restart : row2.deck.restart ≡ None → holds (uses_of its.row.number its.row.deck) (uses_of row2.number row2.deck) ≡ true
    without-restart plain =
        without-holds now.tables kept.numbered orderly job number its.row row2 its.row_at holder.row_at its.restart its.has root own.0 name own.1 kin_now.root.0 own.2.0 plain
        (ap (λ job. is_among (names_of_job job) name) (sym (uses.plain plain)) ∙ uses.reached plain name theirs)
        (not-holder root number row2 leg2 holder kin_now.root)
        (not-holder own.0 number row2 leg2 holder own.2)

    hold-both : holds (uses_of its.row.number its.row.deck) (uses_of row2.number row2.deck) ≡ true
    hold-both = option-cases row2.deck.restart without-restart with-restart

  -- the run may hold
  no-holds : (number : ℕ) (row2 : RunRow) (leg2 : Leg) → IsHolder now number row2 leg2 → holds (uses_of its.row.number its.row.deck) (uses_of row2.number row2.deck) ≡ false
  no-holds number row2 leg2 holder =
      ap (λ b. b && holds (uses_of its.row.number its.row.deck) (uses_of row2.number row2.deck)) (sym holder.holds)
      ∙ not-true _
      (row-all (λ (other : RunRow). not (is_holder other.state && holds (uses_of its.row.number its.row.deck) (uses_of other.number other.deck))) now.tables number row2 its.may holder.row_at)

  -- No other holder reaches a name that it reaches.
  pub alone : (number : ℕ) (row2 : RunRow) (leg2 : Leg) (name : Name) → IsHolder now number row2 leg2 → is_among leg.reach name ≡ true → is_among leg2.reach name ≡ false
  alone number row2 leg2 name holder mine =
      let own = reached-named layout now job initiator before step id its start reach kept.numbered coming kin marks sets lost name mine in
      bool-cases (is_among leg2.reach name)
      (λ theirs. absurd (false≢true (sym (no-holds number row2 leg2 holder) ∙ hold-both number row2 leg2 name holder theirs own)))
      (λ none. none)
