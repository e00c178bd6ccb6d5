-- Runs keep what they began where the row of a holder goes on, of a run that waits goes, and where a run is selected.
use Rattle.std.proofs.Common.{◌≡◌, ◌≢◌, ℕ, true, false, [], refl, ap, sym, ◌∙◌, subst, Option, Some, None}
use Rattle.std.specs.List.{list_all}
use Rattle.std.specs.Option.{option_map_or}
use Rattle.ckr_base.proofs.Options.{is_some-from, some-not-none, some-one}
use Rattle.ckr_library.specs.NameMaps.{Named}
use Rattle.ckr_meaning.specs.EffectiveJob.{Effective}
use Rattle.ckr_meaning.specs.LibrarySet.{Library}
use Rattle.ckr_volumes.specs.declared.layout.Layout.{Layout}
use Rattle.ckr_points.specs.declared.run.RunState.{RunState}
use Rattle.ckr_points.specs.declared.run.RunState.TheVariants.{Queued}
use Rattle.ckr_points.specs.Follows.{is_in_state, may_hold}
use Rattle.ckr_points.specs.Marks.{point_at}
use Rattle.ckr_points.specs.Office.{Leg, Office, leg_of}
use Rattle.ckr_points.specs.Payload.{is_orderly_dd}
use Rattle.ckr_points.specs.RuleCases.{is_ended, was_selected}
use Rattle.ckr_points.specs.Rows.{RunRow, StartPoint, TableSet, TablesModel, run_of, with_run}
use Rattle.ckr_points_invariant.specs.Invariant.{AreOrderly, IsAgreed, IsHolder, IsWaiting}
use Rattle.ckr_points_invariant.specs.StartedSteps.{AreBegunSteps, HasBegunSteps}
use Rattle.ckr_points_invariant.proofs.Decks.Events.{row-orderly}
use Rattle.ckr_points_invariant.proofs.Decks.Names.{plain-orderly}
use Rattle.ckr_points_invariant.proofs.Holders.Places.{HasNext}
use Rattle.ckr_points_invariant.proofs.Holders.Rows.{holder-ended, queued-is, run-other, run-same}
use Rattle.ckr_points_invariant.proofs.Select.Invariant.{chosen, leg, led_here, led_there, next, waits}
use Rattle.ckr_points_invariant.proofs.StartedSteps.Kin.{kin-plain, owners-plain}
use Rattle.ckr_points_invariant.proofs.StartedSteps.Offices.{IsOnlyRow, begun-only}
use Rattle.ckr_points_invariant.proofs.StartedSteps.Runs.{KeepsPoints, steps-next}

module _ (layout : Layout) (now : Office) (kept : IsAgreed layout now) where
  -- ---- a holder

  module _ (job : ℕ) (row mid next : RunRow) (leg : Leg) (base : TablesModel) (sets : Named TableSet) (library : Library) (holder : IsHolder now job row leg) (was : run_of base job ≡ Some mid) (same : next.number ≡ row.number)
      (others : (number : ℕ) → number ≢ job → run_of base number ≡ run_of now.tables number) where
    abbrev later : Office
    later = record now { tables = with_run next (record base { sets = sets }); library = library }

    its_number : row.number ≡ job
    its_number = kept.numbered job row holder.row_at

    pub row-here : run_of later.tables job ≡ Some next
    row-here = run-same (record base { sets = sets }) next mid job was (same ∙ its_number)

    pub has-next : HasNext now.tables later.tables row next
    has-next = record {
      was = ap (run_of now.tables) its_number ∙ holder.row_at;
      now = ap (run_of later.tables) its_number ∙ row-here;
      others = λ other apart. run-other (record base { sets = sets }) next other (λ e. apart (e ∙ same)) ∙ others other (λ e. apart (e ∙ sym its_number));
    }

    pub only-row : IsOnlyRow now later job
    only-row = record {
      legs = λ number apart. refl;
      others = λ number apart. run-other (record base { sets = sets }) next number (λ e. apart (e ∙ same ∙ its_number)) ∙ others number apart;
      unended = ap (λ (o : Option RunRow). option_map_or (λ row. is_ended row.state) o false) holder.row_at ∙ holder-ended row.state holder.holds;
    }

    pub begun-by : AreBegunSteps now → HasBegunSteps later.tables next leg → AreBegunSteps later
    begun-by begun its =
        begun-only layout now later job kept only-row begun
        (record {
          led = λ one e selected. is_some-from (leg_of now job) leg holder.leg_at;
          unled = λ one e none. absurd (some-not-none leg (sym holder.leg_at ∙ none));
          steps = λ one fellow e led.
              subst (λ r. HasBegunSteps later.tables r fellow) (some-one next one (run_of later.tables job) row-here e)
              (subst (HasBegunSteps later.tables next) (some-one leg fellow (leg_of now job) holder.leg_at led) its);
        })

    pub begun-with : AreBegunSteps now → KeepsPoints row next → AreBegunSteps later
    begun-with begun keeps = begun-by begun (steps-next now.tables later.tables row next leg has-next keeps (begun.runs job row leg holder.row_at holder.leg_at))

  -- the tables as they are, with its row and data sets
  pub begun-moved : (job : ℕ) (row next : RunRow) (leg : Leg) (sets : Named TableSet) (library : Library) → AreBegunSteps now → IsHolder now job row leg → KeepsPoints row next → AreBegunSteps (record now { tables = with_run next (record now.tables { sets = sets }); library = library })
  begun-moved job row next leg sets library begun holder keeps =
      begun-with job row row next leg now.tables sets library holder holder.row_at keeps.number (λ number apart. refl) begun keeps

  -- ---- a run that waits

  pub only-gone : (job : ℕ) (row : RunRow) (state : RunState) → run_of now.tables job ≡ Some row → is_in_state Queued row ≡ true → IsOnlyRow now (record now { tables = with_run (record row { state = state }) now.tables }) job
  only-gone job row state e queued = record {
    legs = λ number apart. refl;
    others = λ number apart. run-other now.tables (record row { state = state }) number (λ same. apart (same ∙ kept.numbered job row e));
    unended = ap (λ (o : Option RunRow). option_map_or (λ row. is_ended row.state) o false) e ∙ ap is_ended (queued-is row.state queued);
  }

  pub begun-gone : (job : ℕ) (row : RunRow) (state : RunState) → AreBegunSteps now → run_of now.tables job ≡ Some row → is_in_state Queued row ≡ true → AreBegunSteps (record now { tables = with_run (record row { state = state }) now.tables })
  begun-gone job row state begun e queued =
      begun-only layout now gone job kept (only-gone job row state e queued) begun
      (record {
        led = λ one there selected. begun.led job row e (ap was_selected (is one there) ∙ selected);
        unled = λ one there none. subst (λ (its : RunRow). its.points ≡ []) (is one there) (begun.unled job row e none);
        steps = λ one leg there led. absurd (some-not-none leg (sym led ∙ ap (leg_of now) (sym mine) ∙ (kept.waiting job row e queued).alone));
      })
    where
      gone : Office
      gone = record now { tables = with_run (record row { state = state }) now.tables }

      mine : row.number ≡ job
      mine = kept.numbered job row e

      is : (one : RunRow) → run_of gone.tables job ≡ Some one → record row { state = state } ≡ one
      is one there = some-one (record row { state = state }) one (run_of gone.tables job) (run-same now.tables (record row { state = state }) row job e mine) there

  -- ---- a run that is selected

  pub only-chosen : (row : RunRow) (initiator : ℕ) (row_at : run_of now.tables row.number ≡ Some row) (queued : is_in_state Queued row ≡ true) (plain : row.deck.restart ≡ None) (may : may_hold now.tables row ≡ true) → IsOnlyRow now (chosen layout now row initiator kept row_at queued plain may) row.number
  only-chosen row initiator row_at queued plain may = record {
    legs = led_there layout now row initiator kept row_at queued plain may;
    others = λ number apart. run-other now.tables (next layout now row initiator kept row_at queued plain may) number apart;
    unended = ap (λ (o : Option RunRow). option_map_or (λ row. is_ended row.state) o false) row_at ∙ ap is_ended (queued-is row.state queued);
  }

  pub begun-chosen : (row : RunRow) (initiator : ℕ) (row_at : run_of now.tables row.number ≡ Some row) (queued : is_in_state Queued row ≡ true) (plain : row.deck.restart ≡ None) (may : may_hold now.tables row ≡ true) → AreOrderly now.tables → AreBegunSteps now → AreBegunSteps (chosen layout now row initiator kept row_at queued plain may)
  begun-chosen row initiator row_at queued plain may orderly begun =
      begun-only layout now behind row.number kept (only-chosen row initiator row_at queued plain may) begun
      (record {
        led = λ one e selected. is_some-from (leg_of behind row.number) its_leg (led_here layout now row initiator kept row_at queued plain may);
        unled = λ one e none. absurd (some-not-none its_leg (sym (led_here layout now row initiator kept row_at queued plain may) ∙ none));
        steps = λ one fellow e led.
            subst (λ r. HasBegunSteps behind.tables r fellow) (some-one its one (run_of behind.tables row.number) here e)
            (subst (HasBegunSteps behind.tables its) (some-one its_leg fellow (leg_of behind row.number) (led_here layout now row initiator kept row_at queued plain may) led) mine);
      })
    where
      behind : Office
      behind = chosen layout now row initiator kept row_at queued plain may

      its : RunRow
      its = next layout now row initiator kept row_at queued plain may

      its_leg : Leg
      its_leg = leg layout now row initiator kept row_at queued plain may

      here : run_of behind.tables row.number ≡ Some its
      here = run-same now.tables its row row.number row_at refl

      waiting : IsWaiting now row
      waiting = waits layout now row initiator kept row_at queued plain may

      none : (step : ℕ) (point : StartPoint) → point_at row.points step ≡ Some point → ⊥
      none step point got = some-not-none point (sym got ∙ ap (λ points. point_at points step) (begun.unled row.number row row_at waiting.alone))

      mine : HasBegunSteps behind.tables its its_leg
      mine = record {
        job = refl;
        formed = waiting.formed;
        orderly =
            ap (λ (job : Effective). list_all (λ owned. list_all is_orderly_dd owned.step.dds) job.steps) waiting.job
            ∙ plain-orderly row.number row.deck (row-orderly now.tables row.number row orderly row_at);
        kin = kin-plain behind.tables its waiting.job here;
        owners = owners-plain behind.tables its waiting.job;
        steps = λ step point got. absurd (none step point got);
        so_far = λ step point got. absurd (none step point got);
      }
