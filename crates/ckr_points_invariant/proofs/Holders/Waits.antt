-- The events stay kept where the row of a run changes that holds nothing, before it and behind it.
use Rattle.std.proofs.Common.{◌≡◌, ◌≢◌, ℕ, true, false, List, refl, ap, sym, ◌∙◌, subst, Some, None}
use Rattle.std.specs.Prelude.{◌==◌}
use Rattle.std.specs.Option.{option_map, option_map_or, is_some}
use Rattle.std.proofs.lemmas.Bool.{false≢true}
use Rattle.ckr_base.proofs.Bools.{or-not-first}
use Rattle.ckr_base.proofs.Numbers.{equal-true, number-cases}
use Rattle.ckr_base.proofs.Options.{is_some-from, some-not-none, some-one}
use Rattle.ckr_base.proofs.Sequences.{each-implies}
use Rattle.ckr_jcl.specs.declared.deck.Job.{Job}
use Rattle.ckr_library.specs.NameMaps.{entry_at}
use Rattle.ckr_meaning.specs.Dispositions.{Stock}
use Rattle.ckr_meaning.specs.LibrarySet.{LibrarySet}
use Rattle.ckr_volumes.specs.declared.layout.Layout.{Layout}
use Rattle.ckr_points.specs.declared.run.RunState.TheVariants.{Queued}
use Rattle.ckr_points.specs.Follows.{is_in_state}
use Rattle.ckr_points.specs.RuleCases.{is_ended}
use Rattle.ckr_points_invariant.specs.Invariant.{IsHolder, IsAgreed, IsKnownLeg, IsWaiting, set_shape}
use Rattle.ckr_points_invariant.specs.JobNames.{KeepsJobNames}
use Rattle.ckr_points.specs.Office.{Leg, Office, is_holder, leg_of}
use Rattle.ckr_points.specs.Rows.{RunRow, run_of}
use Rattle.ckr_points_invariant.proofs.Holders.JobNames.{others-keep, uses-stay}
use Rattle.ckr_points_invariant.proofs.Holders.Rows.{PointsStay, place-stays}
use Rattle.ckr_points_invariant.proofs.Holders.Moves.{standing-is}

-- the runs of the tables with another row of this number, which holds nothing
pub record WaitsOn (office : Office) (number : ℕ) (next : RunRow) (runs : List RunRow) : Type 0 where
  pub here : run_of (record { sets = office.tables.sets; runs = runs }) number ≡ Some next
  pub there : (other : ℕ) → other ≢ number → run_of (record { sets = office.tables.sets; runs = runs }) other ≡ run_of office.tables other
  pub same : next.number ≡ number
  pub deck : (row : RunRow) → run_of office.tables number ≡ Some row → next.deck ≡ row.deck
  pub over : is_holder next.state ≡ false
  pub before : option_map_or (λ row. is_ended row.state) (run_of office.tables number) false ≡ false
  pub alone : leg_of office number ≡ None
  pub waiting : is_in_state Queued next ≡ true → IsWaiting office next

module _ (layout : Layout) (office : Office) (number : ℕ) (next : RunRow) (runs : List RunRow) (kept : IsAgreed layout office) (waits : WaitsOn office number next runs) where
  abbrev later : Office
  later = record office { tables = record { sets = office.tables.sets; runs = runs } }

  other_one : (other : ℕ) (its : RunRow) (fellow : Leg) → leg_of office other ≡ Some fellow → other ≢ number
  other_one other its fellow led here = some-not-none fellow (sym led ∙ ap (leg_of office) here ∙ waits.alone)

  to_later : (other : ℕ) (its : RunRow) (fellow : Leg) → IsHolder office other its fellow → IsHolder later other its fellow
  to_later other its fellow there = record { row_at = waits.there other (other_one other its fellow there.leg_at) ∙ there.row_at; holds = there.holds; leg_at = there.leg_at }

  of_later : (other : ℕ) (its : RunRow) (fellow : Leg) → IsHolder later other its fellow → IsHolder office other its fellow
  of_later other its fellow there = record { row_at = sym (waits.there other (other_one other its fellow there.leg_at)) ∙ there.row_at; holds = there.holds; leg_at = there.leg_at }

  stay : (other : ℕ) → other ≢ number → PointsStay office.tables later.tables other
  stay other apart owner keeps =
      number-cases owner number
      (λ here.
      number-cases owner other
      (λ its. absurd (apart (sym its ∙ here)))
      (λ its. absurd (false≢true (sym (ap (λ n. option_map_or (λ row. is_ended row.state) (run_of office.tables n) false) here ∙ waits.before) ∙ or-not-first (owner == other) _ keeps (λ e. its (equal-true owner other e))))))
      (λ there. waits.there owner there)

  -- a run has the job name that it had
  names_stay : KeepsJobNames office.tables later.tables
  names_stay =
      others-keep office.tables later.tables number
      (λ name has. (next, waits.here, ap (λ (deck : Job). deck.name) (waits.deck has.0 has.1) ∙ has.2))
      waits.before waits.there

  pub kept-waits : IsAgreed layout later
  kept-waits = record {
    extents = kept.extents;
    numbered = λ other its e.
        number-cases other number
        (λ here. ap (λ (r : RunRow). r.number) (sym (some-one next its (run_of later.tables number) waits.here (ap (run_of later.tables) (sym here) ∙ e))) ∙ waits.same ∙ sym here)
        (λ apart. kept.numbered other its (sym (waits.there other apart) ∙ e));
    waiting = λ other its e queued.
        number-cases other number
        (λ here.
        let so : next ≡ its = some-one next its (run_of later.tables number) waits.here (ap (run_of later.tables) (sym here) ∙ e) in
        let waiting : IsWaiting office its = subst (IsWaiting office) so (waits.waiting (ap (is_in_state Queued) so ∙ queued)) in
        record { alone = waiting.alone; job = waiting.job; formed = waiting.formed; earlier = waiting.earlier; own = waiting.own; rcs = waiting.rcs; passed = waiting.passed; lost = waiting.lost })
        (λ apart.
        let waiting : IsWaiting office its = kept.waiting other its (sym (waits.there other apart) ∙ e) queued in
        record { alone = waiting.alone; job = waiting.job; formed = waiting.formed; earlier = waiting.earlier; own = waiting.own; rcs = waiting.rcs; passed = waiting.passed; lost = waiting.lost });
    legs =
        each-implies (IsKnownLeg office) (IsKnownLeg later) office.legs
        (λ one is. record {
          found = is.found;
          listed = number-cases one.number number
              (λ here. is_some-from (run_of later.tables one.number) next (ap (run_of later.tables) here ∙ waits.here))
              (λ apart. ap is_some (waits.there one.number apart) ∙ is.listed);
        }) kept.legs;
    led = λ other its e holds.
        number-cases other number
        (λ here. absurd (false≢true (sym waits.over ∙ ap (λ (r : RunRow). is_holder r.state) (some-one next its (run_of later.tables number) waits.here (ap (run_of later.tables) (sym here) ∙ e)) ∙ holds)))
        (λ apart. kept.led other its (sym (waits.there other apart) ∙ e) holds);
    places = λ other its fellow there.
        let old : IsHolder office other its fellow = of_later other its fellow there in
        place-stays office.tables later.tables its
        (subst (PointsStay office.tables later.tables) (sym (kept.numbered other its old.row_at)) (stay other (other_one other its fellow old.leg_at)))
        fellow (kept.places other its fellow old);
    uses = λ other its fellow there.
        uses-stay office.tables later.tables names_stay its its refl refl fellow refl (kept.uses other its fellow (of_later other its fellow there));
    alone = λ one other its theirs mine fellow name here there.
        kept.alone one other its theirs mine fellow name (of_later one its mine here) (of_later other theirs fellow there);
    left = λ one other its theirs mine fellow name here there apart among shared.
        kept.left one other its theirs mine fellow name (of_later one its mine here) (of_later other theirs fellow there) apart among shared;
    since = λ other its fellow name there. kept.since other its fellow name (of_later other its fellow there);
    held = λ other its fellow name there among.
        let old : IsHolder office other its fellow = of_later other its fellow there in
        kept.held other its fellow name old among
        ∙ ap (λ (standing : Stock LibrarySet). option_map set_shape (entry_at standing.sets name)) (standing-is office other its fellow old.row_at old.leg_at ∙ sym (standing-is later other its fellow there.row_at there.leg_at));
    free = λ name free. kept.free name (λ other its fellow there. free other its fellow (to_later other its fellow there));
  }
