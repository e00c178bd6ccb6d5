-- A run that continues another one keeps the stamps: at each place to which its job comes, the records of a data set begin what the step of its
-- stamp writes. Up to its step they are as they were; the later steps are its own.
use Rattle.std.proofs.Common.{◌≡◌, ◌≢◌, ◌≤◌, ◌<◌, ℕ, suc, false, List, ap, sym, ◌∙◌, Some, None, arith}
use Rattle.std.specs.Prelude.{nat_le}
use Rattle.std.proofs.lemmas.Bool.{false≢true}
use Rattle.std.proofs.lemmas.Bool.Decides.{nat_tests}
use Rattle.ckr_base.proofs.Bools.{bool-cases}
use Rattle.ckr_base.proofs.Numbers.{nat_le-true}
use Rattle.ckr_library.specs.NameMaps.{Name, entry_at}
use Rattle.ckr_meaning.specs.Dispositions.{Stock}
use Rattle.ckr_meaning.specs.EffectiveJob.{OwnedStep, step_at}
use Rattle.ckr_meaning.specs.JobRun.{at}
use Rattle.ckr_meaning.specs.LibrarySet.{Library, LibrarySet}
use Rattle.ckr_meaning.specs.declared.place.Place.{Place}
use Rattle.ckr_meaning.specs.declared.place.Place.TheVariants.{Before, Opened, Within}
use Rattle.ckr_points.specs.Office.{Leg, Office, leg_of, continued_leg}
use Rattle.ckr_points.specs.Restart.{step_in}
use Rattle.ckr_points.specs.Rows.{RunRow, StartPoint}
use Rattle.ckr_points_invariant.proofs.Continuations.EarlierRun.{Coming, IsEarlier, leg_from, row_then}
use Rattle.ckr_points_invariant.proofs.Continuations.Stamps.EarlierSteps.{IsUpTo, begun-up_to, set-behind, stamp-other, up-to-step}
use Rattle.ckr_points_invariant.proofs.Continuations.Stamps.LaterSteps.{GoesTo, AreSeated, later-begun, sets_behind}
use Rattle.ckr_points_invariant.proofs.Continuations.Steps.{formed, later}
use Rattle.ckr_points_invariant.specs.Invariant.{AreBegun, AreStamped, HasBegun, IsReached, step_now}
use Rattle.ckr_points_invariant.proofs.Steps.Walks.{at-before}

-- a place whose step is up to a number or behind it
up_to-cases : {A : Type 0} (step : ℕ) (place : Place) → (IsUpTo step place → A) → (step < step_in place → A) → A
up_to-cases step place early late =
    bool-cases (nat_le (step_in place) step)
    (λ is. early (up_to place (nat_le-true (step_in place) step is)))
    (λ isnt. late (beyond (step_in place) step isnt))
  where
    up_to : (place : Place) → step_in place ≤ step → IsUpTo step place
    up_to (Before number) low = omega (arith, low)
    up_to (Opened number) low = low
    up_to (Within number writes) low = low

    beyond : (one other : ℕ) → nat_le one other ≡ false → other < one
    beyond one other isnt = grind (arith, nat_tests)

module _ (now : Office) (row other : RunRow) (start : Library) (reach : List Name) (step : ℕ) (point : StartPoint) (earlier : IsEarlier now row other (leg_from other start reach) step point)
    (initiator : ℕ) (coming : Coming) (stands : step_in coming.place ≡ step) (stamps : AreStamped now) (led : leg_of now other.number ≡ Some (leg_from other start reach)) (alone : leg_of now row.number ≡ None) where
  abbrev pub next : RunRow
  next = row_then now row other step point initiator coming

  abbrev pub leg : Leg
  leg = continued_leg now next (leg_from other start reach)

  module _ (behind : Office) (mine : leg_of behind row.number ≡ Some leg) (others : (number : ℕ) → number ≢ row.number → leg_of behind number ≡ leg_of now number) where
    -- just behind the step no data set has a stamp of the run
    seated : GoesTo leg step → AreSeated behind row.number (suc step) (sets_behind leg step)
    seated goes name set e =
        let begun : HasBegun now name set =
        begun-up_to now row other start reach step point earlier initiator coming stamps led (Before (suc step)) (omega arith)
        (record { begun = omega arith; goes_on = goes; flawless = λ its before found. absurd (false≢true (sym before)); some = λ its found. omega arith })
        name set (ap (λ (standing : Stock LibrarySet). entry_at standing.sets name) (at-before leg.job leg.start (suc step)) ∙ e)
        in
        record {
          begins = set-behind now behind row.number alone others name set begun;
          early = λ its. absurd (stamp-other now behind row.number alone others name set begun its);
        }

    owns : (number : ℕ) (owned : OwnedStep) → step < number → step_at leg.job number ≡ Some owned → owned.owner ≡ row.number
    owns number owned beyond found =
        let past : step_now next < number = omega (arith, stands, beyond) in
        later now row other start reach step point earlier initiator coming stands now.tables.sets number owned past found

    pub all-begun : (place : Place) → IsReached leg place → AreBegun behind (at leg.job leg.start place).sets
    all-begun place reached =
        up_to-cases step place
        (λ low. up-to-step now row other start reach step point earlier initiator coming stamps led alone behind others place low reached)
        (λ beyond.
        later-begun behind leg row.number step mine (formed now row other start reach step point earlier initiator coming stands now.tables.sets)
        owns seated place beyond reached)
