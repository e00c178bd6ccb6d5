-- A run that continues another one has, up to its step, what that one's job has there and what the ended jobs left: the records of a data set begin
-- what the step of its stamp writes.
use Rattle.std.proofs.Common.{◌≡◌, ◌≢◌, ◌≤◌, ℕ, pred, true, false, List, refl, ap, sym, ◌∙◌, Some, None, arith}
use Rattle.std.specs.Option.{is_some}
use Rattle.std.proofs.lemmas.Bool.{false≢true}
use Rattle.ckr_base.proofs.Bools.{bool-cases}
use Rattle.ckr_library.specs.NameMaps.{Name, entry_at}
use Rattle.ckr_meaning.specs.EffectiveJob.{is_among, names_of_job, names_of_steps}
use Rattle.ckr_meaning.specs.Fronts.{BeginAlike, front_names}
use Rattle.ckr_meaning.specs.JobRun.{at, walk_before}
use Rattle.ckr_meaning.specs.LibrarySet.{Library, LibrarySet}
use Rattle.ckr_meaning.specs.declared.place.Place.{Place}
use Rattle.ckr_meaning.specs.declared.place.Place.TheVariants.{Before, Opened, Within}
use Rattle.ckr_meaning.proofs.Fronts.{begin-before, begin-goes_on, later-before}
use Rattle.ckr_points.specs.Office.{Leg, Office, leg_of, continued_leg}
use Rattle.ckr_points.specs.Rows.{RunRow, StartPoint}
use Rattle.ckr_points_invariant.proofs.Continuations.EarlierRun.{Coming, IsEarlier, leg_from, row_then}
use Rattle.ckr_points_invariant.proofs.Continuations.Walks as walks
use Rattle.ckr_points_invariant.specs.Invariant.{AreBegun, AreStamped, HasBegun, IsReached}
use Rattle.ckr_points_invariant.proofs.Continuations.Fronts.{front-among, library-earlier, library-other, place-earlier, place-other, same-steps}
use Rattle.ckr_points_invariant.proofs.Continuations.Reached.{reached-there}
use Rattle.ckr_points_invariant.proofs.Stamps.Tables.{begun-legs, led-by-begun}
use Rattle.ckr_points_invariant.proofs.Steps.Walks.{at-before}

-- a place up to the step of this number, or just behind it
abbrev pub IsUpTo : ℕ → Place → Type 0
IsUpTo step (Before number) = pred number ≤ step
IsUpTo step (Opened number) = number ≤ step
IsUpTo step (Within number writes) = number ≤ step

-- ---- an office that has one leg more

module _ (now behind : Office) (run : ℕ) (alone : leg_of now run ≡ None) (others : (number : ℕ) → number ≢ run → leg_of behind number ≡ leg_of now number) where
  -- a stamp of a run that was selected isn't of this one
  pub stamp-other : (name : Name) (set : LibrarySet) → HasBegun now name set → set.stamp.run ≢ run
  stamp-other name set begun mine = false≢true (sym (ap is_some (ap (leg_of now) mine ∙ alone)) ∙ led-by-begun now name set begun)

  pub set-behind : (name : Name) (set : LibrarySet) → HasBegun now name set → HasBegun behind name set
  set-behind name set begun = begun-legs now behind name set (others set.stamp.run (stamp-other name set begun)) begun

  pub begun-behind : (library : Library) → AreBegun now library → AreBegun behind library
  begun-behind library begun name set e = set-behind name set (begun name set e)

-- ---- the places up to the step

module _ (now : Office) (row other : RunRow) (start : Library) (reach : List Name) (step : ℕ) (point : StartPoint) (earlier : IsEarlier now row other (leg_from other start reach) step point)
    (initiator : ℕ) (coming : Coming) where
  abbrev pub next : RunRow
  next = row_then now row other step point initiator coming

  abbrev pub leg : Leg
  leg = continued_leg now next (leg_from other start reach)

  alike : BeginAlike step leg.job other.job leg.start start
  alike = walks.alike now row other start reach step point earlier initiator coming

  not_front : (name : Name) → is_among (front_names step leg.job) name ≡ false → is_among (front_names step other.job) name ≡ false
  not_front name out =
      ap (λ steps. is_among (names_of_steps other.job.root steps) name)
      (sym (same-steps other.job start now.library step row.number row.deck earlier.begun.owned earlier.begun.found))
      ∙ out

  -- before a step, a name that the first steps don't have
  before-later : (number : ℕ) (name : Name) → pred number ≤ step → is_among (front_names step leg.job) name ≡ false → entry_at (at leg.job leg.start (Before number)).sets name ≡ entry_at leg.start name
  before-later number name low out = later-before step leg.job leg.start name out number low

  -- a name of the earlier job is as it was there
  pub same-there : (place : Place) (name : Name) → IsUpTo step place → is_among (names_of_job other.job) name ≡ true → entry_at (at leg.job leg.start place).sets name ≡ entry_at (at other.job start place).sets name
  same-there (Before number) name low among =
      bool-cases (is_among (front_names step leg.job) name)
      (λ front. (begin-before step leg.job other.job leg.start start alike number low).sets name front)
      (λ out.
      before-later number name low out
      ∙ library-earlier other.job start now.library step row.number row.deck earlier.begun.owned earlier.begun.found name among
      ∙ sym (later-before step other.job start name (not_front name out) number low))
  same-there (Opened number) name low among = place-earlier other.job start now.library step row.number row.deck earlier.begun.owned earlier.begun.found (Opened number) name low among
  same-there (Within number writes) name low among = place-earlier other.job start now.library step row.number row.deck earlier.begun.owned earlier.begun.found (Within number writes) name low among

  -- another one is as the ended jobs left it
  pub same-left : (place : Place) (name : Name) → IsUpTo step place → is_among (names_of_job other.job) name ≡ false → entry_at (at leg.job leg.start place).sets name ≡ entry_at now.library name
  same-left (Before number) name low out =
      before-later number name low
      (bool-cases (is_among (front_names step leg.job) name)
      (λ among. absurd (false≢true (sym out ∙ front-among other.job start now.library step row.number row.deck earlier.begun.owned earlier.begun.found name among)))
      (λ e. e))
      ∙ library-other other.job start now.library step row.number row.deck earlier.begun.owned earlier.begun.found name out
  same-left (Opened number) name low out = place-other other.job start now.library step row.number row.deck earlier.begun.owned earlier.begun.found (Opened number) name low out
  same-left (Within number writes) name low out = place-other other.job start now.library step row.number row.deck earlier.begun.owned earlier.begun.found (Within number writes) name low out

  -- the earlier job comes to the place too
  pub reached-earlier : (place : Place) → IsUpTo step place → IsReached leg place → IsReached (leg_from other start reach) place
  reached-earlier (Before number) low reached = record {
    begun = reached.begun;
    goes_on = sym (begin-goes_on step leg.job other.job leg.start start alike number low) ∙ reached.goes_on;
    flawless = λ its before e. absurd (false≢true (sym before));
    some = λ its e. omega arith;
  }
  reached-earlier (Opened number) low reached = reached-there step leg (leg_from other start reach) alike (Opened number) low reached
  reached-earlier (Within number writes) low reached = reached-there step leg (leg_from other start reach) alike (Within number writes) low reached

  module _ (stamps : AreStamped now) (led : leg_of now other.number ≡ Some (leg_from other start reach)) where
    -- so what the job has there has begun
    pub begun-up_to : (place : Place) → IsUpTo step place → IsReached leg place → AreBegun now (at leg.job leg.start place).sets
    begun-up_to place low reached name set e =
        bool-cases (is_among (names_of_job other.job) name)
        (λ among. stamps.places other.number (leg_from other start reach) place led (reached-earlier place low reached) name set (sym (same-there place name low among) ∙ e))
        (λ out. stamps.begun name set (sym (same-left place name low out) ∙ e))

    -- what it begins on has, too
    pub starts-begun : AreBegun now leg.start
    unfolding walk_before
    starts-begun name set e =
        begun-up_to (Before 1) (omega arith)
        (record {
          begun = omega arith;
          goes_on = refl;
          flawless = λ its before found. absurd (false≢true (sym before));
          some = λ its found. omega arith;
        }) name set (ap (λ standing. entry_at standing.sets name) (at-before leg.job leg.start 1) ∙ e)

    -- also behind the selection
    module _ (alone : leg_of now row.number ≡ None) (behind : Office) (others : (number : ℕ) → number ≢ row.number → leg_of behind number ≡ leg_of now number) where
      pub up-to-step : (place : Place) → IsUpTo step place → IsReached leg place → AreBegun behind (at leg.job leg.start place).sets
      up-to-step place low reached = begun-behind now behind row.number alone others (at leg.job leg.start place).sets (begun-up_to place low reached)
