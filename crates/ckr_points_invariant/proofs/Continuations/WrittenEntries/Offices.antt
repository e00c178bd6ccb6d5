-- What data sets keep with their entries, where a run is selected that continues another one: the entries that are left when the data sets are put
-- back were written as they say, and each other run has grown in its step as before.
use Rattle.std.proofs.Common.{◌≡◌, ◌≢◌, ℕ, true, false, List, refl, ap, sym, ◌∙◌, subst, Option, Some, None, arith}
use Rattle.std.specs.Option.{option_map_or}
use Rattle.ckr_base.proofs.Numbers.{number-cases}
use Rattle.ckr_base.proofs.Options.{some-not-none, some-one}
use Rattle.ckr_base.proofs.Sequences.{each-implies}
use Rattle.ckr_entry.specs.declared.point.Mark.{Mark}
use Rattle.ckr_library.specs.NameMaps.{Name, Named, entry_at}
use Rattle.ckr_meaning.specs.EffectiveJob.{Effective, OwnedStep, is_among, step_at}
use Rattle.ckr_meaning.specs.LibrarySet.{Library}
use Rattle.ckr_volumes.specs.declared.layout.Layout.{Layout}
use Rattle.ckr_points_library.specs.Commit.{output_names}
use Rattle.ckr_points.specs.Follows.{is_within, own_step}
use Rattle.ckr_points.specs.Marks.{point_at, removed_all}
use Rattle.ckr_points.specs.Office.{Leg, Office, leg_of, continued_leg}
use Rattle.ckr_points.specs.Restart.{place_of}
use Rattle.ckr_points.specs.RuleCases.{is_ended}
use Rattle.ckr_points.specs.Rows.{KeptEntry, RunRow, StartPoint, TableSet, run_of}
use Rattle.ckr_points_invariant.specs.Invariant.{IsAgreed, IsAtPlace, IsHolder, step_now}
use Rattle.ckr_points_invariant.specs.Readiness.{AreReady, IsCheck, IsReady}
use Rattle.ckr_points_invariant.specs.WrittenEntries.{AreWrittenEntries, HasGrown, HasWrittenEntries, IsWrittenEntry, check_set}
use Rattle.ckr_points_invariant.proofs.Holders.Places.{outputs-among}
use Rattle.ckr_points_invariant.proofs.Holders.Rows.{queued-is, run-other, run-same}
use Rattle.ckr_points_invariant.proofs.StartedSteps.Offices.{IsOnlyRow}
use Rattle.ckr_points_invariant.proofs.WrittenEntries.Entries.{entries-through, written-other}
use Rattle.ckr_points_invariant.proofs.WrittenEntries.Offices.{IsGrown, kept-same}
use Rattle.ckr_points_invariant.proofs.WrittenEntries.Sets.{put_back-has, removed_all-has}
use Rattle.ckr_points_invariant.proofs.Continuations.EarlierRun.{Coming, IsEarlier, leg_from, row_then, sets_then, tables_then}

module _ (now : Office) (row other : RunRow) (start : Library) (reach : List Name) (step : ℕ) (point : StartPoint) (earlier : IsEarlier now row other (leg_from other start reach) step point)
    (initiator : ℕ) (coming : Coming) (marks : List Mark) (needed removed : List Name) where
  abbrev pub next : RunRow
  next = row_then now row other step point initiator coming

  abbrev pub leg : Leg
  leg = continued_leg now next (leg_from other start reach)

  abbrev begins : OwnedStep
  begins = earlier.begun.owned

  abbrev pub back : Named TableSet
  back = sets_then now other begins marks needed removed

  -- ---- the office with a leg more

  module _ (legs : List Leg) where
    abbrev pub behind : Office
    behind = record now { tables = tables_then now next back; legs = legs }

    module _ (others : (number : ℕ) → number ≢ row.number → leg_of behind number ≡ leg_of now number) where
      pub rows-stay : (number : ℕ) → number ≢ row.number → run_of behind.tables number ≡ run_of now.tables number
      rows-stay number apart = run-other (record now.tables { sets = back }) next number apart

      -- only the row of the run changes, which waited
      pub only-row : IsOnlyRow now behind row.number
      only-row = record {
        legs = others;
        others = rows-stay;
        unended = ap (λ (o : Option RunRow). option_map_or (λ row. is_ended row.state) o false) earlier.row_at ∙ ap is_ended (queued-is row.state earlier.queued);
      }

      -- ---- the entries

      module _ (alone : leg_of now row.number ≡ None) where
        -- an entry is of a run that was selected, and not of this one
        pub entry-stays : (set : Name) (entry : KeptEntry) → IsWrittenEntry now set entry → IsWrittenEntry behind set entry
        entry-stays set entry its =
            written-other now behind row.number only-row set entry
            (λ here. some-not-none its.leg (sym its.leg_at ∙ ap (leg_of now) here ∙ alone)) its

        -- The data sets put back keep entries that were written so.
        pub entries-behind : AreWrittenEntries now → (set : Name) (table : TableSet) → entry_at behind.tables.sets set ≡ Some table → HasWrittenEntries behind set table
        entries-behind written set table there =
            let its : HasWrittenEntries now set table =
            put_back-has (HasWrittenEntries now) (entries-through now) marks (output_names other.job.root begins) needed (removed_all removed now.tables.sets)
            (removed_all-has (HasWrittenEntries now) (entries-through now) removed now.tables.sets written.sets) set table there in
            record {
              ends = its.ends;
              written = each-implies (IsWrittenEntry now set) (IsWrittenEntry behind set) table.entries (entry-stays set) its.written;
            }

      -- ---- the other runs

      -- a run that holds its names did so before
      pub former-holder : (number : ℕ) (its : RunRow) (its_leg : Leg) → number ≢ row.number → IsHolder behind number its its_leg → IsHolder now number its its_leg
      former-holder number its its_leg apart holder = record {
        row_at = sym (rows-stay number apart) ∙ holder.row_at;
        holds = holder.holds;
        leg_at = sym (others number apart) ∙ holder.leg_at;
      }

      -- It has grown in its step as before, where what it reaches is as it was.
      pub others-grown : AreWrittenEntries now → (number : ℕ) (its : RunRow) (its_leg : Leg) (its_owned : OwnedStep) (its_point : StartPoint) → number ≢ row.number → IsHolder behind number its its_leg
          → IsAtPlace now.tables its its_leg → IsReady now.tables.sets its its_leg → ((name : Name) → is_among its_leg.reach name ≡ true → entry_at back name ≡ entry_at now.tables.sets name)
          → is_within (place_of its) ≡ true → own_step its ≡ Some its_owned → point_at its.points (step_now its) ≡ Some its_point → HasGrown behind.tables.sets its its_owned its_point.marks
      others-grown written number its its_leg its_owned its_point apart holder place ready left within found got =
          let was : HasGrown now.tables.sets its its_owned its_point.marks = written.grown number its its_leg its_owned its_point (former-holder number its its_leg apart holder) within found got in
          record {
            since = λ present table among marked there. was.since present table among marked (sym (same (check_set its its_owned) among) ∙ there);
            effect = λ effect entry in_effect there.
                let check : IsCheck now.tables.sets its its_leg effect = ready.check effect within in_effect in
                was.effect effect entry in_effect
                (sym (kept-same now.tables.sets back effect.set effect.kept.id
                (same effect.set (ap (λ (owned : OwnedStep). is_among (output_names its.job.root owned) effect.set) (some-one its_owned check.owned (own_step its) found check.found_step) ∙ check.among)))
                ∙ there);
          }
        where
          same : (name : Name) → is_among (output_names its.job.root its_owned) name ≡ true → entry_at back name ≡ entry_at now.tables.sets name
          same name among =
              left name
              (place.ahead (step_now its) its_owned name (omega arith) (ap (λ (job : Effective). step_at job (step_now its)) place.job ∙ found)
              (outputs-among its_leg.job.root its_owned name (ap (λ (job : Effective). is_among (output_names job.root its_owned) name) place.job ∙ among))).0

      -- ---- all runs

      -- What the data sets keep with their entries they keep then, where it has grown in its step itself.
      pub written-behind : (layout : Layout) → IsAgreed layout now → AreReady now → leg_of now row.number ≡ None → AreWrittenEntries now
          → ((number : ℕ) (its : RunRow) (its_leg : Leg) → number ≢ row.number → IsHolder now number its its_leg → (name : Name) → is_among its_leg.reach name ≡ true → entry_at back name ≡ entry_at now.tables.sets name)
          → IsGrown back next → AreWrittenEntries behind
      written-behind layout agreed ready alone written left mine = record {
        sets = entries-behind alone written;
        grown = λ number its its_leg its_owned its_point holder within found got.
            number-cases number row.number
            (λ here.
            let same : next ≡ its = some-one next its (run_of behind.tables row.number) own-row (ap (run_of behind.tables) (sym here) ∙ holder.row_at) in
            subst (IsGrown back) same mine within its_owned its_point found got)
            (λ apart.
            let was : IsHolder now number its its_leg = former-holder number its its_leg apart holder in
            others-grown written number its its_leg its_owned its_point apart holder (agreed.places number its its_leg was) (ready.runs number its its_leg was) (left number its its_leg apart was) within found got);
      }
        where
          own-row : run_of behind.tables row.number ≡ Some next
          own-row = run-same (record now.tables { sets = back }) next row row.number earlier.row_at refl
