-- A step that is running: what an event carries of it, and the events stay kept where its lengths are committed.
use Rattle.std.proofs.Common.{◌≡◌, ◌≤◌, ℕ, Bool, true, false, ◌&&◌, List, length, ap, sym, ◌∙◌, subst, Option, Some, None, arith}
use Rattle.std.specs.Prelude.{nat_le}
use Rattle.std.specs.Option.{option_map, option_map_or}
use Rattle.std.proofs.lemmas.Bool.{false≢true}
use Rattle.std.proofs.lemmas.Option.{same_Some}
use Rattle.ckr_base.proofs.Bools.{and-first, and-second, bool-cases}
use Rattle.ckr_base.proofs.Numbers.{nat_le-true}
use Rattle.ckr_library.specs.NameMaps.{Name, Named, entry_at}
use Rattle.ckr_meaning.specs.LibrarySet.{LibrarySet}
use Rattle.ckr_meaning.specs.Dispositions.{Stock}
use Rattle.ckr_meaning.specs.EffectiveJob.{OwnedStep, is_among, names_of, step_at}
use Rattle.ckr_meaning.specs.declared.place.Place.TheVariants.{Within}
use Rattle.ckr_meaning.specs.JobRun.{at, is_bypassed, start_at}
use Rattle.ckr_meaning.specs.StepRun.{StepStart, within_at, work_at}
use Rattle.ckr_volumes.specs.declared.layout.Layout.{Layout}
use Rattle.ckr_points.specs.Tables.{committed, own_made}
use Rattle.ckr_points.specs.Follows.{are_lengths, is_within}
use Rattle.ckr_points.specs.Payload.{carries_lengths, commits, is_formed_step, of_start, rewrites_nothing, start_in_office, writes_in}
use Rattle.ckr_points_invariant.specs.Invariant.{AreAlike, IsAgreed, IsAtPlace, IsHolder, IsUnderWay, IsWithinStep, set_shape, step_now, table_shape}
use Rattle.ckr_points_invariant.specs.RunningSteps.{IsRunning, its_start}
use Rattle.ckr_points_library.specs.Commit.{output_names}
use Rattle.ckr_points.specs.Office.{Leg, Office, is_holder, leg_of}
use Rattle.ckr_points.specs.Restart.{place_of, step_in}
use Rattle.ckr_points.specs.Rows.{RunRow, TableSet, run_of, step_of_run}
use Rattle.ckr_points.specs.Soundness.{AreLaidOut}
use Rattle.ckr_points_invariant.proofs.Library.Extents.{committed-laid, fit-lengths}
use Rattle.ckr_points_invariant.proofs.Holders.Rows.{run-other, run-same, step-all}
use Rattle.ckr_points_invariant.proofs.Holders.Moves.{Among, kept-goes_on, moved, standing-is}
use Rattle.ckr_points_invariant.proofs.Holders.Places.{HasNext, IsSameRun, outputs-among, place-next}
use Rattle.ckr_points_invariant.proofs.Steps.Walks.{at-within, start_at-of}
use Rattle.ckr_points_invariant.proofs.Writes.Likeness.{commit-alike, committed-other}

-- what an event carries is of the run's step as it starts
pub carried-of : (layout : Layout) (office : Office) (number : ℕ) (row : RunRow) (leg : Leg) (owned : OwnedStep) (step : ℕ) (test : RunRow → StepStart → Bool) → IsAgreed layout office → IsHolder office number row leg → step_now row ≡ step → step_of_run row step ≡ Some owned → of_start office number test ≡ true → test row (its_start leg owned step) ≡ true
carried-of layout office number row leg owned step test kept holder now found passes =
    sym (
    ap (λ (o : Option RunRow). option_map_or (λ row. option_map_or (test row) (start_in_office office row) false) o false) holder.row_at
    ∙ ap (λ (o : Option Leg). option_map_or (test row) (option_map_or (λ leg. start_at leg.job leg.start (step_in (place_of row))) o None) false) (ap (leg_of office) (kept.numbered number row holder.row_at) ∙ holder.leg_at)
    ∙ ap (λ n. option_map_or (test row) (start_at leg.job leg.start n) false) now
    ∙ ap (λ (o : Option StepStart). option_map_or (test row) o false) (start_at-of leg.job leg.start step owned (ap (λ job. step_at job step) (kept.places number row leg holder).job ∙ found)))
    ∙ passes

module _ (layout : Layout) (office : Office) (number : ℕ) (row : RunRow) (leg : Leg) (owned : OwnedStep) (step writes : ℕ) (kept : IsAgreed layout office) (running : IsRunning office number row leg owned step writes) where
  pub place_so : IsAtPlace office.tables row leg
  place_so = kept.places number row leg running.holder

  pub now : step_now row ≡ step
  now = ap step_in running.stands

  pub found_leg : step_at leg.job step ≡ Some owned
  found_leg = ap (λ job. step_at job step) place_so.job ∙ running.found

  pub formed_step : is_formed_step leg.job.root owned ≡ true
  formed_step = step-all (is_formed_step leg.job.root) leg.job step owned place_so.formed found_leg

  pub under_way : IsUnderWay row (its_start leg owned step) writes
  under_way =
      let within : IsWithinStep row leg (Within step writes) = subst (IsWithinStep row leg) running.stands place_so.within in
      within (its_start leg owned step) (start_at-of leg.job leg.start step owned found_leg)

  pub in_reach : (name : Name) → is_among (names_of leg.job.root owned) name ≡ true → Among leg name
  in_reach name among = (place_so.ahead step owned name (subst (λ n. n ≤ step) (sym now) (omega arith)) found_leg among).0

  -- what the tables have of the run's names is what its step has written
  pub alike_within : (name : Name) → Among leg name → AreAlike office.tables.sets (within_at (its_start leg owned step) writes) name
  alike_within name among =
      kept.held number row leg name running.holder among
      ∙ ap (λ (standing : Stock LibrarySet). option_map set_shape (entry_at standing.sets name)) (standing-is office number row leg running.holder.row_at running.holder.leg_at ∙ ap (at leg.job leg.start) running.stands)
      ∙ ap (λ library. option_map set_shape (entry_at library name)) (at-within leg.job leg.start step writes owned found_leg)

  pub out_of_outputs : (name : Name) → is_among leg.reach name ≡ false → is_among (output_names leg.job.root owned) name ≡ false
  out_of_outputs name out =
      bool-cases (is_among (output_names leg.job.root owned) name)
      (λ among. absurd (false≢true (sym out ∙ in_reach name (outputs-among leg.job.root owned name among))))
      (λ e. e)

  pub laid_so : (lengths : List ℕ) → are_lengths office.tables.sets (output_names leg.job.root owned) lengths ≡ true → AreLaidOut layout (committed (output_names leg.job.root owned) lengths office.tables.sets)
  laid_so lengths are = committed-laid layout (output_names leg.job.root owned) lengths office.tables.sets (fit-lengths office.tables.sets (output_names leg.job.root owned) lengths are) kept.extents

  -- a row of the run behind more writes of its step
  pub record GoesBehind (next : RunRow) (to : ℕ) : Type 0 where
    pub same : IsSameRun row next
    pub deck : next.deck ≡ row.deck
    pub holds : is_holder next.state ≡ true
    pub stands : place_of next ≡ Within step to
    pub made : own_made next owned step ≡ own_made row owned step

  pub has_next : (next : RunRow) (sets : Named TableSet) → next.number ≡ row.number → HasNext office.tables (moved next sets office.library office).tables row next
  has_next next sets same =
      let mine : row.number ≡ number = kept.numbered number row running.holder.row_at in
      record {
        was = ap (run_of office.tables) mine ∙ running.holder.row_at;
        now = run-same (record office.tables { sets = sets }) next row row.number (ap (run_of office.tables) mine ∙ running.holder.row_at) same;
        others = λ other apart. run-other (record office.tables { sets = sets }) next other (λ e. apart (e ∙ same));
      }

  behind_so : (next : RunRow) (to : ℕ) → GoesBehind next to → to ≤ length (work_at (its_start leg owned step)).writes → IsWithinStep next leg (place_of next)
  behind_so next to goes within =
      subst (IsWithinStep next leg) (sym goes.stands)
      (λ start starts.
      subst (λ s. IsUnderWay next s to) (same_Some (its_start leg owned step) start (sym (start_at-of leg.job leg.start step owned found_leg) ∙ starts))
      (let way : IsUnderWay row (its_start leg owned step) writes = under_way in
      record {
        runs = ap (λ rcs. is_bypassed rcs owned) goes.same.rcs ∙ way.runs;
        flawless = way.flawless;
        done = within;
        made = λ name among. ap (λ names. is_among names name) goes.made ∙ way.made name among;
      }))

  -- the events stay kept behind more writes, with data sets that are alike there
  pub kept-behind : (next : RunRow) (to : ℕ) (sets : Named TableSet) → GoesBehind next to → to ≤ length (work_at (its_start leg owned step)).writes → ((name : Name) → is_among leg.reach name ≡ false → option_map table_shape (entry_at sets name) ≡ option_map table_shape (entry_at office.tables.sets name)) → ((name : Name) → Among leg name → AreAlike sets (within_at (its_start leg owned step) to) name) → AreLaidOut layout sets → IsAgreed layout (moved next sets office.library office)
  kept-behind next to sets goes within outside inside laid =
      kept-goes_on layout office number row next leg sets kept running.holder
      (record {
        same = goes.same.number;
        deck = goes.deck;
        holds = goes.holds;
        place = place-next office.tables (moved next sets office.library office).tables row next leg (has_next next sets goes.same.number) goes.same (λ off. ap is_within goes.stands) (behind_so next to goes within) place_so;
        outside = outside;
        inside = λ name among.
            inside name among
            ∙ sym (ap (λ (standing : Stock LibrarySet). option_map set_shape (entry_at standing.sets name)) (ap (at leg.job leg.start) goes.stands) ∙ ap (λ library. option_map set_shape (entry_at library name)) (at-within leg.job leg.start step to owned found_leg));
        extents = laid;
      })

  -- and where the lengths are committed that the event carries
  pub kept-committed : (next : RunRow) (to : ℕ) (lengths : List ℕ) → GoesBehind next to → commits office.tables.sets row to lengths (its_start leg owned step) ≡ true → are_lengths office.tables.sets (output_names leg.job.root owned) lengths ≡ true → IsAgreed layout (moved next (committed (output_names leg.job.root owned) lengths office.tables.sets) office.library office)
  kept-committed next to lengths goes carried are =
      let start : StepStart = its_start leg owned step in
      let from : writes_in (place_of row) ≡ writes = ap writes_in running.stands in
      let early : (nat_le (writes_in (place_of row)) to && rewrites_nothing start (writes_in (place_of row)) to) ≡ true = and-first (nat_le (writes_in (place_of row)) to && rewrites_nothing start (writes_in (place_of row)) to) (carries_lengths office.tables.sets to lengths start) carried in
      let has : carries_lengths office.tables.sets to lengths start ≡ true = and-second (nat_le (writes_in (place_of row)) to && rewrites_nothing start (writes_in (place_of row)) to) (carries_lengths office.tables.sets to lengths start) carried in
      kept-behind next to (committed (output_names leg.job.root owned) lengths office.tables.sets) goes
      (nat_le-true to (length (work_at start).writes) (and-first (nat_le to (length (work_at start).writes)) _ has))
      (λ name out. ap (option_map table_shape) (committed-other (output_names leg.job.root owned) lengths office.tables.sets name (out_of_outputs name out)))
      (λ name among.
      commit-alike start writes to lengths office.tables.sets name formed_step
      (nat_le-true writes to (ap (λ n. nat_le n to) (sym from) ∙ and-first (nat_le (writes_in (place_of row)) to) (rewrites_nothing start (writes_in (place_of row)) to) early))
      (ap (λ n. rewrites_nothing start n to) (sym from) ∙ and-second (nat_le (writes_in (place_of row)) to) (rewrites_nothing start (writes_in (place_of row)) to) early)
      (and-second (nat_le to (length (work_at start).writes)) _ has)
      (alike_within name among))
      (laid_so lengths are)
