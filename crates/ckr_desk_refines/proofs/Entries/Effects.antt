-- Checkpoints in effect stay so where an event changes one run's row and leaves what other holders reach.
use Rattle.std.proofs.Common.{◌≡◌, ◌≢◌, ℕ, zero, suc, Bool, true, false, List, refl, ap, sym, ◌∙◌, subst, Option, Some, None}
use Rattle.std.specs.Prelude.{IsTrue}
use Rattle.std.specs.Option.{option_map_or}
use Rattle.std.proofs.lemmas.Option.{same_Some}
use Rattle.ckr_base.proofs.Numbers.{number-cases}
use Rattle.ckr_base.proofs.Options.{some-not-none}
use Rattle.ckr_library.specs.Catalog.{ends_within}
use Rattle.ckr_library.specs.NameMaps.{Named, entry_at}
use Rattle.ckr_meaning.specs.EffectiveJob.{Effective, OwnedStep, is_among, names_of}
use Rattle.ckr_points_library.specs.Commit.{output_names}
use Rattle.ckr_points.specs.Follows.{are_lengths, of_run, own_step}
use Rattle.ckr_points.specs.Office.{Office, no_office}
use Rattle.ckr_points.specs.Payload.{writes_in}
use Rattle.ckr_points.specs.Restart.{kept_at, place_of}
use Rattle.ckr_points.specs.Rows.{EffectPoint, KeptEntry, RunRow, TableSet, TablesModel, run_of, with_run}
use Rattle.ckr_points.specs.Tables.{committed}
use Rattle.ckr_points_invariant.specs.Invariant.{IsAgreed, step_now}
use Rattle.ckr_points_invariant.proofs.Holders.Rows.{run-other, run-same}
use Rattle.ckr_points_invariant.proofs.Start.Event.{running-so}
use Rattle.ckr_points_invariant.proofs.Steps.Commits.{in_reach}
use Rattle.ckr_points_invariant.proofs.Steps.Events.{led-by}
use Rattle.ckr_volumes.specs.declared.layout.Layout.{Layout}
use Rattle.ckr_desk_refines.specs.Entries.{AreWithin}
use Rattle.ckr_desk_refines.specs.InEffect.{AreInEffect, IsInEffect}
use Rattle.ckr_desk_refines.specs.SharedSets.{LeavesReach}
use Rattle.ckr_desk_refines.proofs.Entries.KeptEntries.{kept_at-committed, kept_in}
use Rattle.ckr_desk_refines.proofs.Entries.Legs.{KeepLegs}
use Rattle.ckr_desk_refines.proofs.Entries.Refusal.{kept-table}

-- a test of a run, of its row
pub passes-of : (tables : TablesModel) (job : ℕ) (test : RunRow → Bool) (row : RunRow) → of_run tables job test ≡ true → run_of tables job ≡ Some row → test row ≡ true
passes-of tables job test row passes e = sym (ap (λ (o : Option RunRow). option_map_or test o false) e) ∙ passes

module _ (layout : Layout) (now : Office) (agreed : IsAgreed layout now) (job : ℕ) (are : AreInEffect now) where
  -- the tables have the run's later row, and the other rows as they were
  pub record HasRow (later : TablesModel) (row : RunRow) : Type 0 where
    pub here : run_of later job ≡ Some row
    pub others : (number : ℕ) → number ≢ job → run_of later number ≡ run_of now.tables number

  pub row-first : (row : RunRow) → run_of now.tables job ≡ Some row → HasRow now.tables row
  row-first row e = record { here = e; others = λ number apart. refl }

  pub row-sets : (later : TablesModel) (row : RunRow) (sets : Named TableSet) → HasRow later row → HasRow (record later { sets = sets }) row
  row-sets later row sets has = record { here = has.here; others = has.others }

  pub row-next : (later : TablesModel) (row next : RunRow) → next.number ≡ job → HasRow later row → HasRow (with_run next later) next
  row-next later row next same has = record {
    here = run-same later next row job has.here same;
    others = λ number apart. run-other later next number (λ e. apart (e ∙ same)) ∙ has.others number apart;
  }

  -- a checkpoint in effect of later tables, of the same runs' jobs
  abbrev pub IsStill : TablesModel → RunRow → EffectPoint → Type 0
  IsStill later row effect = IsInEffect (record now { tables = later }) row effect

  -- ---- another run

  pub other-stays : (later : TablesModel) → LeavesReach now job later.sets → (number : ℕ) (row : RunRow) (effect : EffectPoint) → number ≢ job → run_of now.tables number ≡ Some row → IsInEffect now row effect → IsStill later row effect
  other-stays later leaves number row effect apart e its = record {
    holds = its.holds;
    within = its.within;
    owned = its.owned;
    found = its.found;
    among = its.among;
    entry = its.entry;
    at = ap (kept_in effect.kept.id) there ∙ its.at;
    kept = its.kept;
    same = its.same;
    owner = its.owner;
    step = its.step;
    present = its.present;
  }
    where
      there : entry_at later.sets effect.set ≡ entry_at now.tables.sets effect.set
      there =
          led-by layout now number row agreed e its.holds
          (λ leg holder.
          leaves number row leg effect.set holder apart
          (in_reach layout now number row leg its.owned (step_now row) (writes_in (place_of row)) agreed (running-so layout now number row leg its.owned holder its.within its.found) effect.set
          (ap (λ (job : Effective). is_among (names_of job.root its.owned) effect.set) (agreed.places number row leg holder).job ∙ its.among)))

  -- ---- the run of the event

  -- what is to be shown of the tables behind an event
  abbrev pub StayInEffect : TablesModel → Type 0
  StayInEffect later = LeavesReach now job later.sets → AreInEffect (record now { tables = later })

  pub by-own : (later : TablesModel) (next : RunRow) → HasRow later next → ((effect : EffectPoint) → next.in_effect ≡ Some effect → IsStill later next effect) → StayInEffect later
  by-own later next has own leaves number row effect e f =
      number-cases number job
      (λ same.
      let is : next ≡ row = same_Some next row (sym has.here ∙ ap (run_of later) (sym same) ∙ e) in
      subst (λ (row : RunRow). IsStill later row effect) is (own effect (ap (λ (row : RunRow). row.in_effect) is ∙ f)))
      (λ apart.
      let was : run_of now.tables number ≡ Some row = sym (has.others number apart) ∙ e in
      other-stays later leaves number row effect apart was (are number row effect was f))

  -- the run has none in effect any more
  pub by-none : (later : TablesModel) (next : RunRow) → HasRow later next → next.in_effect ≡ None → StayInEffect later
  by-none later next has none = by-own later next has (λ effect e. absurd (some-not-none effect (sym e ∙ none)))

  pub by-given : {A : Type 0} (change : A → TablesModel) (given : Option A) → ((its : A) → given ≡ Some its → StayInEffect (change its)) → StayInEffect (option_map_or change given now.tables)
  by-given change None each = λ leaves. are
  by-given change (Some its) each = each its refl

  -- ---- its lengths are committed

  pub own-committed : AreWithin now.tables.sets → (row : RunRow) (owned : OwnedStep) (effect : EffectPoint) (lengths : List ℕ) (its : IsInEffect now row effect) → own_step row ≡ Some owned → are_lengths now.tables.sets (output_names row.job.root owned) lengths ≡ true
      → kept_at (committed (output_names row.job.root owned) lengths now.tables.sets) effect.set effect.kept.id ≡ Some its.entry
  own-committed within row owned effect lengths its found lengths_are =
      let there = kept-table now.tables.sets effect.set effect.kept.id its.entry its.at in
      kept_at-committed now.tables.sets effect.set effect.kept.id there.0 its.entry there.1
      (there.2 (λ (entry : KeptEntry). IsTrue (ends_within there.0.set.length entry.kept)) (within effect.set there.0 there.1))
      (output_names row.job.root owned) lengths now.tables.sets lengths_are its.at

-- ---- the legs of later runs

-- each run keeps its leg
pub effect-led : (one later : Office) (row : RunRow) (effect : EffectPoint) → later.tables.sets ≡ one.tables.sets → KeepLegs one.legs later.legs → IsInEffect one row effect → IsInEffect later row effect
effect-led one later row effect sets keep its = record {
  holds = its.holds;
  within = its.within;
  owned = its.owned;
  found = its.found;
  among = its.among;
  entry = its.entry;
  at = ap (λ sets. kept_at sets effect.set effect.kept.id) sets ∙ its.at;
  kept = its.kept;
  same = record {
    leg = its.same.leg;
    led = keep row.number its.same.leg its.same.led;
    start = its.same.start;
    starts = its.same.starts;
    program = its.same.program;
    taker = its.same.taker;
    taker_led = keep its.entry.point.run its.same.taker its.same.taker_led;
    begun = its.same.begun;
    begins = its.same.begins;
    same = its.same.same;
  };
  owner = its.owner;
  step = its.step;
  present = its.present;
}

pub effects-led : (one later : Office) → later.tables ≡ one.tables → KeepLegs one.legs later.legs → AreInEffect one → AreInEffect later
effects-led one later same keep are number row effect e f =
    effect-led one later row effect (ap (λ (tables : TablesModel). tables.sets) same) keep
    (are number row effect (ap (λ (tables : TablesModel). run_of tables number) (sym same) ∙ e) f)

-- ---- no events

pub no-effects : AreInEffect no_office
no-effects zero row effect e f = absurd (some-not-none row (sym e))
no-effects (suc before) row effect e f = absurd (some-not-none row (sym e))
