-- An entry stays where its data set keeps its place, through a change of the data set and of the image.
use Rattle.std.proofs.Common.{◌≡◌, ◌≢◌, ◌≤◌, ◌<◌, ℕ, zero, suc, ◌+◌, Bool, true, false, cond, List, [], ◌∷◌, ◌++◌, length, filter, refl, ap, sym, ◌∙◌, subst, arith, ⊎_elim, Some, Option}
use Rattle.std.specs.Prelude.{IsTrue, ◌==◌, find, option_and_then, slice_get}
use Rattle.std.specs.List.{AllByRecursion}
use Rattle.std.specs.Option.{is_some, option_map}
use Rattle.std.proofs.lemmas.Bool.{cases_lt}
use Rattle.std.proofs.lemmas.List.{same_from_push}
use Rattle.ckr_base.proofs.Numbers.{nat_le-true}
use Rattle.ckr_base.proofs.Options.{is_some-from, option-cases, some-not-none}
use Rattle.ckr_base.proofs.Sequences.{each-both, each-filter, each-implies}
use Rattle.ckr_jcl.specs.declared.deck.Kind.{Kind}
use Rattle.ckr_library.specs.declared.sets.DataSet.{DataSet}
use Rattle.ckr_library.specs.Catalog.{ends_within, records_of}
use Rattle.ckr_library.specs.NameMaps.{Named}
use Rattle.ckr_entry.specs.Entry.{spelling}
use Rattle.ckr_meaning.specs.EffectiveJob.{Effective, OwnedStep, step_at}
use Rattle.ckr_points.specs.Office.{Leg, Office}
use Rattle.ckr_points.specs.Rows.{KeptEntry, TableSet}
use Rattle.ckr_volumes.specs.declared.layout.Layout.{Layout}
use Rattle.ckr_volumes.specs.Records.{record_at, records_on}
use Rattle.ckr_volumes.specs.SamePlaces.{SamePlaces, same_places}
use Rattle.ckr_desk_turn.specs.Checkpoints.{entry_with}
use Rattle.ckr_desk_refines.specs.Entries.{AreThere, AreWithin, EndWithin, HasEntries, IsEntryThere, KeepsNoneIfPlain, SameKept, UnderEachName, job_at, jobs_of, program_at}
use Rattle.ckr_desk_refines.proofs.Entries.Legs.{KeepLegs}
use Rattle.ckr_desk_refines.proofs.Entries.Sets.{Stays}

-- ---- lists

-- those that are kept pass
pub passing : {X : Type 0} (keep : X → Bool) (xs : List X) → AllByRecursion (λ (x : X). IsTrue (keep x)) (filter keep xs)
passing keep [] = tt
passing {X = X} keep (first ∷ rest) = by (passing keep rest) (keep first) refl
  where
    by : AllByRecursion (λ (x : X). IsTrue (keep x)) (filter keep rest) → (b : Bool) → keep first ≡ b → AllByRecursion (λ (x : X). IsTrue (keep x)) (cond b (first ∷ filter keep rest) (filter keep rest))
    by later true e = (e, later)
    by later false e = later

-- ---- records

pub same-record : (image : List ℕ) (layout : Layout) (one other : DataSet) → SamePlaces one other → (n : ℕ) → record_at image layout other n ≡ record_at image layout one n
same-record image layout one other same n =
    (same_from_push (records_on image layout other n) (records_on image layout one n) (record_at image layout other n) (record_at image layout one n) (same_places image layout one other same (suc n))).1

-- the same records up to a length are the same at each place below it
pub records-below : (old new : List ℕ) (layout : Layout) (set : DataSet) (count place : ℕ) → records_on new layout set count ≡ records_on old layout set count → place < count → record_at new layout set place ≡ record_at old layout set place
records-below old new layout set zero place same less = absurd (omega (arith, less))
records-below old new layout set (suc count) place same less =
    let parts = same_from_push (records_on new layout set count) (records_on old layout set count) (record_at new layout set count) (record_at old layout set count) same in
    ⊎_elim
    (λ below. records-below old new layout set count place parts.0 below)
    (λ last. let here : place ≡ count = omega (arith, less, last) in ap (record_at new layout set) here ∙ parts.1 ∙ sym (ap (record_at old layout set) here))
    (cases_lt place count)

-- ---- one data set

module _ (layout : Layout) (legs : List Leg) (jobs : List Effective) (image : List ℕ) where
  pub there-moved : (one other : DataSet) → ((n : ℕ) → record_at image layout other n ≡ record_at image layout one n) → (entry : KeptEntry) → IsEntryThere layout legs jobs image one entry → IsEntryThere layout legs jobs image other entry
  there-moved one other same entry its = record {
    state = its.state;
    of_job = its.of_job;
    fits = its.fits;
    bytes = its.bytes;
    there = λ n less. same (entry.kept.place + n) ∙ its.there n less;
    program = its.program;
  }

  all-moved : (one other : DataSet) (entries : List KeptEntry) → ((n : ℕ) → record_at image layout other n ≡ record_at image layout one n) → AllByRecursion (IsEntryThere layout legs jobs image one) entries → AllByRecursion (IsEntryThere layout legs jobs image other) entries
  all-moved one other entries same each = each-implies (IsEntryThere layout legs jobs image one) (IsEntryThere layout legs jobs image other) entries (there-moved one other same) each

  pub there-stays : Stays (AreThere layout legs jobs image)
  there-stays = record {
    cut = λ most table its.
        all-moved table.set (record table.set { length = most }) (filter (λ entry. ends_within most entry.kept) table.entries) (λ n. refl)
        (each-filter (IsEntryThere layout legs jobs image table.set) (λ entry. ends_within most entry.kept) table.entries its);
    marked = λ on table its. all-moved table.set (record table.set { cataloged = on }) table.entries (λ n. refl) its;
    stamped = λ stamp table its. all-moved table.set (record table.set { stamp = stamp }) table.entries (λ n. refl) its;
    fresh = λ stamp placed parts. tt;
  }

pub within-stays : Stays EndWithin
within-stays = record {
  cut = λ most table its. passing (λ (entry : KeptEntry). ends_within most entry.kept) table.entries;
  marked = λ on table its. its;
  stamped = λ stamp table its. its;
  fresh = λ stamp placed parts. tt;
}

pub plain-stays : Stays KeepsNoneIfPlain
plain-stays = record {
  cut = λ most table its plain. ap (filter (λ (entry : KeptEntry). ends_within most entry.kept)) (its plain);
  marked = λ on table its. its;
  stamped = λ stamp table its. its;
  fresh = λ stamp placed parts plain. refl;
}

-- ---- more jobs

job-more : (jobs more : List Effective) (run : ℕ) (job : Effective) → job_at jobs run ≡ Some job → job_at (jobs ++ more) run ≡ Some job
job-more jobs more zero job is = is
job-more jobs more (suc before) job is = front jobs before is
  where
    front : (jobs : List Effective) (place : ℕ) → slice_get jobs place ≡ Some job → slice_get (jobs ++ more) place ≡ Some job
    front [] place is = absurd (some-not-none job (sym is))
    front (first ∷ rest) zero is = is
    front (first ∷ rest) (suc place) is = front rest place is

abbrev program_by : ℕ → Option Effective → Option Kind
program_by step job = option_map (λ (owned : OwnedStep). owned.step.program) (option_and_then (λ job. step_at job step) job)

pub program-more : (jobs more : List Effective) (run step : ℕ) (kind : Kind) → program_at jobs run step ≡ Some kind → program_at (jobs ++ more) run step ≡ Some kind
program-more jobs more run step kind is =
    option-cases (job_at jobs run)
    (λ none. absurd (some-not-none kind (sym is ∙ ap (program_by step) none)))
    (λ job e. ap (program_by step) (job-more jobs more run job e) ∙ sym (ap (program_by step) e) ∙ is)

-- ---- all data sets

-- with the jobs of later runs
pub has-more : (layout : Layout) (legs : List Leg) (jobs more : List Effective) (image : List ℕ) (sets : Named TableSet) → UnderEachName (AreThere layout legs jobs image) sets → UnderEachName (AreThere layout legs (jobs ++ more) image) sets
has-more layout legs jobs more image sets each name table e =
    each-implies (IsEntryThere layout legs jobs image table.set) (IsEntryThere layout legs (jobs ++ more) image table.set) table.entries
    (λ entry its. record {
      state = its.state;
      of_job = its.of_job;
      fits = its.fits;
      bytes = its.bytes;
      there = its.there;
      program = program-more jobs more entry.point.run entry.point.step _ its.program;
    })
    (each name table e)

-- with other jobs, of which the runs that were selected have the same programs
pub has-jobs : (layout : Layout) (legs : List Leg) (jobs later : List Effective) (image : List ℕ) (sets : Named TableSet)
    → ((run step : ℕ) (kind : Kind) → is_some (find (λ (leg : Leg). leg.number == run) legs) ≡ true → program_at jobs run step ≡ Some kind → program_at later run step ≡ Some kind)
    → UnderEachName (AreThere layout legs jobs image) sets → UnderEachName (AreThere layout legs later image) sets
has-jobs layout legs jobs later image sets keep each name table e =
    each-implies (IsEntryThere layout legs jobs image table.set) (IsEntryThere layout legs later image table.set) table.entries
    (λ entry its. record {
      state = its.state;
      of_job = its.of_job;
      fits = its.fits;
      bytes = its.bytes;
      there = its.there;
      program = keep entry.point.run entry.point.step _ (is_some-from (find (λ (leg : Leg). leg.number == entry.point.run) legs) its.of_job.leg its.of_job.led) its.program;
    })
    (each name table e)

-- with the legs of later runs
pub has-legs : (layout : Layout) (legs later : List Leg) (jobs : List Effective) (image : List ℕ) (sets : Named TableSet) → KeepLegs legs later → UnderEachName (AreThere layout legs jobs image) sets → UnderEachName (AreThere layout later jobs image) sets
has-legs layout legs later jobs image sets keep each name table e =
    each-implies (IsEntryThere layout legs jobs image table.set) (IsEntryThere layout later jobs image table.set) table.entries
    (λ entry its. record {
      state = its.state;
      of_job = record {
        leg = its.of_job.leg;
        led = keep entry.point.run its.of_job.leg its.of_job.led;
        start = its.of_job.start;
        begun = its.of_job.begun;
        entries = its.of_job.entries;
        least = its.of_job.least;
        most = its.of_job.most;
        is = its.of_job.is;
      };
      fits = its.fits;
      bytes = its.bytes;
      there = its.there;
      program = its.program;
    })
    (each name table e)

-- in another image that has the records which are committed
module _ (layout : Layout) (legs : List Leg) (jobs : List Effective) (old new : List ℕ) (table : TableSet) where
  below : (entry : KeptEntry) → IsTrue (ends_within table.set.length entry.kept) → (bytes : ℕ) → bytes ≡ entry.kept.bytes → (n : ℕ) → n < records_of bytes → entry.kept.place + n < table.set.length
  below entry ends bytes same n less =
      let end : entry.kept.place + records_of entry.kept.bytes ≤ table.set.length = nat_le-true _ _ ends in
      let less_kept : n < records_of entry.kept.bytes = subst (λ bytes. n < records_of bytes) same less in
      omega (arith, end, less_kept)

  table-then : EndWithin table → (table.entries ≢ [] → records_on new layout table.set table.set.length ≡ records_on old layout table.set table.set.length) → AreThere layout legs jobs old table → AreThere layout legs jobs new table
  table-then within same each = by table.entries refl
    where
      some : (first : KeptEntry) (rest : List KeptEntry) → table.entries ≡ first ∷ rest → table.entries ≢ []
      some first rest is none = absurd cc

      by : (entries : List KeptEntry) → table.entries ≡ entries → AreThere layout legs jobs new table
      by [] is = subst (λ entries. AllByRecursion (IsEntryThere layout legs jobs new table.set) entries) (sym is) tt
      by (first ∷ rest) is =
          each-both (λ (entry : KeptEntry). IsTrue (ends_within table.set.length entry.kept)) (IsEntryThere layout legs jobs old table.set) (IsEntryThere layout legs jobs new table.set) table.entries
          (λ entry ends its. record {
            state = its.state;
            of_job = its.of_job;
            fits = its.fits;
            bytes = its.bytes;
            there = λ n less.
                records-below old new layout table.set table.set.length (entry.kept.place + n) (same (some first rest is))
                (below entry ends (length (spelling (entry_with entry.kept.id its.state entry.point))) its.bytes n less)
                ∙ its.there n less;
            program = its.program;
          })
          within each

pub has-then : (layout : Layout) (office : Office) (old new : List ℕ) → AreWithin office.tables.sets → SameKept layout office.tables.sets old new → HasEntries layout office old → HasEntries layout office new
has-then layout office old new within same has name table e =
    table-then layout office.legs (jobs_of office.tables) old new table (within name table e) (same name table e) (has name table e)
