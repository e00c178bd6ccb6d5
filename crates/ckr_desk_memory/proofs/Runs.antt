-- The runs of the tables behind an event: each keeps its number and its deck, and but where it is selected to continue another one its job and the step at which it does.
use Rattle.std.proofs.Common.{◌≡◌, ◌+◌, ℕ, zero, suc, Bool, true, false, List, [], ◌∷◌, ◌++◌, map, length, refl, ap, sym, ◌∙◌, subst, Option, None, Some, arith, slice_get, slice_set}
use Rattle.std.proofs.lemmas.Option.{same_Some}
use Rattle.std.proofs.lemmas.Bool.{false≢true}
use Rattle.std.specs.Option.{option_map_or}
use Rattle.ckr_points_invariant.specs.EarlierRuns.{continues}
use Rattle.ckr_base.proofs.Options.{some-not-none}
use Rattle.std.specs.List.{AllByRecursion}
use Rattle.ckr_events.specs.declared.event.Event.{Event}
use Rattle.ckr_events.specs.declared.event.Event.TheVariants.{Submitted, Selected, Started, Rewritten, Checkpointed, StepEnded, Restarted, Held, Ended}
use Rattle.ckr_events.specs.declared.event.Ending.{Ending}
use Rattle.ckr_events.specs.declared.event.Ending.TheVariants.{Completed, Coded, Allocation}
use Rattle.ckr_events.specs.Jobs.{job_of}
use Rattle.ckr_jcl.specs.declared.deck.Job.{Job}
use Rattle.ckr_meaning.specs.EffectiveJob.{Effective}
use Rattle.ckr_meaning.specs.declared.place.Place.{Place}
use Rattle.ckr_meaning.specs.declared.place.Place.TheVariants.{Before, Opened, Within}
use Rattle.ckr_points.specs.Tables.{after_commit, queued_run}
use Rattle.ckr_points.specs.Marks.{point_at}
use Rattle.ckr_points.specs.Restart.{after_abnormal, after_coded, after_ended, after_event, after_restarted, by_run, by_step, kept_at, place_of, step_in}
use Rattle.ckr_points.specs.Rows.{RunRow, TablesModel, run_of, step_of_run, with_row}
use Rattle.ckr_points_tables.specs.Invariant.{is_submission}
use Rattle.ckr_points.specs.Follows.{follows}
use Rattle.ckr_volumes.specs.declared.layout.Layout.{Layout}
use Rattle.ckr_desk_memory.proofs.Continuations.{by-continuation}
use Rattle.ckr_desk_turn.specs.Queue.{AreNumbered}
use Rattle.ckr_desk_turn.proofs.Queue.Events.{row_twice, run_number}

-- an event submits a deck, or does something else
pub by-submission : (Q : Event → Type 0) → ((job : ℕ) (cards : List ℕ) → Q (Submitted job cards)) → ((event : Event) → is_submission event ≡ false → Q event) → (event : Event) → Q event
by-submission Q submits other (Submitted job cards) = submits job cards
by-submission Q submits other event = other event refl

-- ---- what a run, its step or the point of the step changes, holds of the tables

pub by-run : (Q : TablesModel → Type 0) (tables : TablesModel) (job : ℕ) (change : RunRow → TablesModel) → Q tables → ((row : RunRow) → run_of tables job ≡ Some row → Q (change row)) → Q (by_run job tables change)
by-run Q tables job change none each = by (run_of tables job) refl
  where
    by : (found : Option RunRow) → run_of tables job ≡ found → Q (option_map_or change found tables)
    by None at = none
    by (Some row) at = each row at

pub by-step : {X : Type 0} (Q : TablesModel → Type 0) (tables : TablesModel) (found : Option X) (change : X → TablesModel) → Q tables → ((x : X) → found ≡ Some x → Q (change x)) → Q (option_map_or change found tables)
by-step Q tables None change none each = none
by-step Q tables (Some x) change none each = each x refl

-- ---- what stays of a run

abbrev pub Kind : Type 0
Kind = ℕ × Job × Effective × ℕ

abbrev pub kind_of : RunRow → Kind
kind_of row = (row.number, row.deck, row.job, row.earlier_step)

same_at : (rows : List RunRow) (place : ℕ) (row new : RunRow) → slice_get rows place ≡ Some row → kind_of new ≡ kind_of row → map kind_of (slice_set rows place new) ≡ map kind_of rows
same_at [] place row new at same = refl
same_at (first ∷ rows) zero row new at same = ap (λ (k : Kind). k ∷ map kind_of rows) (same ∙ ap kind_of (sym (same_Some _ _ at)))
same_at (first ∷ rows) (suc place) row new at same = ap (λ (ks : List Kind). kind_of first ∷ ks) (same_at rows place row new at same)

module _ (tables : TablesModel) (numbered : AreNumbered 1 tables.runs) (job : ℕ) (row : RunRow) (at : run_of tables job ≡ Some row) where
  same_there : (number : ℕ) (new : RunRow) → run_of tables number ≡ Some row → kind_of new ≡ kind_of row → map kind_of (with_row new number tables.runs) ≡ map kind_of tables.runs
  same_there zero new there same = refl
  same_there (suc place) new there same = same_at tables.runs place row new there same

  pub same_row : (new : RunRow) → kind_of new ≡ kind_of row → map kind_of (with_row new new.number tables.runs) ≡ map kind_of tables.runs
  same_row new same =
      ap (λ n. map kind_of (with_row new n tables.runs)) (ap (λ (k : Kind). k.0) same ∙ run_number tables job row numbered at)
      ∙ same_there job new at same

  pub same_twice : (one two : RunRow) → kind_of one ≡ kind_of row → kind_of two ≡ kind_of row → map kind_of (with_row two two.number (with_row one one.number tables.runs)) ≡ map kind_of tables.runs
  same_twice one two first second =
      ap (λ n. map kind_of (with_row two two.number (with_row one n tables.runs))) (ap (λ (k : Kind). k.0) first ∙ sym (ap (λ (k : Kind). k.0) second))
      ∙ ap (map kind_of) (row_twice tables.runs two.number one two)
      ∙ same_row two second

-- ---- an event

module _ (tables : TablesModel) (numbered : AreNumbered 1 tables.runs) where
  abbrev Stay : TablesModel → Type 0
  Stay other = map kind_of other.runs ≡ map kind_of tables.runs

  abnormal_same : (job : ℕ) (row : RunRow) → run_of tables job ≡ Some row → (place : Place) → Stay (after_abnormal row place tables)
  abnormal_same job row at (Before step) = same_row tables numbered job row at _ refl
  abnormal_same job row at (Opened step) = same_row tables numbered job row at _ refl
  abnormal_same job row at (Within step writes) = by-step Stay tables (step_of_run row step) _ refl (λ owned there. same_row tables numbered job row at _ refl)

  coded_same : (job : ℕ) (row : RunRow) → run_of tables job ≡ Some row → (writes : ℕ) (lengths : List ℕ) → Stay (after_coded row writes lengths tables)
  coded_same job row at writes lengths =
      by-step Stay tables (step_of_run row (step_in (place_of row))) _ refl
      (λ owned there.
      by-step Stay (after_commit row owned (step_in (place_of row)) writes lengths tables) (step_of_run row (step_in (place_of row))) _ (same_row tables numbered job row at _ refl)
      (λ other again. same_twice tables numbered job row at _ _ refl refl))

  ended_same : (job : ℕ) (row : RunRow) → run_of tables job ≡ Some row → (ending : Ending) → Stay (after_ended row ending tables)
  ended_same job row at Completed = same_row tables numbered job row at _ refl
  ended_same job row at (Coded code rule writes lengths) = coded_same job row at writes lengths.items
  ended_same job row at (Allocation dd cause first second) = abnormal_same job row at (place_of row)

  restarted_same : (job initiator : ℕ) (row : RunRow) → run_of tables job ≡ Some row → (checkpoint : Bool) → Stay (by_step (λ owned step. after_restarted row owned step initiator checkpoint tables) row tables)
  restarted_same job initiator row at true =
      by-step Stay tables (step_of_run row (step_in (place_of row))) _ refl
      (λ owned there.
      by-step Stay tables row.in_effect _ refl
      (λ effect now. by-step Stay tables (kept_at tables.sets effect.set effect.kept.id) _ refl (λ entry kept. same_row tables numbered job row at _ refl)))
  restarted_same job initiator row at false =
      by-step Stay tables (step_of_run row (step_in (place_of row))) _ refl
      (λ owned there. by-step Stay tables (point_at row.points (step_in (place_of row))) _ refl (λ point began. same_row tables numbered job row at _ refl))

  -- each run keeps what it is
  pub runs-stay : (event : Event) (deck : Option Job) → continues event ≡ false → is_submission event ≡ false → Stay (after_event event deck tables)
  runs-stay (Submitted job cards) deck plain other = absurd (false≢true (sym other))
  runs-stay (Selected job initiator zero step id) deck plain other = by-run Stay tables job _ refl (λ row at. same_row tables numbered job row at _ refl)
  runs-stay (Selected job initiator (suc before) step id) deck plain other = absurd (false≢true (sym plain))
  runs-stay (Started job step items) deck plain other =
      by-run Stay tables job _ refl (λ row at. by-step Stay tables (step_of_run row step) _ refl (λ owned there. same_row tables numbered job row at _ refl))
  runs-stay (Rewritten job taken writes lengths place image) deck plain other =
      by-run Stay tables job _ refl (λ row at. by-step Stay tables (step_of_run row (step_in (place_of row))) _ refl (λ owned there. same_row tables numbered job row at _ refl))
  runs-stay (Checkpointed job id taken writes lengths place bytes) deck plain other =
      by-run Stay tables job _ refl (λ row at. by-step Stay tables (step_of_run row (step_in (place_of row))) _ refl (λ owned there. same_row tables numbered job row at _ refl))
  runs-stay (StepEnded job step rc writes lengths) deck plain other =
      by-run Stay tables job _ refl (λ row at. by-step Stay tables (step_of_run row (step_in (place_of row))) _ refl (λ owned there. same_twice tables numbered job row at _ _ refl refl))
  runs-stay (Restarted job initiator code checkpoint) deck plain other = by-run Stay tables job _ refl (λ row at. restarted_same job initiator row at checkpoint)
  runs-stay (Held job code writes lengths) deck plain other =
      by-run Stay tables job _ refl (λ row at. by-step Stay tables (step_of_run row (step_in (place_of row))) _ refl (λ owned there. same_row tables numbered job row at _ refl))
  runs-stay (Ended job ending) deck plain other = by-run Stay tables job _ refl (λ row at. ended_same job row at ending)
  runs-stay event deck plain other = by-run Stay tables (job_of event) _ refl (λ row at. same_row tables numbered (job_of event) row at _ refl)

-- ---- what holds of runs that stay

abbrev number_in : List Kind → ℕ
number_in [] = 0
number_in (k ∷ ks) = k.0

abbrev pub rest_in : List Kind → List Kind
rest_in [] = []
rest_in (k ∷ ks) = ks

pub numbered-stay : (from : ℕ) (old new : List RunRow) → map kind_of new ≡ map kind_of old → AreNumbered from old → AreNumbered from new
numbered-stay from [] [] same numbered = tt
numbered-stay from [] (row ∷ rows) same numbered = cc
numbered-stay from (first ∷ old) [] same numbered = cc
numbered-stay from (first ∷ old) (row ∷ rows) same numbered = (
  ap (λ (ks : List Kind). number_in ks) same ∙ numbered.0,
  numbered-stay (suc from) old rows (ap (λ (ks : List Kind). rest_in ks) same) numbered.1,
)

pub long-stay : (old new : List RunRow) → map kind_of new ≡ map kind_of old → length new ≡ length old
long-stay [] [] same = refl
long-stay [] (row ∷ rows) same = cc
long-stay (first ∷ old) [] same = cc
long-stay (first ∷ old) (row ∷ rows) same = ap (λ n. suc n) (long-stay old rows (ap rest_in same))

pub numbered-more : (from : ℕ) (rows : List RunRow) (deck : Job) → AreNumbered from rows → AreNumbered from (rows ++ queued_run (from + length rows) deck ∷ [])
numbered-more from [] deck numbered = (omega arith, tt)
numbered-more from (first ∷ rows) deck numbered =
    (numbered.0, subst (λ n. AreNumbered (suc from) (rows ++ queued_run n deck ∷ [])) (omega arith) (numbered-more (suc from) rows deck numbered.1))

-- ---- a row that is put

-- what holds of each run holds with a row of which it holds
pub each-put : (P : RunRow → Type 0) (rows : List RunRow) (number : ℕ) (row : RunRow) → P row → AllByRecursion P rows → AllByRecursion P (with_row row number rows)
each-put P rows zero row is each = each
each-put P rows (suc place) row is each = at rows place each
  where
    at : (rows : List RunRow) (place : ℕ) → AllByRecursion P rows → AllByRecursion P (slice_set rows place row)
    at [] place each = tt
    at (first ∷ rows) zero each = (is, each.1)
    at (first ∷ rows) (suc place) each = (each.0, at rows place each.1)

-- the runs keep their numbers, and there are as many
pub record KeepNumbers (old new : List RunRow) : Type 0 where
  pub numbered : AreNumbered 1 new
  pub long : length new ≡ length old

numbered_at : (from place : ℕ) (rows : List RunRow) (row new : RunRow) → slice_get rows place ≡ Some row → new.number ≡ row.number → AreNumbered from rows → AreNumbered from (slice_set rows place new)
numbered_at from place [] row new at same numbered = tt
numbered_at from zero (first ∷ rows) row new at same numbered = (same ∙ ap (λ (r : RunRow). r.number) (sym (same_Some first row at)) ∙ numbered.0, numbered.1)
numbered_at from (suc place) (first ∷ rows) row new at same numbered = (numbered.0, numbered_at (suc from) place rows row new at same numbered.1)

long_at : (place : ℕ) (rows : List RunRow) (new : RunRow) → length (slice_set rows place new) ≡ length rows
long_at place [] new = refl
long_at zero (first ∷ rows) new = refl
long_at (suc place) (first ∷ rows) new = ap (λ n. suc n) (long_at place rows new)

module _ (tables : TablesModel) (numbered : AreNumbered 1 tables.runs) where
  numbers_there : (job : ℕ) (row new : RunRow) → run_of tables job ≡ Some row → new.number ≡ row.number → KeepNumbers tables.runs (with_row new job tables.runs)
  numbers_there zero row new at same = absurd (some-not-none row (sym at))
  numbers_there (suc place) row new at same = record { numbered = numbered_at 1 place tables.runs row new at same numbered; long = long_at place tables.runs new }

  numbers_put : (job : ℕ) (row : RunRow) → run_of tables job ≡ Some row → (new : RunRow) → new.number ≡ row.number → KeepNumbers tables.runs (with_row new new.number tables.runs)
  numbers_put job row at new same =
      subst (λ n. KeepNumbers tables.runs (with_row new n tables.runs)) (sym (same ∙ run_number tables job row numbered at)) (numbers_there job row new at same)

  -- by each event but a submission
  pub numbers-stay : (layout : Layout) (event : Event) (deck : Option Job) → is_submission event ≡ false → follows layout tables event deck ≡ true → KeepNumbers tables.runs (after_event event deck tables).runs
  numbers-stay layout (Selected job initiator (suc before) step id) deck other follow =
      by-continuation layout tables job initiator before step deck (λ after. KeepNumbers tables.runs after.runs) id follow
      (λ its. numbers_put job its.row its.row_at _ refl) (λ id its entry. numbers_put job its.row its.row_at _ refl)
  numbers-stay layout event deck other follow =
      let same = runs-stay tables numbered event deck refl other in
      record {
        numbered = numbered-stay 1 tables.runs (after_event event deck tables).runs same numbered;
        long = long-stay tables.runs (after_event event deck tables).runs same;
      }
