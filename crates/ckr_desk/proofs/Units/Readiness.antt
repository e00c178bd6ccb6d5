-- What is ready for the event of a unit is ready behind the unit too.
use Rattle.std.proofs.Common.{◌≡◌, ◌≤◌, ◌<◌, ℕ, true, false, find, List, [], ◌∷◌, ap, sym, ◌∙◌, subst, Option, Some, None}
use Rattle.std.specs.List.{AllByRecursion}
use Rattle.std.proofs.lemmas.Bool.{false≢true, true≢false}
use Rattle.ckr_book.specs.Book.{room_of}
use Rattle.ckr_events.specs.declared.event.Event.{Event}
use Rattle.ckr_events.specs.declared.event.Event.TheVariants.{Ended, Held, Restarted, Rewritten, Selected}
use Rattle.ckr_desk_refines.specs.Memory.RewriteCounts.{may_count}
use Rattle.ckr_desk_refines.specs.Memory.Prepared.{Prepared}
use Rattle.ckr_desk_refines.specs.Memory.EventChanges.{is_point_of}
use Rattle.ckr_desk_refines.proofs.Memory.OwnUnits.{others-commit}
use Rattle.ckr_desk_refines.specs.Memory.OwnSteps.{IsOfOther, KnowsItsPoint, PlanCommits, PlanIsOf}
use Rattle.ckr_desk_refines.specs.Memory.Plans.{IsUnitPlan, is_unit_event}
use Rattle.ckr_desk_refines.specs.Memory.Preparation.{HasAgain, IsPrepared}
use Rattle.ckr_desk_refines.specs.Memory.View.{PointView, RunningStepView}
use Rattle.ckr_points.specs.Rows.{TablesModel}
use Rattle.ckr_desk_refines.specs.Tables.Invariant.{HasRoom}
use Rattle.ckr_desk_refines.specs.Tables.View.{RoomyTables}
use Rattle.ckr_desk_refines.specs.Moves.{event_in}
use Rattle.ckr_desk_turn.specs.Inquiries.{is_ask}
use Rattle.ckr_desk_turn.specs.declared.plan.Plan.{Plan}
use Rattle.ckr_desk_turn.specs.declared.plan.Plan.TheVariants.{Rest, Tell, Work, Pass, Take, Ask, Wait}
use Rattle.ckr_desk.specs.declared.preparation.Ready.{Ready}
use Rattle.ckr_desk.specs.Continuation.{PlanKnows}
use Rattle.ckr_desk.specs.Preparation.{IsReady, IsReadyFor}
use Rattle.ckr_desk.specs.State.{DeskView, need_of}
use Rattle.ckr_desk.specs.Units.{IsSettledPlan}

-- what a unit tells is settled where it asks nobody
pub settled-so : (plan : Plan) → IsUnitPlan plan → is_ask plan ≡ false → IsSettledPlan plan
settled-so (Work job) shape settled = absurd shape
settled-so (Pass job reply) shape settled = absurd shape
settled-so (Take job) shape settled = absurd shape
settled-so (Ask inquiry) shape settled = absurd (true≢false settled)
settled-so _ shape settled = tt

-- and no run goes on with an earlier one by it
event-knows : (tables : TablesModel) (points : List PointView) (event : Event) → is_unit_event event ≡ true → KnowsItsPoint event tables points
event-knows tables points (Selected job initiator earlier step id) its = absurd (false≢true its)
event-knows tables points _ its = tt

pub unit-knows : (tables : TablesModel) (points : List PointView) (plan : Plan) → IsUnitPlan plan → PlanKnows tables points plan
unit-knows tables points (Tell reply event) shape = event-knows tables points event shape
unit-knows tables points _ shape = tt

-- what the unit's step commits, it commits behind the unit with steps of other runs beside it
pub commits-beside : (tables : TablesModel) (run : ℕ) (plan : Plan) (seen moved : RunningStepView) (others : List RunningStepView) → PlanIsOf run plan → moved.run ≡ seen.run → moved.sets.sets ≡ seen.sets.sets
    → AllByRecursion (IsOfOther run) others → PlanCommits tables (seen ∷ []) plan → PlanCommits tables (moved ∷ others) plan
commits-beside tables run (Tell reply event) seen moved others of_run same sets apart commits =
    others-commit tables event seen moved others same sets (subst (λ n. AllByRecursion (IsOfOther n) others) (sym of_run) apart) commits
commits-beside tables run _ seen moved others of_run same sets apart commits = tt

module _ {D : Type 0} (old mid : DeskView D) (tables : mid.jobs.tables ≡ old.jobs.tables) (points : mid.jobs.points ≡ old.jobs.points) (place : mid.jobs.running_room ≡ old.jobs.running_room) (book : room_of mid.store.book ≡ room_of old.store.book) where
  still-prepared : (event : Event) → is_unit_event event ≡ true → (prepared : Prepared) → IsPrepared old.jobs event None prepared → IsPrepared mid.jobs event None prepared
  still-prepared (Rewritten job taken writes lengths place image) its prepared is = record {
    tables = subst (λ (t : RoomyTables). HasRoom t (Rewritten job taken writes lengths place image)) (sym tables) is.tables;
    queue = tt;
    uses = is.uses;
    started = tt;
    points = tt;
  }
  still-prepared (Restarted job initiator code false) its prepared is = record {
    tables = subst (λ (t : RoomyTables). HasRoom t (Restarted job initiator code false)) (sym tables) is.tables;
    queue = tt;
    uses = is.uses;
    started = tt;
    points = tt;
  }
  still-prepared (Restarted job initiator code true) its prepared is = record {
    tables = subst (λ (t : RoomyTables). HasRoom t (Restarted job initiator code true)) (sym tables) is.tables;
    queue = tt;
    uses = is.uses;
    started = record {
      room = subst (λ (n : ℕ). 0 < n) (sym place) is.started.room;
      empty = is.started.empty;
      step = subst (λ (t : RoomyTables). HasAgain (find (is_point_of job) mid.jobs.points) t.desk job prepared.step) (sym tables)
          (subst (λ (its : List PointView). HasAgain (find (is_point_of job) its) old.jobs.tables.desk job prepared.step) (sym points) is.started.step);
    };
    points = tt;
  }
  still-prepared (Held job code writes lengths) its prepared is = record {
    tables = subst (λ (t : RoomyTables). HasRoom t (Held job code writes lengths)) (sym tables) is.tables;
    queue = tt;
    uses = is.uses;
    started = tt;
    points = tt;
  }
  still-prepared (Ended job ending) its prepared is = record {
    tables = subst (λ (t : RoomyTables). HasRoom t (Ended job ending)) (sym tables) is.tables;
    queue = tt;
    uses = is.uses;
    started = tt;
    points = tt;
  }
  still-prepared _ its prepared is = absurd (false≢true its)

  still-ready : (event : Event) → is_unit_event event ≡ true → (ready : Ready) → IsReady event None old ready → IsReady event None mid ready
  still-ready event its ready is = record {
    counted = is.counted;
    small = is.small;
    fits = subst (λ n. need_of event ≤ n) (sym book) is.fits;
    counts = ap (λ (t : RoomyTables). may_count event t.desk.sets) tables ∙ is.counts;
    prepared = still-prepared event its ready.prepared is.prepared;
  }

  pub ready-behind : (plan : Plan) → IsUnitPlan plan → (ready : Option Ready) → IsReadyFor (event_in plan) old ready → IsReadyFor (event_in plan) mid ready
  ready-behind (Rest reply) shape ready is = tt
  ready-behind (Tell reply event) shape None is = absurd is
  ready-behind (Tell reply event) shape (Some ready) is = still-ready event shape ready is
  ready-behind (Work job) shape ready is = absurd shape
  ready-behind (Pass job reply) shape ready is = absurd shape
  ready-behind (Take job) shape ready is = absurd shape
  ready-behind (Ask inquiry) shape ready is = tt
  ready-behind (Wait job code) shape ready is = tt
