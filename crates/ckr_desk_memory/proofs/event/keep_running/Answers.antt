use Rattle.std.proofs.Common.{◌≡◌, ◌<◌, ℕ, zero, suc, None, Some, arith, List, ap, refl, sym, ◌∙◌, map, find, Bool, false, true, Option, inl, inr, subst, ◌+◌, ◌-◌, vec_len, vec_capacity}
use Rattle.std.specs.Option.{is_some}
use Rattle.std.proofs.lemmas.Bool.{false≢true}
use Rattle.ckr_base.specs.declared.code.Code.{Code}
use Rattle.ckr_events.specs.declared.event.Event.{Event}
use Rattle.ckr_events.specs.declared.event.Event.TheVariants.{Restarted, Selected}
use Rattle.ckr_library.specs.Catalog.{records_of}
use Rattle.ckr_library.specs.NameMaps.{Name}
use Rattle.ckr_desk_memory.specs.EventChanges.{HasEntered, is_point_of, without_run}
use Rattle.ckr_desk_memory.specs.Preparation.{HasAgain}
use Rattle.ckr_desk_plans.specs.declared.running_step.RunningStep.{RunningStep}
use Rattle.ckr_points.specs.Rows.{TablesModel}
use Rattle.ckr_desk_memory.specs.RunningSteps.{GoesOn, IsStartedFrom, MayGoBack, MayRun, StepGoesBack}
use Rattle.ckr_desk_memory.specs.Parts.{step_seen}
use Rattle.ckr_desk_memory.specs.View.{PointView, RunningStepView}
use Rattle.ckr_desk_memory.proofs.Invariant.{seen-without}
use Rattle.ckr_desk_memory.proofs.Starts.NewStep.{starts-prepared}
use Rattle.ckr_desk_memory.proofs.event.keep_running.Goals as goal

pub start_step-requires : goal.start_step-requires
start_step-requires c =
    let may = subst (λ event. MayRun event c.args.tables.now.desk c.args.begun.now (vec_capacity c.args.running.now - vec_len c.args.running.now)) c.in-Started.is c.requires.may in
    record { job = may.few; empty = may.empty; rows = may.rows; numbered = may.numbered; fit = may.fit; room = omega (arith, may.some) }

pub returns-in-Started : goal.returns-in-Started
returns-in-Started c = λ points from.
    let its = c.in-Started in
    let may = subst (λ event. MayRun event c.args.tables.now.desk c.args.begun.now (vec_capacity c.args.running.now - vec_len c.args.running.now)) its.is c.requires.may in
    subst (λ event. GoesOn event c.args.tables.now.desk points (map step_seen c.args.running.now.items) (map step_seen c.start_step.new.running.items)) (sym its.is)
    (starts-prepared c.args.tables.now.desk its.job its.step _ _ c.args.begun.now may.prepared c.start_step.ensures)

pub returns-in-Cancelled : goal.returns-in-Cancelled
returns-in-Cancelled c = λ points from.
    subst (λ event. GoesOn event c.args.tables.now.desk points (map step_seen c.args.running.now.items) (map step_seen c.serve.new.running.items)) (sym c.in-Cancelled.is) c.serve.ensures

pub returns-in-Checkpointed : goal.returns-in-Checkpointed
returns-in-Checkpointed c = λ points from.
    let job = c.in-Checkpointed.job in
    let before = map step_seen c.args.running.now.items in
    let after = map step_seen c.enter.new.running.items in
    subst (λ event. GoesOn event c.args.tables.now.desk points before after) (sym c.in-Checkpointed.is)
    (subst (λ check. HasEntered job check (c.in-Checkpointed.place + records_of c.in-Checkpointed.bytes) before after) c.check_of.ensures
    (subst (λ most. HasEntered job c.check_of.result most before after) c.end_of.ensures c.enter.ensures))

pub check_of-requires : goal.check_of-requires
check_of-requires c =
    subst (λ event. MayRun event c.args.tables.now.desk c.args.begun.now (vec_capacity c.args.running.now - vec_len c.args.running.now)) c.in-Checkpointed.is c.requires.may

pub returns-in-StepEnded : goal.returns-in-StepEnded
returns-in-StepEnded c = λ points from.
    let Goes : Event → Type 0 = λ event. GoesOn event c.args.tables.now.desk points (map step_seen c.args.running.now.items) (map step_seen c.leave.new.running.items) in
    let leaves = ap (map step_seen) c.leave.ensures.items ∙ seen-without c.in-StepEnded.job c.args.running.now.items in
    elim c.in-StepEnded.is [
      | inl step ↦ subst Goes (sym step.4) leaves
      | inr other ↦ elim other [
        | inl held ↦ subst Goes (sym held.3) leaves
        | inr end ↦ subst Goes (sym end.1) leaves
      ]
    ]

module _ (tables : TablesModel) (job initiator step : ℕ) (begun : Option RunningStep) where
  may-go-over : (earlier : ℕ) (id : Option Name) (room : ℕ) → MayRun (Selected job initiator earlier step id) tables begun room → 0 < earlier → is_some id ≡ true → MayGoBack job tables begun room
  may-go-over zero id room may low there = absurd (omega (arith, low))
  may-go-over (suc before) None room may low there = absurd (false≢true there)
  may-go-over (suc before) (Some id) room may low there = may

  goes-over : (earlier : ℕ) (id : Option Name) (points : List PointView) (old new : List RunningStepView) → (0 < earlier → is_some id ≡ true → (point : Option PointView) → HasAgain point tables job begun → StepGoesBack point job tables old new)
      → (earlier ≡ 0 → new ≡ old) → (is_some id ≡ false → new ≡ old) → IsStartedFrom (Selected job initiator earlier step id) tables points begun → GoesOn (Selected job initiator earlier step id) tables points old new
  goes-over zero id points old new over alone start from = alone refl
  goes-over (suc before) None points old new over alone start from = start refl
  goes-over (suc before) (Some id) points old new over alone start from = over (omega arith) refl (find (is_point_of job) points) from

pub go_over-requires : goal.go_over-requires
go_over-requires c = λ low there.
    let its = c.in-Selected in
    may-go-over c.args.tables.now.desk its.job its.initiator its.step c.args.begun.now its.earlier its.id (vec_capacity c.args.running.now - vec_len c.args.running.now)
    (subst (λ event. MayRun event c.args.tables.now.desk c.args.begun.now (vec_capacity c.args.running.now - vec_len c.args.running.now)) its.is c.requires.may)
    low (sym c.is_some.ensures ∙ there)

pub returns-in-Selected : goal.returns-in-Selected
returns-in-Selected c = λ points from.
    let its = c.in-Selected in
    let before = map step_seen c.args.running.now.items in
    let after = map step_seen c.go_over.new.running.items in
    subst (λ event. GoesOn event c.args.tables.now.desk points before after) (sym its.is)
    (goes-over c.args.tables.now.desk its.job its.initiator its.step c.args.begun.now its.earlier its.id points before after (λ low there. c.go_over.ensures.over low (c.is_some.ensures ∙ there))
    (λ none. ap (map step_seen) (c.go_over.ensures.alone none)) (λ none. ap (map step_seen) (c.go_over.ensures.start (c.is_some.ensures ∙ none)))
    (subst (λ event. IsStartedFrom event c.args.tables.now.desk points c.args.begun.now) its.is from))

module _ (tables : TablesModel) (job initiator : ℕ) (code : Code) (begun : Option RunningStep) where
  may-restart : (checkpoint : Bool) (room : ℕ) → MayRun (Restarted job initiator code checkpoint) tables begun room → checkpoint ≡ true → MayGoBack job tables begun room
  may-restart true room may is = may
  may-restart false room may is = absurd (false≢true is)

  goes-restarted : (checkpoint : Bool) (points : List PointView) (old new : List RunningStepView) → (checkpoint ≡ true → (point : Option PointView) → HasAgain point tables job begun → StepGoesBack point job tables old new)
      → (checkpoint ≡ false → new ≡ without_run job old) → IsStartedFrom (Restarted job initiator code checkpoint) tables points begun → GoesOn (Restarted job initiator code checkpoint) tables points old new
  goes-restarted true points old new back start from = back refl (find (is_point_of job) points) from
  goes-restarted false points old new back start from = start refl

pub restart-requires : goal.restart-requires
restart-requires c =
    let its = c.in-Restarted in
    may-restart c.args.tables.now.desk its.job its.initiator its.code c.args.begun.now its.checkpoint (vec_capacity c.args.running.now - vec_len c.args.running.now)
    (subst (λ event. MayRun event c.args.tables.now.desk c.args.begun.now (vec_capacity c.args.running.now - vec_len c.args.running.now)) its.is c.requires.may)

pub returns-in-Restarted : goal.returns-in-Restarted
returns-in-Restarted c = λ points from.
    let its = c.in-Restarted in
    let before = map step_seen c.args.running.now.items in
    let after = map step_seen c.restart.new.running.items in
    subst (λ event. GoesOn event c.args.tables.now.desk points before after) (sym its.is)
    (goes-restarted c.args.tables.now.desk its.job its.initiator its.code c.args.begun.now its.checkpoint points before after c.restart.ensures.back c.restart.ensures.start
    (subst (λ event. IsStartedFrom event c.args.tables.now.desk points c.args.begun.now) its.is from))
