-- What the operator's answer tells is ready.
use Rattle.std.proofs.Common.{◌≡◌, ◌∙◌, refl, sym, subst, Option, Some, None, Result, Err, IfOk}
use Rattle.ckr_book.specs.Book.{room_of}
use Rattle.ckr_console.specs.declared.question.Answer.{Answer}
use Rattle.ckr_events.specs.declared.event.Event.{Event}
use Rattle.ckr_desk_refines.specs.Memory.Preparation.{IsPreparedFor}
use Rattle.ckr_desk_refines.specs.Memory.View.{JobsView}
use Rattle.ckr_desk_refines.specs.Memory.Prepared.{Prepared}
use Rattle.ckr_desk_store.specs.State.{StoreView}
use Rattle.ckr_desk_turn.specs.declared.inquiry.Inquiry.{Inquiry}
use Rattle.ckr_desk_turn.specs.declared.plan.Plan.{Plan}
use Rattle.ckr_desk_turn.specs.Inquiries.{decided}
use Rattle.ckr_desk.proofs.Turns.Decided.{by-answer}
use Rattle.ckr_desk.specs.declared.error.DeskError.{DeskError}
use Rattle.ckr_desk.specs.declared.error.DeskError.TheVariants.{NoMemory, DiskFault, BookFull, Stopped}
use Rattle.ckr_desk.specs.Calls.{HasSameJobs}
use Rattle.ckr_desk.specs.Preparation.{IsPreparedPlan, NotFit, NotReadyFor}
use Rattle.ckr_desk.specs.Requests.{IsFull}
use Rattle.ckr_desk.specs.State.{DeskView}

-- an error answers nothing
pub none-ok : {T E : Type 0} (P : T → Type 0) (result : Result T E) (error : E) → result ≡ Err error → IfOk result P
none-ok P result error is = subst (λ r. IfOk r P) (sym is) tt

-- the memory for all answers is that for each
pub prepared-by : (jobs : JobsView) (answer : Answer) (inquiry : Inquiry) (prepared : Prepared) → IsPreparedFor jobs inquiry prepared → IsPreparedPlan jobs (decided answer inquiry) prepared
prepared-by jobs answer inquiry prepared is =
    by-answer (λ (plan : Plan). IsPreparedPlan jobs plan prepared) answer inquiry (refl, is.restart) (refl, is.refusal) (refl, is.hold) tt tt

-- where the book has no room for what he answers, that isn't ready
pub unfit-unready : {D : Type 0} (event : Option Event) (old mid new : DeskView D) → HasSameJobs old mid → mid.store ≡ old.store → (error : DeskError) → NotFit event mid new error → NotReadyFor event old new error
unfit-unready event old mid new jobs store NoMemory not = absurd not
unfit-unready event old mid new jobs store DiskFault not = absurd not
unfit-unready {D} None old mid new jobs store (BookFull need room) not = absurd not.0
unfit-unready {D} (Some event) old mid new jobs store (BookFull need room) not =
    let full : IsFull (room_of old.store.book) (Some event) need room = subst (λ (s : StoreView D). IsFull (room_of s.book) (Some event) need room) store not.0 in (
      full.0,
      full.1,
      full.2,
      record {
        jobs = record {
          tables = not.1.jobs.tables ∙ jobs.tables;
          running = not.1.jobs.running ∙ jobs.running;
          failed = not.1.jobs.failed ∙ jobs.failed;
          points = not.1.jobs.points ∙ jobs.points;
        };
        store = not.1.store ∙ store;
      },
    )
unfit-unready event old mid new jobs store (Stopped fault) not = absurd not
