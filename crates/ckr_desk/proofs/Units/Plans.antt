-- What is told of a unit: the event of its plan, and what its run waits with.
use Rattle.std.proofs.Common.{◌≡◌, ℕ, true, refl, sym, subst, Option, Some, None}
use Rattle.std.specs.Option.{option_map_or}
use Rattle.std.proofs.lemmas.Option.{same_Some}
use Rattle.ckr_base.proofs.Options.{some-not-none}
use Rattle.ckr_base.specs.declared.code.Code.{Code}
use Rattle.ckr_console.specs.declared.question.Answer.{Answer}
use Rattle.ckr_console.specs.declared.question.Answer.TheVariants.{Yes, No, Hold, Silent}
use Rattle.ckr_events.specs.declared.event.Event.{Event}
use Rattle.ckr_desk_refines.specs.Memory.Plans.{IsSpelledPlan}
use Rattle.ckr_library.specs.NameMaps.{Name}
use Rattle.ckr_points.specs.Office.{Office}
use Rattle.ckr_points.specs.Rows.{RunRow, run_of}
use Rattle.ckr_desk_refines.specs.Moves.{event_in}
use Rattle.ckr_desk_turn.specs.Codes.{CodePlaceModel, inquiry_of}
use Rattle.ckr_desk_turn.specs.Inquiries.{decided}
use Rattle.ckr_desk_turn.specs.declared.plan.Plan.{Plan}
use Rattle.ckr_desk_turn.specs.declared.plan.Plan.TheVariants.{Rest, Tell, Work, Pass, Take, Ask, Wait}
use Rattle.ckr_desk_turn.specs.Desk.{DeskModel, TurnDone, done_by, progress_of, with_progress, work_of}
use Rattle.ckr_desk_turn.specs.Units.{unit_end}
use Rattle.ckr_desk_turn.specs.Spelling.{IsSpelled}
use Rattle.ckr_points.specs.Payload.{start_in_office}

-- what is said of a plan with an event is said of the event
pub spelled-in : (plan : Plan) → IsSpelledPlan plan → (event : Event) → event_in plan ≡ Some event → IsSpelled event
spelled-in (Rest reply) shape event is = absurd (some-not-none event (sym is))
spelled-in (Tell reply told) shape event is = subst IsSpelled (same_Some told event is) shape.0
spelled-in (Work job) shape event is = absurd (some-not-none event (sym is))
spelled-in (Pass job reply) shape event is = absurd (some-not-none event (sym is))
spelled-in (Take job) shape event is = absurd (some-not-none event (sym is))
spelled-in (Ask inquiry) shape event is = absurd (some-not-none event (sym is))
spelled-in (Wait job code) shape event is = absurd (some-not-none event (sym is))

-- ---- a unit that tells no event leaves what the events have brought about

plan-office : (plan : Plan) (desk : DeskModel) → (done_by plan desk).event ≡ None → (done_by plan desk).desk.office ≡ desk.office
plan-office (Tell reply event) desk none = absurd (some-not-none event none)
plan-office _ desk none = refl

either-office : {X : Type 0} (office : Office) (o : Option X) (f : X → TurnDone) (none : TurnDone) → (none.event ≡ None → none.desk.office ≡ office) → ((x : X) → (f x).event ≡ None → (f x).desk.office ≡ office)
    → (option_map_or f o none).event ≡ None → (option_map_or f o none).desk.office ≡ office
either-office office None f none first second = first
either-office office (Some x) f none first second = second x

pub work-office : (answer : Answer) (run : ℕ) (desk : DeskModel) → (work_of answer run desk).event ≡ None → (work_of answer run desk).desk.office ≡ desk.office
work-office answer run desk =
    either-office desk.office (run_of desk.office.tables run) _ _ (λ none. refl)
    (λ row. either-office desk.office (start_in_office desk.office row) _ _ (λ none. refl)
    (λ start. either-office desk.office (progress_of desk run) _ _ (λ none. refl)
    (λ progress. plan-office _ (with_progress row.number (unit_end start progress).progress desk))))

-- ---- what is told of a code with the operator's answer, if it is no event

pub waits-by : (answer : Answer) (row : RunRow) (initiator : ℕ) (code : Code) (reached : CodePlaceModel) (id : Option Name) (taken : ℕ) → event_in (decided answer (inquiry_of row initiator true code reached id taken)) ≡ None
    → decided answer (inquiry_of row initiator true code reached id taken) ≡ Wait row.number code
waits-by Yes row initiator code reached id taken none = absurd (some-not-none _ none)
waits-by No row initiator code reached id taken none = absurd (some-not-none _ none)
waits-by Hold row initiator code reached id taken none = absurd (some-not-none _ none)
waits-by Silent row initiator code reached id taken none = refl
