use Rattle.std.proofs.Common.{ℕ, Some, ap, sym, ◌∙◌}
use Rattle.ckr_events.specs.declared.event.Event.TheVariants.{Selected as SelectedEvent}
use Rattle.ckr_library.specs.NameMaps.{Name}
use Rattle.ckr_points.specs.Denials.{earlier_number, wanted_name}
use Rattle.ckr_points_follows.specs.Model.Wanted.{wanted_in}
use Rattle.ckr_points_tables.specs.Entries.{entry_in}
use Rattle.ckr_desk_turn.specs.declared.plan.Plan.{Plan}
use Rattle.ckr_desk_turn.specs.declared.plan.Plan.TheVariants.{Tell}
use Rattle.ckr_points.specs.declared.reply.Reply.TheVariants.{Restarted}
use Rattle.ckr_desk_plans.proofs.deferred.at_entry.Goals as goal

pub returns-clause-plan : goal.returns-clause-plan
returns-clause-plan c row same =
    let wanted = wanted_in c.args.wanted.now in
    let taken = (entry_in c.args.entry.now).point.taken in
    let tell : ℕ → Name → ℕ → ℕ → Plan = λ job id earlier taken. Tell (Restarted job (wanted_name wanted) (Some id) taken) (SelectedEvent job c.args.initiator earlier wanted.number (Some id)) in
    ap (λ name. Tell (Restarted c.args.job name (Some c.copied.result) c.taken_at.result) c.continued_event-event.result) c.name_of.ensures
    ∙ ap (Tell (Restarted c.args.job (wanted_name wanted) (Some c.copied.result) c.taken_at.result))
    (c.continued_event-event.ensures.event ∙ ap (SelectedEvent c.args.job c.args.initiator c.earlier_number.result wanted.number) c.copy_of_id.ensures.value)
    ∙ ap (λ id. tell c.args.job id c.earlier_number.result c.taken_at.result) c.copied.ensures
    ∙ ap (λ n. tell c.args.job (entry_in c.args.entry.now).kept.id n c.taken_at.result) c.earlier_number.ensures
    ∙ ap (tell c.args.job (entry_in c.args.entry.now).kept.id (earlier_number wanted)) c.taken_at.ensures
    ∙ ap (λ n. tell n (entry_in c.args.entry.now).kept.id (earlier_number wanted) taken) (sym same)
