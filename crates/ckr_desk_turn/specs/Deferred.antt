-- What a turn comes to that takes up a queued run: without RESTART it is selected; with it, the deferred rules decide.
use Rattle.std.specs.Prelude.{ℕ, Option, None, Some}
use Rattle.std.specs.Option.{option_map_or}
use Rattle.ckr_events.specs.declared.event.Event.TheVariants.{Denied as DeniedEvent, Selected as SelectedEvent}
use Rattle.ckr_jcl.specs.declared.deck.Restart.{Restart}
use Rattle.ckr_points.specs.declared.denial.Denial.{Denial}
use Rattle.ckr_points.specs.Denials.{denial_of, earlier_number, wanted_name}
use Rattle.ckr_points.specs.RuleCases.{Wanted, deferred_case, wanted_of}
use Rattle.ckr_points.specs.Rows.{KeptEntry, RunRow, TablesModel}
use Rattle.ckr_points.specs.Soundness.{serials}
use Rattle.ckr_rules.specs.RuleTables.{deferred, rule_number}
use Rattle.ckr_rules.specs.declared.cases.Verdict.{Verdict}
use Rattle.ckr_rules.specs.declared.cases.Verdict.TheVariants.{Step, Checkpoint, Denied}
use Rattle.ckr_volumes.specs.declared.layout.Layout.{Layout}
use Rattle.ckr_desk_turn.specs.declared.plan.Plan.{Plan}
use Rattle.ckr_desk_turn.specs.declared.plan.Plan.TheVariants.{Rest, Tell}
use Rattle.ckr_points.specs.declared.reply.Reply.TheVariants.{DeniedRestart, Idle, Restarted, Selected}

-- the restart is denied
abbrev pub denied_plan : RunRow → Denial → Plan
denied_plan row denial = Tell (DeniedRestart row.number denial) (DeniedEvent row.number (rule_number denial.rule) denial.name)

-- the run goes on at the start of the step of an earlier one
abbrev pub continued_at_start : ℕ → RunRow → Wanted → Plan
continued_at_start initiator row wanted =
    Tell (Restarted row.number (wanted_name wanted) None 0) (SelectedEvent row.number initiator (earlier_number wanted) wanted.number None)

-- it goes on at a checkpoint of it
abbrev pub continued_at_entry : ℕ → RunRow → Wanted → KeptEntry → Plan
continued_at_entry initiator row wanted entry =
    Tell (Restarted row.number (wanted_name wanted) (Some entry.kept.id) entry.point.taken)
    (SelectedEvent row.number initiator (earlier_number wanted) wanted.number (Some entry.kept.id))

abbrev pub continued_by : Verdict → TablesModel → ℕ → RunRow → Wanted → Plan
continued_by (Denied rule) tables initiator row wanted = denied_plan row (denial_of row wanted tables rule)
continued_by Step tables initiator row wanted = continued_at_start initiator row wanted
continued_by Checkpoint tables initiator row wanted = option_map_or (continued_at_entry initiator row wanted) wanted.entry (Rest Idle)

-- what the deferred rules say of a run with RESTART
abbrev pub deferred_verdict : Layout → TablesModel → RunRow → Wanted → Verdict
deferred_verdict layout tables row wanted = deferred (deferred_case (serials layout) row wanted tables)

abbrev pub deferred_plan : Layout → TablesModel → ℕ → RunRow → Restart → Plan
deferred_plan layout tables initiator row restart =
    let wanted = wanted_of row tables restart in
    continued_by (deferred_verdict layout tables row wanted) tables initiator row wanted

abbrev pub queued_plan : Layout → TablesModel → ℕ → RunRow → Option Restart → Plan
queued_plan layout tables initiator row None = Tell (Selected row.number) (SelectedEvent row.number initiator 0 0 None)
queued_plan layout tables initiator row (Some restart) = deferred_plan layout tables initiator row restart
