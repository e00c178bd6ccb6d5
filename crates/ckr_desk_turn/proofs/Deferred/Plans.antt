-- What holds of the plan of a queued run: it is selected, or its restart is denied, or nothing is done.
use Rattle.std.specs.Prelude.{ℕ, Option, None, Some}
use Rattle.std.specs.Option.{option_map_or}
use Rattle.ckr_events.specs.declared.event.Event.TheVariants.{Denied as DeniedEvent, Selected as SelectedEvent}
use Rattle.ckr_jcl.specs.declared.deck.Restart.{Restart}
use Rattle.ckr_library.specs.NameMaps.{Name}
use Rattle.ckr_points.specs.RuleCases.{Wanted, wanted_of}
use Rattle.ckr_points.specs.Rows.{KeptEntry, RunRow, TablesModel}
use Rattle.ckr_rules.specs.declared.cases.Verdict.{Verdict}
use Rattle.ckr_rules.specs.declared.cases.Verdict.TheVariants.{Step, Checkpoint, Denied}
use Rattle.ckr_volumes.specs.declared.layout.Layout.{Layout}
use Rattle.ckr_desk_turn.specs.declared.plan.Plan.{Plan}
use Rattle.ckr_desk_turn.specs.declared.plan.Plan.TheVariants.{Rest, Tell}
use Rattle.ckr_points.specs.declared.reply.Reply.{Reply}
use Rattle.ckr_points.specs.declared.reply.Reply.TheVariants.{Idle}
use Rattle.ckr_desk_turn.specs.Deferred.{continued_at_entry, continued_by, deferred_verdict, queued_plan}

module _ (Q : Plan → Type 0) (layout : Layout) (tables : TablesModel) (initiator : ℕ) (row : RunRow)
    (rests : Q (Rest Idle)) (denied : (reply : Reply) (rule : ℕ) (name : Option Name) → Q (Tell reply (DeniedEvent row.number rule name)))
    (selected : (reply : Reply) (earlier step : ℕ) (id : Option Name) → Q (Tell reply (SelectedEvent row.number initiator earlier step id))) where
  at-entry : (wanted : Wanted) (entry : Option KeptEntry) → Q (option_map_or (continued_at_entry initiator row wanted) entry (Rest Idle))
  at-entry wanted None = rests
  at-entry wanted (Some entry) = selected _ _ _ _

  by-judged : (wanted : Wanted) (verdict : Verdict) → Q (continued_by verdict tables initiator row wanted)
  by-judged wanted (Denied rule) = denied _ _ _
  by-judged wanted Step = selected _ _ _ _
  by-judged wanted Checkpoint = at-entry wanted wanted.entry

  pub by-queued : (restart : Option Restart) → Q (queued_plan layout tables initiator row restart)
  by-queued None = selected _ _ _ _
  by-queued (Some restart) =
      let wanted = wanted_of row tables restart in
      by-judged wanted (deferred_verdict layout tables row wanted)
