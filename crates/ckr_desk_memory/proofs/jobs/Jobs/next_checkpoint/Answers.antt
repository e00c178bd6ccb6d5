use Rattle.std.proofs.Common.{◌≡◌, IfSome, ap, sym, subst, ◌∙◌}
use Rattle.std.specs.Option.{is_some}
use Rattle.std.proofs.lemmas.Option.{IfSome_then}
use Rattle.ckr_base.proofs.Sequences.{find-holds}
use Rattle.ckr_entry.specs.Entry.{spelling}
use Rattle.ckr_entry.specs.Parts.{entry_of}
use Rattle.ckr_desk_plans.specs.declared.entry.NextEntry.{NextEntry}
use Rattle.ckr_desk_plans.specs.Entries.{entry_made}
use Rattle.ckr_desk_plans.specs.EntryTypes.{IsFormedWithState, IsTyped}
use Rattle.ckr_desk_memory.specs.EventChanges.{is_of_run}
use Rattle.ckr_desk_memory.specs.Invariant.{IsRunnable}
use Rattle.ckr_desk_memory.specs.OwnSets.{IsRunningOf}
use Rattle.ckr_desk_memory.specs.Parts.{step_seen}
use Rattle.ckr_desk_memory.proofs.Checkpoints.{checkpoint-commits, checkpoint-follows, entry-space}
use Rattle.ckr_desk_memory.proofs.Holders.Rooms.{stored-fit}
use Rattle.ckr_desk_memory.proofs.jobs.Jobs.next_checkpoint.Goals as goal

pub next_entry-requires-clause-rows : goal.next_entry-requires-clause-rows
next_entry-requires-clause-rows c = c.requires.jobs.1.rows

pub checkpoint_with-requires-clause-entry : goal.checkpoint_with-requires-clause-entry
checkpoint_with-requires-clause-entry c row own at there = ap entry_made (sym c.in-Some.is) ∙ c.in_ok-made.ensures.entry row own at there

pub checkpoint_with-requires-clause-bytes : goal.checkpoint_with-requires-clause-bytes
checkpoint_with-requires-clause-bytes c = subst (λ found. IfSome found (λ (made : NextEntry). made.bytes.items ≡ spelling (entry_of made.point))) c.in-Some.is c.in_ok-made.ensures.bytes

pub checkpoint_with-requires-clause-typed : goal.checkpoint_with-requires-clause-typed
checkpoint_with-requires-clause-typed c = subst (λ found. IfSome found (λ (made : NextEntry). IsTyped c.args.on.now.step.state)) c.in-Some.is c.in_ok-made.ensures.typed

pub checkpoint_with-requires-clause-form : goal.checkpoint_with-requires-clause-form
checkpoint_with-requires-clause-form c = subst (λ found. IfSome found (λ (made : NextEntry). IsFormedWithState (entry_of made.point))) c.in-Some.is c.in_ok-made.ensures.form

pub returns-in-Some-clause-fits : goal.returns-in-Some-clause-fits
returns-in-Some-clause-fits c row own at there = c.checkpoint_with.ensures.some row own at there ∙ ap is_some (ap entry_made (sym c.in-Some.is) ∙ c.in_ok-made.ensures.entry row own at there)

pub returns-in-None-clause-fits : goal.returns-in-None-clause-fits
returns-in-None-clause-fits c row own at there = ap is_some (ap entry_made (sym c.in-None.is) ∙ c.in_ok-made.ensures.entry row own at there)

pub returns-in-Some-clause-set : goal.returns-in-Some-clause-set
returns-in-Some-clause-set c layout are =
    IfSome_then c.checkpoint_with.result c.checkpoint_with.ensures.checkpoint (λ made its. entry-space layout c.args.self.now.tables.desk (step_seen c.args.on.now) made are.laid its)

pub returns-in-Some-clause-follows : goal.returns-in-Some-clause-follows
returns-in-Some-clause-follows c layout are own first =
    let desk = c.args.self.now.tables.desk in
    let on = step_seen c.args.on.now in
    let running = c.args.self.now.running in
    let is = find-holds (IsRunningOf desk) (is_of_run c.args.on.now.run) running on own.running first in
    let fit = stored-fit layout on.sets (find-holds (IsRunnable layout) (is_of_run c.args.on.now.run) running on are.running first).stored in
    IfSome_then c.checkpoint_with.result c.checkpoint_with.ensures.checkpoint (λ made its. checkpoint-follows desk c.checkpoint_with.ensures.numbered on is made its layout fit)

pub returns-in-Some-clause-commits : goal.returns-in-Some-clause-commits
returns-in-Some-clause-commits c own first =
    let desk = c.args.self.now.tables.desk in
    let on = step_seen c.args.on.now in
    let running = c.args.self.now.running in
    let is = find-holds (IsRunningOf desk) (is_of_run c.args.on.now.run) running on own.running first in
    IfSome_then c.checkpoint_with.result c.checkpoint_with.ensures.checkpoint (λ made its. checkpoint-commits desk c.checkpoint_with.ensures.numbered on is made its running own.single first)
