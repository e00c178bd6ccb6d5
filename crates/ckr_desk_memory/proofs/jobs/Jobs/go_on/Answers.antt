use Rattle.std.proofs.Common.{◌≤◌, ap, length, subst, sym}
use Rattle.std.specs.Option.{option_map}
use Rattle.std.specs.Rc.{rc_value}
use Rattle.ckr_points_tables.specs.Invariant.{MayContinue}
use Rattle.ckr_desk_turn.specs.Queue.{AreNumbered}
use Rattle.ckr_desk_memory.specs.View.{JobsView}
use Rattle.ckr_desk_memory.proofs.RunNumbers.{follow-inside, may-go, queued-behind}
use Rattle.ckr_desk_memory.proofs.jobs.Jobs.go_on.Goals as goal

pub apply-requires-clause-continues : goal.apply-requires-clause-continues
apply-requires-clause-continues c = subst (λ (j : JobsView). MayContinue c.args.event.now j.tables.desk) (sym c.self.view_is) c.requires.continues

pub keep_queue-requires-clause-may : goal.keep_queue-requires-clause-may
keep_queue-requires-clause-may c =
    may-go c.self.inside.tables.desk c.args.self.now.tables.desk c.self.inside.queue.entries c.args.event.now (option_map rc_value c.args.deck)
    (ap (λ (j : JobsView). j.tables.desk) c.self.view_is) c.self.invariant.queued c.requires.follows

pub invariant_of-self : goal.invariant_of-self
invariant_of-self c = record {
  queued = queued-behind c.self.inside.tables.desk c.apply.new.self.desk c.self.inside.queue.entries c.keep_queue.new.queue.entries c.args.event.now (option_map rc_value c.args.deck)
      (follow-inside c.self.inside.tables.desk c.args.self.now.tables.desk c.args.event.now (option_map rc_value c.args.deck) (ap (λ (j : JobsView). j.tables.desk) c.self.view_is) c.requires.follows)
      c.requires.deck c.self.invariant.queued c.apply.ensures (c.keep_queue.ensures (option_map rc_value c.args.deck) c.requires.uses);
  counted = c.self.invariant.counted;
}

pub returns-clause-numbered : goal.returns-clause-numbered
returns-clause-numbered c = subst (λ (j : JobsView). AreNumbered 1 j.tables.desk.runs) c.self.view_is c.self.invariant.queued.numbered

pub returns-clause-few : goal.returns-clause-few
returns-clause-few c = subst (λ (j : JobsView). length j.tables.desk.runs ≤ 9999999) c.self.view_is c.self.invariant.queued.few
