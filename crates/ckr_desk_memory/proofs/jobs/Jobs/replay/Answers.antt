use Rattle.std.proofs.Common.{◌≡◌, ap, ◌∙◌, subst, sym, true}
use Rattle.std.specs.Prelude.{unwrap_or}
use Rattle.std.specs.Option.{is_some}
use Rattle.ckr_points.specs.Restart.{after_event}
use Rattle.ckr_points.specs.Rows.{TablesModel}
use Rattle.ckr_points_tables.specs.Invariant.{MayContinue, MayCount, MayFollow, MaySubmit}
use Rattle.ckr_desk_turn.specs.Queue.{AreNumbered}
use Rattle.ckr_desk_memory.specs.EventChanges.{HasUses}
use Rattle.ckr_desk_memory.specs.Replay.{goes_on}
use Rattle.ckr_desk_memory.specs.View.{JobsView}
use Rattle.ckr_desk_memory.proofs.AcceptedDecks.{may-continue}
use Rattle.ckr_desk_memory.proofs.Holders.OwnSteps.{holders-replayed}
use Rattle.ckr_desk_memory.proofs.Replays.{any_submits, goes-on-with, jobs-replayed, replayed-none, replayed-some}
use Rattle.ckr_desk_memory.proofs.jobs.Jobs.replay.Goals as goal

pub returns-then-not-goes_on-clause-answer : goal.returns-then-not-goes_on-clause-answer
returns-then-not-goes_on-clause-answer c =
    sym (ap is_some (replayed-none c.args.layout.now c.args.self.now.tables.desk c.args.event.now
    (sym (ap (goes_on c.args.layout.now c.args.self.now.tables.desk c.args.event.now) c.in_ok-deck.ensures)
    ∙ sym (ap (λ (j : JobsView). goes_on c.args.layout.now j.tables.desk c.args.event.now c.in_ok-deck.deck) c.self.view_is) ∙ sym c.goes_on.ensures ∙ c.if-not-goes_on.true)))

pub returns-then-not-goes_on-clause-ok : goal.returns-then-not-goes_on-clause-ok
returns-then-not-goes_on-clause-ok c =
    sym (ap (λ found. unwrap_or found c.args.self.now.tables.desk) (replayed-none c.args.layout.now c.args.self.now.tables.desk c.args.event.now
    (sym (ap (goes_on c.args.layout.now c.args.self.now.tables.desk c.args.event.now) c.in_ok-deck.ensures)
    ∙ sym (ap (λ (j : JobsView). goes_on c.args.layout.now j.tables.desk c.args.event.now c.in_ok-deck.deck) c.self.view_is) ∙ sym c.goes_on.ensures ∙ c.if-not-goes_on.true)))

pub make_room-requires : goal.make_room-requires
make_room-requires c =
    let goes : goes_on c.args.layout.now c.args.self.now.tables.desk c.args.event.now c.in_ok-deck.deck ≡ true =
    sym (ap (λ (j : JobsView). goes_on c.args.layout.now j.tables.desk c.args.event.now c.in_ok-deck.deck) c.self.view_is) ∙ sym c.goes_on.ensures ∙ c.if-not-goes_on.false in
    let its = goes-on-with c.args.layout.now c.args.self.now.tables.desk c.args.event.now c.in_ok-deck.deck goes in
    subst (MaySubmit c.args.event.now) (sym (c.as_ref.ensures.value ∙ c.in_ok-deck.ensures)) (any_submits c.args.event.now its.few)

pub go_on-requires : goal.go_on-requires
go_on-requires c =
    let goes : goes_on c.args.layout.now c.args.self.now.tables.desk c.args.event.now c.in_ok-deck.deck ≡ true =
    sym (ap (λ (j : JobsView). goes_on c.args.layout.now j.tables.desk c.args.event.now c.in_ok-deck.deck) c.self.view_is) ∙ sym c.goes_on.ensures ∙ c.if-not-goes_on.false in
    let its = goes-on-with c.args.layout.now c.args.self.now.tables.desk c.args.event.now c.in_ok-deck.deck goes in
    record {
      continues = subst (MayContinue c.args.event.now) (sym c.make_room.ensures.desk) (may-continue c.args.event.now c.args.self.now.tables.desk c.requires.jobs.rows);
      follows = subst (MayFollow c.make_room.new.self.tables.desk c.args.event.now) (sym c.in_ok-shared.ensures.value)
          (subst (λ (t : TablesModel). MayFollow t c.args.event.now c.in_ok-deck.deck) (sym c.make_room.ensures.desk) (c.args.layout.now, its.follow));
      deck = subst (MaySubmit c.args.event.now) (sym (c.in_ok-shared.ensures.value ∙ c.in_ok-deck.ensures)) (any_submits c.args.event.now its.few);
      count = subst (λ (t : TablesModel). MayCount c.args.event.now t.sets) (sym c.make_room.ensures.desk) its.count;
      tables = c.in_ok-uses.ensures.tables;
      queue = c.in_ok-uses.ensures.queue;
      uses = subst (λ deck. HasUses c.args.event.now deck c.in_ok-uses.uses) (c.as_ref.ensures.value ∙ sym c.in_ok-shared.ensures.value) c.in_ok-uses.ensures.uses;
    }

pub returns-clause-answer : goal.returns-clause-answer
returns-clause-answer c =
    sym (ap is_some (replayed-some c.args.layout.now c.args.self.now.tables.desk c.args.event.now
    (sym (ap (goes_on c.args.layout.now c.args.self.now.tables.desk c.args.event.now) c.in_ok-deck.ensures)
    ∙ sym (ap (λ (j : JobsView). goes_on c.args.layout.now j.tables.desk c.args.event.now c.in_ok-deck.deck) c.self.view_is) ∙ sym c.goes_on.ensures ∙ c.if-not-goes_on.false)))

pub returns-clause-ok : goal.returns-clause-ok
returns-clause-ok c =
    c.go_on.ensures.tables ∙ ap (λ deck. after_event c.args.event.now deck c.make_room.new.self.tables.desk) c.in_ok-shared.ensures.value ∙ ap (after_event c.args.event.now c.in_ok-deck.deck) c.make_room.ensures.desk
    ∙ ap (λ deck. after_event c.args.event.now deck c.args.self.now.tables.desk) c.in_ok-deck.ensures
    ∙ sym (ap (λ found. unwrap_or found c.args.self.now.tables.desk) (replayed-some c.args.layout.now c.args.self.now.tables.desk c.args.event.now
    (sym (ap (goes_on c.args.layout.now c.args.self.now.tables.desk c.args.event.now) c.in_ok-deck.ensures)
    ∙ sym (ap (λ (j : JobsView). goes_on c.args.layout.now j.tables.desk c.args.event.now c.in_ok-deck.deck) c.self.view_is) ∙ sym c.goes_on.ensures ∙ c.if-not-goes_on.false)))

pub returns-clause-jobs : goal.returns-clause-jobs
returns-clause-jobs c =
    jobs-replayed c.args.layout.now c.args.self.now c.go_on.new.self c.args.event.now c.requires.bounded
    (subst (λ (j : JobsView). AreNumbered 1 j.tables.desk.runs) c.self.view_is c.self.invariant.queued.numbered)
    (sym (ap (goes_on c.args.layout.now c.args.self.now.tables.desk c.args.event.now) c.in_ok-deck.ensures)
    ∙ sym (ap (λ (j : JobsView). goes_on c.args.layout.now j.tables.desk c.args.event.now c.in_ok-deck.deck) c.self.view_is) ∙ sym c.goes_on.ensures ∙ c.if-not-goes_on.false)
    (c.go_on.ensures.tables ∙ ap (λ deck. after_event c.args.event.now deck c.make_room.new.self.tables.desk) c.in_ok-shared.ensures.value ∙ ap (after_event c.args.event.now c.in_ok-deck.deck) c.make_room.ensures.desk
    ∙ ap (λ deck. after_event c.args.event.now deck c.args.self.now.tables.desk) c.in_ok-deck.ensures)
    (c.go_on.ensures.running ∙ c.make_room.ensures.running) c.requires.jobs

pub returns-clause-holders : goal.returns-clause-holders
returns-clause-holders c =
    holders-replayed c.args.layout.now c.args.self.now c.go_on.new.self c.args.event.now c.requires.bounded
    (subst (λ (j : JobsView). AreNumbered 1 j.tables.desk.runs) c.self.view_is c.self.invariant.queued.numbered)
    (sym (ap (goes_on c.args.layout.now c.args.self.now.tables.desk c.args.event.now) c.in_ok-deck.ensures)
    ∙ sym (ap (λ (j : JobsView). goes_on c.args.layout.now j.tables.desk c.args.event.now c.in_ok-deck.deck) c.self.view_is) ∙ sym c.goes_on.ensures ∙ c.if-not-goes_on.false)
    (c.go_on.ensures.tables ∙ ap (λ deck. after_event c.args.event.now deck c.make_room.new.self.tables.desk) c.in_ok-shared.ensures.value ∙ ap (after_event c.args.event.now c.in_ok-deck.deck) c.make_room.ensures.desk
    ∙ ap (λ deck. after_event c.args.event.now deck c.args.self.now.tables.desk) c.in_ok-deck.ensures)
    c.requires.jobs
