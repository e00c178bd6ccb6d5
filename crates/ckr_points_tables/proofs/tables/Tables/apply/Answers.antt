use Rattle.std.proofs.Common.{ap, sym, ◌∙◌, subst}
use Rattle.std.specs.Option.{option_map}
use Rattle.std.specs.Rc.{rc_value}
use Rattle.ckr_points.specs.Restart.{after_event}
use Rattle.ckr_points_tables.specs.Invariant.{MayContinue}
use Rattle.ckr_points_tables.proofs.tables.Tables.apply.Goals as goal

pub returns-in-Restarted : goal.returns-in-Restarted
returns-in-Restarted c = c.restart.ensures c.in-Restarted.code (option_map rc_value c.args.deck) ∙ ap (λ event. after_event event (option_map rc_value c.args.deck) c.args.self.now.desk) (sym c.in-Restarted.is)

pub returns-in-Held : goal.returns-in-Held
returns-in-Held c = c.hold.ensures (option_map rc_value c.args.deck) ∙ ap (λ event. after_event event (option_map rc_value c.args.deck) c.args.self.now.desk) (sym c.in-Held.is)

pub returns-in-Released : goal.returns-in-Released
returns-in-Released c = c.release.ensures (option_map rc_value c.args.deck) ∙ ap (λ event. after_event event (option_map rc_value c.args.deck) c.args.self.now.desk) (sym c.in-Released.is)

pub continue_run-requires-clause-continues : goal.continue_run-requires-clause-continues
continue_run-requires-clause-continues c = subst (λ event. MayContinue event c.args.self.now.desk) c.in-Selected.is c.requires.continues

pub returns-in-Selected : goal.returns-in-Selected
returns-in-Selected c = c.continue_run.ensures (option_map rc_value c.args.deck) ∙ ap (λ event. after_event event (option_map rc_value c.args.deck) c.args.self.now.desk) (sym c.in-Selected.is)
