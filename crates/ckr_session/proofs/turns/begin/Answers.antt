use Rattle.std.proofs.Common.{sym, ◌∙◌}
use Rattle.std.proofs.lemmas.Bool.{false≢true}
use Rattle.ckr_session.proofs.Service.Turns.{adds_first, adds_told, rest-no_work}
use Rattle.ckr_session.proofs.turns.begin.Goals as goal

pub returns-then-is_work-clause-adds : goal.returns-then-is_work-clause-adds
returns-then-is_work-clause-adds c = adds_first c.args.layout.now c.args.initiator c.args.reply c.args.out.now

pub returns-then-is_work-clause-rest : goal.returns-then-is_work-clause-rest
returns-then-is_work-clause-rest c rests = absurd (false≢true (sym (rest-no_work c.args.reply rests) ∙ sym c.is_work.ensures ∙ c.if-is_work.true))

pub returns-clause-adds : goal.returns-clause-adds
returns-clause-adds c = adds_told c.args.layout.now c.args.initiator c.args.reply c.args.out.now c.reply_line.new.out (sym c.is_work.ensures ∙ c.if-is_work.false) c.in_ok-reply_line.ensures
