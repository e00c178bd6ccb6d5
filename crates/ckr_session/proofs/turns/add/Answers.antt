use Rattle.std.proofs.Common.{ℕ, Option, IfOk, subst, sym, ◌∙◌}
use Rattle.std.proofs.lemmas.Bool.{false≢true}
use Rattle.ckr_desk.specs.Model.Reply.{Reply}
use Rattle.ckr_session.specs.Turns.{Adds}
use Rattle.ckr_session.proofs.Service.Turns.{adds_work, adds_behind, adds_other_on, goes_on-work, rest-no_work}
use Rattle.ckr_session.proofs.turns.add.Goals as goal

pub returns-in_default-clause-adds : goal.returns-in_default-clause-adds
returns-in_default-clause-adds c =
    subst (λ (w : Option (Reply × ℕ)). IfOk c.begin.result (λ now. Adds c.args.layout.now c.args.initiator w c.args.reply now c.args.out.now c.begin.new.out)) (sym c.in_default.is) c.begin.ensures.adds

pub returns-then-goes_on-clause-adds : goal.returns-then-goes_on-clause-adds
returns-then-goes_on-clause-adds c =
    adds_behind c.args.layout.now c.args.initiator c.args.waiting c.in-Some.last c.in-Some.times c.args.reply _ _ _ c.in-Some.is
    (adds_work c.args.layout.now c.args.initiator c.in-Some.last c.args.reply c.in-Some.times c.args.out.now (sym c.goes_on.ensures ∙ c.if-goes_on.true))

pub returns-then-goes_on-clause-rest : goal.returns-then-goes_on-clause-rest
returns-then-goes_on-clause-rest c rests = absurd (false≢true (sym (rest-no_work c.args.reply rests) ∙ goes_on-work c.in-Some.last c.args.reply (sym c.goes_on.ensures ∙ c.if-goes_on.true)))

pub returns-clause-adds : goal.returns-clause-adds
returns-clause-adds c =
    adds_other_on c.args.layout.now c.args.initiator c.begin-2.result c.args.waiting c.in-Some.last c.args.reply c.in-Some.times c.args.out.now c.reply_line.new.out c.begin-2.new.out c.in-Some.is (sym c.goes_on.ensures ∙ c.if-goes_on.false)
    c.in_ok-reply_line.ensures c.begin-2.ensures.adds
