use Rattle.std.proofs.Common.{◌∙◌, ap, sym}
use Rattle.ckr_console.specs.Answering.{answer_in_office, restart_answer}
use Rattle.ckr_console.specs.declared.question.Question.{Question}
use Rattle.ckr_desk_turn.specs.Inquiries.{decide, decided}
use Rattle.ckr_desk.proofs.Turns.Answers.{answer-so}
use Rattle.ckr_desk.specs.State.{DeskView}
use Rattle.ckr_desk.proofs.desk.Desk.answered.Goals as goal

pub returns-in-Ask-clause-decided : goal.returns-in-Ask-clause-decided
returns-in-Ask-clause-decided g c =
    let inquiry = c.in-Ask.inquiry in
    c.decided.ensures.plan
    ∙ ap (λ a. decided a inquiry)
    (c.ask-answer.ensures.answer
    ∙ ap (λ (q : Question). answer_in_office q c.self.inside.machine_room.operator) c.question.ensures
    ∙ answer-so inquiry.job inquiry.step inquiry.id c.self.inside.machine_room.operator
    ∙ ap (λ (s : DeskView g.row.D.Denot). restart_answer s.machine_room.operator) c.self.view_is)
    ∙ sym (ap (decide (restart_answer c.args.self.now.machine_room.operator)) c.in-Ask.is)
