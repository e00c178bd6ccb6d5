use Rattle.std.proofs.Common.{◌∙◌, sym}
use Rattle.ckr_desk.proofs.Calls.NextEvents.{numbered-next}
use Rattle.ckr_desk.proofs.desk.Desk.accept.Goals as goal

pub enter_deck-requires-clause-next : goal.enter_deck-requires-clause-next
enter_deck-requires-clause-next g c κs within =
    (numbered-next c.args.self.now.jobs.tables.desk c.in-Some.number (sym c.job_number.ensures ∙ c.in-Some.is)).0

pub enter_deck-requires-clause-digits : goal.enter_deck-requires-clause-digits
enter_deck-requires-clause-digits g c κs within =
    (numbered-next c.args.self.now.jobs.tables.desk c.in-Some.number (sym c.job_number.ensures ∙ c.in-Some.is)).1
