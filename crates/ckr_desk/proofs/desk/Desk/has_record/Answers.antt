use Rattle.std.proofs.Common.{◌∙◌, ap, sym, false}
use Rattle.std.specs.Option.{is_some, option_copied, option_map_or}
use Rattle.ckr_points.specs.Rows.{run_of}
use Rattle.ckr_desk.proofs.Openings.RecordTest.{record-by}
use Rattle.ckr_desk.specs.Replay.{fits_in, has_record}
use Rattle.ckr_desk.specs.State.{DeskView}
use Rattle.ckr_desk.proofs.desk.Desk.has_record.Goals as goal

pub returns-in_default-get : goal.returns-in_default-get
returns-in_default-get g c =
    let told = c.in-Rewritten in
    let there = ap (λ (s : DeskView _). is_some (run_of s.jobs.tables.desk told.job)) c.self.view_is ∙ sym c.has_run.ensures ∙ c.if-not-has_run.false in
    sym
    (ap (λ (s : DeskView _). has_record s.jobs.tables.desk c.args.event.now) (sym c.self.view_is)
    ∙ record-by c.self.inside.jobs.tables.desk c.library.result.now c.args.event.now told.job told.taken told.writes told.lengths told.place told.image c.in-Some.name (option_copied c.get.result)
    told.is there (λ row at. sym c.in-Some.is ∙ c.updated.ensures row at) c.library.ensures.sets c.get.ensures
    ∙ ap (λ o. option_map_or (fits_in told.place told.image) (option_copied o) false) c.in_default-get.is)

pub returns : goal.returns
returns g c =
    let told = c.in-Rewritten in
    let there = ap (λ (s : DeskView _). is_some (run_of s.jobs.tables.desk told.job)) c.self.view_is ∙ sym c.has_run.ensures ∙ c.if-not-has_run.false in
    c.fits_in.ensures
    ∙ sym
    (ap (λ (s : DeskView _). has_record s.jobs.tables.desk c.args.event.now) (sym c.self.view_is)
    ∙ record-by c.self.inside.jobs.tables.desk c.library.result.now c.args.event.now told.job told.taken told.writes told.lengths told.place told.image c.in-Some.name (option_copied c.get.result)
    told.is there (λ row at. sym c.in-Some.is ∙ c.updated.ensures row at) c.library.ensures.sets c.get.ensures
    ∙ ap (λ o. option_map_or (fits_in told.place told.image) (option_copied o) false) c.in-Some-get.is)
