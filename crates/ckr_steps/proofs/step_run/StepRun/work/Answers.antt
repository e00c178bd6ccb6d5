use Rattle.std.proofs.Common.{sym, ap, ◌∙◌, subst}
use Rattle.ckr_meaning.specs.Program.{fitting}
use Rattle.ckr_meaning.specs.StepRun.{case_at}
use Rattle.ckr_steps.specs.Writes.{grown, room_of, Shows, put_all}
use Rattle.ckr_steps.specs.Places.{AreNext}
use Rattle.ckr_steps.specs.StepUnit.{behind_ahead}
use Rattle.ckr_steps.proofs.UnitProgress.{goes_on, so_far_written}
use Rattle.ckr_steps.proofs.NextHeads.{next_heads}
use Rattle.ckr_steps.proofs.UnitWrites.{done_fits-for}
use Rattle.ckr_steps.proofs.step_run.StepRun.work.Goals as goal

pub returns-clause-lengths : goal.returns-clause-lengths
returns-clause-lengths g c =
    let step = c.args.self.now in
    let library = c.args.library.now in
    let ahead = c.requires.ahead in
    c.in_ok-put_all.ensures.sets
    ∙ ap (λ w. grown step.files (fitting w (room_of library step.files)) library.sets) c.as_slice.ensures.value
    ∙ ap (λ w. grown step.files w library.sets) (done_fits-for library step ahead.heads c.args.ahead.writes.items ahead.unit.writes)

pub returns-clause-worked : goal.returns-clause-worked
unfolding returns-clause-lengths
returns-clause-worked g c =
    let d = g.D.Disk in
    let step = c.args.self.now in
    let library = c.args.library.now in
    let ahead = c.requires.ahead in
    let done = ap (λ w. fitting w (room_of library step.files)) c.as_slice.ensures.value ∙ done_fits-for library step ahead.heads c.args.ahead.writes.items ahead.unit.writes ∙ ahead.unit.writes in
    record {
      heads = ahead.heads;
      read = ahead.read;
      done = record {
        answer = ahead.unit.answer;
        step = ahead.unit.behind;
        lengths = returns-clause-lengths g c ∙ ap (λ w. grown step.files w library.sets) ahead.unit.writes;
      };
      written = record {
        shows = λ names model shows.
            subst (λ w. Shows d.told (d.content c.put_all.new.disk) c.args.layout.now names (put_all step.files w model) c.put_all.new.library) done
            (c.in_ok-put_all.ensures.shows names model shows);
      };
    }

pub returns-clause-counted : goal.returns-clause-counted
returns-clause-counted g c = c.requires.ahead.unit.counted

pub returns-clause-goes_on : goal.returns-clause-goes_on
unfolding returns-clause-worked
returns-clause-goes_on g c told start taken stands shows =
    let d = g.D.Disk in
    let step = c.args.self.now in
    let library = c.args.library.now in
    let layout = c.args.layout.now in
    let ahead = c.requires.ahead in
    let whole = returns-clause-worked g c in
    let next : AreNext (case_at start) step.state ahead.heads =
    subst (AreNext (case_at start) step.state) (sym (ahead.read told))
    (next_heads d.told (d.content c.args.disk.now) layout start taken step library told stands (so_far_written start taken step library stands) shows) in
    goes_on d.told (d.content c.args.disk.now) (d.content c.put_all.new.disk) layout start taken step (behind_ahead step c.args.ahead) library c.put_all.new.library ahead.heads c.args.ahead.worked stands next whole.done whole.written shows c.requires.there
