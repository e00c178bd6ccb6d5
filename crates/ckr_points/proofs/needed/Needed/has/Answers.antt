use Rattle.std.proofs.Common.{ap, ◌∙◌, ◌&&◌, not}
use Rattle.ckr_meaning.specs.EffectiveJob.{is_among}
use Rattle.ckr_points.specs.Marks.{sysout_names}
use Rattle.ckr_points.specs.Needed.{first_step}
use Rattle.ckr_points.proofs.NeededNames.{among-from, needed-marked}
use Rattle.ckr_points.proofs.needed.Needed.has.Goals as goal

pub returns-clause-value : goal.returns-clause-value
returns-clause-value c =
    let needed = c.args.self.now in
    c.is_needed.ensures
    ∙ ap (λ b. not (needed.at_start && is_among (sysout_names needed.root (first_step needed)) c.args.name.now) && b) (among-from needed c.args.name.now)

pub returns-clause-marked : goal.returns-clause-marked
returns-clause-marked c job step own deck marks is marked =
    returns-clause-value c ∙ needed-marked c.args.self.now job step own deck marks c.args.name.now is marked
