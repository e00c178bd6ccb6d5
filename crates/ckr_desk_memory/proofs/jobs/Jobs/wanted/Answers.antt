use Rattle.std.proofs.Common.{Some, ap, sym, ◌∙◌, length}
use Rattle.std.specs.Option.{option_map}
use Rattle.ckr_desk_turn.specs.Mounts.{volumes_of}
use Rattle.ckr_points.specs.Rows.{holding_of}
use Rattle.ckr_points_tables.specs.View.{seen_by}
use Rattle.ckr_desk_memory.specs.Mounts.{volumes_from}
use Rattle.ckr_desk_memory.specs.View.{JobsView}
use Rattle.ckr_desk_memory.proofs.WantedVolumes.{volumes-are}
use Rattle.ckr_desk_memory.proofs.WantingSteps.{step-wanted}
use Rattle.ckr_desk_memory.proofs.jobs.Jobs.wanted.Goals as goal

pub returns-clause-volumes : goal.returns-clause-volumes
returns-clause-volumes c =
    let tables = c.args.self.now.tables.desk in
    let layout = c.args.layout.now in
    let step = c.in_ok-step.step in
    let its = c.in_ok-step.ensures.some in
    let sets = c.library.result.now.sets in
    ap Some
    (c.volumes_on.ensures.volumes
    ∙ ap (λ volumes. volumes_from sets step 0 (length volumes)) c.as_slice.ensures.value
    ∙ volumes-are tables step its.is sets (c.library.ensures.sets ∙ ap (λ (v : JobsView). seen_by holding_of v.tables.desk.sets) c.self.view_is) layout)
    ∙ sym (ap (option_map (volumes_of layout)) (step-wanted tables c.args.plan.now step its))
