use Rattle.std.proofs.Common.{◌==◌, ◌&&◌, not, ap, ◌∙◌}
use Rattle.std.specs.List.{list_any}
use Rattle.ckr_desk_turn.specs.declared.failed_run.FailedRun.{FailedRun}
use Rattle.ckr_desk_memory.specs.View.{jobs_of}
use Rattle.ckr_desk_memory.proofs.jobs.Jobs.is_marked.Goals as goal

pub returns : goal.returns
unfolding jobs_of
returns c =
    c.is_marked_in.ensures
    ∙ ap (list_any (λ (one : FailedRun). one.run == c.args.run && not one.asked)) c.as_slice.ensures.value
    ∙ ap (λ v. list_any (λ (one : FailedRun). one.run == c.args.run && not one.asked) v.failed) c.self.view_is
