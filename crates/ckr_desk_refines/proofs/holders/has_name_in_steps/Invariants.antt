use Rattle.std.proofs.Common.{◌≡◌, ◌<◌, ◌-◌, drop}
use Rattle.ckr_desk_memory.specs.Model.RunJobs.{effective}
use Rattle.ckr_meaning.specs.EffectiveJob.{is_among, names_of_job, names_of_steps}
use Rattle.ckr_desk_refines.specs.Holders.{as_submitted}
use Rattle.ckr_desk_refines.proofs.holders.has_name_in_steps.Given as goal

abbrev pub invariant-loop-number : goal.invariant-loop-number
invariant-loop-number l = record {
  first : 0 < l.number;
  same :
      is_among (names_of_steps l.job.root (drop (l.number - 1) (as_submitted l.job.deck (effective l.run l.job)).steps)) l.name
      ≡ is_among (names_of_job (as_submitted l.job.deck (effective l.run l.job))) l.name;
}
