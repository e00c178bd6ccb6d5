use Rattle.std.proofs.Common.{◌≡◌, drop, filter}
use Rattle.std.specs.List.{filter_map}
use Rattle.ckr_jcl.specs.declared.deck.Dd.{Dd}
use Rattle.ckr_meaning.specs.EffectiveJob.{name_of}
use Rattle.ckr_points.specs.Marks.{is_sysout}
use Rattle.ckr_points_runs.specs.RunJobs.{own_of}
use Rattle.ckr_points_runs.specs.PutBack.{all_made_gone}
use Rattle.ckr_points_runs.proofs.put_back.delete_printed.Given as goal

abbrev pub invariant-loop-dd : goal.invariant-loop-dd
invariant-loop-dd l =
    all_made_gone l.marks (filter_map (name_of l.root (own_of l.own)) (filter (λ (dd : Dd). is_sysout dd.origin) (drop l.dd-index l.dd-items))) l.library.sets
    ≡ all_made_gone l.marks (filter_map (name_of l.root (own_of l.own)) (filter (λ (dd : Dd). is_sysout dd.origin) l.dd-items)) l.initial.library.sets
