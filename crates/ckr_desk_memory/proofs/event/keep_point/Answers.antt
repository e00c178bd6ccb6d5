use Rattle.std.proofs.Common.{◌∷◌, List, map, ap, sym, ◌∙◌, Option, None, Some}
use Rattle.std.specs.Option.{option_copied, option_map_or}
use Rattle.ckr_base.proofs.Sequences.{find-holds}
use Rattle.ckr_desk_memory.specs.EventChanges.{is_of_run, point_of, without_point}
use Rattle.ckr_desk_memory.specs.Parts.{step_seen}
use Rattle.ckr_desk_memory.specs.Plans.{HasCounts}
use Rattle.ckr_desk_memory.specs.View.{PointView, RunningStepView}
use Rattle.ckr_desk_memory.proofs.RunningSteps.First.{seen-first}
use Rattle.ckr_desk_memory.proofs.event.keep_point.Goals as goal

abbrev with_found : List PointView → Option RunningStepView → List PointView
with_found others found = option_map_or (λ on. point_of on ∷ others) found others

pub point_of-requires : goal.point_of-requires
point_of-requires c =
    find-holds HasCounts (is_of_run c.args.run) (map step_seen c.args.running.now) (step_seen c.in-Some.on.now) c.requires.counted
    (seen-first c.args.run c.args.running.now (Some c.in-Some.on.now) (ap option_copied (sym c.in-Some.is) ∙ c.first_on.ensures))

pub returns-in-Some : goal.returns-in-Some
returns-in-Some c =
    let others = without_point c.args.run c.args.points.now.items in
    c.put_point.ensures ∙ ap (λ (points : List PointView). c.point_of.result ∷ points) c.forget_point.ensures.items ∙ ap (λ (point : PointView). point ∷ others) c.point_of.ensures
    ∙ ap (with_found others) (sym (seen-first c.args.run c.args.running.now (Some c.in-Some.on.now) (ap option_copied (sym c.in-Some.is) ∙ c.first_on.ensures)))

pub returns-in_default : goal.returns-in_default
returns-in_default c =
    let others = without_point c.args.run c.args.points.now.items in
    c.forget_point.ensures.items
    ∙ ap (with_found others) (sym (seen-first c.args.run c.args.running.now None (ap option_copied (sym c.in_default.is) ∙ c.first_on.ensures)))
