use Rattle.std.proofs.Common.{ap, ◌∙◌}
use Rattle.std.specs.List.{list_any}
use Rattle.ckr_jcl.specs.declared.deck.Step.{Step}
use Rattle.ckr_meaning.specs.EffectiveJob.{is_among, names_of, owned_by}
use Rattle.ckr_points_tables.proofs.Selections.{among-flat}
use Rattle.ckr_points_tables.proofs.selection.is_of_deck.Goals as goal

pub returns : goal.returns
returns c =
    let names = λ (step : Step). names_of c.args.root (owned_by c.args.owner c.args.deck.now step) in
    c.is_of_steps.ensures
    ∙ ap (list_any (λ (step : Step). is_among (names step) c.args.name.now)) c.as_slice.ensures
    ∙ among-flat names c.args.deck.now.steps c.args.name.now
