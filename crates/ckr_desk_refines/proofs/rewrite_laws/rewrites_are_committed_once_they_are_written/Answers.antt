use Rattle.std.proofs.Common.{subst}
use Rattle.ckr_desk_refines.specs.Rewrite.{AsksToRewrite}
use Rattle.ckr_desk_refines.proofs.Rewrites.LastRecord.{again-then, before-then, record-then}
use Rattle.ckr_desk_refines.specs.Moves.{DiffersAt}
use Rattle.ckr_steps.specs.Writes.{Keeps}
use Rattle.ckr_volumes.specs.declared.layout.Layout.{Layout}
use Rattle.std.proofs.Common.{sym}
use Rattle.ckr_desk_refines.proofs.rewrite_laws.rewrites_are_committed_once_they_are_written.Goals as goal

pub returns-clause-again : goal.returns-clause-again
returns-clause-again c = λ layout old before after desk turn run on moved place image taken answer asks event is_event told stopped as_told name set first found differs.
    again-then old before after desk turn run on moved place image taken
    (subst (λ (l : Layout). AsksToRewrite l old before after desk turn run on moved place image taken) (sym asks.stands.layout_is) asks) answer event is_event told stopped as_told name set first found
    (subst (λ (l : Layout). DiffersAt l set place told stopped) (sym asks.stands.layout_is) differs)

pub returns-clause-before : goal.returns-clause-before
returns-clause-before c = λ layout old before after desk turn run on moved place image taken asks from stopped had keeps.
    before-then old before after desk turn run on moved place image taken
    (subst (λ (l : Layout). AsksToRewrite l old before after desk turn run on moved place image taken) (sym asks.stands.layout_is) asks) from stopped had
    (subst (λ (l : Layout). Keeps l on.sets from stopped) (sym asks.stands.layout_is) keeps)

pub returns-clause-stands : goal.returns-clause-stands
returns-clause-stands c = λ layout old before after desk turn run on moved place image taken answer asks event is_event rewrite told.
    record-then old before after desk turn run on moved place image taken
    (subst (λ (l : Layout). AsksToRewrite l old before after desk turn run on moved place image taken) (sym asks.stands.layout_is) asks) answer event is_event rewrite told
