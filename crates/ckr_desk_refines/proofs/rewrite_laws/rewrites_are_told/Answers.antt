use Rattle.std.proofs.Common.{◌≡◌, ◌<◌, length, subst, Some}
use Rattle.ckr_desk_memory.specs.Plans.{told_by}
use Rattle.ckr_desk_memory.specs.View.{running_of}
use Rattle.ckr_library.specs.declared.sets.DataSet.{DataSet}
use Rattle.ckr_library.specs.Catalog.{set_of}
use Rattle.ckr_library.specs.NameMaps.{Name}
use Rattle.ckr_desk_refines.specs.Rewrite.{AsksToRewrite}
use Rattle.ckr_desk_refines.proofs.Rewrites.Requests.{event-seen, is-asked}
use Rattle.ckr_desk_refines.proofs.Rewrites.Desk.{has-set}
use Rattle.ckr_desk_refines.specs.Moves.{event_in}
use Rattle.ckr_steps.specs.declared.files.RecordSource.TheVariants.{InSet}
use Rattle.ckr_steps.specs.declared.step_run.Worked.TheVariants.{Rewrite}
use Rattle.ckr_desk_turn.specs.Desk.{work_of}
use Rattle.ckr_volumes.specs.declared.layout.Layout.{Layout}
use Rattle.ckr_volumes.specs.Layouts.{StandsIn}
use Rattle.ckr_desk_refines.proofs.rewrite_laws.rewrites_are_told.Goals as goal

pub returns-clause-set : goal.returns-clause-set
returns-clause-set c = λ layout old before after desk turn run on moved place image taken asks.
    subst (λ (l : Layout). AsksToRewrite l old before after desk turn run on moved place image taken
    → (name : Name) × (set : DataSet) × (moved.step.files.first ≡ InSet name) × (set_of moved.sets name ≡ Some set) × (place < set.length) × (length image ≡ set.lrecl) × StandsIn l set) asks.stands.layout_is
    (λ asks. has-set old before after desk turn run on moved place image taken asks) asks

pub returns-clause-event : goal.returns-clause-event
returns-clause-event c = λ layout old before after desk turn run on moved place image taken answer asks row row_at.
    subst (λ (l : Layout). AsksToRewrite l old before after desk turn run on moved place image taken → (work_of answer run desk).event ≡ event_in (told_by l desk.office.tables row (running_of desk.office.tables moved) (Rewrite place image taken))) asks.stands.layout_is
    (λ asks. event-seen before after desk asks.stands.is_desk run on moved place image taken (is-asked old before after desk turn run on moved place image taken asks) asks.run asks.code answer row row_at) asks
