use Rattle.std.proofs.Common.{◌≡◌, ◌∙◌, [], Some, ap, get_or, slice_get, sym}
use Rattle.std.specs.Option.{option_map_or}
use Rattle.ckr_base.proofs.Sequences.{get-from}
use Rattle.ckr_console.specs.declared.question.Question.TheVariants.{Mount}
use Rattle.ckr_volumes.specs.declared.layout.Volume.{Volume}
use Rattle.ckr_desk_turn.proofs.machine_room.mount_question.Goals as goal

pub returns : goal.returns
returns c =
    let volumes = c.args.layout.now.volumes.items in
    let found = c.index-as_slice-volume.result in
    let there : slice_get volumes c.args.volume ≡ Some found =
    get-from volumes c.args.volume found c.requires (c.index-as_slice-volume.is ∙ ap (λ all. get_or all c.args.volume found) c.as_slice.ensures.value) in
    ap (λ serial. Mount serial c.args.unit)
    (c.copied-serial.ensures
    ∙ ap (λ (one : Volume). one.serial) (sym c.index-as_slice-volume.is)
    ∙ ap (λ one. option_map_or (λ (volume : Volume). volume.serial) one []) (sym there))
