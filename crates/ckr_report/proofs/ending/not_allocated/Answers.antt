use Rattle.std.proofs.Common.{◌++◌, ◌∙◌, ap, append_assoc, codes, sym}
use Rattle.std.specs.Fmt.{decimal}
use Rattle.ckr_report.specs.Replies.{cause_text}
use Rattle.ckr_report.specs.Serials.{serial_of}
use Rattle.ckr_report.proofs.Pieces.{put-behind}
use Rattle.ckr_report.proofs.ending.not_allocated.Goals as goal

pub returns-in-Units-clause-text : goal.returns-in-Units-clause-text
returns-in-Units-clause-text c =
    let layout = c.args.layout.now in
    let need = c.from-in-Units in
    let units = c.from-in-Units-2 in
    let front = codes " UNITS NEED " ++ decimal need.result in
    put-behind c.args.out.now.items c.counted-in-Units.new.out.items c.counted-in-Units-2.new.out.items front (codes " HAVE " ++ decimal units.result)
    (cause_text layout c.args.cause.now) c.counted-in-Units.ensures.text c.counted-in-Units-2.ensures.text
    (sym (append_assoc front (codes " HAVE ") (decimal units.result)) ∙ ap (λ n. codes " UNITS NEED " ++ decimal n ++ codes " HAVE " ++ decimal units.result) need.ensures
    ∙ ap (λ n. codes " UNITS NEED " ++ decimal c.in-Units.need ++ codes " HAVE " ++ decimal n) units.ensures ∙ ap (cause_text layout) (sym c.in-Units.is))

pub returns-in-MountRefused-clause-text : goal.returns-in-MountRefused-clause-text
returns-in-MountRefused-clause-text c =
    let layout = c.args.layout.now in
    put-behind c.args.out.now.items c.put-in-MountRefused.new.out.items c.serial.new.out.items (codes " MOUNT REFUSED ") (serial_of layout c.in-MountRefused.volume)
    (cause_text layout c.args.cause.now) c.put-in-MountRefused.ensures.text c.serial.ensures.text (ap (cause_text layout) (sym c.in-MountRefused.is))
