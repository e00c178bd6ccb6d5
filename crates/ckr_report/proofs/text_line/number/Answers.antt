use Rattle.std.proofs.Common.{ap, arith, ◌++◌, ◌∙◌, length, length-append}
use Rattle.std.specs.Fmt.{decimal}
use Rattle.std.proofs.lemmas.Fmt.{length-decimal-le}
use Rattle.ckr_report.proofs.Digits.{padded-zero}
use Rattle.ckr_report.proofs.text_line.number.Goals as goal

pub padded-requires : goal.padded-requires
padded-requires c =
    let same = ap length (padded-zero c.args.number) in
    record { room = omega (arith, length-decimal-le 20 c.args.number (omega arith) (omega arith) c.ranges.number.fits) }

pub returns : goal.returns
returns c =
    let same = padded-zero c.args.number in
    let text = c.padded.ensures ∙ ap (λ l. c.args.out.now.items ++ l) same in
    record { text = text; few = omega (arith, ap length text, length-append c.args.out.now.items (decimal c.args.number), length-decimal-le 20 c.args.number (omega arith) (omega arith) c.ranges.number.fits) }
