use Rattle.std.proofs.Common.{◌≡◌, ◌==◌, Bool, false, if◌then◌else◌, [], ◌∷◌, length, sym, ap, ◌∙◌, arith}
use Rattle.std.proofs.lemmas.Grind.{common_steps}
use Rattle.ckr_desk_format.specs.Installation.{read_on}
use Rattle.ckr_desk_format.proofs.LineEnds.{lines_last}
use Rattle.ckr_desk_format.proofs.lines.last_line.Goals as goal

pub returns-clause-read : goal.returns-clause-read
returns-clause-read c =
    let bytes = c.args.bytes.now in
    let some : (length bytes == 0) ≡ false = grind (arith, common_steps, c.is_empty.ensures, c.if-is_empty.false) in
    c.line.ensures.read []
    ∙ ap (read_on c.args.reader.now) (sym (lines_last bytes c.requires.last ∙ ap (λ (b : Bool). if b then [] else bytes ∷ []) some))
