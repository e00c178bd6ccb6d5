use Rattle.std.proofs.Common.{◌++◌, ◌∙◌, ap, sym}
use Rattle.ckr_base.specs.CodeText.{code_text}
use Rattle.ckr_report.proofs.CodeNames.{code_of-code_text}
use Rattle.ckr_report.proofs.ending.code_part.Goals as goal

pub returns-clause-text : goal.returns-clause-text
returns-clause-text c =
    let code = c.args.code in
    c.put.ensures.text ∙ ap (λ t. c.args.out.now.items ++ t) (c.deref.ensures.0 ∙ sym (c.write.ensures.only (code_text code) (code_of-code_text code c.requires.code)))
