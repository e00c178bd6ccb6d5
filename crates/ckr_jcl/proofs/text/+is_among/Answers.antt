use Rattle.std.proofs.Common.{◌≡◌, ◌<◌, length, arith}
use Rattle.std.proofs.lemmas.Grind.{common_steps}
use Rattle.ckr_jcl.specs.Text.{before}
use Rattle.ckr_jcl.proofs.Words.{first_word, last_word, more_words}
use Rattle.ckr_jcl.proofs.text.+is_among.Goals as goal

pub returns-then-is_spelled : goal.returns-then-is_spelled
returns-then-is_spelled t c = grind (arith, common_steps, first_word c.args.table.now c.args.key.now)

pub returns-then-length-table : goal.returns-then-length-table
returns-then-length-table t c =
    let whole : length (before 32 c.args.table.now) ≡ length c.args.table.now = grind (arith, common_steps) in
    grind (arith, common_steps, last_word c.args.table.now c.args.key.now whole)

pub returns : goal.returns
returns t c =
    let inside : length (before 32 c.args.table.now) < length c.args.table.now = grind (arith, common_steps) in
    grind (arith, common_steps, more_words c.args.table.now c.args.key.now inside)
