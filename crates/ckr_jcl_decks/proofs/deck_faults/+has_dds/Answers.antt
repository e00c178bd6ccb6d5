use Rattle.std.proofs.Common.{◌≡◌, ◌<◌, length, arith}
use Rattle.std.proofs.lemmas.Grind.{common_steps}
use Rattle.ckr_jcl.specs.Text.{before}
use Rattle.ckr_jcl_decks.proofs.NeededDds.{first_missing, last_needed, more_needed}
use Rattle.ckr_jcl_decks.proofs.deck_faults.+has_dds.Goals as goal

pub returns-then-not-has_dd : goal.returns-then-not-has_dd
returns-then-not-has_dd t c = grind (arith, common_steps, first_missing c.args.dds.now c.args.table.now)

pub returns-then-length-table : goal.returns-then-length-table
returns-then-length-table t c =
    let whole : length (before 32 c.args.table.now) ≡ length c.args.table.now = grind (arith, common_steps) in
    grind (arith, common_steps, last_needed c.args.dds.now c.args.table.now whole)

pub returns : goal.returns
returns t c =
    let inside : length (before 32 c.args.table.now) < length c.args.table.now = grind (arith, common_steps) in
    grind (arith, common_steps, more_needed c.args.dds.now c.args.table.now inside)
