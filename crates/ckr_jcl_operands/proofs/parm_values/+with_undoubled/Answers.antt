use Rattle.std.proofs.Common.{◌≡◌, ◌≤◌, ◌==◌, ◌∷◌, [], false, Some, None, length, get_or, arith, sym}
use Rattle.std.proofs.lemmas.Grind.{common_steps}
use Rattle.ckr_jcl_operands.specs.JobValues.{onto}
use Rattle.ckr_jcl_operands.proofs.Joins.{half_alone, whole_end, half_broken, kept, not_kept}
use Rattle.ckr_jcl_operands.proofs.parm_values.+with_undoubled.Goals as goal

pub returns-then-half : goal.returns-then-half
returns-then-half t c =
    sym (half_alone c.args.parm.items c.args.inside.now c.args.half c.in-empty.len_below c.if-half.true)

pub returns-else-half : goal.returns-else-half
returns-else-half t c =
    let fits : length c.args.parm.items ≤ 100 = grind (arith, common_steps) in
    sym (whole_end c.args.parm.items c.args.inside.now c.args.half c.in-empty.len_below c.if-half.false fits)

pub returns-then-not-is_apostrophe : goal.returns-then-not-is_apostrophe
returns-then-not-is_apostrophe t c =
    let other : (get_or c.args.inside.now 0 0 == 39) ≡ false = grind (arith, common_steps) in
    sym (half_broken c.args.parm.items c.args.inside.now c.args.half (grind (arith, common_steps)) c.if-half-2.true other)

pub returns-in-Some : goal.returns-in-Some
returns-in-Some t c =
    let same : (get_or c.args.inside.now 0 0 == 39) ≡ c.args.half = grind (arith, common_steps) in
    let some : 1 ≤ length c.args.inside.now = grind (arith, common_steps) in
    let fits : onto c.args.parm.items (Some (get_or c.args.inside.now 0 0 ∷ [])) ≡ Some c.in-Some.next.items = grind (arith, common_steps) in
    grind (arith, common_steps, kept c.args.parm.items c.in-Some.next.items c.args.inside.now c.args.half some same fits)

pub returns-in-None : goal.returns-in-None
returns-in-None t c =
    let same : (get_or c.args.inside.now 0 0 == 39) ≡ c.args.half = grind (arith, common_steps) in
    let some : 1 ≤ length c.args.inside.now = grind (arith, common_steps) in
    let full : onto c.args.parm.items (Some (get_or c.args.inside.now 0 0 ∷ [])) ≡ None = grind (arith, common_steps) in
    sym (not_kept c.args.parm.items c.args.inside.now c.args.half some same full)
