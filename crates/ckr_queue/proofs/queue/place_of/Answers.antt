use Rattle.std.proofs.Common.{◌≡◌, true, false, cond, Some, None, sym, ap, ◌∙◌, arith}
use Rattle.std.proofs.lemmas.Bool.Decides.{nat_tests}
use Rattle.ckr_queue.specs.Queue.{is_of}
use Rattle.ckr_queue.proofs.Search.{place-seen}
use Rattle.ckr_queue.proofs.queue.place_of.Goals as goal

pub returns-then-entry-number : goal.returns-then-entry-number
returns-then-entry-number c =
    let hit : is_of c.args.number c.in-Some.entry.now ≡ true = grind (arith, nat_tests) in
    ap (λ b. cond b (Some c.place_for-place.result) None) (sym hit)
    ∙ place-seen c.args.number c.args.entries.now c.requires c.place_for-place.result c.place_for-place.ensures.place (Some c.in-Some.entry.now) c.in-Some.ensures

pub returns-else-entry-number : goal.returns-else-entry-number
returns-else-entry-number c =
    let miss : is_of c.args.number c.in-Some.entry.now ≡ false = grind (arith, nat_tests) in
    ap (λ b. cond b (Some c.place_for-place.result) None) (sym miss)
    ∙ place-seen c.args.number c.args.entries.now c.requires c.place_for-place.result c.place_for-place.ensures.place (Some c.in-Some.entry.now) c.in-Some.ensures

pub returns-in-None : goal.returns-in-None
returns-in-None c = place-seen c.args.number c.args.entries.now c.requires c.place_for-place.result c.place_for-place.ensures.place None c.in-None.ensures
