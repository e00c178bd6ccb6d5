use Rattle.std.proofs.Common.{◌≤◌, ℕ, ◌+◌, ◌*◌, sym, subst, arith}
use Rattle.ckr_volumes.specs.Places.{StretchModel, end_of}
use Rattle.ckr_model_tests.proofs.Placing.{stored_placed, ends_placed, apart_of, ends_so}
use Rattle.ckr_model_tests.proofs.steps.add.Goals as goal

extent : ℕ → ℕ → StretchModel
extent start records = record { volume = 0; start = start; records = records }

pub returns-clause-stored : goal.returns-clause-stored
unfolding extent
returns-clause-stored g c =
    let set = c.set_from.result in
    stored_placed c.args.layout.now c.args.library.now c.insert.new.self c.args.name set c.in_ok-insert.ensures.ok c.requires.stored c.set_from.ensures.stands
    (λ other s was. apart_of set (extent c.args.start c.args.space) c.set_from.ensures.lies s (c.requires.ends.each other s was))

pub returns-clause-ends : goal.returns-clause-ends
unfolding extent
returns-clause-ends g c =
    let set = c.set_from.result in
    let size : end_of set.lrecl (extent c.args.start c.args.space) ≤ c.args.start + c.args.space * 80 =
    subst (λ lrecl. c.args.start + c.args.space * lrecl ≤ c.args.start + c.args.space * 80) (sym c.set_from.ensures.lrecl) (omega arith) in
    ends_placed c.args.layout.now c.args.library.now c.insert.new.self c.args.name set c.in_ok-insert.ensures.ok c.args.start (c.args.start + c.args.space * 80) c.requires.ends (omega arith)
    (ends_so set (extent c.args.start c.args.space) c.set_from.ensures.lies (c.args.start + c.args.space * 80) size)
