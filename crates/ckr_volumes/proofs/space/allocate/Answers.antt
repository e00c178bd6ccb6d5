use Rattle.std.proofs.Common.{◌≡◌, Ok, Err}
use Rattle.std.proofs.lemmas.Result.{IfOk-weaker, IfErr-weaker}
use Rattle.ckr_volumes.specs.Allocation.{Allotted, Refused}
use Rattle.ckr_volumes.specs.Space.{allocated}
use Rattle.ckr_volumes.proofs.Allocation.{allotted, refused}
use Rattle.ckr_volumes.proofs.space.allocate.Goals as goal

pub returns-clause-allotted : goal.returns-clause-allotted
returns-clause-allotted c =
    let layout = c.args.layout.now in
    let catalog = c.args.library.now in
    IfOk-weaker c.at_lowest.result (λ extents. allocated layout catalog c.args.volume c.args.lrecl c.args.space ≡ Ok extents.items) (λ extents. Allotted layout catalog c.args.volume c.args.lrecl c.args.space extents.items)
    (λ extents is. allotted layout catalog c.args.volume c.args.lrecl c.args.space c.requires.volume c.requires.lrecl_above c.requires.space_above c.requires.stand extents.items is) c.at_lowest.ensures.made

pub returns-clause-largest : goal.returns-clause-largest
returns-clause-largest c =
    let layout = c.args.layout.now in
    let catalog = c.args.library.now in
    IfErr-weaker c.at_lowest.result (λ cause. allocated layout catalog c.args.volume c.args.lrecl c.args.space ≡ Err cause) (λ cause. Refused layout catalog c.args.volume c.args.lrecl c.args.space cause)
    (λ cause is. refused layout catalog c.args.volume c.args.lrecl c.args.space c.requires.volume c.requires.lrecl_above c.requires.space_above c.requires.stand cause is) c.at_lowest.ensures.refused
