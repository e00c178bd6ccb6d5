use Rattle.std.proofs.Common.{◌≡◌, ℕ, Some, take, slice_get, sym, ap, subst, ◌∙◌}
use Rattle.std.specs.Option.{option_map}
use Rattle.ckr_desk.specs.Model.Listing.{listed}
use Rattle.ckr_desk.specs.Model.Listed.{Listed}
use Rattle.ckr_desk.specs.Soundness.{state_of}
use Rattle.ckr_session.specs.Counts.{records_behind}
use Rattle.ckr_session.proofs.Records.{records_all, records_more}
use Rattle.ckr_session.proofs.counts.records_in.Goals as goal

pub loop-line-preserved : goal.loop-line-preserved
loop-line-preserved g c holds =
    let l = listed (state_of g.D.Disk.content c.args.desk.now).desk in
    let line = c.in-Some.line in
    let found : Some (line.name, line.set) ≡ slice_get l c.loop-line.place = ap (option_map (λ (w : Listed). (w.name, w.set))) (sym c.in-Some.is) ∙ c.set_at.ensures holds in
    subst (λ (n : ℕ). c.with_set-count.result ≡ records_behind 0 (take n l)) (sym c.in-Some-checked_add.ensures.1)
    (records_more l c.loop-line.place (line.name, line.set) c.loop-line.count c.with_set-count.result found (c.loop-line.invariant holds) c.with_set-count.ensures)

pub returns-in_default : goal.returns-in_default
returns-in_default g c holds =
    records_all (listed (state_of g.D.Disk.content c.args.desk.now).desk) c.loop-line.place c.loop-line.count
    (ap (option_map (λ (w : Listed). (w.name, w.set))) (sym c.in_default.is) ∙ c.set_at.ensures holds) (c.loop-line.invariant holds)
