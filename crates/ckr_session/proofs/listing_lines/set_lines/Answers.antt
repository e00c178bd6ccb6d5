use Rattle.std.proofs.Common.{◌≡◌, ◌++◌, ℕ, Some, take, slice_get, sym, ap, subst, ◌∙◌, append-nil}
use Rattle.std.specs.List.{flat_map}
use Rattle.std.specs.Option.{option_map}
use Rattle.ckr_desk.specs.Model.Listing.{listed}
use Rattle.ckr_desk.specs.Model.Listed.{Listed}
use Rattle.ckr_desk.specs.Soundness.{state_of}
use Rattle.ckr_desk.specs.Model.Layout.{Layout}
use Rattle.ckr_desk.specs.State.{layout_of}
use Rattle.ckr_report.specs.Listings.{set_text}
use Rattle.ckr_session.proofs.Lists.{listed_more, listed_all}
use Rattle.ckr_session.proofs.listing_lines.set_lines.Goals as goal

pub loop-line-init : goal.loop-line-init
loop-line-init g c holds = sym (append-nil c.args.out.now)

pub loop-line-preserved : goal.loop-line-preserved
loop-line-preserved g c holds =
    let l = listed (state_of g.D.Disk.content c.args.desk.now).desk in
    let layout = layout_of c.args.desk.now in
    let line = c.in-Some.line in
    let found : Some (line.name, line.set) ≡ slice_get l c.loop-line.place = ap (option_map (λ (w : Listed). (w.name, w.set))) (sym c.in-Some.is) ∙ c.set_at.ensures holds in
    let written = c.in_ok-set_line.ensures ∙ ap (λ (w : Layout). c.loop-line.out ++ set_text w (line.name, line.set)) c.layout.ensures.layout in
    subst (λ (n : ℕ). c.set_line.new.out ≡ c.args.out.now ++ flat_map (set_text layout) (take n l)) (sym c.in-Some-checked_add.ensures.1)
    (listed_more (set_text layout) l c.loop-line.place (line.name, line.set) c.args.out.now c.loop-line.out c.set_line.new.out found (c.loop-line.invariant holds) written)

pub returns-in_default : goal.returns-in_default
returns-in_default g c holds =
    listed_all (set_text (layout_of c.args.desk.now)) (listed (state_of g.D.Disk.content c.args.desk.now).desk) c.loop-line.place c.args.out.now c.loop-line.out
    (ap (option_map (λ (w : Listed). (w.name, w.set))) (sym c.in_default.is) ∙ c.set_at.ensures holds) (c.loop-line.invariant holds)
