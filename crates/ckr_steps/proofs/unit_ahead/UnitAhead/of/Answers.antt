use Rattle.std.proofs.Common.{◌≡◌, ap, sym, ◌∙◌, arith, filter, length, take}
use Rattle.std.specs.Option.{is_some}
use Rattle.ckr_steps.specs.Writes.{done_of, is_behind, rewrite_of}
use Rattle.ckr_steps.proofs.UnitWrites.{count_all, count_one, rewrite_some}
use Rattle.ckr_steps.proofs.unit_ahead.UnitAhead.of.Goals as goal
use Rattle.ckr_steps.proofs.unit_ahead.UnitAhead.of.Goals.{then-rewrites, else-rewrites}

pub returns-clause-count : goal.returns-clause-count
returns-clause-count c =
    let library = c.args.library.now in
    let files = c.args.files.now in
    let items = c.args.done.writes.items in
    let is : c.is_some-rewrites.result ≡ is_some (rewrite_of library files items) = c.is_some-rewrites.ensures ∙ ap is_some (c.rewrite_of-rewrite.ensures ∙ ap (rewrite_of library files) c.as_slice.ensures.value) in
    let kept : c.truncate.new.self.items ≡ done_of library files items =
    c.truncate.ensures.items ∙ ap (take c.count_done.result) (sym c.as_slice-3.ensures.value) ∙ c.count_done.ensures ∙ ap (done_of library files) c.as_slice-3.ensures.value in
    elim c.if-rewrites.branch [
      | then-rewrites w ↦ w.count-is ∙ count_one library files items c.is_some-rewrites.result is w.if-rewrites.true
      | else-rewrites w ↦
          w.count-is ∙ w.count_behind-count.ensures.count ∙ ap (λ l. length (filter is_behind l)) (w.as_slice-else-rewrites.ensures.value ∙ kept)
          ∙ count_all library files items c.is_some-rewrites.result is w.if-rewrites.false
    ]

pub returns-clause-few : goal.returns-clause-few
returns-clause-few c =
    let library = c.args.library.now in
    let files = c.args.files.now in
    let items = c.args.done.writes.items in
    let is : c.is_some-rewrites.result ≡ is_some (rewrite_of library files items) = c.is_some-rewrites.ensures ∙ ap is_some (c.rewrite_of-rewrite.ensures ∙ ap (rewrite_of library files) c.as_slice.ensures.value) in
    elim c.if-rewrites.branch [
      | then-rewrites w ↦ omega (arith, w.count-is, rewrite_some library files items c.is_some-rewrites.result is w.if-rewrites.true)
      | else-rewrites w ↦ omega (arith, w.count-is, w.count_behind-count.ensures.few, ap length w.as_slice-else-rewrites.ensures.value, c.truncate.ensures.len)
    ]

pub returns-clause-four : goal.returns-clause-four
unfolding returns-clause-few
returns-clause-four c = omega (arith, returns-clause-few c, c.as_slice.ensures.fits, ap length c.as_slice.ensures.value)
