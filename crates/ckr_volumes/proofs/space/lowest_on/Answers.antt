use Rattle.std.proofs.Common.{◌≡◌, ◌∷◌, [], IsTrue, Ok, Err, subst, sym, ◌∙◌, ap, arith}
use Rattle.std.specs.List.{list_all}
use Rattle.std.proofs.lemmas.Result.{IfOk-weaker, IfErr-weaker}
use Rattle.ckr_library.specs.Spread.{spread_on}
use Rattle.ckr_volumes.specs.Space.{allocated, ends_by, holes_from, placed_in}
use Rattle.ckr_volumes.specs.Places.{bytes_of}
use Rattle.ckr_volumes.proofs.Allocation.{spread-ends}
use Rattle.ckr_volumes.proofs.PackedHoles.{behind-ends, holes-packed, packed-ends}
use Rattle.ckr_volumes.proofs.space.lowest_on.Goals as goal

pub overflow_cast-packed : goal.overflow_cast-packed
overflow_cast-packed c =
    let end = c.bytes_of-end.ensures ∙ ap (λ volumes. bytes_of volumes c.args.volume) c.as_slice.ensures.value in
    omega (
      arith,
      c.packed_on-packed.ensures.from,
      packed-ends (bytes_of c.args.layout.now.volumes.items c.args.volume) 0 (spread_on c.args.volume c.args.library.now.sets) (omega arith) (spread-ends c.args.layout.now c.args.volume c.args.library.now.sets c.requires.stand),
      end,
      c.bytes_of-end.type_inv,
    )

pub lowest-requires-clause-from : goal.lowest-requires-clause-from
lowest-requires-clause-from c =
    let end = c.bytes_of-end.ensures ∙ ap (λ volumes. bytes_of volumes c.args.volume) c.as_slice.ensures.value in
    omega (
      arith,
      c.packed_on-packed.ensures.from,
      packed-ends (bytes_of c.args.layout.now.volumes.items c.args.volume) 0 (spread_on c.args.volume c.args.library.now.sets) (omega arith) (spread-ends c.args.layout.now c.args.volume c.args.library.now.sets c.requires.stand),
      end,
    )

pub lowest-requires-clause-inside : goal.lowest-requires-clause-inside
lowest-requires-clause-inside c =
    subst (λ end. IsTrue (list_all (ends_by end) c.packed_on-packed.result.rest.now)) (sym (c.bytes_of-end.ensures ∙ ap (λ volumes. bytes_of volumes c.args.volume) c.as_slice.ensures.value))
    (subst (λ spans. IsTrue (list_all (ends_by (bytes_of c.args.layout.now.volumes.items c.args.volume)) spans)) (sym c.packed_on-packed.ensures.rest)
    (behind-ends (bytes_of c.args.layout.now.volumes.items c.args.volume) 0 (spread_on c.args.volume c.args.library.now.sets) (spread-ends c.args.layout.now c.args.volume c.args.library.now.sets c.requires.stand)))

pub returns-clause-made : goal.returns-clause-made
returns-clause-made c =
    let holes : allocated c.args.layout.now c.args.library.now c.args.volume c.args.lrecl c.args.space ≡ placed_in c.args.lrecl c.args.space (holes_from c.packed_on-packed.result.from c.bytes_of-end.result c.packed_on-packed.result.rest.now) =
    ap (placed_in c.args.lrecl c.args.space)
    (holes-packed 0 (bytes_of c.args.layout.now.volumes.items c.args.volume) (spread_on c.args.volume c.args.library.now.sets)
    ∙ (λ i. holes_from (sym c.packed_on-packed.ensures.from i) (sym (c.bytes_of-end.ensures ∙ ap (λ volumes. bytes_of volumes c.args.volume) c.as_slice.ensures.value) i) (sym c.packed_on-packed.ensures.rest i))) in
    IfOk-weaker c.lowest.result _ (λ start. allocated c.args.layout.now c.args.library.now c.args.volume c.args.lrecl c.args.space ≡ Ok (record { start = start; records = c.args.space } ∷ [])) (λ start is. holes ∙ is) c.lowest.ensures.made

pub returns-clause-refused : goal.returns-clause-refused
returns-clause-refused c =
    let holes : allocated c.args.layout.now c.args.library.now c.args.volume c.args.lrecl c.args.space ≡ placed_in c.args.lrecl c.args.space (holes_from c.packed_on-packed.result.from c.bytes_of-end.result c.packed_on-packed.result.rest.now) =
    ap (placed_in c.args.lrecl c.args.space)
    (holes-packed 0 (bytes_of c.args.layout.now.volumes.items c.args.volume) (spread_on c.args.volume c.args.library.now.sets)
    ∙ (λ i. holes_from (sym c.packed_on-packed.ensures.from i) (sym (c.bytes_of-end.ensures ∙ ap (λ volumes. bytes_of volumes c.args.volume) c.as_slice.ensures.value) i) (sym c.packed_on-packed.ensures.rest i))) in
    IfErr-weaker c.lowest.result _ (λ cause. allocated c.args.layout.now c.args.library.now c.args.volume c.args.lrecl c.args.space ≡ Err cause) (λ cause is. holes ∙ is) c.lowest.ensures.refused
