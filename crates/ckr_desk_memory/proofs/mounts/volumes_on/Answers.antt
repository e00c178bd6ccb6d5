use Rattle.std.proofs.Common.{◌≡◌, ◌+◌, ◌-◌, [], ◌∷◌, ◌++◌, ℕ, arith, ap, append_assoc, sym, ◌∙◌, length}
use Rattle.std.proofs.lemmas.List.{length_push}
use Rattle.std.specs.Option.{is_some}
use Rattle.arrayvec.specs.ArrayVec.{ArrayVec}
use Rattle.ckr_desk_memory.specs.Mounts.{volumes_from}
use Rattle.ckr_desk_memory.proofs.WantedVolumes.{volume-kept, volume-left, volumes-list}
use Rattle.ckr_desk_memory.proofs.mounts.volumes_on.Goals as goal
use Rattle.ckr_desk_memory.proofs.mounts.volumes_on.Goals.{then-is_some, else-is_some}

pub loop-volume-preserved : goal.loop-volume-preserved
loop-volume-preserved c =
    let sets = c.args.sets.now.sets in
    let step = c.args.step.now in
    let volume = c.loop-volume.volume in
    let items = c.loop-volume.volumes.items in
    let rest = volumes_from sets step (volume + 1) (c.args.count - (volume + 1)) in
    elim c.if-is_some.branch [
      | then-is_some w ↦
          let pushed : c.if-is_some.volumes.items ≡ items ++ volume ∷ [] = cc w.push.ensures.items in
          record {
            kept =
                ap (λ all. all ++ rest) pushed
                ∙ append_assoc items (volume ∷ []) rest
                ∙ sym (ap (λ all. items ++ all) (volume-kept sets step volume c.args.count c.loop-volume-test.true (sym (c.is_some.ensures ∙ ap is_some c.dd_on.ensures) ∙ w.if-is_some.true)))
                ∙ c.loop-volume.invariant.kept;
            few = omega (arith, ap length pushed, length_push items volume, c.loop-volume.invariant.few);
          }
      | else-is_some w ↦
          record {
            kept =
                ap (λ (all : ArrayVec ℕ). all.items ++ rest) w.volumes-is
                ∙ sym (ap (λ all. items ++ all) (volume-left sets step volume c.args.count c.loop-volume-test.true (sym (c.is_some.ensures ∙ ap is_some c.dd_on.ensures) ∙ w.if-is_some.false)))
                ∙ c.loop-volume.invariant.kept;
            few = omega (arith, ap (λ (all : ArrayVec ℕ). length all.items) w.volumes-is, c.loop-volume.invariant.few);
          }
    ]

pub returns-clause-list : goal.returns-clause-list
returns-clause-list c = volumes-list c.args.sets.now.sets c.args.step.now c.loop-volume.volumes.items c.loop-volume.volume c.args.count c.loop-volume-test.false c.loop-volume.invariant.kept c.requires.count
