use Rattle.std.proofs.Common.{◌≤◌, ℕ, ◌+◌, List, [], ◌∷◌, ◌++◌, slice_set, ap, sym, ◌∙◌, add-one, arith}
use Rattle.std.proofs.lemmas.Result.{on_ok_weaker}
use Rattle.std.proofs.Math.Seq.{set-append_seam}
use Rattle.ckr_volumes.specs.Lists.{length_records}
use Rattle.ckr_volumes.specs.Records.{record_at, records_on}
use Rattle.ckr_steps.proofs.unit_writes.write_next.Goals as goal

pub returns-clause-written : goal.returns-clause-written
returns-clause-written g c told =
    let old = g.D.Disk.content c.args.disk.now in
    let new = g.D.Disk.content c.write_record.new.disk in
    let layout = c.args.layout.now in
    let set = c.args.set.now in
    let before : List (List ℕ) = records_on old layout set set.length in
    let last : List ℕ = record_at old layout set set.length in
    let space : set.length + 1 ≤ set.space = omega (arith, c.requires.space) in
    on_ok_weaker c.write_record.result
    (λ written. written (set.length + 1) space
    ∙ ap (λ (n : ℕ). slice_set (records_on old layout set n) set.length c.fitted.result) (add-one set.length)
    ∙ ap (λ (n : ℕ). slice_set (before ++ last ∷ []) n c.fitted.result) (sym (length_records old layout set set.length))
    ∙ set-append_seam before last [] c.fitted.result
    ∙ ap (λ (image : List ℕ). before ++ image ∷ []) c.fitted.ensures.value)
    (c.write_record.ensures.written told)
