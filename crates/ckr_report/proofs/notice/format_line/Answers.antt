use Rattle.std.proofs.Common.{◌≡◌, ℕ, List, ◌++◌, ◌∷◌, [], ◌∙◌, ap, codes, length}
use Rattle.std.specs.Fmt.{decimal}
use Rattle.ckr_report.proofs.Pieces.{counted-behind}
use Rattle.ckr_report.proofs.notice.format_line.Goals as goal

pub returns-clause-text : goal.returns-clause-text
returns-clause-text c =
    let layout = c.args.layout.now in
    let one : List ℕ = codes "FORMATTED VOLUMES " ++ decimal c.len.result in
    let two : List ℕ = one ++ codes " UNITS " ++ decimal c.from.result in
    let first : c.counted.new.out.items ≡ one = c.counted.ensures.text ∙ ap (λ l. l ++ one) c.requires.empty in
    let second = counted-behind one c.counted.new.out.items c.counted-2.new.out.items (codes " UNITS ") (decimal c.from.result) first c.counted-2.ensures.text in
    let third = counted-behind two c.counted-2.new.out.items c.counted-3.new.out.items (codes " INITIATORS ") (decimal c.from-2.result) second c.counted-3.ensures.text in
    let line = λ (v u i : ℕ). codes "FORMATTED VOLUMES " ++ decimal v ++ codes " UNITS " ++ decimal u ++ codes " INITIATORS " ++ decimal i ++ 10 ∷ [] in
    c.put.ensures.text ∙ ap (λ l. l ++ 10 ∷ []) third ∙ ap (λ v. line v c.from.result c.from-2.result) c.len.ensures.value
    ∙ ap (λ u. line (length layout.volumes.items) u c.from-2.result) c.from.ensures ∙ ap (λ i. line (length layout.volumes.items) layout.units i) c.from-2.ensures
