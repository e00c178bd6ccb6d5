use Rattle.std.proofs.Common.{◌≡◌, ℕ, List, ◌∷◌, [], ◌++◌, ap, ◌∙◌, append_assoc}
use Rattle.std.specs.Int.{w32, to_be_bytes}
use Rattle.ckr_fields.specs.Fields.{check_id, optional_spell}
use Rattle.ckr_events.proofs.field_writer.put_selected.Goals as goal

-- what was put one behind the other
joined : (old a b c d e more : List ℕ) → (((((old ++ a) ++ b) ++ c) ++ d) ++ e) ++ more ≡ old ++ (a ++ (b ++ (c ++ (d ++ (e ++ more)))))
joined old a b c d e more = simp append_assoc

pub returns-clause-items : goal.returns-clause-items
returns-clause-items c =
    let four = λ (n : ℕ). to_be_bytes w32 n in
    let last = optional_spell check_id.spell c.args.id.now in
    c.put_optional_id.ensures.items
    ∙ ap (λ (l : List ℕ). l ++ last) (c.put_byte-3.ensures.items
    ∙ ap (λ (l : List ℕ). l ++ c.args.step ∷ []) (c.put_four_bytes-2.ensures.items
    ∙ ap (λ (l : List ℕ). l ++ four c.args.earlier) (c.put_byte-2.ensures.items
    ∙ ap (λ (l : List ℕ). l ++ c.args.initiator ∷ []) (c.put_four_bytes.ensures.items
    ∙ ap (λ (l : List ℕ). l ++ four c.args.job) c.put_byte.ensures.items))))
    ∙ joined c.args.out.now.items (2 ∷ []) (four c.args.job) (c.args.initiator ∷ []) (four c.args.earlier) (c.args.step ∷ []) last
