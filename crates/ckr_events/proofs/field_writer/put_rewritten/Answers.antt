use Rattle.std.proofs.Common.{◌≡◌, ℕ, List, ◌∷◌, [], ◌++◌, length, ap, ◌∙◌, append_assoc}
use Rattle.std.specs.Int.{w16, w32, to_be_bytes}
use Rattle.ckr_events.specs.Format.{length_list}
use Rattle.ckr_events.proofs.field_writer.put_rewritten.Goals as goal

-- what was put one behind the other
joined : (old a b c d e f more : List ℕ) → ((((((old ++ a) ++ b) ++ c) ++ d) ++ e) ++ f) ++ more ≡ old ++ (a ++ (b ++ (c ++ (d ++ (e ++ (f ++ more))))))
joined old a b c d e f more = simp append_assoc

pub returns-clause-items : goal.returns-clause-items
returns-clause-items c =
    let four = λ (n : ℕ). to_be_bytes w32 n in
    let image = c.args.image.now in
    let last = to_be_bytes w16 (length image) ++ image in
    c.put_record_bytes.ensures.items
    ∙ ap (λ (t : List ℕ). c.put_four_bytes-4.new.out.items ++ (to_be_bytes w16 (length t) ++ t)) c.bytes.ensures.value
    ∙ ap (λ (l : List ℕ). l ++ last) (c.put_four_bytes-4.ensures.items
    ∙ ap (λ (l : List ℕ). l ++ four c.args.place) (c.put_lengths.ensures.items
    ∙ ap (λ (l : List ℕ). l ++ length_list.spell c.args.lengths.now.items) (c.put_four_bytes-3.ensures.items
    ∙ ap (λ (l : List ℕ). l ++ four c.args.writes) (c.put_four_bytes-2.ensures.items
    ∙ ap (λ (l : List ℕ). l ++ four c.args.taken) (c.put_four_bytes.ensures.items
    ∙ ap (λ (l : List ℕ). l ++ four c.args.job) c.put_byte.ensures.items)))))
    ∙ joined c.args.out.now.items (5 ∷ []) (four c.args.job) (four c.args.taken) (four c.args.writes) (length_list.spell c.args.lengths.now.items) (four c.args.place) last
