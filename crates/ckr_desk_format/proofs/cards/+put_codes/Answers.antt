use Rattle.std.specs.List.{slice_split}
use Rattle.ckr_base.specs.Words.{is_blank}
use Rattle.ckr_desk_format.specs.Cards.{codes_by}
use Rattle.std.proofs.Common.{◌≡◌, ℕ, ◌<◌, length, List, Option, Some, None, sym, subst, arith}
use Rattle.std.specs.Bool.{OnTrue, OnFalse}
use Rattle.ckr_base.specs.declared.code.Code.{Code}
use Rattle.ckr_desk_format.proofs.Codes.{words_behind, words_wrong}
use Rattle.ckr_desk_format.proofs.cards.+put_codes.Goals as goal

pub returns-then-not-put_code-clause-wrong : goal.returns-then-not-put_code-clause-wrong
returns-then-not-put_code-clause-wrong t c =
    let inside : c.word_length-place.result < length c.args.text.now = omega (arith, c.word_length-place.ensures.bound, c.if-place-text.false) in
    words_wrong c.args.text.now c.args.made.now.items c.word_length-place.result c.word_length-place.ensures.value inside (c.if-not-put_code.ensures).wrong

pub returns-clause-put : goal.returns-clause-put
returns-clause-put t c =
    let inside : c.word_length-place.result < length c.args.text.now = omega (arith, c.word_length-place.ensures.bound, c.if-place-text.false) in
    subst (λ (read : Option (List Code)). OnTrue c.put_codes.result (read ≡ Some c.put_codes.new.made.items))
    (sym (words_behind c.args.text.now c.args.made.now.items c.put_code-2.new.made.items c.word_length-place.result c.word_length-place.ensures.value inside (c.if-not-put_code.ensures).put))
    (subst (λ (rest : List ℕ). OnTrue c.put_codes.result (codes_by c.put_code-2.new.made.items (slice_split is_blank rest) ≡ Some c.put_codes.new.made.items)) c.behind.ensures c.put_codes.ensures.put)

pub returns-clause-wrong : goal.returns-clause-wrong
returns-clause-wrong t c =
    let inside : c.word_length-place.result < length c.args.text.now = omega (arith, c.word_length-place.ensures.bound, c.if-place-text.false) in
    subst (λ (read : Option (List Code)). OnFalse c.put_codes.result (read ≡ None))
    (sym (words_behind c.args.text.now c.args.made.now.items c.put_code-2.new.made.items c.word_length-place.result c.word_length-place.ensures.value inside (c.if-not-put_code.ensures).put))
    (subst (λ (rest : List ℕ). OnFalse c.put_codes.result (codes_by c.put_code-2.new.made.items (slice_split is_blank rest) ≡ None)) c.behind.ensures c.put_codes.ensures.wrong)
