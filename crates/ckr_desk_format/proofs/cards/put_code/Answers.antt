use Rattle.std.proofs.Common.{◌≡◌, ◌&&◌, not, true, IsTrue, nat_lt, nat_le, List, [], length, sym, ap, subst, ◌∙◌}
use Rattle.std.specs.List.{list_any}
use Rattle.std.proofs.lemmas.Bool.{and_parts}
use Rattle.ckr_base.specs.declared.code.Code.{Code}
use Rattle.ckr_base.specs.CodeText.{number_of, same_code}
use Rattle.ckr_volumes.specs.Header.{codes_fit}
use Rattle.ckr_desk_format.specs.Cards.{is_new_code}
use Rattle.ckr_desk_format.proofs.Codes.{codes_fit-push}
use Rattle.ckr_desk_format.proofs.cards.put_code.Goals as goal

pub returns-in-Some-clause-fit : goal.returns-in-Some-clause-fit
returns-in-Some-clause-fit c =
    let made = c.args.made.now.items in
    let code = c.in-Some.code in
    let new : is_new_code made code ≡ true = ap (λ (l : List Code). is_new_code l code) (sym c.as_slice.ensures.value) ∙ sym c.is_new_code.ensures ∙ c.if-is_new_code.true in
    subst (λ (l : List Code). IsTrue (codes_fit [] l)) (sym c.push.ensures.items)
    (codes_fit-push [] made code c.requires (and_parts (nat_lt (length made) 32) (nat_le (number_of code) 4095 && not (list_any (same_code code) made)) new).1)
