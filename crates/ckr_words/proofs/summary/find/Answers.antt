use Rattle.std.proofs.Common.{◌≡◌, ◌∙◌, ◌<◌, ◌∷◌, Some, ap, arith, length, map, option_map, rules, string_bytes, sym}
use Rattle.std.proofs.lemmas.List.{length-map}
use Rattle.ckr_words.specs.Summaries.{found_by}
use Rattle.ckr_words.specs.Words.{Text, disk_place_of, kind_of, kind_of_words, last_place, positionals_of}
use Rattle.ckr_words.specs.declared.summary.Found.{Found}
use Rattle.ckr_words.specs.declared.words.Command.{Command}
use Rattle.ckr_words.proofs.SummaryLemmas.{disk_from, kind_from, long_line}
use Rattle.ckr_words.proofs.summary.find.Goals as goal

pub returns-then-words-gt5-clause-kind : goal.returns-then-words-gt5-clause-kind
returns-then-words-gt5-clause-kind c =
    let long : 5 < length (map string_bytes c.args.words.now) = omega (arith, length-map c.args.words.now string_bytes) in
    sym (ap (option_map kind_of) (long_line (map string_bytes c.args.words.now) long))

pub returns-then-words-gt5-clause-disk : goal.returns-then-words-gt5-clause-disk
returns-then-words-gt5-clause-disk c =
    let words = map string_bytes c.args.words.now in
    let long : 5 < length words = omega (arith, length-map c.args.words.now string_bytes) in
    sym (ap (option_map (λ (command : Command). last_place (positionals_of words))) (long_line words long))

pub returns-clause-kind : goal.returns-clause-kind
returns-clause-kind c =
    let name = string_bytes c.in_ok-name.name.now in
    let rest = map string_bytes c.in_ok-name.rest.now in
    let given = c.in_ok-given.given in
    let parts : c.args.words.now ≡ c.in_ok-name.name.now ∷ c.in_ok-name.rest.now = search rules in
    let text : c.as_str.result.now ≡ name = search rules in
    ap (option_map (λ (found : Found). found.kind)) (c.found_by.ensures ∙ ap (λ (n : Text). found_by n given) text)
    ∙ kind_from name rest (Some given) (sym c.in_ok-given.ensures) ∙ sym (ap (λ words. kind_of_words (map string_bytes words)) parts)

pub returns-clause-disk : goal.returns-clause-disk
returns-clause-disk c =
    let name = string_bytes c.in_ok-name.name.now in
    let rest = map string_bytes c.in_ok-name.rest.now in
    let given = c.in_ok-given.given in
    let parts : c.args.words.now ≡ c.in_ok-name.name.now ∷ c.in_ok-name.rest.now = search rules in
    let text : c.as_str.result.now ≡ name = search rules in
    ap (option_map (λ (found : Found). found.disk)) (c.found_by.ensures ∙ ap (λ (n : Text). found_by n given) text)
    ∙ disk_from name rest (Some given) (sym c.in_ok-given.ensures) ∙ sym (ap (λ words. disk_place_of (map string_bytes words)) parts)
