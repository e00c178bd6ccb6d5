use Rattle.std.proofs.Common.{◌≡◌, ◌∙◌, ◌∷◌, [], None, Some, ap, codes, drop, false, length, map, option_map, rules, string_bytes, true}
use Rattle.std.specs.Prelude.{bytes_eq, nat_eq}
use Rattle.std.specs.List.{starts_with}
use Rattle.ckr_words.specs.Summaries.{summary_of, with_positional_in, with_reply_in}
use Rattle.ckr_words.specs.Words.{all_positional, asks, ends, gives, is_option, positional, stray}
use Rattle.ckr_words.proofs.SummaryLemmas.{asked_end, asked_is, ended, is_asks, is_ends, is_gives, is_positional, is_stray, none_in, open_end, slice_is, word_is}
use Rattle.ckr_words.proofs.summary.+summed.Goals as goal

pub returns-then-asked : goal.returns-then-asked
returns-then-asked t c =
    let few : length c.args.words.now ≡ 0 = search rules in
    let none : map string_bytes c.args.words.now ≡ [] = none_in string_bytes c.args.words.now few in
    ended (map string_bytes c.args.words.now) c.args.asked c.args.place None none (asked_end c.args.place c.args.asked c.if-asked.true)

pub returns-in_default : goal.returns-in_default
returns-in_default t c =
    let few : length c.args.words.now ≡ 0 = search rules in
    let none : map string_bytes c.args.words.now ≡ [] = none_in string_bytes c.args.words.now few in
    ended (map string_bytes c.args.words.now) c.args.asked c.args.place (Some c.positional_words.result) none
    (ap Some (c.positional_words.ensures ∙ ap (λ ws. summary_of (all_positional c.args.place ws)) none) ∙ open_end c.args.place c.args.asked c.if-asked.false)

pub returns-in_err-behind : goal.returns-in_err-behind
returns-in_err-behind t c =
    let word = string_bytes c.in-Some.word.now in
    let rest = map string_bytes c.in-Some.rest.now in
    let parts : c.args.words.now ≡ c.in-Some.word.now ∷ c.in-Some.rest.now = search rules in
    let are : map string_bytes c.args.words.now ≡ word ∷ rest = ap (map string_bytes) parts in
    let failed : c.from_residual.result ≡ None = search rules in
    failed ∙ asked_is (map string_bytes c.args.words.now) rest word c.args.place c.args.asked are c.if-asked-2.true None c.in_err-behind.ensures

pub returns-then-asked-2 : goal.returns-then-asked-2
returns-then-asked-2 t c =
    let word = string_bytes c.in-Some.word.now in
    let rest = map string_bytes c.in-Some.rest.now in
    let parts : c.args.words.now ≡ c.in-Some.word.now ∷ c.in-Some.rest.now = search rules in
    let are : map string_bytes c.args.words.now ≡ word ∷ rest = ap (map string_bytes) parts in
    let made : c.with_reply.result ≡ with_reply_in word c.in_ok-behind.behind = search rules in
    ap Some made ∙ asked_is (map string_bytes c.args.words.now) rest word c.args.place c.args.asked are c.if-asked-2.true (Some c.in_ok-behind.behind) c.in_ok-behind.ensures

pub returns-then-eq : goal.returns-then-eq
returns-then-eq t c =
    let word = string_bytes c.in-Some.word.now in
    let rest = map string_bytes c.in-Some.rest.now in
    let parts : c.args.words.now ≡ c.in-Some.word.now ∷ c.in-Some.rest.now = search rules in
    let are : map string_bytes c.args.words.now ≡ word ∷ rest = ap (map string_bytes) parts in
    let dashes : bytes_eq word (codes "--") ≡ true = search rules in
    ap Some c.positional_words-then-eq.ensures ∙ word_is (map string_bytes c.args.words.now) rest word c.args.place c.args.asked are c.if-asked-2.false ends (is_ends word dashes)

pub returns-then-eq-2 : goal.returns-then-eq-2
returns-then-eq-2 t c =
    let word = string_bytes c.in-Some.word.now in
    let rest = map string_bytes c.in-Some.rest.now in
    let parts : c.args.words.now ≡ c.in-Some.word.now ∷ c.in-Some.rest.now = search rules in
    let are : map string_bytes c.args.words.now ≡ word ∷ rest = ap (map string_bytes) parts in
    let no_dashes : bytes_eq word (codes "--") ≡ false = search rules in
    let reply : bytes_eq word (codes "--reply") ≡ true = search rules in
    c.summed-then-eq-2.ensures ∙ word_is (map string_bytes c.args.words.now) rest word c.args.place c.args.asked are c.if-asked-2.false asks (is_asks word no_dashes reply)

pub returns-in_err-behind-2 : goal.returns-in_err-behind-2
returns-in_err-behind-2 t c =
    let word = string_bytes c.in-Some.word.now in
    let rest = map string_bytes c.in-Some.rest.now in
    let parts : c.args.words.now ≡ c.in-Some.word.now ∷ c.in-Some.rest.now = search rules in
    let are : map string_bytes c.args.words.now ≡ word ∷ rest = ap (map string_bytes) parts in
    let no_dashes : bytes_eq word (codes "--") ≡ false = search rules in
    let no_reply : bytes_eq word (codes "--reply") ≡ false = search rules in
    let begins : starts_with nat_eq word (codes "--reply=") ≡ true = search rules in
    let failed : c.from_residual-in_err-behind-2.result ≡ None = search rules in
    failed ∙ ap (option_map (with_reply_in (drop 8 word))) c.in_err-behind-2.ensures ∙ word_is (map string_bytes c.args.words.now) rest word c.args.place c.args.asked are c.if-asked-2.false (gives (drop 8 word)) (is_gives word no_dashes no_reply begins)

pub returns-then-starts_with : goal.returns-then-starts_with
returns-then-starts_with t c =
    let word = string_bytes c.in-Some.word.now in
    let rest = map string_bytes c.in-Some.rest.now in
    let parts : c.args.words.now ≡ c.in-Some.word.now ∷ c.in-Some.rest.now = search rules in
    let are : map string_bytes c.args.words.now ≡ word ∷ rest = ap (map string_bytes) parts in
    let no_dashes : bytes_eq word (codes "--") ≡ false = search rules in
    let no_reply : bytes_eq word (codes "--reply") ≡ false = search rules in
    let begins : starts_with nat_eq word (codes "--reply=") ≡ true = search rules in
    let bytes : c.as_bytes-bytes.result.now ≡ word = search rules in
    let made : c.with_reply-then-starts_with.result ≡ with_reply_in (drop 8 word) c.in_ok-behind-2.behind =
    c.with_reply-then-starts_with.ensures ∙ ap (λ b. with_reply_in b c.in_ok-behind-2.behind) (slice_is 8 c.as_bytes-bytes.result.now ∙ ap (drop 8) bytes) in
    ap Some made ∙ ap (option_map (with_reply_in (drop 8 word))) c.in_ok-behind-2.ensures ∙ word_is (map string_bytes c.args.words.now) rest word c.args.place c.args.asked are c.if-asked-2.false (gives (drop 8 word)) (is_gives word no_dashes no_reply begins)

pub returns-then-is_option : goal.returns-then-is_option
returns-then-is_option t c =
    let word = string_bytes c.in-Some.word.now in
    let rest = map string_bytes c.in-Some.rest.now in
    let parts : c.args.words.now ≡ c.in-Some.word.now ∷ c.in-Some.rest.now = search rules in
    let are : map string_bytes c.args.words.now ≡ word ∷ rest = ap (map string_bytes) parts in
    let no_dashes : bytes_eq word (codes "--") ≡ false = search rules in
    let no_reply : bytes_eq word (codes "--reply") ≡ false = search rules in
    let no_value : starts_with nat_eq word (codes "--reply=") ≡ false = search rules in
    let option : is_option word ≡ true = search rules in
    word_is (map string_bytes c.args.words.now) rest word c.args.place c.args.asked are c.if-asked-2.false stray (is_stray word no_dashes no_reply no_value option)

pub returns-in_err-behind-3 : goal.returns-in_err-behind-3
returns-in_err-behind-3 t c =
    let word = string_bytes c.in-Some.word.now in
    let rest = map string_bytes c.in-Some.rest.now in
    let parts : c.args.words.now ≡ c.in-Some.word.now ∷ c.in-Some.rest.now = search rules in
    let are : map string_bytes c.args.words.now ≡ word ∷ rest = ap (map string_bytes) parts in
    let no_dashes : bytes_eq word (codes "--") ≡ false = search rules in
    let no_reply : bytes_eq word (codes "--reply") ≡ false = search rules in
    let no_value : starts_with nat_eq word (codes "--reply=") ≡ false = search rules in
    let no_option : is_option word ≡ false = search rules in
    let failed : c.from_residual-in_err-behind-3.result ≡ None = search rules in
    failed ∙ ap (option_map (with_positional_in c.args.place word)) c.in_err-behind-3.ensures ∙ word_is (map string_bytes c.args.words.now) rest word c.args.place c.args.asked are c.if-asked-2.false positional (is_positional word no_dashes no_reply no_value no_option)

pub returns : goal.returns
returns t c =
    let word = string_bytes c.in-Some.word.now in
    let rest = map string_bytes c.in-Some.rest.now in
    let parts : c.args.words.now ≡ c.in-Some.word.now ∷ c.in-Some.rest.now = search rules in
    let are : map string_bytes c.args.words.now ≡ word ∷ rest = ap (map string_bytes) parts in
    let no_dashes : bytes_eq word (codes "--") ≡ false = search rules in
    let no_reply : bytes_eq word (codes "--reply") ≡ false = search rules in
    let no_value : starts_with nat_eq word (codes "--reply=") ≡ false = search rules in
    let no_option : is_option word ≡ false = search rules in
    let made : c.with_positional.result ≡ with_positional_in c.args.place word c.in_ok-behind-3.behind = search rules in
    ap Some made ∙ ap (option_map (with_positional_in c.args.place word)) c.in_ok-behind-3.ensures ∙ word_is (map string_bytes c.args.words.now) rest word c.args.place c.args.asked are c.if-asked-2.false positional (is_positional word no_dashes no_reply no_value no_option)
