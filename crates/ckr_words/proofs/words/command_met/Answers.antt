use Rattle.std.proofs.Common.{◌≡◌, codes, true, false, rules, subst, sym}
use Rattle.clap.specs.Words.{found_of, subcommand_rows_of}
use Rattle.std.specs.Prelude.{bytes_eq}
use Rattle.ckr_words.specs.Answers.{Reads}
use Rattle.ckr_words.proofs.ClapAnswers.{format_is, make_is, run_is, sub_is}
use Rattle.ckr_words.proofs.words.command_met.Goals as goal

pub returns-then-eq : goal.returns-then-eq
returns-then-eq c =
    let met = sub_is _ _ _ c.in-Some.ensures.name c.in-Some.ensures.rows in
    let format : bytes_eq c.in-Some.name.now (codes "format") ≡ true = search rules in
    subst (λ o. Reads o c.format_met.result) (sym (format_is (subcommand_rows_of c.args.matches.now) _ (found_of c.in-Some.found.now) _ met c.get_str-disk.ensures format)) c.format_met.ensures

pub returns-then-eq-2 : goal.returns-then-eq-2
returns-then-eq-2 c =
    let met = sub_is _ _ _ c.in-Some.ensures.name c.in-Some.ensures.rows in
    let no_format : bytes_eq c.in-Some.name.now (codes "format") ≡ false = search rules in
    let run : bytes_eq c.in-Some.name.now (codes "run") ≡ true = search rules in
    subst (λ o. Reads o c.run_met.result)
    (sym (run_is (subcommand_rows_of c.args.matches.now) _ (found_of c.in-Some.found.now) _ met c.get_str-disk.ensures _ c.get_str-reply.ensures no_format run)) c.run_met.ensures

pub returns-then-eq-3 : goal.returns-then-eq-3
returns-then-eq-3 c =
    let met = sub_is _ _ _ c.in-Some.ensures.name c.in-Some.ensures.rows in
    let no_format : bytes_eq c.in-Some.name.now (codes "format") ≡ false = search rules in
    let no_run : bytes_eq c.in-Some.name.now (codes "run") ≡ false = search rules in
    let make : bytes_eq c.in-Some.name.now (codes "make") ≡ true = search rules in
    subst (λ o. Reads o c.make_met.result)
    (sym (make_is (subcommand_rows_of c.args.matches.now) _ (found_of c.in-Some.found.now) _ met c.get_str-disk.ensures _ c.get_str-number.ensures no_format no_run make)) c.make_met.ensures
