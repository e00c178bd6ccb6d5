use Rattle.std.proofs.Common.{◌≡◌, ◌∙◌, Err, ap, subst, sym, map, string_bytes}
use Rattle.ckr_words.specs.Matches.{refusal_of}
use Rattle.ckr_words.specs.Answers.{Reads}
use Rattle.ckr_words.specs.Words.{command_of}
use Rattle.ckr_words.specs.declared.error.WordsError.{WordsError}
use Rattle.ckr_words.proofs.ClapAnswers.{err_reads, ok_reads, texts_spelled}
use Rattle.ckr_words.proofs.words.read_by_clap.Goals as goal

pub returns-in-Ok : goal.returns-in-Ok
returns-in-Ok c =
    subst (λ o. Reads o c.command_met.result)
    (ok_reads _ c.in_ok-line.ensures.0 (map string_bytes c.args.words.now) (texts_spelled c.args.words.now) _ _ c.in-Ok.ensures.matches c.in-Ok.ensures.kinds)
    c.command_met.ensures

pub returns-in-Err : goal.returns-in-Err
returns-in-Err c =
    let is : c.refusal.result ≡ refusal_of _ = c.refusal.ensures ∙ ap refusal_of c.kind.ensures in
    subst (λ (e : WordsError). Reads (command_of (map string_bytes c.args.words.now)) (Err e)) (sym is)
    (err_reads _ c.in_ok-line.ensures.0 (map string_bytes c.args.words.now) (texts_spelled c.args.words.now) _ c.in-Err.ensures.kinds)
