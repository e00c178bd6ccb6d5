use Rattle.std.proofs.Common.{ℕ, List, ◌+◌, ◌∷◌, length, take, sym, ap, ◌∙◌, arith, length-drop}
use Rattle.std.specs.Str.Lines.{lines, strip_carriage_return}
use Rattle.ckr_desk_format.specs.Installation.{installation_of, by_said, read_on}
use Rattle.ckr_desk_format.proofs.LineEnds.{lines_next}
use Rattle.ckr_desk_format.proofs.lines.read_cards.Goals as goal

pub lines-preserved : goal.lines-preserved
lines-preserved c =
    let i = c.lines.invariant in
    let reader = c.lines.reader in
    let rest = c.lines.rest.now in
    let place = c.lines.place in
    record {
      read =
          c.line.ensures.read (lines c.behind-rest.result.now)
          ∙ ap (λ (text : List ℕ). read_on reader (text ∷ lines c.behind-rest.result.now)) c.without_return.ensures
          ∙ ap (λ (more : List ℕ). read_on reader (strip_carriage_return (take place rest) ∷ lines more)) c.behind-rest.ensures
          ∙ ap (read_on reader) (sym (lines_next rest place i.place c.lines-test.true)) ∙ i.read;
      place = c.line_length-place-in-lines.ensures.value;
      within = c.line_length-place-in-lines.ensures.bound;
      few = omega (arith, i.few, c.line.ensures.lines, ap length c.behind-rest.ensures, length-drop (place + 1) rest, c.lines-test.true);
      sound = c.line.ensures.sound;
    }

pub returns-clause-exact : goal.returns-clause-exact
unfolding installation_of
returns-clause-exact c = c.finish.ensures.exact ∙ ap (by_said c.args.size) (c.last_line.ensures.read ∙ c.lines.invariant.read)
