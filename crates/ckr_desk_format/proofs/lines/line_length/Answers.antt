use Rattle.std.proofs.Common.{arith, not}
use Rattle.std.proofs.lemmas.Grind.{common_steps}
use Rattle.std.proofs.lemmas.List.Sums.{prefix_len-le-length}
use Rattle.ckr_desk_format.specs.Streams.{is_line_end}
use Rattle.ckr_desk_format.proofs.lines.line_length.Goals as goal

pub returns-in-None-clause-value : goal.returns-in-None-clause-value
returns-in-None-clause-value c = grind (arith, common_steps, prefix_len-le-length (λ byte. not (is_line_end byte)) c.args.bytes.now)
