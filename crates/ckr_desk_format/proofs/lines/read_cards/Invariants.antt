use Rattle.std.proofs.Common.{length, ◌≡◌, ◌≤◌, ◌+◌}
use Rattle.std.specs.List.{position_or_len}
use Rattle.std.specs.Str.Lines.{lines}
use Rattle.ckr_desk_format.specs.Installation.{nothing_said, by_lines, read_on, IsSoundLayout}
use Rattle.ckr_desk_format.specs.Streams.{is_line_end}
use Rattle.ckr_desk_format.proofs.lines.read_cards.Given as goal

abbrev pub invariant-lines : goal.invariant-lines
invariant-lines l = record {
  read : read_on l.reader (lines l.rest) ≡ by_lines 1 nothing_said (lines l.bytes);
  place : l.place ≡ position_or_len is_line_end l.rest;
  within : l.place ≤ length l.rest;
  few : l.reader.lines + length l.rest ≤ length l.bytes;
  sound : IsSoundLayout l.reader.said;
}

abbrev pub decreases-lines : goal.decreases-lines
decreases-lines l = length l.rest
