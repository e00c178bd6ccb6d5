use Rattle.std.proofs.Common.{◌≡◌, ◌++◌, take, drop}
use Rattle.ckr_jcl.specs.Text.{before, behind}
use Rattle.ckr_jcl.proofs.text.length_before.Given as goal

abbrev pub invariant-loop-byte : goal.invariant-loop-byte
invariant-loop-byte l = record {
  at : l.at ≡ l.byte-index;
  before : before l.mark l.text ≡ take l.byte-index l.text ++ before l.mark (drop l.byte-index l.text);
  behind : behind l.mark l.text ≡ behind l.mark (drop l.byte-index l.text);
}
