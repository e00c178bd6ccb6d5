use Rattle.ckr_meaning.proofs.Fronts.{later-before, later-opened, later-within}
use Rattle.ckr_meaning.proofs.laws.first_steps_leave_other_names.Goals as goal

pub returns : goal.returns
returns c = record {
  before = λ count number job library name later. later-before count job library name later number;
  opened = λ count number job library name later. later-opened count job library name later number;
  within = λ count number writes job library name later. later-within count job library name later number writes;
}
