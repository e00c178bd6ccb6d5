use Rattle.ckr_desk_turn.proofs.PassedLists.{passed-few}
use Rattle.ckr_desk_turn.proofs.entry_form_laws.passed_lists_are_short.Goals as goal

pub returns : goal.returns
returns c = passed-few
