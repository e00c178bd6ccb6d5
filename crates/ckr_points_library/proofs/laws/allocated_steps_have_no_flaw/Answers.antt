use Rattle.ckr_points_library.proofs.Meaning.{no_flaw}
use Rattle.ckr_points_library.proofs.laws.allocated_steps_have_no_flaw.Goals as goal

pub returns : goal.returns
returns c = λ layout stamp placed sets fact. no_flaw layout stamp placed sets fact
