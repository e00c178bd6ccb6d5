use Rattle.ckr_meaning.proofs.WriteSeries.{within_at-none, within_at-more}
use Rattle.ckr_meaning.proofs.laws.writes_go_on.Goals as goal

pub returns : goal.returns
returns c = record { none = within_at-none; more = within_at-more }
