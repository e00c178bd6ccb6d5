use Rattle.ckr_meaning.proofs.Room.{within_at-within, disposed_at-within, at-within, job_run-within}
use Rattle.ckr_meaning.proofs.laws.writes_keep_to_the_space.Goals as goal

pub returns : goal.returns
returns c = record { within = λ start writes distinct. within_at-within start distinct writes; disposed = disposed_at-within; place = at-within; job = job_run-within }
