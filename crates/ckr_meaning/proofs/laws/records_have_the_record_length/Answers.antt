use Rattle.ckr_meaning.proofs.Lengths.{within_at-lengths, disposed_at-lengths, at-lengths, job_run-lengths}
use Rattle.ckr_meaning.proofs.laws.records_have_the_record_length.Goals as goal

pub returns : goal.returns
returns c = record { within = within_at-lengths; disposed = disposed_at-lengths; place = at-lengths; job = job_run-lengths }
