-- What a computation opens: every definition of a step and of a job that is shut elsewhere, and those of the programs.
use Rattle.ckr_programs.specs.Work.{taken_records, is_whole, prog_writes}
use Rattle.ckr_match.specs.InputOrder.{taken_from}
use Rattle.ckr_match.specs.Work.{match_writes}
use Rattle.ckr_meaning.specs.Program.{work, records_taken, upto, unit_done, work_within}
use Rattle.ckr_meaning.specs.StepRun.{placed_at, opened_at, made_at, case_at, output_name, room_at, work_at, written_one, within_at, disposed_at, end_at}
use Rattle.ckr_meaning.specs.JobRun.{step_walked, walked_one, walk_before, start_at, at, cut_at, end_in, end_of_job, job_run, is_reached, is_place}

-- a proof that computes names this one
unfoldable pub jobs_open : Unit {0}
unfolding taken_records is_whole prog_writes taken_from match_writes work records_taken upto unit_done work_within placed_at opened_at made_at case_at output_name room_at work_at written_one within_at disposed_at end_at step_walked walked_one walk_before start_at at cut_at end_in end_of_job job_run is_reached is_place
jobs_open = tt
