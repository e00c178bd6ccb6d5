use Rattle.ckr_points_tables.specs.Entries.{entry_in}
use Rattle.ckr_desk_entries.proofs.Continuations.{found-its}
use Rattle.ckr_desk_entries.proofs.continuation.judged_there.Goals as goal

pub returns-clause-its : goal.returns-clause-its
returns-clause-its g c =
    found-its (entry_in c.args.there.now.entry) c.args.program _ c.in_ok-judged_bytes.field-0 c.in_ok-judged_bytes.ensures.judged c.in_ok-judged_bytes.ensures.form
