use Rattle.std.proofs.Common.{◌∙◌, [], ap, sym}
use Rattle.std.specs.Option.{option_map}
use Rattle.ckr_volumes.specs.Layouts.{StandsIn}
use Rattle.ckr_desk.proofs.Continuations.Entries.{there-stands}
use Rattle.ckr_desk_refines.specs.DiskEntries.Continuation.{there_of}
use Rattle.ckr_desk.proofs.continuation.judged_point.Goals as goal

pub judged_there-requires-clause-stands : goal.judged_there-requires-clause-stands
judged_there-requires-clause-stands g c κs within =
    there-stands c.args.store.now.layout c.args.tables.now.desk [] c.args.at.now (StandsIn c.args.store.now.layout) (there_of c.in-Some.there) c.requires.stand
    (ap (option_map there_of) (sym c.in-Some.is) ∙ c.entry_there.ensures)
