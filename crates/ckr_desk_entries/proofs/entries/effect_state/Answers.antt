use Rattle.std.proofs.Common.{◌∙◌, ap, sym}
use Rattle.std.specs.Option.{option_copied, option_map}
use Rattle.ckr_points_tables.specs.View.{facts_of}
use Rattle.ckr_desk_entries.proofs.EntryRefusals.{found-so, job-fits, refused-so, refused-without}
use Rattle.ckr_desk_entries.proofs.LibrarySets.{set-stands}
use Rattle.ckr_desk_entries.proofs.entries.effect_state.Goals as goal

pub returns-in_default-get-clause-refused : goal.returns-in_default-get-clause-refused
returns-in_default-get-clause-refused g c told row at line =
    refused-without c.args.layout.now c.args.tables.now.desk (g.D.Disk.content c.args.disk.now) c.args.run.now c.in-Some.table.now c.in-Some-in_effect.effect c.library.result.now
    (record {
      facts = ap (option_map facts_of) (sym (ap option_copied c.in-Some.is)) ∙ c.run.ensures;
      plain = c.runs-lines.ensures.rows;
      holds = sym c.is_holder.ensures ∙ c.if-not-is_holder.false;
      effect_is = c.in-Some-in_effect.is;
      seen = c.library.ensures.sets;
    })
    row at line (sym c.get.ensures ∙ ap option_copied c.in_default-get.is)

pub state_in-requires-clause-stands : goal.state_in-requires-clause-stands
state_in-requires-clause-stands g c κs within =
    set-stands c.args.layout.now c.library.result.now c.args.tables.now.desk.sets c.in-Some-in_effect.effect.set c.in-Some-get.set.now c.library.ensures.sets
    (sym c.get.ensures ∙ ap option_copied c.in-Some-get.is) c.requires.stand

pub state_in-requires-clause-job : goal.state_in-requires-clause-job
state_in-requires-clause-job g c κs within =
    job-fits c.args.tables.now.desk c.args.run.now.number (option_copied c.run.result) c.in-Some.table.now c.run.ensures (ap option_copied c.in-Some.is) c.runs-lines.ensures.rows

pub returns-clause-refused : goal.returns-clause-refused
returns-clause-refused g c = λ told.
    refused-so g.D.Disk.told c.args.layout.now c.args.tables.now.desk (g.D.Disk.content c.args.disk.now) c.args.run.now c.in-Some.table.now c.in-Some-in_effect.effect c.library.result.now
    (record {
      facts = ap (option_map facts_of) (sym (ap option_copied c.in-Some.is)) ∙ c.run.ensures;
      plain = c.runs-lines.ensures.rows;
      holds = sym c.is_holder.ensures ∙ c.if-not-is_holder.false;
      effect_is = c.in-Some-in_effect.is;
      seen = c.library.ensures.sets;
    })
    c.in-Some-get.set.now (sym c.get.ensures ∙ ap option_copied c.in-Some-get.is) c.in_ok-found.found c.in_ok-found.ensures.placed c.in_ok-found.ensures.unplaced told

pub returns-clause-found : goal.returns-clause-found
returns-clause-found g c =
    found-so g.D.Disk.told c.args.layout.now c.args.tables.now.desk (g.D.Disk.content c.args.disk.now) c.args.run.now c.in-Some.table.now c.in-Some-in_effect.effect c.library.result.now
    (record {
      facts = ap (option_map facts_of) (sym (ap option_copied c.in-Some.is)) ∙ c.run.ensures;
      plain = c.runs-lines.ensures.rows;
      holds = sym c.is_holder.ensures ∙ c.if-not-is_holder.false;
      effect_is = c.in-Some-in_effect.is;
      seen = c.library.ensures.sets;
    })
    c.in-Some-get.set.now (sym c.get.ensures ∙ ap option_copied c.in-Some-get.is) c.in_ok-found.found c.in_ok-found.ensures.placed c.in_ok-found.ensures.unplaced
