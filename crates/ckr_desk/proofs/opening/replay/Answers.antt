use Rattle.std.proofs.Common.{arith, refl, sym, subst, inl}
use Rattle.ckr_book.specs.Records.{records_from}
use Rattle.ckr_desk_turn.specs.Queue.{AreNumbered}
use Rattle.ckr_outside.specs.Disk.{part}
use Rattle.ckr_points.specs.Rows.{TablesModel}
use Rattle.ckr_desk.proofs.Layouts.{no-jobs}
use Rattle.ckr_desk.proofs.Openings.Replay.{at_first, last-first}
use Rattle.ckr_desk.specs.Soundness.{events_in}
use Rattle.ckr_desk.proofs.opening.replay.Goals as goal

pub loop-found-init : goal.loop-found-init
loop-found-init g c =
    let laws = g.met.D.Disk g.world.𝓛 g.world.𝓜 g.world.𝓡 ((λ s x. x), (λ x. x), (λ x. x), λ x. x) in
    record {
      replayed = λ told. at_first c.args.layout.now (part 512 c.args.layout.now.book (g.D.Disk.content c.args.disk.now)) c.new.result.tables.desk c.new.ensures.tables;
      last = λ told. last-first (events_in (records_from 0 (part 512 c.args.layout.now.book (g.D.Disk.content c.args.disk.now))));
      place = omega arith;
      jobs = no-jobs c.args.layout.now c.new.result c.new.ensures.tables c.new.ensures.running;
      holders = c.new.ensures.own.holders;
      numbered = subst (λ (tables : TablesModel). AreNumbered 1 tables.runs) (sym c.new.ensures.tables) tt;
      running = c.new.ensures.running;
      only_reads = record {
        same = refl;
        none_new = λ image left. left;
        since = record { later = omega arith; each = λ image left. laws.only_now c.args.disk.now image left; earlier = λ t image before left. inl left };
      };
      size = refl;
      faults = omega arith;
    }
