use Rattle.std.proofs.Common.{◌≤◌, ◌*◌, ℕ, List, Ok, inr, length, map, refl, sym, ap, subst, ◌∙◌, arith}
use Rattle.ckr_session.specs.Model.Soundness.{fresh_desk}
use Rattle.ckr_session.proofs.FreshDisks.{fresh-opens}
use Rattle.ckr_desk_format.specs.declared.command.FormatOutcome.{FormatOutcome}
use Rattle.ckr_session.specs.Calls.{all_fit}
use Rattle.ckr_service.specs.MadeDisk.{FormatsSo, made_layout}
use Rattle.ckr_service.specs.MadeStream.{made_size}
use Rattle.ckr_session.specs.Staff.{staffed_with}
use Rattle.ckr_service.specs.Stream.{requests_of}
use Rattle.ckr_service.proofs.Calls.Ends.{Keeps-refl, all_sound}
use Rattle.ckr_service.proofs.MadeEnds.{rose-sooner, unformatted-lacks}
use Rattle.ckr_service.proofs.MadeRuns.{made_and_served, made_sound, no_memory, not_formatted}
use Rattle.ckr_service.proofs.MadeStreams.{stream_short}
use Rattle.ckr_service.proofs.make.make.Goals as goal

pub returns-in-Err-clause-made : goal.returns-in-Err-clause-made
returns-in-Err-clause-made g c =
    let d = g.D.Disk in
    let enough : made_size ≤ d.size c.args.disk = omega (arith, c.if-size-lt-MADE_SIZE.false, c.size.ensures) in
    no_memory d.told d.content d.may_leave d.moment d.left_since d.size d.faults (map g.O.Operator.answering c.args.operators.items) c.args.jobs c.args.disk c.args.disk 7 _ _ _ _ enough refl refl (Keeps-refl _)

pub returns-then-size-lt-MADE_SIZE-clause-completes : goal.returns-then-size-lt-MADE_SIZE-clause-completes
returns-then-size-lt-MADE_SIZE-clause-completes g c = λ tells enough works fits. absurd (omega (arith, c.if-size-lt-MADE_SIZE.true, c.size.ensures, enough))

pub returns-in-Err-clause-completes : goal.returns-in-Err-clause-completes
returns-in-Err-clause-completes g c = λ tells enough works fits. inr refl

pub serve_bytes-requires-clause-few : goal.serve_bytes-requires-clause-few
serve_bytes-requires-clause-few g c κs within =
    (let short : length c.in-Ok.bytes.items ≤ 340 * c.args.jobs = subst (λ (l : List ℕ). length l ≤ 340 * c.args.jobs) (sym c.in-Ok.ensures) (stream_short c.args.jobs) in
    omega (arith, short, c.requires.few))

pub returns-in-Formatted : goal.returns-in-Formatted
returns-in-Formatted g c =
    let d = g.D.Disk in
    let operators = map g.O.Operator.answering c.args.operators.items in
    let end = c.serve_bytes.result.disk in
    let status = c.serve_bytes.result.status in
    let enough : made_size ≤ d.size c.args.disk = omega (arith, c.if-size-lt-MADE_SIZE.false, c.size.ensures) in
    let made = made_and_served d.told d.content d.may_leave d.moment d.left_since d.size d.faults operators c.args.jobs c.args.disk end status _ _ _ _ c.format_made.new.disk c.in-Ok.bytes.items enough c.in-Ok.ensures
    (subst (λ (o : FormatOutcome). FormatsSo d.told d.content d.may_leave d.moment d.left_since d.size d.faults o c.args.disk c.format_made.new.disk) c.in-Formatted.is c.format_made.ensures.so)
    c.format_made.ensures.size c.serve_bytes.ensures.runs c.serve_bytes.ensures.safe c.serve_bytes.ensures.sound in
    let formatted = c.format_made.new.disk in
    let so = subst (λ (o : FormatOutcome). FormatsSo d.told d.content d.may_leave d.moment d.left_since d.size d.faults o c.args.disk formatted) c.in-Formatted.is c.format_made.ensures.so in
    record {
      made = made;
      completes = λ tells here works fits.
          c.serve_bytes.ensures.completes (all_sound d.told d.content d.may_leave d.size formatted {E = Unit {0}} (Ok made_layout) tells so.0) (fresh_desk made_layout)
          (fresh-opens made_layout (d.content formatted) (d.size formatted) (so.0.header tells) (so.0.empty tells))
          (record { sink = works.sink; disk = λ rose. works.disk (rose-sooner _ _ _ c.format_made.ensures.later rose) })
          (ap (λ (l : List ℕ). all_fit (staffed_with operators (fresh_desk made_layout)) (requests_of l)) c.in-Ok.ensures ∙ fits);
      sound = made_sound d.told d.content d.may_leave d.moment d.left_since d.size d.faults operators c.args.jobs c.args.disk end status _ _ _ _ made;
      size = c.serve_bytes.ensures.size ∙ c.format_made.ensures.size;
    }

pub returns-in_default : goal.returns-in_default
returns-in_default g c =
    let d = g.D.Disk in
    let operators = map g.O.Operator.answering c.args.operators.items in
    let end = c.format_made.new.disk in
    let status = c.formatting_status.result in
    let enough : made_size ≤ d.size c.args.disk = omega (arith, c.if-size-lt-MADE_SIZE.false, c.size.ensures) in
    let made = not_formatted d.told d.content d.may_leave d.moment d.left_since d.size d.faults operators c.args.jobs c.args.disk end status _ _ _ _ c.format_made.result c.in_default.not-Formatted enough c.formatting_status.ensures
    c.format_made.ensures.so (Keeps-refl _) in
    record {
      made = made;
      completes = λ tells here works fits.
          unformatted-lacks d.told d.content d.may_leave d.moment d.left_since d.size d.faults c.args.disk end c.format_made.result status c.in_default.not-Formatted c.formatting_status.ensures c.format_made.ensures.so works.disk;
      sound = made_sound d.told d.content d.may_leave d.moment d.left_since d.size d.faults operators c.args.jobs c.args.disk end status _ _ _ _ made;
      size = c.format_made.ensures.size;
    }
