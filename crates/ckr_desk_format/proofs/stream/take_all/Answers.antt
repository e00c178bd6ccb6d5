use Rattle.std.proofs.Common.{◌≡◌, ◌++◌, length, take, inl, inr, ⊎_elim, ◌∙◌, arith, length-append}
use Rattle.std.proofs.lemmas.List.{length-take-le}
use Rattle.ckr_base.proofs.KnownBytes.{Consumes-trans}
use Rattle.ckr_desk_format.proofs.SourceBytes.{Consumes-kept}
use Rattle.ckr_desk_format.proofs.stream.take_all.Goals as goal

pub returns-then-len-taken-gt-STREAM_LIMIT-clause-stop : goal.returns-then-len-taken-gt-STREAM_LIMIT-clause-stop
returns-then-len-taken-gt-STREAM_LIMIT-clause-stop g c =
    let i = c.loop-taken.invariant in
    let before = c.loop-taken.bytes.items in
    let n = c.in-Ok.taken in
    let piece = take n c.take_piece.new.buffer in
    let bound = c.in-Ok.ensures.bound in
    let whole : length piece ≡ n = length-take-le n c.take_piece.new.buffer bound.0 in
    record {
      taken = before ++ piece;
      given = Consumes-trans _ _ _ before piece i.given c.in-Ok.ensures.given;
      many = length-append before piece ∙ omega (arith, whole, bound.1, c.if-len-taken-gt-STREAM_LIMIT.true, c.len.ensures, c.len-in-loop-taken.ensures);
    }

pub returns-in_default-clause-stop : goal.returns-in_default-clause-stop
returns-in_default-clause-stop g c =
    let i = c.loop-taken.invariant in (
      ⊎_elim (λ more. inl (omega (arith, i.later, more))) (λ full. inr full) c.in_default.ensures.cause,
      record {
        taken = c.loop-taken.bytes.items;
        given = Consumes-kept _ _ _ c.loop-taken.bytes.items i.given c.in_default.ensures.kept;
        few = i.few;
      },
    )

pub returns-in-Err-clause-stop : goal.returns-in-Err-clause-stop
returns-in-Err-clause-stop g c =
    let i = c.loop-taken.invariant in
    let before = c.loop-taken.bytes.items in
    let n = c.in-Ok.taken in
    let piece = take n c.take_piece.new.buffer in
    let bound = c.in-Ok.ensures.bound in
    let whole : length piece ≡ n = length-take-le n c.take_piece.new.buffer bound.0 in
    record {
      taken = before ++ piece;
      given = Consumes-trans _ _ _ before piece i.given c.in-Ok.ensures.given;
      few = omega (arith, length-append before piece, whole, c.if-len-taken-gt-STREAM_LIMIT.false, c.len.ensures, c.len-in-loop-taken.ensures);
    }
