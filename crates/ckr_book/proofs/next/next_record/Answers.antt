use Rattle.std.proofs.Common.{◌≡◌, ◌+◌, ◌-◌, ℕ, List, drop, ◌∙◌, sym, ap, subst, arith}
use Rattle.ckr_outside.specs.Disk.{part}
use Rattle.ckr_book.specs.Next.{LeadsWith}
use Rattle.ckr_book.proofs.Gates.{part-part}
use Rattle.ckr_book.proofs.next.next_record.Goals as goal

pub returns-clause-found : goal.returns-clause-found
returns-clause-found g c told =
    let content = g.D.Disk.content c.args.disk.now in
    let rest = drop c.args.place (part c.args.at c.args.length content) in
    let next = c.in-Ok-Some.next in
    let forward = rw c.in-Ok-Some.field-0-is at c.in-Ok-Some.ensures.forward in
    let stands = rw c.in-Ok-Some.field-0-is at c.in-Ok-Some.ensures.stands in
    let count : next - c.args.place - 5 ≡ next - (c.args.place + 5) = omega arith in
    let place : c.args.at + c.args.place + 5 ≡ c.args.at + (c.args.place + 5) = omega arith in
    let bytes : c.in_ok-bytes.bytes.items ≡ part (c.args.place + 5) (next - (c.args.place + 5)) (part c.args.at c.args.length content) =
    c.in_ok-bytes.ensures.read told
    ∙ ap (λ (l : List ℕ). part (c.args.at + c.args.place + 5) (next - c.args.place - 5) l) c.next_gate.ensures.only_reads.same
    ∙ ap (λ (k : ℕ). part (c.args.at + c.args.place + 5) k content) count
    ∙ ap (λ (k : ℕ). part k (next - (c.args.place + 5)) content) place
    ∙ sym (part-part (c.args.place + 5) (next - (c.args.place + 5)) c.args.at c.args.length content (omega (arith, forward.0, forward.1))) in
    subst (λ (l : List ℕ). LeadsWith l rest) (sym bytes) (stands told)
