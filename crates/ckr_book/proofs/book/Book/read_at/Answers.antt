use Rattle.std.proofs.Common.{◌≡◌, ◌+◌, ◌-◌, ◌∙◌, sym, ap, List, ℕ, length, take, drop, arith}
use Rattle.std.proofs.lemmas.List.{take-take}
use Rattle.std.proofs.lemmas.Result.{on_ok_weaker}
use Rattle.ckr_outside.specs.Disk.{part}
use Rattle.ckr_outside.specs.Ranges.{drop-part}
use Rattle.ckr_book.proofs.book.Book.read_at.Goals as goal

pub returns-clause-read : goal.returns-clause-read
returns-clause-read g c told =
    let content = g.D.Disk.content c.args.disk.now in
    let book = c.args.self.now in
    let n = length c.args.buf.now in
    on_ok_weaker _ (λ (read : c.read.new.buf ≡ part c.on_disk.result n content).
    read
    ∙ ap (λ (k : ℕ). part k n content) c.on_disk.ensures
    ∙ sym (take-take n (book.size - c.args.place) (drop (book.start + c.args.place) content) (omega arith))
    ∙ sym (ap (λ (l : List ℕ). take n l) (drop-part c.args.place book.start book.size content (omega arith))))
    (c.read.ensures.read told)
