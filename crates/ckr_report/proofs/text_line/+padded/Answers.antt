use Rattle.std.proofs.Common.{◌≤◌, ◌+◌, ◌-◌, ◌/◌, ◌%◌, arith, rules, refl, ap, sym, List, [], ◌∙◌, length, append-nil, ℕ}
use Rattle.arrayvec.specs.ArrayVec.{ArrayVec}
use Rattle.ckr_report.specs.Numbers.{padded}
use Rattle.ckr_report.proofs.Digits.{padded-alone, padded-many, padded-one, room-more, room-behind, text-behind}
use Rattle.ckr_report.proofs.text_line.+padded.Goals as goal
use Rattle.ckr_report.proofs.text_line.+padded.Goals.{then-number-gt9, else-number-gt9+then-width-gt1, else-number-gt9+else-width-gt1}

abbrev items : ArrayVec ℕ → List ℕ
items line = line.items

pub padded-requires : goal.padded-requires
padded-requires t c =
    let n = c.args.number in
    let parts = padded-many c.args.width c.saturating_sub.result n c.if-number-gt9.true c.ranges.number.fits c.saturating_sub.ensures in
    let room = room-more (length c.args.out.now.items) (padded c.args.width n) (padded c.saturating_sub.result (n / 10)) (48 + n % 10) parts c.requires.room in
    (search rules, omega arith)

pub padded-requires-then-width-gt1 : goal.padded-requires-then-width-gt1
padded-requires-then-width-gt1 t c =
    let n = c.args.number in
    let parts = padded-one c.args.width (c.args.width - 1) n (omega arith) c.if-width-gt1.true refl in
    let room = room-more (length c.args.out.now.items) (padded c.args.width n) (padded (c.args.width - 1) 0) (48 + n % 10) parts c.requires.room in
    (search rules, omega arith)

pub put-requires : goal.put-requires
put-requires t c =
    let old = c.args.out.now.items in
    let n = c.args.number in
    let all = padded c.args.width n in
    let digit = 48 + n % 10 in
    let room : length c.if-number-gt9.out.items + 1 ≤ 400 = elim c.if-number-gt9.branch [
      | then-number-gt9 w ↦
          let front = padded w.saturating_sub.result (n / 10) in
          let parts = padded-many c.args.width w.saturating_sub.result n w.if-number-gt9.true c.ranges.number.fits w.saturating_sub.ensures in
          room-behind old c.if-number-gt9.out.items all front digit parts (ap items w.out-is ∙ w.padded.ensures) c.requires.room
      | else-number-gt9+then-width-gt1 w ↦
          let parts = padded-one c.args.width (c.args.width - 1) n (omega arith) w.if-width-gt1.true refl in
          room-behind old c.if-number-gt9.out.items all (padded (c.args.width - 1) 0) digit parts (ap items w.out-is ∙ w.padded-then-width-gt1.ensures) c.requires.room
      | else-number-gt9+else-width-gt1 w ↦
          room-behind old c.if-number-gt9.out.items all [] digit (padded-alone c.args.width n (omega arith) w.if-width-gt1.false) (ap items w.out-is ∙ sym (append-nil old)) c.requires.room
    ] in
    record { room = room }

pub returns : goal.returns
returns t c =
    let old = c.args.out.now.items in
    let n = c.args.number in
    let all = padded c.args.width n in
    let digit = 48 + n % 10 in
    elim c.if-number-gt9.branch [
      | then-number-gt9 w ↦
          let front = padded w.saturating_sub.result (n / 10) in
          let parts = padded-many c.args.width w.saturating_sub.result n w.if-number-gt9.true c.ranges.number.fits w.saturating_sub.ensures in
          text-behind old c.if-number-gt9.out.items c.put.new.out.items all front digit parts (ap items w.out-is ∙ w.padded.ensures) c.put.ensures.text
      | else-number-gt9+then-width-gt1 w ↦
          let parts = padded-one c.args.width (c.args.width - 1) n (omega arith) w.if-width-gt1.true refl in
          text-behind old c.if-number-gt9.out.items c.put.new.out.items all (padded (c.args.width - 1) 0) digit parts (ap items w.out-is ∙ w.padded-then-width-gt1.ensures) c.put.ensures.text
      | else-number-gt9+else-width-gt1 w ↦
          text-behind old c.if-number-gt9.out.items c.put.new.out.items all [] digit (padded-alone c.args.width n (omega arith) w.if-width-gt1.false) (ap items w.out-is ∙ sym (append-nil old)) c.put.ensures.text
    ]
