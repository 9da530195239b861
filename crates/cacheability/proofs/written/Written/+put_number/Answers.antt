use Rattle.std.proofs.Common.{◌≡◌, ◌+◌, ◌≤◌, length, ◌/◌, arith, length-append, append_assoc, refl}
use Rattle.cacheability.specs.Decimal.{decimal}
use Rattle.cacheability.proofs.Digits.{decimal-small, decimal-large}
use Rattle.cacheability.proofs.written.Written.+put_number.Goals.{then-number-ge10, else-number-ge10}
use Rattle.cacheability.proofs.written.Written.+put_number.Goals as goal

pub put_number-requires : goal.put_number-requires
put_number-requires t c =
    let longer : length (decimal c.args.number) ≡ length (decimal (c.args.number / 10)) + 1 = rw (decimal-large c.args.number c.if-number-ge10.true, length-append) refl in
    let room : length c.args.self.now + length (decimal c.args.number) ≤ 96 = c.requires in
    (omega arith, omega (arith, c.requires))

pub put-requires : goal.put-requires
put-requires t c =
    elim c.if-number-ge10.branch [
      | then-number-ge10 w ↦
          let room : length c.args.self.now + length (decimal c.args.number) ≤ 96 = c.requires in
          let longer : length (decimal c.args.number) ≡ length (decimal (c.args.number / 10)) + 1 = rw (decimal-large c.args.number w.if-number-ge10.true, length-append) refl in
          rw (w.self-is, w.put_number.ensures, length-append) (omega arith)
      | else-number-ge10 w ↦
          let room : length c.args.self.now + length (decimal c.args.number) ≤ 96 = c.requires in
          let one : length (decimal c.args.number) ≡ 1 = rw (decimal-small c.args.number w.if-number-ge10.false) refl in
          rw w.self-is (omega arith)
    ]

pub returns : goal.returns
returns t c =
    elim c.if-number-ge10.branch [
      | then-number-ge10 w ↦ rw (c.put.ensures, w.self-is, w.put_number.ensures, decimal-large c.args.number w.if-number-ge10.true) (rw append_assoc refl)
      | else-number-ge10 w ↦ rw (c.put.ensures, w.self-is, decimal-small c.args.number w.if-number-ge10.false) refl
    ]
