use Rattle.std.proofs.Common.{arith}
use Rattle.site_lists.proofs.Digits.{few, low, high, next}
use Rattle.site_lists.proofs.paging.digits_value.Goals as goal

pub overflow_mul-number : goal.overflow_mul-number
overflow_mul-number c =
    let small = few c.args.text.now c.digits.byte-index c.digits.number c.requires.short c.requires.digits c.digits.invariant in omega arith

pub overflow_sub-byte : goal.overflow_sub-byte
overflow_sub-byte c =
    low c.args.text.now c.digits.byte-index c.digits.number c.requires.short c.requires.digits c.digits.invariant c.digits-test.true

pub overflow_add-number : goal.overflow_add-number
overflow_add-number c =
    let small = few c.args.text.now c.digits.byte-index c.digits.number c.requires.short c.requires.digits c.digits.invariant in
    let most = high c.args.text.now c.digits.byte-index c.digits.number c.requires.short c.requires.digits c.digits.invariant c.digits-test.true in
    omega (arith, c.from.ensures)

pub digits-preserved : goal.digits-preserved
digits-preserved c =
    next c.args.text.now c.digits.byte-index c.digits.number c.requires.short c.requires.digits c.digits.invariant c.from.result c.digits-test.true c.from.ensures
