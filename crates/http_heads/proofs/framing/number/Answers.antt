use Rattle.std.proofs.Common.{◌≡◌, ◌+◌, ◌*◌, ◌^◌, ◌<◌, ℕ, true, get_or, arith, add-one}
use Rattle.std.specs.Char.{is_ascii_digit, digit_value}
use Rattle.std.proofs.Math.Nat.{pow-suc}
use Rattle.std.proofs.lemmas.Bool.Decides.{nat_tests}
use Rattle.std.proofs.lemmas.List.Sums.{AllPass-from_list_all}
use Rattle.std.proofs.lemmas.Int.Digits.{digits_value_more}
use Rattle.http_heads.proofs.framing.number.Goals as goal

digit_small : (b : ℕ) → is_ascii_digit b ≡ true → digit_value b < 10
digit_small b e = grind (arith, nat_tests)

power_more : (n d i : ℕ) → n < 10 ^ i → d < 10 → n * 10 + d < 10 ^ (i + 1)
power_more n d i below small = rw (add-one, pow-suc 10 i) (omega arith)

pub digits-preserved : goal.digits-preserved
digits-preserved c =
    let is_digit : is_ascii_digit (get_or c.args.value.now c.digits.b-index 0) ≡ true =
    AllPass-from_list_all is_ascii_digit c.args.value.now c.requires.digits c.digits.b-index 0 c.digits-test.true in
    let digit : digit_value (get_or c.args.value.now c.digits.b-index 0) ≡ c.from.result = grind (arith, nat_tests) in
    let small : c.from.result < 10 = omega (arith, digit_small (get_or c.args.value.now c.digits.b-index 0) is_digit) in (
      omega (arith, digits_value_more 10 c.args.value.now c.digits.b-index c.digits-test.true, c.digits.invariant.0),
      power_more c.digits.n c.from.result c.digits.b-index c.digits.invariant.1 small,
    )
