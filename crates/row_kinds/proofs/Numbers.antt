-- Flags and numbers.
use Rattle.std.proofs.Common.{◌≡◌, ◌<◌, ℕ, Bool, true, false, ◌&&◌, cond, Some, None, refl, ap, ◌∙◌, arith, pos, negsuc, T}
use Rattle.std.specs.Prelude.{ℤ, nat_le, int_le, int_lt}
use Rattle.std.proofs.lemmas.Bool.{and_parts, leb-true, ltb-true, le-leb, lt-ltb}
use Rattle.serde_json.specs.Data.{unsigned, negative, float, Data, null, boolean, number, string, array, object}
use Rattle.serde_json.specs.Find.{of_integer}
use Rattle.content_rows.specs.Kinds.{IsWeight}
use Rattle.json_keys.specs.Fault.{plain_fault, is_low_weight}
use Rattle.json_keys.specs.Order.{AllInOrder}
use Rattle.json_keys.specs.declared.rule.Rule.{Rule}
use Rattle.json_keys.specs.declared.rule.Rule.TheVariants as rule
use Rattle.json_keys.specs.declared.shape.Plain.TheVariants as plain
use Rattle.row_kinds.specs.Look.{flag_in, number_in, small_in, weight_in, whole_data, weight_data, nothing_said}
use Rattle.row_kinds.proofs.Codec.{Codec, Between}

-- ---- flags

flag_kept : (d : Data) → AllInOrder d → plain_fault plain.Flag d ≡ None → boolean (flag_in d) ≡ d
flag_kept (boolean b) o h = refl
flag_kept null o h = absurd cc
flag_kept (number n) o h = absurd cc
flag_kept (string s) o h = absurd cc
flag_kept (array ds) o h = absurd cc
flag_kept (object ms) o h = absurd cc

pub flag : Codec Bool (plain_fault plain.Flag) flag_in boolean nothing_said
flag = record { right = λ d o h. tt; back = λ b g. (refl, refl); kept = flag_kept }

-- ---- whole numbers

passed : (b : Bool) (r : Rule) → cond b None (Some r) ≡ None → b ≡ true
passed true r h = refl
passed false r h = absurd cc

whole_right : (low high : ℕ) (d : Data) → AllInOrder d → plain_fault (plain.Whole low high) d ≡ None → Between low high (number_in d)
whole_right low high (number (unsigned n)) o h =
    let both = and_parts (nat_le low n) (nat_le n high) (passed (nat_le low n && nat_le n high) rule.Range h) in
    (leb-true low n both.0, leb-true n high both.1)
whole_right low high (number (negative z)) o h = absurd cc
whole_right low high (number (float x)) o h = absurd cc
whole_right low high null o h = absurd cc
whole_right low high (boolean b) o h = absurd cc
whole_right low high (string s) o h = absurd cc
whole_right low high (array ds) o h = absurd cc
whole_right low high (object ms) o h = absurd cc

whole_kept : (low high : ℕ) (d : Data) → AllInOrder d → plain_fault (plain.Whole low high) d ≡ None → whole_data (number_in d) ≡ d
whole_kept low high (number (unsigned n)) o h = refl
whole_kept low high (number (negative z)) o h = absurd cc
whole_kept low high (number (float x)) o h = absurd cc
whole_kept low high null o h = absurd cc
whole_kept low high (boolean b) o h = absurd cc
whole_kept low high (string s) o h = absurd cc
whole_kept low high (array ds) o h = absurd cc
whole_kept low high (object ms) o h = absurd cc

pub whole : (low high : ℕ) → Codec ℕ (plain_fault (plain.Whole low high)) number_in whole_data (Between low high)
whole low high = record {
  right = whole_right low high;
  back = λ n g. (rw (le-leb low n g.0, le-leb n high g.1) refl, refl);
  kept = whole_kept low high;
}

-- a number of 32 bits is the number
small_same : (d : Data) → number_in d < 4294967296 → small_in d ≡ number_in d
small_same d h = rw (lt-ltb _ _ h) refl

small_right : (low high : ℕ) → high < 4294967296 → (d : Data) → AllInOrder d → plain_fault (plain.Whole low high) d ≡ None → (Between low high (small_in d)) × (small_in d ≡ number_in d)
small_right low high below d o h =
    let w = whole_right low high d o h in
    let same = small_same d (omega (arith, w.1, below)) in
    ((omega (arith, same, w.0), omega (arith, same, w.1)), same)

pub small : (low high : ℕ) → high < 4294967296 → Codec ℕ (plain_fault (plain.Whole low high)) small_in whole_data (Between low high)
small low high below = record {
  right = λ d o h. (small_right low high below d o h).0;
  back = λ n g. (rw (le-leb low n g.0, le-leb n high g.1) refl, small_same (whole_data n) (omega (arith, g.1, below)));
  kept = λ d o h. ap whole_data (small_right low high below d o h).1 ∙ whole_kept low high d o h;
}

-- ---- weights

holds : (b : Bool) → b ≡ true → T b
holds true h = tt
holds false h = absurd cc

is_true : (b : Bool) → T b → b ≡ true
is_true true h = refl
is_true false h = absurd h

low_is_weight : (z : ℤ) → is_low_weight z ≡ true → IsWeight z
low_is_weight (pos n) h = absurd (omega (arith, ltb-true n 0 h))
low_is_weight (negsuc n) h =
    (record { le = holds _ (and_parts (int_le (negsuc 999) (negsuc n)) (int_lt (negsuc n) (pos 0)) h).0 }, record { le = tt })

weight_right : (d : Data) → AllInOrder d → plain_fault plain.Weight d ≡ None → IsWeight (weight_in d)
weight_right (number (unsigned n)) o h =
    let few : nat_le n 1000 ≡ true = passed (nat_le n 1000) rule.Range h in
    rw few (record { le = tt }, record { le = holds _ few })
weight_right (number (negative z)) o h =
    let low : is_low_weight z ≡ true = passed (is_low_weight z) rule.Range h in rw low (low_is_weight z low)
weight_right (number (float x)) o h = absurd cc
weight_right null o h = absurd cc
weight_right (boolean b) o h = absurd cc
weight_right (string s) o h = absurd cc
weight_right (array ds) o h = absurd cc
weight_right (object ms) o h = absurd cc

weight_back : (z : ℤ) → IsWeight z → (plain_fault plain.Weight (weight_data z) ≡ None) × (weight_in (weight_data z) ≡ z)
weight_back (pos n) g = let few : nat_le n 1000 ≡ true = is_true _ g.1.le in (rw few refl, rw few refl)
weight_back (negsuc n) g = let low : nat_le n 999 ≡ true = is_true _ g.0.le in (rw low refl, rw low refl)

low_integer : (z : ℤ) → is_low_weight z ≡ true → of_integer z ≡ negative z
low_integer (pos n) h = absurd (omega (arith, ltb-true n 0 h))
low_integer (negsuc n) h = refl

weight_kept : (d : Data) → AllInOrder d → plain_fault plain.Weight d ≡ None → weight_data (weight_in d) ≡ d
weight_kept (number (unsigned n)) o h = let few : nat_le n 1000 ≡ true = passed (nat_le n 1000) rule.Range h in rw few refl
weight_kept (number (negative z)) o h =
    let low : is_low_weight z ≡ true = passed (is_low_weight z) rule.Range h in rw low (ap number (low_integer z low))
weight_kept (number (float x)) o h = absurd cc
weight_kept null o h = absurd cc
weight_kept (boolean b) o h = absurd cc
weight_kept (string s) o h = absurd cc
weight_kept (array ds) o h = absurd cc
weight_kept (object ms) o h = absurd cc

pub weight : Codec ℤ (plain_fault plain.Weight) weight_in weight_data IsWeight
weight = record { right = weight_right; back = weight_back; kept = weight_kept }
