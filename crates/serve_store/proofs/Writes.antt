-- What was written, by whether it failed.
use Rattle.std.proofs.Common.{◌≡◌, ◌∙◌, ℕ, List, true, false, Option, length, ap, sym, arith}
use Rattle.std.proofs.Math.Seq.{take-length}
use Rattle.std.specs.Prelude.{Result, Ok, Err, is_err, OnOk, OnErr}
use Rattle.site_io.specs.Told.{after, AddsFront}

module _ {A E : Type 0} {X : Type 0} where
  pub on_ok : (r : Result A E) → is_err r ≡ false → OnOk r X → X
  on_ok (Ok a) is x = x
  on_ok (Err e) is x = absurd (never is)
    where
      never : true ≡ false → ⊥
      never e = cc

  pub on_err : (r : Result A E) → is_err r ≡ true → OnErr r X → X
  on_err (Ok a) is x = absurd (never is)
    where
      never : false ≡ true → ⊥
      never e = cc
  on_err (Err e) is x = x

-- all was written, which is a front
pub all_is_front : (told now : Option (List ℕ)) (all : List ℕ) → now ≡ after told all → AddsFront told now all
all_is_front told now all is = record {
  count = length all;
  within = omega arith;
  told = is ∙ ap (after told) (sym (take-length all));
}
