-- The tokens of the sessions that are drawn are names.
use Rattle.std.proofs.Common.{◌++◌, ◌<◌, ◌+◌, ℕ, zero, suc, decimal, codes, refl, sym, subst, arith, List, [], ◌∷◌}
use Rattle.std.proofs.lemmas.Fmt.{decimal_digit}
use Rattle.std.specs.Prelude.{IsTrue}
use Rattle.content_rows.specs.LiteralName.{is_name}

digit_is_name : (user : ℕ) → user < 10 → IsTrue (is_name (codes "s" ++ (48 + user) ∷ []))
digit_is_name zero h = refl
digit_is_name (suc zero) h = refl
digit_is_name (suc (suc zero)) h = refl
digit_is_name (suc (suc (suc zero))) h = refl
digit_is_name (suc (suc (suc (suc zero)))) h = refl
digit_is_name (suc (suc (suc (suc (suc zero))))) h = refl
digit_is_name (suc (suc (suc (suc (suc (suc zero)))))) h = refl
digit_is_name (suc (suc (suc (suc (suc (suc (suc zero))))))) h = refl
digit_is_name (suc (suc (suc (suc (suc (suc (suc (suc zero)))))))) h = refl
digit_is_name (suc (suc (suc (suc (suc (suc (suc (suc (suc zero))))))))) h = refl
digit_is_name (suc (suc (suc (suc (suc (suc (suc (suc (suc (suc more)))))))))) h = absurd (omega arith)

pub token_is_name : (user : ℕ) → user < 10 → IsTrue (is_name (codes "s" ++ decimal user))
token_is_name user small = subst (λ (digits : List ℕ). IsTrue (is_name (codes "s" ++ digits))) (sym (decimal_digit user small)) (digit_is_name user small)
