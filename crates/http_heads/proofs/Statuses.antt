-- The codes of replies have three digits.
use Rattle.std.proofs.Common.{◌≡◌, ◌==◌, ◌&&◌, ◌||◌, List, [], ◌∷◌, ℕ, Bool, true, false, nat_lt, nat_le, subst, refl, arith}
use Rattle.std.specs.List.{list_any, list_all}
use Rattle.std.proofs.lemmas.Bool.{and_parts}
use Rattle.std.proofs.lemmas.Bool.Decides.{nat_tests}
use Rattle.http.specs.StatusCode.{IsStatusCode}
use Rattle.http_heads.specs.Reply.{is_reply_status}

abbrev has_three_digits : ℕ → Bool
has_three_digits n = nat_le 100 n && nat_lt n 1000

same_number : (a b : ℕ) → (a == b) ≡ true → b ≡ a
same_number a b h = grind arith

never : (P : Type 0) → false ≡ true → P
never P h = absurd (elim_false h)
  where
    elim_false : false ≡ true → ⊥
    elim_false e = cc

-- what is among numbers of three digits has three digits
among : (s : ℕ) (cs : List ℕ) → list_all has_three_digits cs ≡ true → list_any (λ c. s == c) cs ≡ true → has_three_digits s ≡ true
among s [] all = never (has_three_digits s ≡ true)
among s (c ∷ cs) all = elim (s == c) as (λ b. (s == c) ≡ b → (b || list_any (λ d. s == d) cs) ≡ true → has_three_digits s ≡ true) [
  | true ↦ λ e _. subst (λ n. has_three_digits n ≡ true) (same_number s c e) (and_parts (has_three_digits c) (list_all has_three_digits cs) all).0
  | false ↦ λ _ rest. among s cs (and_parts (has_three_digits c) (list_all has_three_digits cs) all).1 rest
] refl

pub status_has_three_digits : (s : ℕ) → is_reply_status s ≡ true → IsStatusCode s
status_has_three_digits s is =
    let digits : has_three_digits s ≡ true =
    among s (200 ∷ 201 ∷ 303 ∷ 400 ∷ 403 ∷ 404 ∷ 405 ∷ 409 ∷ 413 ∷ 415 ∷ 422 ∷ 431 ∷ 501 ∷ 503 ∷ 507 ∷ []) refl is in
    grind (arith, nat_tests)
