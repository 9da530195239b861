-- The statuses of pages are statuses of replies.
use Rattle.std.proofs.Common.{ℕ, ◌≡◌, ◌⊎◌, inl, inr, Bool, true, false, ◌||◌, refl, sym, subst, IsTrue}
use Rattle.std.proofs.lemmas.Bool.{eqb-true}
use Rattle.std.specs.Prelude.{◌==◌}
use Rattle.http_heads.specs.Reply.{is_reply_status}
use Rattle.render_array.specs.Shown.{is_page_status}

either : (a b : Bool) → (a || b) ≡ true → (a ≡ true) ⊎ (b ≡ true)
either true b e = inl refl
either false b e = inr e

one_of : (s n : ℕ) → (s == n) ≡ true → IsTrue (is_reply_status n) → IsTrue (is_reply_status s)
one_of s n e is = subst (λ m. IsTrue (is_reply_status m)) (sym (eqb-true s n e)) is

pub page_replies : (s : ℕ) → IsTrue (is_page_status s) → IsTrue (is_reply_status s)
page_replies s is = elim (either (s == 200 || s == 403) (s == 404) is) [
  | inl g ↦ elim (either (s == 200) (s == 403) g) [
    | inl e ↦ one_of s 200 e refl
    | inr e ↦ one_of s 403 e refl
  ]
  | inr e ↦ one_of s 404 e refl
]
