-- What a router finds for a path that goes along the bytes of a route and ends in its parameter.
use Rattle.std.proofs.Common.{ℕ, List, [], ◌∷◌, ◌++◌, ◌≡◌, ◌∙◌, true, false, refl, sym, subst, cond, length, suc, zero}
use Rattle.std.specs.Prelude.{Bool, Option, Some, None, ◌-◌, ◌&&◌}
use Rattle.std.proofs.lemmas.Bool.{and_parts}
use Rattle.matchit.specs.Rows.{RowsOf, param_token, catch_all_token}
use Rattle.matchit.specs.Seek.{seek, first, step, or_else, param_step, has_slash, own}
use native.Mathlib.Numerals.{unary_clauses}

module _ {K : Type 0} where
  none_after : (path : List ℕ) → (param_step {K = K} [] path).1 ≡ []
  unfolding param_step
  none_after path = elim (has_slash path) as (λ b. (cond {A = ℕ × RowsOf K} b (0, []) (length path, [])).1 ≡ []) [ true ↦ refl | false ↦ refl ]

  -- no row, no route
  seek_none : (k : ℕ) (path : List ℕ) → seek {K = K} k [] path ≡ None
  unfolding seek
  seek_none k [] = refl
  seek_none (suc k) (b ∷ path) = seek_none k path
  seek_none zero (b ∷ path) = rw (seek_none 0 path, none_after (b ∷ path), seek_none _ path) refl

  seek_end : (rs : RowsOf K) (path : List ℕ) → seek (length path) rs path ≡ own rs
  unfolding seek
  seek_end rs [] = refl
  seek_end rs (b ∷ path) = seek_end rs path

  -- what is left of a path after a parameter that takes all of it
  seek_rest : (rs : RowsOf K) (b : ℕ) (segment : List ℕ) → seek (length (b ∷ segment) - 1) rs segment ≡ own rs
  seek_rest rs b segment = simp unary_clauses (seek_end rs segment)

  abbrev is_none : RowsOf K → Bool
  is_none [] = true
  is_none (row ∷ rs) = false

  none_is : (rs : RowsOf K) → is_none rs ≡ true → rs ≡ []
  none_is [] h = refl
  none_is (row ∷ rs) h = absurd cc

  -- the rows after some bytes
  abbrev pub steps : List ℕ → RowsOf K → RowsOf K
  steps [] rs = rs
  steps (b ∷ front) rs = steps front (step b rs)

  -- no parameter stands beside these bytes
  abbrev pub is_literal : List ℕ → RowsOf K → Bool
  is_literal [] rs = true
  is_literal (b ∷ front) rs = is_none (step param_token rs) && (is_none (step catch_all_token rs) && is_literal front (step b rs))

  or_none : (x : Option K) → or_else x None ≡ x
  or_none None = refl
  or_none (Some key) = refl

  -- a byte beside which no parameter stands
  seek_byte : (rs params alls : RowsOf K) (b : ℕ) (path : List ℕ) → params ≡ [] → alls ≡ []
      → or_else (seek 0 (step b rs) path) (or_else (seek ((param_step params (b ∷ path)).0 - 1) (param_step params (b ∷ path)).1 path) (own alls))
      ≡ seek 0 (step b rs) path
  seek_byte rs params alls b path p a =
      subst (λ (ps : RowsOf K). or_else (seek 0 (step b rs) path) (or_else (seek ((param_step ps (b ∷ path)).0 - 1) (param_step ps (b ∷ path)).1 path) (own alls)) ≡ seek 0 (step b rs) path) (sym p)
      (subst (λ (left : RowsOf K). or_else (seek 0 (step b rs) path) (or_else (seek ((param_step {K = K} [] (b ∷ path)).0 - 1) (param_step {K = K} [] (b ∷ path)).1 path) (own left)) ≡ seek 0 (step b rs) path) (sym a)
      (rw (none_after (b ∷ path), seek_none _ path) (or_none _)))

  seek_front : (front : List ℕ) (rs : RowsOf K) (path : List ℕ) → is_literal front rs ≡ true → seek 0 rs (front ++ path) ≡ seek 0 (steps front rs) path
  unfolding seek
  seek_front [] rs path h = refl
  seek_front (b ∷ front) rs path h =
      let (params, rest) = and_parts _ _ h in
      let (alls, on) = and_parts _ _ rest in
      seek_byte rs _ _ b (front ++ path) (none_is _ params) (none_is _ alls) ∙ seek_front front (step b rs) path on

  seek_last : (rs : RowsOf K) (key : K) (b : ℕ) (text : List ℕ) → step b rs ≡ [] → step param_token rs ≡ ([], key) ∷ [] → has_slash (b ∷ text) ≡ false
      → seek 0 rs (b ∷ text) ≡ Some key
  unfolding seek param_step
  seek_last rs key b text other own_row whole =
      rw (other, own_row, whole, seek_none 0 text, seek_rest _ b text) refl

  -- a route whose one parameter ends it is found for each path of that form
  pub param_found : (front : List ℕ) (rs : RowsOf K) (key : K) (b : ℕ) (text : List ℕ)
      → is_literal front rs ≡ true → step b (steps front rs) ≡ [] → step param_token (steps front rs) ≡ ([], key) ∷ [] → has_slash (b ∷ text) ≡ false
      → first rs (front ++ b ∷ text) ≡ Some key
  param_found front rs key b text literal other own_row whole =
      seek_front front rs (b ∷ text) literal ∙ seek_last (steps front rs) key b text other own_row whole
