-- A router finds a route without a parameter for the path that is its text, and for no other.
use Rattle.std.proofs.Common.{ℕ, List, [], ◌∷◌, ◌≡◌, ◌<◌, true, false, refl, sym, subst, cond, length, suc, zero, arith, ◌⊎◌, inl, inr}
use Rattle.std.specs.Prelude.{Option, Some, None, ◌-◌, ◌==◌, ltb, nat_lt}
use Rattle.std.specs.List.{list_all}
use Rattle.std.proofs.lemmas.Bool.{and_parts, ltb-true}
use Rattle.std.proofs.lemmas.Bool.Decides.{Decides-eqb}
use Rattle.matchit.specs.Rows.{RowsOf, param_token, catch_all_token}
use Rattle.matchit.specs.Seek.{seek, step, or_else, param_step, has_slash, longest_suffix, own, same_text, segment, with_suffix}

other : (a b : ℕ) → (a == b) ≡ false → a ≡ b → ⊥
other a b h same = grind arith

module _ {K : Type 0} (P : K → Type 0) where
  -- no route is one of these
  abbrev NoneOf : RowsOf K → Type 0
  NoneOf [] = Unit {0}
  NoneOf ((t, key) ∷ rest) = (P key → ⊥) × NoneOf rest

  -- a route that is one of these has just this left
  abbrev pub OnlyAt : List ℕ → RowsOf K → Type 0
  OnlyAt text [] = Unit {0}
  OnlyAt text ((t, key) ∷ rest) = (P key → t ≡ text) × OnlyAt text rest

  own_none : (rs : RowsOf K) (k : K) → NoneOf rs → own rs ≡ Some k → P k → ⊥
  own_none [] k none h p = absurd cc
  own_none (([], key) ∷ rest) k none h p = let same : key ≡ k = cc in none.0 (subst P (sym same) p)
  own_none ((_ ∷ _, key) ∷ rest) k none h p = own_none rest k none.1 h p

  step_none : (b : ℕ) (rs : RowsOf K) → NoneOf rs → NoneOf (step b rs)
  step_none b [] none = tt
  step_none b (([], key) ∷ rest) none = step_none b rest none.1
  step_none b ((x ∷ t, key) ∷ rest) none =
      elim (x == b) as (λ here. NoneOf (cond here ((t, key) ∷ step b rest) (step b rest))) [
        | true ↦ (none.0, step_none b rest none.1)
        | false ↦ step_none b rest none.1
      ]

  suffix_none : (suffix : List ℕ) (rs : RowsOf K) → NoneOf rs → NoneOf (with_suffix suffix rs)
  suffix_none suffix [] none = tt
  suffix_none suffix ((t, key) ∷ rest) none =
      elim (same_text (segment t) suffix) as (λ here. NoneOf (cond here ((t, key) ∷ with_suffix suffix rest) (with_suffix suffix rest))) [
        | true ↦ (none.0, suffix_none suffix rest none.1)
        | false ↦ suffix_none suffix rest none.1
      ]

  param_none : (rs : RowsOf K) (path : List ℕ) → NoneOf rs → NoneOf (param_step rs path).1
  unfolding param_step
  param_none rs path none =
      let suffix = longest_suffix (segment path) rs in
      elim (ltb 0 (length suffix)) as (λ some. NoneOf (cond {A = ℕ × RowsOf K} some (length (segment path) - length suffix, with_suffix suffix rs) (cond (has_slash path) (0, []) (length path, rs))).1) [
        | true ↦ suffix_none suffix rs none
        | false ↦ elim (has_slash path) as (λ here. NoneOf (cond {A = ℕ × RowsOf K} here (0, []) (length path, rs)).1) [ true ↦ tt | false ↦ none ]
      ]

  either : (x y : Option K) (k : K) → or_else x y ≡ Some k → (x ≡ Some k) ⊎ (y ≡ Some k)
  either None y k h = inr h
  either (Some key) y k h = inl h

  seek_none_of : (skip : ℕ) (rs : RowsOf K) (path : List ℕ) (k : K) → NoneOf rs → seek skip rs path ≡ Some k → P k → ⊥
  unfolding seek
  seek_none_of skip rs [] k none h p = own_none rs k none h p
  seek_none_of (suc skip) rs (b ∷ path) k none h p = seek_none_of skip rs path k none h p
  seek_none_of zero rs (b ∷ path) k none h p =
      let by_param = param_step (step param_token rs) (b ∷ path) in
      let found = seek (by_param.0 - 1) by_param.1 path in
      let rest = own (step catch_all_token rs) in
      elim (either (seek 0 (step b rs) path) (or_else found rest) k h) [
        | inl here ↦ seek_none_of 0 (step b rs) path k (step_none b rs none) here p
        | inr later ↦ elim (either found rest k later) [
          | inl param ↦ seek_none_of (by_param.0 - 1) by_param.1 path k (param_none (step param_token rs) (b ∷ path) (step_none param_token rs none)) param p
          | inr all ↦ own_none (step catch_all_token rs) k (step_none catch_all_token rs none) all p
        ]
      ]

  own_only : (text : List ℕ) (rs : RowsOf K) (k : K) → OnlyAt text rs → own rs ≡ Some k → P k → [] ≡ text
  own_only text [] k only h p = absurd cc
  own_only text (([], key) ∷ rest) k only h p = let same : key ≡ k = cc in only.0 (subst P (sym same) p)
  own_only text ((_ ∷ _, key) ∷ rest) k only h p = own_only text rest k only.1 h p

  -- another byte leads to none of these
  step_apart : (b : ℕ) (text : List ℕ) (rs : RowsOf K) → ((t : List ℕ) → b ∷ t ≡ text → ⊥) → OnlyAt text rs → NoneOf (step b rs)
  step_apart b text [] apart only = tt
  step_apart b text (([], key) ∷ rest) apart only = step_apart b text rest apart only.1
  step_apart b text ((x ∷ t, key) ∷ rest) apart only =
      elim (x == b) as (λ here. (x == b) ≡ here → NoneOf (cond here ((t, key) ∷ step b rest) (step b rest))) [
        | true ↦ λ is. (λ p. let same : x ≡ b = (Decides-eqb x b).0 is in apart t (subst (λ (y : ℕ). y ∷ t ≡ text) same (only.0 p)), step_apart b text rest apart only.1)
        | false ↦ λ is. step_apart b text rest apart only.1
      ] refl

  step_on : (b : ℕ) (text : List ℕ) (rs : RowsOf K) → OnlyAt (b ∷ text) rs → OnlyAt text (step b rs)
  step_on b text [] only = tt
  step_on b text (([], key) ∷ rest) only = step_on b text rest only.1
  step_on b text ((x ∷ t, key) ∷ rest) only =
      elim (x == b) as (λ here. OnlyAt text (cond here ((t, key) ∷ step b rest) (step b rest))) [
        | true ↦ (λ p. let same = only.0 p in cc, step_on b text rest only.1)
        | false ↦ step_on b text rest only.1
      ]

  no_token : (token : ℕ) (text : List ℕ) → 255 < token → list_all (λ b. nat_lt b 256) text ≡ true → (t : List ℕ) → token ∷ t ≡ text → ⊥
  no_token token [] large bytes t h = absurd cc
  no_token token (b ∷ text) large bytes t h =
      let small = ltb-true b 256 (and_parts (nat_lt b 256) (list_all (λ c. nat_lt c 256) text) bytes).0 in
      let same : token ≡ b = cc in
      absurd (omega arith)

  by_byte : (text : List ℕ) (rs : RowsOf K) (b : ℕ) (path : List ℕ) (k : K)
      → ((left : List ℕ) → list_all (λ x. nat_lt x 256) left ≡ true → OnlyAt left (step b rs) → path ≡ left)
      → list_all (λ x. nat_lt x 256) text ≡ true → OnlyAt text rs → seek 0 (step b rs) path ≡ Some k → P k → b ∷ path ≡ text
  by_byte [] rs b path k ends bytes only h p = absurd (seek_none_of 0 (step b rs) path k (step_apart b [] rs (λ t e. absurd cc) only) h p)
  by_byte (c ∷ text) rs b path k ends bytes only h p =
      elim (b == c) as (λ here. (b == c) ≡ here → b ∷ path ≡ c ∷ text) [
        | true ↦ λ is.
            let same : b ≡ c = (Decides-eqb b c).0 is in
            let on : OnlyAt (b ∷ text) rs = subst (λ (x : ℕ). OnlyAt (x ∷ text) rs) (sym same) only in
            let rest : path ≡ text = ends text (and_parts (nat_lt c 256) (list_all (λ x. nat_lt x 256) text) bytes).1 (step_on b text rs on) in
            cc
        | false ↦ λ is. absurd (seek_none_of 0 (step b rs) path k (step_apart b (c ∷ text) rs (λ t e. let same : b ≡ c = cc in other b c is same) only) h p)
      ] refl

  -- the path of a route that is one of these, where each such route has this text of bytes
  pub seek_only : (text : List ℕ) (rs : RowsOf K) (path : List ℕ) (k : K) → list_all (λ b. nat_lt b 256) text ≡ true → OnlyAt text rs → seek 0 rs path ≡ Some k → P k → path ≡ text
  unfolding seek
  seek_only text rs [] k bytes only h p = own_only text rs k only h p
  seek_only text rs (b ∷ path) k bytes only h p =
      let by_param = param_step (step param_token rs) (b ∷ path) in
      let found = seek (by_param.0 - 1) by_param.1 path in
      let rest = own (step catch_all_token rs) in
      elim (either (seek 0 (step b rs) path) (or_else found rest) k h) [
        | inl here ↦ by_byte text rs b path k (λ left small on. seek_only left (step b rs) path k small on here p) bytes only here p
        | inr later ↦ elim (either found rest k later) [
          | inl param ↦
              absurd (seek_none_of (by_param.0 - 1) by_param.1 path k (param_none (step param_token rs) (b ∷ path) (step_apart param_token text rs (no_token param_token text (omega arith) bytes) only)) param p)
          | inr all ↦ absurd (own_none (step catch_all_token rs) k (step_apart catch_all_token text rs (no_token catch_all_token text (omega arith) bytes) only) all p)
        ]
      ]
