-- What a router finds for a path that goes along the bytes of a route and ends in the route's parameter.
use Rattle.std.proofs.Common.{ℕ, List, [], ◌∷◌, ◌++◌, ◌≡◌, ◌≢◌, ◌<◌, ◌∙◌, true, false, refl, sym, ap, subst, cond, length, suc, zero, arith}
use Rattle.std.specs.Prelude.{Bool, Option, Some, None, ◌-◌, ◌==◌, ◌&&◌}
use Rattle.matchit.specs.Rows.{RowsOf, param_token, catch_all_token}
use Rattle.matchit.specs.Seek.{seek, first, step, or_else, param_step, has_slash, segment, cuts, own}
use Rattle.std.proofs.lemmas.Bool.{lt-ltb}
use Rattle.std.proofs.lemmas.List.{length-append}
use Rattle.std.proofs.Math.Seq.{drop-append_seam}
use native.Mathlib.Numerals.{unary_clauses}

neq_false : (a b : ℕ) → a ≢ b → (a == b) ≡ false
neq_false a b h = grind arith

both : (a b : Bool) → (a && b) ≡ true → (a ≡ true) × (b ≡ true)
both true b h = (refl, h)
both false b h = absurd cc

-- a text without a slash is a segment with the slash that follows it
segment_then : (text tail : List ℕ) → has_slash text ≡ false → segment (text ++ (47 ∷ tail)) ≡ text ++ (47 ∷ [])
segment_then [] tail whole = refl
segment_then (b ∷ text) tail whole =
    elim (b == 47) as (λ x. cond x true (has_slash text) ≡ false → cond x (b ∷ []) (b ∷ segment (text ++ (47 ∷ tail))) ≡ b ∷ (text ++ (47 ∷ []))) [
      | true ↦ λ h. absurd cc
      | false ↦ λ h. ap (λ (t : List ℕ). b ∷ t) (segment_then text tail h)
    ] whole

length_with : (text : List ℕ) → length (text ++ (47 ∷ [])) - 1 ≡ length text
length_with text = rw (length-append text (47 ∷ [])) (omega arith)

cuts_slash : (text : List ℕ) → 0 < length text → cuts (text ++ (47 ∷ [])) (47 ∷ []) ≡ true
cuts_slash text some =
    rw (length_with text, drop-append_seam text (47 ∷ [])) (ap (λ b. b && true) (lt-ltb 1 (length (text ++ (47 ∷ []))) (rw (length-append text (47 ∷ [])) (omega arith))))

module _ {K : Type 0} where
  param_none : (path : List ℕ) → (param_step {K = K} [] path).1 ≡ []
  unfolding param_step
  param_none path = elim (has_slash path) as (λ b. (cond {A = ℕ × RowsOf K} b (0, []) (length path, [])).1 ≡ []) [ true ↦ refl | false ↦ refl ]

  -- where there are no rows nothing is found
  seek_none : (skip : ℕ) (path : List ℕ) → seek {K = K} skip [] path ≡ None
  unfolding seek
  seek_none skip [] = refl
  seek_none (suc skip) (b ∷ path) = seek_none skip path
  seek_none zero (b ∷ path) = rw (seek_none 0 path, param_none (b ∷ path), seek_none _ path) refl

  -- what is skipped to its end gives the route that ends there
  seek_past : (rows : RowsOf K) (path : List ℕ) → seek (length path) rows path ≡ own rows
  unfolding seek
  seek_past rows [] = refl
  seek_past rows (b ∷ path) = seek_past rows path

  seek_rest : (rows : RowsOf K) (b : ℕ) (rest : List ℕ) → seek (length (b ∷ rest) - 1) rows rest ≡ own rows
  seek_rest rows b rest = simp unary_clauses (seek_past rows rest)

  or_none : (x : Option K) → or_else x None ≡ x
  or_none None = refl
  or_none (Some key) = refl

  -- where neither a parameter nor a catch-all stands, a byte is read as itself
  byte_read : (rows params alls : RowsOf K) (b : ℕ) (path : List ℕ) → params ≡ [] → alls ≡ []
      → or_else (seek 0 (step b rows) path) (or_else (seek ((param_step params (b ∷ path)).0 - 1) (param_step params (b ∷ path)).1 path) (own alls))
      ≡ seek 0 (step b rows) path
  byte_read rows params alls b path p a =
      subst (λ (ps : RowsOf K). or_else (seek 0 (step b rows) path) (or_else (seek ((param_step ps (b ∷ path)).0 - 1) (param_step ps (b ∷ path)).1 path) (own alls)) ≡ seek 0 (step b rows) path) (sym p)
      (subst (λ (left : RowsOf K). or_else (seek 0 (step b rows) path) (or_else (seek ((param_step {K = K} [] (b ∷ path)).0 - 1) (param_step {K = K} [] (b ∷ path)).1 path) (own left)) ≡ seek 0 (step b rows) path) (sym a)
      (rw (param_none (b ∷ path), seek_none _ path) (or_none _)))

  -- the rows that are left after these bytes
  abbrev pub after_bytes : List ℕ → RowsOf K → RowsOf K
  after_bytes [] rows = rows
  after_bytes (b ∷ front) rows = after_bytes front (step b rows)

  abbrev is_none : RowsOf K → Bool
  is_none [] = true
  is_none (row ∷ rows) = false

  none_is : (rows : RowsOf K) → is_none rows ≡ true → rows ≡ []
  none_is [] h = refl
  none_is (row ∷ rows) h = absurd cc

  -- neither a parameter nor a catch-all stands beside any of these bytes
  abbrev pub is_plain : List ℕ → RowsOf K → Bool
  is_plain [] rows = true
  is_plain (b ∷ front) rows = is_none (step param_token rows) && (is_none (step catch_all_token rows) && is_plain front (step b rows))

  front_read : (front : List ℕ) (rows : RowsOf K) (path : List ℕ) → is_plain front rows ≡ true → seek 0 rows (front ++ path) ≡ seek 0 (after_bytes front rows) path
  unfolding seek
  front_read [] rows path h = refl
  front_read (b ∷ front) rows path h =
      let (params, rest) = both _ _ h in
      let (alls, on) = both _ _ rest in
      byte_read rows _ _ b (front ++ path) (none_is _ params) (none_is _ alls) ∙ front_read front (step b rows) path on

  param_read : (key : K) (b : ℕ) (rest : List ℕ) → b < 256 → has_slash (b ∷ rest) ≡ false → seek 0 ((param_token ∷ [], key) ∷ []) (b ∷ rest) ≡ Some key
  unfolding seek param_step
  param_read key b rest byte whole =
      rw (neq_false 256 b (λ e. absurd (omega arith)), whole, seek_none 0 rest, seek_rest _ b rest) refl

  -- the route whose parameter alone is left after these bytes is found for each segment there
  pub param_found : (front : List ℕ) (rows : RowsOf K) (key : K) (b : ℕ) (rest : List ℕ)
      → is_plain front rows ≡ true → after_bytes front rows ≡ (param_token ∷ [], key) ∷ [] → b < 256 → has_slash (b ∷ rest) ≡ false
      → first rows (front ++ b ∷ rest) ≡ Some key
  param_found front rows key b rest plain alone byte whole =
      front_read front rows (b ∷ rest) plain
      ∙ subst (λ (left : RowsOf K). seek 0 left (b ∷ rest) ≡ Some key) (sym alone) (param_read key b rest byte whole)

  -- what follows a segment is sought where the segment ends
  seek_on : (rows : RowsOf K) (text path : List ℕ) → seek (length text) rows (text ++ path) ≡ seek 0 rows path
  unfolding seek
  seek_on rows [] path = refl
  seek_on rows (b ∷ text) path = seek_on rows text path

  -- a parameter before a slash takes the segment without the slash
  cut_at : (key : K) (text tail : List ℕ) → 0 < length text → has_slash text ≡ false
      → param_step ((47 ∷ tail, key) ∷ []) (text ++ (47 ∷ tail)) ≡ (length text, (47 ∷ tail, key) ∷ [])
  unfolding param_step
  cut_at key text tail some whole =
      rw (segment_then text tail whole, cuts_slash text some, length_with text) refl

  then_read : (key : K) (b : ℕ) (rest tail : List ℕ) → b < 256 → has_slash (b ∷ rest) ≡ false
      → seek 0 ((param_token ∷ 47 ∷ tail, key) ∷ []) ((b ∷ rest) ++ (47 ∷ tail)) ≡ seek 0 ((47 ∷ tail, key) ∷ []) (47 ∷ tail)
  unfolding seek param_step
  then_read key b rest tail byte whole =
      rw (neq_false 256 b (λ e. absurd (omega arith)), seek_none 0 (rest ++ (47 ∷ tail)), cut_at key (b ∷ rest) tail (omega arith) whole)
      (or_none _ ∙ simp unary_clauses (seek_on ((47 ∷ tail, key) ∷ []) rest (47 ∷ tail)))

  -- the route that goes on with a slash after its parameter, alone after these bytes
  pub between_found : (front : List ℕ) (rows : RowsOf K) (key : K) (b : ℕ) (rest tail : List ℕ)
      → is_plain front rows ≡ true → after_bytes front rows ≡ (param_token ∷ 47 ∷ tail, key) ∷ [] → b < 256 → has_slash (b ∷ rest) ≡ false
      → seek 0 ((47 ∷ tail, key) ∷ []) (47 ∷ tail) ≡ Some key
      → first rows (front ++ ((b ∷ rest) ++ (47 ∷ tail))) ≡ Some key
  between_found front rows key b rest tail plain alone byte whole ends =
      front_read front rows ((b ∷ rest) ++ (47 ∷ tail)) plain
      ∙ subst (λ (left : RowsOf K). seek 0 left ((b ∷ rest) ++ (47 ∷ tail)) ≡ Some key) (sym alone) (then_read key b rest tail byte whole ∙ ends)
