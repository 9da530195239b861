-- Compact JSON has no line end in it.
use Rattle.std.proofs.Common.{◌≡◌, ◌≢◌, ◌+◌, ℕ, zero, suc, ◌/◌, ◌%◌, ◌==◌, pos, negsuc, List, [], ◌∷◌, ◌++◌, Bool, true, false, not, cond, ◌&&◌, ◌||◌, nat_lt, decimal, refl, sym, ap, subst, ◌∙◌, arith}
use Rattle.std.proofs.lemmas.Bool.{eqb-true, ne_eqb}
use Rattle.std.proofs.lemmas.List.Folds.{list_all-append}
use Rattle.std.specs.Fmt.{digits, digits_onto, digit_glyph}
use Rattle.std.specs.Char.{digit_char}
use Rattle.json.specs.Print.{escape_letter, escape_byte, escape, quoted}
use Rattle.serde_json.specs.Data.{Num, unsigned, negative, float, Data, null, boolean, number, string, array, object, Items, no_items, item, Members, no_members, member}
use Rattle.serde_json.specs.Written.{number_text, comma_if, compact_text, items_text, members_text}
use Rattle.site_files.specs.Lines.{is_one_line}

-- a byte that is no line end
abbrev IsInside : ℕ → Type 0
IsInside b = not (b == 10) ≡ true

abbrev IsOneLine : List ℕ → Type 0
IsOneLine bytes = is_one_line bytes ≡ true

other : (b : ℕ) → b ≢ 10 → IsInside b
other b apart = ap not (ne_eqb b 10 apart)

one : (b : ℕ) (bytes : List ℕ) → IsInside b → IsOneLine bytes → IsOneLine (b ∷ bytes)
one b bytes inside rest = ap (λ t. t && is_one_line bytes) inside ∙ rest

joined : (xs ys : List ℕ) → IsOneLine xs → IsOneLine ys → IsOneLine (xs ++ ys)
joined xs ys first second =
    list_all-append (λ b. not (b == 10)) xs ys ∙ ap (λ t. t && is_one_line ys) first ∙ second

either : (b : Bool) (xs ys : List ℕ) → IsOneLine xs → IsOneLine ys → IsOneLine (cond b xs ys)
either true xs ys first second = first
either false xs ys first second = second

either_byte : (b : Bool) (x y : ℕ) → IsInside x → IsInside y → IsInside (cond b x y)
either_byte true x y first second = first
either_byte false x y first second = second

-- ---- digits

glyph_inside : (b : Bool) (d : ℕ) → IsInside (cond b (48 + d) (87 + d))
glyph_inside true d = other (48 + d) (omega arith)
glyph_inside false d = other (87 + d) (omega arith)

digits_inside : (k n : ℕ) (after : List ℕ) → IsOneLine after → IsOneLine (digits_onto k 10 false n after)
digits_inside zero n after h = h
digits_inside (suc k) n after h =
    let d = digit_glyph false (n % 10) in
    let more : IsOneLine (d ∷ after) = one d after (glyph_inside _ (n % 10)) h in
    either (n / 10 == 0) (d ∷ after) _ more (digits_inside k (n / 10) (d ∷ after) more)

decimal_inside : (n : ℕ) → IsOneLine (decimal n)
unfolding digits
decimal_inside n = digits_inside 64 n [] refl

number_inside : (n : Num) → IsOneLine (number_text n)
number_inside (unsigned n) = decimal_inside n
number_inside (negative (pos n)) = decimal_inside n
number_inside (negative (negsuc n)) = decimal_inside (suc n)
number_inside (float x) = refl

-- ---- strings

letter_inside : (x : ℕ) → IsInside x → IsInside (escape_letter x)
letter_inside x inside =
    either_byte ((x == 34) || (x == 92)) x (cond (x == 8) 98 (cond (x == 12) 102 (cond (x == 10) 110 (cond (x == 13) 114 (cond (x == 9) 116 0))))) inside
    (either_byte (x == 8) 98 (cond (x == 12) 102 (cond (x == 10) 110 (cond (x == 13) 114 (cond (x == 9) 116 0)))) refl
    (either_byte (x == 12) 102 (cond (x == 10) 110 (cond (x == 13) 114 (cond (x == 9) 116 0))) refl
    (either_byte (x == 10) 110 (cond (x == 13) 114 (cond (x == 9) 116 0)) refl
    (either_byte (x == 13) 114 (cond (x == 9) 116 0) refl (either_byte (x == 9) 116 0 refl refl)))))

char_inside : (d : ℕ) → IsInside (digit_char d)
char_inside d = glyph_inside _ d

escape_at : (x : ℕ) (t : Bool) → (x == 10) ≡ t → IsOneLine (escape_byte x)
unfolding escape_byte
escape_at x true is = subst (λ y. IsOneLine (escape_byte y)) (sym (eqb-true x 10 is)) refl
escape_at x false is =
    let inside : IsInside x = ap not is in
    let high = digit_char (x / 16) in
    let low = digit_char (x % 16) in
    either (nat_lt 0 (escape_letter x)) (92 ∷ escape_letter x ∷ []) (cond (nat_lt x 32) (92 ∷ 117 ∷ 48 ∷ 48 ∷ high ∷ low ∷ []) (x ∷ [])) (one (escape_letter x) [] (letter_inside x inside) refl)
    (either (nat_lt x 32) (92 ∷ 117 ∷ 48 ∷ 48 ∷ high ∷ low ∷ []) (x ∷ []) (one high (low ∷ []) (char_inside (x / 16)) (one low [] (char_inside (x % 16)) refl)) (one x [] inside refl))

escape_inside : (s : List ℕ) → IsOneLine (escape s)
escape_inside [] = refl
escape_inside (x ∷ s) = joined (escape_byte x) (escape s) (escape_at x (x == 10) refl) (escape_inside s)

quoted_inside : (s : List ℕ) → IsOneLine (quoted s)
quoted_inside s = joined (escape s) (34 ∷ []) (escape_inside s) refl

-- ---- values

comma_inside : (later : Bool) → IsOneLine (comma_if later)
comma_inside true = refl
comma_inside false = refl

mutual
  pub text_inside : (d : Data) → IsOneLine (compact_text d)
  text_inside null = refl
  text_inside (boolean true) = refl
  text_inside (boolean false) = refl
  text_inside (number n) = number_inside n
  text_inside (string s) = quoted_inside s
  text_inside (array ds) = items_inside false ds
  text_inside (object ms) = members_inside false ms

  items_inside : (later : Bool) (ds : Items) → IsOneLine (items_text later ds)
  items_inside later no_items = refl
  items_inside later (item d ds) =
      joined (comma_if later) (compact_text d ++ items_text true ds) (comma_inside later) (joined (compact_text d) (items_text true ds) (text_inside d) (items_inside true ds))

  members_inside : (later : Bool) (ms : Members) → IsOneLine (members_text later ms)
  members_inside later no_members = refl
  members_inside later (member k d ms) =
      let tail = compact_text d ++ members_text true ms in
      joined (comma_if later) (quoted k ++ 58 ∷ tail) (comma_inside later)
      (joined (quoted k) (58 ∷ tail) (quoted_inside k) (joined (compact_text d) (members_text true ms) (text_inside d) (members_inside true ms)))
