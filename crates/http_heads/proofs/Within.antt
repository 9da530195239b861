-- Bytes read from the left end inside a target exactly where the grammar says so.
use Rattle.std.proofs.Common.{◌≡◌, ◌∙◌, ◌++◌, ◌==◌, List, [], ◌∷◌, ℕ, Bool, true, false, if◌then◌else◌, ap, sym, refl, subst, arith}
use Rattle.std.proofs.lemmas.List.Elements.{All-head, All-tail, All-cons, All-nil}
use Rattle.httparse.specs.Grammar.{LineEnd, crlf, lf, print_end, print_blank, IsToken, AllPass, is_token_byte, is_uri_byte, EndsInTarget}
use Rattle.http_heads.specs.declared.in_target.Place.{Place}
use Rattle.http_heads.specs.declared.in_target.Place.TheVariants as place
use Rattle.http_heads.specs.InTarget.{step, accepts}

abbrev IsUri : ℕ → Type 0
IsUri b = is_uri_byte b ≡ true

abbrev IsTokenByte : ℕ → Type 0
IsTokenByte b = is_token_byte b ≡ true

pub never : false ≡ true → ⊥
never h = cc

-- ---- what the grammar says is accepted

target_in : (t : List ℕ) → AllPass is_uri_byte t → accepts place.Target t ≡ true
target_in [] h = refl
target_in (b ∷ t) h = rw (All-head IsUri b t h) (target_in t (All-tail IsUri b t h))

space_in : (t : List ℕ) → accepts place.Target t ≡ true → accepts place.Method (32 ∷ t) ≡ true
unfolding is_token_byte
space_in t h = h

crlf_in : (bytes : List ℕ) → accepts place.Start bytes ≡ true → accepts place.Start (13 ∷ 10 ∷ bytes) ≡ true
unfolding is_token_byte
crlf_in bytes h = h

lf_in : (bytes : List ℕ) → accepts place.Start bytes ≡ true → accepts place.Start (10 ∷ bytes) ≡ true
unfolding is_token_byte
lf_in bytes h = h

more_token : (b : ℕ) (bytes : List ℕ) → IsTokenByte b → accepts place.Method bytes ≡ true → accepts place.Method (b ∷ bytes) ≡ true
more_token b bytes e h =
    subst (λ (x : Bool). accepts (if x then place.Method else if b == 32 then place.Target else place.Elsewhere) bytes ≡ true) (sym e) h

first_token : (b : ℕ) (bytes : List ℕ) → IsTokenByte b → accepts place.Method bytes ≡ true → accepts place.Start (b ∷ bytes) ≡ true
first_token b bytes e h =
    subst (λ (x : Bool). accepts (if x then place.Method else if b == 13 then place.AfterCr else if b == 10 then place.Start else place.Elsewhere) bytes ≡ true) (sym e) h

method_in : (m t : List ℕ) → AllPass is_token_byte m → AllPass is_uri_byte t → accepts place.Method (m ++ 32 ∷ t) ≡ true
method_in [] t token uri = space_in t (target_in t uri)
method_in (b ∷ m) t token uri =
    more_token b (m ++ 32 ∷ t) (All-head IsTokenByte b m token) (method_in m t (All-tail IsTokenByte b m token) uri)

start_in : (blank : List LineEnd) (m t : List ℕ) → IsToken m → AllPass is_uri_byte t → accepts place.Start (print_blank blank ++ m ++ 32 ∷ t) ≡ true
start_in [] [] t token uri = absurd (omega (arith, token.0))
start_in [] (b ∷ m) t token uri =
    first_token b (m ++ 32 ∷ t) (All-head IsTokenByte b m token.1) (method_in m t (All-tail IsTokenByte b m token.1) uri)
start_in (crlf ∷ blank) m t token uri = crlf_in (print_blank blank ++ m ++ 32 ∷ t) (start_in blank m t token uri)
start_in (lf ∷ blank) m t token uri = lf_in (print_blank blank ++ m ++ 32 ∷ t) (start_in blank m t token uri)

pub accepted : (bytes : List ℕ) → EndsInTarget bytes → accepts place.Start bytes ≡ true
accepted bytes (blank, m, t, token, uri, e) = ap (accepts place.Start) e ∙ start_in blank m t token uri

-- ---- what is accepted is as the grammar says

-- what stands after a place, where the bytes end inside a target
abbrev Shape : Place → List ℕ → Type 0
Shape place.Start bytes = EndsInTarget bytes
Shape place.AfterCr bytes = (x : List ℕ) × EndsInTarget x × (bytes ≡ 10 ∷ x)
Shape place.Method bytes = (m : List ℕ) × (t : List ℕ) × AllPass is_token_byte m × AllPass is_uri_byte t × (bytes ≡ m ++ 32 ∷ t)
Shape place.Target bytes = AllPass is_uri_byte bytes
Shape place.Elsewhere bytes = ⊥

same_number : (a b : ℕ) → (a == b) ≡ true → a ≡ b
same_number a b h = grind arith

from_target : (b : ℕ) (bytes : List ℕ) → Shape (step place.Target b) bytes → Shape place.Target (b ∷ bytes)
from_target b bytes = elim (is_uri_byte b) as (λ x. is_uri_byte b ≡ x → Shape (if x then place.Target else place.Elsewhere) bytes → Shape place.Target (b ∷ bytes)) [
  | true ↦ λ e s. All-cons IsUri b bytes e s
  | false ↦ λ e s. absurd s
] refl

from_cr : (b : ℕ) (bytes : List ℕ) → Shape (step place.AfterCr b) bytes → Shape place.AfterCr (b ∷ bytes)
from_cr b bytes = elim (b == 10) as (λ x. (b == 10) ≡ x → Shape (if x then place.Start else place.Elsewhere) bytes → Shape place.AfterCr (b ∷ bytes)) [
  | true ↦ λ e s. (bytes, s, ap (λ (n : ℕ). n ∷ bytes) (same_number b 10 e))
  | false ↦ λ e s. absurd s
] refl

from_method : (b : ℕ) (bytes : List ℕ) → Shape (step place.Method b) bytes → Shape place.Method (b ∷ bytes)
from_method b bytes =
    elim (is_token_byte b) as (λ x. is_token_byte b ≡ x → Shape (if x then place.Method else if b == 32 then place.Target else place.Elsewhere) bytes → Shape place.Method (b ∷ bytes)) [
      | true ↦ λ e s. let (m, t, token, uri, is) = s in (b ∷ m, t, All-cons IsTokenByte b m e token, uri, ap (λ (l : List ℕ). b ∷ l) is)
      | false ↦ λ _. elim (b == 32) as (λ y. (b == 32) ≡ y → Shape (if y then place.Target else place.Elsewhere) bytes → Shape place.Method (b ∷ bytes)) [
        | true ↦ λ e s. ([], bytes, All-nil IsTokenByte, s, ap (λ (n : ℕ). n ∷ bytes) (same_number b 32 e))
        | false ↦ λ e s. absurd s
      ] refl
    ] refl

after_end : (end : LineEnd) (bytes : List ℕ) → EndsInTarget bytes → EndsInTarget (print_end end ++ bytes)
after_end crlf bytes (blank, m, t, token, uri, e) = (crlf ∷ blank, m, t, token, uri, ap (λ (l : List ℕ). 13 ∷ 10 ∷ l) e)
after_end lf bytes (blank, m, t, token, uri, e) = (lf ∷ blank, m, t, token, uri, ap (λ (l : List ℕ). 10 ∷ l) e)

from_start : (b : ℕ) (bytes : List ℕ) → Shape (step place.Start b) bytes → EndsInTarget (b ∷ bytes)
from_start b bytes =
    elim (is_token_byte b) as (λ x. is_token_byte b ≡ x → Shape (if x then place.Method else if b == 13 then place.AfterCr else if b == 10 then place.Start else place.Elsewhere) bytes → EndsInTarget (b ∷ bytes)) [
      | true ↦ λ e s. let (m, t, token, uri, is) = s in ([], b ∷ m, t, (omega arith, All-cons IsTokenByte b m e token), uri, ap (λ (l : List ℕ). b ∷ l) is)
      | false ↦ λ _. elim (b == 13) as (λ y. (b == 13) ≡ y → Shape (if y then place.AfterCr else if b == 10 then place.Start else place.Elsewhere) bytes → EndsInTarget (b ∷ bytes)) [
        | true ↦ λ e s.
            let (x, inside, is) = s in
            subst EndsInTarget (ap (λ (n : ℕ). n ∷ 10 ∷ x) (sym (same_number b 13 e)) ∙ ap (λ (l : List ℕ). b ∷ l) (sym is)) (after_end crlf x inside)
        | false ↦ λ _. elim (b == 10) as (λ y. (b == 10) ≡ y → Shape (if y then place.Start else place.Elsewhere) bytes → EndsInTarget (b ∷ bytes)) [
          | true ↦ λ e s. subst EndsInTarget (ap (λ (n : ℕ). n ∷ bytes) (sym (same_number b 10 e))) (after_end lf bytes s)
          | false ↦ λ e s. absurd s
        ] refl
      ] refl
    ] refl

from_one : (p : Place) (b : ℕ) (bytes : List ℕ) → Shape (step p b) bytes → Shape p (b ∷ bytes)
from_one place.Start b bytes = from_start b bytes
from_one place.AfterCr b bytes = from_cr b bytes
from_one place.Method b bytes = from_method b bytes
from_one place.Target b bytes = from_target b bytes
from_one place.Elsewhere b bytes = λ s. absurd s

shaped : (p : Place) (bytes : List ℕ) → accepts p bytes ≡ true → Shape p bytes
shaped place.Target [] h = All-nil IsUri
shaped place.Start [] h = absurd (never h)
shaped place.AfterCr [] h = absurd (never h)
shaped place.Method [] h = absurd (never h)
shaped place.Elsewhere [] h = absurd (never h)
shaped p (b ∷ bytes) h = from_one p b bytes (shaped (step p b) bytes h)

pub ends : (bytes : List ℕ) → accepts place.Start bytes ≡ true → EndsInTarget bytes
ends bytes h = shaped place.Start bytes h
