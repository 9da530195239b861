-- Whatever follows bytes of which no continuation makes a head, they don't end inside a target.
use Rattle.std.proofs.Common.{◌≡◌, ◌∙◌, ◌++◌, ◌≤◌, List, [], ◌∷◌, ℕ, true, take, drop, length, ap, sym, refl, subst, arith, append_assoc, inl, inr}
use Rattle.std.proofs.lemmas.List.{take-append-le, take-append-drop, append_cancel_left}
use Rattle.std.proofs.Math.Seq.{take-append_seam}
use Rattle.std.proofs.lemmas.Bool.{cases_lt}
use Rattle.std.proofs.lemmas.List.Elements.{All-cons, All-nil, All-take}
use Rattle.httparse.specs.Grammar.{LineEnd, crlf, print_end, print_blank, print_version, print_section, IsField, IsToken, AllPass, is_uri_byte, RequestHead, IsRequestHead, ReadsRequest, HasNoRequest, NeverHasRequest, EndsInTarget}
use Rattle.httparse.proofs.GrammarLemmas.{print_request-append}

-- the shortest head of a method
abbrev least : List LineEnd → List ℕ → RequestHead
least blank method = record {
  blank = blank;
  method = method;
  target = 47 ∷ [];
  minor = 1;
  line_end = crlf;
  fields = [];
  last = crlf;
}

-- what stands after its first space
abbrev least_rest : List ℕ
least_rest = 47 ∷ (32 ∷ (print_version 1 ++ (print_end crlf ++ (print_section [] crlf ++ []))))

-- what stands before a target
abbrev before_target : List LineEnd → List ℕ → List ℕ
before_target blank method = print_blank blank ++ method ++ 32 ∷ []

cons-append : (x : ℕ) (a b : List ℕ) → (x ∷ a) ++ b ≡ x ∷ (a ++ b)
cons-append x a b = refl

nil-append : (a : List ℕ) → [] ++ a ≡ a
nil-append a = refl

regroup : (a b c : List ℕ) → (a ++ b ++ 32 ∷ []) ++ c ≡ a ++ (b ++ 32 ∷ c)
regroup a b c = simp (append_assoc, cons-append, nil-append)

regroup_left : (a b c : List ℕ) → (a ++ b ++ 32 ∷ []) ++ c ≡ a ++ b ++ 32 ∷ c
regroup_left a b c = simp (append_assoc, cons-append, nil-append)

least_is : (blank : List LineEnd) (method : List ℕ) → IsToken method → IsRequestHead (least blank method)
unfolding lib.Utf8.encode
least_is blank method token = record {
  method = token;
  target = (omega arith, All-cons (λ b. is_uri_byte b ≡ true) 47 [] refl (All-nil (λ b. is_uri_byte b ≡ true)));
  target_text = (47 ∷ [], (refl, refl));
  minor = omega arith;
  fields = All-nil IsField;
}

-- what stands before a target can become a head
least_reads : (blank : List LineEnd) (method : List ℕ) → IsToken method → ReadsRequest (before_target blank method ++ least_rest) (least blank method) []
least_reads blank method token = (
  least_is blank method token,
  regroup (print_blank blank) method least_rest ∙ sym (print_request-append (least blank method) []),
)

-- of two fronts of one list, the first is a front of the second
pub record Splits (a b : List ℕ) : Type 0 where
  pub rest : List ℕ
  pub is : b ≡ a ++ rest

front_of : (a m b t : List ℕ) → a ++ m ≡ b ++ t → length a ≤ length b → Splits a b
front_of a m b t e le = record {
  rest = drop (length a) b;
  is =
      let same : a ≡ take (length a) b =
      sym (take-append_seam a m) ∙ ap (λ l. take (length a) l) e ∙ take-append-le (length a) b t le in
      sym (take-append-drop (length a) b) ∙ ap (λ l. l ++ drop (length a) b) (sym same);
}

-- bytes of which no continuation makes a head, and that don't end in a target, never do
pub not_in_target_more : (xs m : List ℕ) → NeverHasRequest xs → ¬ (EndsInTarget xs) → ¬ (EndsInTarget (xs ++ m))
not_in_target_more xs m never not_in (blank, method, target, token, uri, e) =
    let b = before_target blank method in
    let e' : xs ++ m ≡ b ++ target = e ∙ sym (regroup_left (print_blank blank) method target) in
    elim (cases_lt (length xs) (length b)) [
      | inl short ↦
          let s : Splits xs b = front_of xs m b target e' (omega arith) in
          never (s.rest ++ least_rest) (least blank method) [] (
          subst (λ (l : List ℕ). ReadsRequest l (least blank method) [])
          (ap (λ (l : List ℕ). l ++ least_rest) s.is ∙ append_assoc xs s.rest least_rest)
          (least_reads blank method token)
          )
      | inr long ↦
          let s : Splits b xs = front_of b target xs m (sym e') long in
          let same : s.rest ++ m ≡ target =
          append_cancel_left b (s.rest ++ m) target (sym (append_assoc b s.rest m) ∙ ap (λ (l : List ℕ). l ++ m) (sym s.is) ∙ e') in
          let passes : AllPass is_uri_byte s.rest =
          subst (λ (l : List ℕ). AllPass is_uri_byte l) (take-append_seam s.rest m)
          (All-take (λ b. is_uri_byte b ≡ true) (length s.rest) (s.rest ++ m) (subst (λ (l : List ℕ). AllPass is_uri_byte l) (sym same) uri)) in
          not_in (blank, method, s.rest, token, passes, s.is ∙ regroup_left (print_blank blank) method s.rest)
    ]

-- and no continuation of more of them makes a head
pub never_more : (xs m : List ℕ) → NeverHasRequest xs → NeverHasRequest (xs ++ m)
never_more xs m never more = subst HasNoRequest (sym (append_assoc xs m more)) (never (m ++ more))
