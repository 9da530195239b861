-- What the tests of contexts tell.
use Rattle.std.proofs.Common.{zero, suc, List, [], ◌∷◌, ◌≡◌, ◌⊎◌, Bool, true, false, true≢false, ◌||◌, refl, sym, ◌∙◌, ap, subst, arith, inl, inr, Contains}
use Rattle.std.specs.Bool.{Decides}
use Rattle.std.specs.List.{list_any}
use Rattle.std.specs.Str.{bytes_eq}
use Rattle.std.proofs.lemmas.Slice.Eq.{bytes_eq-Decides}
use Rattle.cacheability.specs.declared.context.Context.{Context}
use Rattle.cacheability.specs.Context.{context_text}
use Rattle.cacheability.proofs.Texts.{contexts_apart}
use Rattle.content_state.specs.Context.{above}
use Rattle.cache_contexts.specs.LeftOut.{IsRedundant}
use Rattle.cache_contexts.specs.Optimised.{has, is_redundant}

pub at_head : {A : Type 0} (x : A) (xs : List A) → Contains (x ∷ xs) x
at_head x xs = (0, omega arith, refl)

pub at_tail : {A : Type 0} (x : A) (xs : List A) (y : A) → Contains xs y → Contains (x ∷ xs) y
at_tail x xs y h = (suc h.0, (let l = h.1 in omega arith), h.2)

pub head_or_tail : {A : Type 0} (x : A) (xs : List A) (y : A) → Contains (x ∷ xs) y → (y ≡ x) ⊎ Contains xs y
head_or_tail x xs y (zero, l, e) = inl (sym e)
head_or_tail x xs y (suc i, l, e) = inr (i, omega arith, e)

pub nowhere : {A : Type 0} {G : Type 0} (y : A) → Contains [] y → G
nowhere y h = absurd (let l = h.1 in omega arith)

pub alone : {A : Type 0} (x y : A) → Contains (x ∷ []) y → y ≡ x
alone x y h = elim (head_or_tail x [] y h) [ inl e ↦ e | inr g ↦ nowhere y g ]

-- some member passes the test
pub record Passes {A : Type 0} (p : A → Bool) (xs : List A) : Type 0 where
  pub item : A
  pub there : Contains xs item
  pub passed : p item ≡ true

some_passes : {A : Type 0} (p : A → Bool) (xs : List A) → list_any p xs ≡ true → Passes p xs
some_passes p [] e = absurd (true≢false (sym e))
some_passes {A} p (x ∷ xs) e = go (some_passes p xs) (p x) refl e
  where
    go : (list_any p xs ≡ true → Passes p xs) → (b : Bool) → p x ≡ b → (b || list_any p xs) ≡ true → Passes p (x ∷ xs)
    go later true is any = record { item = x; there = at_head x xs; passed = is }
    go later false is any = let rest = later any in record { item = rest.item; there = at_tail x xs rest.item rest.there; passed = rest.passed }

or_true : (b : Bool) → (b || true) ≡ true
or_true true = refl
or_true false = refl

passes_some : {A : Type 0} (p : A → Bool) (xs : List A) (x : A) → Contains xs x → p x ≡ true → list_any p xs ≡ true
passes_some p [] x h e = nowhere x h
passes_some p (y ∷ ys) x h e = elim (head_or_tail y ys x h) [
  | inl is ↦ ap (λ b. b || list_any p ys) (ap p (sym is) ∙ e)
  | inr g ↦ ap (λ b. p y || b) (passes_some p ys x g e) ∙ or_true (p y)
]

same_text : (a b : Context) → bytes_eq (context_text a) (context_text b) ≡ true → a ≡ b
same_text a b e = contexts_apart a b ((bytes_eq-Decides (context_text a) (context_text b)).0 e)

pub has_decided : (all : List Context) (c : Context) → Decides (has all c) (Contains all c)
has_decided all c = (
  λ e. (let found = some_passes (λ own. bytes_eq (context_text own) (context_text c)) all e in subst (Contains all) (same_text found.item c found.passed) found.there),
  λ h. passes_some (λ own. bytes_eq (context_text own) (context_text c)) all c h ((bytes_eq-Decides (context_text c) (context_text c)).1 refl),
)

pub redundant_decided : (all : List Context) (c : Context) → Decides (is_redundant all c) (IsRedundant all c)
redundant_decided all c = (
  λ e. (let found = some_passes (has all) (above c) e in (found.item, found.there, (has_decided all found.item).0 found.passed)),
  λ h. passes_some (has all) (above c) h.0 h.1 ((has_decided all h.0).1 h.2),
)
