-- Lists of edits that stand in others.
use Rattle.std.proofs.Common.{◌≡◌, ◌++◌, ◌∷◌, Bool, true, false, cond, List, [], ap, sym, subst, refl, inl, inr}
use Rattle.std.specs.List.{filter}
use Rattle.content_state.specs.declared.commit.Commit.{Commit}
use Rattle.site_house.specs.House.{IsSublist}

pub sublist_none : (ys : List Commit) → IsSublist [] ys
sublist_none [] = refl
sublist_none (y ∷ ys) = inl (sublist_none ys)

-- one more at the end of both
pub sublist_both : (xs ys : List Commit) (c : Commit) → IsSublist xs ys → IsSublist (xs ++ c ∷ []) (ys ++ c ∷ [])
sublist_both xs [] c s = inr ([], ap (λ (l : List Commit). l ++ c ∷ []) s, refl)
sublist_both xs (y ∷ ys) c s = elim s [
  | inl t ↦ inl (sublist_both xs ys c t)
  | inr t ↦ inr (t.0 ++ c ∷ [], ap (λ (l : List Commit). l ++ c ∷ []) t.1, sublist_both t.0 ys c t.2)
]

-- without the last one
pub sublist_front : (xs ys : List Commit) (c : Commit) → IsSublist (xs ++ c ∷ []) ys → IsSublist xs ys
sublist_front [] ys c s = sublist_none ys
sublist_front (x ∷ xs) [] c s = cc
sublist_front (x ∷ xs) (y ∷ ys) c s = elim s [
  | inl t ↦ inl (sublist_front (x ∷ xs) ys c t)
  | inr t ↦
      let first : x ≡ y = (let e = t.1 in cc) in
      let rest : t.0 ≡ xs ++ c ∷ [] = (let e = t.1 in cc) in
      inr (xs, ap (λ (z : Commit). z ∷ xs) first, sublist_front xs ys c (subst (λ (l : List Commit). IsSublist l ys) rest t.2))
]

-- those of them that pass a test
pub sublist_filter : (p : Commit → Bool) (xs ys : List Commit) → IsSublist xs ys → IsSublist (filter p xs) ys
sublist_filter p xs [] s = ap (filter p) s
sublist_filter p xs (y ∷ ys) s = elim s [
  | inl t ↦ inl (sublist_filter p xs ys t)
  | inr t ↦ subst (λ (l : List Commit). IsSublist (filter p l) (y ∷ ys)) (sym t.1) (kept (p y) (filter p t.0) (sublist_filter p t.0 ys t.2))
]
  where
    kept : (b : Bool) (rest : List Commit) → IsSublist rest ys → IsSublist (cond b (y ∷ rest) rest) (y ∷ ys)
    kept true rest t = inr (rest, refl, t)
    kept false rest t = inl t
