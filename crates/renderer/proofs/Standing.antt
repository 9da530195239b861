-- What stands in places by levels.
use Rattle.std.proofs.Common.{ℕ, zero, suc, List, ◌≡◌, ◌≤◌, ◌<◌, refl, sym, ◌∙◌, ap, subst, arith, Bool, true, false, Option, Some, None, inl, inr}
use Rattle.std.specs.Prelude.{if◌then◌else◌, option_map, nat_le, IfSome}
use Rattle.std.proofs.lemmas.Bool.Decides.{eqb_tells, leb_tells}
use Rattle.content_state.specs.declared.element.Hole.{Hole}
use Rattle.content_state.specs.declared.element.Hole.TheVariants as hole
use Rattle.content_state.specs.Context.{Visit}
use Rattle.content_state.specs.Places.{filled_in}
use Rattle.render_array.specs.declared.element.Element.{Element}
use Rattle.render_array.specs.declared.element.Element.TheVariants as element
use Rattle.render_array.specs.Whole.{plan_at, level, element_level, shown_below, whole, count_at, count_below, element_count}
use Rattle.renderer.specs.Filled.{element_at, child_below}

-- levels alone: where a visit is known too, `omega` reads it through
pub not_lower : (l : ℕ) → l < 0 → ⊥
not_lower l lower = absurd (omega arith)

pub lower_yet : (k l n : ℕ) → n ≡ l → l < suc k → (n ≡ k → ⊥) → l < k
lower_yet k l n is lower other = omega arith

pub not_this : (k n : ℕ) → suc k ≤ n → n ≡ k → ⊥
not_this k n over same = absurd (omega arith)

pub over_too : (k n : ℕ) → suc k ≤ n → k ≤ n
over_too k n over = omega arith

at_most : (k n : ℕ) → k < suc n → k ≤ n
at_most k n over = omega arith

never_both : (k n : ℕ) → n < k → k ≤ n → ⊥
never_both k n lower over = absurd (omega arith)

pub some_below : (k l : ℕ) (h : Hole) → level h ≡ l → l < k → shown_below k h ≡ option_map (filled_in (shown_below l)) (plan_at h)
some_below zero l h is lower = absurd (not_lower l lower)
some_below (suc k) l h is lower = elim (eqb_tells (level h) k) [
  | inl e ↦ subst (λ b. (if b then option_map (filled_in (shown_below k)) (plan_at h) else shown_below k h) ≡ option_map (filled_in (shown_below l)) (plan_at h)) (sym e.0)
      (ap (λ j. option_map (filled_in (shown_below j)) (plan_at h)) (sym e.1 ∙ is))
  | inr e ↦ subst (λ b. (if b then option_map (filled_in (shown_below k)) (plan_at h) else shown_below k h) ≡ option_map (filled_in (shown_below l)) (plan_at h)) (sym e.0)
      (some_below k l h is (lower_yet k l (level h) is lower e.1))
]

pub none_below : (k : ℕ) (h : Hole) → k ≤ level h → shown_below k h ≡ None
none_below zero h over = refl
none_below (suc k) h over = elim (eqb_tells (level h) k) [
  | inl e ↦ absurd (not_this k (level h) over e.1)
  | inr e ↦ subst (λ b. (if b then option_map (filled_in (shown_below k)) (plan_at h) else shown_below k h) ≡ None) (sym e.0) (none_below k h (over_too k (level h) over))
]

pub some_count : (k l : ℕ) (v : Visit) (h : Hole) → level h ≡ l → l < k → count_below k v h ≡ count_at (count_below l v) v (plan_at h)
some_count zero l v h is lower = absurd (not_lower l lower)
some_count (suc k) l v h is lower = elim (eqb_tells (level h) k) [
  | inl e ↦ subst (λ b. (if b then count_at (count_below k v) v (plan_at h) else count_below k v h) ≡ count_at (count_below l v) v (plan_at h)) (sym e.0)
      (ap (λ j. count_at (count_below j v) v (plan_at h)) (sym e.1 ∙ is))
  | inr e ↦ subst (λ b. (if b then count_at (count_below k v) v (plan_at h) else count_below k v h) ≡ count_at (count_below l v) v (plan_at h)) (sym e.0)
      (some_count k l v h is (lower_yet k l (level h) is lower e.1))
]

pub none_count : (k : ℕ) (v : Visit) (h : Hole) → k ≤ level h → count_below k v h ≡ 0
none_count zero v h over = refl
none_count (suc k) v h over = elim (eqb_tells (level h) k) [
  | inl e ↦ absurd (not_this k (level h) over e.1)
  | inr e ↦ subst (λ b. (if b then count_at (count_below k v) v (plan_at h) else count_below k v h) ≡ 0) (sym e.0) (none_count k v h (over_too k (level h) over))
]

-- a place without an element stays open
pub record StaysAt (below : ℕ) (v : Visit) (h : Hole) : Type 0 where
  pub fill : shown_below below h ≡ None
  pub count : count_below below v h ≡ 0

pub empty_at : (below : ℕ) (v : Visit) (h : Hole) → plan_at h ≡ None → StaysAt below v h
empty_at below v h none = elim (leb_tells (suc (level h)) below) [
  | inl e ↦ record {
    fill = some_below below (level h) h refl e.1 ∙ ap (option_map (filled_in (shown_below (level h)))) none;
    count = some_count below (level h) v h refl e.1 ∙ ap (count_at (count_below (level h) v) v) none;
  }
  | inr e ↦ record { fill = none_below below h (at_most below (level h) e.1); count = none_count below v h (at_most below (level h) e.1) }
]

-- the element of a lower level stands in its place
pub record StandsAt (below : ℕ) (path : List ℕ) (v : Visit) (h : Hole) (e : Element) : Type 0 where
  pub fill : shown_below below h ≡ Some (whole path e)
  pub count : count_below below v h ≡ element_count path v e
  pub lower : element_level e < below

no_child : (o : Option Element) (e : Element) → o ≡ None → o ≡ Some e → ⊥
no_child o e none some = cc

by_test : (b : Bool) (o : Option Element) (e : Element) → (if b then o else None) ≡ Some e → (b ≡ true) × (o ≡ Some e)
by_test true o e is = (refl, is)
by_test false o e is = absurd (no_child None e refl is)

pub stands : (below : ℕ) (path : List ℕ) (v : Visit) (h : Hole) (e : Element) → child_below below h ≡ Some e → StandsAt below path v h e
stands below path v hole.Meta e is = absurd (no_child None e refl (by_test _ None e is).1)
stands below path v (hole.Fragment f) e is =
    let t = by_test (nat_le (suc (level (hole.Fragment f))) below) (Some (element.Fragment f)) e is in
    let lower : level (hole.Fragment f) < below = elim (leb_tells (suc (level (hole.Fragment f))) below) [ inl g ↦ g.1 | inr g ↦ absurd (true_false (sym t.0 ∙ g.0)) ] in
    subst (λ d. StandsAt below path v (hole.Fragment f) d) (same t.1) (record {
      fill = some_below below (level (hole.Fragment f)) (hole.Fragment f) refl lower;
      count = some_count below (level (hole.Fragment f)) v (hole.Fragment f) refl lower;
      lower = lower;
    })
  where
    true_false : true ≡ false → ⊥
    true_false i = cc

    same : {d : Element} → Some (element.Fragment f) ≡ Some d → element.Fragment f ≡ d
    same i = cc

pub stays : (below : ℕ) (v : Visit) (h : Hole) → child_below below h ≡ None → StaysAt below v h
stays below v hole.Meta is = empty_at below v hole.Meta refl
stays below v (hole.Fragment f) is = elim (leb_tells (suc (level (hole.Fragment f))) below) [
  | inl e ↦ absurd (no_child (if nat_le (suc (level (hole.Fragment f))) below then Some (element.Fragment f) else None) (element.Fragment f) is
      (subst (λ b. (if b then Some (element.Fragment f) else None) ≡ Some (element.Fragment f)) (sym e.0) refl))
  | inr e ↦ record { fill = none_below below (hole.Fragment f) (at_most below (level (hole.Fragment f)) e.1); count = none_count below v (hole.Fragment f) (at_most below (level (hole.Fragment f)) e.1) }
]

-- the test
pub child_lower : (below : ℕ) (h : Hole) (o : Option Element) → level h < below → o ≡ element_at h → o ≡ child_below below h
child_lower below h o lower is = elim (leb_tells (suc (level h)) below) [
  | inl e ↦ is ∙ sym (ap (λ b. if b then element_at h else None) e.0)
  | inr e ↦ absurd (never_both below (level h) lower (at_most below (level h) e.1))
]

pub child_higher : (below : ℕ) (h : Hole) → below ≤ level h → None ≡ child_below below h
child_higher below h over = elim (leb_tells (suc (level h)) below) [
  | inl e ↦ absurd (never_both below (level h) e.1 over)
  | inr e ↦ sym (ap (λ b. if b then element_at h else None) e.0)
]

pub is_lower : (below : ℕ) (h : Hole) (o : Option Element) → level h < below → o ≡ element_at h → IfSome o (λ e. element_level e < below)
is_lower below hole.Meta o lower is = subst (λ p. IfSome p (λ e. element_level e < below)) (sym is) tt
is_lower below (hole.Fragment f) o lower is = subst (λ p. IfSome p (λ e. element_level e < below)) (sym is) lower
