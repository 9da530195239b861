-- What was written on a blank sheet is what was built.
use Rattle.std.proofs.Common.{ℕ, List, [], ◌≡◌, ◌≤◌, sym, ◌∙◌, ap, subst, arith, inl, inr}
use Rattle.std.specs.Prelude.{Option}
use Rattle.cacheability.specs.InOrder.{HasBoth}
use Rattle.content_state.specs.Context.{Visit}
use Rattle.content_state.specs.Plan.{Plan, Needs, Made}
use Rattle.content_state.specs.Met.{met}
use Rattle.content_state.specs.Places.{SameMembers, open_places}
use Rattle.render_canvas.specs.declared.built.Built.{Built}
use Rattle.render_canvas.specs.Board.{pieces_of}
use Rattle.render_canvas.specs.Finished.{needs_of, Finishes}
use Rattle.render_array.specs.Built.{Builds}
use Rattle.render_canvas.specs.Canvas.{Sheet, Exact, Renders, blank}
use Rattle.render_canvas.proofs.Run.{on_blank, exact_on_blank}

-- where there was nothing before
from_none : {A : Type 0} (xs new : List A) → HasBoth [] xs new → SameMembers new xs
from_none xs new both = record {
  there = λ x h. elim ((both x).0 h) [ inl o ↦ absurd (let l = o.1 in omega arith) | inr a ↦ a ];
  back = λ x h. (both x).1 (inr h);
}

pub built_of : (p : Plan (Option ℕ)) (v w : Visit) (last : ℕ) (status : Option ℕ) (start sheet : Sheet) (b : Built) → w ≡ v → start ≡ blank w last → Renders p start status sheet → Finishes sheet status b → Builds p v b
built_of p v w last status start sheet b same first run done = record {
  made = subst (λ x. Made p v x (pieces_of b.segments) b.libraries (needs_of b)) (sym done.status_is)
      (subst (λ n. Made p v status (pieces_of b.segments) b.libraries n) (sym done.needs)
      (subst (λ l. Made p v status (pieces_of b.segments) l sheet.needs) (sym done.libraries)
      (subst (λ s. Made p v status s sheet.libraries sheet.needs) (sym done.shown) (on_blank p v last status sheet here done.whole))));
  not_over = subst (λ u. u.moment ≤ b.last) here.visit done.not_over;
  exact = record {
    tags = subst (λ l. SameMembers l (met p v).tags) (sym (ap (λ (n : Needs). n.tags) done.needs)) (from_none (met p v).tags sheet.needs.tags exact.tags);
    contexts = subst (λ l. SameMembers l (met p v).contexts) (sym (ap (λ (n : Needs). n.contexts) done.needs)) (from_none (met p v).contexts sheet.needs.contexts exact.contexts);
    age = done.age ∙ exact.age;
  };
  places = ap open_places done.shown ∙ exact.places;
}
  where
    here : Renders p (blank v last) status sheet
    here = subst (λ u. Renders p (blank u last) status sheet) same (subst (λ s. Renders p s status sheet) first run)

    exact : Exact p (blank v last) status sheet
    exact = exact_on_blank p v last status sheet here done.whole
