-- Decisions about access, as a canvas takes them in.
use Rattle.std.proofs.Common.{List, [], ◌≡◌, sym, ◌∙◌, ap, subst}
use Rattle.std.specs.Prelude.{Result}
use Rattle.cacheability.specs.declared.cacheability.Cacheability.{Cacheability}
use Rattle.cacheability.specs.declared.max_age.MaxAge.TheVariants.{Permanent}
use Rattle.access_result.specs.declared.reason.Reason.{Reason}
use Rattle.content_state.specs.Plan.{Plan, Made}
use Rattle.content_state.specs.Met.{met}
use Rattle.content_state.specs.Places.{SameMembers}
use Rattle.site_access.specs.Access.{Access}
use Rattle.site_access.specs.Decided.{needs_of}
use Rattle.site_access.specs.Exact.{HasSame, DecidesExactly}
use Rattle.render_canvas.specs.Decision.{decision_of}
use Rattle.render_canvas.specs.Canvas.{Sheet, Renders, RestsOn}
use Rattle.render_canvas.proofs.Run.{decided}

-- decisions last
abbrev Lasts : Cacheability → Type 0
Lasts c = c.max_age ≡ Permanent

members : {A : Type 0} (xs ys : List A) → HasSame xs ys → SameMembers xs ys
members xs ys same = record { there = λ x h. (same x).0 h; back = λ x h. (same x).1 h }

-- a decision whose result depends on exactly what its plan meets
pub taken_in : (p : Plan Access) (old new : Sheet) (x y : Access) (r : Result (Unit {0}) Reason) (told depends : Cacheability) → told ≡ depends → Lasts depends → DecidesExactly p old.visit y depends → decision_of r ≡ x → RestsOn old new told.tags told.contexts told.max_age → Made p old.visit x [] [] (needs_of told.tags told.contexts) → Renders p old (decision_of r) new
taken_in p old new x y r told depends same lasts exact e rests made =
    decided p old new x r told.tags told.contexts e (subst (λ a. RestsOn old new told.tags told.contexts a) permanent rests) made
    (subst (λ c. SameMembers (met p old.visit).tags c.tags) (sym same) (members (met p old.visit).tags depends.tags exact.tags))
    (subst (λ c. SameMembers (met p old.visit).contexts c.contexts) (sym same) (members (met p old.visit).contexts depends.contexts exact.contexts))
    (exact.age ∙ lasts)
  where
    permanent : told.max_age ≡ Permanent
    permanent = ap (λ c. c.max_age) same ∙ lasts
