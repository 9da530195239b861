-- Libraries that are noted one after the other.
use Rattle.std.proofs.Common.{ℕ, List, [], ◌∷◌, ◌≡◌, ◌∙◌, ap, sym, refl, Bool, true, false, ◌||◌, drop, length, if◌then◌else◌}
use Rattle.std.specs.List.{list_any}
use Rattle.content_state.specs.declared.element.Library.{Library}
use Rattle.content_state.specs.declared.element.Library.TheVariants as library
use Rattle.render_array.specs.Shown.{meta_if, meta_line, same_library}
use Rattle.renderer.specs.declared.assembling.Noted.{Noted}
use Rattle.renderer.specs.Noted.{is_noted, none_noted, noted_line, with_noted}

-- what is noted so far, or is still to be
abbrev pub AreToBe : Noted → List Library → List Library → Type 0
AreToBe noted rest all = (l : Library) → (is_noted noted l || list_any (same_library l) rest) ≡ list_any (same_library l) all

pub none_is : (all : List Library) → AreToBe none_noted all all
none_is all library.Clock = refl
none_is all library.Comment = refl
none_is all library.Login = refl
none_is all library.Menu = refl
none_is all library.Node = refl
none_is all library.Pager = refl

of_both : (noted : Noted) (one l : Library) → is_noted (with_noted noted one) l ≡ (same_library l one || is_noted noted l)
of_both noted one library.Clock = refl
of_both noted one library.Comment = refl
of_both noted one library.Login = refl
of_both noted one library.Menu = refl
of_both noted one library.Node = refl
of_both noted one library.Pager = refl

swapped : (a b c : Bool) → ((a || b) || c) ≡ (b || (a || c))
swapped true true c = refl
swapped true false c = refl
swapped false true c = refl
swapped false false c = refl

pub one_more : (noted : Noted) (one : Library) (rest all : List Library) → AreToBe noted (one ∷ rest) all → AreToBe (with_noted noted one) rest all
one_more noted one rest all so l =
    ap (λ (b : Bool). b || list_any (same_library l) rest) (of_both noted one l) ∙ swapped (same_library l one) (is_noted noted l) (list_any (same_library l) rest) ∙ so l

or_false : (b : Bool) → (b || false) ≡ b
or_false true = refl
or_false false = refl

pub all_are : (noted : Noted) (all : List Library) → AreToBe noted [] all → (l : Library) → is_noted noted l ≡ list_any (same_library l) all
all_are noted all so l = sym (or_false (is_noted noted l)) ∙ so l

pub line_is : (noted : Noted) (all : List Library) (l : Library) → is_noted noted l ≡ list_any (same_library l) all → noted_line noted l ≡ meta_if all l
line_is noted all l same = ap (λ (b : Bool). if b then meta_line l else []) same
