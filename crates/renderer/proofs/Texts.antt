-- Texts of pieces whose places are filled, and the lines of libraries.
use Rattle.std.proofs.Common.{ℕ, zero, suc, List, [], ◌∷◌, ◌++◌, ◌≡◌, refl, sym, ◌∙◌, ap, subst, append_assoc, arith, Bool, true, false, Contains}
use Rattle.std.specs.List.{flat_map, list_any}
use Rattle.std.specs.Prelude.{◌||◌, if◌then◌else◌}
use Rattle.html_out.specs.Part.{Part, Text, Hole as Open}
use Rattle.content_state.specs.declared.element.Hole.{Hole}
use Rattle.content_state.specs.declared.element.Hole.TheVariants.{Meta, Fragment}
use Rattle.content_state.specs.declared.element.Library.{Library}
use Rattle.content_state.specs.Plan.{Piece, bytes}
use Rattle.content_state.specs.Places.{SameMembers}
use Rattle.render_canvas.specs.Board.{pieces_of}
use Rattle.render_array.specs.Shown.{meta_if, meta_line, meta_text, same_library, all_libraries, OnlyMeta, IsFilled}
use Rattle.renderer.specs.Filled.{text_of}

-- bytes before what is filled
filled_after : (meta bs : List ℕ) (ps : List Piece) (text : List ℕ) → IsFilled meta ps text → IsFilled meta (bytes bs ++ ps) (bs ++ text)
filled_after meta [] ps text filled = filled
filled_after meta (b ∷ bs) ps text filled = (bs ++ text, refl, filled_after meta bs ps text filled)

only_after : (bs : List ℕ) (ps : List Piece) → OnlyMeta (bytes bs ++ ps) → OnlyMeta ps
only_after [] ps only = only
only_after (b ∷ bs) ps only = only_after bs ps only

-- parts are filled by their text, with the lines of the libraries at their place
pub filled_by_text : (meta : List ℕ) (parts : List (Part Hole)) → OnlyMeta (pieces_of parts) → IsFilled meta (pieces_of parts) (text_of meta parts)
filled_by_text meta [] only = refl
filled_by_text meta (Text bs ∷ parts) only =
    filled_after meta bs (pieces_of parts) (text_of meta parts) (filled_by_text meta parts (only_after bs (pieces_of parts) only))
filled_by_text meta (Open Meta ∷ parts) only = (text_of meta parts, refl, filled_by_text meta parts only)
filled_by_text meta (Open (Fragment f) ∷ parts) only = only

pub filled_parts : (given meta : List ℕ) (parts : List (Part Hole)) (text : List ℕ) → given ≡ meta → text ≡ text_of given parts → OnlyMeta (pieces_of parts) → IsFilled meta (pieces_of parts) text
filled_parts given meta parts text m e only =
    subst (λ n. IsFilled n (pieces_of parts) text) m
    (subst (λ t. IsFilled given (pieces_of parts) t) (sym e) (filled_by_text given parts only))

-- lists of libraries with the same members have the same lines
not_both : false ≡ true → ⊥
not_both e = cc

any_has : (p : Library → Bool) (xs : List Library) (x : Library) → Contains xs x → p x ≡ true → list_any p xs ≡ true
any_has p [] x h is = absurd (let l = h.1 in omega arith)
any_has p (y ∷ xs) x (zero, l, e) is = first (p y) (ap p e ∙ is) (list_any p xs)
  where
    first : (b : Bool) → b ≡ true → (rest : Bool) → (b || rest) ≡ true
    first true e rest = refl
    first false e rest = absurd (not_both e)
any_has p (y ∷ xs) x (suc i, l, e) is = later (p y) (any_has p xs x (i, (omega arith), e) is)
  where
    later : (b : Bool) {rest : Bool} → rest ≡ true → (b || rest) ≡ true
    later true e = refl
    later false e = e

found_in : (p : Library → Bool) (y : Library) (xs : List Library) (b : Bool) → p y ≡ b → (b || list_any p xs) ≡ true → (list_any p xs ≡ true → (x : Library) × Contains xs x × (p x ≡ true)) → (x : Library) × Contains (y ∷ xs) x × (p x ≡ true)
found_in p y xs true is e rest = (y, (0, omega arith, refl), is)
found_in p y xs false is e rest = let r = rest e in (r.0, (suc (r.1).0, (let l = (r.1).1 in omega arith), (r.1).2), r.2)

any_found : (p : Library → Bool) (xs : List Library) → list_any p xs ≡ true → (x : Library) × Contains xs x × (p x ≡ true)
any_found p [] e = absurd (not_both e)
any_found p (y ∷ xs) e = found_in p y xs (p y) refl e (λ r. any_found p xs r)

same_bool : (a b : Bool) → (a ≡ true → b ≡ true) → (b ≡ true → a ≡ true) → a ≡ b
same_bool true b there back = sym (there refl)
same_bool false true there back = back refl
same_bool false false there back = refl

same_any : (p : Library → Bool) (xs ys : List Library) → SameMembers xs ys → list_any p xs ≡ list_any p ys
same_any p xs ys same =
    same_bool (list_any p xs) (list_any p ys)
    (λ e. let f = any_found p xs e in any_has p ys f.0 (same.there f.0 f.1) f.2)
    (λ e. let f = any_found p ys e in any_has p xs f.0 (same.back f.0 f.1) f.2)

same_lines : (xs ys ls : List Library) → SameMembers xs ys → flat_map (meta_if xs) ls ≡ flat_map (meta_if ys) ls
same_lines xs ys [] same = refl
same_lines xs ys (l ∷ ls) same =
    ap (λ b. (if b then meta_line l else []) ++ flat_map (meta_if xs) ls) (same_any (same_library l) xs ys same)
    ∙ ap (λ t. meta_if ys l ++ t) (same_lines xs ys ls same)

pub same_meta : (xs ys : List Library) → SameMembers xs ys → meta_text xs ≡ meta_text ys
unfolding meta_text
same_meta xs ys same = same_lines xs ys all_libraries same

-- three texts, one after another
pub three : (t a b b' d x y z : List ℕ) → x ≡ t ++ a → y ≡ x ++ b → b ≡ b' → z ≡ y ++ d → z ≡ t ++ (a ++ b' ++ d)
three t a b b' d x y z e f same g =
    g ∙ ap (λ u. u ++ d) (f ∙ ap (λ u. u ++ b) e ∙ append_assoc t a b) ∙ append_assoc t (a ++ b) d ∙ ap (λ u. t ++ (a ++ u ++ d)) same
