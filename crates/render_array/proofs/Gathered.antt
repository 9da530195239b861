-- What proofs of builders of JSON apply: what is gathered behind references, and the value of a field.
use Rattle.std.proofs.Common.{ℕ, List, [], ◌∷◌, ◌++◌, ◌≡◌, refl, sym, ◌∙◌, ap, subst, Bool, true, false, Option, Some, None, Bor}
use Rattle.std.specs.Prelude.{cond, map, option_map, unwrap_or, Result}
use Rattle.std.specs.List.{find}
use Rattle.std.specs.Option.{option_copied}
use Rattle.std.specs.Result.{is_err, is_ok}
use Rattle.std.specs.Prelude.{if◌then◌else◌}
use Rattle.std.specs.Str.{bytes_eq}
use Rattle.std.proofs.lemmas.Slice.Eq.{bytes_eq-Decides}
use Rattle.content_rows.specs.declared.row.FieldValue.{FieldValue}
use Rattle.content_rows.specs.declared.row.Node.{Node}
use Rattle.content_state.specs.Plan.{Plan, folded}
use Rattle.render_canvas.specs.Canvas.{Sheet, Renders}
use Rattle.render_canvas.proofs.Run.{folded_none}
use Rattle.render_array.specs.Nodes.{field_value}
use Rattle.render_array.proofs.Lists.{pushed}

mapped_more : {A B : Type 0} (g : A → B) (xs : List A) (y : A) → map g (xs ++ y ∷ []) ≡ map g xs ++ g y ∷ []
mapped_more g [] y = refl
mapped_more g (x ∷ xs) y = ap (λ l. g x ∷ l) (mapped_more g xs y)

-- what a push gives where it is no error, each item seen as another
pub pushed_seen : {T E A B : Type 0} (g : A → B) (r : Result T E) (old : List A) (x : A) {new : List A} → is_err r ≡ false → new ≡ (if is_ok r then old ++ x ∷ [] else old) → map g old ++ g x ∷ [] ≡ map g new
pushed_seen g r old x no_error is = sym (mapped_more g old x) ∙ ap (map g) (pushed r old no_error is)

-- nothing gathered yet
pub none_seen : {A B C : Type 0} (g : A → B) (f : List B → C → Plan (List B)) {xs : List A} {old : Sheet} → xs ≡ [] → Renders (folded f [] []) old (map g xs) old
none_seen g f {old = old} e = subst (λ l. Renders (folded f [] []) old (map g l) old) (sym e) (folded_none f)

-- ---- the value of a field

first_passes : (test : FieldValue → Bool) (b : Bool) (x value : FieldValue) (o : Option FieldValue) → test x ≡ b → cond b (Some x) o ≡ Some value → (o ≡ Some value → test value ≡ true) → test value ≡ true
first_passes test true x value o e is rest =
    let same : x ≡ value = cc in subst (λ v. test v ≡ true) same e
first_passes test false x value o e is rest = rest is

found_passes : (test : FieldValue → Bool) (values : List FieldValue) (value : FieldValue) → find test values ≡ Some value → test value ≡ true
found_passes test [] value is = absurd cc
found_passes test (x ∷ values) value is = first_passes test (test x) x value (find test values) refl is (found_passes test values value)

pub has_name : (values : List FieldValue) (name : List ℕ) (value : FieldValue) → find (λ v. bytes_eq v.name name) values ≡ Some value → value.name ≡ name
has_name values name value is = (bytes_eq-Decides value.name name).0 (found_passes (λ v. bytes_eq v.name name) values value is)

-- where a value has the name of the field, the field has the first of them, and else an empty one
pub valued : {A : Type 0} (p : List ℕ → List ℕ → Plan A) (node : Node) (name : List ℕ) (value : FieldValue) {x : A} {old new : Sheet} → find (λ v. bytes_eq v.name name) node.fields ≡ Some value → Renders (p value.name value.value) old x new → Renders (p name (field_value node name)) old x new
valued p node name value {x = x} {old = old} {new = new} is run =
    subst (λ k. Renders (p k (field_value node name)) old x new) (has_name node.fields name value is)
    (subst (λ o. Renders (p value.name (unwrap_or (option_map (λ f. f.value) o) [])) old x new) (sym is) run)

pub valueless : {A : Type 0} (p : List ℕ → List ℕ → Plan A) (node : Node) (name : List ℕ) {x : A} {old new : Sheet} → find (λ v. bytes_eq v.name name) node.fields ≡ None → Renders (p name []) old x new → Renders (p name (field_value node name)) old x new
valueless p node name {x = x} {old = old} {new = new} is run =
    subst (λ o. Renders (p name (unwrap_or (option_map (λ f. f.value) o) [])) old x new) (sym is) run
