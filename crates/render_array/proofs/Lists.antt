-- What proofs of builders of lists apply: what is gathered on the way, and plans over what is given by an equation.
use Rattle.std.proofs.Common.{List, [], ◌≡◌, sym, ap, subst, Bool, true, false}
use Rattle.std.specs.Prelude.{Result, Ok, Err, if◌then◌else◌}
use Rattle.std.specs.Result.{is_err, is_ok}
use Rattle.content_state.specs.Plan.{Plan, Done, folded}
use Rattle.render_canvas.specs.Canvas.{Sheet, Renders}
use Rattle.render_canvas.proofs.Run.{given_by, folded_none}

-- one more, where a test is passed
pub gathered : {A : Type 0} {b : Bool} {more : A} (less : A) {z : A} {old new : Sheet} → b ≡ true → Renders (Done more) old z new → Renders (Done (if b then more else less)) old z new
gathered {more = more} less {z = z} {old = old} {new = new} e r = subst (λ v. Renders (Done (if v then more else less)) old z new) (sym e) r

-- no more, where it is not
pub passed_over : {A : Type 0} {b : Bool} (more : A) {less : A} {old : Sheet} → b ≡ false → Renders (Done (if b then more else less)) old less old
passed_over more {less = less} e = given_by (ap (λ v. if v then more else less) e)

-- what a push gives where it is no error
pub pushed : {T E A : Type 0} (r : Result T E) {more : A} (less : A) {new : A} → is_err r ≡ false → new ≡ (if is_ok r then more else less) → more ≡ new
pushed (Ok x) less no_error is = sym is
pushed (Err x) less no_error is = absurd (true_is_false no_error)
  where
    true_is_false : true ≡ false → ⊥
    true_is_false e = cc

-- nothing gathered yet
pub none_yet : {A B : Type 0} (f : List B → A → Plan (List B)) {bs : List B} {old : Sheet} → bs ≡ [] → Renders (folded f [] []) old bs old
none_yet f {old = old} e = subst (λ b. Renders (folded f [] []) old b old) (sym e) (folded_none f)

-- a plan over what is given by an equation
pub over : {A B : Type 0} (p : B → Plan A) {b c : B} {x : A} {old new : Sheet} → Renders (p b) old x new → b ≡ c → Renders (p c) old x new
over p {x = x} {old = old} {new = new} run e = subst (λ d. Renders (p d) old x new) e run
